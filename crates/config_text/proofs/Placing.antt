-- What a text spells is one document.
use Rattle.std.proofs.Common.{◌≡◌, ℕ, List, Some, sym, ◌∙◌, subst}
use Rattle.std.proofs.lemmas.Option.{same_Some}
use Rattle.toml.specs.Data.{Members}
use Rattle.toml.specs.Parse.{parse_document}
use Rattle.config_text.specs.Places.{OfText}

pub of_known : (text : List ℕ) (P : Members → Type 0) (ms : Members) → parse_document text ≡ Some ms → OfText text P → P ms
of_known text P ms e (seen, spelled, p) = subst P (same_Some _ _ (sym spelled ∙ e)) p
