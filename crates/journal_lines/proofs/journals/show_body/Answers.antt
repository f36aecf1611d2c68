-- The router's id, and what is shown after it.
use Rattle.std.proofs.Common.{◌≡◌, [], IfOk, List, ℕ, inl, inr, refl, subst}
use Rattle.std.specs.Io.KnownBytes.{Appends}
use Rattle.std.proofs.KnownBytes.{Appends-nil}
use Rattle.field_bytes.specs.Spelling.{IsCountable, octet_bytes}
use Rattle.lsr_config.specs.Configs.{Setup}
use Rattle.journal_lines.specs.Journals.{ShowsBase, ShowsBody, router_line}
use Rattle.journal_lines.proofs.Showing.{found_at, found_config, no_config, none_at, shown_after}
use Rattle.journal_lines.proofs.journals.show_body.Goals as goal

pub returns-in_default : goal.returns-in_default
returns-in_default g c =
    ([], inr (inl (none_at (λ (text : List ℕ). IsCountable text) octet_bytes c.args.bytes.now c.read.result _ c.read.ensures c.in_ok-text.ensures c.in_default.not-Some), refl, c.breaks.ensures), Appends-nil _)

pub returns-in_default-2 : goal.returns-in_default-2
returns-in_default-2 g c =
    let text : c.as_slice.result.now ≡ c.in-Some.text = cc c.as_slice.ensures in
    let at = found_at (λ (text : List ℕ). IsCountable text) octet_bytes c.args.bytes.now c.read.result _ c.in-Some.text c.in-Some.rest c.read.ensures c.in_ok-text.ensures c.in-Some.is in
    let none = no_config c.args.format c.in-Some.text c.as_slice.result.now c.config_of.result _ text c.config_of.ensures c.in_ok-config.ensures c.in_default-2.not-Some in
    ([], inr (inr (c.in-Some.text, c.in-Some.rest.now, at, none), refl, c.breaks-in_default-2.ensures), Appends-nil _)

pub returns : goal.returns
returns g c =
    let text : c.as_slice.result.now ≡ c.in-Some.text = cc c.as_slice.ensures in
    let at = found_at (λ (text : List ℕ). IsCountable text) octet_bytes c.args.bytes.now c.read.result _ c.in-Some.text c.in-Some.rest c.read.ensures c.in_ok-text.ensures c.in-Some.is in
    let says = found_config c.args.format c.in-Some.text c.as_slice.result.now c.config_of.result _ c.in-Some-2.config text c.config_of.ensures c.in_ok-config.ensures c.in-Some-2.is in
    let told = subst (λ (s : Setup). Appends (g.W.Write.contents c.args.output.now) (g.W.Write.contents c.write.new.self) (router_line s.router)) c.config.view_is c.in_ok-write.ensures.bytes in
    let base = subst (λ (s : Setup). IfOk c.show_base.result (λ broken. (text : List ℕ) × ShowsBase s.router c.args.format c.in-Some.rest.now text broken × Appends (g.W.Write.contents c.write.new.self) (g.W.Write.contents c.show_base.new.output) text))
    c.config.view_is c.show_base.ensures in
    shown_after (ShowsBase c.in-Some-2.config.router c.args.format c.in-Some.rest.now) (ShowsBody c.args.format c.args.bytes.now) c.show_base.result (router_line c.in-Some-2.config.router) _ _ _ told
    (λ more broken shown. inl (c.in-Some.text, c.in-Some.rest.now, c.in-Some-2.config, more, at, says, shown, refl)) base
