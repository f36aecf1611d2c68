-- Whether a text names a capacity.
use Rattle.std.proofs.Common.{◌≡◌, Bool, true, false, not, ℕ, List, Option, Some, None, refl, sym, ap, ◌∙◌}
use Rattle.std.specs.Prelude.{◌↔◌, IsTrue}
use Rattle.toml.specs.Data.{Members, table}
use Rattle.toml.specs.Parse.{parse_document}
use Rattle.journal_files.specs.Texts.{NamesNoCapacity, names_some_capacity}
use Rattle.journal_files.proofs.OneConfig.{same_members}

is_not : (b : Bool) → not b ≡ true → b ≡ false
is_not true e = cc
is_not false e = refl

-- its document has the answer
pub found_capacity : (text : List ℕ) (members : Members) (some : Bool) → parse_document text ≡ Some members → some ≡ names_some_capacity (table members) → IsTrue (not some) ↔ NamesNoCapacity text
found_capacity text members some is same = (
  λ so other e. ap (λ (m : Members). names_some_capacity (table m)) (same_members text other members e is) ∙ (sym same ∙ is_not some so),
  λ none. ap not (same ∙ none members is),
)

-- a text without a document names none
pub no_document : (text : List ℕ) → parse_document text ≡ None → IsTrue true ↔ NamesNoCapacity text
no_document text none = (
  λ _ members e. (let h : None ≡ Some members = sym none ∙ e in cc),
  λ _. refl,
)
