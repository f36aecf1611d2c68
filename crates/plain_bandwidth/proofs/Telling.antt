-- Answers about rows, and what they mean.
use Rattle.std.specs.Prelude.{◌≡◌, ◌↔◌, Bool, true, List}
use Rattle.std.specs.List.{AllByRecursion}
use Rattle.std.proofs.Common.{sym, subst}

-- what is told of rows, where they are those of a list of which something else says the same
pub told : {A : Type 0} (P : A → Type 0) (b : Bool) (rows all : List A) (X : Type 0) → rows ≡ all → ((b ≡ true) ↔ AllByRecursion P rows) → (AllByRecursion P all ↔ X) → (b ≡ true) ↔ X
told P b rows all X is answer means =
    (λ passes. means.0 (subst (AllByRecursion P) is (answer.0 passes)), λ x. answer.1 (subst (AllByRecursion P) (sym is) (means.1 x)))
