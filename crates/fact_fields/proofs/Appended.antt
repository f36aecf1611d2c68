-- What is appended, piece by piece.
use Rattle.std.proofs.Common.{◌≡◌, ◌++◌, List, ap, ◌∙◌}
use Rattle.std.proofs.lemmas.List.{append_assoc}

-- one piece, and then one more
pub more_appended : {A : Type 0} (out once twice x y : List A) → once ≡ out ++ x → twice ≡ once ++ y → twice ≡ out ++ (x ++ y)
more_appended {A} out once twice x y p q = q ∙ (ap (λ (v : List A). v ++ y) p ∙ append_assoc out x y)
