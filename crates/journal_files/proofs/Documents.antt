-- Records as they are viewed.
use Rattle.std.proofs.Common.{◌≡◌, Bool, ◌||◌, List, [], ◌∷◌, map, refl, sym, ap, ◌∙◌}
use Rattle.std.specs.List.{list_any}

pub any_viewed : {A B : Type 0} (p : B → Bool) (f : A → B) (xs : List A) (ys : List B) → map f xs ≡ ys → list_any (λ x. p (f x)) xs ≡ list_any p ys
any_viewed {A} p f xs ys e = by_items xs ∙ ap (list_any p) e where
  by_items : (xs : List A) → list_any (λ x. p (f x)) xs ≡ list_any p (map f xs)
  by_items [] = refl
  by_items (x ∷ xs) = ap (λ (b : Bool). p (f x) || b) (by_items xs)
