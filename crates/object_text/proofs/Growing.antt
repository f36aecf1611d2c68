-- A text that grew by one piece, and then by more; and by what stands there for each row.
use Rattle.std.proofs.Common.{◌≡◌, ℕ, List, [], ◌∷◌, ◌++◌, sym, ap, ◌∙◌, append_assoc, append-nil}
use Rattle.std.proofs.lemmas.List.Concat.{flat_map-append}
use Rattle.std.proofs.lemmas.Result.{on_ok_weaker}
use Rattle.std.specs.List.{flat_map}
use Rattle.std.specs.Prelude.{OnOk, Result}

pub grown_on : {T E : Type 0} (r : Result T E) (old mid new first rest : List ℕ) → mid ≡ old ++ first → OnOk r (new ≡ mid ++ rest) → OnOk r (new ≡ old ++ (first ++ rest))
grown_on r old mid new first rest e = on_ok_weaker r (λ h. h ∙ ap (λ l. l ++ rest) e ∙ append_assoc old first rest)

flat_push : {A : Type 0} (f : A → List ℕ) (xs : List A) (x : A) → flat_map f (xs ++ (x ∷ [])) ≡ flat_map f xs ++ f x
flat_push f xs x = flat_map-append f xs (x ∷ []) ∙ ap (λ l. flat_map f xs ++ l) (append-nil (f x))

-- rows that have their lines after what stood there before the first, and one more
pub rows_push_after : {A : Type 0} (line : A → List ℕ) (start old new : List ℕ) (before after : List A) (row : A) → old ≡ start ++ flat_map line before → new ≡ old ++ line row → after ≡ before ++ (row ∷ []) → new ≡ start ++ flat_map line after
rows_push_after line start old new before after row e f g =
    f ∙ ap (λ l. l ++ line row) e ∙ append_assoc start (flat_map line before) (line row) ∙ ap (λ l. start ++ l) (sym (flat_push line before row) ∙ ap (flat_map line) (sym g))
