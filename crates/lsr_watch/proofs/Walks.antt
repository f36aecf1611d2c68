-- Rows that were walked place by place, and a key that was looked for at a place.
use Rattle.std.proofs.Common.{◌≡◌, ℕ, ◌+◌, ◌<◌, List, [], ◌∷◌, ◌++◌, true, ap, sym, ◌∙◌, take, length, get_or}
use Rattle.std.proofs.lemmas.List.{take_more}
use Rattle.std.specs.List.{flat_map}
use Rattle.std.specs.Prelude.{if◌then◌else◌, is_ok, OnOk, Result, Ok, Err}
use Rattle.std.specs.Ordering.{is_eq}
use Rattle.std.specs.declared.cmp.Ordering.{Ordering}
use Rattle.std.specs.declared.cmp.Ordering.TheVariants.{Equal}
use Rattle.object_text.proofs.Growing.{rows_push_after}
use Rattle.sorted_rows.specs.RowsLaws.{ties}

module _ {A : Type 0} where
  -- the row at the next place has its lines too
  pub place_more : (line : A → List ℕ) (start old new : List ℕ) (rows : List A) (i : ℕ) (row : A) → i < length rows → row ≡ get_or rows i row → old ≡ start ++ flat_map line (take i rows) → new ≡ old ++ line row → new ≡ start ++ flat_map line (take (i + 1) rows)
  place_more line start old new rows i row within is e f =
      rows_push_after line start old new (take i rows) (take (i + 1) rows) row e f (take_more rows i row within ∙ ap (λ (p : A). take i rows ++ p ∷ []) (sym is))

  -- the same, of the row as it is read
  pub place_more_at : (line : A → List ℕ) (start old new : List ℕ) (rows : List A) (i : ℕ) (row : A) → i < length rows → old ≡ start ++ flat_map line (take i rows) → new ≡ old ++ line (get_or rows i row) → new ≡ start ++ flat_map line (take (i + 1) rows)
  place_more_at line start old new rows i row within e f =
      rows_push_after line start old new (take i rows) (take (i + 1) rows) (get_or rows i row) e f (take_more rows i row within)

-- what holds of a text that grew where there was memory
pub grown_where_ok : {T E : Type 0} (r : Result T E) (new more same : List ℕ) → new ≡ (if is_ok r then more else same) → OnOk r (new ≡ more)
grown_where_ok (Ok x) new more same e = e
grown_where_ok (Err x) new more same e = tt

module _ {K V : Type 0} where
  -- the key of a row ties with the one that is looked for
  pub tied : (cmp : K → K → Ordering) (key : K) (row same : K × V) (o : Ordering) → row ≡ same → o ≡ cmp same.0 key → is_eq o ≡ true → cmp row.0 key ≡ Equal
  tied cmp key row same o e f t = ap (λ (r : K × V). cmp r.0 key) e ∙ sym f ∙ ties o t
