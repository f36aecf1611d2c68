-- Edits of rows, and labels that are freed, from the last one on.
use Rattle.std.specs.Prelude.{◌≡◌, ◌+◌, ◌<◌, ℕ, Bool, true, false, cond, List, [], ◌∷◌, ◌++◌, filter, length, take, Option, is_some}
use Rattle.std.specs.FinMap.Entries.{find, put}
use Rattle.std.specs.Ordering.{nat_cmp}
use Rattle.std.specs.declared.cmp.Ordering.{Ordering}
use Rattle.std.proofs.Common.{ap, append-nil, get_or, refl, sym, ◌∙◌}
use Rattle.std.proofs.lemmas.List.{map-append, take_more}
use Rattle.std.proofs.lemmas.List.Elements.{filter-append}
use Rattle.sorted_rows.specs.Rows.{values_of}
use Rattle.lsr_facts.specs.Orders.{key_cmp}
use Rattle.lsr_facts.specs.declared.key.Key.{Key}
use Rattle.label_space.specs.Rests.{freed_by, with_rest}
use Rattle.sorted_rows.specs.Edits.{at_key, edited}

-- The last of edits is made first.
pub edited_last : {K X : Type 0} (cmp : K → K → Ordering) (edits : List (K × Option X)) (last : K × Option X) (rows : List (K × X))
    → edited cmp (edits ++ last ∷ []) rows ≡ edited cmp edits (at_key cmp last.0 last.1 rows)
edited_last cmp [] last rows = refl
edited_last cmp (edit ∷ edits) last rows = ap (at_key cmp edit.0 edit.1) (edited_last cmp edits last rows)

-- The last of labels rests first.
rest-last : (until : ℕ) (labels : List ℕ) (last : ℕ) (resting : List (ℕ × ℕ)) → with_rest until (labels ++ last ∷ []) resting ≡ with_rest until labels (put nat_cmp last until resting)
rest-last until [] last resting = refl
rest-last until (label ∷ labels) last resting = ap (put nat_cmp label until) (rest-last until labels last resting)

-- the labels that are freed of rows with one more
freed-last : {X : Type 0} (edits : List (Key × X)) (rows : List (Key × ℕ)) (last : Key × ℕ) → freed_by edits (rows ++ last ∷ []) ≡ freed_by edits rows ++ cond (is_some (find key_cmp last.0 edits)) (last.1 ∷ []) []
freed-last {X} edits rows last =
    let named = λ (row : Key × ℕ). is_some (find key_cmp row.0 edits) in
    ap values_of (filter-append named rows (last ∷ []))
    ∙ map-append (λ (row : Key × ℕ). row.1) (filter named rows) (filter named (last ∷ []))
    ∙ ap (λ more. freed_by edits rows ++ more) (elim (named last) as (λ b. values_of (cond b (last ∷ []) []) ≡ cond b (last.1 ∷ []) []) [ true ↦ refl | false ↦ refl ])

-- One LSP more, from the last one on: its label rests where edits name it.
pub rest_one : {X : Type 0} (until : ℕ) (edits : List (Key × X)) (rows : List (Key × ℕ)) (at : ℕ) (row : Key × ℕ) (resting : List (ℕ × ℕ)) → at < length rows → row ≡ get_or rows at row
    → with_rest until (freed_by edits (take (at + 1) rows)) resting ≡ with_rest until (freed_by edits (take at rows)) (cond (is_some (find key_cmp row.0 edits)) (put nat_cmp row.1 until resting) resting)
rest_one until edits rows at row resting within is =
    let taken : take (at + 1) rows ≡ take at rows ++ row ∷ [] = take_more rows at row within ∙ ap (λ r. take at rows ++ r ∷ []) (sym is) in
    ap (λ some. with_rest until (freed_by edits some) resting) taken
    ∙ ap (λ labels. with_rest until labels resting) (freed-last edits (take at rows) row)
    ∙ by (is_some (find key_cmp row.0 edits))
  where
    by : (b : Bool) → with_rest until (freed_by edits (take at rows) ++ cond b (row.1 ∷ []) []) resting ≡ with_rest until (freed_by edits (take at rows)) (cond b (put nat_cmp row.1 until resting) resting)
    by true = rest-last until (freed_by edits (take at rows)) row.1 resting
    by false = ap (λ labels. with_rest until labels resting) (append-nil (freed_by edits (take at rows)))
