-- What marks say of rows, and how they change with them.
use Rattle.std.proofs.Common.{◌≡◌, ◌≢◌, ◌⊎◌, inl, inr, ℕ, zero, suc, true, false, cond, eqb, List, [], ◌∷◌, map, length, get_or, set, Option, Some, None, refl, sym, ap, subst, ◌∙◌}
use Rattle.std.proofs.lemmas.Bool.Decides.{eqb_tells}
use Rattle.std.proofs.lemmas.List.{length-set}
use Rattle.std.specs.Cmp.{IsTotalOrder, tied_back}
use Rattle.std.specs.FinMap.Entries.{find}
use Rattle.std.specs.Ordering.{is_eq}
use Rattle.std.specs.declared.cmp.Ordering.{Ordering}
use Rattle.std.specs.declared.cmp.Ordering.TheVariants.{Less, Equal, Greater}
use Rattle.slab.specs.Slab.{Slab, Updates, get}
use Rattle.slot_rows.specs.Marks.{Admits, IsMarked, mark_of, mark_place}
use Rattle.slot_rows.specs.declared.marks.Mark.{Mark}
use Rattle.slot_rows.specs.declared.marks.Mark.TheVariants.{Shared}
use Rattle.slot_rows.specs.declared.marks.Marks.{Marks}

-- what was set at a place within is there; past the end nothing is
set_there : (P : Mark → Type 0) (marks : List Mark) (place : ℕ) (mark : Mark) → P mark → P (Shared 0) → P (get_or (set marks place mark) place (Shared 0))
set_there P [] place mark own past = past
set_there P (m ∷ marks) zero mark own past = own
set_there P (m ∷ marks) (suc place) mark own past = set_there P marks place mark own past

-- a place keeps what holds of its mark, where it holds of the new mark too if that is set there
set_keeps : (P : Mark → Type 0) (marks : List Mark) (place at : ℕ) (mark : Mark) → P (Shared 0) → (P (get_or marks place (Shared 0)) → P mark) → P (get_or marks at (Shared 0)) → P (get_or (set marks place mark) at (Shared 0))
set_keeps P [] place at mark past same was = past
set_keeps P (m ∷ marks) zero zero mark past same was = same was
set_keeps P (m ∷ marks) zero (suc at) mark past same was = was
set_keeps P (m ∷ marks) (suc place) zero mark past same was = was
set_keeps P (m ∷ marks) (suc place) (suc at) mark past same was = set_keeps P marks place at mark past same was

module _ (old new : Marks) (number : ℕ) (mark : Mark) (written : new.by_place.items ≡ set old.by_place.items (mark_place number (length old.by_place.items)) mark) where
  many : length new.by_place.items ≡ length old.by_place.items
  many = ap length written ∙ length-set old.by_place.items (mark_place number (length old.by_place.items)) mark

  -- the mark that was written is that of its number
  pub admits_own : (slot : ℕ) → Admits mark slot → Admits (mark_of new number) slot
  admits_own slot own =
      subst (λ (count : ℕ). Admits (get_or new.by_place.items (mark_place number count) (Shared 0)) slot) (sym many) (subst (λ (marks : List Mark). Admits (get_or marks (mark_place number (length old.by_place.items)) (Shared 0)) slot) (sym written) (set_there (λ m. Admits m slot) old.by_place.items (mark_place number (length old.by_place.items)) mark own tt))

  -- what another mark admits it still admits, if the written one admits what that of its number did
  pub admits_still : (n slot : ℕ) → (Admits (mark_of old number) slot → Admits mark slot) → Admits (mark_of old n) slot → Admits (mark_of new n) slot
  admits_still n slot same was =
      subst (λ (count : ℕ). Admits (get_or new.by_place.items (mark_place n count) (Shared 0)) slot) (sym many) (subst (λ (marks : List Mark). Admits (get_or marks (mark_place n (length old.by_place.items)) (Shared 0)) slot) (sym written) (set_keeps (λ m. Admits m slot) old.by_place.items (mark_place number (length old.by_place.items)) (mark_place n (length old.by_place.items)) mark tt same was))

module _ {K : Type 0} (cmp : K → K → Ordering) (total : IsTotalOrder cmp) (q : K) where
  untied : (x : K) → (cmp x q ≡ Equal → ⊥) → is_eq (cmp q x) ≡ false
  untied x h =
      elim (cmp q x) as (λ o. cmp q x ≡ o → is_eq o ≡ false) [ Less ↦ λ e. refl | Equal ↦ λ e. absurd (h (tied_back total q x e)) | Greater ↦ λ e. refl ] refl

  -- no place has a row whose key ties: none is found
  pub not_found : {X : Type 0} (of : ℕ → Option (K × X)) → ((slot : ℕ) (row : K × X) → of slot ≡ Some row → cmp row.0 q ≡ Equal → ⊥) → (order : List ℕ) (rows : List (K × X)) → map of order ≡ map Some rows → find cmp q rows ≡ None
  not_found of none [] [] h = refl
  not_found of none [] (row ∷ rows) h = cc
  not_found of none (o ∷ order) [] h = refl
  not_found of none (o ∷ order) (row ∷ rows) h =
      let here : of o ≡ Some row = cc in
      let rest : map of order ≡ map Some rows = cc in
      ap (λ b. cond b (Some row.1) (find cmp q rows)) (untied row.0 (none o row here))
      ∙ not_found of none order rows rest

module _ {K X : Type 0} (number : K → ℕ) where
  -- one slot changed, and the marks admit its row and what they did
  pub marked_after : (s t : Slab (K × X)) (marks now : Marks) (at : ℕ) → IsMarked number marks s → ((other : ℕ) → other ≢ at → get t other ≡ get s other) → ((row : K × X) → get t at ≡ Some row → Admits (mark_of now (number row.0)) at) → ((n other : ℕ) → other ≢ at → Admits (mark_of marks n) other → Admits (mark_of now n) other) → IsMarked number now t
  marked_after s t marks now at marked others own still slot row is = by_cases (eqb_tells slot at)
    where
      by_cases : ((eqb slot at ≡ true) × (slot ≡ at)) ⊎ ((eqb slot at ≡ false) × (slot ≢ at)) → Admits (mark_of now (number row.0)) slot
      by_cases (inl same) =
          subst (λ (o : ℕ). Admits (mark_of now (number row.0)) o) (sym same.1) (own row (ap (get t) (sym same.1) ∙ is))
      by_cases (inr apart) =
          still (number row.0) slot apart.1 (marked slot row (sym (others slot apart.1) ∙ is))

  -- a slot's value was set
  pub marked_written : (s t : Slab (K × X)) (marks : Marks) (at : ℕ) (row : K × X) (v : X) → IsMarked number marks s → get s at ≡ Some row → Updates s t at (Some (row.0, v)) → IsMarked number marks t
  marked_written s t marks at row v marked was updates =
      marked_after s t marks marks at marked updates.others (λ now is. let both : Some now ≡ Some (row.0, v) = sym is ∙ updates.changed in let same : now ≡ (row.0, v) = cc in subst (λ (r : K × X). Admits (mark_of marks (number r.0)) at) (sym same) (marked at row was)) (λ n other apart admits. admits)

  -- a row went
  pub marked_gone : (s t : Slab (K × X)) (marks now : Marks) (at : ℕ) → IsMarked number marks s → Updates s t at None → ((n other : ℕ) → other ≢ at → Admits (mark_of marks n) other → Admits (mark_of now n) other) → IsMarked number now t
  marked_gone s t marks now at marked updates still =
      marked_after s t marks now at marked updates.others (λ row is. let both : Some row ≡ None = sym is ∙ updates.changed in cc) still

  module _ (cmp : K → K → Ordering) (same : (a b : K) → cmp a b ≡ Equal → number a ≡ number b) (q : K) where
    -- a row came, or another value, under a key that ties
    pub marked_come : (s t : Slab (K × X)) (marks now : Marks) (at : ℕ) (row : K × X) → IsMarked number marks s → ((other : ℕ) → other ≢ at → get t other ≡ get s other) → get t at ≡ Some row → cmp row.0 q ≡ Equal → Admits (mark_of now (number q)) at → ((n other : ℕ) → Admits (mark_of marks n) other → Admits (mark_of now n) other) → IsMarked number now t
    marked_come s t marks now at row marked others there tie own still =
        marked_after s t marks now at marked others (λ r is. let both : Some r ≡ Some row = sym is ∙ there in let one : r ≡ row = cc in subst (λ (n : ℕ). Admits (mark_of now n) at) (sym (ap (λ (k : K × X). number k.0) one ∙ same row.0 q tie)) own) (λ n other apart. still n other)

    -- none that the mark admits has a row whose key ties: none has
    pub no_row : (s : Slab (K × X)) (marks : Marks) → IsMarked number marks s → ((slot : ℕ) (row : K × X) → get s slot ≡ Some row → cmp row.0 q ≡ Equal → Admits (mark_of marks (number q)) slot → ⊥) → (slot : ℕ) (row : K × X) → get s slot ≡ Some row → cmp row.0 q ≡ Equal → ⊥
    no_row s marks marked none slot row is tie =
        none slot row is tie (subst (λ (n : ℕ). Admits (mark_of marks n) slot) (same row.0 q tie) (marked slot row is))
