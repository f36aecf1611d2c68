-- Laws of the moments at which wanted items were sent last: exactly what is wanted has one.
use Rattle.std.specs.Prelude.{◌≡◌, ℕ, Bool, true, false, cond, T, List, [], ◌∷◌, map, filter, Option, Some, None, is_some}
use Rattle.std.specs.Bool.{then_some}
use Rattle.std.specs.Cmp.{IsTotalOrder}
use Rattle.std.specs.FinMap.Entries.{find, is_sorted, is_some-find}
use Rattle.std.specs.Option.{option_and_then, option_map, option_map_or}
use Rattle.std.specs.Ordering.{eq_by_cmp, is_eq}
use Rattle.std.specs.declared.cmp.Ordering.{Ordering}
use Rattle.std.specs.declared.cmp.Ordering.TheVariants.{Less, Equal, Greater}
use Rattle.std.proofs.Common.{refl, sym, ap, ◌∙◌}
use Rattle.sorted_rows.specs.Rows.{keys_of}
use Rattle.sorted_rows.specs.RowsLaws.{find-filter}
use Rattle.lsr_facts.specs.Lifetimes.{due_items, has_waited}
use Rattle.abstract_paths.specs.declared.events.Output.{Output}
use Rattle.abstract_paths.specs.Outputs.{is_due}
use Rattle.abstract_paths.specs.RowLaws.{keys-map}
use Rattle.abstract_paths.specs.Stamps.{stamp, stamps}

-- what `is_eq` says
pub ties : (o : Ordering) → is_eq o ≡ true → o ≡ Equal
ties Less p = cc
ties Equal p = refl
ties Greater p = cc

-- what is found where each row has another value
pub find-map_row : {K X Y : Type 0} (cmp : K → K → Ordering) → ((x y : K) → cmp x y ≡ Equal → x ≡ y) → (f : K × X → Y) (q : K) (es : List (K × X)) → find cmp q (map (λ e. (e.0, f e)) es) ≡ option_map (λ v. f (q, v)) (find cmp q es)
find-map_row cmp exact f q [] = refl
find-map_row cmp exact f q (e ∷ es) =
    elim (eq_by_cmp cmp q e.0) as (λ b. eq_by_cmp cmp q e.0 ≡ b → cond b (Some (f e)) (find cmp q (map (λ row. (row.0, f row)) es)) ≡ option_map (λ v. f (q, v)) (cond b (Some e.1) (find cmp q es))) [
      | true ↦ λ t. ap (λ k. Some (f (k, e.1))) (sym (exact q e.0 (ties _ t)))
      | false ↦ λ t. find-map_row cmp exact f q es
    ] refl

-- nothing is there where nothing is said to be
pub none-is : {A : Type 0} (o : Option A) → is_some o ≡ false → o ≡ None
none-is None e = refl
none-is (Some x) e = absurd (let f = e in cc)

-- a value that may be kept is there where it is kept
kept : {A : Type 0} (p : A → Bool) (o : Option A) → is_some (option_and_then (λ v. then_some (p v) v) o) ≡ option_map_or p o false
kept p None = refl
kept p (Some v) = elim (p v) as (λ b. is_some (then_some b v) ≡ b) [ true ↦ refl | false ↦ refl ]

module _ {I : Type 0} (cmp : I → I → Ordering) where
  -- Exactly what is wanted has a moment.
  pub keys-stamps : (due : List I) (was : List (I × Output)) (sent : List (I × ℕ)) (now : ℕ) (is : List (I × Output)) → keys_of (stamps cmp due was sent now is) ≡ keys_of is
  keys-stamps due was sent now is = keys-map (stamp cmp due was sent now) is

  -- the moment that is found of an item
  pub find-stamps : ((x y : I) → cmp x y ≡ Equal → x ≡ y) → (due : List I) (was : List (I × Output)) (sent : List (I × ℕ)) (now : ℕ) (is : List (I × Output)) (item : I) → find cmp item (stamps cmp due was sent now is) ≡ option_map (λ o. stamp cmp due was sent now (item, o)) (find cmp item is)
  find-stamps exact due was sent now is item = find-map_row cmp exact (stamp cmp due was sent now) item is

  -- An item is due where it was sent last a refresh period ago or longer.
  pub is_due-due_items : IsTotalOrder cmp → (refresh_ms : ℕ) (sent : List (I × ℕ)) (moment : ℕ) (item : I) → T (is_sorted cmp sent) → is_due cmp (due_items refresh_ms sent moment) item ≡ option_map_or (λ at. has_waited refresh_ms at moment) (find cmp item sent) false
  is_due-due_items total refresh_ms sent moment item h =
      let old = λ (row : I × ℕ). has_waited refresh_ms row.1 moment in
      sym (is_some-find cmp item (filter old sent))
      ∙ ap is_some (find-filter cmp total old item (λ x v tied. refl) sent h)
      ∙ kept (λ at. has_waited refresh_ms at moment) (find cmp item sent)
