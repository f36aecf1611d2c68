-- At its turn an LSP that is given no bandwidth finds no room beside what came before it.
use Rattle.std.specs.Prelude.{◌≡◌, ◌⊎◌, ℕ, ◌&&◌, Bool, true, false, cond, if◌then◌else◌, T, List, [], ◌∷◌, find as find_first, Option, Some, None, IfSome, is_some, option_map}
use Rattle.std.specs.Cmp.{IsTotalOrder}
use Rattle.std.specs.FinMap.Entries.{find, find-put, is_sorted}
use Rattle.std.specs.List.{list_any}
use Rattle.std.specs.Option.{option_and_then}
use Rattle.std.specs.Ordering.{eq_by_cmp}
use Rattle.std.specs.declared.cmp.Ordering.{Ordering}
use Rattle.std.specs.declared.cmp.Ordering.TheVariants.{Less}
use Rattle.std.proofs.Common.{refl, ap, sym, subst, ◌∙◌, inl, inr}
use Rattle.std.proofs.lemmas.Map.Lookups.{CmpEqualImpliesEq}
use Rattle.std.proofs.lemmas.Option.{same_Some}
use Rattle.sorted_rows.specs.ListLaws.{all-always}
use Rattle.sorted_rows.specs.RowsLaws.{all-below, find-all_row, find-put_same, first, second, ties}
use Rattle.lsr_facts.specs.declared.assignment.Assignment.{Assignment}
use Rattle.bypass_shares.specs.Shares.{IsWithin, assigned, each_in_turn, has_room, is_candidate, kept_for, new_for, stays, with_given}
use Rattle.bypass_shares.specs.SumLaws.{some_none}
use Rattle.bypass_shares.specs.TurnLaws.{AreGood, Gives, good-given, kept_gives, new_gives, none_passes, still-turns, turns}
use Rattle.bypass_shares.specs.declared.wish.Wish.{Wish}
use Rattle.router_soundness.proofs.AssigningRepairs.{chosen, made_of}

-- what is there where a test fails
otherwise : {A : Type 0} (b : Bool) (o : Option A) (x : A) → cond b None o ≡ Some x → o ≡ Some x
otherwise true o x is = absurd (let e = is in cc)
otherwise false o x is = is

module _ {K : Type 0} (cmp : K → K → Ordering) (capacity : ℕ → ℕ) (total : IsTotalOrder cmp) (exact : CmpEqualImpliesEq cmp) (old : List (K × Assignment)) where
  -- an LSP had some of that bypass before
  abbrev pub Had : K → Assignment → Type 0
  Had k given = (had : Assignment) × (find cmp k old ≡ Some had) × (had.bypass ≡ given.bypass)

  -- what it keeps is of the bypass that it had,
  keeps_bypass : (pairs : List (K × Assignment)) (wish : K × Wish) (given : Assignment) → kept_for cmp capacity old pairs wish ≡ Some given → Had wish.0 given
  keeps_bypass pairs wish given is =
      let had = made_of (stays cmp capacity pairs wish.1) (find cmp wish.0 old) given (otherwise (is_some (find cmp wish.0 pairs)) (option_and_then (stays cmp capacity pairs wish.1) (find cmp wish.0 old)) given is) in
      let new : Assignment = record { bypass = had.0.bypass; rate = wish.1.rate } in
      let stayed = chosen (is_candidate wish.1 had.0.bypass && has_room cmp capacity pairs wish.1.rate had.0.bypass) (Some new) given had.2 in
      (had.0, had.1, ap (λ (a : Assignment). a.bypass) (same_Some new given stayed.1))

  -- and so is all that is kept
  all_had : (pairs : List (K × Assignment)) (wishes : List (K × Wish)) → ((k : K) (given : Assignment) → find cmp k pairs ≡ Some given → Had k given)
      → (k : K) (given : Assignment) → find cmp k (each_in_turn cmp capacity (kept_for cmp capacity old) pairs wishes) ≡ Some given → Had k given
  all_had pairs [] had = had
  all_had pairs (wish ∷ more) had = all_had (with_given cmp capacity wish.0 (kept_for cmp capacity old pairs wish) pairs) more (next (kept_for cmp capacity old pairs wish) refl)
    where
      next : (o : Option Assignment) → kept_for cmp capacity old pairs wish ≡ o → (k : K) (given : Assignment) → find cmp k (with_given cmp capacity wish.0 o pairs) ≡ Some given → Had k given
      next None none = had
      next (Some new) kept = λ k given found.
          elim (eq_by_cmp cmp k wish.0) as (λ b. eq_by_cmp cmp k wish.0 ≡ b → cond b (Some new) (find cmp k pairs) ≡ Some given → Had k given) [
            | true ↦ λ tie is.
                let its = keeps_bypass pairs wish new kept in
                (its.0, ap (λ (q : K). find cmp q old) (exact k wish.0 (ties _ tie)) ∙ its.1, its.2 ∙ ap (λ (a : Assignment). a.bypass) (same_Some new given is))
            | false ↦ λ apart is. had k given is
          ] refl (sym (find-put cmp total k wish.0 new pairs) ∙ found)

  -- turns keep order and capacities
  good_turns : (choose : List (K × Assignment) → K × Wish → Option Assignment) → Gives cmp capacity choose → (pairs : List (K × Assignment)) (wishes : List (K × Wish)) → AreGood cmp capacity total pairs → AreGood cmp capacity total (each_in_turn cmp capacity choose pairs wishes)
  good_turns choose gives pairs wishes good =
      turns cmp capacity choose gives (AreGood cmp capacity total) (λ wish. Unit {0}) (λ rows wish given is q may. good-given cmp capacity total rows wish given is may) pairs wishes (all-always (λ wish. Unit {0}) (λ wish. tt) wishes) good

  module _ (key : K) where
    -- what came before the turn of this LSP: some that an LSP had, or an LSP of a lesser key
    abbrev pub Came : List (K × Assignment) → Type 0
    Came pairs = (k : K) (given : Assignment) → find cmp k pairs ≡ Some given → Had k given ⊎ (cmp k key ≡ Less)

    -- the turns in which others are given what is left
    abbrev given_new : List (K × Assignment) → List (K × Wish) → List (K × Assignment)
    given_new pairs wishes = each_in_turn cmp capacity (new_for cmp capacity) pairs wishes

    -- There is no room for what it asks for beside what came before its turn.
    pub record IsTurn (all : List (K × Assignment)) (wish : Wish) : Type 0 where
      pub pairs : List (K × Assignment)
      pub in_order : T (is_sorted cmp pairs)
      pub came : Came pairs
      pub among : (k : K) (given : Assignment) → find cmp k pairs ≡ Some given → find cmp k all ≡ Some given
      pub refused : list_any (has_room cmp capacity pairs wish.rate) wish.bypasses ≡ false

    own_turn : (pairs : List (K × Assignment)) (wish : Wish) (more : List (K × Wish)) → AreGood cmp capacity total pairs → Came pairs → find cmp key (given_new pairs ((key, wish) ∷ more)) ≡ None → IsTurn (given_new pairs ((key, wish) ∷ more)) wish
    own_turn pairs wish more good came none = record { pairs = pairs; in_order = good.0; came = came; among = among; refused = none_passes (has_room cmp capacity pairs wish.rate) wish.bypasses (by_room (find_first (has_room cmp capacity pairs wish.rate) wish.bypasses) refl) }
      where
        among : (k : K) (given : Assignment) → find cmp k pairs ≡ Some given → find cmp k (given_new pairs ((key, wish) ∷ more)) ≡ Some given
        among k given found = still-turns cmp capacity total exact (new_for cmp capacity) (new_gives cmp capacity) k given pairs ((key, wish) ∷ more) found

        by_given : (o : Option Assignment) → find cmp key pairs ≡ o → o ≡ None
        by_given None is = refl
        by_given (Some given) found = some_none (find cmp key (given_new pairs ((key, wish) ∷ more))) given (among key given found) none

        absent : find cmp key pairs ≡ None
        absent = by_given (find cmp key pairs) refl

        of_number : ℕ → Assignment
        of_number number = record { bypass = number; rate = wish.rate }

        by_room : (o : Option ℕ) → find_first (has_room cmp capacity pairs wish.rate) wish.bypasses ≡ o → o ≡ None
        by_room None is = refl
        by_room (Some number) is =
            let gets : new_for cmp capacity pairs (key, wish) ≡ Some (of_number number) =
            ap (λ (o : Option Assignment). if is_some o then None else option_map of_number (find_first (has_room cmp capacity pairs wish.rate) wish.bypasses)) absent ∙ ap (option_map of_number) is in
            let next = with_given cmp capacity key (new_for cmp capacity pairs (key, wish)) pairs in
            let found : find cmp key next ≡ Some (of_number number) = ap (λ (o : Option Assignment). find cmp key (with_given cmp capacity key o pairs)) gets ∙ find-put_same cmp total key (of_number number) pairs in
            some_none (find cmp key (given_new next more)) (of_number number) (still-turns cmp capacity total exact (new_for cmp capacity) (new_gives cmp capacity) key (of_number number) next more found) none

    the_turn : (pairs : List (K × Assignment)) (wishes : List (K × Wish)) → T (is_sorted cmp wishes) → AreGood cmp capacity total pairs → Came pairs → (wish : Wish) → find cmp key wishes ≡ Some wish → find cmp key (given_new pairs wishes) ≡ None
        → IsTurn (given_new pairs wishes) wish
    the_turn pairs [] in_order good came wish found none = absurd (let e = found in cc)
    the_turn pairs (ahead ∷ more) in_order good came wish found none =
        elim (eq_by_cmp cmp key ahead.0) as (λ b. eq_by_cmp cmp key ahead.0 ≡ b → cond b (Some ahead.1) (find cmp key more) ≡ Some wish → IsTurn (given_new pairs (ahead ∷ more)) wish) [
          | true ↦ λ tie is.
              let own : (key, wish) ≡ ahead = λ i. (exact key ahead.0 (ties _ tie) i, same_Some wish ahead.1 (sym is) i) in
              subst (λ (w : K × Wish). IsTurn (given_new pairs (w ∷ more)) wish) own (own_turn pairs wish more good came (ap (λ (w : K × Wish). find cmp key (given_new pairs (w ∷ more))) own ∙ none))
          | false ↦ λ apart is. the_turn next more (second _ _ in_order) (good_turns (new_for cmp capacity) (new_gives cmp capacity) pairs (ahead ∷ []) good) (next_came is (new_for cmp capacity pairs ahead)) wish is none
        ] refl found
      where
        next : List (K × Assignment)
        next = with_given cmp capacity ahead.0 (new_for cmp capacity pairs ahead) pairs

        below : find cmp key more ≡ Some wish → cmp ahead.0 key ≡ Less
        below is = subst (λ (o : Option Wish). IfSome o (λ w. cmp ahead.0 key ≡ Less)) is (find-all_row cmp exact (λ row. cmp ahead.0 row.0 ≡ Less) key more (all-below cmp ahead.0 more (first _ _ in_order)))

        next_came : find cmp key more ≡ Some wish → (o : Option Assignment) → Came (with_given cmp capacity ahead.0 o pairs)
        next_came is None = came
        next_came is (Some new) = λ k given at.
            elim (eq_by_cmp cmp k ahead.0) as (λ b. eq_by_cmp cmp k ahead.0 ≡ b → cond b (Some new) (find cmp k pairs) ≡ Some given → Had k given ⊎ (cmp k key ≡ Less)) [
              | true ↦ λ tie its. inr (ap (λ (q : K). cmp q key) (exact k ahead.0 (ties _ tie)) ∙ below is)
              | false ↦ λ apart its. came k given its
            ] refl (sym (find-put cmp total k ahead.0 new pairs) ∙ at)

    -- So it is for each that asks and has none in the end.
    pub in_turn : (in_use : List (K × Assignment)) (wishes : List (K × Wish)) → T (is_sorted cmp in_use) → IsWithin cmp capacity in_use → ((k : K) (given : Assignment) → find cmp k in_use ≡ Some given → find cmp k old ≡ Some given) → T (is_sorted cmp wishes)
        → (wish : Wish) → find cmp key wishes ≡ Some wish → find cmp key (assigned cmp capacity old in_use wishes) ≡ None → IsTurn (assigned cmp capacity old in_use wishes) wish
    unfolding assigned
    in_turn in_use wishes in_order within among wishes_in_order wish found none =
        let keeps = kept_for cmp capacity old in
        the_turn (each_in_turn cmp capacity keeps in_use wishes) wishes wishes_in_order (good_turns keeps (kept_gives cmp capacity old) in_use wishes (in_order, within))
        (λ k given is. inl (all_had in_use wishes (λ q was at. (was, among q was at, refl)) k given is)) wish found none
