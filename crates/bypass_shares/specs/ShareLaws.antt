-- Laws of the assignments that are made anew.
use Rattle.std.specs.Prelude.{◌≡◌, ℕ, ◌+◌, ◌≤◌, ◌==◌, ◌&&◌, nat_le, Bool, true, false, cond, if◌then◌else◌, T, List, [], ◌∷◌, find as find_first, Option, Some, None, IfSome, is_some, option_map}
use Rattle.std.specs.Cmp.{IsTotalOrder}
use Rattle.std.specs.FinMap.Entries.{find, find-put, is_sorted, is_sorted-put, put, same_entries}
use Rattle.std.specs.List.{AllByRecursion, list_any}
use Rattle.std.specs.Option.{option_and_then}
use Rattle.std.specs.Ordering.{eq_by_cmp}
use Rattle.std.specs.declared.cmp.Ordering.{Ordering}
use Rattle.std.proofs.Common.{inl, inr, refl, sym, ap, subst, ◌∙◌, ⊎_elim, arith, le_trans}
use Rattle.std.proofs.lemmas.Bool.{le-leb, leb-true}
use Rattle.std.proofs.lemmas.Map.Lookups.{CmpEqualImpliesEq}
use Rattle.sorted_rows.specs.ListLaws.{all-always, all-weaker}
use Rattle.sorted_rows.specs.RowsLaws.{all_found, find-all_row, find-first, find-put_same, ties}
use Rattle.lsr_facts.specs.declared.assignment.Assignment.{Assignment}
use Rattle.bypass_shares.specs.declared.wish.Wish.{Wish}
use Rattle.bypass_shares.specs.Shares.{AnswersWish, AreShares, IsAnswer, IsWithin, assigned, assigned_of, each_in_turn, has_room, is_candidate, kept_for, new_for, stays, with_given}
use Rattle.bypass_shares.specs.SumLaws.{assigned_of-among, assigned_of-put, same_value, some_none, taken_of_own}
use Rattle.bypass_shares.specs.TurnLaws.{AreGood, IsGiven, Gives, good-given, kept_gives, new_gives, none_first, none_passes, none_passes_more, still-given, still-turns, turns, turns_none}

-- the room for one of no bypasses
stays_none : (a : Bool) (x : Assignment) → ◌≡◌ {A = Option Assignment} (if a then None else None) None
stays_none true x = refl
stays_none false x = refl

-- of an empty list nothing is made
mapped_none : {A B : Type 0} (f : A → B) (o : Option A) → option_map f o ≡ None → o ≡ None
mapped_none f None is = refl
mapped_none f (Some x) is = cc

-- what would be found is not there
not_found : {A B : Type 0} (o : Option A) (end : Option B) → end ≡ None → ((x : A) → o ≡ Some x → (y : B) × (end ≡ Some y)) → o ≡ None
not_found None end none found = refl
not_found (Some x) end none found = let there = found x refl in some_none end there.0 there.1 none

-- the steps of the law on room
fits_among : (sum before rate own among most : ℕ) → sum ≡ before + own → own ≡ rate → sum ≤ among → among ≤ most → before + rate ≤ most
fits_among sum before rate own among most p q r t = omega arith

-- less is assigned before, so there was room then
room_before : (before after rate most : ℕ) → before ≤ after → nat_le (after + rate) most ≡ true → nat_le (before + rate) most ≡ true
room_before before after rate most fewer room = let fits = leb-true (after + rate) most room in le-leb (before + rate) most (omega arith)

module _ {K : Type 0} (cmp : K → K → Ordering) (capacity : ℕ → ℕ) where
  -- an LSP that names no bypass keeps none
  kept_for-none : (old pairs : List (K × Assignment)) (wish : K × Wish) → wish.1.bypasses ≡ [] → kept_for cmp capacity old pairs wish ≡ None
  kept_for-none old pairs wish none =
      elim (is_some (find cmp wish.0 pairs)) as (λ b. ◌≡◌ {A = Option Assignment} (if b then None else option_and_then (stays cmp capacity pairs wish.1) (find cmp wish.0 old)) None) [
        | true ↦ refl
        | false ↦ elim (find cmp wish.0 old) as (λ o. option_and_then (stays cmp capacity pairs wish.1) o ≡ None) [
          | None ↦ refl
          | Some had ↦ ap (λ bypasses. if list_any (λ number. number == had.bypass) bypasses && has_room cmp capacity pairs wish.1.rate had.bypass then Some (record { bypass = had.bypass; rate = wish.1.rate }) else None) none
        ]
      ]

  -- and is given none
  new_for-none : (pairs : List (K × Assignment)) (wish : K × Wish) → find_first (has_room cmp capacity pairs wish.1.rate) wish.1.bypasses ≡ None → new_for cmp capacity pairs wish ≡ None
  new_for-none pairs wish none =
      elim (is_some (find cmp wish.0 pairs)) as (λ b. ◌≡◌ {A = Option Assignment} (if b then None else option_map (λ number. record { bypass = number; rate = wish.1.rate }) (find_first (has_room cmp capacity pairs wish.1.rate) wish.1.bypasses)) None) [
        | true ↦ refl
        | false ↦ ap (option_map (λ (number : ℕ). record { bypass = number; rate = wish.1.rate })) none
      ]

  -- nor is one that has some already
  new_for-found : (pairs : List (K × Assignment)) (wish : K × Wish) → is_some (find cmp wish.0 pairs) ≡ true → new_for cmp capacity pairs wish ≡ None
  new_for-found pairs wish found =
      ap (λ b. if b then None else option_map (λ number. record { bypass = number; rate = wish.1.rate }) (find_first (has_room cmp capacity pairs wish.1.rate) wish.1.bypasses)) found

  -- Where no wish names a bypass, only what is in use is assigned.
  pub no_capacity_no_change : (old in_use : List (K × Assignment)) (wishes : List (K × Wish)) → AllByRecursion (λ wish. wish.1.bypasses ≡ []) wishes → assigned cmp capacity old in_use wishes ≡ in_use
  unfolding assigned
  no_capacity_no_change old in_use wishes none =
      let kept = turns_none cmp capacity (kept_for cmp capacity old) in_use wishes (all-weaker (λ wish. wish.1.bypasses ≡ []) (λ wish. kept_for cmp capacity old in_use wish ≡ None) (λ wish is. kept_for-none old in_use wish is) wishes none) in
      ap (λ rows. each_in_turn cmp capacity (new_for cmp capacity) rows wishes) kept
      ∙ turns_none cmp capacity (new_for cmp capacity) in_use wishes (all-weaker (λ wish. wish.1.bypasses ≡ []) (λ wish. new_for cmp capacity in_use wish ≡ None) (λ wish is. new_for-none in_use wish (ap (find_first (has_room cmp capacity in_use wish.1.rate)) is)) wishes none)

  module _ (total : IsTotalOrder cmp) where
    -- turns keep order and capacities
    good-turns : (choose : List (K × Assignment) → K × Wish → Option Assignment) → Gives cmp capacity choose → (pairs : List (K × Assignment)) (wishes : List (K × Wish)) → AreGood cmp capacity total pairs → AreGood cmp capacity total (each_in_turn cmp capacity choose pairs wishes)
    good-turns choose gives pairs wishes good =
        turns cmp capacity choose gives (AreGood cmp capacity total) (λ wish. Unit {0}) (λ rows wish given is q may. good-given cmp capacity total rows wish given is may) pairs wishes (all-always (λ wish. Unit {0}) (λ wish. tt) wishes) good

    -- Where what is in use is in order and within the capacities, so is all that is assigned, whatever there was before and is wished.
    pub assigned-good : (old in_use : List (K × Assignment)) (wishes : List (K × Wish)) → T (is_sorted cmp in_use) → IsWithin cmp capacity in_use → T (is_sorted cmp (assigned cmp capacity old in_use wishes)) × IsWithin cmp capacity (assigned cmp capacity old in_use wishes)
    unfolding assigned
    assigned-good old in_use wishes in_order within =
        good-turns (new_for cmp capacity) (new_gives cmp capacity) (each_in_turn cmp capacity (kept_for cmp capacity old) in_use wishes) wishes
        (good-turns (kept_for cmp capacity old) (kept_gives cmp capacity old) in_use wishes (in_order, within))

    module _ (exact : CmpEqualImpliesEq cmp) where
      -- what turns give answers wishes
      answers-turns : (choose : List (K × Assignment) → K × Wish → Option Assignment) → Gives cmp capacity choose → (in_use pairs : List (K × Assignment)) (wishes : List (K × Wish)) → T (is_sorted cmp wishes) → ((key : K) (given : Assignment) → find cmp key pairs ≡ Some given → IsAnswer cmp capacity in_use wishes key given) → (key : K) (given : Assignment) → find cmp key (each_in_turn cmp capacity choose pairs wishes) ≡ Some given → IsAnswer cmp capacity in_use wishes key given
      answers-turns choose gives in_use pairs wishes wishes_in_order before =
          turns cmp capacity choose gives (λ rows. (key : K) (given : Assignment) → find cmp key rows ≡ Some given → IsAnswer cmp capacity in_use wishes key given) (λ wish. find cmp wish.0 wishes ≡ Some wish.1) (λ rows wish new so_far asked may key given found.
          elim (eq_by_cmp cmp key wish.0) as (λ b. eq_by_cmp cmp key wish.0 ≡ b → cond b (Some new) (find cmp key rows) ≡ Some given → IsAnswer cmp capacity in_use wishes key given) [
            | true ↦ λ tie is.
                let same : new ≡ given = cc in
                inr (wish.1, ap (λ k. find cmp k wishes) (exact key wish.0 (ties _ tie)) ∙ asked, ap (λ a. a.rate) (sym same) ∙ may.rate, ap (λ a. is_candidate wish.1 a.bypass) (sym same) ∙ may.candidate)
            | false ↦ λ apart is. so_far key given is
          ] refl (sym (find-put cmp total key wish.0 new rows) ∙ found)) pairs wishes (all_found cmp total wishes wishes_in_order) before

      -- an LSP that asks, and is given nothing, finds no room
      abbrev IsRefused : List (K × Assignment) → K × Wish → Type 0
      IsRefused all wish = find cmp wish.0 all ≡ None → list_any (has_room cmp capacity all wish.1.rate) wish.1.bypasses ≡ false

      -- an LSP that has none, and whose turn gives it none, finds no room at its turn
      no_room : (pairs : List (K × Assignment)) (wish : K × Wish) → find cmp wish.0 pairs ≡ None → new_for cmp capacity pairs wish ≡ None → list_any (has_room cmp capacity pairs wish.1.rate) wish.1.bypasses ≡ false
      no_room pairs wish absent is =
          let choice = option_map (λ number. record { bypass = number; rate = wish.1.rate }) (find_first (has_room cmp capacity pairs wish.1.rate) wish.1.bypasses) in
          none_passes (has_room cmp capacity pairs wish.1.rate) wish.1.bypasses
          (mapped_none (λ number. record { bypass = number; rate = wish.1.rate }) (find_first (has_room cmp capacity pairs wish.1.rate) wish.1.bypasses)
          (ap (λ o. if is_some o then None else choice) (sym absent) ∙ is))

      -- where there is no room, there is none when more is assigned
      no_room-later : (pairs all : List (K × Assignment)) (wish : Wish) → T (is_sorted cmp pairs) → T (is_sorted cmp all) → ((key : K) (given : Assignment) → find cmp key pairs ≡ Some given → find cmp key all ≡ Some given) → list_any (has_room cmp capacity pairs wish.rate) wish.bypasses ≡ false → list_any (has_room cmp capacity all wish.rate) wish.bypasses ≡ false
      no_room-later pairs all wish in_order all_in_order among none =
          none_passes_more (has_room cmp capacity pairs wish.rate) (has_room cmp capacity all wish.rate) (λ number. room_before (assigned_of number pairs) (assigned_of number all) wish.rate (capacity number) (assigned_of-among cmp total number pairs all in_order all_in_order among)) wish.bypasses none

      -- what is given in the last turns is found in the end, so that who has none was given none
      refused-first : (pairs : List (K × Assignment)) (wish : K × Wish) (more : List (K × Wish)) → AreGood cmp capacity total pairs → IsRefused (each_in_turn cmp capacity (new_for cmp capacity) pairs (wish ∷ more)) wish
      refused-first pairs wish more good none =
          let choose = new_for cmp capacity in
          let end = each_in_turn cmp capacity choose pairs (wish ∷ more) in
          let end_good = good-turns choose (new_gives cmp capacity) pairs (wish ∷ more) good in
          let kept : (key : K) (given : Assignment) → find cmp key pairs ≡ Some given → find cmp key end ≡ Some given = λ key given found. still-turns cmp capacity total exact choose (new_gives cmp capacity) key given pairs (wish ∷ more) found in
          let absent = not_found (find cmp wish.0 pairs) (find cmp wish.0 end) none (λ given found. (given, kept wish.0 given found)) in
          let nothing = not_found (choose pairs wish) (find cmp wish.0 end) none (λ given is. (
            given,
            still-turns cmp capacity total exact choose (new_gives cmp capacity) wish.0 given (with_given cmp capacity wish.0 (choose pairs wish) pairs) more
                (ap (λ o. find cmp wish.0 (with_given cmp capacity wish.0 o pairs)) is ∙ find-put_same cmp total wish.0 given pairs),
          )) in
          no_room-later pairs end wish.1 good.0 end_good.0 kept (no_room pairs wish absent nothing)

      refused-turns : (pairs : List (K × Assignment)) (wishes : List (K × Wish)) → AreGood cmp capacity total pairs → AllByRecursion (IsRefused (each_in_turn cmp capacity (new_for cmp capacity) pairs wishes)) wishes
      refused-turns pairs [] good = tt
      refused-turns pairs (wish ∷ more) good =
          let next = with_given cmp capacity wish.0 (new_for cmp capacity pairs wish) pairs in
          (refused-first pairs wish more good, refused-turns next more (good-turns (new_for cmp capacity) (new_gives cmp capacity) pairs (wish ∷ []) good))

      -- What is assigned anew stands.
      pub are_assigned : (old in_use : List (K × Assignment)) (wishes : List (K × Wish)) → T (is_sorted cmp in_use) → IsWithin cmp capacity in_use → T (is_sorted cmp wishes) → AreShares cmp capacity in_use wishes (assigned cmp capacity old in_use wishes)
      unfolding assigned
      are_assigned old in_use wishes in_order within wishes_in_order =
          let keeps = kept_for cmp capacity old in
          let kept = each_in_turn cmp capacity keeps in_use wishes in
          let kept_good = good-turns keeps (kept_gives cmp capacity old) in_use wishes (in_order, within) in
          let good = good-turns (new_for cmp capacity) (new_gives cmp capacity) kept wishes kept_good in
          let all = each_in_turn cmp capacity (new_for cmp capacity) kept wishes in
          record {
            in_order = good.0;
            within = good.1;
            kept = λ key given found.
                still-turns cmp capacity total exact (new_for cmp capacity) (new_gives cmp capacity) key given kept wishes
                (still-turns cmp capacity total exact keeps (kept_gives cmp capacity old) key given in_use wishes found);
            answers =
                answers-turns (new_for cmp capacity) (new_gives cmp capacity) in_use kept wishes wishes_in_order
                (answers-turns keeps (kept_gives cmp capacity old) in_use in_use wishes wishes_in_order (λ key given found. inl found));
            refused = λ key wish asked none.
                subst (λ o. IfSome o (λ w. IsRefused all (key, w))) asked (find-all_row cmp exact (IsRefused all) key wishes (refused-turns kept wishes kept_good)) none;
          }

      -- While assignments that stand are made anew: those so far are among them, and each other answers a wish that comes yet.
      record ArePart (all pairs : List (K × Assignment)) (wishes : List (K × Wish)) : Type 0 where
        good : AreGood cmp capacity total pairs
        among : (key : K) (given : Assignment) → find cmp key pairs ≡ Some given → find cmp key all ≡ Some given
        others : (key : K) (given : Assignment) → find cmp key all ≡ Some given → IsAnswer cmp capacity pairs wishes key given

      -- what comes yet after a turn, by which the LSP has what it has among all
      others-later : (all pairs next : List (K × Assignment)) (wish : K × Wish) (more : List (K × Wish)) → ArePart all pairs (wish ∷ more) → ((key : K) (given : Assignment) → find cmp key pairs ≡ Some given → find cmp key next ≡ Some given) → ((given : Assignment) → find cmp wish.0 all ≡ Some given → find cmp wish.0 next ≡ Some given) → (key : K) (given : Assignment) → find cmp key all ≡ Some given → IsAnswer cmp capacity next more key given
      others-later all pairs next wish more part still own key given found =
          ⊎_elim (λ so_far. inl (still key given so_far)) (λ (asks : AnswersWish cmp capacity (wish ∷ more) key given).
          elim (eq_by_cmp cmp key wish.0) as (λ b. eq_by_cmp cmp key wish.0 ≡ b → cond b (Some wish.1) (find cmp key more) ≡ Some asks.0 → IsAnswer cmp capacity next more key given) [
            | true ↦ λ tie is.
                let same = exact key wish.0 (ties _ tie) in
                inl (subst (λ k. find cmp k next ≡ Some given) (sym same) (own given (subst (λ k. find cmp k all ≡ Some given) same found)))
            | false ↦ λ apart is. inr (asks.0, is, asks.2, asks.3)
          ] refl asks.1) (part.others key given found)

      -- a turn that gives nothing
      same_part : (all pairs : List (K × Assignment)) (wish : K × Wish) (more : List (K × Wish)) → ArePart all pairs (wish ∷ more) → kept_for cmp capacity all pairs wish ≡ None → ((given : Assignment) → find cmp wish.0 all ≡ Some given → find cmp wish.0 pairs ≡ Some given) → ArePart all (with_given cmp capacity wish.0 (kept_for cmp capacity all pairs wish) pairs) more
      same_part all pairs wish more part none own =
          subst (λ o. ArePart all (with_given cmp capacity wish.0 o pairs) more) (sym none)
          (record { good = part.good; among = part.among; others = others-later all pairs pairs wish more part (λ key given found. found) own })

      -- what an LSP has among all is among those so far with it
      among-put : (all pairs : List (K × Assignment)) (wish : K × Wish) (had : Assignment) → ((key : K) (given : Assignment) → find cmp key pairs ≡ Some given → find cmp key all ≡ Some given) → find cmp wish.0 all ≡ Some had → (key : K) (given : Assignment) → find cmp key (put cmp wish.0 had pairs) ≡ Some given → find cmp key all ≡ Some given
      among-put all pairs wish had among has key given found =
          elim (eq_by_cmp cmp key wish.0) as (λ b. eq_by_cmp cmp key wish.0 ≡ b → cond b (Some had) (find cmp key pairs) ≡ Some given → find cmp key all ≡ Some given) [
            | true ↦ λ tie is. ap (λ k. find cmp k all) (exact key wish.0 (ties _ tie)) ∙ has ∙ is
            | false ↦ λ apart is. among key given is
          ] refl (sym (find-put cmp total key wish.0 had pairs) ∙ found)

      -- There is room for what an LSP has among all: those so far, with it, are among all.
      room-among : (all pairs : List (K × Assignment)) (wish : K × Wish) (had : Assignment) → AreGood cmp capacity total all → AreGood cmp capacity total pairs → ((key : K) (given : Assignment) → find cmp key pairs ≡ Some given → find cmp key all ≡ Some given) → find cmp wish.0 all ≡ Some had → find cmp wish.0 pairs ≡ None → has_room cmp capacity pairs had.rate had.bypass ≡ true
      room-among all pairs wish had all_good good among has absent =
          let sum = assigned_of-put cmp total had.bypass wish.0 had pairs good.0 absent in
          let own = taken_of_own had in
          let fewer = assigned_of-among cmp total had.bypass (put cmp wish.0 had pairs) all (is_sorted-put cmp total wish.0 had pairs good.0) all_good.0 (among-put all pairs wish had among has) in
          let most = all_good.1 had.bypass in
          le-leb (assigned_of had.bypass pairs + had.rate) (capacity had.bypass) (fits_among _ _ _ _ _ _ sum own fewer most)

      -- the LSP keeps what it has among all
      keeps-again : (all pairs : List (K × Assignment)) (wish : K × Wish) (had : Assignment) → find cmp wish.0 pairs ≡ None → find cmp wish.0 all ≡ Some had → had.rate ≡ wish.1.rate → is_candidate wish.1 had.bypass ≡ true → has_room cmp capacity pairs had.rate had.bypass ≡ true → kept_for cmp capacity all pairs wish ≡ Some had
      keeps-again all pairs wish had absent has rate candidate room =
          ap (λ o. if is_some o then None else option_and_then (stays cmp capacity pairs wish.1) (find cmp wish.0 all)) absent
          ∙ ap (option_and_then (stays cmp capacity pairs wish.1)) has
          ∙ ap (λ (n : ℕ). if is_candidate wish.1 had.bypass && has_room cmp capacity pairs n had.bypass then Some (record { bypass = had.bypass; rate = n }) else None) (sym rate)
          ∙ (λ i. if candidate i && room i then Some had else None)

      -- a turn of an LSP that has none so far, and has some among all
      more_part : (all pairs : List (K × Assignment)) (wish : K × Wish) (more : List (K × Wish)) (had : Assignment) → AreGood cmp capacity total all → ArePart all pairs (wish ∷ more) → find cmp wish.0 pairs ≡ None → find cmp wish.0 all ≡ Some had → ArePart all (with_given cmp capacity wish.0 (kept_for cmp capacity all pairs wish) pairs) more
      more_part all pairs wish more had all_good part absent has =
          let room = room-among all pairs wish had all_good part.good part.among has absent in
          let next = put cmp wish.0 had pairs in
          ⊎_elim (λ found. some_none (find cmp wish.0 pairs) had found absent) (λ (asks : AnswersWish cmp capacity (wish ∷ more) wish.0 had).
          let asked : asks.0 ≡ wish.1 = same_value (find cmp wish.0 (wish ∷ more)) asks.0 wish.1 asks.1 (find-first cmp total wish more) in
          let rate : had.rate ≡ wish.1.rate = asks.2 ∙ ap (λ w. w.rate) asked in
          let candidate : is_candidate wish.1 had.bypass ≡ true = ap (λ w. is_candidate w had.bypass) (sym asked) ∙ asks.3 in
          let given : IsGiven cmp capacity pairs wish had = record { absent = absent; rate = rate; candidate = candidate; room = room } in
          subst (λ o. ArePart all (with_given cmp capacity wish.0 o pairs) more) (sym (keeps-again all pairs wish had absent has rate candidate room))
          (record {
            good = good-given cmp capacity total pairs wish had part.good given;
            among = among-put all pairs wish had part.among has;
            others = others-later all pairs next wish more part (λ key was found. still-given cmp capacity total exact key was pairs wish.0 had absent found) (λ was found. find-put_same cmp total wish.0 had pairs ∙ sym has ∙ found);
          })) (part.others wish.0 had has)

      -- each turn keeps the part
      next_part : (all pairs : List (K × Assignment)) (wish : K × Wish) (more : List (K × Wish)) → AreGood cmp capacity total all → ArePart all pairs (wish ∷ more) → ArePart all (with_given cmp capacity wish.0 (kept_for cmp capacity all pairs wish) pairs) more
      next_part all pairs wish more all_good part =
          elim (find cmp wish.0 pairs) as (λ o. find cmp wish.0 pairs ≡ o → ArePart all (with_given cmp capacity wish.0 (kept_for cmp capacity all pairs wish) pairs) more) [
            | Some was ↦ λ found.
                same_part all pairs wish more part
                (ap (λ o. if is_some o then None else option_and_then (stays cmp capacity pairs wish.1) (find cmp wish.0 all)) found)
                (λ given has. found ∙ sym (part.among wish.0 was found) ∙ has)
            | None ↦ λ absent. elim (find cmp wish.0 all) as (λ o. find cmp wish.0 all ≡ o → ArePart all (with_given cmp capacity wish.0 (kept_for cmp capacity all pairs wish) pairs) more) [
              | Some had ↦ λ has. more_part all pairs wish more had all_good part absent has
              | None ↦ λ lacks.
                  same_part all pairs wish more part
                  (ap (λ o. if is_some o then None else option_and_then (stays cmp capacity pairs wish.1) (find cmp wish.0 all)) absent ∙ ap (option_and_then (stays cmp capacity pairs wish.1)) lacks)
                  (λ given has. some_none (find cmp wish.0 all) given has lacks)
            ] refl
          ] refl

      -- a part of which nothing comes yet is all
      whole : (all pairs : List (K × Assignment)) (key : K) → ArePart all pairs [] → (o : Option Assignment) → find cmp key all ≡ o → find cmp key pairs ≡ o
      whole all pairs key part (Some given) has = ⊎_elim (λ found. found) (λ (asks : AnswersWish cmp capacity [] key given). some_none None asks.0 asks.1 refl) (part.others key given has)
      whole all pairs key part None lacks =
          elim (find cmp key pairs) as (λ o. find cmp key pairs ≡ o → o ≡ None) [ None ↦ λ absent. refl | Some given ↦ λ found. some_none (find cmp key all) given (part.among key given found) lacks ] refl

      -- the turns in which LSPs keep what they had make all of its part
      kept-again : (all pairs : List (K × Assignment)) (wishes : List (K × Wish)) → AreGood cmp capacity total all → ArePart all pairs wishes → each_in_turn cmp capacity (kept_for cmp capacity all) pairs wishes ≡ all
      kept-again all pairs [] all_good part = same_entries cmp total exact pairs all part.good.0 all_good.0 (λ key. whole all pairs key part (find cmp key all) refl)
      kept-again all pairs (wish ∷ more) all_good part =
          kept-again all (with_given cmp capacity wish.0 (kept_for cmp capacity all pairs wish) pairs) more all_good (next_part all pairs wish more all_good part)

      -- an LSP that has some, or finds no room, is given nothing
      nothing_new : (all : List (K × Assignment)) (wish : K × Wish) → IsRefused all wish → (o : Option Assignment) → find cmp wish.0 all ≡ o → new_for cmp capacity all wish ≡ None
      nothing_new all wish refused (Some given) has = new_for-found all wish (ap is_some has)
      nothing_new all wish refused None lacks = new_for-none all wish (none_first (has_room cmp capacity all wish.1.rate) wish.1.bypasses (refused lacks))

      -- Assignments that stand are made anew as they are.
      pub assigned_again : (in_use : List (K × Assignment)) (wishes : List (K × Wish)) (all : List (K × Assignment)) → T (is_sorted cmp in_use) → T (is_sorted cmp wishes) → AreShares cmp capacity in_use wishes all → assigned cmp capacity all in_use wishes ≡ all
      unfolding assigned
      assigned_again in_use wishes all in_order wishes_in_order stand =
          let in_use_within : IsWithin cmp capacity in_use = λ number. le_trans (assigned_of-among cmp total number in_use all in_order stand.in_order stand.kept) (stand.within number) in
          let kept = kept-again all in_use wishes (stand.in_order, stand.within) (record { good = (in_order, in_use_within); among = stand.kept; others = stand.answers }) in
          ap (λ rows. each_in_turn cmp capacity (new_for cmp capacity) rows wishes) kept
          ∙ turns_none cmp capacity (new_for cmp capacity) all wishes
          (all-weaker (λ wish. find cmp wish.0 wishes ≡ Some wish.1) (λ wish. new_for cmp capacity all wish ≡ None) (λ wish asked. nothing_new all wish (stand.refused wish.0 wish.1 asked) (find cmp wish.0 all) refl) wishes (all_found cmp total wishes wishes_in_order))
