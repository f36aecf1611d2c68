-- A moment takes no reservation that was refreshed in time, and no repair whose bypass is up.
use Rattle.std.specs.Prelude.{◌≡◌, ℕ, ◌&&◌, Bool, true, false, T, List, filter, Some, IfSome, is_some}
use Rattle.std.specs.Bool.{then_some}
use Rattle.std.specs.FinMap.Entries.{find, is_sorted}
use Rattle.std.specs.Option.{option_and_then, option_map, option_map_or}
use Rattle.std.proofs.Common.{sym, ap, subst, ◌∙◌}
use Rattle.std.proofs.lemmas.Bool.{and_parts}
use Rattle.sorted_rows.specs.RowsLaws.{find-all_row, find-filter, is_sorted-filter}
use Rattle.lsr_facts.specs.Lifetimes as lifetimes
use Rattle.lsr_facts.specs.OrderLaws.{key_exact, key_total}
use Rattle.lsr_facts.specs.Orders.{key_cmp}
use Rattle.lsr_facts.specs.declared.facts.Facts.{Facts}
use Rattle.lsr_facts.specs.declared.key.Key.{Key}
use Rattle.lsr_facts.specs.declared.path_fact.PathFact.{PathFact}
use Rattle.lsr_facts.specs.declared.reply.Reply.TheVariants as replies
use Rattle.lsr_facts.specs.declared.router.Router.{Router}
use Rattle.lsr_facts.specs.Reservations.{expire_repairs, expire_resvs, resv_lives_past}
use Rattle.lsr_facts.specs.declared.repair.Over.{Over}
use Rattle.lsr_facts.specs.declared.repair.Repair.{Repair}
use Rattle.lsr_facts.specs.declared.resv_fact.ResvFact.{ResvFact}
use Rattle.abstract_paths.specs.declared.events.Event.TheVariants as events
use Rattle.abstract_paths.specs.declared.events.Made.{Made}
use Rattle.abstract_paths.specs.Places.{is_up}
use Rattle.abstract_paths.specs.Tears.{leaves_by}
use Rattle.abstract_paths.proofs.Alongside.{signalled-same, signalled-stay}
use Rattle.abstract_paths.specs.Heads.{signalled}
use Rattle.abstract_router.specs.Assigning.{assigned_anew, assignments_left}
use Rattle.abstract_router.specs.BypassTunnels.{bypass_tunnels_of, over_at}
use Rattle.abstract_router.specs.Repairing.{repair_stands, repaired, repairs_left}
use Rattle.abstract_router.specs.Soundness.{IsSound}
use Rattle.abstract_router.specs.States.{State}
use Rattle.abstract_router.specs.Steps.{AreSettled, Step, labelled, left_standing, resvs_left, stands, with_moments}
use Rattle.router_laws.proofs.NoneRepaired.{over-up, repaired-same}
use Rattle.router_laws.proofs.Settled.{taken_over-same}
use Rattle.router_laws.proofs.Ticks.{after_tick, find-expire, lived, ticked, ticked-settled, up_ticked}

-- what is found and passes a test is found among those that pass
find-kept : {X : Type 0} (test : Key × X → Bool) (q : Key) (x : X) (es : List (Key × X)) → T (is_sorted key_cmp es) → find key_cmp q es ≡ Some x → test (q, x) ≡ true → find key_cmp q (filter test es) ≡ Some x
find-kept test q x es h found passes =
    find-filter key_cmp key_total test q (λ k v tied. ap (λ k. test (k, v)) (sym (key_exact q k tied))) es h
    ∙ ap (option_and_then (λ v. then_some (test (q, v)) v)) found
    ∙ ap (λ b. then_some b x) passes

module _ (r : Router) (before : State) (n : ℕ) (key : Key) (path : PathFact) (is : IsSound r before)
    (known : find key_cmp key before.facts.paths ≡ Some path) (alive : lifetimes.lives_on n (key, path) ≡ true) where
  -- the path is there after the moment
  path_lives : find key_cmp key (lifetimes.expire n before.facts.paths) ≡ Some (lifetimes.living n path)
  path_lives =
      find-expire n key before.facts.paths is.paths.paths.in_order
      ∙ ap (λ o. option_map (lifetimes.living n) (option_and_then (λ fact. then_some (lifetimes.lives_on n (key, fact)) fact) o)) known
      ∙ ap (λ b. option_map (lifetimes.living n) (then_some b path)) alive

  path_stays : find key_cmp key (signalled r (lived before.facts n)).paths ≡ Some (lifetimes.living n path)
  unfolding lived
  path_stays = signalled-stay r key (lifetimes.living n path) (lived before.facts n) path_lives

  up_stays : (signalled r (lived before.facts n)).up ≡ before.facts.up
  unfolding lived
  up_stays = ap (λ (s : Facts). s.up) (signalled-same r (lived before.facts n))

  -- which leaves by the link that it left by
  leaves_still : (link : ℕ) → option_map_or (leaves_by link) (find key_cmp key (signalled r (lived before.facts n)).paths) false ≡ option_map_or (leaves_by link) (find key_cmp key before.facts.paths) false
  unfolding leaves_by
  leaves_still link = ap (λ p. option_map_or (leaves_by link) p false) path_stays ∙ ap (λ p. option_map_or (leaves_by link) p false) (sym known)

  -- A reservation stands on it still, so it is left.
  resv_left : (resv : ResvFact) → find key_cmp key before.resvs ≡ Some resv → resv_lives_past n resv ≡ true → find key_cmp key (left_standing r (assigned_anew r (ticked r before n).after)).resvs ≡ Some resv
  unfolding ticked expire_resvs repairs_left
  resv_left resv found refreshed =
      let facts = signalled r (lived before.facts n) in
      find-kept (stands facts) key resv (filter (λ v. resv_lives_past n v.1) before.resvs) (is_sorted-filter key_cmp (λ v. resv_lives_past n v.1) before.resvs is.held.in_order)
      (find-kept (λ v. resv_lives_past n v.1) key resv before.resvs is.held.in_order found refreshed)
      ((λ i. is_up (up_stays i) resv.link && leaves_still resv.link i)
      ∙ subst (λ o. IfSome o (λ v. stands before.facts (key, v) ≡ true)) found (find-all_row key_cmp key_exact (λ v. stands before.facts v ≡ true) key before.resvs is.standing))

  -- So is a repair, where its bypass is up.
  repair_left : (repair : Repair) (over : Over) → find key_cmp key before.repairs ≡ Some repair → resv_lives_past n repair.resv ≡ true → over_at (bypass_tunnels_of r (left_standing r (assigned_anew r (ticked r before n).after))) repair.bypass ≡ Some over
      → find key_cmp key (left_standing r (assigned_anew r (ticked r before n).after)).repairs ≡ Some repair
  unfolding ticked expire_repairs repairs_left bypass_tunnels_of
  repair_left repair over found refreshed up =
      let s = resvs_left (assigned_anew r (ticked r before n).after) in
      let stood = subst (λ o. IfSome o (λ v. repair_stands r before (key, v) ≡ true)) found (find-all_row key_cmp key_exact (λ v. repair_stands r before v ≡ true) key before.repairs is.repairs_standing) in
      find-kept (repair_stands r s) key repair (filter (λ v. resv_lives_past n v.1.resv) before.repairs) (is_sorted-filter key_cmp (λ v. resv_lives_past n v.1.resv) before.repairs is.repaired.in_order)
      (find-kept (λ v. resv_lives_past n v.1.resv) key repair before.repairs is.repaired.in_order found refreshed)
      ((λ i. is_some (up i) && leaves_still repair.resv.link i)
      ∙ (and_parts (is_some (over_at (bypass_tunnels_of r before) repair.bypass)) (option_map_or (leaves_by repair.resv.link) (find key_cmp key before.facts.paths) false) stood).1)

-- what is known after a moment, but for labels and for when messages were sent
after_moment : (r : Router) (before after : State) (made : Made) (n : ℕ) → IsSound r before → AreSettled r before → Step r before made after → made.event ≡ events.Tick n → made.reply ≡ replies.Done
    → after ≡ with_moments r before (ticked r before n) (labelled r made.labels (assignments_left (left_standing r (assigned_anew r (ticked r before n).after))))
after_moment r before after made n is rests step event done =
    let s = (ticked r before n).after in
    let rest : State → State = λ t. with_moments r before (ticked r before n) (labelled r made.labels (assignments_left (left_standing r t))) in
    after_tick r before after made n step event done ∙ ap (λ t. rest (repaired r (assigned_anew r t))) (taken_over-same r s (ticked-settled r before n rests)) ∙ ap rest (repaired-same r (assigned_anew r s) (up_ticked r before n (over-up r before is)))

-- A moment takes no reservation that was refreshed in time, and whose path lives on.
pub refreshed_stays : (r : Router) (before after : State) (made : Made) (n : ℕ) (key : Key) (resv : ResvFact) (path : PathFact) → IsSound r before → AreSettled r before → Step r before made after → made.event ≡ events.Tick n → made.reply ≡ replies.Done
    → find key_cmp key before.resvs ≡ Some resv → resv_lives_past n resv ≡ true → find key_cmp key before.facts.paths ≡ Some path → lifetimes.lives_on n (key, path) ≡ true → find key_cmp key after.resvs ≡ Some resv
refreshed_stays r before after made n key resv path is rests step event done found refreshed known alive =
    ap (λ (s : State). find key_cmp key s.resvs) (after_moment r before after made n is rests step event done) ∙ resv_left r before n key path is known alive resv found refreshed

-- Nor does it take such a repair, where the bypass is up after it.
pub refreshed_repair_stays : (r : Router) (before after : State) (made : Made) (n : ℕ) (key : Key) (repair : Repair) (path : PathFact) (over : Over) → IsSound r before → AreSettled r before → Step r before made after → made.event ≡ events.Tick n → made.reply ≡ replies.Done
    → find key_cmp key before.repairs ≡ Some repair → resv_lives_past n repair.resv ≡ true → find key_cmp key before.facts.paths ≡ Some path → lifetimes.lives_on n (key, path) ≡ true → over_at (bypass_tunnels_of r after) repair.bypass ≡ Some over → find key_cmp key after.repairs ≡ Some repair
unfolding bypass_tunnels_of
refreshed_repair_stays r before after made n key repair path over is rests step event done found refreshed known alive up =
    let came = after_moment r before after made n is rests step event done in
    ap (λ (s : State). find key_cmp key s.repairs) came ∙ repair_left r before n key path is known alive repair over found refreshed (ap (λ (s : State). over_at (bypass_tunnels_of r s) repair.bypass) (sym came) ∙ up)
