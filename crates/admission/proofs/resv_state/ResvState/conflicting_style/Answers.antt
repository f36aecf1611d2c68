use Rattle.std.proofs.Common.{◌≡◌, ℕ, zero, suc, ◌+◌, ◌<◌, ◌&&◌, Bool, true, false, [], ◌∷◌, get_or, not, ◌==◌, refl, ap, ◌∙◌, arith}
use Rattle.std.specs.List.{find}
use Rattle.std.specs.Option.{option_map}
use Rattle.std.specs.Ordering.{is_eq, is_lt, ordering_reverse, ordering_then}
use Rattle.std.specs.declared.cmp.Ordering.{Ordering}
use Rattle.std.specs.declared.cmp.Ordering.TheVariants.{Less, Equal, Greater}
use Rattle.std.proofs.lemmas.List.Sorted.{searchable_from_sorted}
use Rattle.rsvp_objects.specs.declared.values.Session.{Session}
use Rattle.lsr_facts.specs.OrderLaws.{session_total}
use Rattle.lsr_facts.specs.Orders.{key_cmp, session_cmp, template_cmp}
use Rattle.lsr_facts.specs.declared.key.Key.{Key}
use Rattle.lsr_facts.specs.Conflicts.{conflicts, is_same_style}
use Rattle.lsr_facts.specs.declared.resv_fact.ResvFact.{ResvFact}
use Rattle.lsr_facts.specs.declared.resv_fact.ResvStyle.{ResvStyle}
use Rattle.slot_rows.specs.Runs.{RisesBy}
use Rattle.admission.proofs.resv_state.ResvState.conflicting_style.Goals as goal

-- a greater key has no lower session
not_below : (a b : Key) → key_cmp a b ≡ Less → is_lt (session_cmp b.session a.session) ≡ false
not_below a b less =
    ap is_lt (session_total.antisymm b.session a.session)
    ∙ elim (session_cmp a.session b.session) as (λ o. ordering_then o (template_cmp a.sender b.sender) ≡ Less → is_lt (ordering_reverse o) ≡ false) [ Less ↦ λ h. refl | Equal ↦ λ h. refl | Greater ↦ λ h. cc ] less

-- so keys that rise don't fall by their sessions
sessions_rise : (session : Session) → RisesBy key_cmp (λ (key : Key). session_cmp key.session session)
sessions_rise session a b less =
    searchable_from_sorted session_total (λ (key : Key). key.session) (a ∷ b ∷ []) session (λ k d from below. next k d below) 0 1 a (omega arith) (omega arith)
  where
    next : (k : ℕ) (d : Key) → k + 1 < 2 → is_lt (session_cmp (get_or (a ∷ b ∷ []) (k + 1) d).session (get_or (a ∷ b ∷ []) k d).session) ≡ false
    next zero d below = not_below a b less
    next (suc k) d below = absurd (omega (arith, below))

-- a test that is asked twice
twice : (a b c d e : Bool) → a ≡ b → (a && (b && c && d && e)) ≡ (b && c && d && e)
twice a true c d e same = ap (λ x. x && (true && c && d && e)) same
twice a false c d e same = ap (λ x. x && (false && c && d && e)) same

-- a tie is one the other way round, too
tie_turned : (o : Ordering) → is_eq (ordering_reverse o) ≡ is_eq o
tie_turned Less = refl
tie_turned Equal = refl
tie_turned Greater = refl

-- what is in the way is of the session
of_session : (link : ℕ) (style : ResvStyle) (key : Key) (resv : Key × ResvFact) → (is_eq (session_cmp resv.0.session key.session) && conflicts link style key resv) ≡ conflicts link style key resv
of_session link style key resv =
    twice _ _ (not (is_eq (key_cmp key resv.0))) (resv.1.link == link) (not (is_same_style style resv.1.style)) (ap is_eq (session_total.antisymm resv.0.session key.session) ∙ tie_turned (session_cmp key.session resv.0.session))

pub find_in_run-requires : goal.find_in_run-requires
find_in_run-requires c = (omega arith, sessions_rise c.args.key.now.session)

pub returns-in-Some : goal.returns-in-Some
returns-in-Some c =
    let key = c.args.key.now in
    ap (option_map (λ other. other.1.style)) (c.in-Some.ensures ∙ (λ i. find (λ resv. of_session c.args.link c.args.style key resv i) (c.self.view_is i)))

pub returns-in-None : goal.returns-in-None
returns-in-None c =
    let key = c.args.key.now in
    ap (option_map (λ other. other.1.style)) (c.in-None.ensures ∙ (λ i. find (λ resv. of_session c.args.link c.args.style key resv i) (c.self.view_is i)))
