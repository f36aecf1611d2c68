-- A path event leaves paths that can be labelled, and the state such that what follows makes it sound.
use Rattle.std.specs.Prelude.{is_some, ◌≡◌, ◌⊎◌, ◌≤◌, ◌<◌, IfSome, ℕ, ◌&&◌, ◌==◌, Bool, true, false, not, List, [], ◌∷◌, length, nat_le, nat_lt, Option, Some, None, is_none, Result, Ok, Err, T}
use Rattle.std.specs.FinMap.Entries.{find, put, is_sorted}
use Rattle.std.specs.Ordering.{is_eq}
use Rattle.std.specs.List.{AllByRecursion}
use Rattle.std.specs.declared.net.ipv4_addr.Ipv4Addr.{Ipv4Addr}
use Rattle.std.proofs.Common.{refl, ap, sym, subst, inl, inr, arith}
use Rattle.std.proofs.lemmas.Bool.{cond_both, lt-ltb}
use Rattle.rsvp_contents.specs.declared.messages.Path.{Path}
use Rattle.rsvp_contents.specs.declared.messages.PathErr.{PathErr}
use Rattle.rsvp_contents.specs.declared.messages.PathTear.{PathTear}
use Rattle.rsvp_bodies.specs.TokenBuckets.{token_rate}
use Rattle.sorted_rows.specs.ListLaws.{all-filter, all-weaker, filter-all_pass}
use Rattle.sorted_rows.specs.RowsLaws.{all-put_row, find-all_row}
use Rattle.lsr_facts.specs.declared.choice.Choice.{Choice}
use Rattle.lsr_facts.specs.declared.errors.RsvpError.{RsvpError}
use Rattle.lsr_facts.specs.declared.facts.Facts.{Facts}
use Rattle.lsr_facts.specs.declared.key.Key.{Key}
use Rattle.lsr_facts.specs.declared.path_fact.Origin.{Origin}
use Rattle.lsr_facts.specs.declared.path_fact.PathFact.{PathFact}
use Rattle.lsr_facts.specs.declared.router.Router.{Router}
use Rattle.lsr_facts.specs.Errors.{system_error}
use Rattle.lsr_facts.specs.Lifetimes.{begins_here}
use Rattle.lsr_facts.specs.OrderLaws.{key_exact}
use Rattle.lsr_facts.specs.Orders.{key_cmp}
use Rattle.lsr_facts.specs.Routers.{link_at}
use Rattle.lsr_facts.specs.Tunnels.{is_head}
use Rattle.abstract_paths.proofs.Alongside.{noted_of-same}
use Rattle.abstract_paths.proofs.EventStanding.{LeavesStanding}
use Rattle.abstract_paths.proofs.Merging.{joined-elsewhere, joined-found, stack_path_by, stack_tear_by}
use Rattle.abstract_paths.specs.Links.{link_change}
use Rattle.abstract_paths.specs.Merging.{stack_path_arrival, stack_tear_arrival, with_stack}
use Rattle.abstract_paths.specs.Outcomes as paths
use Rattle.abstract_paths.specs.Outcomes.{lsp}
use Rattle.abstract_paths.specs.Paths.{failed, taken, has_loop, key_of, path_arrival, path_by, path_on_its_way, way_for}
use Rattle.abstract_paths.specs.Places.{place_of}
use Rattle.abstract_paths.specs.Soundness.{IsStanding}
use Rattle.abstract_paths.specs.Tears.{is_torn_by, leaves_by, left_with, origins_without, path_err_passed_on, torn, err_of_path}
use Rattle.label_space.specs.Rests.{resting_past}
use Rattle.router_soundness.proofs.Choosing.{each_has}
use Rattle.router_soundness.proofs.Holding.{held_with_facts}
use Rattle.router_soundness.proofs.Repairing.{repaired_with_facts}
use Rattle.router_soundness.proofs.Serving.{served_beside, served_sound, within_in_use}
use Rattle.router_soundness.proofs.Settling.{Leaves, LeavesBy}
use Rattle.router_soundness.specs.Drafted.{IsDrafted}
use Rattle.abstract_router.specs.Arrivals.{is_done}
use Rattle.abstract_router.specs.Choosing.{CanLabel, HasLabel}
use Rattle.abstract_router.specs.Outcomes.{of_paths}
use Rattle.abstract_router.specs.Soundness.{IsResv, IsSound}
use Rattle.abstract_router.specs.States.{State, with_facts}

-- A path event keeps what reservations and repairs look at, and leaves paths that can be labelled: a silent one keeps all, any
-- other the moment and the bypasses.
abbrev pub KeepsBy : Router → State → Bool → Facts → Type 0
KeepsBy r s true after = after ≡ s.facts
KeepsBy r s false after = (after.moment ≡ s.facts.moment) × (after.bypasses ≡ s.facts.bypasses) × CanLabel r s after.paths

abbrev pub Keeps : Router → State → paths.PathOutcome → Type 0
Keeps r s o = KeepsBy r s o.is_silent o.after

-- a Path is refused and leaves the facts; or is in error and leaves the paths; or is done and puts its own, of an LSP that
-- doesn't begin here
abbrev pub PutsOwn : Router → Facts → Path → paths.PathOutcome → Type 0
PutsOwn r s p o = (fact : PathFact) × (is_head r s.tunnels (key_of p) ≡ false) × (is_done o.reply ≡ true) × (o.after.paths ≡ put key_cmp (key_of p) fact s.paths)

abbrev pub PutsBy : Router → Facts → Path → Bool → paths.PathOutcome → Type 0
PutsBy r s p true o = o.after ≡ s
PutsBy r s p false o = (o.after.moment ≡ s.moment) × (o.after.bypasses ≡ s.bypasses) × ((o.after.paths ≡ s.paths) ⊎ PutsOwn r s p o)

abbrev pub Puts : Router → Facts → Path → paths.PathOutcome → Type 0
Puts r s p o = PutsBy r s p o.is_silent o

puts_on_its_way : (r : Router) (s : Facts) (known : Option PathFact) (link : ℕ) (p : Path) (way : Result Choice RsvpError) → is_head r s.tunnels (key_of p) ≡ false → Puts r s p (path_on_its_way r s known link p way)
unfolding path_on_its_way
puts_on_its_way r s known link p (Err e) other = (refl, refl, inl refl)
puts_on_its_way r s known link p (Ok way) other =
    cond_both (is_none known && nat_le 1024 (length s.paths)) (failed r s link p system_error) (taken r s known link p way) (Puts r s p) (λ full. (refl, refl, inl refl)) (λ room. (refl, refl, inr (path_by s.moment known link p way, other, refl, refl)))

pub puts_path : (r : Router) (s : Facts) (link : ℕ) (p : Path) → Puts r s p (path_arrival r s link p)
unfolding path_arrival
puts_path r s link p =
    cond_both (is_head r s.tunnels (key_of p)) _ _ (Puts r s p) (λ head. refl)
    (λ other. cond_both (not (p.label_request.l3pid == 0x0800)) _ _ (Puts r s p) (λ a. (refl, refl, inl refl))
    (λ a. cond_both (is_none (token_rate 1 p.tspec)) _ _ (Puts r s p) (λ b. (refl, refl, inl refl))
    (λ b. cond_both (has_loop r p.recorded) _ _ (Puts r s p) (λ c. (refl, refl, inl refl))
    (λ c. puts_on_its_way r s (find key_cmp (key_of p) s.paths) link p (way_for (place_of r s) (find key_cmp (key_of p) s.paths) p) other))))

module _ (r : Router) (s : State) (has : AllByRecursion (HasLabel s.labels) s.facts.paths) where
  -- a path that is put where one was known has its label too, as long as neither begins here
  pub put_known : (key : Key) (old fact : PathFact) → find key_cmp key s.facts.paths ≡ Some old → not (begins_here old.role) ≡ true → AllByRecursion (HasLabel s.labels) (put key_cmp key fact s.facts.paths)
  put_known key old fact found ours =
      let had : HasLabel s.labels (key, old) = subst (λ o. IfSome o (λ v. HasLabel s.labels (key, v))) found (find-all_row key_cmp key_exact (HasLabel s.labels) key s.facts.paths has) in
      all-put_row key_cmp (HasLabel s.labels) key fact (λ k tied. λ so. subst (λ q. is_some (find key_cmp q s.labels) ≡ true) (key_exact key k tied) (had ours)) (λ so. had ours) s.facts.paths has

  keeps_left : (key : Key) (fact : PathFact) (origins : List (Ipv4Addr × Origin)) → find key_cmp key s.facts.paths ≡ Some fact → KeepsBy r s false (left_with key fact origins s.facts)
  keeps_left key fact [] found = (refl, refl, inl (all-filter (HasLabel s.labels) (λ path. not (is_eq (key_cmp key path.0))) s.facts.paths has))
  keeps_left key fact (o ∷ os) found =
      let had : HasLabel s.labels (key, fact) = subst (λ o. IfSome o (λ v. HasLabel s.labels (key, v))) found (find-all_row key_cmp key_exact (HasLabel s.labels) key s.facts.paths has) in
      (refl, refl, inl (all-put_row key_cmp (HasLabel s.labels) key (record fact { origins = o ∷ os }) (λ k tied. λ so. subst (λ q. is_some (find key_cmp q s.labels) ≡ true) (key_exact key k tied) (had so)) had s.facts.paths has))

  pub keeps_torn : (link : ℕ) (t : PathTear) (known : Option PathFact) → find key_cmp (lsp t.session t.sender) s.facts.paths ≡ known → Keeps r s (torn s.facts link t known)
  keeps_torn link t None found = refl
  keeps_torn link t (Some fact) found =
      cond_both (is_torn_by link t fact) _ _ (Keeps r s) (λ a. keeps_left (lsp t.session t.sender) fact (origins_without t.sender.sender fact) found) (λ a. refl)

  -- a PathErr that is for a path's LSP
  pub keeps_err : (key : Key) (e : PathErr) (fact : PathFact) → Keeps r s (err_of_path r s.facts key e fact)
  keeps_err key e fact =
      let same = noted_of-same e fact s.facts in
      (ap (λ (x : Facts). x.moment) same, ap (λ (x : Facts). x.bypasses) same, inl (subst (λ (x : Facts). AllByRecursion (HasLabel s.labels) x.paths) (sym same) has))

  pub keeps_passed : (link : ℕ) (e : PathErr) (known : Option PathFact) → Keeps r s (path_err_passed_on r s.facts link e known)
  keeps_passed link e None = refl
  keeps_passed link e (Some fact) = cond_both (leaves_by link fact) _ _ (Keeps r s) (λ leaves. keeps_err (lsp e.session e.sender) e fact) (λ other. refl)

  -- A Path that comes through a stack is no path of its own: the one that it joins has its label.
  pub keeps_stack_path : (p : Path) → T (is_sorted key_cmp s.facts.paths) → Keeps r s (stack_path_arrival s.facts p)
  keeps_stack_path p in_order =
      stack_path_by (Keeps r s) s.facts p refl
      (λ path only room. (refl, refl, inl (put_known path.0 path.1 (with_stack s.facts.moment p path.1) (joined-found s.facts.paths p path only in_order) (ap not (joined-elsewhere s.facts.paths p path only)))))

  -- a PathTear that comes so
  pub keeps_stack_tear : (t : PathTear) → T (is_sorted key_cmp s.facts.paths) → Keeps r s (stack_tear_arrival s.facts t)
  keeps_stack_tear t in_order =
      stack_tear_by (Keeps r s) s.facts t in_order refl (λ path found came. keeps_left path.0 path.1 (origins_without t.sender.sender path.1) found)

  pub keeps_link : (number : ℕ) (up : Bool) → Keeps r s (link_change r s.facts number up)
  unfolding link_change
  keeps_link number up = cond_both (is_none (link_at r number)) _ _ (Keeps r s) (λ a. refl) (λ a. (refl, refl, inl has))

-- in a sound state each path has its label
pub labelled : (r : Router) (s : State) → IsSound r s → AllByRecursion (HasLabel s.labels) s.facts.paths
labelled r s is = each_has r s is.labels is.paths.paths.in_order

-- a state is the same with its own facts
rewrapped : (r : Router) (s : State) → IsSound r s → IsSound r (with_facts s.facts s)
rewrapped r s is = is

-- Labels rest past the moment that it is.
pub rest_now : (r : Router) (s : State) → IsSound r s → s.resting ≡ resting_past s.facts.moment s.resting
rest_now r s is =
    sym (filter-all_pass (λ row. nat_lt s.facts.moment row.1) s.resting
    (all-weaker (λ row. (r.labels.first ≤ row.0) × (row.0 ≤ r.labels.last) × (s.facts.moment < row.1)) (λ row. nat_lt s.facts.moment row.1 ≡ true) (λ row each. lt-ltb s.facts.moment row.1 each.2) s.resting is.resting.each))

-- What a path event does leaves the state so that what follows makes it sound.
pub of_paths-leaves : (r : Router) (s : State) (o : paths.PathOutcome) → IsSound r s → LeavesStanding r o → Keeps r s o → Leaves r s (of_paths s o)
of_paths-leaves r s o is leaves keeps = by o.is_silent leaves keeps
  where
    by : (silent : Bool) → IsStanding r o.after → KeepsBy r s silent o.after → LeavesBy r s silent (with_facts o.after s)
    by true stands same = subst (λ facts. IsSound r (with_facts facts s)) (sym same) (rewrapped r s is)
    by false stands same =
        let served = served_beside s o.after same.1 (served_sound r s is) in
        record {
          later = omega (arith, same.0);
          paths = stands;
          held = held_with_facts r s o.after is.held (subst (λ m. AllByRecursion (IsResv m) s.resvs) (sym same.0) is.held.each);
          repaired = repaired_with_facts s o.after is.repaired (subst (λ m. AllByRecursion (λ repair. IsResv m (repair.0, repair.1.resv)) s.repairs) (sym same.0) is.repaired.each);
          labels = refl;
          assignments = refl;
          served = served.1;
          enough = served.2;
          within = within_in_use (with_facts o.after s) served;
          resting = subst (λ moment. s.resting ≡ resting_past moment s.resting) (sym same.0) (rest_now r s is);
          choice = same.2;
        }

-- an event may leave all as it was
pub unchanged : (r : Router) (s : State) → IsSound r s → IsDrafted r s s
unchanged r s is =
    let served = served_sound r s is in
    record {
      later = omega arith;
      paths = is.paths;
      held = is.held;
      repaired = is.repaired;
      labels = refl;
      assignments = refl;
      served = served.1;
      enough = served.2;
      within = within_in_use s served;
      resting = rest_now r s is;
      choice = inl (labelled r s is);
    }
