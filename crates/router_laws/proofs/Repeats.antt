-- A Path that comes again at the same moment changes nothing, and nothing is sent for it.
use Rattle.std.specs.Prelude.{◌≡◌, ◌≢◌, ◌&&◌, ℕ, not, ◌==◌, if◌then◌else◌, Bool, true, false, cond, List, [], ◌∷◌, Option, Some, None, Result, Ok, Err, is_none, IfSome, T, nat_eq, nat_le, length}
use Rattle.std.specs.Cmp.{IsTotalOrder}
use Rattle.std.specs.Cmp.Lexicographic.{pointwise}
use Rattle.std.specs.FinMap.Entries.{by_order, find, is_sorted, put}
use Rattle.std.specs.Option.{option_eq}
use Rattle.std.specs.declared.cmp.Ordering.{Ordering}
use Rattle.std.specs.declared.cmp.Ordering.TheVariants.{Less, Equal, Greater}
use Rattle.std.specs.declared.net.ipv4_addr.Ipv4Addr.{Ipv4Addr}
use Rattle.std.proofs.Common.{refl, sym, ap, subst, ◌∙◌}
use Rattle.std.proofs.lemmas.Bool.{cond_both}
use Rattle.std.proofs.lemmas.Cmp.{nat_list_eq_equiv, tied_itself}
use Rattle.rsvp_bodies.specs.Steps.{route_bytes}
use Rattle.rsvp_bodies.specs.Traces.{record_bytes}
use Rattle.rsvp_contents.specs.declared.messages.Content.TheVariants as contents
use Rattle.rsvp_contents.specs.declared.messages.Path.{Path}
use Rattle.rsvp_bodies.specs.TokenBuckets.{token_rate}
use Rattle.sorted_rows.specs.RowsLaws.{find-put_same, put-found}
use Rattle.lsr_facts.specs.Errors.{bad_tspec, no_label, record_too_long, routing_loop, system_error, unsupported_l3pid}
use Rattle.lsr_facts.specs.OrderLaws.{address_total, key_total}
use Rattle.lsr_facts.specs.Orders.{address_cmp, key_cmp}
use Rattle.lsr_facts.specs.Routers.{IsRouter, link_at}
use Rattle.lsr_facts.specs.declared.choice.Choice.{Choice}
use Rattle.lsr_facts.specs.declared.choice.Choice.TheVariants.{Link, Tail}
use Rattle.lsr_facts.specs.declared.errors.RsvpError.{RsvpError}
use Rattle.lsr_facts.specs.declared.facts.Facts.{Facts}
use Rattle.lsr_facts.specs.declared.key.Key.{Key}
use Rattle.lsr_facts.specs.declared.path_fact.Origin.{Origin}
use Rattle.lsr_facts.specs.declared.path_fact.PathFact.{PathFact}
use Rattle.lsr_facts.specs.Tunnels.{is_head}
use Rattle.lsr_facts.specs.declared.refusal.Refusal.{Refusal}
use Rattle.lsr_facts.specs.declared.refusal.Refusal.TheVariants.{LinkDown, NoMatch, UnknownLink}
use Rattle.lsr_facts.specs.declared.reply.Reply.TheVariants as replies
use Rattle.lsr_facts.specs.declared.router.Router.{Router}
use Rattle.lsr_facts.specs.declared.tunnel.Tunnel.{Tunnel}
use Rattle.abstract_paths.specs.Arrivals.{hop_arrive}
use Rattle.abstract_paths.specs.declared.ways.Arrive.{Arrive}
use Rattle.abstract_paths.specs.declared.events.Made.{Made}
use Rattle.abstract_paths.proofs.Heads.{head_known}
use Rattle.abstract_paths.proofs.PathTable.{role_of-elsewhere}
use Rattle.abstract_paths.specs.Changes.{with_path}
use Rattle.abstract_paths.specs.Outcomes as paths
use Rattle.abstract_paths.specs.Outcomes.{found_here, told_upstream}
use Rattle.abstract_paths.specs.Paths.{drops_record, failed, has_loop, key_of, origin_of, origins_of, path_arrival, path_by, path_on_its_way, record_errors, taken, way_for, way_of}
use Rattle.abstract_paths.specs.Places.{Place, is_up, place_of}
use Rattle.abstract_paths.specs.Routing.{next_hop}
use Rattle.abstract_paths.specs.Soundness.{IsHeadOf}
use Rattle.router_soundness.specs.Assigned.{AreStanding}
use Rattle.router_soundness.proofs.AssigningStands.{stands_sent, stands_settled}
use Rattle.router_soundness.proofs.Drafting.{outcome-leaves}
use Rattle.router_soundness.proofs.Settling.{LeavesBy}
use Rattle.router_soundness.specs.Drafted.{IsDrafted}
use Rattle.abstract_router.specs.Arrivals.{arrival, arrival_by, is_done, labelled_path_arrival}
use Rattle.abstract_router.specs.Labels.{has_free_label}
use Rattle.abstract_router.specs.Outcomes.{Outcome, of_paths, refused, replied}
use Rattle.abstract_router.specs.Repairing.{repaired, repairs_left}
use Rattle.abstract_router.specs.Soundness.{IsSound}
use Rattle.abstract_router.specs.States.{State}
use Rattle.abstract_router.specs.Steps.{AreSettled, IsEvent, Step, known_after, settled, taken_over}
use Rattle.router_soundness.proofs.Running.{sound_step}
use Rattle.router_laws.specs.Words.{comes}
use Rattle.router_laws.proofs.GivenUp.{not_given_up, path_left}
use Rattle.router_laws.proofs.Led.{answered, led}
use Rattle.router_laws.proofs.Settled.{heard-settles}
use Rattle.router_laws.proofs.Still.{done-still, still_step}

-- the link is one of the router's, and up
record IsOpen (r : Router) (s : Facts) (link : ℕ) : Type 0 where
  known : is_none (link_at r link) ≡ false
  up : not (is_up s.up link) ≡ false

arrival_open : (r : Router) (s : State) (a : Arrive) → replies.Done ≡ (arrival r s a).reply → IsOpen r s.facts a.link
unfolding arrival
arrival_open r s a done =
    let tests = by (is_none (link_at r a.link)) (not (is_up s.facts.up a.link)) (arrival_by r s a.way a.link a.reading) done in
    record { known = tests.0; up = tests.1 }
  where
    by : (b c : Bool) (read : Outcome) → replies.Done ≡ (cond b (refused s UnknownLink) (cond c (refused s LinkDown) read)).reply → (b ≡ false) × (c ≡ false)
    by true c read d = absurd (let e = d in cc)
    by false true read d = absurd (let e = d in cc)
    by false false read d = (refl, refl)

arrival_read : (r : Router) (s : State) (a : Arrive) → IsOpen r s.facts a.link → arrival r s a ≡ arrival_by r s a.way a.link a.reading
unfolding arrival
arrival_read r s a open_link =
    let read = arrival_by r s a.way a.link a.reading in
    ap (λ b. cond b (refused s UnknownLink) (cond (not (is_up s.facts.up a.link)) (refused s LinkDown) read)) open_link.known
    ∙ ap (λ b. cond b (refused s LinkDown) read) open_link.up

-- a Path that is done does what it does of itself
labelled_done : (r : Router) (s : State) (link : ℕ) (p : Path) → replies.Done ≡ (labelled_path_arrival r s link p).reply → labelled_path_arrival r s link p ≡ of_paths s (path_arrival r s.facts link p)
unfolding labelled_path_arrival
labelled_done r s link p =
    cond_both (is_done (path_arrival r s.facts link p).reply && is_none (find key_cmp (key_of p) s.facts.paths) && not (has_free_label r s.labels s.resting)) _ _ (λ (o : Outcome). replies.Done ≡ o.reply → o ≡ of_paths s (path_arrival r s.facts link p))
    (λ full done. absurd (let e = done in cc)) (λ room done. refl)

-- and so does one of an LSP that is known, where all is as it was
labelled_again : (r : Router) (s : State) (link : ℕ) (p : Path) (fact : PathFact) → find key_cmp (key_of p) s.facts.paths ≡ Some fact → path_arrival r s.facts link p ≡ paths.done [] s.facts → labelled_path_arrival r s link p ≡ replied replies.Done [] s
unfolding labelled_path_arrival
labelled_again r s link p fact found again =
    λ i. if is_done (again i).reply && is_none (found i) && not (has_free_label r s.labels s.resting) then of_paths s (failed r s.facts link p no_label) else of_paths s (again i)

-- the same put twice is put once
put_twice : {K X : Type 0} (cmp : K → K → Ordering) → IsTotalOrder cmp → (k : K) (v : X) (es : List (K × X)) → put cmp k v (put cmp k v es) ≡ put cmp k v es
put_twice cmp total k v [] = ap (λ o. by_order o ((k, v) ∷ (k, v) ∷ []) ((k, v) ∷ []) ((k, v) ∷ put cmp k v [])) (tied_itself total k)
put_twice cmp total k v (e ∷ es) =
    elim (cmp k e.0) as (λ o. cmp k e.0 ≡ o → put cmp k v (by_order o ((k, v) ∷ e ∷ es) ((e.0, v) ∷ es) (e ∷ put cmp k v es)) ≡ by_order o ((k, v) ∷ e ∷ es) ((e.0, v) ∷ es) (e ∷ put cmp k v es)) [
      | Less ↦ λ p. ap (λ o. by_order o ((k, v) ∷ (k, v) ∷ e ∷ es) ((k, v) ∷ e ∷ es) ((k, v) ∷ put cmp k v (e ∷ es))) (tied_itself total k)
      | Equal ↦ λ p. ap (λ o. by_order o ((k, v) ∷ (e.0, v) ∷ es) ((e.0, v) ∷ es) ((e.0, v) ∷ put cmp k v es)) p
      | Greater ↦ λ p. ap (λ o. by_order o ((k, v) ∷ e ∷ put cmp k v es) ((e.0, v) ∷ put cmp k v es) (e ∷ put cmp k v (put cmp k v es))) p ∙ ap (λ rest. e ∷ rest) (put_twice cmp total k v es)
    ] refl

-- routes and records are the same as themselves
same_option : {A : Type 0} (bytes : A → List ℕ) (o : Option A) → option_eq (λ a b. pointwise nat_eq (bytes a) (bytes b)) o o ≡ true
same_option bytes None = refl
same_option bytes (Some x) = nat_list_eq_equiv.refl (bytes x)

-- a test that a Path passes
passed : (b : Bool) (x w : paths.PathOutcome) → replies.Done ≢ x.reply → replies.Done ≡ (cond b x w).reply → (b ≡ false) × (replies.Done ≡ w.reply)
passed true x w other done = absurd (other done)
passed false x w other done = (refl, done)

passing : (b c d e : Bool) (u x y z w : paths.PathOutcome) → b ≡ false → c ≡ false → d ≡ false → e ≡ false → cond b u (cond c x (cond d y (cond e z w))) ≡ w
passing b c d e u x y z w o p q n =
    ap (λ t. cond t u (cond c x (cond d y (cond e z w)))) o ∙ ap (λ t. cond t x (cond d y (cond e z w))) p ∙ ap (λ t. cond t y (cond e z w)) q ∙ ap (λ t. cond t z w) n

-- an error isn't done
not_done : (e : RsvpError) → replies.Done ≢ replies.Error e
not_done e is = cc

not_done_refused : (refusal : Refusal) → replies.Done ≢ replies.Refused refusal
not_done_refused refusal is = cc

-- a Path that is accepted, by a router with these tunnels
record IsAccepted (r : Router) (tunnels : List (ℕ × Tunnel)) (p : Path) : Type 0 where
  elsewhere : is_head r tunnels (key_of p) ≡ false
  ipv4 : not (p.label_request.l3pid == 0x0800) ≡ false
  rated : is_none (token_rate 1 p.tspec) ≡ false
  unlooped : has_loop r p.recorded ≡ false

-- its way
record IsTaken (r : Router) (s : Facts) (known : Option PathFact) (link : ℕ) (p : Path) (o : paths.PathOutcome) : Type 0 where
  accepted : IsAccepted r s.tunnels p
  way : Choice
  is : o ≡ taken r s known link p way

way_taken : (r : Router) (s : Facts) (known : Option PathFact) (link : ℕ) (p : Path) (way : Result Choice RsvpError) → replies.Done ≡ (path_on_its_way r s known link p way).reply → (choice : Choice) × (path_on_its_way r s known link p way ≡ taken r s known link p choice)
unfolding path_on_its_way
way_taken r s known link p (Err e) done = absurd (not_done e done)
way_taken r s known link p (Ok way) done =
    elim (is_none known && nat_le 1024 (length s.paths)) as (λ b. replies.Done ≡ (cond b (failed r s link p system_error) (taken r s known link p way)).reply → (choice : Choice) × (cond b (failed r s link p system_error) (taken r s known link p way) ≡ taken r s known link p choice)) [
      | true ↦ λ d. absurd (not_done system_error d)
      | false ↦ λ d. (way, refl)
    ] done

path_taken : (r : Router) (s : Facts) (link : ℕ) (p : Path) → replies.Done ≡ (path_arrival r s link p).reply → IsTaken r s (find key_cmp (key_of p) s.paths) link p (path_arrival r s link p)
unfolding path_arrival
path_taken r s link p done =
    let known = find key_cmp (key_of p) s.paths in
    let on = path_on_its_way r s known link p (way_for (place_of r s) known p) in
    let head = passed (is_head r s.tunnels (key_of p)) (paths.refused s NoMatch) _ (not_done_refused NoMatch) done in
    let ipv4 = passed (not (p.label_request.l3pid == 0x0800)) (failed r s link p unsupported_l3pid) _ (not_done unsupported_l3pid) head.1 in
    let rated = passed (is_none (token_rate 1 p.tspec)) (failed r s link p bad_tspec) _ (not_done bad_tspec) ipv4.1 in
    let unlooped = passed (has_loop r p.recorded) (failed r s link p routing_loop) on (not_done routing_loop) rated.1 in
    let way = way_taken r s known link p (way_for (place_of r s) known p) unlooped.1 in
    record {
      accepted = record { elsewhere = head.0; ipv4 = ipv4.0; rated = rated.0; unlooped = unlooped.0 };
      way = way.0;
      is = passing _ _ _ _ (paths.refused s NoMatch) (failed r s link p unsupported_l3pid) (failed r s link p bad_tspec) (failed r s link p routing_loop) on head.0 ipv4.0 rated.0 unlooped.0 ∙ way.1;
    }

-- the way of a path that was taken by it
way_again : (moment : ℕ) (known : Option PathFact) (link : ℕ) (p : Path) (way : Choice) → way_of (path_by moment known link p way) ≡ way
way_again moment known link p Tail = refl
way_again moment known link p (Link out rest) = refl

-- a path that a Path made, once more made by it
path_again : (moment : ℕ) (known : Option PathFact) (link : ℕ) (p : Path) (way : Choice) → path_by moment (Some (path_by moment known link p way)) link p way ≡ path_by moment known link p way
path_again moment known link p way =
    ap (λ (origins : List (Ipv4Addr × Origin)). record (path_by moment known link p way) { origins = origins }) (put_twice address_cmp address_total p.sender.sender (origin_of moment link p) (origins_of known))

-- that a record is dropped is told once
errors_again : (n : Place) (key : Key) (fact : PathFact) → record_errors n key (Some fact) fact ≡ []
unfolding record_errors
errors_again n key fact =
    let told = told_upstream n key fact (Some fact.tspec) (found_here n.router record_too_long) in
    ap (λ b. cond (drops_record n.router fact && not b) told []) (same_option record_bytes fact.recorded)
    ∙ elim (drops_record n.router fact) as (λ b. cond (b && false) told [] ≡ []) [ true ↦ refl | false ↦ refl ]

-- A Path arrives again, where the path that it made stands at the same moment: it changes nothing.
arrival_again : (r : Router) (s : Facts) (known : Option PathFact) (link : ℕ) (p : Path) (way : Choice) → IsAccepted r s.tunnels p → T (is_sorted key_cmp s.paths) → find key_cmp (key_of p) s.paths ≡ Some (path_by s.moment known link p way) → path_arrival r s link p ≡ paths.done [] s
unfolding path_arrival path_on_its_way way_for
arrival_again r s known link p way accepted in_order found =
    let key = key_of p in
    let fact = path_by s.moment known link p way in
    passing _ _ _ _ (paths.refused s NoMatch) (failed r s link p unsupported_l3pid) (failed r s link p bad_tspec) (failed r s link p routing_loop) _ accepted.elsewhere accepted.ipv4 accepted.rated accepted.unlooped
    ∙ ap (λ k. path_on_its_way r s k link p (way_for (place_of r s) k p)) found
    ∙ ap (λ t. path_on_its_way r s (Some fact) link p (cond t (Ok (way_of fact)) (next_hop (place_of r s) p.route p.session.endpoint))) (same_option route_bytes p.route)
    ∙ ap (λ w. path_on_its_way r s (Some fact) link p (Ok w)) (way_again s.moment known link p way)
    ∙ ap (λ again. paths.done (record_errors (place_of r s) key (Some fact) again) (with_path key again s)) (path_again s.moment known link p way)
    ∙ (λ i. paths.done (errors_again (place_of r s) key fact i) (record s { paths = put-found key_cmp key_total key fact s.paths in_order found i }))

-- what a Path that is done came upon
record IsMet (r : Router) (s : State) (link : ℕ) (p : Path) (o : Outcome) : Type 0 where
  open_link : IsOpen r s.facts link
  accepted : IsAccepted r s.facts.tunnels p
  way : Choice
  is : o ≡ of_paths s (taken r s.facts (find key_cmp (key_of p) s.facts.paths) link p way)

met : (r : Router) (s : State) (link : ℕ) (p : Path) → replies.Done ≡ (arrival r s (hop_arrive link (contents.Path p))).reply → IsMet r s link p (arrival r s (hop_arrive link (contents.Path p)))
met r s link p is_done =
    let a : Arrive = hop_arrive link (contents.Path p) in
    let was_open = arrival_open r s a is_done in
    let read = arrival_read r s a was_open in
    let labelled = labelled_done r s link p (is_done ∙ ap (λ (o : Outcome). o.reply) read) in
    let t = path_taken r s.facts link p (is_done ∙ ap (λ (o : Outcome). o.reply) (read ∙ labelled)) in
    record { open_link = was_open; accepted = t.accepted; way = t.way; is = read ∙ labelled ∙ ap (of_paths s) t.is }

module _ (r : Router) (before after : State) (made : Made) (link : ℕ) (p : Path) (sound : IsSound r before) (x : Step r before made after) (is : made.event ≡ comes link (contents.Path p)) (done : made.reply ≡ replies.Done) where
  meets : IsMet r before link p (arrival r before (hop_arrive link (contents.Path p)))
  meets = met r before link p (sym done ∙ answered r before after made (comes link (contents.Path p)) (arrival r before (hop_arrive link (contents.Path p))) x is refl)

  known : Option PathFact
  known = find key_cmp (key_of p) before.facts.paths

  -- its outcome, and what is known after it
  takes : Outcome
  takes = of_paths before (taken r before.facts known link p meets.way)

  came : after ≡ known_after r before made.labels takes
  unfolding takes known
  came = led r before after made (comes link (contents.Path p)) takes x is meets.is

  made_path : PathFact
  made_path = path_by before.facts.moment known link p meets.way

  path_found : find key_cmp (key_of p) after.facts.paths ≡ Some made_path
  unfolding takes known made_path repaired repairs_left
  path_found =
      ap (λ (s : State). find key_cmp (key_of p) s.facts.paths) came
      ∙ path_left r takes.after (key_of p) (not_given_up r takes.after sound.paths.tunnels (key_of p) meets.accepted.elsewhere)
      ∙ find-put_same key_cmp key_total (key_of p) made_path before.facts.paths

  -- the moment is the same, and the same links are up
  moment_after : after.facts.moment ≡ before.facts.moment
  unfolding takes taken_over repaired repairs_left
  moment_after = ap (λ (s : State). s.facts.moment) came

  up_after : after.facts.up ≡ before.facts.up
  unfolding takes taken_over repaired repairs_left
  up_after = ap (λ (s : State). s.facts.up) came

  -- and the LSP is still no head
  elsewhere_after : IsSound r after → is_head r after.facts.tunnels (key_of p) ≡ false
  unfolding made_path
  elsewhere_after is_after =
      sym (subst (λ (o : Option PathFact). IfSome o (λ f. IsHeadOf r after.facts.tunnels (key_of p, f))) path_found (head_known r after.facts.tunnels (key_of p) after.facts.paths is_after.paths.heads))
      ∙ role_of-elsewhere meets.way

  -- the same Path is done again, and leaves all as it is
  does_again : IsSound r after → arrival r after (hop_arrive link (contents.Path p)) ≡ replied replies.Done [] after
  unfolding made_path
  does_again is_after =
      let open_link : IsOpen r after.facts link = record { known = meets.open_link.known; up = ap (λ up. not (is_up up link)) up_after ∙ meets.open_link.up } in
      let accepted : IsAccepted r after.facts.tunnels p = record { elsewhere = elsewhere_after is_after; ipv4 = meets.accepted.ipv4; rated = meets.accepted.rated; unlooped = meets.accepted.unlooped } in
      let found : find key_cmp (key_of p) after.facts.paths ≡ Some (path_by after.facts.moment known link p meets.way) = path_found ∙ ap (λ moment. Some (path_by moment known link p meets.way)) (sym moment_after) in
      let again = arrival_again r after.facts known link p meets.way accepted is_after.paths.paths.in_order found in
      arrival_read r after (hop_arrive link (contents.Path p)) open_link ∙ labelled_again r after link p made_path path_found again

  -- no tunnel's new LSP is reserved then
  settled_after : AreSettled r after
  unfolding takes
  settled_after = subst (AreSettled r) (sym came) (heard-settles r before takes made.labels refl)

  -- and the bandwidth of bypasses stands as it is promised
  stands_after : IsRouter r → AreStanding r after
  unfolding takes known
  stands_after router =
      let event = comes link (contents.Path p) in
      let leaves = outcome-leaves r before event router sound (subst IsEvent is x.possible) (λ cold. sym is ∙ x.awake cold) in
      let drafted : IsDrafted r before takes.after = subst (λ (o : Outcome). LeavesBy r before o.is_silent o.after) meets.is leaves in
      subst (AreStanding r) (sym came) (stands_sent r before takes (settled r made.labels takes.after) (stands_settled r before takes.after made.labels sound drafted))

  -- A Path that is done makes or renews its origin.
  pub path_renews : (fact : PathFact) × (find key_cmp (key_of p) after.facts.paths ≡ Some fact) × (find address_cmp p.sender.sender fact.origins ≡ Some (origin_of before.facts.moment link p))
  unfolding made_path
  path_renews = (made_path, path_found, find-put_same address_cmp address_total p.sender.sender (origin_of before.facts.moment link p) (origins_of known))

-- A Path that is done, once more.
pub path_repeats : (r : Router) (a b c : State) (one other : Made) (link : ℕ) (p : Path) → IsRouter r → IsSound r a → one.event ≡ comes link (contents.Path p) → other.event ≡ comes link (contents.Path p) → one.reply ≡ replies.Done → Step r a one b → Step r b other c → (other.reply ≡ replies.Done) × (other.outputs ≡ []) × (c ≡ b)
path_repeats r a b c one other link p router sound is again done x y =
    let sound_b = sound_step r a one b router sound x in
    still_step r b c other (comes link (contents.Path p)) (replied replies.Done [] b) y again (does_again r a b one link p sound x is done sound_b) (done-still r b sound_b (settled_after r a b one link p sound x is done) (stands_after r a b one link p sound x is done router))
