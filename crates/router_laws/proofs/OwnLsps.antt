-- Messages for the LSPs of tunnels that begin here.
use Rattle.std.specs.Prelude.{◌≡◌, ◌&&◌, ◌++◌, ◌==◌, ℕ, not, Bool, true, false, cond, if◌then◌else◌, List, [], ◌∷◌, filter_map, length, Option, Some, None, IfSome, is_none}
use Rattle.std.specs.FinMap.Entries.{find}
use Rattle.std.specs.Option.{option_map_or}
use Rattle.std.specs.Ordering.{nat_cmp}
use Rattle.std.specs.declared.net.ipv4_addr.Ipv4Addr.{Ipv4Addr}
use Rattle.std.proofs.Common.{refl, ap, arith, subst, sym, ◌∙◌}
use Rattle.std.proofs.lemmas.Bool.{and_parts, eqb-true}
use Rattle.std.proofs.lemmas.Cmp.{nat_cmp_total}
use Rattle.rsvp_contents.specs.declared.messages.Content.TheVariants as contents
use Rattle.rsvp_contents.specs.declared.messages.Content.{Content}
use Rattle.rsvp_contents.specs.declared.messages.Path.{Path}
use Rattle.rsvp_contents.specs.declared.messages.PathErr.{PathErr}
use Rattle.sorted_rows.specs.RowsLaws.{find-put_same}
use Rattle.rsvp_bodies.specs.declared.step.Step.{Step}
use Rattle.lsr_facts.specs.Lifetimes.{begins_here}
use Rattle.lsr_facts.specs.Orders.{is_one_of, item_cmp, key_cmp}
use Rattle.lsr_facts.specs.Routers.{HasLink}
use Rattle.lsr_facts.specs.Tunnels.{heads_of, is_head}
use Rattle.lsr_facts.specs.declared.facts.Facts.{Facts}
use Rattle.lsr_facts.specs.declared.key.Key.{Key}
use Rattle.lsr_facts.specs.declared.path_fact.Origin.{Origin}
use Rattle.lsr_facts.specs.declared.path_fact.PathFact.{PathFact}
use Rattle.lsr_facts.specs.declared.path_fact.Role.{Role}
use Rattle.lsr_facts.specs.declared.path_fact.Role.TheVariants as roles
use Rattle.lsr_facts.specs.declared.refusal.Refusal.TheVariants.{LinkDown, NoMatch, UnknownLink}
use Rattle.lsr_facts.specs.declared.reply.Reply.TheVariants as replies
use Rattle.lsr_facts.specs.declared.router.Router.{Router}
use Rattle.lsr_facts.specs.declared.tunnel.Tunnel.{Tunnel}
use Rattle.lsr_facts.specs.Upstreams.{upstream_cmp}
use Rattle.abstract_paths.specs.Arrivals.{hop_arrive}
use Rattle.abstract_paths.specs.declared.events.Made.{Made}
use Rattle.abstract_paths.proofs.Alongside.{with_noted-same}
use Rattle.abstract_paths.proofs.EventStanding.{with_noted-stands}
use Rattle.abstract_paths.proofs.Heads.{head_known}
use Rattle.abstract_paths.proofs.PathTable.{path_known}
use Rattle.abstract_paths.specs.Changes.{with_tunnel}
use Rattle.abstract_paths.specs.Heads.{noted, with_noted}
use Rattle.abstract_paths.specs.Outcomes as paths
use Rattle.abstract_paths.specs.Outputs.{between, errors_out, send_for, tear_for}
use Rattle.abstract_paths.specs.Outcomes.{lsp, told_to, told_upstream}
use Rattle.abstract_paths.specs.Paths.{failed, goes_on, key_of, path_arrival}
use Rattle.abstract_paths.specs.Places.{is_up, place_of}
use Rattle.abstract_paths.specs.Soundness.{IsCountAs, IsHeadOf, IsPath, IsStanding, IsWay, IsWayAs}
use Rattle.abstract_paths.specs.Stamps.{stamps}
use Rattle.abstract_paths.specs.Tears.{err_of_path, leaves_by, path_err_arrival, path_err_passed_on}
use Rattle.router_soundness.specs.Assigned.{AreStanding}
use Rattle.abstract_router.specs.Arrivals.{arrival, is_done, labelled_path_arrival, message_arrival}
use Rattle.abstract_router.specs.BypassTunnels.{bypass_tunnels_of}
use Rattle.lsr_facts.specs.Errors.{no_label}
use Rattle.abstract_router.specs.Labels.{has_free_label}
use Rattle.abstract_router.specs.Outcomes.{of_paths, refused, replied}
use Rattle.abstract_router.specs.Outputs.{item_stamps, outputs_of, upstream_stamps}
use Rattle.abstract_router.specs.Repairing.{told_repaired}
use Rattle.abstract_router.specs.Soundness.{IsSound}
use Rattle.abstract_router.specs.States.{State, with_facts}
use Rattle.abstract_router.specs.Steps.{AreSettled, known_after, sent_in, promised, settled}
use Rattle.abstract_router.specs.Steps as steps
use Rattle.abstract_router.specs.Upstreams.{upstream_of}
use Rattle.abstract_router.specs.Wanted.{items_of}
use Rattle.router_soundness.proofs.Beside.{assignments_beside, items_beside, sound_beside, upstream_beside}
use Rattle.router_laws.specs.Words.{comes}
use Rattle.router_laws.proofs.BypassTunnels.{bypass_tunnels-put}
use Rattle.router_laws.proofs.Led.{answered, led, sends}
use Rattle.router_laws.proofs.Still.{known-same, refused-still, sent-none, still_step}
use Rattle.router_laws.proofs.TunnelEvents.{noted_rests}

-- a message that comes over a link that is up does what it does
pub arrival_over : (r : Router) (s : State) (link : ℕ) (content : Content) → HasLink r link → is_up s.facts.up link ≡ true → arrival r s (hop_arrive link content) ≡ message_arrival r s link content
unfolding arrival
arrival_over r s link content there up =
    let does = message_arrival r s link content in
    ap (λ b. cond (not b) (refused s UnknownLink) (cond (not (is_up s.facts.up link)) (refused s LinkDown) does)) there
    ∙ ap (λ b. cond (not b) (refused s LinkDown) does) up

-- the first of two outcomes, where the test passes
passes : (b : Bool) (x w : paths.PathOutcome) → b ≡ true → cond b x w ≡ x
passes true x w p = refl
passes false x w p = absurd (let e = p in cc)

-- a Path for a head's key is refused
path_refused : (r : Router) (s : Facts) (link : ℕ) (p : Path) → is_head r s.tunnels (key_of p) ≡ true → path_arrival r s link p ≡ paths.refused s NoMatch
unfolding path_arrival
path_refused r s link p head = passes (is_head r s.tunnels (key_of p)) (paths.refused s NoMatch) _ head

head_refused : (r : Router) (s : State) (link : ℕ) (p : Path) → is_head r s.facts.tunnels (key_of p) ≡ true → labelled_path_arrival r s link p ≡ refused s NoMatch
unfolding labelled_path_arrival
head_refused r s link p head =
    ap (λ o.
    if is_done o.reply && is_none (find key_cmp (key_of p) s.facts.paths) && not (has_free_label r s.labels s.resting)
    then of_paths s (failed r s.facts link p no_label)
    else of_paths s o) (path_refused r s.facts link p head)

-- A Path for an LSP of a tunnel that begins here is refused.
pub own_path_refused : (r : Router) (before after : State) (made : Made) (link : ℕ) (p : Path) → HasLink r link → is_up before.facts.up link ≡ true → is_head r before.facts.tunnels (key_of p) ≡ true → steps.Step r before made after → made.event ≡ comes link (contents.Path p) → (made.reply ≡ replies.Refused NoMatch) × (made.outputs ≡ []) × (after ≡ before)
own_path_refused r before after made link p there up head x is =
    still_step r before after made (comes link (contents.Path p)) (refused before NoMatch) x is
    (arrival_over r before link (contents.Path p) there up ∙ head_refused r before link p head) (refused-still r before (refused before NoMatch) refl refl)

-- ---- PathErrs

-- An event that changes tunnels and no more, and reserves nothing, sends nothing.
module _ (r : Router) (s : State) (is : IsSound r s) (tunnels : List (ℕ × Tunnel)) (standing : IsStanding r (record s.facts { tunnels = tunnels })) (rests : AreSettled r (with_facts (record s.facts { tunnels = tunnels }) s)) (stand : AreStanding r s)
    (same_bypass_tunnels : bypass_tunnels_of r (with_facts (record s.facts { tunnels = tunnels }) s) ≡ bypass_tunnels_of r s) where
  abbrev changed : State
  changed = with_facts (record s.facts { tunnels = tunnels }) s

  -- the same is wanted, since bypasses run over what they ran over
  items_same : items_of r changed ≡ items_of r s
  items_same = items_beside r s s.facts.cold tunnels same_bypass_tunnels

  upstream_same : upstream_of r changed ≡ upstream_of r s
  upstream_same = upstream_beside r s s.facts.cold tunnels same_bypass_tunnels

  stand_changed : AreStanding r changed
  stand_changed = assignments_beside r s s.facts.cold tunnels same_bypass_tunnels ∙ stand

  sound_changed : IsSound r changed
  sound_changed = sound_beside r s s.facts.cold tunnels same_bypass_tunnels standing is

  known_changed : (chosen : List (Key × ℕ)) → known_after r s chosen (replied replies.Done [] changed) ≡ changed
  unfolding item_stamps upstream_stamps
  known_changed chosen =
      let t = settled r chosen changed in
      (λ i. record t {
        facts = record t.facts { sent = stamps item_cmp [] (sym items_same i) s.facts.sent t.facts.moment (items_of r t) };
        sent_upstream = stamps upstream_cmp [] (sym upstream_same i) s.sent_upstream t.facts.moment (upstream_of r t);
      })
      ∙ known-same r changed sound_changed rests stand_changed replies.Done [] chosen

  sends_changed : sent_in r s (replied replies.Done [] changed) changed ≡ []
  unfolding outputs_of
  sends_changed =
      let up = s.facts.up in
      let items = items_of r changed in
      let upstream = upstream_of r changed in
      (λ i. errors_out up (told_repaired r (promised r changed))
      ++ between item_cmp (tear_for up) (sym items_same i) items
      ++ between upstream_cmp (tear_for up) (sym upstream_same i) upstream
      ++ between item_cmp (send_for item_cmp []) items (sym items_same i)
      ++ between upstream_cmp (send_for upstream_cmp []) upstream (sym upstream_same i))
      ∙ sent-none r changed sound_changed rests stand_changed replies.Done

module _ (r : Router) (s : State) (e : PathErr) (fact : PathFact) (is : IsSound r s) (rests : AreSettled r s) (stand : AreStanding r s) (known : find key_cmp (lsp e.session e.sender) s.facts.paths ≡ Some fact) (head : is_head r s.facts.tunnels (lsp e.session e.sender) ≡ true) where
  abbrev key : Key
  key = lsp e.session e.sender

  abbrev number : ℕ
  number = e.session.tunnel

  abbrev noting : State
  noting = with_facts (with_noted e.error number s.facts) s

  begins : begins_here fact.role ≡ true
  begins = subst (λ (o : Option PathFact). IfSome o (λ f. IsHeadOf r s.facts.tunnels (key, f))) known (head_known r s.facts.tunnels key s.facts.paths is.paths.heads) ∙ head

  its : IsPath r s.facts.moment (key, fact)
  its = subst (λ (o : Option PathFact). IfSome o (λ f. IsPath r s.facts.moment (key, f))) known (path_known r s.facts.moment key s.facts.paths is.paths.paths)

  -- nobody is upstream of it
  no_origin : told_upstream (place_of r s.facts) key fact e.tspec e.error ≡ []
  no_origin = by fact.role fact.origins begins its.origins.count
    where
      by : (role : Role) (origins : List (Ipv4Addr × Origin)) → begins_here role ≡ true → IsCountAs role (length origins) → filter_map (told_to (place_of r s.facts) key e.tspec e.error) origins ≡ []
      by roles.Head [] so count = refl
      by roles.Head (o ∷ os) so count = absurd (omega (arith, count))
      by roles.Tail origins so count = absurd (let e = so in cc)
      by roles.Transit origins so count = absurd (let e = so in cc)

  -- the tunnel is there
  tunnel_there : (t : Tunnel) × (find nat_cmp number s.facts.tunnels ≡ Some t)
  unfolding is_head
  tunnel_there = by (find nat_cmp number s.facts.tunnels) refl head
    where
      by : (tunnel : Option Tunnel) → find nat_cmp number s.facts.tunnels ≡ tunnel → option_map_or (λ t. is_one_of (heads_of r (number, t)) key) tunnel false ≡ true → (t : Tunnel) × (find nat_cmp number s.facts.tunnels ≡ Some t)
      by None found so = absurd (let e = so in cc)
      by (Some t) found so = (t, found)

  -- and has the error noted
  noted_there : (t : Tunnel) × (find nat_cmp number noting.facts.tunnels ≡ Some t) × (t.noted ≡ Some (record { node = e.error.node; code = e.error.code; value = e.error.value }))
  noted_there =
      let t = tunnel_there.0 in (
        noted e.error t,
        ap (λ o. find nat_cmp number (option_map_or (λ u. with_tunnel number (noted e.error u) s.facts) o s.facts).tunnels) tunnel_there.1 ∙ find-put_same nat_cmp nat_cmp_total number (noted e.error t) s.facts.tunnels,
        refl,
      )

  -- nothing else changes, and nothing is sent
  noting_same : noting ≡ with_facts (record s.facts { tunnels = noting.facts.tunnels }) s
  noting_same = ap (λ facts. with_facts facts s) (with_noted-same e.error number s.facts)

  -- each bypass runs over what it ran over
  bypass_tunnels_noting : bypass_tunnels_of r (with_facts (record s.facts { tunnels = noting.facts.tunnels }) s) ≡ bypass_tunnels_of r s
  bypass_tunnels_noting =
      let t = tunnel_there.0 in
      ap (λ o. bypass_tunnels_of r (with_facts (record s.facts { tunnels = (option_map_or (λ u. with_tunnel number (noted e.error u) s.facts) o s.facts).tunnels }) s)) tunnel_there.1
      ∙ bypass_tunnels-put r s number t (noted e.error t) tunnel_there.1 (record { current = refl; endpoint = refl })

  noting_still : (chosen : List (Key × ℕ)) → (known_after r s chosen (replied replies.Done [] noting) ≡ noting) × (sent_in r s (replied replies.Done [] noting) noting ≡ [])
  noting_still chosen =
      let tunnels = noting.facts.tunnels in
      let standing = subst (IsStanding r) (with_noted-same e.error number s.facts) (with_noted-stands r s.facts e.error number is.paths) in
      let waits = subst (AreSettled r) noting_same (noted_rests r s rests e.error number) in
      subst (λ (t : State). (known_after r s chosen (replied replies.Done [] t) ≡ t) × (sent_in r s (replied replies.Done [] t) t ≡ [])) (sym noting_same)
      (known_changed r s is tunnels standing waits stand bypass_tunnels_noting chosen, sends_changed r s is tunnels standing waits stand bypass_tunnels_noting)

  noting_is : (link : ℕ) → leaves_by link fact ≡ true → of_paths s (path_err_arrival r s.facts link e) ≡ replied replies.Done [] noting
  unfolding path_err_arrival
  noting_is link leaves =
      ap (λ o. of_paths s (path_err_passed_on r s.facts link e o)) known
      ∙ ap (λ b. of_paths s (cond b (err_of_path r s.facts key e fact) (paths.refused s.facts NoMatch))) leaves
      ∙ ap (λ b. of_paths s (paths.done (told_upstream (place_of r s.facts) key fact e.tspec e.error) (cond b (with_noted e.error number s.facts) s.facts))) begins
      ∙ ap (λ told. replied replies.Done told noting) no_origin

-- A path leaves by a link of the router.
pub leaves_over : (r : Router) (link : ℕ) (fact : PathFact) → IsWay r fact → leaves_by link fact ≡ true → HasLink r link
unfolding leaves_by
leaves_over r link fact way leaves =
    let parts = and_parts (goes_on fact.role) (fact.out_link == link) leaves in
    subst (HasLink r) (eqb-true fact.out_link link parts.1) (by fact.role fact.rest way parts.0)
  where
    by : (role : Role) (rest : Option (List Step)) → IsWayAs r role fact.out_link rest → goes_on role ≡ true → HasLink r fact.out_link
    by roles.Head rest has goes = has
    by roles.Transit rest has goes = has
    by roles.Tail rest has goes = absurd (let e = goes in cc)

-- A PathErr for an LSP of a tunnel that begins here.
pub own_error_noted : (r : Router) (before after : State) (made : Made) (link : ℕ) (e : PathErr) (fact : PathFact) → IsSound r before → AreSettled r before → AreStanding r before → is_up before.facts.up link ≡ true
    → find key_cmp (lsp e.session e.sender) before.facts.paths ≡ Some fact → leaves_by link fact ≡ true → is_head r before.facts.tunnels (lsp e.session e.sender) ≡ true → steps.Step r before made after → made.event ≡ comes link (contents.PathErr e)
    → (made.reply ≡ replies.Done) × (made.outputs ≡ []) × (after ≡ with_facts (with_noted e.error e.session.tunnel before.facts) before)
    × ((t : Tunnel) × (find nat_cmp e.session.tunnel after.facts.tunnels ≡ Some t) × (t.noted ≡ Some (record { node = e.error.node; code = e.error.code; value = e.error.value })))
own_error_noted r before after made link e fact is rests stand up known leaves head x event =
    let there = leaves_over r link fact (its r before e fact is rests stand known head).way leaves in
    let o = replied replies.Done [] (noting r before e fact is rests stand known head) in
    let does = arrival_over r before link (contents.PathErr e) there up ∙ noting_is r before e fact is rests stand known head link leaves in
    let still = noting_still r before e fact is rests stand known head made.labels in
    let came = led r before after made (comes link (contents.PathErr e)) o x event does ∙ still.0 in
    let noted_one = noted_there r before e fact is rests stand known head in (
      answered r before after made (comes link (contents.PathErr e)) o x event does,
      sends r before after made (comes link (contents.PathErr e)) o x event does ∙ ap (sent_in r before o) came ∙ still.1,
      came,
      (noted_one.0, ap (λ (s : State). find nat_cmp e.session.tunnel s.facts.tunnels) came ∙ noted_one.1, noted_one.2),
    )
