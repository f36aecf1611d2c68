-- The entry is put, and what holds of a journal still holds.
use Rattle.std.proofs.Common.{◌≡◌, ◌+◌, ◌<◌, ◌-◌, ◌^◌, ◌++◌, ◌∷◌, ℕ, List, [], length, arith, ap, refl, subst, sym, ◌∙◌}
use Rattle.std.proofs.lemmas.Result.{err_from_is_err_and}
use Rattle.lsr_facts.specs.declared.router.Router.{Router}
use Rattle.abstract_router.specs.Soundness.{IsSound}
use Rattle.router_core.specs.Readies.{IsReady, after_ready}
use Rattle.router_core.specs.States.{RouterState}
use Rattle.run_journal.specs.Entries.{Recorded}
use Rattle.run_journal.specs.Journals.{IsEntered, IsKept, IsPlaneOf, IsShownMore, Journal, LeadToTable, journal_of, router_in}
use Rattle.run_journal.specs.Marks.{counted, one_if}
use Rattle.lookup_plane.specs.Changes.{Changes, IsChangeOf}
use Rattle.lookup_plane.specs.declared.change.TableChange.{TableChange}
use Rattle.run_journal.proofs.Announcing.{announced_leads, announced_parts}
use Rattle.run_journal.proofs.Keeping.{kept_push}
use Rattle.run_journal.proofs.Making.{recorded_made}
use Rattle.run_journal.proofs.locked.Locked.record.Given.{Over}
use Rattle.run_journal.proofs.locked.Locked.record.Goals as goal

-- what was under the lock before
was : (g : Over) → goal.After-push_reserved g → Journal
was g c = journal_of c.self.inside.machine c.self.inside.opening c.self.inside.base c.self.inside.from c.self.inside.entries.items c.self.inside.counts c.self.inside.plane

recorded : (g : Over) (c : goal.After-push_reserved g) → (is : Recorded c.self.inside.machine.router c.self.inside.machine.state c.args.entry c.make.new.self.state) × (is.made.event ≡ c.args.event.now)
unfolding was
recorded g c =
    let ready : IsReady (router_in (was g c)) c.args.event.now c.args.ready = subst (λ (j : Journal). IsReady (router_in j) c.args.event.now c.args.ready) (sym c.self.view_is) c.requires.ready in
    recorded_made (router_in (was g c)) c.make.new.self c.args.event.now c.args.ready c.args.entry ready c.requires.entry c.make.ensures.after (c.make.ensures.step c.args.event.now ready)

pub make-requires : goal.make-requires
make-requires g c = (c.args.event.now, subst (λ (j : Journal). IsReady (router_in j) c.args.event.now c.args.ready) (sym c.self.view_is) c.requires.ready)

-- the step was made ready for what was known
ready_was : (g : Over) (c : goal.After-push_reserved g) → IsReady (router_in (was g c)) c.args.event.now c.args.ready
unfolding was
ready_was g c = subst (λ (j : Journal). IsReady (router_in j) c.args.event.now c.args.ready) (sym c.self.view_is) c.requires.ready

-- what readers are shown
shown_is : (g : Over) (c : goal.After-push_reserved g) → c.show.new.plane.published ≡ c.self.inside.plane.published ++ c.announce.new.plane.pending
shown_is g c =
    let parts = announced_parts c.args.entry.changes_table c.args.ready c.self.inside.plane c.announce.new.plane c.in_ok-announce.ensures c.self.invariant.2.settled in
    ap (λ (p : Changes). p.published) c.show.ensures ∙ ap (λ (cs : List TableChange). cs ++ c.announce.new.plane.pending) parts.0

leads : (g : Over) (c : goal.After-push_reserved g) →
    LeadToTable c.self.inside.machine.router (after_ready c.args.ready c.self.inside.machine.state) (c.self.inside.plane.published ++ c.announce.new.plane.pending)
    × (length (c.self.inside.plane.published ++ c.announce.new.plane.pending) ≡ length c.self.inside.plane.published + one_if c.args.entry.changes_table)
    × IsShownMore c.args.entry.changes_table c.self.inside.plane.published (c.self.inside.plane.published ++ c.announce.new.plane.pending)
unfolding was
leads g c =
    announced_leads c.args.entry.changes_table c.args.ready c.self.inside.plane c.announce.new.plane (router_in (was g c)) c.args.event.now c.in_ok-announce.ensures c.self.invariant.2.settled (ready_was g c)
    (c.requires.entry.told (router_in (was g c)) (ready_was g c)) c.self.invariant.0.table

-- what is under the lock now
now : (g : Over) → goal.After-push_reserved g → Journal
now g c = journal_of c.make.new.self c.self.inside.opening c.self.inside.base c.self.inside.from c.push_reserved.new.self.items c.count.new.self c.show.new.plane

now_is : (g : Over) (c : goal.After-push_reserved g) → now g c ≡ record (was g c) { entries = (was g c).entries ++ c.args.entry ∷ []; state = after_ready c.args.ready (was g c).state; counts = counted (was g c).counts c.args.entry; shown = (was g c).shown ++ c.announce.new.plane.pending; table = c.show.new.plane.table }
unfolding was now
now_is g c = λ i. record {
  router = (c.make.ensures.after i).router;
  opening = c.self.inside.opening;
  base = c.self.inside.base;
  from = c.self.inside.from;
  entries = c.push_reserved.ensures.items i;
  state = (c.make.ensures.after i).state;
  counts = c.count.ensures i;
  shown = shown_is g c i;
  table = c.show.new.plane.table;
}

entered : (g : Over) (c : goal.After-push_reserved g) → IsEntered (was g c) c.args.event.now c.args.entry (now g c)
unfolding was now
entered g c = record {
  recorded = (recorded g c).0;
  event_is = (recorded g c).1;
  entries = ap (λ (j : Journal). j.entries) (now_is g c);
  counts = ap (λ (j : Journal). j.counts) (now_is g c);
  shown = subst (IsShownMore c.args.entry.changes_table c.self.inside.plane.published) (sym (shown_is g c)) (leads g c).2;
  router = ap (λ (j : Journal). j.router) (now_is g c);
  opening = refl;
  base = refl;
  from = refl;
}

pub invariant_of-self-2 : goal.invariant_of-self-2
unfolding was now
invariant_of-self-2 g c =
    let state : c.make.new.self.state ≡ after_ready c.args.ready c.self.inside.machine.state = ap (λ (s : RouterState). s.state) c.make.ensures.after in
    let router : c.make.new.self.router ≡ c.self.inside.machine.router = ap (λ (s : RouterState). s.router) c.make.ensures.after in
    let sound : IsSound c.self.inside.machine.router (after_ready c.args.ready c.self.inside.machine.state) =
    subst (IsSound c.self.inside.machine.router) state (subst (λ (r : Router). IsSound r c.make.new.self.state) router c.soundness-2.ensures.sound) in
    let kept = kept_push (was g c) c.args.entry (after_ready c.args.ready c.self.inside.machine.state) (c.self.inside.plane.published ++ c.announce.new.plane.pending) c.show.new.plane.table c.self.invariant.0
    (subst (λ (j : Journal). length j.entries < 4096) (sym c.self.view_is) c.requires.room)
    (subst (λ (j : Journal). j.counts.number < 2 ^ 62) (sym c.self.view_is) c.requires.low)
    (subst (λ (j : Journal). c.args.entry.entry.port - 1 < length j.counts.marks) (sym c.self.view_is) c.requires.port)
    (subst (Recorded c.self.inside.machine.router c.self.inside.machine.state c.args.entry) state (recorded g c).0) sound
    (omega (arith, (leads g c).1, c.self.invariant.0.shown)) (leads g c).0 (leads g c).2 in
    let parts = announced_parts c.args.entry.changes_table c.args.ready c.self.inside.plane c.announce.new.plane c.in_ok-announce.ensures c.self.invariant.2.settled in (
      subst IsKept (sym (now_is g c)) kept,
      omega (arith, c.self.invariant.1, c.push_reserved.ensures.capacity),
      record {
        first = ap (λ (p : Changes). p.first_label) c.show.ensures ∙ parts.1 ∙ c.self.invariant.2.first ∙ ap (λ (r : Router). r.labels.first) (sym router);
        last = ap (λ (p : Changes). p.last_label) c.show.ensures ∙ parts.2 ∙ c.self.invariant.2.last ∙ ap (λ (r : Router). r.labels.last) (sym router);
        settled = ap (λ (p : Changes). p.pending) c.show.ensures;
      },
    )

pub announce-requires : goal.announce-requires
announce-requires g c = λ change is.
    let ready : IsReady c.self.inside.machine c.args.event.now c.args.ready =
    subst (λ (j : Journal). IsReady (router_in j) c.args.event.now c.args.ready) (sym c.self.view_is) c.requires.ready in
    let own = is.labels c.self.inside.machine c.args.event.now ready c.self.invariant.0.sound in
    subst (λ (first : ℕ). IsChangeOf first c.self.inside.plane.last_label change) (sym c.self.invariant.2.first)
    (subst (λ (last : ℕ). IsChangeOf c.self.inside.machine.router.labels.first last change) (sym c.self.invariant.2.last) own)

-- what is shown leads to the table of the step that was made
pub show-requires-clause-made : goal.show-requires-clause-made
show-requires-clause-made g c =
    let ready : IsReady c.self.inside.machine c.args.event.now c.args.ready =
    subst (λ (j : Journal). IsReady (router_in j) c.args.event.now c.args.ready) (sym c.self.view_is) c.requires.ready in
    let parts = announced_parts c.args.entry.changes_table c.args.ready c.self.inside.plane c.announce.new.plane c.in_ok-announce.ensures c.self.invariant.2.settled in
    let led = announced_leads c.args.entry.changes_table c.args.ready c.self.inside.plane c.announce.new.plane c.self.inside.machine c.args.event.now c.in_ok-announce.ensures c.self.invariant.2.settled ready
    (c.requires.entry.told c.self.inside.machine ready) c.self.invariant.0.table in
    subst (λ (shown : List TableChange). LeadToTable c.make.new.self.router c.make.new.self.state (shown ++ c.announce.new.plane.pending)) (sym parts.0)
    (subst (λ (s : RouterState). LeadToTable s.router s.state (c.self.inside.plane.published ++ c.announce.new.plane.pending)) (sym c.make.ensures.after) led.0)

pub show-requires-clause-few : goal.show-requires-clause-few
show-requires-clause-few g c =
    let parts = announced_parts c.args.entry.changes_table c.args.ready c.self.inside.plane c.announce.new.plane c.in_ok-announce.ensures c.self.invariant.2.settled in
    let many : length c.announce.new.plane.published ≡ length c.self.inside.plane.published = ap length parts.0 in
    omega (arith, many, parts.3, c.self.invariant.0.shown, c.self.invariant.0.published, c.self.invariant.0.low)

pub show-requires-clause-none : goal.show-requires-clause-none
show-requires-clause-none g c =
    (announced_parts c.args.entry.changes_table c.args.ready c.self.inside.plane c.announce.new.plane c.in_ok-announce.ensures c.self.invariant.2.settled).4

-- where nothing was announced all is as it was
pub returns-in_err-announce : goal.returns-in_err-announce
returns-in_err-announce g c =
    let p = err_from_is_err_and c.from_residual.result c.from_residual.ensures.1 in
    let with_plane : Changes → Journal = journal_of c.self.inside.machine c.self.inside.opening c.self.inside.base c.self.inside.from c.self.inside.entries.items c.self.inside.counts in
    rw p.1 (record { entered = tt; kept = subst (λ (j : Journal). with_plane c.announce.new.plane ≡ j) c.self.view_is (ap with_plane c.in_err-announce.ensures) })

pub invariant_of-self : goal.invariant_of-self
invariant_of-self g c =
    let kept : Changes → Type 0 = λ p. IsKept (journal_of c.self.inside.machine c.self.inside.opening c.self.inside.base c.self.inside.from c.self.inside.entries.items c.self.inside.counts p) in
    (subst kept (sym c.in_err-announce.ensures) c.self.invariant.0, c.self.invariant.1, subst (IsPlaneOf c.self.inside.machine.router) (sym c.in_err-announce.ensures) c.self.invariant.2)

pub returns : goal.returns
unfolding was now
returns g c = record { entered = subst (λ (j : Journal). IsEntered j c.args.event.now c.args.entry (now g c)) c.self.view_is (entered g c); kept = tt }
