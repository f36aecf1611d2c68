use Rattle.std.proofs.Common.{sym, ◌∙◌}
use Rattle.std.proofs.lemmas.Iterator.Adapters.{YieldsList-from_vec}
use Rattle.std.proofs.lemmas.Iterator.Consumers.{YieldsList-end}
use Rattle.std.proofs.lemmas.List.{map-id}
use Rattle.rsvp_messages.proofs.Gathered.{adspecs_added, flows_added, parts_added, passing_added}
use Rattle.rsvp_messages.proofs.parts_reading.parts_of.Goals as goal

pub loop-object-preserved : goal.loop-object-preserved
loop-object-preserved c =
    let before = c.loop-object.invariant in
    let added = c.in_ok-add.ensures in
    let os = c.loop-object.yielded in
    let o = c.in-Some.object in
    record {
      parts = parts_added c.args.kind c.loop-object.parts c.add.new.parts os o before.parts added.parts;
      passing = passing_added c.args.kind c.loop-object.passing c.add.new.passing os o before.passing added.passing;
      adspecs = adspecs_added c.loop-object.adspecs.items c.add.new.adspecs.items os o before.adspecs added.adspecs;
      flows = flows_added c.args.kind c.loop-object.parts c.loop-object.flows.items c.add.new.flows.items os o before.parts before.flows added.flows;
    }

pub returns-clause-parts : goal.returns-clause-parts
returns-clause-parts c =
    let start = c.into_iter-object-iterator.ensures.into_iter_gives in
    let road = YieldsList-from_vec c.args.objects.items start.0 (start.1 ∙ c.args.objects.ok.0) in
    let end = YieldsList-end road c.loop-object.yielded c.loop-object.object-iterator c.loop-object.yielded_by c.next.result c.next.new.self c.in-None.is c.next.ensures.steps in
    rw (sym (map-id c.loop-object.yielded) ∙ end.0) at c.loop-object.invariant.parts
