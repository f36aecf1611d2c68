use Rattle.std.proofs.Common.{sym}
use Rattle.std.proofs.lemmas.List.{nil_from_length}
use Rattle.std.proofs.lemmas.Bool.{eqb-true}
use Rattle.std.proofs.lemmas.Result.{err_from_is_err_and}
use Rattle.rsvp_messages.proofs.CountedUpTo.{all_counted, no_object, one_more_counted}
use Rattle.rsvp_messages.proofs.counts.read_objects.Goals as goal

pub returns-in_err-object-clause-fault : goal.returns-in_err-object-clause-fault
returns-in_err-object-clause-fault c =
    let p = err_from_is_err_and c.from_residual-in_err-object.result c.from_residual-in_err-object.ensures.1 in
    rw (p.1, p.2)
    (no_object c.args.kind c.args.bytes.now c.loop-rest.kept.items c.loop-rest.rest.now _
    (λ e. let h = rw e at c.loop-rest-test.ensures in cc)
    c.in_err-object.ensures c.loop-rest.invariant.0)

pub loop-rest-preserved : goal.loop-rest-preserved
loop-rest-preserved c =
    let counts = c.in_ok-count_in.ensures.counted in
    let front = c.in_ok-object.ensures.found in (
      rw (counts, c.split_at.ensures.back)
          (one_more_counted c.args.kind c.args.bytes.now c.loop-rest.kept.items c.loop-rest.rest.now c.in_ok-object.object c.in_ok-object.len front
          c.loop-rest.invariant.0),
      c.in_ok-count_in.ensures.classes,
    )

pub returns-clause-found : goal.returns-clause-found
returns-clause-found c =
    all_counted c.args.kind c.args.bytes.now c.loop-rest.kept.items c.loop-rest.rest.now
    (nil_from_length _ (eqb-true _ _ (sym c.loop-rest-test.ensures)))
    c.loop-rest.invariant.0
