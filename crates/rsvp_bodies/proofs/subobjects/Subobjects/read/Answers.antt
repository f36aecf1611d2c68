use Rattle.std.proofs.Common.{◌≡◌, [], sym, arith}
use Rattle.std.proofs.lemmas.List.{nil_from_length}
use Rattle.std.proofs.lemmas.Bool.{eqb-true}
use Rattle.std.proofs.lemmas.Result.{err_from_is_err_and}
use Rattle.rsvp_bodies.proofs.Sequences.{none_read, one_more_read, part_refused, whole_read, code_by_parts, length-flat_map-spelled}
use Rattle.rsvp_bodies.proofs.Codes.{subobjects_cut}
use Rattle.rsvp_bodies.proofs.subobjects.Subobjects.read.Goals as goal

pub returns-in_default : goal.returns-in_default
returns-in_default g c =
    none_read c.args.bytes.now c.loop-rest.items.items c.loop-rest.rest.now
    (λ e. let h = rw e at c.loop-rest-test.ensures in cc)
    (λ x first after e s. c.in_default.ensures.none (first, after, e, g.met.T.Subobject.is_subobject first x s))
    c.loop-rest.invariant

pub returns-in_err-read : goal.returns-in_err-read
returns-in_err-read g c =
    let p = err_from_is_err_and c.from_residual.result c.from_residual.ensures.1 in
    let parts = c.in-Some.ensures.found in
    rw (p.1, p.2)
    (part_refused subobjects_cut g.met.T.Subobject.is_subobject c.args.bytes.now c.loop-rest.items.items c.in-Some.first.now c.in-Some.after.now _ parts.0 c.in_err-read.ensures
    (rw parts.1 at c.loop-rest.invariant))

pub loop-rest-preserved : goal.loop-rest-preserved
loop-rest-preserved g c =
    let parts = c.in-Some.ensures.found in
    let code = code_by_parts subobjects_cut g.met.T.Subobject.is_subobject g.met.T.Subobject.one_value in
    rw c.in_ok-push.ensures.items
    (one_more_read code c.args.bytes.now c.loop-rest.items.items c.in-Some.first.now c.in-Some.after.now c.in_ok-read.field-0 c.in_ok-read.ensures.found
    (rw parts.1 at c.loop-rest.invariant))

pub from_vec-requires : goal.from_vec-requires
from_vec-requires g c =
    let none : c.loop-rest.rest.now ≡ [] = nil_from_length _ (eqb-true _ _ (sym c.loop-rest-test.ensures)) in
    let code = code_by_parts subobjects_cut g.met.T.Subobject.is_subobject g.met.T.Subobject.one_value in
    let whole = whole_read code c.args.bytes.now c.loop-rest.items.items (rw none at c.loop-rest.invariant) in
    let same = length-flat_map-spelled g.T.Subobject.Spells g.T.Subobject.spelling g.met.T.Subobject.same_length c.args.bytes.now c.loop-rest.items.items whole.found in
    omega (arith, same, c.requires.fits)

pub returns : goal.returns
returns g c =
    let none : c.loop-rest.rest.now ≡ [] = nil_from_length _ (eqb-true _ _ (sym c.loop-rest-test.ensures)) in
    let code = code_by_parts subobjects_cut g.met.T.Subobject.is_subobject g.met.T.Subobject.one_value in
    rw c.from_vec.ensures (whole_read code c.args.bytes.now c.loop-rest.items.items (rw none at c.loop-rest.invariant))
