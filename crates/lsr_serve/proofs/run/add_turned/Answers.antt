-- The work of one port more, and of all.
use Rattle.std.proofs.Common.{◌∷◌, All, [], arith, length-append, subst, sym, ◌∙◌}
use Rattle.std.proofs.lemmas.Iterator.Adapters.{YieldsList-from_vec}
use Rattle.std.proofs.lemmas.Iterator.Consumers.{YieldsList-end}
use Rattle.std.proofs.lemmas.List.{map-id}
use Rattle.std.specs.Prelude.{IfOk}
use Rattle.interface_workers.specs.Chains.{IsWorkOf}
use Rattle.lsr_serve.proofs.Owning.{works_more}
use Rattle.lsr_serve.proofs.run.add_turned.Goals as goal

pub loop-one-preserved : goal.loop-one-preserved
loop-one-preserved g c = record {
  ports = omega (arith, c.in_ok-add_work.ensures.ports, c.loop-one.invariant.ports, length-append c.loop-one.yielded (c.in-Some.one ∷ []));
  workers = omega (arith, c.in_ok-push.ensures.len, c.loop-one.invariant.workers, length-append c.loop-one.yielded (c.in-Some.one ∷ []));
  counted = c.in_ok-add_work.ensures.counted c.loop-one.invariant.counted;
  own = λ setup. works_more setup (λ one. one.work) c.args.served.now c.loop-one.served c.add_work.new.served c.loop-one.yielded c.in-Some.one c.in_ok-work.field-0 c.in_ok-work.was
      (c.loop-one.invariant.own setup) (c.in_ok-add_work.ensures.own setup);
}

pub returns-clause-own : goal.returns-clause-own
returns-clause-own g c =
    let start = c.into_iter-one-iterator.ensures.into_iter_gives in
    let road = YieldsList-from_vec c.args.turned.items start.0 (start.1 ∙ c.args.turned.ok.0) in
    let end = YieldsList-end road c.loop-one.yielded c.loop-one.one-iterator c.loop-one.yielded_by c.next.result c.next.new.self c.in-None.is c.next.ensures.steps in
    λ setup begun all. c.loop-one.invariant.own setup begun (subst (All (λ one. IfOk one.work (IsWorkOf setup))) (sym (sym (map-id c.loop-one.yielded) ∙ end.0)) all)
