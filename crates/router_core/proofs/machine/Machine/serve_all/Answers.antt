-- One input more has its answer, and the steps among the answers are a run.
use Rattle.std.proofs.Common.{rules, ◌≡◌, ◌+◌, ◌++◌, ◌∷◌, List, Result, [], ap, sym, subst, take, ◌∙◌}
use Rattle.std.proofs.lemmas.List.{take_more}
use Rattle.lsr_facts.specs.declared.refusal.Refusal.{Refusal}
use Rattle.lsr_facts.specs.declared.router.Router.{Router}
use Rattle.router_core.specs.Machines.{AreAnswered, IsInputServed}
use Rattle.router_core.specs.declared.inputs.Input.{Input}
use Rattle.router_core.specs.declared.inputs.Served.{Served}
use Rattle.router_core.proofs.Answering.{answered_is_run, answered_more}
use Rattle.router_core.proofs.machine.Machine.serve_all.Goals as goal

pub loop-input-preserved : goal.loop-input-preserved
loop-input-preserved c =
    let inputs = c.args.inputs.now in
    let i = c.loop-input.input-index in
    let input = c.input-item.result in
    let old = c.args.self.now in
    let new = c.serve.new.self in
    let before = c.loop-input.invariant in
    let more : take (i + 1) inputs ≡ take i inputs ++ input ∷ [] = take_more inputs i input c.loop-input-test.true ∙ ap (λ (v : Input). take i inputs ++ v ∷ []) (sym {A = Input} c.input-item.is) in
    let served = subst (λ (q : Router). IsInputServed q c.loop-input.self.state input new.state c.serve.result) before.router c.serve.ensures.served in
    record {
      answered =
          subst (λ (xs : List Input). AreAnswered old.router old.state xs c.push_reserved.new.self.items new.state) (sym more)
          (subst (λ (answers : List (Result Served Refusal)). AreAnswered old.router old.state (take i inputs ++ input ∷ []) answers new.state) (sym c.push_reserved.ensures.items)
          (answered_more old.router old.state (take i inputs) c.loop-input.answers.items c.loop-input.self.state input c.serve.result new.state before.answered served));
      count = search rules;
      room = search rules;
      router = c.serve.ensures.router ∙ before.router;
    }

pub returns-clause-run : goal.returns-clause-run
returns-clause-run c =
    answered_is_run c.args.self.now.router c.args.self.now.state (take c.loop-input.input-index c.args.inputs.now) c.loop-input.answers.items c.loop-input.self.state c.loop-input.invariant.answered
