use Rattle.std.proofs.Common.{ℕ, not, ap, ◌∙◌}
use Rattle.std.specs.Option.{option_map}
use Rattle.lsr_facts.specs.Claims.{claim_of}
use Rattle.lsr_facts.specs.declared.resv_fact.ResvFact.{ResvFact}
use Rattle.admission.specs.Bandwidths.{Bandwidth}
use Rattle.admission.proofs.Editing.{gives_next, none_alike, takes_next}
use Rattle.admission.proofs.state.Admission.take.Goals as goal
use Rattle.admission.proofs.state.Admission.take.Goals.{then-is_none, else-is_none}

pub loop-edit-preserved : goal.loop-edit-preserved
loop-edit-preserved c =
    let edits = c.args.edits.now in
    let i = c.loop-edit.edit-index in
    let edit = c.edit-item.result in
    let within = c.loop-edit-test.true in
    let is = c.edit-item.is in
    let before = c.loop-edit.self in
    let now = c.if-is_none.self in
    let fact = λ (given : ResvFact × ℕ). given.0 in
    let claim = λ (given : ResvFact × ℕ). claim_of given.0 given.1 in
    elim c.if-is_none.branch [
      | then-is_none w ↦
          let none = ap not c.is_none.ensures ∙ ap (λ b. not (not b)) w.if-is_none.true in
          let made = w.self-is ∙ w.remove.ensures in
          (takes_next (option_map fact) (none_alike fact) edits i edit within is before.resvs now.resvs _ none (ap (λ (b : Bandwidth). b.resvs) made) c.loop-edit.invariant.0, takes_next (option_map claim) (none_alike claim) edits i edit within is before.claims now.claims _ none (ap (λ (b : Bandwidth). b.claims) made) c.loop-edit.invariant.1, ap (λ (b : Bandwidth). b.limits) made ∙ c.loop-edit.invariant.2)
      | else-is_none w ↦
          let some = ap not c.is_none.ensures ∙ ap (λ b. not (not b)) w.if-is_none.false in
          let made = w.self-is in
          (gives_next (option_map fact) (none_alike fact) edits i edit within is before.resvs now.resvs _ some (ap (λ (b : Bandwidth). b.resvs) made) c.loop-edit.invariant.0, gives_next (option_map claim) (none_alike claim) edits i edit within is before.claims now.claims _ some (ap (λ (b : Bandwidth). b.claims) made) c.loop-edit.invariant.1, ap (λ (b : Bandwidth). b.limits) made ∙ c.loop-edit.invariant.2)
    ]
