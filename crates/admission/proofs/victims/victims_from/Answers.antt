use Rattle.std.proofs.Common.{nat_le, false, sym, subst, ◌≡◌, ◌∙◌, ap}
use Rattle.std.specs.List.{All}
use Rattle.std.specs.Ordering.{is_eq}
use Rattle.std.proofs.lemmas.Bool.{le-leb}
use Rattle.lsr_facts.specs.Orders.{key_cmp}
use Rattle.lsr_facts.specs.AdmissionLaws.{victims_of-none}
use Rattle.admission.specs.RoomLaws.{enough_is}
use Rattle.admission.proofs.Leaving.{turns_apart}
use Rattle.admission.proofs.victims.victims_from.Goals as goal

pub returns-then-total-limit : goal.returns-then-total-limit
returns-then-total-limit c =
    let limit = c.args.limit in
    let request = c.args.request.now in
    let claims = c.args.claims.now in
    let within = le-leb c.args.total limit c.if-total-limit.true in
    let enough = sym (ap (λ n. nat_le n limit) c.requires.total ∙ enough_is limit request claims) ∙ within in
    c.new.ensures.items ∙ sym (victims_of-none limit request claims enough)

pub count_needed-requires-clause-apart : goal.count_needed-requires-clause-apart
count_needed-requires-clause-apart c =
    let request = c.args.request.now in
    subst (All (λ key. is_eq (key_cmp key request.key) ≡ false)) (sym (c.deref.ensures.value ∙ c.in_ok-keys.ensures)) (turns_apart request c.args.claims.now)
