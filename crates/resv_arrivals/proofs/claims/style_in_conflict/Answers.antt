use Rattle.std.proofs.Common.{List, sym, ap, ◌∙◌}
use Rattle.std.specs.Option.{option_map}
use Rattle.std.specs.Prelude.{find}
use Rattle.lsr_facts.specs.declared.key.Key.{Key}
use Rattle.lsr_facts.specs.declared.claim.Claim.{Claim}
use Rattle.resv_arrivals.specs.Conflicts.{conflicting_style, conflicts}
use Rattle.resv_arrivals.specs.Progresses.{resvs_at}
use Rattle.resv_arrivals.proofs.claims.style_in_conflict.Goals as goal

pub returns-in-Some : goal.returns-in-Some
returns-in-Some g c =
    let s = g.V.StateView.state c.args.view.now in
    let asked = c.args.asked.now in
    let first = λ (claims : List (Key × Claim)). option_map (λ (claim : Key × Claim). claim.1.style) (find (conflicts asked.link asked.style asked.key) claims) in
    c.conflicting_style.ensures ∙ ap first c.in-Some.ensures.claimed ∙ conflicting_style asked.link asked.style asked.key s.facts.paths (resvs_at s c.args.progress.now)

pub returns-in-None : goal.returns-in-None
returns-in-None g c =
    let s = g.V.StateView.state c.args.view.now in
    let asked = c.args.asked.now in
    let first = λ (claims : List (Key × Claim)). option_map (λ (claim : Key × Claim). claim.1.style) (find (conflicts asked.link asked.style asked.key) claims) in
    c.conflicting_style-in-None.ensures.style
    ∙ sym (conflicting_style asked.link asked.style asked.key s.facts.paths s.resvs)
    ∙ ap first c.in-None.ensures
    ∙ conflicting_style asked.link asked.style asked.key s.facts.paths (resvs_at s c.args.progress.now)
