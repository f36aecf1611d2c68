use Rattle.std.proofs.Common.{◌||◌, not, sym, ap, ◌∙◌}
use Rattle.std.specs.List.{list_any}
use Rattle.lsr_facts.specs.Lifetimes.{lives_past}
use Rattle.lsr_facts.proofs.lifetimes.expires.Goals as goal

pub returns-else-not-lives_on : goal.returns-else-not-lives_on
returns-else-not-lives_on c =
    let gone = list_any (λ origin. not (lives_past c.args.moment origin)) in
    let lives = ap not (sym c.lives_on.ensures ∙ c.if-not-lives_on.false) in
    c.has_expired.ensures ∙ ap gone c.as_slice.ensures.rows ∙ sym (ap (λ b. b || gone c.args.path.now.1.origins) lives)
