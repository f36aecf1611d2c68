use Rattle.std.proofs.Common.{nat_lt, rules, ap, sym, ◌∙◌}
use Rattle.std.specs.Option.{option_map_or}
use Rattle.label_space.specs.Rests.{resting_past}
use Rattle.plain_views.proofs.edits.wake.Goals as goal

pub returns-in-Some : goal.returns-in-Some
returns-in-Some c =
    c.retain.ensures.kept (λ row. nat_lt c.in-Some.moment row.1) (λ label until answer called. search (rules, called))
    ∙ ap (λ moment. option_map_or (λ moment. resting_past moment c.args.resting.now) moment c.args.resting.now) (sym c.in-Some.is)
