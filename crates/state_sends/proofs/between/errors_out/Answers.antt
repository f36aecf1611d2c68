-- The errors are left whose link is up.
use Rattle.std.proofs.Common.{ap, filter, rules, ◌∙◌}
use Rattle.std.proofs.lemmas.Fn.{filter_same}
use Rattle.abstract_paths.specs.declared.events.Output.{Output}
use Rattle.abstract_paths.specs.Places.{is_up}
use Rattle.state_sends.proofs.between.errors_out.Goals as goal

pub returns : goal.returns
returns c =
    let passes = λ (output : Output). is_up c.args.up.now output.link in
    c.from_vec.ensures ∙ filter_same _ passes _ (λ x b f' k. search rules) _ _ c.retain.ensures.filtered ∙ ap (filter passes) c.into_vec-sent.ensures
