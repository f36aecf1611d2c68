use Rattle.std.proofs.Common.{refl, sym, ◌∙◌}
use Rattle.std.proofs.lemmas.Bool.{false≢true}
use Rattle.lsr_config.specs.Rules.{fault_of, Holds, elsewhere}
use Rattle.lsr_config.specs.declared.key.Key.TheVariants as key
use Rattle.lsr_config.proofs.Judging.{kept_alone, broken_alone}
use Rattle.lsr_config.proofs.Telling.{free_under}
use Rattle.lsr_config.proofs.tunnels.check_endpoint.Goals as goal

pub returns-then-not-is_free : goal.returns-then-not-is_free
unfolding fault_of Holds
returns-then-not-is_free c = λ document tunnel links its has says.
    broken_alone (elsewhere document links tunnel) _ (λ holds. false≢true (sym c.if-not-is_free.true ∙ (c.is_free.ensures document links its says).1 (holds c.args.endpoint has))) refl

pub returns : goal.returns
unfolding Holds
returns c = λ document tunnel links its has says.
    (kept_alone (elsewhere document links tunnel) (free_under key.Endpoint c.args.endpoint document tunnel links has ((c.is_free.ensures document links its says).0 c.if-not-is_free.false)), tt)
