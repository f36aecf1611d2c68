-- How many records of links there are.
use Rattle.std.proofs.Common.{◌<◌, ◌≤◌, List, [], ◌∷◌, arith, length, refl}
use Rattle.std.specs.List.{AllByRecursion}
use Rattle.toml.specs.Data.{Data}
use Rattle.lsr_config.specs.Reading.{IsFault}
use Rattle.lsr_config.specs.Rules.{Holds, fault_of, few}
use Rattle.lsr_config.specs.declared.fault.ConfigFault.TheVariants as fault
use Rattle.lsr_config.specs.declared.key.Key.TheVariants as key
use Rattle.lsr_config.proofs.Judging.{broken_alone, kept_alone}

-- one more is allowed
pub few_kept : (before : List Data) → length before < 16 → AllByRecursion Holds (few key.Link 16 before ∷ [])
unfolding Holds
few_kept before low = kept_alone (few key.Link 16 before) low

-- and one too many isn't
pub few_broken : (before : List Data) → 16 ≤ length before → IsFault (few key.Link 16 before ∷ []) (fault.TooMany key.Link)
unfolding Holds fault_of
few_broken before high = broken_alone (few key.Link 16 before) (fault.TooMany key.Link) (λ low. omega (arith, low, high)) refl
