-- How runs end that print no configuration.
use Rattle.std.proofs.Common.{◌≡◌, ℕ, List, [], Option, Some, refl, sym, subst, inr, Bor}
use Rattle.std.specs.Option.{option_map}
use Rattle.line_streams.specs.Texts.{Stream}
use Rattle.line_streams.specs.declared.input.InputFault.{InputFault}
use Rattle.lsr_tool.specs.Configuring.{PrintsOnFile}
use Rattle.lsr_runs.specs.declared.endings.Source.TheVariants as sources
use Rattle.lsr_runs.specs.declared.endings.RunEnding.TheVariants as endings

-- a file that isn't opened
pub unprinted : {F : Type 0} (opens : List ℕ → F → Type 0) (fails : List ℕ → InputFault → Type 0) (stream : F → Stream) (file : Option (Bor (List ℕ))) (name : Bor (List ℕ)) (fault : InputFault)
    → file ≡ Some name → fails name.now fault → PrintsOnFile opens fails stream (option_map (λ f. f.now) file) [] (endings.Unread sources.Config fault)
unprinted opens fails stream file name fault e h =
    subst (λ (f : Option (Bor (List ℕ))). PrintsOnFile opens fails stream (option_map (λ g. g.now) f) [] (endings.Unread sources.Config fault)) (sym e) (inr (fault, h, refl, refl))
