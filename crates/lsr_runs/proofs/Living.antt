-- How a live run ends whose file isn't opened.
use Rattle.std.proofs.Common.{◌≡◌, Bool, ℕ, List, Option, Some, Bor, inr, refl, subst, sym}
use Rattle.std.specs.Option.{option_map}
use Rattle.std.specs.Io.KnownBytes.{Appends}
use Rattle.line_streams.specs.Texts.{Stream}
use Rattle.line_streams.specs.declared.input.InputFault.{InputFault}
use Rattle.lsr_runs.specs.Endings.{ending_text}
use Rattle.lsr_runs.specs.Live.{RunsLive}
use Rattle.lsr_runs.specs.declared.endings.Source.TheVariants as sources
use Rattle.lsr_runs.specs.declared.endings.RunEnding.TheVariants as endings

pub unopened_live : {F : Type 0} (opens : List ℕ → F → Type 0) (fails : List ℕ → InputFault → Type 0) (stream : F → Stream) (echo : Bool) (file : Option (Bor (List ℕ))) (name : Bor (List ℕ)) (input : Stream) (printed error told : Option (List ℕ)) (fault : InputFault)
    → file ≡ Some name → fails name.now fault → Appends error told (ending_text name.now (endings.Unread sources.Config fault)) → RunsLive opens fails stream echo (option_map (λ f. f.now) file) input input printed printed error told 1
unopened_live opens fails stream echo file name input printed error told fault e h t =
    subst (λ (f : Option (Bor (List ℕ))). RunsLive opens fails stream echo (option_map (λ g. g.now) f) input input printed printed error told 1) (sym e) (inr (fault, h, refl, refl, refl, t))
