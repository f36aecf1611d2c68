-- How runs end that don't begin, and those that do.
use Rattle.std.proofs.Common.{◌≡◌, Bool, ℕ, List, [], Option, Some, refl, sym, subst, inr, Bor}
use Rattle.std.specs.Option.{option_map}
use Rattle.lsr_runs.specs.Sessions.{CannotBegin, IsConfigText, IsUnreadConfig, NeverSteps, Steps, StepsOnFile}
use Rattle.line_streams.specs.Texts.{IsTextOf, IsUnread, Stream}
use Rattle.line_streams.specs.declared.input.InputFault.{InputFault}
use Rattle.lsr_runs.specs.declared.endings.Source.TheVariants as sources
use Rattle.lsr_runs.specs.declared.endings.RunEnding.{RunEnding}
use Rattle.lsr_runs.specs.declared.endings.RunEnding.TheVariants as endings

pub config_text : {C : Type 0} (known : C → Stream) (config : Option C) (stream : C) (text : List ℕ) → config ≡ Some stream → IsTextOf (known stream) text → IsConfigText (option_map known config) text
config_text {C} known config stream text e h = subst (λ (c : Option C). IsConfigText (option_map known c) text) (sym e) h

pub config_fault : {C : Type 0} (known : C → Stream) (config : Option C) (stream : C) (fault : InputFault) → config ≡ Some stream → IsUnread (known stream) fault → IsUnreadConfig (option_map known config) fault
config_fault {C} known config stream fault e h = subst (λ (c : Option C). IsUnreadConfig (option_map known c) fault) (sym e) h

-- where no session begins on the text that was read the run has no first line
pub cannot_begin : (stream : Option Stream) (input : Stream) (configured text : List ℕ) (ending : RunEnding) → IsConfigText stream configured → IsTextOf input text → CannotBegin configured ending → NeverSteps stream input ending
cannot_begin stream input configured text (endings.Ran ending) c t h = absurd h
cannot_begin stream input configured text (endings.Unread source fault) c t h = absurd h
cannot_begin stream input configured text endings.Memory c t h = tt
cannot_begin stream input configured text (endings.BadConfig fault place) c t h =
    record { configured = configured; text = text; config_read = c; input_read = t; misconfigured = h }

-- and then nothing is printed
pub never_steps : (echo : Bool) (stream : Option Stream) (input : Stream) (ending : RunEnding) → NeverSteps stream input ending → Steps echo stream input [] ending
never_steps echo stream input (endings.Ran ending) h = absurd h
never_steps echo stream input (endings.Unread source fault) h = (refl, h)
never_steps echo stream input endings.Memory h = refl
never_steps echo stream input (endings.BadConfig fault place) h = (refl, h)

-- a file that isn't opened
pub unopened : {F : Type 0} (opens : List ℕ → F → Type 0) (fails : List ℕ → InputFault → Type 0) (stream : F → Stream) (echo : Bool) (file : Option (Bor (List ℕ))) (name : Bor (List ℕ)) (input : Stream) (fault : InputFault)
    → file ≡ Some name → fails name.now fault → StepsOnFile opens fails stream echo (option_map (λ f. f.now) file) input [] (endings.Unread sources.Config fault)
unopened opens fails stream echo file name input fault e h =
    subst (λ (f : Option (Bor (List ℕ))). StepsOnFile opens fails stream echo (option_map (λ g. g.now) f) input [] (endings.Unread sources.Config fault)) (sym e) (inr (fault, h, refl, refl))
