-- What is written of what is told.
use Rattle.std.proofs.Common.{◌≡◌, ◌++◌, ℕ, List, Option, Result, Ok, Err, String, Global, string_bytes, subst, sym}
use Rattle.std.proofs.KnownBytes.{Appends-kept, Appends-trans}
use Rattle.std.specs.Io.KnownBytes.{Appends, Keeps}
use Rattle.std.specs.Prelude.{OnOk}
use Rattle.lsr_config.specs.Configs.{Setup}
use Rattle.worker_tallies.specs.declared.handled.Tally.{Tally}
use Rattle.lsr_console.specs.Answers.{OperatorState}
use Rattle.lsr_console.specs.Consoles.{PrintsLine, TellsHeard}
use Rattle.lsr_console.specs.declared.listening.Heard.{Heard}
use Rattle.lsr_console.specs.declared.listening.Heard.TheVariants as heards
use Rattle.lsr_console.specs.declared.manner.Manner.{Manner}

-- what is written is told
pub written : {A E : Type 0} (r : Result A E) (old new : Option (List ℕ)) (bytes text : List ℕ) (tells : List ℕ → Type 0) → bytes ≡ text → tells text → OnOk r (Appends old new bytes) → OnOk r ((t : List ℕ) × Appends old new t × tells t)
written (Ok x) old new bytes text tells same is appends = (text, subst (λ (t : List ℕ). Appends old new t) same appends, is)
written (Err error) old new bytes text tells same is appends = tt

-- what was appended stays appended where it is flushed
pub flushed : {A E : Type 0} (r : Result A E) (a b c : Option (List ℕ)) (bytes : List ℕ) → Appends a b bytes → Keeps b c → OnOk r (Appends a c bytes)
flushed (Ok x) a b c bytes p q = Appends-kept a b c bytes p q
flushed (Err error) a b c bytes p q = tt

-- and where a mark is appended, it stands before that
pub ended : {A E : Type 0} (r : Result A E) (a b c : Option (List ℕ)) (bytes mark : List ℕ) → Appends a b bytes → OnOk r (Appends b c mark) → OnOk r (Appends a c (bytes ++ mark))
ended (Ok x) a b c bytes mark p q = Appends-trans a b c bytes mark p q
ended (Err error) a b c bytes mark p q = tt

-- what is printed of a line that was heard
pub heard_told : {A E : Type 0} (r : Result A E) (old new : Option (List ℕ)) (c : Setup) (manner : Manner) (counts : List Tally) (number counted : ℕ) (line : String Global) (bytes : List ℕ) (heard : Heard) (before after : OperatorState) → heard ≡ heards.Line line → bytes ≡ string_bytes line → counted ≡ number
    → OnOk r ((t : List ℕ) × Appends old new t × PrintsLine c manner counts number bytes before t after) → OnOk r ((t : List ℕ) × Appends old new t × TellsHeard c manner counts counted heard before t after)
heard_told (Ok x) old new c manner counts number counted line bytes heard before after is same number_is (t, appends, prints) =
    let told = subst (λ (b : List ℕ). PrintsLine c manner counts number b before t after) same prints in
    let numbered = subst (λ (n : ℕ). PrintsLine c manner counts n (string_bytes line) before t after) (sym number_is) told in
    (t, appends, subst (λ (h : Heard). TellsHeard c manner counts counted h before t after) (sym is) numbered)
heard_told (Err error) old new c manner counts number counted line bytes heard before after is same number_is told = tt
