-- What reading a text answers.
use Rattle.std.specs.Prelude.{◌≡◌, ℕ, List, Some, None, Result, MatchResult}
use Rattle.std.specs.List.{AllByRecursion}
use Rattle.toml.specs.Data.{Data, Members, table}
use Rattle.toml.specs.Parse.{parse_document}
use Rattle.lsr_config.specs.Rules.{Rule, Holds, FirstBroken}
use Rattle.lsr_config.specs.Documents.{rules_of, Says}
use Rattle.lsr_config.specs.Configs.{Setup}
use Rattle.lsr_config.specs.declared.fault.ConfigFault.{ConfigFault}
use Rattle.lsr_config.specs.declared.fault.ConfigFault.TheVariants as fault

-- the fault is that of the first rule that isn't kept; out of memory may come at any rule
unfoldable pub IsFault : List Rule → ConfigFault → Type 0
IsFault rules fault.Memory = Unit {0}
IsFault rules f = FirstBroken rules f

-- All rules are kept and the fact holds of what was read, or the fault is that of the first that isn't.
abbrev pub Judges : {A : Type 0} → List Rule → (A → Type 0) → Result A ConfigFault → Type 0
Judges rules P result = MatchResult result (λ a. AllByRecursion Holds rules × P a) (IsFault rules)

-- the text is TOML, and the document that it spells is judged so
abbrev pub IsOfDocument : List ℕ → (Data → Type 0) → Type 0
IsOfDocument text P = (members : Members) × (parse_document text ≡ Some members) × P (table members)

-- why a text is refused
unfoldable pub IsRefused : List ℕ → ConfigFault → Type 0
IsRefused text fault.Text = parse_document text ≡ None
IsRefused text fault.Memory = Unit {0}
IsRefused text f = IsOfDocument text (λ document. FirstBroken (rules_of document) f)

-- The answer to a text: the configuration that it says, where it keeps all rules, or the fault of the first that
-- it breaks. A text that isn't TOML is the fault `Text`, and out of memory may come at any point.
abbrev pub IsRead : List ℕ → Result Setup ConfigFault → Type 0
IsRead text result =
    MatchResult result
    (λ c. IsOfDocument text (λ document. AllByRecursion Holds (rules_of document) × Says document c))
    (IsRefused text)
