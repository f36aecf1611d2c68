-- No text that breaks a rule says a configuration, and what a format allows is a matter of the text.
use Rattle.std.specs.Prelude.{◌≡◌, ℕ, List, [], ◌∷◌, Some, None, Err, Ok}
use Rattle.std.specs.List.{AllByRecursion}
use Rattle.std.proofs.Common.{sym, subst, ◌∙◌, inl, inr}
use Rattle.toml.specs.Data.{Members, table}
use Rattle.lsr_config.specs.Configs.{Setup}
use Rattle.lsr_config.specs.Documents.{rules_of}
use Rattle.lsr_config.specs.Reading.{IsOfDocument, IsRead, IsRefused}
use Rattle.lsr_config.specs.Rules.{FirstBroken, Holds, Rule}
use Rattle.lsr_config.specs.declared.fault.ConfigFault.{ConfigFault}
use Rattle.lsr_config.specs.declared.fault.ConfigFault.TheVariants as config_faults
use Rattle.journal_files.specs.Texts.{Allows, ReadsConfig, fault_of}
use Rattle.journal_files.specs.declared.formats.FileFormat.{FileFormat}
use Rattle.journal_files.proofs.OneConfig.{one_config, same_members}

-- where all rules are kept none is broken
none_broken : (rules : List Rule) (f : ConfigFault) → FirstBroken rules f → AllByRecursion Holds rules → ⊥
unfolding FirstBroken
none_broken [] f broken all = broken
none_broken (rule ∷ rules) f (inl here) all = here.0 all.0
none_broken (rule ∷ rules) f (inr later) all = none_broken rules f later.1 all.1

broken_says : (text : List ℕ) (f : ConfigFault) → IsOfDocument text (λ document. FirstBroken (rules_of document) f) → (c : Setup) → IsRead text (Ok c) → ⊥
broken_says text f broken c is =
    let same = same_members text is.0 broken.0 is.1 broken.1 in
    let P : Members → Type 0 = λ m. AllByRecursion Holds (rules_of (table m)) in
    none_broken (rules_of (table broken.0)) f broken.2 (subst P same is.2.0)

-- a text that breaks a rule says no configuration
pub refused_says : (text : List ℕ) (f : ConfigFault) → IsRead text (Err f) → ReadsConfig text (Err (fault_of f))
unfolding IsRefused
refused_says text config_faults.Memory refused = tt
refused_says text config_faults.Text refused = λ c is. (let e : None ≡ Some is.0 = sym refused ∙ is.1 in cc)
refused_says text (config_faults.Missing k) refused = broken_says text (config_faults.Missing k) refused
refused_says text (config_faults.BadValue k) refused = broken_says text (config_faults.BadValue k) refused
refused_says text (config_faults.Repeated k) refused = broken_says text (config_faults.Repeated k) refused
refused_says text (config_faults.UnknownName k) refused = broken_says text (config_faults.UnknownName k) refused
refused_says text (config_faults.TooMany k) refused = broken_says text (config_faults.TooMany k) refused
refused_says text (config_faults.UnknownKey k) refused = broken_says text (config_faults.UnknownKey k) refused

-- So what a format allows is a matter of the text.
pub allowed_alike : (format : FileFormat) (text : List ℕ) (c d : Setup) → IsRead text (Ok c) → IsRead text (Ok d) → Allows format text c → Allows format text d
allowed_alike format text c d p q allowed = subst (Allows format text) (one_config text c d p q) allowed
