-- The headings of topics, in the order of their texts: which number, code and name stands over what.
use Rattle.std.specs.Prelude.{ℕ, List, [], ◌∷◌, ◌++◌, not, Option, Some, None, codes, filter}
use Rattle.std.specs.Fmt.{decimal}
use Rattle.line_streams.specs.Cuts.{lines_of}
use Rattle.lsr_explain.specs.Topics.{is_indented, text_of}
use Rattle.lsr_explain.specs.declared.topics.Kind.{Kind}

-- the lines of a text that begin with no space
abbrev pub headings_in : List ℕ → List (List ℕ)
headings_in text = filter (λ line. not (is_indented line)) (lines_of text)

-- the headings of a kind
abbrev pub headings_of : Kind → List (List ℕ)
headings_of kind = headings_in (text_of kind)

-- A refusal: its number and its name.
pub record Refused : Type 0 where
  pub number : ℕ
  pub name : List ℕ

abbrev pub refused_heading : Refused → List ℕ
refused_heading r = decimal r.number ++ (codes " " ++ r.name)

-- An error of RSVP: its code; its value, or none where it stands for any; and its name (RFC 2205, B; RFC 3209, 7.3).
pub record Failed : Type 0 where
  pub code : ℕ
  pub value : Option ℕ
  pub name : List ℕ

abbrev pub value_text : Option ℕ → List ℕ
value_text None = codes "N"
value_text (Some value) = decimal value

abbrev pub failed_heading : Failed → List ℕ
failed_heading e = decimal e.code ++ (codes "/" ++ (value_text e.value ++ (codes " " ++ e.name)))

abbrev refused : ℕ → List ℕ → Refused
refused number name = record { number = number; name = name }

abbrev failed : ℕ → ℕ → List ℕ → Failed
failed code value name = record { code = code; value = Some value; name = name }

abbrev failed_of_any : ℕ → List ℕ → Failed
failed_of_any code name = record { code = code; value = None; name = name }

-- all refusals
abbrev pub refusals : List Refused
refusals =
    refused 1 (codes "Short") ∷
    refused 2 (codes "Version") ∷
    refused 3 (codes "LengthField") ∷
    refused 4 (codes "Checksum") ∷
    refused 5 (codes "ObjectLength") ∷
    refused 6 (codes "MissingObject") ∷
    refused 7 (codes "KindUnsupported") ∷
    refused 8 (codes "Integrity") ∷
    refused 9 (codes "TooLong") ∷
    refused 10 (codes "NoMatch") ∷
    refused 11 (codes "NoMerge") ∷
    refused 12 (codes "LinkDown") ∷
    refused 13 (codes "HopLimit") ∷
    refused 14 (codes "NoLabel") ∷
    refused 20 (codes "UnknownTunnel") ∷
    refused 21 (codes "TunnelExists") ∷
    refused 22 (codes "BadRoute") ∷
    refused 23 (codes "ChangePending") ∷
    refused 24 (codes "UnknownLink") ∷
    refused 25 (codes "BypassExists") ∷
    refused 26 (codes "BypassOnItsLink") ∷
    refused 27 (codes "Full") ∷
    refused 28 (codes "InUse") ∷
    refused 29 (codes "Late") ∷
    refused 30 (codes "BadMoment") ∷
    refused 31 (codes "BadCapacity") ∷
    refused 40 (codes "NoMemory") ∷
    refused 41 (codes "JournalFull") ∷
    refused 42 (codes "IsCold") ∷
    refused 43 (codes "WrongPort") ∷
    refused 50 (codes "NoFrame") ∷
    refused 51 (codes "NoRouter") ∷
    []

-- all errors
abbrev pub errors : List Failed
errors =
    failed 1 1 (codes "DelayBound") ∷
    failed 1 2 (codes "NoBandwidth") ∷
    failed 1 3 (codes "MtuTooLarge") ∷
    failed 2 5 (codes "PreemptedByPolicy") ∷
    failed 3 0 (codes "NoPath") ∷
    failed 4 0 (codes "NoSender") ∷
    failed 5 10 (codes "ConflictsWithFixed") ∷
    failed 5 18 (codes "ConflictsWithShared") ∷
    failed 6 0 (codes "UnknownStyle") ∷
    failed 12 0 (codes "Preempted") ∷
    failed_of_any 13 (codes "UnknownClass") ∷
    failed_of_any 14 (codes "UnknownCType") ∷
    failed 21 1 (codes "ServiceConflict") ∷
    failed 21 2 (codes "ServiceUnsupported") ∷
    failed 21 3 (codes "BadFlowspec") ∷
    failed 21 4 (codes "BadTspec") ∷
    failed 21 5 (codes "BadAdspec") ∷
    failed 23 0 (codes "SystemError") ∷
    failed 24 1 (codes "BadExplicitRoute") ∷
    failed 24 2 (codes "BadStrictNode") ∷
    failed 24 3 (codes "BadLooseNode") ∷
    failed 24 4 (codes "BadInitialSubobject") ∷
    failed 24 5 (codes "NoRoute") ∷
    failed 24 6 (codes "BadLabel") ∷
    failed 24 7 (codes "RoutingLoop") ∷
    failed 24 8 (codes "NonRsvpRouter") ∷
    failed 24 9 (codes "LabelsTaken") ∷
    failed 24 10 (codes "UnsupportedL3pid") ∷
    failed 25 1 (codes "RecordTooLong") ∷
    failed 25 2 (codes "RecordNotified") ∷
    failed 25 3 (codes "LocallyRepaired") ∷
    []

-- all faults of recorded runs, but that there was no memory
abbrev pub run_faults : List (List ℕ)
run_faults = codes "Format" ∷ codes "Gap" ∷ codes "Base" ∷ codes "Event" ∷ codes "Choice" ∷ codes "Output" ∷ []
