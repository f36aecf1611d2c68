-- The names of classes (RFC 2205, A; RFC 3209, 4; RFC 4090, 4.1).
use Rattle.std.specs.Prelude.{ℕ, ◌==◌, List, [], ◌++◌, codes, if◌then◌else◌}
use Rattle.std.specs.Fmt.{decimal}
use Rattle.rsvp_objects.specs.declared.kind.Kind.{Kind}
use Rattle.rsvp_objects.specs.declared.kind.Kind.TheVariants as kinds
use Rattle.rsvp_objects.specs.declared.kind.Treatment.{Treatment}
use Rattle.rsvp_objects.specs.declared.kind.Treatment.TheVariants as treatments

-- the classes that are known
unfoldable pub class_name : ℕ → List ℕ
class_name class =
    if class == 0 then codes "NULL" else
    if class == 1 then codes "SESSION" else
    if class == 3 then codes "RSVP_HOP" else
    if class == 4 then codes "INTEGRITY" else
    if class == 5 then codes "TIME_VALUES" else
    if class == 6 then codes "ERROR_SPEC" else
    if class == 7 then codes "SCOPE" else
    if class == 8 then codes "STYLE" else
    if class == 9 then codes "FLOWSPEC" else
    if class == 10 then codes "FILTER_SPEC" else
    if class == 11 then codes "SENDER_TEMPLATE" else
    if class == 12 then codes "SENDER_TSPEC" else
    if class == 13 then codes "ADSPEC" else
    if class == 14 then codes "POLICY_DATA" else
    if class == 15 then codes "RESV_CONFIRM" else
    if class == 16 then codes "LABEL" else
    if class == 19 then codes "LABEL_REQUEST" else
    if class == 20 then codes "EXPLICIT_ROUTE" else
    if class == 21 then codes "RECORD_ROUTE" else
    if class == 205 then codes "FAST_REROUTE" else
    if class == 207 then codes "SESSION_ATTRIBUTE" else
    []

-- what a router does with an object of an unknown class (RFC 2205, 3.10)
abbrev pub treatment_text : Treatment → List ℕ
treatment_text treatments.Reject = codes "refused"
treatment_text treatments.Ignore = codes "ignored"
treatment_text treatments.Forward = codes "passed on"

-- the class by its name; where the C-Type or the class isn't known, its number, too
abbrev pub kind_words : Kind → ℕ → ℕ → List ℕ
kind_words kinds.Unlisted class ctype = class_name class ++ (codes " C-Type " ++ (decimal ctype ++ codes " unknown"))
kind_words (kinds.Unknown treatment) class ctype = codes "class " ++ (decimal class ++ (codes " unknown, " ++ treatment_text treatment))
kind_words _ class ctype = class_name class
