-- What an object is, by its Class-Num and C-Type.
use Rattle.std.specs.Prelude.{ℕ, Bool, true, false, nat_lt, ◌==◌, if◌then◌else◌}
use Rattle.rsvp_objects.specs.declared.kind.Treatment.{Treatment}
use Rattle.rsvp_objects.specs.declared.kind.Treatment.TheVariants as treatments
use Rattle.rsvp_objects.specs.declared.kind.Kind.{Kind}
use Rattle.rsvp_objects.specs.declared.kind.Kind.TheVariants as kinds

-- What an unknown class asks for by its two top bits, 0b, 10 and 11 (RFC 2205, 3.10).
abbrev pub treatment_of : ℕ → Treatment
treatment_of class =
    if nat_lt class 128 then treatments.Reject else if nat_lt class 192 then treatments.Ignore else treatments.Forward

-- The kind, where the C-Type is the one listed for it.
abbrev pub listed : Bool → Kind → Kind
listed is_listed kind = if is_listed then kind else kinds.Unlisted

-- The classes that are known, and the C-Types that are listed for them (RFC 2205, 3.1.2 and A; RFC 2210, 3;
-- RFC 3209, 4; RFC 4090, 4.1).
unfoldable pub kind_of : ℕ → ℕ → Kind
kind_of class ctype =
    if class == 0 then kinds.Null else
    if class == 1 then listed (ctype == 7) kinds.Session else
    if class == 3 then listed (ctype == 1) kinds.Hop else
    if class == 4 then kinds.Integrity else
    if class == 5 then listed (ctype == 1) kinds.TimeValues else
    if class == 6 then listed (ctype == 1) kinds.ErrorSpec else
    if class == 7 then kinds.Scope else
    if class == 8 then listed (ctype == 1) kinds.Style else
    if class == 9 then listed (ctype == 2) kinds.Flowspec else
    if class == 10 then listed (ctype == 7) kinds.FilterSpec else
    if class == 11 then listed (ctype == 7) kinds.SenderTemplate else
    if class == 12 then listed (ctype == 2) kinds.SenderTspec else
    if class == 13 then kinds.Adspec else
    if class == 14 then kinds.PolicyData else
    if class == 15 then kinds.ResvConfirm else
    if class == 16 then listed (ctype == 1) kinds.Label else
    if class == 19 then listed (ctype == 1) kinds.LabelRequest else
    if class == 20 then listed (ctype == 1) kinds.ExplicitRoute else
    if class == 21 then listed (ctype == 1) kinds.RecordRoute else
    if class == 205 then listed (ctype == 1) kinds.FastReroute else
    if class == 207 then (if ctype == 1 then kinds.SessionAttributeRa else listed (ctype == 7) kinds.SessionAttribute) else
    kinds.Unknown (treatment_of class)

-- The kinds that are kept as class, C-Type and body.
abbrev pub is_kept : Kind → Bool
is_kept kinds.Null = true
is_kept kinds.Integrity = true
is_kept kinds.Scope = true
is_kept kinds.Adspec = true
is_kept kinds.PolicyData = true
is_kept kinds.ResvConfirm = true
is_kept kinds.Unlisted = true
is_kept (kinds.Unknown treatment) = true
is_kept _ = false
