-- Which objects of a message count, and how those are told apart that have no type of their own.
use Rattle.std.specs.Prelude.{ℕ, Bool, true, false, not, ◌||◌, ◌&&◌, ◌==◌, if◌then◌else◌, List, [], ◌∷◌, ◌++◌, fold}
use Rattle.std.specs.List.{list_any}
use Rattle.rsvp_objects.specs.declared.kind.Kind.{Kind}
use Rattle.rsvp_objects.specs.declared.kind.Kind.TheVariants as kinds
use Rattle.rsvp_objects.specs.declared.kind.Treatment.TheVariants as treatments
use Rattle.rsvp_objects.specs.declared.object.Object.{Object}
use Rattle.rsvp_objects.specs.Kinds.{kind_of}
use Rattle.rsvp_objects.specs.Objects.{raw_of}

abbrev pub class_of : Object → ℕ
class_of object = (raw_of object).class

abbrev pub object_kind : Object → Kind
object_kind object = kind_of (raw_of object).class (raw_of object).ctype

abbrev pub has_class : ℕ → List Object → Bool
has_class class objects = list_any (λ o. class_of o == class) objects

-- A Resv, a ResvErr and a ResvTear (types 2, 4 and 6) have a STYLE, and flow descriptors behind it.
abbrev pub has_style : ℕ → Bool
has_style type = list_any (λ styled. styled == type) (2 ∷ 4 ∷ 6 ∷ [])

-- the classes of flow descriptors: FLOWSPEC, FILTER_SPEC, LABEL and RECORD_ROUTE
abbrev pub is_flow_class : ℕ → Bool
is_flow_class class = list_any (λ flow. flow == class) (9 ∷ 10 ∷ 16 ∷ 21 ∷ [])

-- the kinds of which several objects count: POLICY_DATA and every unknown class
abbrev pub repeats_as : Kind → Bool
repeats_as kinds.PolicyData = true
repeats_as (kinds.Unknown treatment) = true
repeats_as _ = false

-- and in messages with a STYLE those of flow descriptors
abbrev pub repeats : ℕ → Object → Bool
repeats type o = repeats_as (object_kind o) || (has_style type && is_flow_class (class_of o))

-- An object counts if its class repeats, or if none of its class counts yet, whatever the C-Type.
abbrev pub counted : ℕ → List Object → Object → List Object
counted type counting o = if repeats type o || not (has_class (class_of o) counting) then counting ++ o ∷ [] else counting

-- the objects that count in a message of this type, in their order (RFC 2205, 3.1.2)
abbrev pub counting : ℕ → List Object → List Object
counting type objects = fold (counted type) [] objects

-- Classes that a Path uses, so that another C-Type of them is an error (RFC 2205, B, 14). FAST_REROUTE of
-- another type is passed on.
abbrev pub is_used_by_path : ℕ → Bool
is_used_by_path class = list_any (λ used. used == class) (1 ∷ 3 ∷ 5 ∷ 11 ∷ 12 ∷ 19 ∷ 20 ∷ 21 ∷ 207 ∷ [])

-- and those that a Resv uses
abbrev pub is_used_by_resv : ℕ → Bool
is_used_by_resv class = list_any (λ used. used == class) (1 ∷ 3 ∷ 5 ∷ 8 ∷ 9 ∷ 10 ∷ 16 ∷ 21 ∷ [])

-- The object makes a Path or a Resv (types 1 and 2) unknown: its class asks for that, or is used with another
-- C-Type. No message of another type is.
abbrev pub refuses_as : ℕ → Kind → ℕ → Bool
refuses_as type (kinds.Unknown treatments.Reject) class = type == 1 || type == 2
refuses_as type kinds.Unlisted class = if type == 1 then is_used_by_path class else type == 2 && is_used_by_resv class
refuses_as type _ class = false

abbrev pub refuses : ℕ → Object → Bool
refuses type object = refuses_as type (object_kind object) (class_of object)

-- The object is passed on unread, in its place; of class 205, FAST_REROUTE, by a Path alone.
abbrev pub passes_as : ℕ → Kind → ℕ → Bool
passes_as type kinds.PolicyData class = true
passes_as type (kinds.Unknown treatments.Forward) class = true
passes_as type kinds.Unlisted class = type == 1 && class == 205
passes_as type _ class = false

abbrev pub passes : ℕ → Object → Bool
passes type object = passes_as type (object_kind object) (class_of object)
