-- What is printed of routes, of records and of names.
use Rattle.std.specs.Prelude.{ℕ, Bool, true, false, not, ◌==◌, ◌&&◌, nat_le, List, [], ◌∷◌, ◌++◌, codes, flat_map, Option, Some, None, if◌then◌else◌}
use Rattle.std.specs.Fmt.{decimal}
use Rattle.hex.specs.Hex.{encode_lower}
use Rattle.rsvp_bodies.specs.declared.step.Step.{Step}
use Rattle.rsvp_bodies.specs.declared.step.Step.TheVariants as steps
use Rattle.rsvp_bodies.specs.declared.trace.Trace.{Trace}
use Rattle.rsvp_bodies.specs.declared.trace.Trace.TheVariants as traces
use Rattle.object_text.specs.Routes.{prefix_text}

-- bytes that have no other form
abbrev pub bytes_text : List ℕ → List ℕ
bytes_text bytes = codes "0x" ++ encode_lower bytes

-- what stands before the prefix of a step: where it is loose `~` stands after the space
abbrev pub step_mark : Bool → List ℕ
step_mark true = codes " ~"
step_mark false = codes " "

-- a step, after a space
abbrev pub step_words : Step → List ℕ
step_words (steps.Ipv4 loose prefix) = step_mark loose ++ prefix_text prefix
step_words (steps.Other bytes) = codes " " ++ bytes_text bytes

-- the steps of a route, or that there is none
abbrev pub route_words : Option (List Step) → List ℕ
route_words None = codes " none"
route_words (Some route) = flat_map step_words route

-- `WORD STEP..`, or `WORD none` where there is no route
unfoldable pub route_line : List ℕ → Option (List Step) → List ℕ
route_line word route = codes "  " ++ (word ++ (route_words route ++ codes "\n"))

-- flags, as two hexadecimal digits
abbrev pub flags_words : ℕ → List ℕ
flags_words flags = codes " flags " ++ encode_lower (flags ∷ [])

-- what is recorded of a node, or of a label that it gave out
abbrev pub trace_words : Trace → List ℕ
trace_words (traces.Ipv4 prefix flags) = prefix_text prefix ++ flags_words flags
trace_words (traces.Label flags label) = codes "label " ++ (decimal label ++ flags_words flags)
trace_words (traces.Other bytes) = bytes_text bytes

-- `record ADDRESS/LENGTH flags FF` or `record label L flags FF`
abbrev pub trace_line : Trace → List ℕ
trace_line trace = codes "  record " ++ (trace_words trace ++ codes "\n")

-- a line for each entry, the one that was added last first; `record empty` where there is none yet, or `record none` where
-- nothing is recorded
unfoldable pub record_lines : Option (List Trace) → List ℕ
record_lines None = codes "  record none\n"
record_lines (Some []) = codes "  record empty\n"
record_lines (Some (first ∷ others)) = flat_map trace_line (first ∷ others)

-- visible ASCII or a space, but neither a quote nor a backslash
abbrev pub is_plain : ℕ → Bool
is_plain byte = nat_le 32 byte && nat_le byte 126 && not (byte == 34) && not (byte == 92)

-- a byte of a name: as it is where it is plain, else `\x` and two hexadecimal digits
abbrev pub name_letter : ℕ → List ℕ
name_letter byte = if is_plain byte then byte ∷ [] else codes "\\x" ++ encode_lower (byte ∷ [])

-- a name, between quotes
unfoldable pub name_text : List ℕ → List ℕ
name_text name = codes "\"" ++ (flat_map name_letter name ++ codes "\"")
