-- The subobjects of routes, a line for each (RFC 3209, 4.3.3 and 4.4.1).
use Rattle.std.specs.Prelude.{ℕ, List, ◌++◌, codes, flat_map, Bool, true, false}
use Rattle.std.specs.Fmt.{decimal}
use Rattle.rsvp_bodies.specs.declared.prefix.Prefix.{Prefix}
use Rattle.rsvp_bodies.specs.declared.step.Step.{Step}
use Rattle.rsvp_bodies.specs.declared.step.Step.TheVariants as steps
use Rattle.rsvp_bodies.specs.declared.trace.Trace.{Trace}
use Rattle.rsvp_bodies.specs.declared.trace.Trace.TheVariants as traces
use Rattle.object_text.specs.Flags.{address_flags, label_flags}
use Rattle.object_text.specs.Words.{address_text, digits_word}

abbrev pub prefix_text : Prefix → List ℕ
prefix_text prefix = address_text prefix.address ++ (codes "/" ++ decimal prefix.length)

abbrev pub strictness : Bool → List ℕ
strictness true = codes "loose"
strictness false = codes "strict"

-- bytes of another type of subobject
abbrev pub other_subobject : List ℕ → List ℕ
other_subobject bytes = codes "    other" ++ (digits_word bytes ++ codes "\n")

-- a step of an explicit route
abbrev pub step_line : Step → List ℕ
step_line (steps.Ipv4 loose prefix) = codes "    " ++ (strictness loose ++ (codes " " ++ (prefix_text prefix ++ codes "\n")))
step_line (steps.Other bytes) = other_subobject bytes

abbrev pub steps_text : List Step → List ℕ
steps_text route = flat_map step_line route

-- an entry of a recorded route
abbrev pub trace_line : Trace → List ℕ
trace_line (traces.Ipv4 prefix flags) = codes "    address " ++ (prefix_text prefix ++ (address_flags flags ++ codes "\n"))
trace_line (traces.Label flags label) = codes "    label " ++ (decimal label ++ (label_flags flags ++ codes "\n"))
trace_line (traces.Other bytes) = other_subobject bytes

abbrev pub traces_text : List Trace → List ℕ
traces_text entries = flat_map trace_line entries
