-- Addresses of four octets: every address that a message carries.
use Rattle.std.specs.Prelude.{Bool, true, ◌&&◌}
use Rattle.std.specs.List.{list_all}
use Rattle.rsvp_objects.specs.Below.bodies.declared.trace.Trace.{Trace}
use Rattle.rsvp_objects.specs.Below.bodies.declared.trace.Trace.TheVariants as traces
use Rattle.rsvp_objects.specs.declared.object.Object.{Object}
use Rattle.rsvp_objects.specs.declared.object.Object.TheVariants as objects
use Rattle.rsvp_contents.specs.declared.messages.Content.{Content}
use Rattle.rsvp_contents.specs.Limits.{is_address, step_has_address}
use Rattle.rsvp_contents.specs.Written.{objects_of}

-- of an entry of a record
abbrev pub trace_has_address : Trace → Bool
trace_has_address (traces.Ipv4 prefix flags) = is_address prefix.address
trace_has_address (traces.Label flags label) = true
trace_has_address (traces.Other bytes) = true

-- every address of an object
abbrev pub has_addresses : Object → Bool
has_addresses (objects.Session s) = is_address s.endpoint && is_address s.extended
has_addresses (objects.Hop h) = is_address h.address
has_addresses (objects.ErrorSpec e) = is_address e.node
has_addresses (objects.FilterSpec t) = is_address t.sender
has_addresses (objects.SenderTemplate t) = is_address t.sender
has_addresses (objects.ExplicitRoute route) = list_all step_has_address route
has_addresses (objects.RecordRoute entries) = list_all trace_has_address entries
has_addresses _ = true

-- Every address that the content is written with is four octets.
abbrev pub are_addressed : Content → Bool
are_addressed content = list_all has_addresses (objects_of content)
