-- The limits on what a message carries.
use Rattle.std.specs.Prelude.{Bool, true, ◌&&◌, ◌==◌, nat_le, List, length, sum_by}
use Rattle.std.specs.List.{list_all}
use Rattle.std.specs.Net.Addr.{ipv4_octets}
use Rattle.std.specs.declared.net.Ipv4Addr.{Ipv4Addr}
use Rattle.rsvp_objects.specs.Below.bodies.declared.step.Step.{Step}
use Rattle.rsvp_objects.specs.Below.bodies.declared.step.Step.TheVariants as steps
use Rattle.rsvp_objects.specs.Below.bodies.declared.trace.Trace.{Trace}
use Rattle.rsvp_objects.specs.Below.bodies.Steps.{route_bytes}
use Rattle.rsvp_objects.specs.Below.bodies.Traces.{record_bytes}
use Rattle.rsvp_objects.specs.declared.object.Object.{Object}
use Rattle.rsvp_objects.specs.declared.object.Object.TheVariants as objects
use Rattle.rsvp_objects.specs.Raw.{Raw}

-- an address is four octets
abbrev pub is_address : Ipv4Addr → Bool
is_address a = length (ipv4_octets a) == 4

-- and so is that of a step, where it has one
abbrev pub step_has_address : Step → Bool
step_has_address (steps.Ipv4 loose prefix) = is_address prefix.address
step_has_address (steps.Other bytes) = true

-- An explicit route: 32 subobjects of 512 bytes together, their addresses of four octets, as they always are.
abbrev pub is_short_route : List Step → Bool
is_short_route route = nat_le (length route) 32 && (nat_le (length (route_bytes route)) 512 && list_all step_has_address route)

-- a recorded route: 64 entries of 1,024 bytes together
abbrev pub is_short_record : List Trace → Bool
is_short_record entries = nat_le (length entries) 64 && nat_le (length (record_bytes entries)) 1024

-- what is passed on: 8 objects, with bodies of 512 bytes, of 2,048 bytes together
abbrev pub is_short_passing : List Raw → Bool
is_short_passing passing =
    nat_le (length passing) 8
    && (list_all (λ o. nat_le (length o.body) 512) passing && nat_le (sum_by (λ o. length o.body) passing) 2048)

-- Every recorded route among the objects is within its limits.
abbrev pub is_short_record_object : Object → Bool
is_short_record_object (objects.RecordRoute entries) = is_short_record entries
is_short_record_object _ = true

abbrev pub are_short_records : List Object → Bool
are_short_records os = list_all is_short_record_object os
