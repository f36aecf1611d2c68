-- The errors of RSVP by name: code and value (RFC 2205, B; RFC 3209, 7.3; RFC 4090, 6.5).
use Rattle.lsr_facts.specs.Reservations.{style_bits}
use Rattle.lsr_facts.specs.declared.errors.RsvpError.{RsvpError}
use Rattle.lsr_facts.specs.declared.resv_fact.ResvStyle.{ResvStyle}

-- there isn't so much bandwidth
abbrev pub no_bandwidth : RsvpError
no_bandwidth = record { code = 1; value = 2 }

-- no path of the session is known
abbrev pub no_path : RsvpError
no_path = record { code = 3; value = 0 }

-- no path of the LSP is known
abbrev pub no_sender : RsvpError
no_sender = record { code = 4; value = 0 }

-- another LSP of the session is reserved in this style, whose bits are the value
abbrev pub style_conflict : ResvStyle → RsvpError
style_conflict style = record { code = 5; value = style_bits style }

-- the style is neither FF nor SE
abbrev pub unknown_style : RsvpError
unknown_style = record { code = 6; value = 0 }

-- another LSP took the bandwidth
abbrev pub preempted : RsvpError
preempted = record { code = 12; value = 0 }

-- a FLOWSPEC asks for another service than controlled load
abbrev pub unsupported_service : RsvpError
unsupported_service = record { code = 21; value = 2 }

-- a FLOWSPEC can't be taken
abbrev pub bad_flowspec : RsvpError
bad_flowspec = record { code = 21; value = 3 }

-- the traffic descriptor of a Path can't be taken
abbrev pub bad_tspec : RsvpError
bad_tspec = record { code = 21; value = 4 }

-- the router has no room for another LSP
abbrev pub system_error : RsvpError
system_error = record { code = 23; value = 0 }

-- the explicit route can't be read as one of nodes
abbrev pub bad_explicit_route : RsvpError
bad_explicit_route = record { code = 24; value = 1 }

-- a strict step is no neighbour
abbrev pub bad_strict_node : RsvpError
bad_strict_node = record { code = 24; value = 2 }

-- no way leads to a loose step
abbrev pub bad_loose_node : RsvpError
bad_loose_node = record { code = 24; value = 3 }

-- the explicit route doesn't begin here
abbrev pub bad_initial_subobject : RsvpError
bad_initial_subobject = record { code = 24; value = 4 }

-- no way leads to the endpoint
abbrev pub no_route : RsvpError
no_route = record { code = 24; value = 5 }

-- a label can't be sent with
abbrev pub unacceptable_label : RsvpError
unacceptable_label = record { code = 24; value = 6 }

-- the recorded route has been here before
abbrev pub routing_loop : RsvpError
routing_loop = record { code = 24; value = 7 }

-- no label is free
abbrev pub no_label : RsvpError
no_label = record { code = 24; value = 9 }

-- the LSP is to carry what this router doesn't
abbrev pub unsupported_l3pid : RsvpError
unsupported_l3pid = record { code = 24; value = 10 }

-- the recorded route is too long to be passed on
abbrev pub record_too_long : RsvpError
record_too_long = record { code = 25; value = 1 }

-- an LSP runs over a bypass (RFC 4090, 6.5: tunnel locally repaired)
abbrev pub locally_repaired : RsvpError
locally_repaired = record { code = 25; value = 3 }
