-- What the objects of a message say, gathered object by object.
use Rattle.std.specs.Prelude.{ℕ, ◌&&◌, ◌==◌, if◌then◌else◌, List, [], ◌∷◌, Option, Some, None, is_some, filter, map}
use Rattle.std.specs.Option.{option_or}
use Rattle.rsvp_objects.specs.declared.object.Object.{Object}
use Rattle.rsvp_objects.specs.Raw.{Raw}
use Rattle.rsvp_objects.specs.Objects.{raw_of}
use Rattle.rsvp_contents.specs.Flows.{is_flow}
use Rattle.rsvp_contents.specs.declared.parts.Parts.{Parts}
use Rattle.rsvp_contents.specs.Counting.{class_of, has_style, passes}
use Rattle.rsvp_contents.specs.Values.{as_session, as_hop, as_time, as_error, as_style, as_sender, as_tspec, as_label_request, as_route, as_own_record, as_attr, as_fast_reroute}

-- the old value, or where there is none the new one
abbrev pub also : {X : Type 0} → Option X → Option X → Option X
also None old = old
also (Some x) old = option_or old (Some x)

-- the parts with what one more object says
abbrev pub joined : ℕ → Parts → Object → Parts
joined type p o =
    record {
      session = also (as_session o) p.session;
      hop = also (as_hop o) p.hop;
      time = also (as_time o) p.time;
      error = also (as_error o) p.error;
      style = also (as_style o) p.style;
      sender = also (as_sender o) p.sender;
      tspec = also (as_tspec o) p.tspec;
      label_request = also (as_label_request o) p.label_request;
      route = also (as_route o) p.route;
      recorded = also (as_own_record (has_style type) o) p.recorded;
      attr = also (as_attr o) p.attr;
      fast_reroute = also (as_fast_reroute o) p.fast_reroute;
    }

-- an object of flow descriptors, where STYLE stands before it
abbrev pub flow_more : ℕ → Parts → Object → List Object
flow_more type p o = if is_flow o && has_style type then (if is_some p.style then o ∷ [] else []) else []

-- what is passed on in its order, and the ADSPEC, which stands behind it
abbrev pub passing_in : ℕ → List Object → List Raw
passing_in type os = map raw_of (filter (passes type) os)

abbrev pub adspecs_in : List Object → List Raw
adspecs_in os = map raw_of (filter (λ o. class_of o == 13) os)
