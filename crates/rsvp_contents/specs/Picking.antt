-- What the objects of a message say: look-ups among those that count.
use Rattle.std.specs.Prelude.{ℕ, Bool, true, not, ◌&&◌, ◌==◌, if◌then◌else◌, List, [], ◌∷◌, ◌++◌, Option, Some, None, Result, Err, find, filter, map}
use Rattle.std.specs.Option.{option_map, option_map_or, ok_or}
use Rattle.std.specs.List.{list_all, list_any}
use Rattle.rsvp_objects.specs.declared.object.Object.{Object}
use Rattle.rsvp_objects.specs.declared.object.Object.TheVariants as objects
use Rattle.rsvp_objects.specs.declared.values.Style.{Style}
use Rattle.rsvp_objects.specs.Raw.{Raw}
use Rattle.rsvp_objects.specs.Objects.{raw_of}
use Rattle.rsvp_contents.specs.declared.descriptors.FlowDescriptor.{FlowDescriptor}
use Rattle.rsvp_contents.specs.Errors.{errors_of, filters_of}
use Rattle.rsvp_contents.specs.Flows.{styled_flows}
use Rattle.rsvp_contents.specs.Styles.{is_other}
use Rattle.rsvp_contents.specs.declared.dropped.Dropped.{Dropped}
use Rattle.rsvp_contents.specs.declared.dropped.Dropped.TheVariants as dropped
use Rattle.rsvp_contents.specs.declared.messages.Content.{Content}
use Rattle.rsvp_contents.specs.declared.messages.Content.TheVariants as contents
use Rattle.rsvp_contents.specs.declared.message.Reading.{Reading}
use Rattle.rsvp_contents.specs.declared.message.Reading.TheVariants as readings
use Rattle.rsvp_contents.specs.declared.parts.Parts.{Parts}
use Rattle.rsvp_contents.specs.Behind.{flows_in, is_misplaced, looked_at}
use Rattle.rsvp_contents.specs.Counting.{class_of, counting, has_style, refuses, passes}
use Rattle.rsvp_contents.specs.Limits.{is_short_route, is_short_record, is_short_passing, are_short_records}
use Rattle.rsvp_contents.specs.Values.{◌>>=◌, picked, as_session, as_hop, as_time, as_error, as_style, as_sender, as_tspec, as_label_request, as_route, as_own_record, as_attr, as_fast_reroute}

-- Of each class the value of the first object that has one. Here and below `os` are the objects that count.
abbrev pub parts_in : ℕ → List Object → Parts
parts_in type os =
    record {
      session = picked as_session os;
      hop = picked as_hop os;
      time = picked as_time os;
      error = picked as_error os;
      style = picked as_style os;
      sender = picked as_sender os;
      tspec = picked as_tspec os;
      label_request = picked as_label_request os;
      route = picked as_route os;
      recorded = picked (as_own_record (has_style type)) os;
      attr = picked as_attr os;
      fast_reroute = picked as_fast_reroute os;
    }

-- what is passed on: in its order, the ADSPEC last
abbrev pub passing_of : ℕ → List Object → List Raw
passing_of type os = map raw_of (filter (passes type) os) ++ map raw_of (filter (λ o. class_of o == 13) os)

-- What a message of each type says, if nothing that it needs is absent.
abbrev pub path_of : Parts → List Raw → Option Content
path_of p passing = do
  session ← p.session
  hop ← p.hop
  time ← p.time
  label_request ← p.label_request
  sender ← p.sender
  tspec ← p.tspec
  Some (contents.Path (record {
    session = session;
    hop = hop;
    time = time;
    route = p.route;
    label_request = label_request;
    attr = p.attr;
    fast_reroute = p.fast_reroute;
    passing = passing;
    sender = sender;
    tspec = tspec;
    recorded = p.recorded;
  }))

abbrev pub path_err_of : Parts → Option Content
path_err_of p = do
  session ← p.session
  error ← p.error
  sender ← p.sender
  Some (contents.PathErr (record { session = session; error = error; sender = sender; tspec = p.tspec }))

abbrev pub path_tear_of : Parts → Option Content
path_tear_of p = do
  session ← p.session
  hop ← p.hop
  sender ← p.sender
  Some (contents.PathTear (record { session = session; hop = hop; sender = sender }))

-- The flow descriptors of FF and SE stand behind STYLE, all of them.
abbrev pub placed_flows : Style → Bool → List Object → Option (List FlowDescriptor)
placed_flows style misplaced flows = if not (is_other style) && misplaced then None else styled_flows style flows

abbrev pub resv_of : Parts → List Raw → Bool → List Object → Option Content
resv_of p passing misplaced flows = do
  session ← p.session
  hop ← p.hop
  time ← p.time
  style ← p.style
  descriptors ← placed_flows style misplaced flows
  Some (contents.Resv (record { session = session; hop = hop; time = time; passing = passing; style = style; descriptors = descriptors }))

abbrev pub resv_err_of : Parts → List Object → Option Content
resv_err_of p flows = do
  session ← p.session
  hop ← p.hop
  error ← p.error
  style ← p.style
  Some (contents.ResvErr (record { session = session; hop = hop; error = error; style = style; descriptors = errors_of None flows }))

-- the values, where there is one
abbrev pub one_or_more : {X : Type 0} → List X → Option (List X)
one_or_more [] = None
one_or_more (x ∷ xs) = Some (x ∷ xs)

abbrev pub resv_tear_of : Parts → List Object → Option Content
resv_tear_of p flows = do
  session ← p.session
  hop ← p.hop
  style ← p.style
  filters ← one_or_more (filters_of flows)
  Some (contents.ResvTear (record { session = session; hop = hop; style = style; filters = filters }))

abbrev pub content_with : ℕ → Parts → List Raw → Bool → List Object → Option Content
content_with type p passing misplaced flows =
    if type == 1 then path_of p passing
    else if type == 2 then resv_of p passing misplaced flows
    else if type == 3 then path_err_of p
    else if type == 4 then resv_err_of p flows
    else if type == 5 then path_tear_of p
    else if type == 6 then resv_tear_of p flows
    else None

abbrev pub content_of : ℕ → List Object → Option Content
content_of type os = content_with type (parts_in type os) (passing_of type os) (is_misplaced os) (flows_in type os)

-- The limits of a Path and of a Resv.
abbrev pub is_short : ℕ → Parts → List Raw → List Object → Bool
is_short type p passing flows =
    if type == 1 then option_map_or is_short_route p.route true && (option_map_or is_short_record p.recorded true && is_short_passing passing)
    else if type == 2 then are_short_records flows && is_short_passing passing
    else true

-- A message with an object that its type doesn't know is read as such, by the first of these.
abbrev pub reading_of : Content → Option Object → Reading
reading_of content None = readings.Whole content
reading_of content (Some o) = readings.Unknown content (class_of o) (raw_of o).ctype

-- the content of a reading
abbrev pub content_in : Reading → Content
content_in (readings.Whole content) = content
content_in (readings.Unknown content class ctype) = content

-- What those say that count and are looked at, or the first fault: INTEGRITY before limits, limits before what
-- is absent.
abbrev pub kept_read : ℕ → List Object → Result Reading Dropped
kept_read type os =
    if list_any (λ o. class_of o == 4) os then Err dropped.Integrity
    else if is_short type (parts_in type os) (passing_of type os) (flows_in type os)
    then ok_or (option_map (λ content. reading_of content (find (refuses type) os)) (content_of type os)) dropped.MissingObject
    else Err dropped.TooLong

-- What the objects of a message of this type say, or the first fault.
abbrev pub objects_read : ℕ → List Object → Result Reading Dropped
objects_read type objects = kept_read type (looked_at type (counting type objects))
