-- The values that objects say, and what the first of them say.
use Rattle.std.specs.Prelude.{ℕ, Bool, if◌then◌else◌, List, [], ◌∷◌, Option, Some, None}
use Rattle.rsvp_objects.specs.Below.bodies.declared.step.Step.{Step}
use Rattle.rsvp_objects.specs.Below.bodies.declared.trace.Trace.{Trace}
use Rattle.rsvp_objects.specs.declared.values.Session.{Session}
use Rattle.rsvp_objects.specs.declared.values.Hop.{Hop}
use Rattle.rsvp_objects.specs.declared.values.TimeValues.{TimeValues}
use Rattle.rsvp_objects.specs.declared.values.ErrorSpec.{ErrorSpec}
use Rattle.rsvp_objects.specs.declared.values.Style.{Style}
use Rattle.rsvp_objects.specs.declared.values.Template.{Template}
use Rattle.rsvp_objects.specs.declared.values.LabelRequest.{LabelRequest}
use Rattle.rsvp_objects.specs.declared.values.FastReroute.{FastReroute}
use Rattle.rsvp_objects.specs.Below.bodies.declared.attr.Attr.{Attr}
use Rattle.rsvp_objects.specs.declared.object.Object.{Object}
use Rattle.rsvp_objects.specs.declared.object.Object.TheVariants as objects

-- a value's value, where there is one
infixl 10 ◌>>=◌
abbrev pub ◌>>=◌ : {A B : Type 0} → Option A → (A → Option B) → Option B
None >>= f = None
(Some a) >>= f = f a

-- the first, or where there is none the other
abbrev pub option_or : {X : Type 0} → Option X → Option X → Option X
option_or None other = other
option_or (Some x) other = Some x

-- each object's value, where it is of the class and C-Type that is asked for
abbrev pub as_session : Object → Option Session
as_session (objects.Session s) = Some s
as_session _ = None

abbrev pub as_hop : Object → Option Hop
as_hop (objects.Hop h) = Some h
as_hop _ = None

abbrev pub as_time : Object → Option TimeValues
as_time (objects.TimeValues t) = Some t
as_time _ = None

abbrev pub as_error : Object → Option ErrorSpec
as_error (objects.ErrorSpec e) = Some e
as_error _ = None

abbrev pub as_style : Object → Option Style
as_style (objects.Style s) = Some s
as_style _ = None

abbrev pub as_sender : Object → Option Template
as_sender (objects.SenderTemplate t) = Some t
as_sender _ = None

abbrev pub as_tspec : Object → Option (List ℕ)
as_tspec (objects.SenderTspec t) = Some t
as_tspec _ = None

abbrev pub as_label_request : Object → Option LabelRequest
as_label_request (objects.LabelRequest r) = Some r
as_label_request _ = None

abbrev pub as_route : Object → Option (List Step)
as_route (objects.ExplicitRoute r) = Some r
as_route _ = None

-- the RECORD_ROUTE of a message with flow descriptors is theirs
abbrev pub as_own_record : Bool → Object → Option (List Trace)
as_own_record styled (objects.RecordRoute r) = if styled then None else Some r
as_own_record styled _ = None

abbrev pub as_attr : Object → Option Attr
as_attr (objects.SessionAttribute a) = Some a
as_attr _ = None

abbrev pub as_fast_reroute : Object → Option FastReroute
as_fast_reroute (objects.FastReroute f) = Some f
as_fast_reroute _ = None

-- the value of the first object that has one
abbrev pub picked : {X : Type 0} → (Object → Option X) → List Object → Option X
picked as_value [] = None
picked as_value (o ∷ os) = option_or (as_value o) (picked as_value os)
