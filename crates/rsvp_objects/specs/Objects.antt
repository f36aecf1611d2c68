-- Which bytes spell which object.
use Rattle.std.specs.Prelude.{◌≡◌, ◌<◌, ◌^◌, ℕ, List, length, IsTrue}
use Rattle.rsvp_bodies.specs.declared.step.Step.{Step}
use Rattle.rsvp_bodies.specs.declared.trace.Trace.{Trace}
use Rattle.rsvp_bodies.specs.Steps.{SpellsRoute, route_bytes}
use Rattle.rsvp_bodies.specs.Traces.{SpellsRecord, record_bytes}
use Rattle.rsvp_objects.specs.declared.kind.Kind.{Kind}
use Rattle.rsvp_objects.specs.declared.kind.Kind.TheVariants as kinds
use Rattle.rsvp_objects.specs.declared.object.Object.{Object}
use Rattle.rsvp_objects.specs.declared.object.Object.TheVariants as objects
use Rattle.rsvp_bodies.specs.declared.attr.Attr.{Attr}
use Rattle.rsvp_objects.specs.Raw.{Raw, object_bytes, IsRaw}
use Rattle.rsvp_bodies.specs.Bodies.{IsBody}
use Rattle.rsvp_objects.specs.Kinds.{kind_of, is_kept}
use Rattle.rsvp_objects.specs.Ranges.{IsSession, IsHop, IsErrorSpec, IsTemplate, IsFastReroute}
use Rattle.rsvp_objects.specs.Values.{session_at, session_body, hop_at, hop_body, time_values_at, time_values_body, error_spec_at, error_spec_body, style_at, style_body, template_at, template_body, label_at, label_body, label_request_at, label_request_body, fast_reroute_at, fast_reroute_body}
use Rattle.rsvp_bodies.specs.Attributes.{SpellsAttr, SpellsAttrRa, attr_body, attr_ctype, IsAttr}

-- The object has a body of n bytes, and is this one.
abbrev pub IsSized : ℕ → List ℕ → Object → Object → Type 0
IsSized n body value object = (length body ≡ n) × (object ≡ value)

-- The table of the formats: what an object of each kind says.
abbrev pub SpellsAs : Kind → Raw → Object → Type 0
SpellsAs kinds.Session raw object = IsSized 12 raw.body (objects.Session (session_at raw.body)) object
SpellsAs kinds.Hop raw object = IsSized 8 raw.body (objects.Hop (hop_at raw.body)) object
SpellsAs kinds.TimeValues raw object = IsSized 4 raw.body (objects.TimeValues (time_values_at raw.body)) object
SpellsAs kinds.ErrorSpec raw object = IsSized 8 raw.body (objects.ErrorSpec (error_spec_at raw.body)) object
SpellsAs kinds.Style raw object = IsSized 4 raw.body (objects.Style (style_at raw.body)) object
SpellsAs kinds.Flowspec raw object = object ≡ objects.Flowspec raw.body
SpellsAs kinds.FilterSpec raw object = IsSized 8 raw.body (objects.FilterSpec (template_at raw.body)) object
SpellsAs kinds.SenderTemplate raw object = IsSized 8 raw.body (objects.SenderTemplate (template_at raw.body)) object
SpellsAs kinds.SenderTspec raw object = object ≡ objects.SenderTspec raw.body
SpellsAs kinds.Label raw object = IsSized 4 raw.body (objects.Label (label_at raw.body)) object
SpellsAs kinds.LabelRequest raw object = IsSized 4 raw.body (objects.LabelRequest (label_request_at raw.body)) object
SpellsAs kinds.ExplicitRoute raw object = (route : List Step) × SpellsRoute raw.body route × (object ≡ objects.ExplicitRoute route)
SpellsAs kinds.RecordRoute raw object = (entries : List Trace) × SpellsRecord raw.body entries × (object ≡ objects.RecordRoute entries)
SpellsAs kinds.FastReroute raw object = IsSized 20 raw.body (objects.FastReroute (fast_reroute_at raw.body)) object
SpellsAs kinds.SessionAttribute raw object = (attr : Attr) × SpellsAttr raw.body attr × (object ≡ objects.SessionAttribute attr)
SpellsAs kinds.SessionAttributeRa raw object = (attr : Attr) × SpellsAttrRa raw.body attr × (object ≡ objects.SessionAttribute attr)
SpellsAs _ raw object = object ≡ objects.Other raw

-- The bytes are an object, framed, and its body is as its kind has it.
pub record SpellsObject (bytes : List ℕ) (object : Object) : Type 0 where
  pub raw : Raw
  pub is_raw : IsRaw raw
  pub framed : bytes ≡ object_bytes raw
  pub value : SpellsAs (kind_of raw.class raw.ctype) raw object

abbrev pub attr_raw : Attr → Raw
attr_raw a = record { class = 207; ctype = attr_ctype a; body = attr_body a }

-- how an object is written
abbrev pub raw_of : Object → Raw
raw_of (objects.Session s) = record { class = 1; ctype = 7; body = session_body s }
raw_of (objects.Hop h) = record { class = 3; ctype = 1; body = hop_body h }
raw_of (objects.TimeValues t) = record { class = 5; ctype = 1; body = time_values_body t }
raw_of (objects.ErrorSpec e) = record { class = 6; ctype = 1; body = error_spec_body e }
raw_of (objects.Style s) = record { class = 8; ctype = 1; body = style_body s }
raw_of (objects.Flowspec body) = record { class = 9; ctype = 2; body = body }
raw_of (objects.FilterSpec t) = record { class = 10; ctype = 7; body = template_body t }
raw_of (objects.SenderTemplate t) = record { class = 11; ctype = 7; body = template_body t }
raw_of (objects.SenderTspec body) = record { class = 12; ctype = 2; body = body }
raw_of (objects.Label l) = record { class = 16; ctype = 1; body = label_body l }
raw_of (objects.LabelRequest r) = record { class = 19; ctype = 1; body = label_request_body r }
raw_of (objects.ExplicitRoute route) = record { class = 20; ctype = 1; body = route_bytes route }
raw_of (objects.RecordRoute entries) = record { class = 21; ctype = 1; body = record_bytes entries }
raw_of (objects.FastReroute f) = record { class = 205; ctype = 1; body = fast_reroute_body f }
raw_of (objects.SessionAttribute a) = attr_raw a
raw_of (objects.Other raw) = raw

-- the bytes of a written object
abbrev pub spelling : Object → List ℕ
spelling object = object_bytes (raw_of object)

-- Every object of the program is so: its numbers fit, and what is kept as it came stays within its class.
abbrev pub IsObject : Object → Type 0
IsObject (objects.Session s) = IsSession s
IsObject (objects.Hop h) = IsHop h
IsObject (objects.TimeValues t) = t.refresh_ms < 2 ^ 32
IsObject (objects.ErrorSpec e) = IsErrorSpec e
IsObject (objects.Style s) = s.word < 2 ^ 32
IsObject (objects.Flowspec body) = IsBody body
IsObject (objects.FilterSpec t) = IsTemplate t
IsObject (objects.SenderTemplate t) = IsTemplate t
IsObject (objects.SenderTspec body) = IsBody body
IsObject (objects.Label l) = l.number < 2 ^ 32
IsObject (objects.LabelRequest r) = r.l3pid < 2 ^ 16
IsObject (objects.ExplicitRoute route) = IsBody (route_bytes route) × SpellsRoute (route_bytes route) route
IsObject (objects.RecordRoute entries) = IsBody (record_bytes entries) × SpellsRecord (record_bytes entries) entries
IsObject (objects.FastReroute f) = IsFastReroute f
IsObject (objects.SessionAttribute a) = IsAttr a
IsObject (objects.Other raw) = IsRaw raw × IsTrue (is_kept (kind_of raw.class raw.ctype))
