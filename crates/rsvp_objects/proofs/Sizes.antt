-- An object is written in no more bytes than it was read from.
use Rattle.std.proofs.Common.{◌≡◌, ◌≤◌, ◌+◌, ◌-◌, ◌%◌, ℕ, List, length, take, drop, Some, None, refl, sym, ap, ◌∙◌, subst, arith, length-append}
use Rattle.std.specs.Prelude.{slice_index}
use Rattle.std.proofs.lemmas.List.{length-take, length-take-le, length-drop}
use Rattle.rsvp_bodies.specs.Bodies.{IsBody}
use Rattle.rsvp_bodies.proofs.Sequences.{length-flat_map-spelled}
use Rattle.rsvp_bodies.specs.Steps.{SpellsStep, step_bytes}
use Rattle.rsvp_bodies.specs.Traces.{SpellsTrace, trace_bytes}
use Rattle.rsvp_bodies.specs.StepLaws.{same_length_lem}
use Rattle.rsvp_bodies.specs.TraceLaws as traces
use Rattle.rsvp_objects.specs.declared.kind.Kind.{Kind}
use Rattle.rsvp_objects.specs.declared.kind.Kind.TheVariants as kinds
use Rattle.rsvp_objects.specs.declared.object.Object.{Object}
use Rattle.rsvp_objects.specs.declared.object.Object.TheVariants as objects
use Rattle.rsvp_bodies.specs.declared.attr.Attr.{Attr}
use Rattle.rsvp_objects.specs.Raw.{Raw, object_bytes}
use Rattle.rsvp_objects.specs.Kinds.{kind_of}
use Rattle.rsvp_objects.specs.Values.{session_at, hop_at, error_spec_at, template_at}
use Rattle.rsvp_bodies.specs.Affinities.{affinities_at}
use Rattle.rsvp_bodies.specs.Attributes.{HasName, attr_with, name_body}
use Rattle.rsvp_objects.specs.Objects.{SpellsAs, SpellsObject, raw_of, spelling}
use Rattle.rsvp_bodies.proofs.AttrAgain.{length-name_body}

-- how long the body is that the object is written with
abbrev written : Object → ℕ
written object = length (raw_of object).body

-- the body of an object that is known by an equation
known : (n : ℕ) (a b : Object) → a ≡ b → written b ≤ n → written a ≤ n
known n a b e h = subst (λ (o : Object). written o ≤ n) (sym e) h

-- padding fills the last word, and no further one
padded : (n total : ℕ) → 4 + n ≤ total → total % 4 ≡ 0 → 4 + n + (4 - n % 4) % 4 ≤ total
padded n total h words = omega arith

-- what stands behind the affinities
named : (body : List ℕ) (attr : Attr) → HasName body → length body % 4 ≡ 0 → attr.name ≡ take (slice_index body 3) (drop 4 body) → length (name_body attr) ≤ length body
named body attr h words e =
    let behind : length (drop 4 body) ≡ length body - 4 = length-drop 4 body in
    let size : length attr.name ≡ slice_index body 3 = ap length e ∙ length-take-le (slice_index body 3) (drop 4 body) (omega (arith, h.head, h.name)) in
    let fits : 4 + length attr.name ≤ length body = omega (arith, h.name) in
    omega (arith, length-name_body attr, padded (length attr.name) (length body) fits words)

-- under each kind a body is written in no more bytes than it was read from
body_no_longer : (kind : Kind) (raw : Raw) (object : Object) → IsBody raw.body → SpellsAs kind raw object → written object ≤ length raw.body
body_no_longer kinds.Session raw object body s =
    known (length raw.body) object (objects.Session (session_at raw.body)) s.1
    (omega (arith, s.0, length-append {A = ℕ}, length-take {A = ℕ}, length-drop {A = ℕ}))
body_no_longer kinds.Hop raw object body s =
    known (length raw.body) object (objects.Hop (hop_at raw.body)) s.1
    (omega (arith, s.0, length-append {A = ℕ}, length-take {A = ℕ}))
body_no_longer kinds.TimeValues raw object body s = known (length raw.body) object _ s.1 (omega (arith, s.0))
body_no_longer kinds.ErrorSpec raw object body s =
    known (length raw.body) object (objects.ErrorSpec (error_spec_at raw.body)) s.1
    (omega (arith, s.0, length-append {A = ℕ}, length-take {A = ℕ}))
body_no_longer kinds.Style raw object body s = known (length raw.body) object _ s.1 (omega (arith, s.0))
body_no_longer kinds.Flowspec raw object body s = known (length raw.body) object (objects.Flowspec raw.body) s (omega arith)
body_no_longer kinds.FilterSpec raw object body s =
    known (length raw.body) object (objects.FilterSpec (template_at raw.body)) s.1
    (omega (arith, s.0, length-append {A = ℕ}, length-take {A = ℕ}))
body_no_longer kinds.SenderTemplate raw object body s =
    known (length raw.body) object (objects.SenderTemplate (template_at raw.body)) s.1
    (omega (arith, s.0, length-append {A = ℕ}, length-take {A = ℕ}))
body_no_longer kinds.SenderTspec raw object body s = known (length raw.body) object (objects.SenderTspec raw.body) s (omega arith)
body_no_longer kinds.Label raw object body s = known (length raw.body) object _ s.1 (omega (arith, s.0))
body_no_longer kinds.LabelRequest raw object body s = known (length raw.body) object _ s.1 (omega (arith, s.0))
body_no_longer kinds.ExplicitRoute raw object body s =
    known (length raw.body) object (objects.ExplicitRoute s.0) s.2
    (omega (arith, length-flat_map-spelled SpellsStep step_bytes same_length_lem raw.body s.0 s.1))
body_no_longer kinds.RecordRoute raw object body s =
    known (length raw.body) object (objects.RecordRoute s.0) s.2
    (omega (arith, length-flat_map-spelled SpellsTrace trace_bytes traces.same_length_lem raw.body s.0 s.1))
body_no_longer kinds.FastReroute raw object body s = known (length raw.body) object _ s.1 (omega (arith, s.0))
body_no_longer kinds.SessionAttribute raw object body s =
    known (length raw.body) object (objects.SessionAttribute (attr_with None raw.body))
    (s.2 ∙ ap (λ (a : Attr). objects.SessionAttribute a) s.1.1)
    (named raw.body (attr_with None raw.body) s.1.0 body.whole_words refl)
body_no_longer kinds.SessionAttributeRa raw object body s =
    known (length raw.body) object (objects.SessionAttribute (attr_with (Some (affinities_at raw.body)) (drop 12 raw.body)))
    (s.2 ∙ ap (λ (a : Attr). objects.SessionAttribute a) s.1.2)
    (let behind : length (drop 12 raw.body) ≡ length raw.body - 12 = length-drop 12 raw.body in
    let rest = named (drop 12 raw.body) (attr_with (Some (affinities_at raw.body)) (drop 12 raw.body)) s.1.1 (omega (arith, body.whole_words, s.1.0)) refl in
    omega (arith, s.1.0, rest))
body_no_longer kinds.Null raw object body s = known (length raw.body) object (objects.Other raw) s (omega arith)
body_no_longer kinds.Integrity raw object body s = known (length raw.body) object (objects.Other raw) s (omega arith)
body_no_longer kinds.Scope raw object body s = known (length raw.body) object (objects.Other raw) s (omega arith)
body_no_longer kinds.Adspec raw object body s = known (length raw.body) object (objects.Other raw) s (omega arith)
body_no_longer kinds.PolicyData raw object body s = known (length raw.body) object (objects.Other raw) s (omega arith)
body_no_longer kinds.ResvConfirm raw object body s = known (length raw.body) object (objects.Other raw) s (omega arith)
body_no_longer kinds.Unlisted raw object body s = known (length raw.body) object (objects.Other raw) s (omega arith)
body_no_longer (kinds.Unknown treatment) raw object body s = known (length raw.body) object (objects.Other raw) s (omega arith)

-- an object is written in no more bytes than it was read from
pub written_no_longer : (bytes : List ℕ) (object : Object) → SpellsObject bytes object → length (spelling object) ≤ length bytes
written_no_longer bytes object s =
    let size : length bytes ≡ length (object_bytes s.raw) = ap length s.framed in
    let body = body_no_longer (kind_of s.raw.class s.raw.ctype) s.raw object s.is_raw.body s.value in
    omega (arith, body)
