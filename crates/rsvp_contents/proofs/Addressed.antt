-- The addresses of what is read are four octets.
use Rattle.std.proofs.Common.{◌≡◌, ◌≤◌, ◌+◌, ℕ, Bool, true, false, not, ◌&&◌, if◌then◌else◌, List, [], ◌∷◌, length, take, drop, Option, Some, None, refl, sym, ap, subst, arith}
use Rattle.std.specs.Prelude.{◌%◌, ◌==◌, slice_index}
use Rattle.std.specs.List.{list_all}
use Rattle.std.proofs.lemmas.Bool.{and_from, eqb-true, eq-eqb}
use Rattle.std.proofs.lemmas.List.{length-take, length-drop}
use Rattle.rsvp_bodies.specs.Addresses.{address_at}
use Rattle.rsvp_bodies.specs.Reading.{SpellsEach}
use Rattle.rsvp_objects.specs.Below.bodies.Prefixes.{prefix_at}
use Rattle.rsvp_objects.specs.Below.bodies.Steps.{SpellsRoute, SpellsStep}
use Rattle.rsvp_objects.specs.Below.bodies.Traces.{SpellsRecord, SpellsTrace}
use Rattle.rsvp_objects.specs.Below.bodies.Subobjects.{is_label}
use Rattle.rsvp_objects.specs.Below.bodies.declared.step.Step.{Step}
use Rattle.rsvp_objects.specs.Below.bodies.declared.step.Step.TheVariants as steps
use Rattle.rsvp_objects.specs.Below.bodies.declared.trace.Trace.{Trace}
use Rattle.rsvp_objects.specs.Below.bodies.declared.trace.Trace.TheVariants as traces
use Rattle.rsvp_objects.specs.declared.kind.Kind.{Kind}
use Rattle.rsvp_objects.specs.declared.kind.Kind.TheVariants as kinds
use Rattle.rsvp_objects.specs.declared.object.Object.{Object}
use Rattle.rsvp_objects.specs.declared.object.Object.TheVariants as objects
use Rattle.rsvp_objects.specs.Raw.{Raw}
use Rattle.rsvp_objects.specs.Objects.{SpellsAs, SpellsObject}
use Rattle.rsvp_contents.specs.declared.message.Reading.{Reading}
use Rattle.rsvp_contents.specs.Addresses.{trace_has_address, has_addresses, are_addressed}
use Rattle.rsvp_contents.specs.Limits.{is_address, step_has_address}
use Rattle.rsvp_contents.specs.Picking.{content_in}
use Rattle.rsvp_contents.specs.Spelling.{SpellsReading}
use Rattle.rsvp_contents.specs.Written.{objects_of}
use Rattle.rsvp_contents.proofs.Rows.{as_number}
use Rattle.rsvp_contents.proofs.Said.{read_is_said}
use Rattle.rsvp_contents.proofs.Totals.{total, one_if}

-- the first four of enough bytes are an address
four : (bytes : List ℕ) → 4 ≤ length bytes → is_address (address_at bytes) ≡ true
four bytes enough = eq-eqb (length (take 4 bytes)) 4 (omega (arith, enough, length-take 4 bytes))

behind : (n : ℕ) (bytes : List ℕ) → n + 4 ≤ length bytes → is_address (address_at (drop n bytes)) ≡ true
behind n bytes enough = four (drop n bytes) (omega (arith, enough, length-drop n bytes))

-- of a step, by its tests
step_by : (is_ipv4 whole loose : Bool) (bytes : List ℕ) (x : Step) → (whole ≡ true → length bytes ≡ 8) → (if is_ipv4 then (if whole then Some (steps.Ipv4 loose (prefix_at (drop 2 bytes))) else None) else Some (steps.Other bytes)) ≡ Some x → step_has_address x ≡ true
step_by true true loose bytes x counts e =
    let same : steps.Ipv4 loose (prefix_at (drop 2 bytes)) ≡ x = cc in
    subst (λ (v : Step). step_has_address v ≡ true) same (behind 2 bytes (omega (arith, counts refl)))
step_by true false loose bytes x counts e = absurd cc
step_by false whole loose bytes x counts e =
    let same : steps.Other bytes ≡ x = cc in subst (λ (v : Step). step_has_address v ≡ true) same refl

route_spelled : (bytes : List ℕ) (route : List Step) → SpellsEach SpellsStep bytes route → list_all step_has_address route ≡ true
route_spelled bytes [] s = refl
route_spelled bytes (x ∷ xs) s =
    and_from (step_has_address x) (list_all step_has_address xs)
    (step_by (slice_index s.0 0 % 128 == 1) (length s.0 == 8) _ s.0 x (λ whole. eqb-true (length s.0) 8 whole) s.3.value)
    (route_spelled s.1 xs s.4)

-- of an entry
trace_by : (is_ipv4 whole labels : Bool) (flags label : ℕ) (more : ℕ) (bytes : List ℕ) (x : Trace) → (whole ≡ true → length bytes ≡ 8) →
    (if is_ipv4 then (if whole then Some (traces.Ipv4 (prefix_at (drop 2 bytes)) flags) else None) else (if labels then Some (traces.Label more label) else Some (traces.Other bytes))) ≡ Some x → trace_has_address x ≡ true
trace_by true true labels flags label more bytes x counts e =
    let same : traces.Ipv4 (prefix_at (drop 2 bytes)) flags ≡ x = cc in
    subst (λ (v : Trace). trace_has_address v ≡ true) same (behind 2 bytes (omega (arith, counts refl)))
trace_by true false labels flags label more bytes x counts e = absurd cc
trace_by false whole true flags label more bytes x counts e =
    let same : traces.Label more label ≡ x = cc in subst (λ (v : Trace). trace_has_address v ≡ true) same refl
trace_by false whole false flags label more bytes x counts e =
    let same : traces.Other bytes ≡ x = cc in subst (λ (v : Trace). trace_has_address v ≡ true) same refl

record_spelled : (bytes : List ℕ) (entries : List Trace) → SpellsEach SpellsTrace bytes entries → list_all trace_has_address entries ≡ true
record_spelled bytes [] s = refl
record_spelled bytes (x ∷ xs) s =
    and_from (trace_has_address x) (list_all trace_has_address xs)
    (trace_by (slice_index s.0 0 == 1) (length s.0 == 8) (is_label s.0) _ _ _ s.0 x (λ whole. eqb-true (length s.0) 8 whole) s.3.value)
    (record_spelled s.1 xs s.4)

-- of an object, by what it is
is_object : (o value : Object) → o ≡ value → has_addresses value ≡ true → has_addresses o ≡ true
is_object o value same h = subst (λ (v : Object). has_addresses v ≡ true) (sym same) h

object_by : (kind : Kind) (raw : Raw) (o : Object) → SpellsAs kind raw o → has_addresses o ≡ true
object_by kinds.Session raw o s =
    is_object o _ s.1 (and_from _ _ (four raw.body (omega (arith, s.0))) (behind 8 raw.body (omega (arith, s.0))))
object_by kinds.Hop raw o s = is_object o _ s.1 (four raw.body (omega (arith, s.0)))
object_by kinds.TimeValues raw o s = is_object o _ s.1 refl
object_by kinds.ErrorSpec raw o s = is_object o _ s.1 (four raw.body (omega (arith, s.0)))
object_by kinds.Style raw o s = is_object o _ s.1 refl
object_by kinds.Flowspec raw o s = is_object o _ s refl
object_by kinds.FilterSpec raw o s = is_object o _ s.1 (four raw.body (omega (arith, s.0)))
object_by kinds.SenderTemplate raw o s = is_object o _ s.1 (four raw.body (omega (arith, s.0)))
object_by kinds.SenderTspec raw o s = is_object o _ s refl
object_by kinds.Label raw o s = is_object o _ s.1 refl
object_by kinds.LabelRequest raw o s = is_object o _ s.1 refl
object_by kinds.ExplicitRoute raw o s = is_object o (objects.ExplicitRoute s.0) s.2 (route_spelled raw.body s.0 s.1)
object_by kinds.RecordRoute raw o s = is_object o (objects.RecordRoute s.0) s.2 (record_spelled raw.body s.0 s.1)
object_by kinds.FastReroute raw o s = is_object o _ s.1 refl
object_by kinds.SessionAttribute raw o s = is_object o (objects.SessionAttribute s.0) s.2 refl
object_by kinds.SessionAttributeRa raw o s = is_object o (objects.SessionAttribute s.0) s.2 refl
object_by _ raw o s = is_object o (objects.Other raw) s refl

-- of all that bytes spell
all_addressed : (bytes : List ℕ) (os : List Object) → SpellsEach SpellsObject bytes os → total (one_if (λ o. not (has_addresses o))) os ≡ 0
all_addressed bytes [] s = refl
all_addressed bytes (o ∷ os) s =
    omega (arith, all_addressed s.1 os s.4, ap (λ (b : Bool). as_number (not b)) (object_by _ s.3.raw o s.3.value))

none_left : (has : Bool) (o : Object) (os : List Object) → has_addresses o ≡ has → total (one_if (λ x. not (has_addresses x))) (o ∷ os) ≡ 0 → (total (one_if (λ x. not (has_addresses x))) os ≡ 0 → list_all has_addresses os ≡ true) → list_all has_addresses (o ∷ os) ≡ true
none_left true o os e h rest = and_from (has_addresses o) (list_all has_addresses os) e (rest (omega (arith, h)))
none_left false o os e h rest = absurd (omega (arith, h, ap (λ (b : Bool). as_number (not b)) e))

addressed_all : (os : List Object) → total (one_if (λ o. not (has_addresses o))) os ≡ 0 → list_all has_addresses os ≡ true
addressed_all [] h = refl
addressed_all (o ∷ os) h = none_left (has_addresses o) o os refl h (addressed_all os)

-- The addresses of a message that is read are four octets.
pub what_is_read_is_addressed_lem : (bytes : List ℕ) (reading : Reading) → SpellsReading bytes reading → are_addressed (content_in reading) ≡ true
what_is_read_is_addressed_lem bytes reading s =
    let said = read_is_said (slice_index bytes 1) s.0 reading s.2 in
    addressed_all (objects_of (content_in reading))
    (omega (arith, said.within (one_if (λ o. not (has_addresses o))), all_addressed (drop 8 bytes) s.0 s.1.spelled))
