-- How much room a ResvErr needs for the LSPs that it names.
use Rattle.std.specs.Prelude.{◌≡◌, ℕ, ◌+◌, ◌≤◌, ◌==◌, Bool, true, false, nat_lt, IsOk, List, [], ◌∷◌, ◌++◌, length, map, Option, Some, None, option_and_then, if◌then◌else◌, Err}
use Rattle.std.specs.List.{AllByRecursion, flat_map}
use Rattle.std.specs.Net.Addr.{ipv4_octets}
use Rattle.std.specs.Option.{ok_or}
use Rattle.std.proofs.Common.{refl, subst, ◌∙◌, arith, length-append}
use Rattle.rsvp_objects.specs.Objects.{raw_of, spelling}
use Rattle.rsvp_objects.specs.declared.object.Object.TheVariants as objects
use Rattle.rsvp_objects.specs.declared.values.ErrorSpec.{ErrorSpec}
use Rattle.rsvp_objects.specs.declared.values.Hop.{Hop}
use Rattle.rsvp_objects.specs.declared.values.Session.{Session}
use Rattle.rsvp_objects.specs.declared.values.Template.{Template}
use Rattle.rsvp_contents.proofs.FlowsAgain.{one_total, same_bytes}
use Rattle.rsvp_contents.proofs.FlowTotals.{if_some_of, length-flat_map-spelling, size_of, total, total-append}
use Rattle.rsvp_contents.specs.Errors.{counting_objects, error_objects}
use Rattle.rsvp_contents.specs.Flows.{flow_objects, flowspec_objects, is_same}
use Rattle.rsvp_contents.specs.declared.descriptors.ErrorDescriptor.{ErrorDescriptor}
use Rattle.rsvp_contents.specs.declared.descriptors.FlowDescriptor.{FlowDescriptor}
use Rattle.rsvp_bodies.proofs.Shapes.{has_shape-whole}
use Rattle.rsvp_bodies.specs.Rates.{rate_of}
use Rattle.rsvp_bodies.specs.TokenBuckets.{has_shape, rate_word_of, service_of, token_rate}
use Rattle.rsvp_bodies.specs.Traffic.{flowspec_rate}
use Rattle.rsvp_bodies.specs.declared.traffic_fault.TrafficFault.{TrafficFault}
use Rattle.rsvp_contents.specs.Written.{resv_err_objects, resv_objects}
use Rattle.rsvp_contents.specs.declared.messages.Resv.{Resv}
use Rattle.rsvp_contents.specs.declared.messages.ResvErr.{ResvErr}
use Rattle.abstract_router.specs.Reserving.{named}
use Rattle.message_rules.specs.Rooms.{HaveRoom}

-- what a FLOWSPEC takes that counts, where one does
abbrev counting_size : Option (List ℕ) → ℕ
counting_size flowspec = if_some_of size_of objects.Flowspec flowspec

-- it was written once, be it here or before
written_once : (before : Option (List ℕ)) (f : List ℕ) → counting_size (Some f) ≤ counting_size before + total size_of (flowspec_objects before f)
written_once None f = omega arith
written_once (Some b) f = by (is_same b f) refl
  where
    by : (same : Bool) → is_same b f ≡ same → size_of (objects.Flowspec f) ≤ size_of (objects.Flowspec b) + total size_of (if same then [] else objects.Flowspec f ∷ [])
    by true is = subst (λ g. size_of (objects.Flowspec g) ≤ size_of (objects.Flowspec b) + 0) (same_bytes b f is) (omega arith)
    by false is = omega arith

-- so with that of an error
counted_once : (before now : Option (List ℕ)) → counting_size now ≤ counting_size before + total size_of (counting_objects before now)
counted_once before None = omega arith
counted_once before (Some f) = written_once before f

-- alone it is written where it is there
counted_alone : (now : Option (List ℕ)) → total size_of (counting_objects None now) ≡ counting_size now
counted_alone None = refl
counted_alone (Some f) = omega arith

-- what one LSP takes that an error names alone
one_alone : (e : ErrorDescriptor) → total size_of (error_objects None (e ∷ [])) ≡ counting_size e.flowspec + size_of (objects.FilterSpec e.filter)
one_alone e = omega (arith, total-append size_of (counting_objects None e.flowspec) (objects.FilterSpec e.filter ∷ []), counted_alone e.flowspec)

-- Each LSP that an error names takes no more alone than all.
errors_each : (most : ℕ) (before : Option (List ℕ)) (es : List ErrorDescriptor) → counting_size before + total size_of (error_objects before es) ≤ most → AllByRecursion (λ e. total size_of (error_objects None (e ∷ [])) ≤ most) es
errors_each most before [] h = tt
errors_each most before (e ∷ es) h =
    let whole = total-append size_of (counting_objects before e.flowspec) (objects.FilterSpec e.filter ∷ error_objects e.flowspec es) in
    let once = counted_once before e.flowspec in
    (omega (arith, h, whole, once, one_alone e), errors_each most e.flowspec es (omega (arith, h, whole, once)))

-- Nor does one that a Resv reserves for.
-- The label takes 8 bytes more.
flows_each : (most : ℕ) (before : Option (List ℕ)) (ds : List FlowDescriptor) → counting_size before + total size_of (flow_objects before ds) ≤ most + 8 → AllByRecursion (λ d. total size_of (error_objects None (named d ∷ [])) ≤ most) ds
flows_each most before [] h = tt
flows_each most before (d ∷ ds) h =
    let whole = one_total size_of before d ds in
    let once = written_once before d.flowspec in
    let label : size_of (objects.Label d.label) ≡ 8 = refl in
    (omega (arith, h, whole, once, one_alone (named d), label), flows_each most (Some d.flowspec) ds (omega (arith, h, whole, once)))

-- room by its objects' sizes
room_by : (es : List ErrorDescriptor) → total size_of (error_objects None es) ≤ 4040 → HaveRoom es
room_by es h = omega (arith, h, length-flat_map-spelling (error_objects None es))

rooms_by : {A : Type 0} (f : A → ErrorDescriptor) (xs : List A) → AllByRecursion (λ x. total size_of (error_objects None (f x ∷ [])) ≤ 4040) xs → AllByRecursion (λ x. HaveRoom (f x ∷ [])) xs
rooms_by f [] each = tt
rooms_by f (x ∷ xs) each = (room_by (f x ∷ []) each.0, rooms_by f xs each.1)

-- a rate that is there has the shape of one
shape-there : (short service shape : Bool) (word : ℕ) (a b c : TrafficFault) → IsOk (if short then Err a else if service then ok_or (option_and_then rate_of (if shape then Some word else None)) b else Err c) → shape ≡ true
shape-there true service shape word a b c h = absurd (let e = h in cc)
shape-there false false shape word a b c h = absurd (let e = h in cc)
shape-there false true false word a b c h = absurd (let e = h in cc)
shape-there false true true word a b c h = refl

-- A FLOWSPEC with a rate has the bytes of a token bucket.
flowspec-whole : (f : List ℕ) → IsOk (flowspec_rate f) → length f ≡ 32
unfolding flowspec_rate token_rate rate_word_of
flowspec-whole f h = has_shape-whole 5 f (shape-there (nat_lt (length f) 8) (service_of f == 5) (has_shape 5 f) _ _ _ _ h)

-- how long objects are written whose addresses are of four octets
flowspec-size : (f : List ℕ) → size_of (objects.Flowspec f) ≡ length f + 4
flowspec-size f =
    let body : length (raw_of (objects.Flowspec f)).body ≡ length f = refl in
    omega arith

filter-size : (t : Template) → length (ipv4_octets t.sender) ≡ 4 → size_of (objects.FilterSpec t) ≡ 12
filter-size t a =
    let body : length (raw_of (objects.FilterSpec t)).body ≡ 8 = length-append (ipv4_octets t.sender) _ ∙ omega (arith, a) in
    omega arith

session-size : (s : Session) → length (ipv4_octets s.endpoint) ≡ 4 → length (ipv4_octets s.extended) ≡ 4 → size_of (objects.Session s) ≡ 16
session-size s a b =
    let body : length (raw_of (objects.Session s)).body ≡ 12 = length-append (ipv4_octets s.endpoint) _ ∙ omega (arith, a, b) in
    omega arith

hop-size : (h : Hop) → length (ipv4_octets h.address) ≡ 4 → size_of (objects.Hop h) ≡ 12
hop-size h a =
    let body : length (raw_of (objects.Hop h)).body ≡ 8 = length-append (ipv4_octets h.address) _ ∙ omega (arith, a) in
    omega arith

error-size : (e : ErrorSpec) → length (ipv4_octets e.node) ≡ 4 → size_of (objects.ErrorSpec e) ≡ 12
error-size e a =
    let body : length (raw_of (objects.ErrorSpec e)).body ≡ 8 = length-append (ipv4_octets e.node) _ ∙ omega (arith, a) in
    omega arith

-- So an error has room for a FLOWSPEC with a rate.
pub rated_has_room : (f : List ℕ) (t : Template) → IsOk (flowspec_rate f) → length (ipv4_octets t.sender) ≡ 4 → HaveRoom (record { flowspec = Some f; filter = t } ∷ [])
rated_has_room f t rated address =
    let one : ErrorDescriptor = record { flowspec = Some f; filter = t } in
    room_by (one ∷ []) (omega (arith, one_alone one, flowspec-size f, filter-size t address, flowspec-whole f rated))

-- what a Resv takes, and what a ResvErr does
resv_size : (v : Resv) → total size_of (resv_objects v) ≡ size_of (objects.Session v.session) + (size_of (objects.Hop v.hop) + (size_of (objects.TimeValues v.time) + (total size_of (map objects.Other v.passing) + (size_of (objects.Style v.style) + total size_of (flow_objects None v.descriptors)))))
resv_size v =
    omega (arith, total-append size_of (objects.Session v.session ∷ objects.Hop v.hop ∷ objects.TimeValues v.time ∷ []) (map objects.Other v.passing ++ (objects.Style v.style ∷ flow_objects None v.descriptors)), total-append size_of (map objects.Other v.passing) (objects.Style v.style ∷ flow_objects None v.descriptors))

resv_err_size : (e : ResvErr) → total size_of (resv_err_objects e) ≡ size_of (objects.Session e.session) + (size_of (objects.Hop e.hop) + (size_of (objects.ErrorSpec e.error) + (size_of (objects.Style e.style) + total size_of (error_objects None e.descriptors))))
resv_err_size e = refl

-- So an error has room for each LSP that a Resv reserves for.
pub resv_rooms : (v : Resv) → 8 + length (flat_map spelling (resv_objects v)) ≤ 4096 → length (ipv4_octets v.session.endpoint) ≡ 4 → length (ipv4_octets v.session.extended) ≡ 4 → length (ipv4_octets v.hop.address) ≡ 4 → AllByRecursion (λ d. HaveRoom (named d ∷ [])) v.descriptors
resv_rooms v short a b c =
    let few : 8 + total size_of (resv_objects v) ≤ 4096 = subst (λ n. 8 + n ≤ 4096) (length-flat_map-spelling (resv_objects v)) short in
    let time : size_of (objects.TimeValues v.time) ≡ 8 = refl in
    let style : size_of (objects.Style v.style) ≡ 8 = refl in
    rooms_by named v.descriptors
    (flows_each 4040 None v.descriptors (by _ _ _ _ _ _ _ few (resv_size v) (session-size v.session a b) (hop-size v.hop c) time style))
  where
    by : (whole session hop time passing style flows : ℕ) → 8 + whole ≤ 4096 → whole ≡ session + (hop + (time + (passing + (style + flows)))) → session ≡ 16 → hop ≡ 12 → time ≡ 8 → style ≡ 8 → 0 + flows ≤ 4040 + 8
    by whole session hop time passing style flows few is s h t y = omega arith

-- And it has for each that another error names.
pub resv_err_rooms : (e : ResvErr) → 8 + length (flat_map spelling (resv_err_objects e)) ≤ 4096 → length (ipv4_octets e.session.endpoint) ≡ 4 → length (ipv4_octets e.session.extended) ≡ 4 → length (ipv4_octets e.hop.address) ≡ 4 → length (ipv4_octets e.error.node) ≡ 4 → AllByRecursion (λ d. HaveRoom (d ∷ [])) e.descriptors
resv_err_rooms e short a b c d =
    let few : 8 + total size_of (resv_err_objects e) ≤ 4096 = subst (λ n. 8 + n ≤ 4096) (length-flat_map-spelling (resv_err_objects e)) short in
    let style : size_of (objects.Style e.style) ≡ 8 = refl in
    rooms_by (λ x. x) e.descriptors
    (errors_each 4040 None e.descriptors (by _ _ _ _ _ _ few (resv_err_size e) (session-size e.session a b) (hop-size e.hop c) (error-size e.error d) style))
  where
    by : (whole session hop error style named : ℕ) → 8 + whole ≤ 4096 → whole ≡ session + (hop + (error + (style + named))) → session ≡ 16 → hop ≡ 12 → error ≡ 12 → style ≡ 8 → 0 + named ≤ 4040
    by whole session hop error style named few is s h r y = omega arith

-- So it has for one under another sender, as it has for that one.
pub renamed_has_room : (d : ErrorDescriptor) (t : Template) → HaveRoom (d ∷ []) → length (ipv4_octets d.filter.sender) ≡ 4 → length (ipv4_octets t.sender) ≡ 4 → HaveRoom (record d { filter = t } ∷ [])
renamed_has_room d t room a b =
    let renamed : ErrorDescriptor = record d { filter = t } in
    room_by (renamed ∷ []) (omega (arith, room, length-flat_map-spelling (error_objects None (d ∷ [])), one_alone d, one_alone renamed, filter-size d.filter a, filter-size t b))
