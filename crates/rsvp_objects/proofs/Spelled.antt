-- Every object of the program is spelled by what it is written as.
use Rattle.std.proofs.Common.{◌≡◌, ◌<◌, ◌≤◌, ◌%◌, ℕ, List, [], ◌++◌, length, Option, Some, None, true, refl, sym, ap, ◌∙◌, arith, length-append, lit<, lit≤}
use Rattle.rsvp_bodies.specs.Bodies.{IsBody}
use Rattle.rsvp_objects.specs.declared.kind.Kind.{Kind}
use Rattle.rsvp_objects.specs.declared.kind.Kind.TheVariants as kinds
use Rattle.rsvp_objects.specs.declared.object.Object.{Object}
use Rattle.rsvp_objects.specs.declared.object.Object.TheVariants as objects
use Rattle.rsvp_bodies.specs.declared.attr.Attr.{Attr}
use Rattle.rsvp_objects.specs.Raw.{Raw, IsRaw}
use Rattle.rsvp_objects.specs.Kinds.{kind_of, is_kept}
use Rattle.byteorder.specs.Numbers.{big_number-reads_back}
use Rattle.rsvp_bodies.specs.declared.affinities.Affinities.{Affinities}
use Rattle.rsvp_objects.specs.Values.{session_body, hop_body, time_values_body, error_spec_body, style_body, template_body, label_body, label_request_body, fast_reroute_body}
use Rattle.rsvp_bodies.specs.Affinities.{affinities_body}
use Rattle.rsvp_bodies.specs.Attributes.{name_body, IsAttr}
use Rattle.rsvp_objects.specs.Objects.{SpellsAs, SpellsObject, raw_of, spelling, IsObject}
use Rattle.rsvp_objects.proofs.Again.{session_again, hop_again, error_spec_again, template_again, word_again, fast_reroute_again}
use Rattle.rsvp_bodies.proofs.AttrAgain.{length-name_body, HasName-name_body, attr_again, attr_ra_again}

-- a body of n bytes is a body
sized_body : (n : ℕ) (body : List ℕ) → length body ≡ n → n % 4 ≡ 0 → n ≤ 65528 → IsBody body
sized_body n body e words fits = record { whole_words = ap (λ (m : ℕ). m % 4) e ∙ words; fits = omega arith }

-- an object whose body and value are right is spelled by its bytes
spelled : (object : Object) → IsRaw (raw_of object) → SpellsAs (kind_of (raw_of object).class (raw_of object).ctype) (raw_of object) object → SpellsObject (spelling object) object
spelled object is_raw value = record { raw = raw_of object; is_raw = is_raw; framed = refl; value = value }

-- a kind that is kept has no form of its own
kept_value : (kind : Kind) (raw : Raw) → is_kept kind ≡ true → SpellsAs kind raw (objects.Other raw)
kept_value kinds.Null raw h = refl
kept_value kinds.Integrity raw h = refl
kept_value kinds.Scope raw h = refl
kept_value kinds.Adspec raw h = refl
kept_value kinds.PolicyData raw h = refl
kept_value kinds.ResvConfirm raw h = refl
kept_value kinds.Unlisted raw h = refl
kept_value (kinds.Unknown treatment) raw h = refl
kept_value _ raw h = absurd cc

-- the numbers of the classes and C-Types that have a form of their own
typed : (class ctype n : ℕ) (body : List ℕ) → class < 256 → ctype < 256 → length body ≡ n → n % 4 ≡ 0 → n ≤ 65528 → IsRaw (record { class = class; ctype = ctype; body = body })
typed class ctype n body c t e words fits = record { class = c; ctype = t; body = sized_body n body e words fits }

-- the body of attributes is a body
attr_body_fits : (attr : Attr) (front : List ℕ) → length front % 4 ≡ 0 → length front ≤ 12 → IsAttr attr → IsBody (front ++ name_body attr)
attr_body_fits attr front words short h =
    record {
      whole_words = omega (arith, length-append front (name_body attr), length-name_body attr);
      fits = omega (arith, length-append front (name_body attr), length-name_body attr, h.name);
    }

attr_spelled : (affinities : Option Affinities) (setup hold flags : ℕ) (name : List ℕ) →
    let attr : Attr = record { affinities = affinities; setup = setup; hold = hold; flags = flags; name = name } in
    IsAttr attr → SpellsObject (spelling (objects.SessionAttribute attr)) (objects.SessionAttribute attr)
unfolding kind_of
attr_spelled None setup hold flags name h =
    let attr : Attr = record { affinities = None; setup = setup; hold = hold; flags = flags; name = name } in
    spelled (objects.SessionAttribute attr) (record { class = lit< tt; ctype = lit< tt; body = attr_body_fits attr [] refl (lit≤ tt) h })
    (attr, (HasName-name_body attr, attr_again setup hold flags name), refl)
attr_spelled (Some affinities) setup hold flags name h =
    let attr : Attr = record { affinities = Some affinities; setup = setup; hold = hold; flags = flags; name = name } in
    spelled (objects.SessionAttribute attr) (record { class = lit< tt; ctype = lit< tt; body = attr_body_fits attr (affinities_body affinities) refl (lit≤ tt) h })
    (attr, attr_ra_again affinities setup hold flags name h.affinities, refl)

pub object_again : (object : Object) → IsObject object → SpellsObject (spelling object) object
unfolding kind_of
object_again (objects.Session s) h =
    let len : length (session_body s) ≡ 12 = omega (arith, length-append {A = ℕ}, h.endpoint, h.extended) in
    spelled (objects.Session s) (typed 1 7 12 (session_body s) (lit< tt) (lit< tt) len refl (lit≤ tt))
    (len, ap (λ x. objects.Session x) (sym (session_again s h)))
object_again (objects.Hop x) h =
    let len : length (hop_body x) ≡ 8 = omega (arith, length-append {A = ℕ}, h.address) in
    spelled (objects.Hop x) (typed 3 1 8 (hop_body x) (lit< tt) (lit< tt) len refl (lit≤ tt))
    (len, ap (λ y. objects.Hop y) (sym (hop_again x h)))
object_again (objects.TimeValues x) h =
    spelled (objects.TimeValues x) (typed 5 1 4 (time_values_body x) (lit< tt) (lit< tt) refl refl (lit≤ tt))
    (refl, ap (λ n. objects.TimeValues (record { refresh_ms = n })) (sym (word_again x.refresh_ms [] h)))
object_again (objects.ErrorSpec x) h =
    let len : length (error_spec_body x) ≡ 8 = omega (arith, length-append {A = ℕ}, h.node) in
    spelled (objects.ErrorSpec x) (typed 6 1 8 (error_spec_body x) (lit< tt) (lit< tt) len refl (lit≤ tt))
    (len, ap (λ y. objects.ErrorSpec y) (sym (error_spec_again x h)))
object_again (objects.Style x) h =
    spelled (objects.Style x) (typed 8 1 4 (style_body x) (lit< tt) (lit< tt) refl refl (lit≤ tt))
    (refl, ap (λ n. objects.Style (record { word = n })) (sym (word_again x.word [] h)))
object_again (objects.Flowspec body) h =
    spelled (objects.Flowspec body) (record { class = lit< tt; ctype = lit< tt; body = h }) refl
object_again (objects.FilterSpec x) h =
    let len : length (template_body x) ≡ 8 = omega (arith, length-append {A = ℕ}, h.sender) in
    spelled (objects.FilterSpec x) (typed 10 7 8 (template_body x) (lit< tt) (lit< tt) len refl (lit≤ tt))
    (len, ap (λ y. objects.FilterSpec y) (sym (template_again x h)))
object_again (objects.SenderTemplate x) h =
    let len : length (template_body x) ≡ 8 = omega (arith, length-append {A = ℕ}, h.sender) in
    spelled (objects.SenderTemplate x) (typed 11 7 8 (template_body x) (lit< tt) (lit< tt) len refl (lit≤ tt))
    (len, ap (λ y. objects.SenderTemplate y) (sym (template_again x h)))
object_again (objects.SenderTspec body) h =
    spelled (objects.SenderTspec body) (record { class = lit< tt; ctype = lit< tt; body = h }) refl
object_again (objects.Label x) h =
    spelled (objects.Label x) (typed 16 1 4 (label_body x) (lit< tt) (lit< tt) refl refl (lit≤ tt))
    (refl, ap (λ n. objects.Label (record { number = n })) (sym (word_again x.number [] h)))
object_again (objects.LabelRequest x) h =
    spelled (objects.LabelRequest x) (typed 19 1 4 (label_request_body x) (lit< tt) (lit< tt) refl refl (lit≤ tt))
    (refl, ap (λ n. objects.LabelRequest (record { l3pid = n })) (sym (big_number-reads_back 2 x.l3pid [] h)))
object_again (objects.ExplicitRoute route) h =
    spelled (objects.ExplicitRoute route) (record { class = lit< tt; ctype = lit< tt; body = h.0 }) (route, h.1, refl)
object_again (objects.RecordRoute entries) h =
    spelled (objects.RecordRoute entries) (record { class = lit< tt; ctype = lit< tt; body = h.0 }) (entries, h.1, refl)
object_again (objects.FastReroute x) h =
    spelled (objects.FastReroute x) (typed 205 1 20 (fast_reroute_body x) (lit< tt) (lit< tt) refl refl (lit≤ tt))
    (refl, ap (λ y. objects.FastReroute y) (sym (fast_reroute_again x h)))
object_again (objects.SessionAttribute attr) h = attr_spelled attr.affinities attr.setup attr.hold attr.flags attr.name h
object_again (objects.Other raw) h = spelled (objects.Other raw) h.0 (kept_value (kind_of raw.class raw.ctype) raw h.1)
