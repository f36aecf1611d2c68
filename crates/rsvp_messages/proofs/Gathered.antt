-- What is gathered object by object is what is picked among all of them.
use Rattle.std.proofs.Common.{◌≡◌, ℕ, Bool, true, false, List, [], ◌∷◌, ◌++◌, Option, Some, None, Result, Ok, Err, OnOk, map, cond, if◌then◌else◌, ◌&&◌, is_some, refl, sym, ◌∙◌, ap}
use Rattle.std.specs.Prelude.{filter, ◌==◌}
use Rattle.std.proofs.lemmas.Bool.{eqb-true}
use Rattle.std.proofs.lemmas.List.{map-append}
use Rattle.std.proofs.lemmas.List.Elements.{filter-append}
use Rattle.std.specs.Option.{option_map_or}
use Rattle.rsvp_bodies.specs.declared.affinities.Affinities.{Affinities}
use Rattle.rsvp_objects.specs.Kinds.{kind_of}
use Rattle.rsvp_objects.specs.Raw.{Raw}
use Rattle.rsvp_objects.specs.Objects.{raw_of}
use Rattle.rsvp_objects.specs.declared.object.Object.TheVariants as objects
use Rattle.rsvp_contents.specs.Counting.{class_of, has_style, passes, passes_as}
use Rattle.rsvp_objects.specs.declared.object.Object.{Object}
use Rattle.rsvp_contents.specs.Flows.{is_flow}
use Rattle.rsvp_contents.specs.declared.parts.Parts.{Parts}
use Rattle.rsvp_contents.specs.Behind.{behind_style, flows_in}
use Rattle.rsvp_contents.specs.Picking.{parts_in}
use Rattle.rsvp_contents.specs.Values.{picked, option_or, as_session, as_hop, as_time, as_error, as_style, as_sender, as_tspec, as_label_request, as_route, as_own_record, as_attr, as_fast_reroute}
use Rattle.rsvp_messages.specs.Joining.{also, adspecs_in, flow_more, joined, passing_in}

-- a value behind none, and one behind a value
also_first : {X : Type 0} (new : Option X) → also new None ≡ option_or new None
also_first None = refl
also_first (Some x) = refl

also_later : {X : Type 0} (new : Option X) (x : X) → also new (Some x) ≡ Some x
also_later None x = refl
also_later (Some y) x = refl

one_behind : {X : Type 0} (first new rest all : Option X) → also new rest ≡ all → also new (option_or first rest) ≡ option_or first all
one_behind None new rest all e = e
one_behind (Some x) new rest all e = also_later new x

-- what was picked, and one more object, is what is picked with that object
picked_more : {X : Type 0} (as_value : Object → Option X) (os : List Object) (o : Object) → also (as_value o) (picked as_value os) ≡ picked as_value (os ++ o ∷ [])
picked_more as_value [] o = also_first (as_value o)
picked_more {X} as_value (x ∷ os) o =
    one_behind (as_value x) (as_value o) (picked as_value os) (picked as_value (os ++ o ∷ [])) (picked_more as_value os o)

-- what objects say, and one more object, is what they say together
joined_more : (type : ℕ) (os : List Object) (o : Object) → joined type (parts_in type os) o ≡ parts_in type (os ++ o ∷ [])
joined_more type os o =
    rw (picked_more as_session os o, picked_more as_hop os o, picked_more as_time os o, picked_more as_error os o, picked_more as_style os o, picked_more as_sender os o, picked_more as_tspec os o, picked_more as_label_request os o, picked_more as_route os o, picked_more (as_own_record (has_style type)) os o, picked_more as_attr os o, picked_more as_fast_reroute os o)
    refl

-- what of more objects is passed on
passing_more : (type : ℕ) (os more : List Object) → passing_in type (os ++ more) ≡ passing_in type os ++ passing_in type more
passing_more type os more = ap (map raw_of) (filter-append (passes type) os more) ∙ map-append raw_of (filter (passes type) os) (filter (passes type) more)

adspecs_more : (os more : List Object) → adspecs_in (os ++ more) ≡ adspecs_in os ++ adspecs_in more
adspecs_more os more =
    ap (map raw_of) (filter-append (λ o. class_of o == 13) os more)
    ∙ map-append raw_of (filter (λ o. class_of o == 13) os) (filter (λ o. class_of o == 13) more)

-- an ADSPEC is not passed on in its place
no_adspec : (type class ctype : ℕ) (b : Bool) → (class == 13) ≡ b → passes_as type (kind_of class ctype) class ≡ true → b ≡ false
unfolding kind_of
no_adspec type class ctype false e h = refl
no_adspec type class ctype true e h = let at_13 = rw (eqb-true class 13 e) at h in absurd cc

pub passed_is_no_adspec : (type : ℕ) (raw : Raw) → passes type (objects.Other raw) ≡ true → adspecs_in (objects.Other raw ∷ []) ≡ []
passed_is_no_adspec type raw h = rw (no_adspec type raw.class raw.ctype (raw.class == 13) refl h) refl

-- SESSION_ATTRIBUTE of either type
attr_passes_not : (type : ℕ) (affinities : Option Affinities) → passes_as type (kind_of 207 (option_map_or (λ _. 1) affinities 7)) 207 ≡ false
unfolding kind_of
attr_passes_not type None = refl
attr_passes_not type (Some a) = refl

-- an object that isn't kept as its bytes is not passed on
pub typed_passes_not : (type : ℕ) (o : Object) → ((raw : Raw) → o ≡ objects.Other raw → ⊥) → passing_in type (o ∷ []) ≡ []
unfolding kind_of
typed_passes_not type (objects.Session s) h = refl
typed_passes_not type (objects.Hop s) h = refl
typed_passes_not type (objects.TimeValues s) h = refl
typed_passes_not type (objects.ErrorSpec s) h = refl
typed_passes_not type (objects.Style s) h = refl
typed_passes_not type (objects.Flowspec s) h = refl
typed_passes_not type (objects.FilterSpec s) h = refl
typed_passes_not type (objects.SenderTemplate s) h = refl
typed_passes_not type (objects.SenderTspec s) h = refl
typed_passes_not type (objects.Label s) h = refl
typed_passes_not type (objects.LabelRequest s) h = refl
typed_passes_not type (objects.ExplicitRoute s) h = refl
typed_passes_not type (objects.RecordRoute s) h = refl
typed_passes_not type (objects.FastReroute s) h = refl
typed_passes_not type (objects.SessionAttribute a) h =
    ap (λ (b : Bool). map raw_of (cond b (objects.SessionAttribute a ∷ []) [])) (attr_passes_not type a.affinities)
typed_passes_not type (objects.Other raw) h = absurd (h raw refl)

pub typed_is_no_adspec : (o : Object) → ((raw : Raw) → o ≡ objects.Other raw → ⊥) → adspecs_in (o ∷ []) ≡ []
typed_is_no_adspec (objects.Other raw) h = absurd (h raw refl)
typed_is_no_adspec _ h = refl

-- what holds in any case holds where something is added
pub on_ok_always : {T E P : Type 0} (added : Result T E) → P → OnOk added P
on_ok_always (Ok done) p = p
on_ok_always (Err e) p = tt

-- what stands behind STYLE, with one more object
behind_more : (os : List Object) (o : Object) → filter is_flow (behind_style (os ++ o ∷ [])) ≡ filter is_flow (behind_style os) ++ (if is_flow o then (if is_some (picked as_style os) then o ∷ [] else []) else [])
behind_more [] (objects.Style s) = refl
behind_more [] o = refl
behind_more (objects.Style s ∷ os) o = filter-append is_flow os (o ∷ [])
behind_more (x ∷ os) o = behind_more os o

by_style : (styled flow : Bool) (before after more : List Object) → after ≡ before ++ (if flow then more else []) → (if styled then after else []) ≡ (if styled then before else []) ++ (if flow && styled then more else [])
by_style true true before after more e = e
by_style true false before after more e = e
by_style false true before after more e = refl
by_style false false before after more e = refl

flows_more : (type : ℕ) (os : List Object) (o : Object) → flows_in type (os ++ o ∷ []) ≡ flows_in type os ++ flow_more type (parts_in type os) o
flows_more type os o =
    by_style (has_style type) (is_flow o) (filter is_flow (behind_style os)) (filter is_flow (behind_style (os ++ o ∷ []))) (if is_some (picked as_style os) then o ∷ [] else []) (behind_more os o)

-- one more object was added to what was gathered
pub parts_added : (type : ℕ) (before after : Parts) (os : List Object) (o : Object) → before ≡ parts_in type os → after ≡ joined type before o → after ≡ parts_in type (os ++ o ∷ [])
parts_added type before after os o e step = step ∙ (ap (λ (p : Parts). joined type p o) e ∙ joined_more type os o)

pub passing_added : (type : ℕ) (before after : List Raw) (os : List Object) (o : Object) → before ≡ passing_in type os → after ≡ before ++ passing_in type (o ∷ []) → after ≡ passing_in type (os ++ o ∷ [])
passing_added type before after os o e step =
    step ∙ (ap (λ (p : List Raw). p ++ passing_in type (o ∷ [])) e ∙ sym (passing_more type os (o ∷ [])))

pub adspecs_added : (before after : List Raw) (os : List Object) (o : Object) → before ≡ adspecs_in os → after ≡ before ++ adspecs_in (o ∷ []) → after ≡ adspecs_in (os ++ o ∷ [])
adspecs_added before after os o e step =
    step ∙ (ap (λ (p : List Raw). p ++ adspecs_in (o ∷ [])) e ∙ sym (adspecs_more os (o ∷ [])))

pub flows_added : (type : ℕ) (p : Parts) (before after os : List Object) (o : Object) → p ≡ parts_in type os → before ≡ flows_in type os → after ≡ before ++ flow_more type p o → after ≡ flows_in type (os ++ o ∷ [])
flows_added type p before after os o parts e step =
    step ∙ ap (λ (v : List Object). v ++ flow_more type p o) e ∙ ap (λ (q : Parts). flows_in type os ++ flow_more type q o) parts ∙ sym (flows_more type os o)
