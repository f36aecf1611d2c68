-- What objects say fits a message, and stood among them.
use Rattle.std.proofs.Common.{◌≡◌, ◌≤◌, ◌+◌, ℕ, Bool, true, false, not, ◌&&◌, ◌||◌, nat_eq, if◌then◌else◌, List, [], ◌∷◌, ◌++◌, length, map, Option, Some, None, Ok, Err, refl, sym, ap, ◌∙◌, subst, arith, ◌⊎◌, inl, inr}
use Rattle.std.specs.Prelude.{find}
use Rattle.std.specs.Option.{option_map, option_map_or, ok_or}
use Rattle.std.specs.List.{filter, list_all, list_any}
use Rattle.std.proofs.lemmas.Bool.{and_parts, and_from, eqb-true, ne_eqb, not_from_false}
use Rattle.std.proofs.lemmas.List.{map-append}
use Rattle.rsvp_objects.specs.declared.values.Style.{Style}
use Rattle.rsvp_objects.specs.declared.values.Template.{Template}
use Rattle.rsvp_objects.specs.declared.object.Object.{Object}
use Rattle.rsvp_objects.specs.declared.object.Object.TheVariants as objects
use Rattle.rsvp_objects.specs.declared.kind.Kind.{Kind}
use Rattle.rsvp_objects.specs.declared.kind.Kind.TheVariants as kinds
use Rattle.rsvp_objects.specs.declared.kind.Treatment.TheVariants as treatments
use Rattle.rsvp_objects.specs.Kinds.{kind_of}
use Rattle.rsvp_objects.specs.Objects.{raw_of}
use Rattle.rsvp_contents.specs.declared.descriptors.FlowDescriptor.{FlowDescriptor}
use Rattle.rsvp_contents.specs.Errors.{error_objects, errors_of, filters_of}
use Rattle.rsvp_contents.specs.Flows.{is_flow, flow_objects, flows_of, styled_flows}
use Rattle.rsvp_contents.specs.Styles.{is_other}
use Rattle.rsvp_contents.proofs.ErrorsAgain.{errors_within, errors_count_on, filters_within}
use Rattle.rsvp_contents.proofs.FlowsAgain.{flows_within, style_fits}
use Rattle.rsvp_contents.specs.declared.dropped.Dropped.TheVariants as dropped
use Rattle.rsvp_contents.specs.declared.messages.Path.{Path}
use Rattle.rsvp_contents.specs.declared.messages.Resv.{Resv}
use Rattle.rsvp_contents.specs.declared.messages.Content.{Content}
use Rattle.rsvp_contents.specs.declared.messages.Content.TheVariants as contents
use Rattle.rsvp_contents.specs.declared.message.Reading.{Reading}
use Rattle.rsvp_contents.specs.declared.message.Reading.TheVariants as readings
use Rattle.rsvp_contents.specs.Behind.{behind_style, up_to_style, looked_at, is_misplaced, flows_in}
use Rattle.rsvp_contents.specs.Counting.{class_of, object_kind, counting, is_used_by_path, is_used_by_resv, passes, refuses_as, refuses}
use Rattle.rsvp_contents.specs.Fitting.{fits_parts, fits_path, fits_resv, have_short_records}
use Rattle.rsvp_contents.specs.Limits.{is_short_route, is_short_record, is_short_passing, is_short_record_object, are_short_records}
use Rattle.rsvp_contents.specs.Picking.{parts_in, passing_of, placed_flows, one_or_more, content_of, is_short, reading_of, content_in, objects_read}
use Rattle.rsvp_contents.specs.Values.{◌>>=◌, picked, as_session, as_hop, as_time, as_error, as_style, as_sender, as_tspec, as_label_request, as_route, as_own_record, as_attr, as_fast_reroute}
use Rattle.rsvp_contents.specs.Written.{objects_of, type_of, before_sender, adspec, path_objects, resv_objects}
use Rattle.rsvp_contents.proofs.Totals.{total, one_if, if_some_of, total-append, total-if_some, total-counting}
use Rattle.rsvp_contents.proofs.Listed.{total-path_list, front_again, back_again}
use Rattle.rsvp_contents.proofs.Kept.{IsKept, is_adspec, passes-IsKept, is_adspec-IsKept}
use Rattle.rsvp_contents.proofs.Once.{is_class, IsCounting, counting-IsCounting}
use Rattle.rsvp_contents.proofs.PassedSaid.{are_passed-said, has_adspec_last-said, has_one_fast_reroute-said}
use Rattle.rsvp_contents.proofs.PathAgain.{parts_fit}
use Rattle.rsvp_contents.proofs.ResvAgain.{resv_parts_fit, short_records}
use Rattle.rsvp_contents.proofs.Rows.{as_number}
use Rattle.rsvp_contents.proofs.Seen.{seen_within, record_seen}

-- What is said fits, is of the type, and its objects stood among those that say it.
pub record IsSaid (type : ℕ) (os : List Object) (content : Content) : Type 0 where
  pub fits : fits_parts content ≡ true
  pub within : (w : Object → ℕ) → total w (objects_of content) ≤ total w os
  pub type_is : type_of content ≡ type

-- a value that was asked for was there, and the next was asked of it
bound : {A B : Type 0} (o : Option A) (f : A → Option B) (b : B) → (o >>= f) ≡ Some b → (a : A) × (o ≡ Some a) × (f a ≡ Some b)
bound None f b e = absurd cc
bound (Some a) f b e = (a, refl, e)

-- the same value from two equal options
same_value : {A : Type 0} (a b : A) → Some a ≡ Some b → a ≡ b
same_value a b e = cc

-- a Path
path_is_said : (os : List Object) (content : Content) → content_of 1 os ≡ Some content → IsCounting 1 os → is_short 1 (parts_in 1 os) (passing_of 1 os) (flows_in 1 os) ≡ true → IsSaid 1 os content
unfolding kind_of
path_is_said os content e once short =
    let a = bound (picked as_session os) _ content e in
    let b = bound (picked as_hop os) _ content a.2 in
    let c = bound (picked as_time os) _ content b.2 in
    let d = bound (picked as_label_request os) _ content c.2 in
    let f = bound (picked as_sender os) _ content d.2 in
    let g = bound (picked as_tspec os) _ content f.2 in
    let limits = and_parts (option_map_or is_short_route (picked as_route os) true) _ short in
    let more = and_parts (option_map_or is_short_record (picked (as_own_record false) os) true) _ limits.1 in
    let p : Path = record {
      session = a.0;
      hop = b.0;
      time = c.0;
      route = picked as_route os;
      label_request = d.0;
      attr = picked as_attr os;
      fast_reroute = picked as_fast_reroute os;
      passing = passing_of 1 os;
      sender = f.0;
      tspec = g.0;
      recorded = picked (as_own_record false) os;
    } in
    subst (IsSaid 1 os) (same_value (contents.Path p) content g.2)
    (record {
      fits =
          parts_fit p
          (record {
            route = limits.0;
            recorded = more.0;
            passing = more.1;
            passed = are_passed-said 1 os;
            last = has_adspec_last-said 1 os (λ ctype. refl) once;
            fast = has_one_fast_reroute-said os once;
          });
      within = λ w.
          let session = ap (if_some_of w objects.Session) a.1 in
          let hop = ap (if_some_of w objects.Hop) b.1 in
          let time = ap (if_some_of w objects.TimeValues) c.1 in
          let label_request = ap (if_some_of w objects.LabelRequest) d.1 in
          let sender = ap (if_some_of w objects.SenderTemplate) f.1 in
          let tspec = ap (if_some_of w objects.SenderTspec) g.1 in
          let front = ap (total w) (front_again os) in
          let back = ap (total w) (back_again os) in
          let sum = total-path_list w p (before_sender (passing_of 1 os)) (adspec (passing_of 1 os)) in
          let all = seen_within w 1 os in
          let recorded = record_seen w os in
          omega arith;
      type_is = refl;
    })

-- a PathErr
path_err_is_said : (os : List Object) (content : Content) → content_of 3 os ≡ Some content → IsSaid 3 os content
path_err_is_said os content e =
    let a = bound (picked as_session os) _ content e in
    let b = bound (picked as_error os) _ content a.2 in
    let c = bound (picked as_sender os) _ content b.2 in
    subst (IsSaid 3 os) (same_value _ content c.2)
    (record {
      fits = refl;
      within = λ w.
          let session = ap (if_some_of w objects.Session) a.1 in
          let error = ap (if_some_of w objects.ErrorSpec) b.1 in
          let sender = ap (if_some_of w objects.SenderTemplate) c.1 in
          let tspec = total-if_some w objects.SenderTspec (picked as_tspec os) in
          let all = seen_within w 3 os in
          omega arith;
      type_is = refl;
    })

-- a PathTear
path_tear_is_said : (os : List Object) (content : Content) → content_of 5 os ≡ Some content → IsSaid 5 os content
path_tear_is_said os content e =
    let a = bound (picked as_session os) _ content e in
    let b = bound (picked as_hop os) _ content a.2 in
    let c = bound (picked as_sender os) _ content b.2 in
    subst (IsSaid 5 os) (same_value _ content c.2)
    (record {
      fits = refl;
      within = λ w.
          let session = ap (if_some_of w objects.Session) a.1 in
          let hop = ap (if_some_of w objects.Hop) b.1 in
          let sender = ap (if_some_of w objects.SenderTemplate) c.1 in
          let all = seen_within w 5 os in
          omega arith;
      type_is = refl;
    })

-- what stands behind STYLE is part of all
more_kept : (w : Object → ℕ) (p : Object → Bool) (o : Object) (os : List Object) → total w (filter p os) ≤ total w (filter p (o ∷ os))
more_kept w p o os = by_test (p o)
  where
    by_test : (test : Bool) → total w (filter p os) ≤ total w (if test then o ∷ filter p os else filter p os)
    by_test true = omega arith
    by_test false = omega arith

total-behind : (w : Object → ℕ) (os : List Object) → total w (filter is_flow (behind_style os)) ≤ total w (filter is_flow os)
total-behind w [] = omega arith
total-behind w (objects.Style s ∷ os) = omega arith
total-behind w (o ∷ os) = omega (arith, total-behind w os, more_kept w is_flow o os)

-- flow descriptors of a style
placed_styled : (test : Bool) (o : Option (List FlowDescriptor)) (ds : List FlowDescriptor) → (if test then None else o) ≡ Some ds → o ≡ Some ds
placed_styled true o ds e = absurd cc
placed_styled false o ds e = e

styled_within : (w : Object → ℕ) (other test : Bool) (os : List Object) (ds : List FlowDescriptor) → (if other then Some [] else if test then None else flows_of None os) ≡ Some ds → total w (flow_objects None ds) ≤ total w os
styled_within w true test os ds e = let same : [] ≡ ds = cc in subst (λ (v : List FlowDescriptor). total w (flow_objects None v) ≤ total w os) same (omega arith)
styled_within w false true os ds e = absurd cc
styled_within w false false os ds e = flows_within w None os ds e

-- their records are short where those of the objects are
all_short : (os : List Object) → are_short_records os ≡ true → total (one_if (λ o. not (is_short_record_object o))) os ≡ 0
all_short [] h = refl
all_short (o ∷ os) h =
    let parts = and_parts (is_short_record_object o) (are_short_records os) h in
    omega (arith, all_short os parts.1, ap (λ (b : Bool). as_number (not b)) parts.0)

short_one : (short : Bool) (o : Object) (os : List Object) → is_short_record_object o ≡ short → total (one_if (λ x. not (is_short_record_object x))) (o ∷ os) ≡ 0 → (total (one_if (λ x. not (is_short_record_object x))) os ≡ 0 → are_short_records os ≡ true) → are_short_records (o ∷ os) ≡ true
short_one true o os e h rest = and_from (is_short_record_object o) (are_short_records os) e (rest (omega (arith, h)))
short_one false o os e h rest = absurd (omega (arith, h, ap (λ (b : Bool). as_number (not b)) e))

short_all : (os : List Object) → total (one_if (λ o. not (is_short_record_object o))) os ≡ 0 → are_short_records os ≡ true
short_all [] h = refl
short_all (o ∷ os) h = short_one (is_short_record_object o) o os refl h (short_all os)

-- what is passed on measures what passed
kept_one : (test : Bool) (o : Object) (os : List Object) → (test ≡ true → IsKept o) → map objects.Other (map raw_of os) ≡ os → map objects.Other (map raw_of (if test then o ∷ os else os)) ≡ (if test then o ∷ os else os)
kept_one true o os k e = ap (λ (x : Object). x ∷ map objects.Other (map raw_of os)) (k refl) ∙ ap (λ (v : List Object). o ∷ v) e
kept_one false o os k e = e

kept_raws : (p : Object → Bool) → ((o : Object) → p o ≡ true → IsKept o) → (os : List Object) → map objects.Other (map raw_of (filter p os)) ≡ filter p os
kept_raws p kept [] = refl
kept_raws p kept (o ∷ os) = kept_one (p o) o (filter p os) (kept o) (kept_raws p kept os)

total-raws : (w : Object → ℕ) (type : ℕ) (os : List Object) → total w (map objects.Other (passing_of type os)) ≡ total w (filter (passes type) os) + total w (filter is_adspec os)
total-raws w type os =
    let front = ap (total w) (kept_raws (passes type) (passes-IsKept type) os) in
    let back = ap (total w) (kept_raws is_adspec is_adspec-IsKept os) in
    let sum = ap (total w) (map-append objects.Other (map raw_of (filter (passes type) os)) (map raw_of (filter is_adspec os))) in
    omega (arith, sum, front, back, total-append w (map objects.Other (map raw_of (filter (passes type) os))) (map objects.Other (map raw_of (filter is_adspec os))))

-- a Resv
resv_is_said : (os : List Object) (content : Content) → content_of 2 os ≡ Some content → IsCounting 2 os → is_short 2 (parts_in 2 os) (passing_of 2 os) (flows_in 2 os) ≡ true → IsSaid 2 os content
unfolding kind_of
resv_is_said os content e once short =
    let a = bound (picked as_session os) _ content e in
    let b = bound (picked as_hop os) _ content a.2 in
    let c = bound (picked as_time os) _ content b.2 in
    let d = bound (picked as_style os) _ content c.2 in
    let f = bound (placed_flows d.0 (is_misplaced os) (flows_in 2 os)) _ content d.2 in
    let flows = flows_in 2 os in
    let styled = placed_styled (not (is_other d.0) && is_misplaced os) (styled_flows d.0 flows) f.0 f.1 in
    let limits = and_parts (are_short_records flows) (is_short_passing (passing_of 2 os)) short in
    let within_flows = λ (w : Object → ℕ). styled_within w (is_other d.0) _ flows f.0 styled in
    let records = short_all (flow_objects None f.0) (omega (arith, all_short flows limits.0, within_flows (one_if (λ o. not (is_short_record_object o))))) in
    let r : Resv = record { session = a.0; hop = b.0; time = c.0; passing = passing_of 2 os; style = d.0; descriptors = f.0 } in
    subst (IsSaid 2 os) (same_value (contents.Resv r) content f.2)
    (record {
      fits =
          resv_parts_fit r
          (record {
            records = sym (short_records None f.0) ∙ records;
            passing = limits.1;
            passed = are_passed-said 2 os;
            last = has_adspec_last-said 2 os (λ ctype. refl) once;
            style = style_fits d.0 flows f.0 styled;
          });
      within = λ w.
          let session = ap (if_some_of w objects.Session) a.1 in
          let hop = ap (if_some_of w objects.Hop) b.1 in
          let time = ap (if_some_of w objects.TimeValues) c.1 in
          let style = ap (if_some_of w objects.Style) d.1 in
          let sum = total-append w (map objects.Other (passing_of 2 os)) (objects.Style d.0 ∷ flow_objects None f.0) in
          let passed = total-raws w 2 os in
          let behind = total-behind w os in
          let flowing = within_flows w in
          let all = seen_within w 2 os in
          omega arith;
      type_is = refl;
    })

-- a ResvErr
resv_err_is_said : (os : List Object) (content : Content) → content_of 4 os ≡ Some content → IsSaid 4 os content
resv_err_is_said os content e =
    let a = bound (picked as_session os) _ content e in
    let b = bound (picked as_hop os) _ content a.2 in
    let c = bound (picked as_error os) _ content b.2 in
    let d = bound (picked as_style os) _ content c.2 in
    subst (IsSaid 4 os) (same_value _ content d.2)
    (record {
      fits = errors_count_on (flows_in 4 os);
      within = λ w.
          let session = ap (if_some_of w objects.Session) a.1 in
          let hop = ap (if_some_of w objects.Hop) b.1 in
          let error = ap (if_some_of w objects.ErrorSpec) c.1 in
          let style = ap (if_some_of w objects.Style) d.1 in
          let behind = total-behind w os in
          let flowing = errors_within w (flows_in 4 os) in
          let all = seen_within w 4 os in
          omega arith;
      type_is = refl;
    })

-- a ResvTear
some_filters : (ts us : List Template) → one_or_more ts ≡ Some us → (ts ≡ us) × (not (nat_eq (length us) 0) ≡ true)
some_filters [] us e = absurd cc
some_filters (t ∷ ts) us e =
    let same : t ∷ ts ≡ us = cc in
    (same, subst (λ (v : List Template). not (nat_eq (length v) 0) ≡ true) same (not_from_false (nat_eq (length (t ∷ ts)) 0) (ne_eqb (length (t ∷ ts)) 0 (λ z. omega arith))))

resv_tear_is_said : (os : List Object) (content : Content) → content_of 6 os ≡ Some content → IsSaid 6 os content
resv_tear_is_said os content e =
    let a = bound (picked as_session os) _ content e in
    let b = bound (picked as_hop os) _ content a.2 in
    let c = bound (picked as_style os) _ content b.2 in
    let d = bound (one_or_more (filters_of (flows_in 6 os))) _ content c.2 in
    let some = some_filters (filters_of (flows_in 6 os)) d.0 d.1 in
    subst (IsSaid 6 os) (same_value _ content d.2)
    (record {
      fits = some.1;
      within = λ w.
          let session = ap (if_some_of w objects.Session) a.1 in
          let hop = ap (if_some_of w objects.Hop) b.1 in
          let style = ap (if_some_of w objects.Style) c.1 in
          let behind = total-behind w os in
          let filters = ap (λ (v : List Template). total w (map objects.FilterSpec v)) some.0 in
          let flowing = filters_within w (flows_in 6 os) in
          let all = seen_within w 6 os in
          omega arith;
      type_is = refl;
    })

-- the types that say anything
abbrev OneOfSix : ℕ → Type 0
OneOfSix type = (type ≡ 1) ⊎ ((type ≡ 2) ⊎ ((type ≡ 3) ⊎ ((type ≡ 4) ⊎ ((type ≡ 5) ⊎ (type ≡ 6)))))

by_tests : (type : ℕ) (a b c d f g : Bool) (p q r s t u : Option Content) (content : Content) → nat_eq type 1 ≡ a → nat_eq type 2 ≡ b → nat_eq type 3 ≡ c → nat_eq type 4 ≡ d → nat_eq type 5 ≡ f → nat_eq type 6 ≡ g →
    (if a then p else if b then q else if c then r else if d then s else if f then t else if g then u else None) ≡ Some content → OneOfSix type
by_tests type true b c d f g p q r s t u content one two three four five six e = inl (eqb-true type 1 one)
by_tests type false true c d f g p q r s t u content one two three four five six e = inr (inl (eqb-true type 2 two))
by_tests type false false true d f g p q r s t u content one two three four five six e = inr (inr (inl (eqb-true type 3 three)))
by_tests type false false false true f g p q r s t u content one two three four five six e = inr (inr (inr (inl (eqb-true type 4 four))))
by_tests type false false false false true g p q r s t u content one two three four five six e = inr (inr (inr (inr (inl (eqb-true type 5 five)))))
by_tests type false false false false false true p q r s t u content one two three four five six e = inr (inr (inr (inr (inr (eqb-true type 6 six)))))
by_tests type false false false false false false p q r s t u content one two three four five six e = absurd cc

-- What objects that count say is so.
abbrev SaysSo : ℕ → List Object → Content → Type 0
SaysSo type os content = content_of type os ≡ Some content → IsCounting type os → is_short type (parts_in type os) (passing_of type os) (flows_in type os) ≡ true → IsSaid type os content

pub is_said : (type : ℕ) (os : List Object) (content : Content) → SaysSo type os content
is_said type os content e once short =
    elim (by_tests type _ _ _ _ _ _ _ _ _ _ _ _ content refl refl refl refl refl refl e) [
      | inl one ↦ subst (λ (t : ℕ). SaysSo t os content) (sym one) (path_is_said os content) e once short
      | inr (inl two) ↦ subst (λ (t : ℕ). SaysSo t os content) (sym two) (resv_is_said os content) e once short
      | inr (inr (inl three)) ↦ subst (λ (t : ℕ). SaysSo t os content) (sym three) (λ e o s. path_err_is_said os content e) e once short
      | inr (inr (inr (inl four))) ↦ subst (λ (t : ℕ). SaysSo t os content) (sym four) (λ e o s. resv_err_is_said os content e) e once short
      | inr (inr (inr (inr (inl five)))) ↦ subst (λ (t : ℕ). SaysSo t os content) (sym five) (λ e o s. path_tear_is_said os content e) e once short
      | inr (inr (inr (inr (inr six)))) ↦ subst (λ (t : ℕ). SaysSo t os content) (sym six) (λ e o s. resv_tear_is_said os content e) e once short
    ]

-- what is looked at is part of all
total-up_to : (w : Object → ℕ) (os : List Object) → total w (up_to_style os) ≤ total w os
total-up_to w [] = omega arith
total-up_to w (objects.Style s ∷ os) = omega arith
total-up_to w (o ∷ os) = omega (arith, total-up_to w os)

total-looked_at : (w : Object → ℕ) (type : ℕ) (os : List Object) → total w (looked_at type os) ≤ total w os
total-looked_at w type os = by_test (nat_eq type 2 && option_map_or is_other (picked as_style os) false)
  where
    by_test : (test : Bool) → total w (if test then up_to_style os else os) ≤ total w os
    by_test true = total-up_to w os
    by_test false = omega arith

-- what was made of a value has its content
content_in-reading_of : (o : Option Object) (content : Content) → content_in (reading_of content o) ≡ content
content_in-reading_of None content = refl
content_in-reading_of (Some o) content = refl

told : (integrity short : Bool) (o : Option Content) (found : Option Object) (reading : Reading) →
    (if integrity then Err dropped.Integrity
    else if short then ok_or (option_map (λ c. reading_of c found) o) dropped.MissingObject
    else Err dropped.TooLong) ≡ Ok reading → (short ≡ true) × (o ≡ Some (content_in reading))
told true short o found reading e = absurd cc
told false false o found reading e = absurd cc
told false true None found reading e = absurd cc
told false true (Some content) found reading e =
    let same : reading_of content found ≡ reading = cc in
    (refl, ap (λ (c : Content). Some c) (sym (content_in-reading_of found content) ∙ ap content_in same))

up_to : (a b c : ℕ) → a ≤ b → b ≤ c → a ≤ c
up_to a b c h k = omega (arith, h, k)

-- What is read from objects is said by those that count.
pub read_is_said : (type : ℕ) (objects : List Object) (reading : Reading) → objects_read type objects ≡ Ok reading → IsSaid type objects (content_in reading)
read_is_said type all reading e =
    let os = looked_at type (counting type all) in
    let so = told (list_any (λ o. nat_eq (class_of o) 4) os) (is_short type (parts_in type os) (passing_of type os) (flows_in type os)) (content_of type os) (find (refuses type) os) reading e in
    let less = λ (w : Object → ℕ). up_to (total w (looked_at type (counting type all))) (total w (counting type all)) (total w all) (total-looked_at w type (counting type all)) (total-counting w type all) in
    let said = is_said type os (content_in reading) so.1 (λ class alone. up_to (total (one_if (is_class class)) (looked_at type (counting type all))) (total (one_if (is_class class)) (counting type all)) 1 (total-looked_at (one_if (is_class class)) type (counting type all)) (counting-IsCounting type all class alone)) so.0 in
    record { fits = said.fits; within = λ w. up_to (total w (objects_of (content_in reading))) (total w (looked_at type (counting type all))) (total w all) (said.within w) (less w); type_is = said.type_is }

-- what is found passes the test
found_one : (p : Object → Bool) (test : Bool) (x o : Object) (rest : Option Object) → p x ≡ test → (if test then Some x else rest) ≡ Some o → (rest ≡ Some o → p o ≡ true) → p o ≡ true
found_one p true x o rest is e h = let same : x ≡ o = cc in subst (λ (v : Object). p v ≡ true) same is
found_one p false x o rest is e h = h e

found_passes : (p : Object → Bool) (os : List Object) (o : Object) → find p os ≡ Some o → p o ≡ true
found_passes p [] o e = absurd cc
found_passes p (x ∷ xs) o e = found_one p (p x) x o (find p xs) refl e (found_passes p xs o)

-- what makes a message unknown stands in a Path or in a Resv
used_by_one : (a b path resv : Bool) → (if a then path else b && resv) ≡ true → (a || b) ≡ true
used_by_one true b path resv e = refl
used_by_one false true path resv e = refl
used_by_one false false path resv e = absurd cc

refuses_type : (type : ℕ) (kind : Kind) (class : ℕ) → refuses_as type kind class ≡ true → (nat_eq type 1 || nat_eq type 2) ≡ true
refuses_type type (kinds.Unknown treatments.Reject) class e = e
refuses_type type (kinds.Unknown treatments.Ignore) class e = absurd cc
refuses_type type (kinds.Unknown treatments.Forward) class e = absurd cc
refuses_type type kinds.Unlisted class e = used_by_one (nat_eq type 1) (nat_eq type 2) (is_used_by_path class) (is_used_by_resv class) e
refuses_type type _ class e = absurd cc

one_of_two : (a b : Bool) (type : ℕ) → nat_eq type 1 ≡ a → nat_eq type 2 ≡ b → (a || b) ≡ true → (type ≡ 1) ⊎ (type ≡ 2)
one_of_two true b type one two e = inl (eqb-true type 1 one)
one_of_two false true type one two e = inr (eqb-true type 2 two)
one_of_two false false type one two e = absurd cc

-- of a reading that isn't whole an object was found
found_there : (integrity short : Bool) (o : Option Content) (found : Option Object) (content : Content) (class ctype : ℕ) →
    (if integrity then Err dropped.Integrity
    else if short then ok_or (option_map (λ c. reading_of c found) o) dropped.MissingObject
    else Err dropped.TooLong) ≡ Ok (readings.Unknown content class ctype) → (x : Object) × (found ≡ Some x)
found_there true short o found content class ctype e = absurd cc
found_there false false o found content class ctype e = absurd cc
found_there false true None found content class ctype e = absurd cc
found_there false true (Some c) None content class ctype e = absurd cc
found_there false true (Some c) (Some x) content class ctype e = (x, refl)

-- A reading that isn't whole is one of a Path or of a Resv.
pub unknown_is_said : (type : ℕ) (objects : List Object) (content : Content) (class ctype : ℕ) → objects_read type objects ≡ Ok (readings.Unknown content class ctype) → (type_of content ≡ 1) ⊎ (type_of content ≡ 2)
unknown_is_said type all content class ctype e =
    let os = looked_at type (counting type all) in
    let x = found_there (list_any (λ o. nat_eq (class_of o) 4) os) (is_short type (parts_in type os) (passing_of type os) (flows_in type os)) (content_of type os) (find (refuses type) os) content class ctype e in
    let kind = refuses_type type (object_kind x.0) (class_of x.0) (found_passes (refuses type) os x.0 x.1) in
    subst (λ (t : ℕ). (t ≡ 1) ⊎ (t ≡ 2)) (sym (read_is_said type all (readings.Unknown content class ctype) e).type_is)
    (one_of_two (nat_eq type 1) (nat_eq type 2) type refl refl kind)
