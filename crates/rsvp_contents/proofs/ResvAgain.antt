-- A Resv whose parts fit is read again; so are a ResvErr and a ResvTear.
use Rattle.std.proofs.Common.{◌≡◌, ◌≤◌, ℕ, Bool, true, false, not, ◌&&◌, ◌||◌, ◌==◌, nat_eq, if◌then◌else◌, List, [], ◌∷◌, ◌++◌, length, map, Option, Some, None, refl, sym, ap, ap₂, ◌∙◌, subst, append-nil, inl, inr}
use Rattle.std.specs.List.{filter, list_all, list_any}
use Rattle.std.specs.Option.{option_map_or}
use Rattle.std.proofs.lemmas.Bool.{and_parts, and_from, cond-true, cond-false, cases_Bool, false≢true, eqb-true}
use Rattle.std.proofs.lemmas.List.{nil_from_length}
use Rattle.std.proofs.lemmas.List.Elements.{filter-append}
use Rattle.rsvp_objects.specs.Below.bodies.declared.trace.Trace.{Trace}
use Rattle.rsvp_objects.specs.declared.values.Style.{Style}
use Rattle.rsvp_objects.specs.declared.values.Template.{Template}
use Rattle.rsvp_objects.specs.declared.object.Object.{Object}
use Rattle.rsvp_objects.specs.declared.object.Object.TheVariants as objects
use Rattle.rsvp_objects.specs.Raw.{Raw}
use Rattle.rsvp_objects.specs.Kinds.{kind_of}
use Rattle.rsvp_objects.specs.Objects.{raw_of}
use Rattle.rsvp_contents.specs.declared.descriptors.FlowDescriptor.{FlowDescriptor}
use Rattle.rsvp_contents.specs.Errors.{counts_on, error_objects, errors_of, filters_of}
use Rattle.rsvp_contents.specs.Flows.{if_some, is_flow, is_same, are_shared, fits_style, flow_objects, flowspec_objects, styled_flows}
use Rattle.rsvp_contents.specs.Styles.{is_other, is_shared}
use Rattle.rsvp_contents.proofs.ErrorsAgain.{errors_again, errors_are_flow, filters_again, filters_are_flow}
use Rattle.rsvp_contents.proofs.FlowsAgain.{style_again, flows_are_flow}
use Rattle.rsvp_contents.specs.declared.messages.Resv.{Resv}
use Rattle.rsvp_contents.specs.declared.messages.ResvErr.{ResvErr}
use Rattle.rsvp_contents.specs.declared.messages.ResvTear.{ResvTear}
use Rattle.rsvp_contents.specs.declared.messages.Content.{Content}
use Rattle.rsvp_contents.specs.declared.messages.Content.TheVariants as contents
use Rattle.rsvp_contents.specs.declared.parts.Parts.{Parts}
use Rattle.rsvp_contents.specs.Behind.{ahead_of_style, behind_style, up_to_style, looked_at, is_misplaced, flows_in}
use Rattle.rsvp_contents.specs.Counting.{class_of, is_flow_class, passes}
use Rattle.rsvp_contents.specs.Fitting.{are_passed_by, has_adspec_last, have_short_records, fits_resv}
use Rattle.rsvp_contents.specs.Limits.{is_short_passing, is_short_record, is_short_record_object, are_short_records}
use Rattle.rsvp_contents.specs.Picking.{parts_in, passing_of, placed_flows, one_or_more, resv_of, resv_err_of, resv_tear_of}
use Rattle.rsvp_contents.specs.Values.{◌>>=◌}
use Rattle.rsvp_contents.specs.Written.{resv_objects, resv_err_objects, resv_tear_objects}
use Rattle.rsvp_contents.proofs.Kept.{is_adspec}
use Rattle.rsvp_contents.proofs.Once.{IsCounting, counting_whole}
use Rattle.rsvp_contents.proofs.Passed.{all_no_flow, all_plain, passing_once}
use Rattle.rsvp_contents.proofs.PassedAgain.{passing_again}
use Rattle.rsvp_contents.proofs.Rows.{Within, within_none, within_one, within_row, within_flows, counting_once, is_plain, plain_append, plain_flows, parts_flows, parts_kept}
use Rattle.rsvp_contents.proofs.Again.{SaysAgain}

-- all of what is of flow descriptors is kept as such, and none of it passes
flows_kept : (row : List Object) → list_all is_flow row ≡ true → filter is_flow row ≡ row
flows_kept [] h = refl
flows_kept (objects.Flowspec f ∷ row) h = ap (λ (v : List Object). objects.Flowspec f ∷ v) (flows_kept row h)
flows_kept (objects.FilterSpec t ∷ row) h = ap (λ (v : List Object). objects.FilterSpec t ∷ v) (flows_kept row h)
flows_kept (objects.Label l ∷ row) h = ap (λ (v : List Object). objects.Label l ∷ v) (flows_kept row h)
flows_kept (objects.RecordRoute r ∷ row) h = ap (λ (v : List Object). objects.RecordRoute r ∷ v) (flows_kept row h)
flows_kept (o ∷ row) h = absurd (false≢true h)

flows_pass : (row : List Object) → list_all is_flow row ≡ true → (filter (passes 2) row ≡ []) × (filter is_adspec row ≡ [])
unfolding kind_of
flows_pass [] h = (refl, refl)
flows_pass (objects.Flowspec f ∷ row) h = flows_pass row h
flows_pass (objects.FilterSpec t ∷ row) h = flows_pass row h
flows_pass (objects.Label l ∷ row) h = flows_pass row h
flows_pass (objects.RecordRoute r ∷ row) h = flows_pass row h
flows_pass (o ∷ row) h = absurd (false≢true h)

-- what stands before STYLE among objects that are kept unread, and what behind it
kept_ahead : (rs : List Raw) (s : Style) (os : List Object) → ahead_of_style (map objects.Other rs ++ (objects.Style s ∷ os)) ≡ map objects.Other rs
kept_ahead [] s os = refl
kept_ahead (r ∷ rs) s os = ap (λ (v : List Object). objects.Other r ∷ v) (kept_ahead rs s os)

kept_behind : (rs : List Raw) (s : Style) (os : List Object) → behind_style (map objects.Other rs ++ (objects.Style s ∷ os)) ≡ os
kept_behind [] s os = refl
kept_behind (r ∷ rs) s os = kept_behind rs s os

kept_up_to : (rs : List Raw) (s : Style) → up_to_style (map objects.Other rs ++ (objects.Style s ∷ [])) ≡ map objects.Other rs ++ (objects.Style s ∷ [])
kept_up_to [] s = refl
kept_up_to (r ∷ rs) s = ap (λ (v : List Object). objects.Other r ∷ v) (kept_up_to rs s)

-- the records of flow descriptors
test_short : (test : Bool) (f : List ℕ) (os : List Object) → are_short_records ((if test then [] else objects.Flowspec f ∷ []) ++ os) ≡ are_short_records os
test_short true f os = refl
test_short false f os = refl

flowspec_short : (before : Option (List ℕ)) (f : List ℕ) (os : List Object) → are_short_records (flowspec_objects before f ++ os) ≡ are_short_records os
flowspec_short None f os = refl
flowspec_short (Some b) f os = test_short (is_same b f) f os

record_short : (r : Option (List Trace)) (os : List Object) → are_short_records (if_some r objects.RecordRoute ++ os) ≡ option_map_or is_short_record r true && are_short_records os
record_short None os = refl
record_short (Some r) os = refl

pub short_records : (before : Option (List ℕ)) (ds : List FlowDescriptor) → are_short_records (flow_objects before ds) ≡ have_short_records ds
short_records before [] = refl
short_records before (d ∷ ds) =
    flowspec_short before d.flowspec (objects.FilterSpec d.filter ∷ objects.Label d.label ∷ (if_some d.recorded objects.RecordRoute ++ flow_objects (Some d.flowspec) ds))
    ∙ record_short d.recorded (flow_objects (Some d.flowspec) ds)
    ∙ ap (λ (b : Bool). option_map_or is_short_record d.recorded true && b) (short_records (Some d.flowspec) ds)

-- the parts of a Resv, one by one
pub record ResvParts (r : Resv) : Type 0 where
  pub records : have_short_records r.descriptors ≡ true
  pub passing : is_short_passing r.passing ≡ true
  pub passed : are_passed_by 2 r.passing ≡ true
  pub last : has_adspec_last r.passing ≡ true
  pub style : fits_style r.style r.descriptors ≡ true

pub resv_parts_of : (r : Resv) → fits_resv r ≡ true → ResvParts r
resv_parts_of r h =
    let a = and_parts (have_short_records r.descriptors) _ h in
    let b = and_parts (is_short_passing r.passing) _ a.1 in
    let c = and_parts (are_passed_by 2 r.passing) _ b.1 in
    let d = and_parts (has_adspec_last r.passing) _ c.1 in
    record { records = a.0; passing = b.0; passed = c.0; last = d.0; style = d.1 }

pub resv_parts_fit : (r : Resv) → ResvParts r → fits_resv r ≡ true
resv_parts_fit r h =
    and_from (have_short_records r.descriptors) _ h.records
    (and_from (is_short_passing r.passing) _ h.passing (and_from (are_passed_by 2 r.passing) _ h.passed (and_from (has_adspec_last r.passing) _ h.last h.style)))

-- the values of a Resv
abbrev resv_said : Resv → Parts
resv_said r = record (parts_in 2 []) { session = Some r.session; hop = Some r.hop; time = Some r.time; style = Some r.style }

resv_parts : (r : Resv) → parts_in 2 (resv_objects r) ≡ resv_said r
resv_parts r =
    ap (λ (q : Parts). record q { session = Some r.session; hop = Some r.hop; time = Some r.time })
    (parts_kept 2 r.passing (objects.Style r.style ∷ flow_objects None r.descriptors)
    ∙ ap (λ (q : Parts). record q { style = Some r.style }) (parts_flows 2 (flow_objects None r.descriptors) refl (flows_are_flow None r.descriptors)))

-- whether descriptors fit, by whether the style is another one
abbrev fits_by : Bool → Resv → Bool
fits_by other r = if other then length r.descriptors == 0 else not (length r.descriptors == 0) && (not (is_shared r.style) || are_shared r.descriptors)

-- its objects are looked at, all of them
no_flows : (ds : List FlowDescriptor) → nat_eq (length ds) 0 ≡ true → flow_objects None ds ≡ []
no_flows ds e = ap (flow_objects None) (nil_from_length ds (eqb-true (length ds) 0 e))

all_seen : (other : Bool) (r : Resv) → is_other r.style ≡ other → fits_style r.style r.descriptors ≡ true → (if other then up_to_style (resv_objects r) else resv_objects r) ≡ resv_objects r
all_seen false r e fits = refl
all_seen true r e fits =
    let none : nat_eq (length r.descriptors) 0 ≡ true = subst (λ (b : Bool). fits_by b r ≡ true) e fits in
    let bare = no_flows r.descriptors none in
    let listed = λ (row : List Object). objects.Session r.session ∷ objects.Hop r.hop ∷ objects.TimeValues r.time ∷ (map objects.Other r.passing ++ (objects.Style r.style ∷ row)) in
    ap (λ (row : List Object). up_to_style (listed row)) bare
    ∙ ap (λ (v : List Object). objects.Session r.session ∷ objects.Hop r.hop ∷ objects.TimeValues r.time ∷ v) (kept_up_to r.passing r.style)
    ∙ ap listed (sym bare)

resv_seen : (r : Resv) → fits_style r.style r.descriptors ≡ true → looked_at 2 (resv_objects r) ≡ resv_objects r
resv_seen r fits =
    ap (λ (q : Parts). if option_map_or is_other q.style false then up_to_style (resv_objects r) else resv_objects r) (resv_parts r)
    ∙ all_seen (is_other r.style) r refl fits

-- what a Resv passes on is found among its objects
resv_passes : (r : Resv) → are_passed_by 2 r.passing ≡ true → has_adspec_last r.passing ≡ true → passing_of 2 (resv_objects r) ≡ r.passing
unfolding kind_of
resv_passes r passed last =
    let row = flow_objects None r.descriptors in
    let none = flows_pass row (flows_are_flow None r.descriptors) in
    let front = filter-append (passes 2) (map objects.Other r.passing) (objects.Style r.style ∷ row) ∙ ap (λ (v : List Object). filter (passes 2) (map objects.Other r.passing) ++ v) none.0 ∙ append-nil (filter (passes 2) (map objects.Other r.passing)) in
    let back = filter-append is_adspec (map objects.Other r.passing) (objects.Style r.style ∷ row) ∙ ap (λ (v : List Object). filter is_adspec (map objects.Other r.passing) ++ v) none.1 ∙ append-nil (filter is_adspec (map objects.Other r.passing)) in
    ap₂ (λ (xs ys : List Object). map raw_of xs ++ map raw_of ys) front back
    ∙ passing_again 2 r.passing passed last

-- its flow descriptors stand behind STYLE, all of them
resv_flows : (r : Resv) → flows_in 2 (resv_objects r) ≡ flow_objects None r.descriptors
resv_flows r =
    ap (filter is_flow) (kept_behind r.passing r.style (flow_objects None r.descriptors))
    ∙ flows_kept (flow_objects None r.descriptors) (flows_are_flow None r.descriptors)

resv_placed : (r : Resv) → are_passed_by 2 r.passing ≡ true → is_misplaced (resv_objects r) ≡ false
resv_placed r passed =
    ap (list_any (λ o. is_flow_class (class_of o))) (kept_ahead r.passing r.style (flow_objects None r.descriptors))
    ∙ all_no_flow r.passing passed

placed : (style : Style) (row : List Object) → placed_flows style false row ≡ styled_flows style row
placed style row = cond-false (not (is_other style) && false) None (styled_flows style row) (none (not (is_other style)))
  where
    none : (b : Bool) → (b && false) ≡ false
    none true = refl
    none false = refl

-- the Resv with these flow descriptors
abbrev resv_with : Resv → Option (List FlowDescriptor) → Option Content
resv_with r o = o >>= λ ds. Some (contents.Resv (record { session = r.session; hop = r.hop; time = r.time; passing = r.passing; style = r.style; descriptors = ds }))

-- A Resv whose parts fit is read again.
pub resv_again : (r : Resv) → fits_resv r ≡ true → SaysAgain 2 (resv_objects r) (contents.Resv r)
unfolding kind_of
resv_again r fits =
    let h = resv_parts_of r fits in
    let row = flow_objects None r.descriptors in
    let flows = flows_are_flow None r.descriptors in
    let passing = resv_passes r h.passed h.last in
    let found = placed r.style row ∙ style_again r.style r.descriptors h.style in
    let once : IsCounting 2 (resv_objects r) =
    counting_once 2 (1 ∷ 3 ∷ 5 ∷ 13 ∷ 8 ∷ []) (resv_objects r) refl
    (within_one 2 (objects.Session r.session) _ _
    (within_one 2 (objects.Hop r.hop) _ _
    (within_one 2 (objects.TimeValues r.time) _ _
    (within_row 2 13 (map objects.Other r.passing) _ _ (λ class alone. passing_once class r.passing alone h.passed h.last)
    (within_one 2 (objects.Style r.style) _ _ (within_flows 2 row refl flows)))))) in
    record {
      whole = counting_whole 2 (resv_objects r) once;
      seen = resv_seen r h.style;
      plain = plain_append 2 (map objects.Other r.passing) (objects.Style r.style ∷ row) (all_plain 2 r.passing h.passed) (plain_flows 2 row flows);
      short =
          ap₂ (λ (xs : List Object) (v : List Raw). are_short_records xs && is_short_passing v) (resv_flows r) passing
          ∙ and_from (are_short_records row) (is_short_passing r.passing) (short_records None r.descriptors ∙ h.records) h.passing;
      says =
          ap (λ (q : Parts). resv_of q (passing_of 2 (resv_objects r)) (is_misplaced (resv_objects r)) (flows_in 2 (resv_objects r))) (resv_parts r)
          ∙ ap (λ (v : List Raw). resv_of (resv_said r) v (is_misplaced (resv_objects r)) (flows_in 2 (resv_objects r))) passing
          ∙ ap₂ (λ (b : Bool) (xs : List Object). resv_of (resv_said r) r.passing b xs) (resv_placed r h.passed) (resv_flows r)
          ∙ ap (λ (o : Option (List FlowDescriptor)). resv_with r o) found;
    }

-- A ResvErr is read again, where one FLOWSPEC counts behind another.
pub resv_err_again : (e : ResvErr) → counts_on false e.descriptors ≡ true → SaysAgain 4 (resv_err_objects e) (contents.ResvErr e)
unfolding kind_of
resv_err_again e fits =
    let row = error_objects None e.descriptors in
    let flows = errors_are_flow None e.descriptors in
    let once : IsCounting 4 (resv_err_objects e) =
    counting_once 4 (1 ∷ 3 ∷ 6 ∷ 8 ∷ []) (resv_err_objects e) refl
    (within_one 4 (objects.Session e.session) _ _
    (within_one 4 (objects.Hop e.hop) _ _
    (within_one 4 (objects.ErrorSpec e.error) _ _
    (within_one 4 (objects.Style e.style) _ _ (within_flows 4 row refl flows))))) in
    let parts = parts_flows 4 row refl flows in
    record {
      whole = counting_whole 4 (resv_err_objects e) once;
      seen = refl;
      plain = plain_flows 4 row flows;
      short = refl;
      says =
          ap₂ (λ (q : Parts) (xs : List Object). resv_err_of (record q { session = Some e.session; hop = Some e.hop; error = Some e.error; style = Some e.style }) xs) parts (flows_kept row flows)
          ∙ ap (λ v. Some (contents.ResvErr (record { session = e.session; hop = e.hop; error = e.error; style = e.style; descriptors = v }))) (errors_again None e.descriptors fits);
    }

-- the ResvTear with these filters
abbrev tear_with : ResvTear → Option (List Template) → Option Content
tear_with t o = o >>= λ ts. Some (contents.ResvTear (record { session = t.session; hop = t.hop; style = t.style; filters = ts }))

-- A ResvTear is read again, where it names an LSP.
one_again : (ts : List Template) → not (nat_eq (length ts) 0) ≡ true → one_or_more ts ≡ Some ts
one_again [] h = absurd (false≢true h)
one_again (t ∷ ts) h = refl

pub resv_tear_again : (t : ResvTear) → not (nat_eq (length t.filters) 0) ≡ true → SaysAgain 6 (resv_tear_objects t) (contents.ResvTear t)
unfolding kind_of
resv_tear_again t fits =
    let row = map objects.FilterSpec t.filters in
    let flows = filters_are_flow t.filters in
    let once : IsCounting 6 (resv_tear_objects t) =
    counting_once 6 (1 ∷ 3 ∷ 8 ∷ []) (resv_tear_objects t) refl
    (within_one 6 (objects.Session t.session) _ _
    (within_one 6 (objects.Hop t.hop) _ _
    (within_one 6 (objects.Style t.style) _ _ (within_flows 6 row refl flows)))) in
    let parts = parts_flows 6 row refl flows in
    record {
      whole = counting_whole 6 (resv_tear_objects t) once;
      seen = refl;
      plain = plain_flows 6 row flows;
      short = refl;
      says =
          ap₂ (λ (q : Parts) (xs : List Object). resv_tear_of (record q { session = Some t.session; hop = Some t.hop; style = Some t.style }) xs) parts (flows_kept row flows)
          ∙ ap (λ (v : Option (List Template)). tear_with t v) (ap one_or_more (filters_again t.filters) ∙ one_again t.filters fits);
    }
