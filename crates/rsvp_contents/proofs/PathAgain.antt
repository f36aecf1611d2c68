-- A Path whose parts fit is read again; so are a PathErr and a PathTear.
use Rattle.std.proofs.Common.{◌≡◌, ◌≤◌, ℕ, Bool, true, false, not, ◌&&◌, nat_eq, List, [], ◌∷◌, ◌++◌, map, Option, Some, None, refl, sym, ap, ap₂, ◌∙◌, append-nil}
use Rattle.std.specs.List.{filter, list_all}
use Rattle.std.specs.Option.{option_map_or}
use Rattle.std.proofs.lemmas.Bool.{and_parts, and_from}
use Rattle.std.proofs.lemmas.List.{map-append}
use Rattle.std.proofs.lemmas.List.Elements.{filter-append}
use Rattle.rsvp_objects.specs.Below.bodies.declared.step.Step.{Step}
use Rattle.rsvp_objects.specs.Below.bodies.declared.trace.Trace.{Trace}
use Rattle.rsvp_objects.specs.Below.bodies.declared.attr.Attr.{Attr}
use Rattle.rsvp_objects.specs.declared.values.ErrorSpec.{ErrorSpec}
use Rattle.rsvp_objects.specs.declared.values.FastReroute.{FastReroute}
use Rattle.rsvp_objects.specs.declared.values.Session.{Session}
use Rattle.rsvp_objects.specs.declared.values.Template.{Template}
use Rattle.rsvp_objects.specs.declared.object.Object.{Object}
use Rattle.rsvp_objects.specs.declared.object.Object.TheVariants as objects
use Rattle.rsvp_objects.specs.Raw.{Raw}
use Rattle.rsvp_objects.specs.Kinds.{kind_of}
use Rattle.rsvp_objects.specs.Objects.{raw_of}
use Rattle.rsvp_contents.specs.Flows.{if_some}
use Rattle.rsvp_contents.specs.declared.messages.Path.{Path}
use Rattle.rsvp_contents.specs.declared.messages.PathErr.{PathErr}
use Rattle.rsvp_contents.specs.declared.messages.PathTear.{PathTear}
use Rattle.rsvp_contents.specs.declared.messages.Content.TheVariants as contents
use Rattle.rsvp_contents.specs.declared.parts.Parts.{Parts}
use Rattle.rsvp_contents.specs.Counting.{class_of, passes}
use Rattle.rsvp_contents.specs.Fitting.{are_passed_by, has_adspec_last, has_one_fast_reroute, fits_path}
use Rattle.rsvp_contents.specs.Limits.{is_short_route, is_short_record, is_short_passing}
use Rattle.rsvp_contents.specs.Picking.{parts_in, passing_of, path_of}
use Rattle.rsvp_contents.specs.Written.{before_sender, adspec, path_objects, path_err_objects, path_tear_objects}
use Rattle.rsvp_contents.proofs.Kept.{is_adspec, attr_passes, filter_skip, filter_none}
use Rattle.rsvp_contents.proofs.LastAlone.{split_last}
use Rattle.rsvp_contents.proofs.Listed.{from_back, from_sender, from_front, from_fast, from_attr, from_label, from_route}
use Rattle.rsvp_contents.proofs.Once.{IsCounting, counting_whole}
use Rattle.rsvp_contents.proofs.Passed.{front_once, back_once, kept_plain}
use Rattle.rsvp_contents.proofs.PassedAgain.{passing_again}
use Rattle.rsvp_contents.proofs.Rows.{Within, within_none, within_one, within_some, within_row, within_rows, within_last, counting_once, is_plain, plain_some, plain_last, plain_append, plain_attr, parts_kept}
use Rattle.rsvp_contents.proofs.Again.{SaysAgain}

-- the parts of a Path, one by one
pub record PathParts (p : Path) : Type 0 where
  pub route : option_map_or is_short_route p.route true ≡ true
  pub recorded : option_map_or is_short_record p.recorded true ≡ true
  pub passing : is_short_passing p.passing ≡ true
  pub passed : are_passed_by 1 p.passing ≡ true
  pub last : has_adspec_last p.passing ≡ true
  pub fast : has_one_fast_reroute p.fast_reroute p.passing ≡ true

-- from their test
pub parts_of : (p : Path) → fits_path p ≡ true → PathParts p
parts_of p h =
    let a = and_parts (option_map_or is_short_route p.route true) _ h in
    let b = and_parts (option_map_or is_short_record p.recorded true) _ a.1 in
    let c = and_parts (is_short_passing p.passing) _ b.1 in
    let d = and_parts (are_passed_by 1 p.passing) _ c.1 in
    let e = and_parts (has_adspec_last p.passing) _ d.1 in
    record { route = a.0; recorded = b.0; passing = c.0; passed = d.0; last = e.0; fast = e.1 }

-- and back
pub parts_fit : (p : Path) → PathParts p → fits_path p ≡ true
parts_fit p h =
    and_from (option_map_or is_short_route p.route true) _ h.route
    (and_from (option_map_or is_short_record p.recorded true) _ h.recorded
    (and_from (is_short_passing p.passing) _ h.passing
    (and_from (are_passed_by 1 p.passing) _ h.passed (and_from (has_adspec_last p.passing) _ h.last h.fast))))

-- a value that may be there is found in front of objects that have none
route_first : (o : Option (List Step)) (os : List Object) → (parts_in 1 os).route ≡ None → parts_in 1 (if_some o objects.ExplicitRoute ++ os) ≡ record (parts_in 1 os) { route = o }
route_first None os e = ap (λ (v : Option (List Step)). record (parts_in 1 os) { route = v }) e
route_first (Some x) os e = refl

attr_first : (o : Option Attr) (os : List Object) → (parts_in 1 os).attr ≡ None → parts_in 1 (if_some o objects.SessionAttribute ++ os) ≡ record (parts_in 1 os) { attr = o }
attr_first None os e = ap (λ (v : Option Attr). record (parts_in 1 os) { attr = v }) e
attr_first (Some x) os e = refl

fast_first : (o : Option FastReroute) (os : List Object) → (parts_in 1 os).fast_reroute ≡ None → parts_in 1 (if_some o objects.FastReroute ++ os) ≡ record (parts_in 1 os) { fast_reroute = o }
fast_first None os e = ap (λ (v : Option FastReroute). record (parts_in 1 os) { fast_reroute = v }) e
fast_first (Some x) os e = refl

record_last : (o : Option (List Trace)) → parts_in 1 (if_some o objects.RecordRoute) ≡ record (parts_in 1 []) { recorded = o }
record_last None = refl
record_last (Some x) = refl

-- the values of a Path, from the sender on and all
abbrev from_sender_on : Path → Parts
from_sender_on p = record (parts_in 1 []) { sender = Some p.sender; tspec = Some p.tspec; recorded = p.recorded }

abbrev pub path_said : Path → Parts
path_said p =
    record (from_sender_on p) {
      session = Some p.session;
      hop = Some p.hop;
      time = Some p.time;
      route = p.route;
      label_request = Some p.label_request;
      attr = p.attr;
      fast_reroute = p.fast_reroute;
    }

-- each value of a Path is found among its objects
path_parts : (p : Path) → parts_in 1 (path_objects p) ≡ path_said p
path_parts p =
    let front = before_sender p.passing in
    let back = adspec p.passing in
    let sent : parts_in 1 (from_front p front back) ≡ from_sender_on p =
    parts_kept 1 (filter (λ o. not (nat_eq o.class 13)) p.passing) (from_sender p back)
    ∙ ap (λ (q : Parts). record q { sender = Some p.sender; tspec = Some p.tspec }) (parts_kept 1 (filter (λ o. nat_eq o.class 13) p.passing) (if_some p.recorded objects.RecordRoute) ∙ record_last p.recorded) in
    let fast : parts_in 1 (from_fast p front back) ≡ record (from_sender_on p) { fast_reroute = p.fast_reroute } =
    fast_first p.fast_reroute (from_front p front back) (ap (λ (q : Parts). q.fast_reroute) sent)
    ∙ ap (λ (q : Parts). record q { fast_reroute = p.fast_reroute }) sent in
    let attr : parts_in 1 (from_attr p front back) ≡ record (from_sender_on p) { fast_reroute = p.fast_reroute; attr = p.attr } =
    attr_first p.attr (from_fast p front back) (ap (λ (q : Parts). q.attr) fast)
    ∙ ap (λ (q : Parts). record q { attr = p.attr }) fast in
    let label : parts_in 1 (from_label p front back) ≡ record (from_sender_on p) { fast_reroute = p.fast_reroute; attr = p.attr; label_request = Some p.label_request } =
    ap (λ (q : Parts). record q { label_request = Some p.label_request }) attr in
    let route : parts_in 1 (from_route p front back) ≡ record (from_sender_on p) { fast_reroute = p.fast_reroute; attr = p.attr; label_request = Some p.label_request; route = p.route } =
    route_first p.route (from_label p front back) (ap (λ (q : Parts). q.route) label)
    ∙ ap (λ (q : Parts). record q { route = p.route }) label in
    ap (λ (q : Parts). record q { session = Some p.session; hop = Some p.hop; time = Some p.time }) route

-- what it passes on stands before the sender and behind it
front_and_back : (os : List Raw) → has_adspec_last os ≡ true → before_sender os ++ adspec os ≡ map objects.Other os
front_and_back os last =
    let t : Raw → Bool = λ o. nat_eq o.class 13 in
    sym (map-append objects.Other (filter (λ o. not (t o)) os) (filter t os)) ∙ ap (λ (v : List Raw). map objects.Other v) (split_last t os last).0

-- so that what passes among its objects is what passes among these
passes_among : (p : Path) → has_adspec_last p.passing ≡ true → filter (passes 1) (path_objects p) ≡ filter (passes 1) (map objects.Other p.passing)
unfolding kind_of
passes_among p last =
    let front = before_sender p.passing in
    let back = adspec p.passing in
    filter_skip (passes 1) objects.ExplicitRoute (λ x. refl) p.route (from_label p front back)
    ∙ filter_skip (passes 1) objects.SessionAttribute (λ x. attr_passes 1 x.affinities) p.attr (from_fast p front back)
    ∙ filter_skip (passes 1) objects.FastReroute (λ x. refl) p.fast_reroute (from_front p front back)
    ∙ filter-append (passes 1) front (from_sender p back)
    ∙ ap (λ (v : List Object). filter (passes 1) front ++ v) (filter-append (passes 1) back (if_some p.recorded objects.RecordRoute) ∙ ap (λ (v : List Object). filter (passes 1) back ++ v) (filter_none (passes 1) objects.RecordRoute (λ x. refl) p.recorded) ∙ append-nil (filter (passes 1) back))
    ∙ sym (filter-append (passes 1) front back)
    ∙ ap (filter (passes 1)) (front_and_back p.passing last)

adspecs_among : (p : Path) → has_adspec_last p.passing ≡ true → filter is_adspec (path_objects p) ≡ filter is_adspec (map objects.Other p.passing)
adspecs_among p last =
    let front = before_sender p.passing in
    let back = adspec p.passing in
    filter_skip is_adspec objects.ExplicitRoute (λ x. refl) p.route (from_label p front back)
    ∙ filter_skip is_adspec objects.SessionAttribute (λ x. refl) p.attr (from_fast p front back)
    ∙ filter_skip is_adspec objects.FastReroute (λ x. refl) p.fast_reroute (from_front p front back)
    ∙ filter-append is_adspec front (from_sender p back)
    ∙ ap (λ (v : List Object). filter is_adspec front ++ v) (filter-append is_adspec back (if_some p.recorded objects.RecordRoute) ∙ ap (λ (v : List Object). filter is_adspec back ++ v) (filter_none is_adspec objects.RecordRoute (λ x. refl) p.recorded) ∙ append-nil (filter is_adspec back))
    ∙ sym (filter-append is_adspec front back)
    ∙ ap (filter is_adspec) (front_and_back p.passing last)

-- what a Path passes on is found among its objects
path_passes : (p : Path) → are_passed_by 1 p.passing ≡ true → has_adspec_last p.passing ≡ true → passing_of 1 (path_objects p) ≡ p.passing
path_passes p passed last =
    ap₂ (λ (xs ys : List Object). map raw_of xs ++ map raw_of ys) (passes_among p last) (adspecs_among p last)
    ∙ passing_again 1 p.passing passed last

-- no class counts twice among them
path_once : (p : Path) → PathParts p → IsCounting 1 (path_objects p)
path_once p h =
    counting_once 1 (1 ∷ 3 ∷ 5 ∷ 20 ∷ 19 ∷ 207 ∷ 205 ∷ 11 ∷ 12 ∷ 13 ∷ 21 ∷ []) (path_objects p) refl
    (within_one 1 (objects.Session p.session) _ _
    (within_one 1 (objects.Hop p.hop) _ _
    (within_one 1 (objects.TimeValues p.time) _ _
    (within_some 1 objects.ExplicitRoute 20 (λ x. refl) p.route _ _
    (within_one 1 (objects.LabelRequest p.label_request) _ _
    (within_some 1 objects.SessionAttribute 207 (λ x. refl) p.attr _ _
    (within_rows 1 205 (if_some p.fast_reroute objects.FastReroute) (before_sender p.passing) _ _ (λ class alone. front_once class p.fast_reroute p.passing alone h.passed h.fast)
    (within_one 1 (objects.SenderTemplate p.sender) _ _
    (within_one 1 (objects.SenderTspec p.tspec) _ _
    (within_row 1 13 (adspec p.passing) _ _ (λ class alone. back_once 1 class p.passing h.passed h.last)
    (within_last 1 objects.RecordRoute 21 (λ x. refl) p.recorded)))))))))))

-- and they are plain
path_plain : (p : Path) → PathParts p → list_all (is_plain 1) (path_objects p) ≡ true
unfolding kind_of
path_plain p h =
    plain_some 1 objects.ExplicitRoute (λ x. refl) p.route _
    (plain_some 1 objects.SessionAttribute (λ x. ap not (plain_attr 1 x.affinities)) p.attr _
    (plain_some 1 objects.FastReroute (λ x. refl) p.fast_reroute _
    (plain_append 1 (before_sender p.passing) _ (kept_plain 1 (λ o. not (nat_eq o.class 13)) p.passing h.passed)
    (plain_append 1 (adspec p.passing) _ (kept_plain 1 (λ o. nat_eq o.class 13) p.passing h.passed)
    (plain_last 1 objects.RecordRoute (λ x. refl) p.recorded)))))

-- A Path whose parts fit is read again.
pub path_again : (p : Path) → fits_path p ≡ true → SaysAgain 1 (path_objects p) (contents.Path p)
path_again p fits =
    let h = parts_of p fits in
    let passing = path_passes p h.passed h.last in
    let parts = path_parts p in
    let limits = λ (q : Parts) (v : List Raw). option_map_or is_short_route q.route true && (option_map_or is_short_record q.recorded true && is_short_passing v) in
    record {
      whole = counting_whole 1 (path_objects p) (path_once p h);
      seen = refl;
      plain = path_plain p h;
      short =
          ap₂ limits parts passing
          ∙ and_from (option_map_or is_short_route p.route true) _ h.route (and_from (option_map_or is_short_record p.recorded true) _ h.recorded h.passing);
      says = ap₂ (λ (q : Parts) (v : List Raw). path_of q v) parts passing;
    }

-- A PathErr is read again.
err_again : (session : Session) (error : ErrorSpec) (sender : Template) (tspec : Option (List ℕ)) → (let e : PathErr = record { session = session; error = error; sender = sender; tspec = tspec } in SaysAgain 3 (path_err_objects e) (contents.PathErr e))
unfolding kind_of
err_again session error sender None = record { whole = refl; seen = refl; plain = refl; short = refl; says = refl }
err_again session error sender (Some tspec) = record { whole = refl; seen = refl; plain = refl; short = refl; says = refl }

pub path_err_again : (e : PathErr) → SaysAgain 3 (path_err_objects e) (contents.PathErr e)
path_err_again e = err_again e.session e.error e.sender e.tspec

-- So is a PathTear.
pub path_tear_again : (t : PathTear) → SaysAgain 5 (path_tear_objects t) (contents.PathTear t)
unfolding kind_of
path_tear_again t = record { whole = refl; seen = refl; plain = refl; short = refl; says = refl }
