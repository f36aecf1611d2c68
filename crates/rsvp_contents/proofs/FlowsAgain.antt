-- Flow descriptors are read again from what they are written as, which stood among what they were read from.
use Rattle.std.proofs.Common.{◌≡◌, ◌≤◌, ◌+◌, ℕ, Bool, true, false, not, ◌&&◌, ◌||◌, ◌==◌, nat_lt, if◌then◌else◌, List, [], ◌∷◌, ◌++◌, length, Option, Some, None, refl, sym, ap, ◌∙◌, subst, arith}
use Rattle.std.specs.List.{list_all, count_by}
use Rattle.std.specs.Cmp.Lexicographic.{bytes_decides}
use Rattle.std.proofs.lemmas.Bool.{and_parts, and_from, cond-true, cond-false, ne_eqb, not_from_false, le-ltb, ltb-false, false≢true}
use Rattle.rsvp_objects.specs.Below.bodies.declared.trace.Trace.{Trace}
use Rattle.rsvp_objects.specs.declared.values.Label.{Label}
use Rattle.rsvp_objects.specs.declared.values.Style.{Style}
use Rattle.rsvp_objects.specs.declared.values.Template.{Template}
use Rattle.rsvp_objects.specs.declared.object.Object.{Object}
use Rattle.rsvp_objects.specs.declared.object.Object.TheVariants as objects
use Rattle.rsvp_contents.specs.declared.descriptors.FlowDescriptor.{FlowDescriptor}
use Rattle.rsvp_contents.specs.Flows.{if_some, is_same, flowspec_objects, flow_objects, with_flow, flows_of, styled_flows, fits_style, are_shared, is_flowspec, is_flow}
use Rattle.rsvp_contents.specs.Firsts.{counting}
use Rattle.rsvp_contents.specs.Styles.{is_other, is_shared}
use Rattle.rsvp_contents.proofs.Stepwise.{and_rest, first_by, one_by_one}
use Rattle.rsvp_contents.proofs.FlowTotals.{total, one_if, if_some_of, total-append, total-if_some, count-total}

-- the FLOWSPECs are the same bytes
pub same_bytes : (f g : List ℕ) → is_same f g ≡ true → f ≡ g
same_bytes f g e = (bytes_decides f g).0 e

pub same_self : (f : List ℕ) → is_same f f ≡ true
same_self f = (bytes_decides f f).1 refl

-- whether the first is a RECORD_ROUTE
abbrev begins_recorded : List Object → Bool
begins_recorded (objects.RecordRoute r ∷ os) = true
begins_recorded _ = false

-- descriptors begin with none
plain_test : (test : Bool) (f : List ℕ) (t : Template) (os : List Object) → begins_recorded ((if test then [] else objects.Flowspec f ∷ []) ++ (objects.FilterSpec t ∷ os)) ≡ false
plain_test true f t os = refl
plain_test false f t os = refl

plain_start : (f : List ℕ) (ds : List FlowDescriptor) → begins_recorded (flow_objects (Some f) ds) ≡ false
plain_start f [] = refl
plain_start f (d ∷ ds) = plain_test (is_same f d.flowspec) d.flowspec d.filter (objects.Label d.label ∷ (if_some d.recorded objects.RecordRoute ++ flow_objects (Some d.flowspec) ds))

-- a descriptor with its own FLOWSPEC
own_flowspec : (before : Option (List ℕ)) (f : List ℕ) (t : Template) (l : Label) (r : Option (List Trace)) (os : List Object) → begins_recorded os ≡ false →
    flows_of before (objects.Flowspec f ∷ objects.FilterSpec t ∷ objects.Label l ∷ (if_some r objects.RecordRoute ++ os)) ≡ with_flow (record { flowspec = f; filter = t; label = l; recorded = r }) (flows_of (Some f) os)
own_flowspec before f t l (Some x) os h = refl
own_flowspec before f t l None (objects.RecordRoute y ∷ os) h = absurd cc
own_flowspec before f t l None os h = refl

-- and one for which a FLOWSPEC counts on
counted_on : (f : List ℕ) (t : Template) (l : Label) (r : Option (List Trace)) (os : List Object) → begins_recorded os ≡ false →
    flows_of (Some f) (objects.FilterSpec t ∷ objects.Label l ∷ (if_some r objects.RecordRoute ++ os)) ≡ with_flow (record { flowspec = f; filter = t; label = l; recorded = r }) (flows_of (Some f) os)
counted_on f t l (Some x) os h = refl
counted_on f t l None (objects.RecordRoute y ∷ os) h = absurd cc
counted_on f t l None os h = refl

-- either is read as the descriptor
by_test : (test : Bool) (before f : List ℕ) (t : Template) (l : Label) (r : Option (List Trace)) (os : List Object) → is_same before f ≡ test → begins_recorded os ≡ false →
    flows_of (Some before) ((if test then [] else objects.Flowspec f ∷ []) ++ (objects.FilterSpec t ∷ objects.Label l ∷ (if_some r objects.RecordRoute ++ os)))
    ≡ with_flow (record { flowspec = f; filter = t; label = l; recorded = r }) (flows_of (Some f) os)
by_test true before f t l r os e h =
    subst (λ (g : List ℕ). flows_of (Some g) (objects.FilterSpec t ∷ objects.Label l ∷ (if_some r objects.RecordRoute ++ os)) ≡ with_flow (record { flowspec = f; filter = t; label = l; recorded = r }) (flows_of (Some f) os)) (sym (same_bytes before f e)) (counted_on f t l r os h)
by_test false before f t l r os e h = own_flowspec (Some before) f t l r os h

one_again : (before : Option (List ℕ)) (d : FlowDescriptor) (os : List Object) → begins_recorded os ≡ false →
    flows_of before (flowspec_objects before d.flowspec ++ (objects.FilterSpec d.filter ∷ objects.Label d.label ∷ (if_some d.recorded objects.RecordRoute ++ os))) ≡ with_flow d (flows_of (Some d.flowspec) os)
one_again None d os h = own_flowspec None d.flowspec d.filter d.label d.recorded os h
one_again (Some b) d os h = by_test (is_same b d.flowspec) b d.flowspec d.filter d.label d.recorded os refl h

-- flow descriptors are read again
pub flows_again : (before : Option (List ℕ)) (ds : List FlowDescriptor) → flows_of before (flow_objects before ds) ≡ Some ds
flows_again before [] = refl
flows_again before (d ∷ ds) =
    one_again before d (flow_objects (Some d.flowspec) ds) (plain_start d.flowspec ds) ∙ ap (with_flow d) (flows_again (Some d.flowspec) ds)

-- a FLOWSPEC is written at most once
flowspec_test : (w : Object → ℕ) (test : Bool) (f : List ℕ) → total w (if test then [] else objects.Flowspec f ∷ []) ≤ w (objects.Flowspec f)
flowspec_test w true f = omega arith
flowspec_test w false f = omega arith

pub flowspec_most : (w : Object → ℕ) (before : Option (List ℕ)) (f : List ℕ) → total w (flowspec_objects before f) ≤ w (objects.Flowspec f)
flowspec_most w None f = omega arith
flowspec_most w (Some b) f = flowspec_test w (is_same b f) f

-- and not where it counts already
pub flowspec_none : (w : Object → ℕ) (f : List ℕ) → total w (flowspec_objects (Some f) f) ≡ 0
flowspec_none w f = ap (total w) (cond-true (is_same f f) [] (objects.Flowspec f ∷ []) (same_self f))

-- what one descriptor measures
pub one_total : (w : Object → ℕ) (before : Option (List ℕ)) (d : FlowDescriptor) (ds : List FlowDescriptor) →
    total w (flow_objects before (d ∷ ds)) ≡ total w (flowspec_objects before d.flowspec) + (w (objects.FilterSpec d.filter) + (w (objects.Label d.label) + (if_some_of w objects.RecordRoute d.recorded + total w (flow_objects (Some d.flowspec) ds))))
one_total w before d ds =
    omega (arith, total-append w (flowspec_objects before d.flowspec) (objects.FilterSpec d.filter ∷ objects.Label d.label ∷ (if_some d.recorded objects.RecordRoute ++ flow_objects (Some d.flowspec) ds)), total-append w (if_some d.recorded objects.RecordRoute) (flow_objects (Some d.flowspec) ds), total-if_some w objects.RecordRoute d.recorded)

-- one more descriptor was read
more_read : (d : FlowDescriptor) (o : Option (List FlowDescriptor)) (ds : List FlowDescriptor) → with_flow d o ≡ Some ds → (rest : List FlowDescriptor) × (o ≡ Some rest) × (d ∷ rest ≡ ds)
more_read d None ds e = absurd cc
more_read d (Some rest) ds e = (rest, refl, cc)

-- the step of the next lemma
within_step : (w : Object → ℕ) (before : Option (List ℕ)) (d : FlowDescriptor) (o : Option (List FlowDescriptor)) (ds : List FlowDescriptor) (n : ℕ) → with_flow d o ≡ Some ds → ((rest : List FlowDescriptor) → o ≡ Some rest → total w (flow_objects (Some d.flowspec) rest) ≤ n) →
    total w (flow_objects before ds) ≤ total w (flowspec_objects before d.flowspec) + (w (objects.FilterSpec d.filter) + (w (objects.Label d.label) + (if_some_of w objects.RecordRoute d.recorded + n)))
within_step w before d o ds n e h =
    let more = more_read d o ds e in
    let rest = h more.0 more.1 in
    subst (λ (v : List FlowDescriptor). total w (flow_objects before v) ≤ total w (flowspec_objects before d.flowspec) + (w (objects.FilterSpec d.filter) + (w (objects.Label d.label) + (if_some_of w objects.RecordRoute d.recorded + n)))) more.2
    (omega (arith, one_total w before d more.0, rest))

-- what is written of flow descriptors stood among the objects that say them
pub flows_within : (w : Object → ℕ) (before : Option (List ℕ)) (os : List Object) (ds : List FlowDescriptor) → flows_of before os ≡ Some ds → total w (flow_objects before ds) ≤ total w os
flows_within w before [] ds e = let same : [] ≡ ds = cc in subst (λ (v : List FlowDescriptor). total w (flow_objects before v) ≤ 0) same (omega arith)
flows_within w before (objects.Flowspec f ∷ objects.FilterSpec t ∷ objects.Label l ∷ objects.RecordRoute r ∷ os) ds e =
    omega (arith, within_step w before (record { flowspec = f; filter = t; label = l; recorded = Some r }) (flows_of (Some f) os) ds (total w os) e (λ rest is. flows_within w (Some f) os rest is), flowspec_most w before f)
flows_within w before (objects.Flowspec f ∷ objects.FilterSpec t ∷ objects.Label l ∷ os) ds e =
    omega (arith, within_step w before (record { flowspec = f; filter = t; label = l; recorded = None }) (flows_of (Some f) os) ds (total w os) e (λ rest is. flows_within w (Some f) os rest is), flowspec_most w before f)
flows_within w (Some f) (objects.FilterSpec t ∷ objects.Label l ∷ objects.RecordRoute r ∷ os) ds e =
    omega (arith, within_step w (Some f) (record { flowspec = f; filter = t; label = l; recorded = Some r }) (flows_of (Some f) os) ds (total w os) e (λ rest is. flows_within w (Some f) os rest is), flowspec_none w f)
flows_within w (Some f) (objects.FilterSpec t ∷ objects.Label l ∷ os) ds e =
    omega (arith, within_step w (Some f) (record { flowspec = f; filter = t; label = l; recorded = None }) (flows_of (Some f) os) ds (total w os) e (λ rest is. flows_within w (Some f) os rest is), flowspec_none w f)
flows_within w None os ds e = absurd cc
flows_within w (Some f) os ds e = absurd cc

-- all of it is of flow descriptors
flowspec_flow : (test : Bool) (f : List ℕ) (os : List Object) → list_all is_flow os ≡ true → list_all is_flow ((if test then [] else objects.Flowspec f ∷ []) ++ os) ≡ true
flowspec_flow true f os h = h
flowspec_flow false f os h = h

pub flowspec_are_flow : (before : Option (List ℕ)) (f : List ℕ) (os : List Object) → list_all is_flow os ≡ true → list_all is_flow (flowspec_objects before f ++ os) ≡ true
flowspec_are_flow None f os h = h
flowspec_are_flow (Some b) f os h = flowspec_flow (is_same b f) f os h

recorded_flow : (r : Option (List Trace)) (os : List Object) → list_all is_flow os ≡ true → list_all is_flow (if_some r objects.RecordRoute ++ os) ≡ true
recorded_flow None os h = h
recorded_flow (Some r) os h = h

pub flows_are_flow : (before : Option (List ℕ)) (ds : List FlowDescriptor) → list_all is_flow (flow_objects before ds) ≡ true
flows_are_flow before [] = refl
flows_are_flow before (d ∷ ds) =
    flowspec_are_flow before d.flowspec (objects.FilterSpec d.filter ∷ objects.Label d.label ∷ (if_some d.recorded objects.RecordRoute ++ flow_objects (Some d.flowspec) ds))
    (recorded_flow d.recorded (flow_objects (Some d.flowspec) ds) (flows_are_flow (Some d.flowspec) ds))

-- a record is no FLOWSPEC
recorded_zero : (r : Option (List Trace)) → if_some_of (one_if is_flowspec) objects.RecordRoute r ≡ 0
recorded_zero None = refl
recorded_zero (Some r) = refl

-- neither of two tests holds
neither : (a b : Bool) → a ≡ false → b ≡ false → (a || b) ≡ false
neither true b e h = absurd cc
neither false b e h = h

-- the FLOWSPEC that counts is the one of all where none is written
shared_test : (f : List ℕ) (ds : List FlowDescriptor) → list_all (λ other. is_same f other.flowspec) ds ≡ true → total (one_if is_flowspec) (flow_objects (Some f) ds) ≡ 0
shared_test f [] h = refl
shared_test f (d ∷ ds) h =
    let parts = and_parts (is_same f d.flowspec) (list_all (λ other. is_same f other.flowspec) ds) h in
    let same = same_bytes f d.flowspec parts.0 in
    let rest = shared_test d.flowspec ds (subst (λ (g : List ℕ). list_all (λ other. is_same g other.flowspec) ds ≡ true) same parts.1) in
    let none = subst (λ (g : List ℕ). total (one_if is_flowspec) (flowspec_objects (Some g) d.flowspec) ≡ 0) (sym same) (flowspec_none (one_if is_flowspec) d.flowspec) in
    omega (arith, one_total (one_if is_flowspec) (Some f) d ds, rest, none, recorded_zero d.recorded)

-- and the other way round
one_written : (test : Bool) (f : List ℕ) → total (one_if is_flowspec) (if test then [] else objects.Flowspec f ∷ []) ≡ 0 → test ≡ true
one_written true f h = refl
one_written false f h = absurd (omega arith)

shared_from : (f : List ℕ) (ds : List FlowDescriptor) → total (one_if is_flowspec) (flow_objects (Some f) ds) ≡ 0 → list_all (λ other. is_same f other.flowspec) ds ≡ true
shared_from f [] h = refl
shared_from f (d ∷ ds) h =
    let sum = one_total (one_if is_flowspec) (Some f) d ds in
    let test = one_written (is_same f d.flowspec) d.flowspec (omega (arith, sum, h, recorded_zero d.recorded)) in
    let same = same_bytes f d.flowspec test in
    let rest = shared_from d.flowspec ds (omega (arith, sum, h, recorded_zero d.recorded)) in
    and_from (is_same f d.flowspec) (list_all (λ other. is_same f other.flowspec) ds) test
    (subst (λ (g : List ℕ). list_all (λ other. is_same g other.flowspec) ds ≡ true) (sym same) rest)

-- a list that isn't empty
not_empty : {X : Type 0} (x : X) (xs : List X) → not (length (x ∷ xs) == 0) ≡ true
not_empty x xs = not_from_false (length (x ∷ xs) == 0) (ne_eqb (length (x ∷ xs)) 0 (λ e. omega arith))

-- by the style
again_by_style : (other shares : Bool) (ds : List FlowDescriptor) → (if other then length ds == 0 else not (length ds == 0) && (not shares || are_shared ds)) ≡ true →
    (if other then Some [] else if length (flow_objects None ds) == 0 || (shares && nat_lt 1 (count_by is_flowspec (flow_objects None ds))) then None else flows_of None (flow_objects None ds)) ≡ Some ds
again_by_style true shares [] h = refl
again_by_style true shares (d ∷ ds) h = absurd (false≢true (sym (ne_eqb (length (d ∷ ds)) 0 (λ e. omega arith)) ∙ h))
again_by_style false shares [] h = absurd cc
again_by_style false false (d ∷ ds) h =
    cond-false (length (flow_objects None (d ∷ ds)) == 0 || false) None (flows_of None (flow_objects None (d ∷ ds)))
    (neither (length (flow_objects None (d ∷ ds)) == 0) false (ne_eqb (length (flow_objects None (d ∷ ds))) 0 (λ e. omega arith)) refl)
    ∙ flows_again None (d ∷ ds)
again_by_style false true (d ∷ ds) h =
    let shared = (and_parts (not (length (d ∷ ds) == 0)) (are_shared (d ∷ ds)) h).1 in
    let none = shared_test d.flowspec ds shared in
    let sum = one_total (one_if is_flowspec) None d ds in
    let count = count-total is_flowspec (flow_objects None (d ∷ ds)) in
    cond-false (length (flow_objects None (d ∷ ds)) == 0 || nat_lt 1 (count_by is_flowspec (flow_objects None (d ∷ ds)))) None (flows_of None (flow_objects None (d ∷ ds)))
    (neither (length (flow_objects None (d ∷ ds)) == 0) (nat_lt 1 (count_by is_flowspec (flow_objects None (d ∷ ds)))) (ne_eqb (length (flow_objects None (d ∷ ds))) 0 (λ e. omega arith))
    (le-ltb 1 (count_by is_flowspec (flow_objects None (d ∷ ds))) (omega (arith, none, sum, count, recorded_zero d.recorded))))
    ∙ flows_again None (d ∷ ds)

-- Flow descriptors such as the style has are read again.
pub style_again : (style : Style) (ds : List FlowDescriptor) → fits_style style ds ≡ true → styled_flows style (flow_objects None ds) ≡ Some ds
style_again style ds h = again_by_style (is_other style) (is_shared style) ds h

-- nothing is said by objects only where there are none
none_read : {P : Type 0} (r : Option (FlowDescriptor × List Object)) → and_rest r ≡ Some [] → P
none_read None e = absurd cc
none_read (Some r) e =
    let read = more_read r.0 (flows_of (Some r.0.flowspec) r.1) [] e in
    let same = read.2 in absurd cc

some_read : (o : Object) (os : List Object) (ds : List FlowDescriptor) → flows_of None (o ∷ os) ≡ Some ds → not (length ds == 0) ≡ true
some_read o os [] e = none_read (first_by (counting None (o ∷ os))) (sym (one_by_one None o os) ∙ e)
some_read o os (d ∷ ds) e = not_empty d ds

-- one FLOWSPEC is that of all
shared_read : (os : List Object) (ds : List FlowDescriptor) → flows_of None os ≡ Some ds → nat_lt 1 (count_by is_flowspec os) ≡ false → are_shared ds ≡ true
shared_read os [] e few = refl
shared_read os (d ∷ ds) e few =
    shared_from d.flowspec ds (omega (arith, ltb-false 1 (count_by is_flowspec os) few, count-total is_flowspec os, flows_within (one_if is_flowspec) None os (d ∷ ds) e, one_total (one_if is_flowspec) None d ds))

-- what follows a test that fails
past : (test : Bool) (o : Option (List FlowDescriptor)) (ds : List FlowDescriptor) → (if test then None else o) ≡ Some ds → (test ≡ false) × (o ≡ Some ds)
past true o ds e = absurd cc
past false o ds e = (refl, e)

second : (a b : Bool) → (a || b) ≡ false → b ≡ false
second true b e = absurd cc
second false b e = e

-- by the style
read_by_style : (other shares : Bool) (os : List Object) (ds : List FlowDescriptor) →
    (if other then Some [] else if length os == 0 || (shares && nat_lt 1 (count_by is_flowspec os)) then None else flows_of None os) ≡ Some ds →
    (if other then length ds == 0 else not (length ds == 0) && (not shares || are_shared ds)) ≡ true
read_by_style true shares os [] e = refl
read_by_style true shares os (d ∷ ds) e = absurd cc
read_by_style false shares [] ds e = absurd cc
read_by_style false false (o ∷ os) ds e =
    let read = past (length (o ∷ os) == 0 || false) (flows_of None (o ∷ os)) ds e in
    and_from (not (length ds == 0)) true (some_read o os ds read.1) refl
read_by_style false true (o ∷ os) ds e =
    let read = past (length (o ∷ os) == 0 || nat_lt 1 (count_by is_flowspec (o ∷ os))) (flows_of None (o ∷ os)) ds e in
    and_from (not (length ds == 0)) (are_shared ds) (some_read o os ds read.1) (shared_read (o ∷ os) ds read.1 (second (length (o ∷ os) == 0) _ read.0))

-- What is read is such as the style has.
pub style_fits : (style : Style) (os : List Object) (ds : List FlowDescriptor) → styled_flows style os ≡ Some ds → fits_style style ds ≡ true
style_fits style os ds e = read_by_style (is_other style) (is_shared style) os ds e
