-- How many bytes descriptors are written in, one by one.
use Rattle.std.proofs.Common.{◌≡◌, ◌≤◌, ◌<◌, ◌+◌, ◌-◌, ℕ, suc, zero, List, [], ◌∷◌, length, take, drop, get_or, map, Option, Some, sym, ap, ◌∙◌, arith}
use Rattle.std.specs.List.{list_all}
use Rattle.std.proofs.lemmas.List.{take_all}
use Rattle.rsvp_objects.specs.declared.values.Template.{Template}
use Rattle.rsvp_objects.specs.declared.object.Object.TheVariants as objects
use Rattle.rsvp_contents.specs.declared.descriptors.FlowDescriptor.{FlowDescriptor}
use Rattle.rsvp_contents.specs.declared.descriptors.ErrorDescriptor.{ErrorDescriptor}
use Rattle.rsvp_contents.specs.Errors.{counting_objects, error_objects}
use Rattle.rsvp_contents.specs.Flows.{are_shared, if_some, is_same, flow_objects, flowspec_objects}
use Rattle.rsvp_contents.specs.Lengths.{spelled_len}
use Rattle.rsvp_contents.proofs.FlowsAgain.{one_total}
use Rattle.rsvp_contents.proofs.FlowTotals.{size_of, total-append, total-if_some, length-flat_map-spelling}

-- an element and what follows it
pub drop_one : {X : Type 0} (xs : List X) (i : ℕ) (x : X) → i < length xs → x ≡ get_or xs i x → drop i xs ≡ x ∷ drop (i + 1) xs
drop_one [] i x h e = absurd (omega arith)
drop_one (y ∷ ys) zero x h e = ap (λ v. v ∷ ys) (sym e)
drop_one (y ∷ ys) (suc i) x h e = let next : suc (i + 1) ≡ suc i + 1 = omega arith in drop_one ys i x (omega arith) e ∙ ap (λ (n : ℕ). x ∷ drop n (y ∷ ys)) next

-- the first of descriptors, and the others
pub shared_by : (ds : List FlowDescriptor) (d : FlowDescriptor) → 1 ≤ length ds → d ≡ get_or ds 0 d → list_all (λ other. is_same d.flowspec other.flowspec) (take (length ds - 1) (drop 1 ds)) ≡ are_shared ds
shared_by [] d h e = absurd (omega arith)
shared_by (x ∷ xs) d h e =
    ap (λ (v : List FlowDescriptor). list_all (λ other. is_same d.flowspec other.flowspec) v) (take_all (length (x ∷ xs) - 1) xs (omega arith))
    ∙ ap (λ (v : FlowDescriptor). list_all (λ other. is_same v.flowspec other.flowspec) xs) e

-- flow descriptors are written in the bytes of the first and of the others
pub flow_written : (before : Option (List ℕ)) (d : FlowDescriptor) (ds : List FlowDescriptor) →
    spelled_len (flow_objects before (d ∷ ds)) ≡ spelled_len (flow_objects before (d ∷ [])) + spelled_len (flow_objects (Some d.flowspec) ds)
flow_written before d ds =
    omega (
      arith,
      length-flat_map-spelling (flow_objects before (d ∷ ds)),
      length-flat_map-spelling (flow_objects before (d ∷ [])),
      length-flat_map-spelling (flow_objects (Some d.flowspec) ds),
      one_total size_of before d ds,
      one_total size_of before d [],
    )

-- one is written in the bytes of its objects
pub flow_parts : (before : Option (List ℕ)) (d : FlowDescriptor) →
    spelled_len (flow_objects before (d ∷ [])) ≡ spelled_len (flowspec_objects before d.flowspec) + (size_of (objects.FilterSpec d.filter) + (8 + spelled_len (if_some d.recorded objects.RecordRoute)))
flow_parts before d =
    omega (
      arith,
      length-flat_map-spelling (flow_objects before (d ∷ [])),
      length-flat_map-spelling (flowspec_objects before d.flowspec),
      length-flat_map-spelling (if_some d.recorded objects.RecordRoute),
      total-if_some size_of objects.RecordRoute d.recorded,
      one_total size_of before d [],
    )

-- so with error flow descriptors
pub error_written : (before : Option (List ℕ)) (e : ErrorDescriptor) (es : List ErrorDescriptor) →
    spelled_len (error_objects before (e ∷ es)) ≡ spelled_len (error_objects before (e ∷ [])) + spelled_len (error_objects e.flowspec es)
error_written before e es =
    omega (
      arith,
      length-flat_map-spelling (error_objects before (e ∷ es)),
      length-flat_map-spelling (error_objects before (e ∷ [])),
      length-flat_map-spelling (error_objects e.flowspec es),
      total-append size_of (counting_objects before e.flowspec) (objects.FilterSpec e.filter ∷ error_objects e.flowspec es),
      total-append size_of (counting_objects before e.flowspec) (objects.FilterSpec e.filter ∷ []),
    )

pub error_parts : (before : Option (List ℕ)) (e : ErrorDescriptor) →
    spelled_len (error_objects before (e ∷ [])) ≡ spelled_len (counting_objects before e.flowspec) + size_of (objects.FilterSpec e.filter)
error_parts before e =
    omega (
      arith,
      length-flat_map-spelling (error_objects before (e ∷ [])),
      length-flat_map-spelling (counting_objects before e.flowspec),
      total-append size_of (counting_objects before e.flowspec) (objects.FilterSpec e.filter ∷ []),
    )

-- and with filters
pub filter_written : (t : Template) (ts : List Template) →
    spelled_len (map objects.FilterSpec (t ∷ ts)) ≡ size_of (objects.FilterSpec t) + spelled_len (map objects.FilterSpec ts)
filter_written t ts = omega (arith, length-flat_map-spelling (map objects.FilterSpec (t ∷ ts)), length-flat_map-spelling (map objects.FilterSpec ts))
