-- A ResvTear is a message where the Resv is one that it ends.
use Rattle.std.specs.Prelude.{◌≡◌, ◌≤◌, ◌+◌, ◌*◌, ◌==◌, ℕ, not, false, List, [], ◌∷◌, ◌++◌, length, map, IsTrue, Option, Some, None}
use Rattle.std.specs.List.{flat_map}
use Rattle.std.specs.Net.Addr.{ipv4_octets}
use Rattle.std.proofs.Common.{sym, ap, subst, ◌∙◌, arith, length-append}
use Rattle.std.proofs.lemmas.List.{length-map}
use Rattle.rsvp_objects.specs.Objects.{spelling}
use Rattle.rsvp_objects.specs.Values.{session_body}
use Rattle.rsvp_objects.specs.declared.object.Object.TheVariants as objects
use Rattle.rsvp_objects.specs.declared.values.Session.{Session}
use Rattle.rsvp_objects.specs.declared.values.Template.{Template}
use Rattle.rsvp_contents.proofs.FlowTotals.{length-flat_map-spelling, size_of, total, total-append}
use Rattle.rsvp_contents.specs.Flows.{flow_objects, flowspec_objects, if_some}
use Rattle.rsvp_contents.specs.declared.descriptors.FlowDescriptor.{FlowDescriptor}
use Rattle.rsvp_contents.proofs.Bytes.{resv_written}
use Rattle.rsvp_contents.specs.Spelling.{IsMessage}
use Rattle.rsvp_contents.specs.declared.messages.Content.TheVariants as contents
use Rattle.rsvp_contents.specs.declared.messages.Resv.{Resv}

-- flow descriptors are written in more bytes than their FILTER_SPECs: each has a LABEL of 8 bytes
filters_shorter : (before : Option (List ℕ)) (ds : List FlowDescriptor) → total size_of (map objects.FilterSpec (map (λ d. d.filter) ds)) + 8 * length ds ≤ total size_of (flow_objects before ds)
filters_shorter before [] = omega arith
filters_shorter before (d ∷ ds) =
    let behind = flow_objects (Some d.flowspec) ds in
    omega (
      arith,
      total-append size_of (flowspec_objects before d.flowspec) (objects.FilterSpec d.filter ∷ objects.Label d.label ∷ (if_some d.recorded objects.RecordRoute ++ behind)),
      total-append size_of (if_some d.recorded objects.RecordRoute) behind,
      filters_shorter (Some d.flowspec) ds,
    )

-- four bytes between others
four_between : (front back : List ℕ) (a b c d : ℕ) → 4 ≤ length (front ++ (a ∷ b ∷ c ∷ d ∷ back))
four_between front back a b c d = omega (arith, length-append front (a ∷ b ∷ c ∷ d ∷ back))

-- a SESSION has a body of four bytes beside its addresses
session_some : (s : Session) → 4 ≤ length (session_body s)
session_some s = four_between (ipv4_octets s.endpoint) (ipv4_octets s.extended) _ _ _ _

-- LSPs that are named are one or more
one_named : {A B : Type 0} (f : A → B) (xs : List A) → (length xs == 0) ≡ false → IsTrue (not (length (map f xs) == 0)) × (1 ≤ length xs)
one_named f xs some = (ap (λ n. not (n == 0)) (length-map xs f) ∙ ap not some, some_there xs some)
  where
    some_there : {A : Type 0} (ys : List A) → (length ys == 0) ≡ false → 1 ≤ length ys
    some_there [] e = absurd (let none = e in cc)
    some_there (y ∷ ys) e = omega arith

-- So the tear of a Resv that is a message and names an LSP fits a message, too.
pub tear_fits : (v : Resv) (filters : List Template) → IsMessage (contents.Resv v) → (length v.descriptors == 0) ≡ false → filters ≡ map (λ d. d.filter) v.descriptors → IsTrue (not (length filters == 0)) × (length (flat_map spelling (map objects.FilterSpec filters)) ≤ 4052)
tear_fits v filters is some named =
    let named_some = one_named (λ (d : FlowDescriptor). d.filter) v.descriptors some in
    let fitting : length (flat_map spelling (map objects.FilterSpec (map (λ d. d.filter) v.descriptors))) ≤ 4052 =
    omega (
      arith,
      is.size,
      resv_written v,
      session_some v.session,
      named_some.1,
      length-flat_map-spelling (map objects.FilterSpec (map (λ d. d.filter) v.descriptors)),
      length-flat_map-spelling (flow_objects None v.descriptors),
      filters_shorter None v.descriptors,
    )
    in
    subst (λ (ts : List Template). IsTrue (not (length ts == 0)) × (length (flat_map spelling (map objects.FilterSpec ts)) ≤ 4052)) (sym named) (named_some.0, fitting)
