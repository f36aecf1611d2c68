-- What an origin is sent is a message: the parts of the Resv fit, and leave room for each other.
use Rattle.std.specs.Prelude.{◌≡◌, ℕ, ◌≤◌, ◌==◌, ◌&&◌, nat_le, nat_lt, Bool, true, false, if◌then◌else◌, List, [], ◌∷◌, ◌++◌, drop, length, Option, Some, None, Result, Err, IfSome, IsOk, IsTrue}
use Rattle.std.specs.FinMap.Entries.{find}
use Rattle.std.specs.List.{AllByRecursion}
use Rattle.std.specs.Option.{ok_or, option_and_then, option_map, option_map_or, option_or}
use Rattle.std.specs.declared.net.ipv4_addr.Ipv4Addr.{Ipv4Addr}
use Rattle.std.proofs.Common.{refl, ◌∙◌, arith, length-append}
use Rattle.std.proofs.lemmas.Bool.{and_from, and_parts, leb-true}
use Rattle.std.proofs.lemmas.List.{length-set}
use Rattle.byteorder.specs.Endian.{big_number}
use Rattle.rsvp_objects.specs.Ranges.{IsAddress}
use Rattle.rsvp_objects.specs.declared.object.Object.TheVariants as objects
use Rattle.rsvp_bodies.specs.Traces.{record_bytes}
use Rattle.rsvp_bodies.specs.declared.trace.Trace.{Trace}
use Rattle.rsvp_bodies.specs.Rates.{rate_of}
use Rattle.rsvp_bodies.specs.TokenBuckets.{has_shape, rate_word_of, service_of, token_rate}
use Rattle.rsvp_bodies.specs.Traffic.{flowspec_rate}
use Rattle.rsvp_bodies.specs.declared.traffic_fault.TrafficFault.{TrafficFault}
use Rattle.rsvp_bodies.specs.declared.traffic_fault.TrafficFault.TheVariants.{BadFlowspec, ServiceUnsupported}
use Rattle.rsvp_bodies.proofs.Shapes.{has_shape-whole}
use Rattle.rsvp_contents.specs.declared.descriptors.FlowDescriptor.{FlowDescriptor}
use Rattle.rsvp_contents.specs.Flows.{fits_style, if_some}
use Rattle.rsvp_contents.proofs.Sizes.{flow_parts}
use Rattle.rsvp_contents.proofs.FlowTotals.{if_some_of, length-flat_map-spelling, size_of, total-if_some}
use Rattle.rsvp_contents.specs.Fitting.{HasRoom, are_passed_by, fits_resv, has_adspec_last}
use Rattle.rsvp_contents.specs.Limits.{is_short_passing, is_short_record}
use Rattle.rsvp_contents.specs.declared.messages.Content.TheVariants as contents
use Rattle.lsr_facts.specs.OrderLaws.{key_exact}
use Rattle.lsr_facts.specs.Orders.{key_cmp}
use Rattle.lsr_facts.specs.declared.key.Key.{Key}
use Rattle.lsr_facts.specs.declared.path_fact.Origin.{Origin}
use Rattle.lsr_facts.specs.declared.path_fact.PathFact.{PathFact}
use Rattle.lsr_facts.specs.declared.router.Router.{Router}
use Rattle.lsr_facts.specs.Reservations.{timeless_repair, timeless_resv}
use Rattle.lsr_facts.specs.declared.repair.Repair.{Repair}
use Rattle.lsr_facts.specs.declared.resv_fact.ResvFact.{ResvFact}
use Rattle.lsr_facts.specs.declared.resv_fact.ResvStyle.{ResvStyle}
use Rattle.lsr_facts.specs.declared.resv_fact.ResvStyle.TheVariants.{FixedFilter, SharedExplicit}
use Rattle.sorted_rows.specs.RowsLaws.{find-all_row}
use Rattle.abstract_paths.specs.Paths.{goes_on}
use Rattle.lsr_facts.specs.Reservations.{style_word}
use Rattle.abstract_router.specs.Lsps.{Around, Lsp, held_of, lsp_of}
use Rattle.abstract_router.specs.Soundness.{IsResv}
use Rattle.abstract_router.specs.States.{State}
use Rattle.abstract_router.specs.Upstreams.{Reserved, own_flags, record_upstream, reserved_by_end, reserved_by_next, reserved_for, resv_to, own_entries}
use Rattle.wanted_messages.specs.Fitting.{IsFitting}
use Rattle.abstract_paths.specs.Paths.{short_only}

-- a shape that gave a word
shaped : (fault : TrafficFault) (shape : Bool) (word : ℕ) → IsOk (ok_or (option_and_then rate_of (if shape then Some word else None)) fault) → shape ≡ true
shaped fault true word h = refl
shaped fault false word h = absurd (let e = h in cc)

-- a rate that passed a test
passed : {X : Type 0} (is : Bool) (fault : TrafficFault) (rate : Result X TrafficFault) → IsOk (if is then rate else Err fault) → IsOk rate
passed true fault rate h = h
passed false fault rate h = absurd (let e = h in cc)

-- and one that failed one
failed : {X : Type 0} (is : Bool) (fault : TrafficFault) (rate : Result X TrafficFault) → IsOk (if is then Err fault else rate) → IsOk rate
failed true fault rate h = absurd (let e = h in cc)
failed false fault rate h = h

-- A FLOWSPEC with a rate has the bytes of a token bucket.
pub flowspec-whole : (flowspec : List ℕ) → IsOk (flowspec_rate flowspec) → length flowspec ≡ 32
unfolding flowspec_rate token_rate rate_word_of
flowspec-whole flowspec rated =
    has_shape-whole 5 flowspec (shaped BadFlowspec (has_shape 5 flowspec) (big_number 4 (drop 12 flowspec)) (
    passed (service_of flowspec == 5) ServiceUnsupported _ (failed (nat_lt (length flowspec) 8) BadFlowspec _ rated)
    ))

-- what is kept of entries that may be too many is short
short_only-short : (entries : List Trace) (short : Bool) → is_short_record entries ≡ short → IsTrue (option_map_or is_short_record (if short then Some entries else None) true)
short_only-short entries true same = same
short_only-short entries false same = refl

-- so is the record that a Resv goes upstream with
pub record_upstream-short : (r : Router) (flags : ℕ) (path : PathFact) (label : ℕ) (recorded : List Trace) → IsTrue (option_map_or is_short_record (record_upstream r flags path label recorded) true)
unfolding record_upstream
record_upstream-short r flags path label recorded = by path.recorded
  where
    own : List Trace
    own = own_entries r flags path label

    by : (came : Option (List Trace)) → IsTrue (option_map_or is_short_record (option_and_then (λ came. short_only (own ++ recorded)) came) true)
    by None = refl
    by (Some came) = short_only-short (own ++ recorded) _ refl

-- a record that is short has at most 1,028 bytes as an object
record-length : (recorded : Option (List Trace)) → IsTrue (option_map_or is_short_record recorded true) → if_some_of size_of objects.RecordRoute recorded ≤ 1028
record-length None short = omega arith
record-length (Some entries) short =
    let bytes : length (record_bytes entries) ≤ 1024 = leb-true (length (record_bytes entries)) 1024 (and_parts (nat_le (length entries) 64) (nat_le (length (record_bytes entries)) 1024) short).1 in
    omega (arith, bytes)

-- the styles that this router writes have flow descriptors
style-fits : (style : ResvStyle) (d : FlowDescriptor) → IsTrue (fits_style (style_word style) (d ∷ []))
style-fits FixedFilter d = refl
style-fits SharedExplicit d = refl

-- The parts of the Resv fit that an origin is sent, where what it says of the LSP does.
pub resv_fits : (r : Router) (key : Key) (path : PathFact) (origin : Ipv4Addr × Origin) (address : Ipv4Addr) (label : ℕ) (a : Reserved) → IsFitting a → IsTrue (fits_resv (resv_to r key path origin address label a))
resv_fits r key path origin address label a is =
    and_from (option_map_or is_short_record (record_upstream r a.flags path label a.recorded) true && true) _
    (and_from (option_map_or is_short_record (record_upstream r a.flags path label a.recorded) true) true (record_upstream-short r a.flags path label a.recorded) refl)
    (and_from (is_short_passing a.passing) _ is.passing
    (and_from (are_passed_by 2 a.passing) _ is.passed_on
    (and_from (has_adspec_last a.passing) _ is.adspec_last (style-fits a.style (record { flowspec = a.flowspec; filter = record key.sender { sender = origin.0 }; label = record { number = label }; recorded = record_upstream r a.flags path label a.recorded })))))

-- And its flow descriptor leaves room for all else that it says.
pub resv_has_room : (r : Router) (key : Key) (path : PathFact) (origin : Ipv4Addr × Origin) (address : Ipv4Addr) (label : ℕ) (a : Reserved) → IsAddress origin.0 → IsFitting a → HasRoom (contents.Resv (resv_to r key path origin address label a))
resv_has_room r key path origin address label a sender is =
    let recorded = record_upstream r a.flags path label a.recorded in
    omega (
      arith,
      flow_parts None (record { flowspec = a.flowspec; filter = record key.sender { sender = origin.0 }; label = record { number = label }; recorded = recorded }),
      length-flat_map-spelling (objects.Flowspec a.flowspec ∷ []),
      length-flat_map-spelling (if_some recorded objects.RecordRoute),
      total-if_some size_of objects.RecordRoute recorded,
      record-length recorded (record_upstream-short r a.flags path label a.recorded),
      length-append {A = ℕ},
      is.flowspec,
      sender,
    )

-- what the next hop reserved fits, as it should be
next_fits : (moment flags : ℕ) (key : Key) (resv : ResvFact) → IsResv moment (key, resv) → IsFitting (reserved_by_next flags resv)
next_fits moment flags key resv is = record {
  flowspec = flowspec-whole resv.flowspec is.has_rate;
  passing = is.passing;
  passed_on = is.passed_on;
  adspec_last = is.adspec_last;
}

-- and what is held of it: a reservation, or one that a repair keeps
held_fits : (moment flags : ℕ) (key : Key) (resv : Option ResvFact) (repair : Option Repair) → IfSome resv (λ resv. IsResv moment (key, resv)) → IfSome repair (λ repair. IsResv moment (key, repair.resv))
    → IfSome (option_map (reserved_by_next flags) (option_or (option_map timeless_resv resv) (option_map (λ (repair : Repair). repair.resv) (option_map timeless_repair repair)))) IsFitting
held_fits moment flags key (Some resv) repair is kept = next_fits moment flags key resv is
held_fits moment flags key None (Some repair) is kept = next_fits moment flags key repair.resv kept
held_fits moment flags key None None is kept = tt

-- What is said of an LSP fits a Resv, where its path's Tspec is a whole token bucket, and each reservation is as it
-- should be, also one that a repair keeps.
pub reserved_fits : (a : Around) (s : State) (key : Key) (path : PathFact) → length path.tspec ≡ 32 → AllByRecursion (IsResv s.facts.moment) s.resvs → AllByRecursion (λ repair. IsResv s.facts.moment (repair.0, repair.1.resv)) s.repairs
    → IfSome (reserved_for a (key, lsp_of s key path)) IsFitting
reserved_fits a s key path whole each kept =
    by (goes_on path.role)
  where
    lsp : Lsp
    lsp = lsp_of s key path

    by : (goes : Bool) → IfSome (if goes then option_map (reserved_by_next (own_flags a (key, lsp))) (held_of lsp) else Some (reserved_by_end lsp.path)) IsFitting
    by true =
        held_fits s.facts.moment (own_flags a (key, lsp)) key (find key_cmp key s.resvs) (find key_cmp key s.repairs)
        (find-all_row key_cmp key_exact (IsResv s.facts.moment) key s.resvs each)
        (find-all_row key_cmp key_exact (λ (repair : Key × Repair). IsResv s.facts.moment (repair.0, repair.1.resv)) key s.repairs kept)
    by false = record {
      flowspec = length-set path.tspec 4 5 ∙ whole;
      passing = refl;
      passed_on = refl;
      adspec_last = refl;
    }
