-- What holds of every state that a label switching router comes to.
use Rattle.std.specs.Prelude.{◌≡◌, ℕ, ◌≤◌, true, ◌⊎◌, List, Some, None, IsOk, IsTrue, T, nat_eq}
use Rattle.std.specs.FinMap.Entries.{find, is_sorted}
use Rattle.std.specs.List.{AllByRecursion, IsDistinct}
use Rattle.std.specs.Option.{option_map_or}
use Rattle.rsvp_contents.specs.Fitting.{are_passed_by, has_adspec_last}
use Rattle.rsvp_contents.specs.Limits.{is_short_passing, is_short_record}
use Rattle.rsvp_bodies.specs.Traffic.{flowspec_rate}
use Rattle.sorted_rows.specs.Rows.{keys_of, values_of}
use Rattle.lsr_facts.specs.Orders.{key_cmp}
use Rattle.lsr_facts.specs.declared.assignment.Assignment.{Assignment}
use Rattle.lsr_facts.specs.declared.bypass.Bypass.{Bypass}
use Rattle.lsr_facts.specs.declared.key.Key.{Key}
use Rattle.lsr_facts.specs.declared.router.Router.{Router}
use Rattle.lsr_facts.specs.Claims.{is_same_session, reserved_of}
use Rattle.lsr_facts.specs.declared.repair.Repair.{Repair}
use Rattle.lsr_facts.specs.declared.resv_fact.ResvFact.{ResvFact}
use Rattle.abstract_paths.specs.Soundness.{IsStanding}
use Rattle.bypass_shares.specs.Shares.{IsWithin}
use Rattle.label_space.specs.Rests.{AreRestingOf}
use Rattle.abstract_router.specs.Assigning.{capacity_in, rate_in}
use Rattle.abstract_router.specs.Wanted.{items_of}
use Rattle.abstract_router.specs.Upstreams.{upstream_of}
use Rattle.abstract_router.specs.Labels.{labelled_keys}
use Rattle.abstract_router.specs.Preempting.{claims_of, limit_of}
use Rattle.forwarding_table.specs.Labels.{is_label}
use Rattle.abstract_router.specs.Repairing.{repair_stands}
use Rattle.abstract_router.specs.Reserving.{is_same_style}
use Rattle.abstract_router.specs.States.{State}
use Rattle.abstract_router.specs.Steps.{stands}

-- What a reservation says of itself is as it should be: its rate is defined; its label can be written; its expiry
-- isn't below the moment (with a refresh period of 0 they are equal); and what it carries fits a Resv, type 2.
pub record IsResv (moment : ℕ) (resv : Key × ResvFact) : Type 0 where
  pub has_rate : IsOk (flowspec_rate resv.1.flowspec)
  pub label : is_label resv.1.label ≡ true
  pub live : moment ≤ resv.1.expiry
  pub recorded : IsTrue (option_map_or is_short_record resv.1.recorded true)
  pub passing : IsTrue (is_short_passing resv.1.passing)
  pub passed_on : IsTrue (are_passed_by 2 resv.1.passing)
  pub adspec_last : IsTrue (has_adspec_last resv.1.passing)

-- the LSPs of one session on one link are reserved in one style (RFC 2205, 1.3)
abbrev pub AreOfOneStyle : List (Key × ResvFact) → Type 0
AreOfOneStyle resvs =
    (a b : Key) (x y : ResvFact) → find key_cmp a resvs ≡ Some x → find key_cmp b resvs ≡ Some y
    → is_same_session a.session b.session ≡ true → x.link ≡ y.link → is_same_style x.style y.style ≡ true

-- The table of reservations: in the order of keys, each as it should be, one style for a session on a link, and on each
-- link, at each priority, no more than its limit (RFC 3209, 4.7.3).
pub record AreHeld (r : Router) (s : State) : Type 0 where
  pub in_order : T (is_sorted key_cmp s.resvs)
  pub each : AllByRecursion (IsResv s.facts.moment) s.resvs
  pub one_style : AreOfOneStyle s.resvs
  pub within : (link priority : ℕ) → priority ≤ 7 → reserved_of link priority (claims_of s.facts.paths s.resvs) ≤ limit_of r link

-- The table of repairs: in the order of keys, each keeps a reservation as it should be, and no LSP is both reserved and
-- repaired.
pub record AreRepaired (s : State) : Type 0 where
  pub in_order : T (is_sorted key_cmp s.repairs)
  pub each : AllByRecursion (λ repair. IsResv s.facts.moment (repair.0, repair.1.resv)) s.repairs
  pub apart : AllByRecursion (λ (repair : Key × Repair). find key_cmp repair.0 s.resvs ≡ None) s.repairs

-- The labels: held by exactly the LSPs that don't begin here, each by one, all of the router's range (RFC 3031, 3.1 and 3.14).
pub record AreLabelled (r : Router) (s : State) : Type 0 where
  pub of_lsps : keys_of s.labels ≡ labelled_keys s.facts.paths
  pub from_first : AllByRecursion (λ row. r.labels.first ≤ row.1) s.labels
  pub to_last : AllByRecursion (λ row. row.1 ≤ r.labels.last) s.labels
  pub apart : IsDistinct nat_eq (values_of s.labels)

-- An assignment is of an LSP that is reserved for that rate, or that is repaired over that bypass for no more.
abbrev pub IsHolding : State → Key × Assignment → Type 0
IsHolding s given =
    ((resv : ResvFact) × (find key_cmp given.0 s.resvs ≡ Some resv) × (rate_in resv ≡ given.1.rate))
    ⊎ ((repair : Repair) × (find key_cmp given.0 s.repairs ≡ Some repair) × (rate_in repair.resv ≤ given.1.rate) × (repair.bypass ≡ given.1.bypass))

-- an assignment is of a bypass that has bandwidth to promise
abbrev pub IsOfCapacity : List (ℕ × Bypass) → Key × Assignment → Type 0
IsOfCapacity bypasses given = 1 ≤ capacity_in bypasses given.1.bypass

-- A repair is over a bypass that has none to promise, or over the one that its LSP is promised bandwidth of.
abbrev pub IsServed : State → Key × Repair → Type 0
IsServed s repair =
    (capacity_in s.facts.bypasses repair.1.bypass ≡ 0)
    ⊎ ((given : Assignment) × (find key_cmp repair.0 s.assignments ≡ Some given) × (given.bypass ≡ repair.1.bypass))

-- The bandwidth of bypasses that LSPs are promised (RFC 4090, 4.3): no bypass promises more than it has, each
-- promise is held by an LSP, and no repair takes bandwidth that its LSP wasn't promised.
pub record AreAssigned (s : State) : Type 0 where
  pub in_order : T (is_sorted key_cmp s.assignments)
  pub held : AllByRecursion (IsHolding s) s.assignments
  pub capable : AllByRecursion (IsOfCapacity s.facts.bypasses) s.assignments
  pub within : IsWithin key_cmp (capacity_in s.facts.bypasses) s.assignments
  pub served : AllByRecursion (IsServed s) s.repairs

-- What holds of every state: links, routes, time and paths are as they should be; reservations are within the limits of
-- their links, and each stands on its path; each repair stands on its path and on a bypass that is up; each LSP that
-- doesn't begin here has a label of its own; no bypass promises more than it has; labels that rest are held by nobody; and
-- the moments are known of exactly the Paths and the Resvs that are wanted.
pub record IsSound (r : Router) (s : State) : Type 0 where
  pub paths : IsStanding r s.facts
  pub held : AreHeld r s
  pub standing : AllByRecursion (λ resv. stands s.facts resv ≡ true) s.resvs
  pub repaired : AreRepaired s
  pub repairs_standing : AllByRecursion (λ repair. repair_stands r s repair ≡ true) s.repairs
  pub labels : AreLabelled r s
  pub assigned : AreAssigned s
  pub resting : AreRestingOf r.labels s.facts.moment s.labels s.resting
  pub sent : keys_of s.facts.sent ≡ keys_of (items_of r s)
  pub sent_upstream : keys_of s.sent_upstream ≡ keys_of (upstream_of r s)
