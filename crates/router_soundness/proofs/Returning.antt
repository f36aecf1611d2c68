-- What comes back from the end of a bypass leaves the state such that what follows makes it sound.
use Rattle.std.specs.Prelude.{◌≡◌, IfSome, ℕ, ◌&&◌, true, false, List, [], ◌∷◌, filter, fold, Option, Some, None, IsTrue}
use Rattle.std.specs.FinMap.Entries.{find, put}
use Rattle.std.specs.List.{AllByRecursion}
use Rattle.std.specs.Option.{option_map_or}
use Rattle.std.specs.declared.net.ipv4_addr.Ipv4Addr.{Ipv4Addr}
use Rattle.std.proofs.Common.{refl}
use Rattle.std.proofs.lemmas.Bool.{and_parts}
use Rattle.rsvp_contents.specs.declared.messages.PathErr.{PathErr}
use Rattle.rsvp_contents.specs.declared.messages.Resv.{Resv}
use Rattle.rsvp_contents.specs.declared.messages.ResvTear.{ResvTear}
use Rattle.rsvp_contents.specs.Fitting.{have_short_records}
use Rattle.rsvp_contents.specs.Limits.{is_short_record}
use Rattle.rsvp_contents.specs.declared.descriptors.FlowDescriptor.{FlowDescriptor}
use Rattle.sorted_rows.specs.ListLaws.{all-both, all-filter}
use Rattle.sorted_rows.specs.RowsLaws.{all_found}
use Rattle.lsr_facts.specs.declared.key.Key.{Key}
use Rattle.lsr_facts.specs.declared.router.Router.{Router}
use Rattle.lsr_facts.specs.OrderLaws.{key_total}
use Rattle.lsr_facts.specs.Orders.{key_cmp}
use Rattle.lsr_facts.specs.declared.repair.Repair.{Repair}
use Rattle.lsr_facts.specs.declared.resv_fact.ResvStyle.{ResvStyle}
use Rattle.abstract_paths.proofs.EventStanding.{err_of_path-stands}
use Rattle.abstract_paths.specs.Outcomes.{lsp}
use Rattle.abstract_paths.specs.Tears.{err_of_path}
use Rattle.router_soundness.proofs.Granting.{accepted_means}
use Rattle.router_soundness.proofs.Holding.{held_with_repairs}
use Rattle.router_soundness.proofs.Keeping.{keeps_err, labelled, of_paths-leaves, unchanged}
use Rattle.router_soundness.proofs.OtherWays.{returned_err_by, returned_resv_by, returned_tear_by, returned_unknown_by}
use Rattle.router_soundness.proofs.Repairing.{repaired_where, repaired_with_repair}
use Rattle.router_soundness.proofs.Reserving.{Fits, IsCarried, IsShort, asked_is, carried_none, drafted}
use Rattle.router_soundness.proofs.Serving.{AreServed, enough_renewed, served_sound, served_where, served_with_repair}
use Rattle.router_soundness.proofs.Settling.{Leaves}
use Rattle.router_soundness.specs.Drafted.{HasEnough}
use Rattle.abstract_router.specs.Assigning.{fits_share}
use Rattle.abstract_router.specs.Reserving.{Progress, Verdict, Failed, PassedOver, Granted, resv_by, verdict_by_style}
use Rattle.abstract_router.specs.Returning.{all_returned, carried_back, ends_at, is_known_as, next_returned, renewed, repair_from, returned_err, returned_resv, returned_tear, returned_unknown, the_one}
use Rattle.abstract_router.specs.Soundness.{AreRepaired, IsSound}
use Rattle.abstract_router.specs.States.{State, with_repairs_where}

-- what holds of each of a list holds of the one that it is
the_one-holds : {A : Type 0} (P : A → Type 0) (xs : List A) → AllByRecursion P xs → IfSome (the_one xs) P
the_one-holds P [] all = tt
the_one-holds P (x ∷ []) all = all.0
the_one-holds P (x ∷ y ∷ xs) all = tt

-- What holds of each repair holds of the one that a Resv or a ResvTear is for.
pub repair_from-holds : (P : Key × Repair → Type 0) (r : Router) (s : State) (hop : Ipv4Addr) (key : Key) → AllByRecursion P s.repairs → IfSome (repair_from r s hop key) P
unfolding repair_from
repair_from-holds P r s hop key all =
    let test = λ (repair : Key × Repair). is_known_as r key repair && ends_at r s hop repair in
    the_one-holds P (filter test s.repairs) (all-filter P test s.repairs all)

-- A repair of a state: its LSP isn't reserved, and is promised enough.
record IsRepairOf (s : State) (repair : Key × Repair) : Type 0 where
  found : find key_cmp repair.0 s.repairs ≡ Some repair.1
  apart : find key_cmp repair.0 s.resvs ≡ None
  enough : HasEnough s repair

all_repairs : (s : State) → AreRepaired s → AreServed s → AllByRecursion (IsRepairOf s) s.repairs
all_repairs s repaired served =
    all-both (λ repair. find key_cmp repair.0 s.repairs ≡ Some repair.1) (λ repair. (find key_cmp repair.0 s.resvs ≡ None) × HasEnough s repair) (IsRepairOf s) (λ repair found is. record { found = found; apart = is.0; enough = is.1 }) s.repairs
    (all_found key_cmp key_total s.repairs repaired.in_order)
    (all-both (λ repair. find key_cmp repair.0 s.resvs ≡ None) (HasEnough s) (λ repair. (find key_cmp repair.0 s.resvs ≡ None) × HasEnough s repair) (λ repair apart enough. (apart, enough)) s.repairs repaired.apart served.2)

module _ (r : Router) (s : State) (style : ResvStyle) (v : Resv) (fit : Fits v) where
  -- a descriptor that renews a repair, whose LSP isn't reserved
  renewed-is : (progress : Progress) (d : FlowDescriptor) (repair : Key × Repair) → IsShort d → IsRepairOf progress.state repair → IsCarried r s progress.state → (verdict : Verdict)
      → verdict_by_style r progress.state repair.0 (resv_by progress.state.facts.moment repair.1.resv.link style v d) (fits_share progress.state repair.0 (resv_by progress.state.facts.moment repair.1.resv.link style v d)) ≡ verdict
      → IsCarried r s (carried_back r v d repair (resv_by progress.state.facts.moment repair.1.resv.link style v d) progress verdict).state
  renewed-is progress d repair short of is (Failed e) by = is
  renewed-is progress d repair short of is PassedOver by = is
  renewed-is progress d repair short of is Granted by =
      let fact = resv_by progress.state.facts.moment repair.1.resv.link style v d in
      let share = fits_share progress.state repair.0 fact in
      let may = accepted_means r progress.state repair.0 fact share by in
      let asked = asked_is progress.state repair.1.resv.link style v d repair.0 share fit short may in
      record {
        held = held_with_repairs r progress.state (put key_cmp repair.0 (record repair.1 { resv = fact }) progress.state.repairs) is.held;
        repaired = repaired_with_repair progress.state repair.0 (record repair.1 { resv = fact }) asked of.apart is.repaired;
        facts = is.facts;
        labels = is.labels;
        assignments = is.assignments;
        served = served_with_repair progress.state repair.0 repair.1 (record repair.1 { resv = fact }) of.found refl (enough_renewed progress.state repair fact of.enough may.room) is.served;
        resting = is.resting;
      }

  -- one descriptor more
  next_returned-is : (progress : Progress) (d : FlowDescriptor) → IsShort d → IsCarried r s progress.state → IsCarried r s (next_returned r style v progress d).state
  next_returned-is progress d short is =
      by (repair_from r progress.state v.hop.address (lsp v.session d.filter))
      (repair_from-holds (IsRepairOf progress.state) r progress.state v.hop.address (lsp v.session d.filter) (all_repairs progress.state is.repaired is.served))
    where
      by : (o : Option (Key × Repair)) → IfSome o (IsRepairOf progress.state) → IsCarried r s (option_map_or (renewed r style v d progress) o progress).state
      by None of = is
      by (Some repair) of =
          let fact = resv_by progress.state.facts.moment repair.1.resv.link style v d in
          renewed-is progress d repair short of is (verdict_by_style r progress.state repair.0 fact (fits_share progress.state repair.0 fact)) refl

  all_returned-are : (ds : List FlowDescriptor) (progress : Progress) → IsTrue (have_short_records ds) → IsCarried r s progress.state → IsCarried r s (fold (next_returned r style v) progress ds).state
  all_returned-are [] progress short is = is
  all_returned-are (d ∷ ds) progress short is =
      let parts = and_parts (option_map_or is_short_record d.recorded true) (have_short_records ds) short in
      all_returned-are ds (next_returned r style v progress d) parts.1 (next_returned-is progress d parts.0 is)

module _ (r : Router) (s : State) where
  -- A Resv from there,
  pub returned_resv-leaves : (v : Resv) → IsSound r s → Fits v → Leaves r s (returned_resv r s v)
  returned_resv-leaves v is fit =
      returned_resv_by (Leaves r s) r s is v
      (λ style reply heard.
      drafted r s (all_returned r s style v).state is
      (all_returned-are r s style v fit v.descriptors (record { state = s; errors = []; first = None; has_granted = false }) fit.records (carried_none r s is)))

  -- and with an object that it doesn't know,
  pub returned_unknown-leaves : (v : Resv) (class ctype : ℕ) → IsSound r s → Leaves r s (returned_unknown r s v class ctype)
  returned_unknown-leaves v class ctype is = returned_unknown_by (Leaves r s) r s is v class ctype (λ repair. unchanged r s is)

  -- a ResvTear,
  pub returned_tear-leaves : (t : ResvTear) → IsSound r s → Leaves r s (returned_tear r s t)
  returned_tear-leaves t is =
      returned_tear_by (Leaves r s) r s is t
      (λ test. drafted r s (with_repairs_where test s) is (record { held = held_with_repairs r s (filter test s.repairs) is.held; repaired = repaired_where s test is.repaired; facts = refl; labels = refl; assignments = refl; served = served_where s test (served_sound r s is); resting = refl }))

  -- and a PathErr.
  pub returned_err-leaves : (e : PathErr) → IsSound r s → Leaves r s (returned_err r s e)
  returned_err-leaves e is =
      returned_err_by (Leaves r s) r s is e
      (λ key path. of_paths-leaves r s (err_of_path r s.facts key e path) is (err_of_path-stands r s.facts key e path is.paths) (keeps_err r s (labelled r s is) key e path))
