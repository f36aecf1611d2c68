-- Each LSP that holds a label has its own entry under it, and its frames leave by that.
use Rattle.std.specs.Prelude.{◌≡◌, ◌≢◌, ◌++◌, ◌<◌, ◌≤◌, ◌+◌, ◌==◌, ℕ, Bool, true, false, cond, nat_lt, List, [], ◌∷◌, filter_map, find as find_first, length, map, Option, Some, None, is_some, IfSome}
use Rattle.std.specs.FinMap.Entries.{find}
use Rattle.std.specs.List.{AllByRecursion, cons_option}
use Rattle.std.specs.Option.{option_and_then, option_map, option_map_or, option_or}
use Rattle.std.specs.Ordering.{eq_by_cmp, is_eq}
use Rattle.std.proofs.Common.{refl, sym, ap, subst, ◌∙◌, arith}
use Rattle.std.proofs.lemmas.Bool.{and_parts, both_ways, eqb-true, le-ltb, lt-leb, ne_eqb}
use Rattle.std.proofs.lemmas.Cmp.{tied_itself}
use Rattle.std.proofs.lemmas.Option.{same_Some}
use Rattle.sorted_rows.specs.RowsLaws.{all_found, find-all, find-all_row, ties}
use Rattle.label_space.specs.BindingLaws.{one_key}
use Rattle.label_stacks.specs.declared.entry.StackEntry.{StackEntry}
use Rattle.lsr_facts.specs.OrderLaws.{key_exact, key_total}
use Rattle.lsr_facts.specs.Orders.{key_cmp}
use Rattle.lsr_facts.specs.Reservations.{timeless_repair, timeless_resv}
use Rattle.lsr_facts.specs.Routers.{IsRouter}
use Rattle.lsr_facts.specs.declared.key.Key.{Key}
use Rattle.lsr_facts.specs.declared.path_fact.PathFact.{PathFact}
use Rattle.lsr_facts.specs.declared.repair.Over.{Over}
use Rattle.lsr_facts.specs.declared.repair.Repair.{Repair}
use Rattle.lsr_facts.specs.declared.resv_fact.ResvFact.{ResvFact}
use Rattle.lsr_facts.specs.declared.router.Router.{Router}
use Rattle.forwarding_table.specs.Forwarding.{entry_for, forward_by, passed_on, relabelled, written_for}
use Rattle.forwarding_table.specs.Labels.{explicit_null, implicit_null}
use Rattle.forwarding_table.specs.declared.action.Action.{Action}
use Rattle.forwarding_table.specs.declared.action.Action.TheVariants.{Pop, Swap, SwapPush}
use Rattle.forwarding_table.specs.declared.forwarding.Fault.TheVariants.{HopLimit, TooLong}
use Rattle.forwarding_table.specs.declared.forwarding.Forwarding.TheVariants.{Drop, Send}
use Rattle.abstract_paths.specs.Paths.{goes_on}
use Rattle.abstract_paths.specs.Places.{is_up}
use Rattle.abstract_paths.specs.StampLaws.{none-is}
use Rattle.abstract_paths.specs.Tears.{leaves_by}
use Rattle.router_soundness.proofs.Entries.{reserved_or_repaired}
use Rattle.router_soundness.proofs.Labelling.{eqb-same}
use Rattle.router_soundness.proofs.Standing.{repair_on_bypass}
use Rattle.abstract_router.specs.BypassTunnels.{bypass_tunnels_of, over_at}
use Rattle.abstract_router.specs.Lsps.{Lsp, around_of, lsp_of, lsps_of}
use Rattle.abstract_router.specs.Soundness.{IsSound}
use Rattle.abstract_router.specs.Standing.{stands}
use Rattle.abstract_router.specs.States.{State, is_reserved}
use Rattle.abstract_router.specs.Tables.{action_of, entry_of, forwarded, look, swap_by, swap_through, table_of}

-- a path leaves by a link only where it goes on
leaving_goes_on : (link : ℕ) (path : PathFact) → leaves_by link path ≡ true → goes_on path.role ≡ true
unfolding leaves_by
leaving_goes_on link path leaves = (and_parts (goes_on path.role) (path.out_link == link) leaves).0

module _ (r : Router) (s : State) (key : Key) (path : PathFact) where
  -- what is done with the frames of the LSP
  abbrev pub own_action : Option Action
  own_action = action_of (around_of r s) (lsp_of s key path)

  -- where it goes on
  abbrev pub onward : Option Action
  onward = option_or (option_map swap_by (option_map timeless_resv (find key_cmp key s.resvs))) (option_and_then (swap_through (bypass_tunnels_of r s)) (option_map timeless_repair (find key_cmp key s.repairs)))

-- ---- the entries of LSPs, one by one

abbrev looked : Router → State → ℕ → List (Key × PathFact) → Option Action
looked r s label paths =
    option_map (λ entry. entry.1) (find_first (λ entry. entry.0 == label) (filter_map (λ (lsp : Key × Lsp). entry_of (around_of r s) lsp.1) (map (λ (path : Key × PathFact). (path.0, lsp_of s path.0 path.1)) paths)))

-- the action under a label, of entries of which the first may have it
abbrev first_looked : ℕ → Option (ℕ × Action) → List (ℕ × Action) → Option Action
first_looked label first rest = option_map (λ (entry : ℕ × Action). entry.1) (find_first (λ (entry : ℕ × Action). entry.0 == label) (cons_option first rest))

-- the same, either way
same_either : {A : Type 0} (b : Bool) (x : A) → cond b x x ≡ x
same_either true x = refl
same_either false x = refl

-- an LSP's own entry is found, where none of the others has another action under its label
own_first : (label : ℕ) (action : Option Action) (rest : List (ℕ × Action)) (b : Bool) → first_looked label None rest ≡ cond b action None
    → first_looked label (option_map {U = ℕ × Action} (λ (a : Action). (label, a)) action) rest ≡ action
own_first label None rest b others = others ∙ same_either b None
own_first label (Some a) rest b others =
    ap (λ same. option_map (λ (entry : ℕ × Action). entry.1) (cond same (Some (label, a)) (find_first (λ (entry : ℕ × Action). entry.0 == label) rest))) (eqb-same label)

module _ (r : Router) (s : State) (is : IsSound r s) (key : Key) (path : PathFact) (label : ℕ) (known : find key_cmp key s.facts.paths ≡ Some path) (held : find key_cmp key s.labels ≡ Some label) where
  abbrev entries : List (Key × PathFact) → List (ℕ × Action)
  entries rows = filter_map (λ (lsp : Key × Lsp). entry_of (around_of r s) lsp.1) (map (λ (path : Key × PathFact). (path.0, lsp_of s path.0 path.1)) rows)

  -- one more LSP in front of others
  module _ (row : Key × PathFact) (rows : List (Key × PathFact)) (found : find key_cmp row.0 s.facts.paths ≡ Some row.1)
      (behind : looked r s label rows ≡ cond (is_some (find key_cmp key rows)) (own_action r s key path) None) where
    own_row : key ≡ row.0 → looked r s label (row ∷ rows) ≡ own_action r s key path
    own_row same =
        let same_path : row.1 ≡ path = same_Some row.1 path (sym found ∙ ap (λ k. find key_cmp k s.facts.paths) (sym same) ∙ known) in
        ap (λ first. first_looked label first (entries rows))
        ((λ i. entry_of (around_of r s) (lsp_of s (sym same i) (same_path i)))
        ∙ ap (option_and_then (λ (l : ℕ). option_map {U = ℕ × Action} (λ (a : Action). (l, a)) (own_action r s key path))) held)
        ∙ own_first label (own_action r s key path) (entries rows) (is_some (find key_cmp key rows)) behind

    by_label : (l : ℕ) → find key_cmp row.0 s.labels ≡ Some l → eq_by_cmp key_cmp key row.0 ≡ false → (b : Bool) → (l == label) ≡ b → (o : Option Action)
        → first_looked label (option_map {U = ℕ × Action} (λ (a : Action). (l, a)) o) (entries rows) ≡ cond (is_some (find key_cmp key rows)) (own_action r s key path) None
    by_label l at apart b on None = behind
    by_label l at apart true on (Some a) =
        let same : key ≡ row.0 = one_key s.labels is.labels.apart key row.0 label held (at ∙ ap Some (eqb-true l label on)) in
        absurd (both_ways (eq_by_cmp key_cmp key row.0) apart (ap (λ k. eq_by_cmp key_cmp key k) (sym same) ∙ ap is_eq (tied_itself key_total key)))
    by_label l at apart false off (Some a) =
        ap (λ b. option_map (λ (entry : ℕ × Action). entry.1) (cond b (Some (l, a)) (find_first (λ (entry : ℕ × Action). entry.0 == label) (entries rows)))) off ∙ behind

    other_row : eq_by_cmp key_cmp key row.0 ≡ false → (o : Option ℕ) → find key_cmp row.0 s.labels ≡ o
        → first_looked label (option_and_then (λ (l : ℕ). option_map {U = ℕ × Action} (λ (a : Action). (l, a)) (own_action r s row.0 row.1)) o) (entries rows) ≡ cond (is_some (find key_cmp key rows)) (own_action r s key path) None
    other_row apart None at = behind
    other_row apart (Some l) at = by_label l at apart (l == label) refl (own_action r s row.0 row.1)

    looked-more : looked r s label (row ∷ rows) ≡ cond (is_some (find key_cmp key (row ∷ rows))) (own_action r s key path) None
    looked-more =
        elim (eq_by_cmp key_cmp key row.0) as (λ b. eq_by_cmp key_cmp key row.0 ≡ b → looked r s label (row ∷ rows) ≡ cond (is_some (cond b (Some row.1) (find key_cmp key rows))) (own_action r s key path) None) [
          | true ↦ λ tie. own_row (key_exact key row.0 (ties (key_cmp key row.0) tie))
          | false ↦ λ apart. other_row apart (find key_cmp row.0 s.labels) refl
        ] refl

  -- what stands under the label is the LSP's
  looked-is : (rows : List (Key × PathFact)) → AllByRecursion (λ row. find key_cmp row.0 s.facts.paths ≡ Some row.1) rows → looked r s label rows ≡ cond (is_some (find key_cmp key rows)) (own_action r s key path) None
  looked-is [] found = refl
  looked-is (row ∷ rows) found = looked-more row rows found.0 (looked-is rows found.1)

  -- What is done with a label is what is done with the frames of the LSP that holds it.
  pub look-own : look r s label ≡ own_action r s key path
  unfolding look table_of lsps_of
  look-own =
      looked-is s.facts.paths (all_found key_cmp key_total s.facts.paths is.paths.paths.in_order)
      ∙ ap (λ o. cond (is_some o) (own_action r s key path) None) known

  -- Where it ends here.
  pub look_ends : goes_on path.role ≡ false → look r s label ≡ Some Pop
  look_ends ends = look-own ∙ ap (λ b. cond b (onward r s key path) (Some Pop)) ends

  -- Where it goes on.
  pub look_onward : goes_on path.role ≡ true → look r s label ≡ onward r s key path
  look_onward goes = look-own ∙ ap (λ b. cond b (onward r s key path) (Some Pop)) goes

  pub look_neither : goes_on path.role ≡ true → find key_cmp key s.resvs ≡ None → find key_cmp key s.repairs ≡ None → look r s label ≡ None
  look_neither goes unreserved unrepaired =
      look_onward goes
      ∙ (λ i. option_or (option_map swap_by (option_map timeless_resv (unreserved i))) (option_and_then (swap_through (bypass_tunnels_of r s)) (option_map timeless_repair (unrepaired i))))

module _ (r : Router) (s : State) (is : IsSound r s) (key : Key) (label : ℕ) (held : find key_cmp key s.labels ≡ Some label) where
  -- Where it is reserved.
  pub look_reserved : (resv : ResvFact) → find key_cmp key s.resvs ≡ Some resv → look r s label ≡ Some (Swap resv.label resv.link)
  look_reserved resv found = by (find key_cmp key s.facts.paths) refl (and_parts (is_up s.facts.up resv.link) (option_map_or (leaves_by resv.link) (find key_cmp key s.facts.paths) false) stood).1
    where
      stood : stands s.facts (key, resv) ≡ true
      stood = subst (λ o. IfSome o (λ v. stands s.facts (key, v) ≡ true)) found (find-all_row key_cmp key_exact (λ v. stands s.facts v ≡ true) key s.resvs is.standing)

      by : (o : Option PathFact) → find key_cmp key s.facts.paths ≡ o → option_map_or (leaves_by resv.link) o false ≡ true → look r s label ≡ Some (Swap resv.label resv.link)
      by None known leaves = absurd (let e = leaves in cc)
      by (Some path) known leaves =
          look_onward r s is key path label known held (leaving_goes_on resv.link path leaves)
          ∙ ap (λ o. option_or (option_map swap_by (option_map timeless_resv o)) (option_and_then (swap_through (bypass_tunnels_of r s)) (option_map timeless_repair (find key_cmp key s.repairs)))) found

  -- Where it is repaired.
  pub look_repaired : (repair : Repair) → find key_cmp key s.repairs ≡ Some repair
      → (over : Over) × (over_at (bypass_tunnels_of r s) repair.bypass ≡ Some over) × (look r s label ≡ Some (SwapPush repair.resv.label over.label over.link))
  look_repaired repair found =
      let on = repair_on_bypass r s key repair is found in
      let over : Over = on.1 in
      let up : over_at (bypass_tunnels_of r s) repair.bypass ≡ Some over = on.4 in
      let unreserved : is_reserved s key ≡ false = reserved_or_repaired r s key is (ap is_some found) in (
        over,
        up,
        look_onward r s is key on.0 label on.2 held (leaving_goes_on repair.resv.link on.0 on.3)
            ∙ (λ i. option_or (option_map swap_by (option_map timeless_resv (none-is (find key_cmp key s.resvs) unreserved i))) (option_and_then (swap_through (bypass_tunnels_of r s)) (option_map timeless_repair (found i))))
            ∙ ap (option_map (λ (o : Over). SwapPush repair.resv.label o.label o.link)) up,
      )

-- ---- their frames

-- one label, or two, in place of an entry
length-one : (label : ℕ) (top : StackEntry) (below : List StackEntry) → length (relabelled (label ∷ []) top below) ≤ 1 + length below
length-one label top below = elim (label == implicit_null) as (λ b. length ((cond b [] (entry_for top label ∷ []) ++ []) ++ below) ≤ 1 + length below) [ true ↦ omega arith | false ↦ omega arith ]

length-two : (outer inner : ℕ) (top : StackEntry) (below : List StackEntry) → length (relabelled (outer ∷ inner ∷ []) top below) ≤ 2 + length below
length-two outer inner top below =
    let one : length (relabelled (inner ∷ []) top below) ≤ 1 + length below = length-one inner top below in
    elim (outer == implicit_null) as (λ b. length ((cond b [] (entry_for top outer ∷ []) ++ (written_for top inner ++ [])) ++ below) ≤ 2 + length below) [ true ↦ omega (arith, one) | false ↦ omega (arith, one) ]

-- Two labels are written in place of an entry, with its class, and with a TTL one less, unless they are implicit null.
pub both_written : (outer inner : ℕ) (top : StackEntry) (below : List StackEntry) → outer ≢ implicit_null → inner ≢ implicit_null → relabelled (outer ∷ inner ∷ []) top below ≡ entry_for top outer ∷ entry_for top inner ∷ below
both_written outer inner top below some too =
    λ i. (cond (ne_eqb outer implicit_null some i) [] (entry_for top outer ∷ []) ++ (cond (ne_eqb inner implicit_null too i) [] (entry_for top inner ∷ []) ++ [])) ++ below

-- a stack with room is passed on
passed_on-sends : (labels : List ℕ) (link : ℕ) (top : StackEntry) (below : List StackEntry) → 1 < top.ttl → length (relabelled labels top below) ≤ 8 → passed_on labels link top below ≡ Send link (relabelled labels top below)
passed_on-sends labels link top below lives fits =
    let out = relabelled labels top below in
    ap (λ b. cond b (Drop HopLimit) (cond (nat_lt 8 (length out)) (Drop TooLong) (Send link out))) (lt-leb top.ttl 1 lives)
    ∙ ap (λ b. cond b (Drop TooLong) (Send link out)) (le-ltb 8 (length out) fits)

module _ (r : Router) (s : State) (router : IsRouter r) (is : IsSound r s) (key : Key) (top : StackEntry) (below : List StackEntry) (held : find key_cmp key s.labels ≡ Some top.label) where
  -- the label of an LSP is no explicit null
  is_no_null : (top.label == explicit_null) ≡ false
  is_no_null =
      let from = subst (λ o. IfSome o (λ label. r.labels.first ≤ label)) held (find-all key_cmp (λ label. r.labels.first ≤ label) key s.labels is.labels.from_first) in
      let low = router.labels.first in
      ne_eqb top.label explicit_null (λ null. absurd (omega (arith, from, low, null)))

  -- What becomes of a frame of its is what its action makes of it.
  forwarded-by : (does : Option Action) → look r s top.label ≡ does → forwarded r s (top ∷ below) ≡ forward_by does top below (forwarded r s below)
  forwarded-by does at =
      ap (λ b. forward_by (cond b (Some Pop) (look r s top.label)) top below (forwarded r s below)) is_no_null
      ∙ ap (λ does. forward_by does top below (forwarded r s below)) at

  pub forwarded_reserved : (resv : ResvFact) → find key_cmp key s.resvs ≡ Some resv → 1 < top.ttl → length below ≤ 7 → forwarded r s (top ∷ below) ≡ Send resv.link (relabelled (resv.label ∷ []) top below)
  forwarded_reserved resv found lives room =
      forwarded-by (Some (Swap resv.label resv.link)) (look_reserved r s is key top.label held resv found)
      ∙ passed_on-sends (resv.label ∷ []) resv.link top below lives (let long = length-one resv.label top below in omega (arith, long, room))

  pub forwarded_repaired : (repair : Repair) → find key_cmp key s.repairs ≡ Some repair → 1 < top.ttl → length below ≤ 6
      → (over : Over) × (over_at (bypass_tunnels_of r s) repair.bypass ≡ Some over) × (forwarded r s (top ∷ below) ≡ Send over.link (relabelled (over.label ∷ repair.resv.label ∷ []) top below))
  forwarded_repaired repair found lives room =
      let on = look_repaired r s is key top.label held repair found in
      let over : Over = on.0 in (
        over,
        on.1,
        forwarded-by (Some (SwapPush repair.resv.label over.label over.link)) on.2
            ∙ passed_on-sends (over.label ∷ repair.resv.label ∷ []) over.link top below lives (let long = length-two over.label repair.resv.label top below in omega (arith, long, room)),
      )

  pub forwarded_ends : (path : PathFact) → find key_cmp key s.facts.paths ≡ Some path → goes_on path.role ≡ false → forwarded r s (top ∷ below) ≡ forwarded r s below
  forwarded_ends path known ends = forwarded-by (Some Pop) (look_ends r s is key path top.label known held ends)
