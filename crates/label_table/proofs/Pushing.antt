-- The edits of the tunnels that changed, and of those whose LSPs did, make of one state's table of tunnels the other's.
use Rattle.std.proofs.Common.{◌≡◌, ◌≢◌, ℕ, T, Bool, true, false, cond, List, [], ◌∷◌, Option, Some, None, IfSome, is_some, refl, sym, ap, subst, ◌∙◌, inl, inr}
use Rattle.std.specs.Prelude.{◌||◌}
use Rattle.std.specs.FinMap.Entries.{find, is_sorted, same_entries}
use Rattle.std.specs.List.{AllByRecursion}
use Rattle.std.specs.Option.{option_and_then, option_map, option_or}
use Rattle.std.specs.Ordering.{eq_by_cmp, is_eq, nat_cmp}
use Rattle.std.proofs.lemmas.Cmp.{nat_cmp_total, tied_itself}
use Rattle.std.proofs.lemmas.List.Elements.{All-from_recursion}
use Rattle.std.proofs.lemmas.Map.Lookups.{exact_unsigned}
use Rattle.sorted_rows.specs.EditLaws.{find-edited, is_sorted-edited}
use Rattle.sorted_rows.specs.Edits as rows
use Rattle.sorted_rows.specs.RowsLaws.{all-from_find, ties}
use Rattle.lsr_facts.specs.OrderLaws.{key_exact}
use Rattle.lsr_facts.specs.Orders.{key_cmp}
use Rattle.lsr_facts.specs.Tunnels.{current_key}
use Rattle.lsr_facts.specs.declared.key.Key.{Key}
use Rattle.lsr_facts.specs.declared.router.Router.{Router}
use Rattle.lsr_facts.specs.declared.tunnel.Tunnel.{Tunnel}
use Rattle.forwarding_table.specs.Actions.{WritesLabels}
use Rattle.forwarding_table.specs.declared.action.Action.{Action}
use Rattle.lsr_facts.specs.declared.repair.BypassTunnel.{BypassTunnel}
use Rattle.lsr_facts.specs.declared.repair.Repair.{Repair}
use Rattle.lsr_facts.specs.declared.resv_fact.ResvFact.{ResvFact}
use Rattle.abstract_router.specs.BypassTunnels.{bypass_tunnels_of}
use Rattle.abstract_router.specs.Soundness.{IsResv}
use Rattle.abstract_router.specs.States.{State}
use Rattle.abstract_router.specs.Tables.{look_tunnel, push_by, push_of, push_through, tunnel_table_of}
use Rattle.state_views.specs.EditLaws.{neither, row_edited, tunnel_edited}
use Rattle.state_views.specs.Edits.{edited}
use Rattle.state_views.specs.declared.edits.Edits.{Edits}
use Rattle.label_table.proofs.Acting.{push_writes}
use Rattle.label_table.proofs.Asking.{each_asked, is_asked}
use Rattle.label_table.proofs.Changing.{changes_something, no_change, over_change}
use Rattle.label_table.proofs.Setting.{each_sorted}
use Rattle.label_table.specs.Bypassed.{AreBypassed, KeepsBypass}
use Rattle.label_table.specs.TunnelLaws.{is_sorted-tunnel_table, look_tunnel-at, look_tunnel-row}
use Rattle.label_table.specs.TunnelRows.{AreTunnelEdits, push_at}
use Rattle.label_table.specs.Turns.{Edit, change, push_change, push_change_of, put_each}

-- the tunnel that an LSP's key names
abbrev tunnel_of : Key → ℕ
tunnel_of key = key.session.tunnel

-- the number of a tunnel
abbrev itself : ℕ → ℕ
itself number = number

-- LSPs of other tunnels aren't this one
apart_keys : (key other : Key) → eq_by_cmp nat_cmp key.session.tunnel other.session.tunnel ≡ false → eq_by_cmp key_cmp key other ≡ false
apart_keys key other apart = by (eq_by_cmp key_cmp key other) refl
  where
    by : (b : Bool) → eq_by_cmp key_cmp key other ≡ b → b ≡ false
    by true tie =
        let same = key_exact key other (ties _ tie) in
        let itself = ap is_eq (tied_itself nat_cmp_total key.session.tunnel) in
        absurd (let e = sym itself ∙ ap (λ (k : Key). eq_by_cmp nat_cmp key.session.tunnel k.session.tunnel) same ∙ apart in cc)
    by false is = refl

-- where none of these is one of the tunnel, no LSP of it is found among them
none_of_tunnel : {X : Type 0} (becomes : ℕ → Option (Option Action)) (key : Key) (resvs : List (Key × X)) → is_asked tunnel_of becomes key.session.tunnel resvs ≡ false → find key_cmp key resvs ≡ None
none_of_tunnel becomes key [] none = refl
none_of_tunnel becomes key (resv ∷ resvs) none =
    let apart = neither (eq_by_cmp nat_cmp key.session.tunnel resv.0.session.tunnel) (is_asked tunnel_of becomes key.session.tunnel resvs) none in
    ap (λ b. cond b (Some resv.1) (find key_cmp key resvs)) (apart_keys key resv.0 apart.0) ∙ none_of_tunnel becomes key resvs apart.1

-- where no edit is one of the number, none is found
none_of_number : {X : Type 0} (becomes : ℕ → Option (Option Action)) (number : ℕ) (tunnels : List (ℕ × X)) → is_asked itself becomes number tunnels ≡ false → find nat_cmp number tunnels ≡ None
none_of_number becomes number [] none = refl
none_of_number becomes number (tunnel ∷ tunnels) none =
    let apart = neither (eq_by_cmp nat_cmp number tunnel.0) (is_asked itself becomes number tunnels) none in
    ap (λ b. cond b (Some tunnel.1) (find nat_cmp number tunnels)) apart.0 ∙ none_of_number becomes number tunnels apart.1

-- the action of a tunnel whose current LSP is reserved so, or repaired
abbrev pushed : List (ℕ × BypassTunnel) → Option ResvFact → Option Repair → Option Action
pushed bypass_tunnels resv repair = option_or (option_map push_by resv) (option_and_then (push_through bypass_tunnels) repair)

-- where bypasses take no frames of an LSP another way, its tunnel's action is the same whichever way bypasses go
kept_push : (r : Router) (before after : State) (key : Key) (resv : Option ResvFact) → KeepsBypass r before after key → pushed (bypass_tunnels_of r before) resv (find key_cmp key before.repairs) ≡ pushed (bypass_tunnels_of r after) resv (find key_cmp key before.repairs)
kept_push r before after key resv keeps = elim keeps [
  | inl none ↦ (λ i. pushed (bypass_tunnels_of r before) resv (none i)) ∙ sym (λ i. pushed (bypass_tunnels_of r after) resv (none i))
  | inr alike ↦ λ i. pushed (alike i) resv (find key_cmp key before.repairs)
]

-- what is asked of some is asked of more
once_more : (more before : Bool) (o : Option (Option Action)) → option_or (cond more o None) (cond before o None) ≡ cond (more || before) o None
once_more true true None = refl
once_more true false None = refl
once_more true before (Some x) = refl
once_more false before o = refl

module _ (r : Router) (s : State) (e : Edits) (sorted : T (is_sorted nat_cmp s.facts.tunnels)) (keys bypassed : List (Key × Unit {0})) (are : AreBypassed r s (edited e s) keys bypassed) where
  abbrev after : State
  after = edited e s

  -- what becomes of a tunnel
  abbrev becomes : ℕ → Option (Option Action)
  becomes number = change (push_at r s number) (push_at r after number)

  -- the edits, as the code makes them: of tunnels, of reservations, of repairs, and of LSPs whose bypasses may change
  abbrev of_tunnels : List Edit
  of_tunnels = put_each (push_change r s after) e.tunnels []

  abbrev of_resvs : List Edit
  of_resvs = put_each (push_change_of r s after) e.resvs of_tunnels

  abbrev of_repairs : List Edit
  of_repairs = put_each (push_change_of r s after) e.repairs of_resvs

  abbrev all : List Edit
  all = put_each (push_change_of r s after) bypassed of_repairs

  -- one of them is of this tunnel
  abbrev asks_resv : ℕ → Bool
  asks_resv number = is_asked tunnel_of becomes number e.resvs

  abbrev asks_repair : ℕ → Bool
  asks_repair number = is_asked tunnel_of becomes number e.repairs

  abbrev asks_bypass : ℕ → Bool
  asks_bypass number = is_asked tunnel_of becomes number bypassed

  abbrev asks_tunnel : ℕ → Bool
  asks_tunnel number = is_asked itself becomes number e.tunnels

  -- reservation and repair of a tunnel's current LSP have no edit, and bypasses are no reason for another action
  same_held : (number : ℕ) → asks_bypass number ≡ false → asks_repair number ≡ false → asks_resv number ≡ false → (tunnel : Tunnel) → push_of r s (number, tunnel) ≡ push_of r after (number, tunnel)
  same_held number no_bypass no_repair no_resv tunnel =
      let key = current_key r (number, tunnel) in
      let resv = row_edited key e.resvs s.resvs ∙ ap (λ o. rows.over o (find key_cmp key s.resvs)) (none_of_tunnel becomes key e.resvs no_resv) in
      let repair = row_edited key e.repairs s.repairs ∙ ap (λ o. rows.over o (find key_cmp key s.repairs)) (none_of_tunnel becomes key e.repairs no_repair) in
      kept_push r s after key (find key_cmp key s.resvs) (are.others key (ap is_some (none_of_tunnel becomes key bypassed no_bypass)))
      ∙ (λ i. pushed (bypass_tunnels_of r after) (sym resv i) (sym repair i))

  -- So a tunnel of which none is keeps its action.
  same_push : (number : ℕ) → asks_bypass number ≡ false → asks_repair number ≡ false → asks_resv number ≡ false → asks_tunnel number ≡ false → push_at r s number ≡ push_at r after number
  same_push number no_bypass no_repair no_resv no_tunnel =
      by (find nat_cmp number s.facts.tunnels)
      ∙ ap (option_and_then (λ tunnel. push_of r after (number, tunnel))) (sym (
      tunnel_edited number e.tunnels s.facts.tunnels ∙ ap (λ o. rows.over o (find nat_cmp number s.facts.tunnels)) (none_of_number becomes number e.tunnels no_tunnel)))
    where
      by : (o : Option Tunnel) → option_and_then (λ tunnel. push_of r s (number, tunnel)) o ≡ option_and_then (λ tunnel. push_of r after (number, tunnel)) o
      by None = refl
      by (Some tunnel) = same_held number no_bypass no_repair no_resv tunnel

  -- one of all is of this tunnel
  abbrev asks : ℕ → Bool
  asks number = asks_bypass number || (asks_repair number || (asks_resv number || (asks_tunnel number || false)))

  -- Each tunnel has what becomes of it.
  asked : (number : ℕ) → find nat_cmp number all ≡ cond (asks number) (becomes number) None
  asked number =
      each_asked tunnel_of becomes number bypassed of_repairs
      ∙ ap (option_or (cond (asks_bypass number) (becomes number) None)) (
      each_asked tunnel_of becomes number e.repairs of_resvs
      ∙ ap (option_or (cond (asks_repair number) (becomes number) None)) (
      each_asked tunnel_of becomes number e.resvs of_tunnels
      ∙ ap (option_or (cond (asks_resv number) (becomes number) None)) (
      each_asked itself becomes number e.tunnels []
      ∙ once_more (asks_tunnel number) false (becomes number))
      ∙ once_more (asks_resv number) (asks_tunnel number || false) (becomes number))
      ∙ once_more (asks_repair number) (asks_resv number || (asks_tunnel number || false)) (becomes number))
      ∙ once_more (asks_bypass number) (asks_repair number || (asks_resv number || (asks_tunnel number || false))) (becomes number)

  found : (number : ℕ) → find nat_cmp number all ≡ becomes number
  found number = asked number ∙ by (asks number) refl
    where
      by : (b : Bool) → asks number ≡ b → cond b (becomes number) None ≡ becomes number
      by true is = refl
      by false is =
          let bypass = neither (asks_bypass number) _ is in
          let repair = neither (asks_repair number) _ bypass.1 in
          let resv = neither (asks_resv number) _ repair.1 in
          let tunnel = neither (asks_tunnel number) _ resv.1 in
          sym (no_change (push_at r s number) (push_at r after number) (same_push number bypass.0 repair.0 resv.0 tunnel.0))

  sorted_after : T (is_sorted nat_cmp after.facts.tunnels)
  sorted_after = is_sorted-edited nat_cmp nat_cmp_total e.tunnels s.facts.tunnels sorted

  -- what is looked up is what the current LSP has
  looked : (t : State) → T (is_sorted nat_cmp t.facts.tunnels) → (number : ℕ) → find nat_cmp number (tunnel_table_of r t) ≡ push_at r t number
  looked t in_order number = sym (look_tunnel-row r t number) ∙ look_tunnel-at r t in_order number

  -- The edits make the one table of the other.
  table_made : rows.edited nat_cmp all (tunnel_table_of r s) ≡ tunnel_table_of r after
  table_made =
      same_entries nat_cmp nat_cmp_total exact_unsigned (rows.edited nat_cmp all (tunnel_table_of r s)) (tunnel_table_of r after)
      (is_sorted-edited nat_cmp nat_cmp_total all (tunnel_table_of r s) (is_sorted-tunnel_table r s sorted)) (is_sorted-tunnel_table r after sorted_after) (λ number.
      find-edited nat_cmp nat_cmp_total number all (tunnel_table_of r s)
      ∙ (λ i. rows.over (found number i) (looked s sorted number i))
      ∙ over_change (push_at r s number) (push_at r after number)
      ∙ sym (looked after sorted_after number))

  -- an edit changes the action of its tunnel, and says the one that is to be
  changing : (number : ℕ) (edit : Option Action) → find nat_cmp number all ≡ Some edit → (push_at r s number ≢ push_at r after number) × (edit ≡ push_at r after number)
  changing number edit at = changes_something (push_at r s number) (push_at r after number) edit (sym (found number) ∙ at)

  all_sorted : T (is_sorted nat_cmp all)
  all_sorted =
      each_sorted (push_change_of r s after) bypassed of_repairs
      (each_sorted (push_change_of r s after) e.repairs of_resvs
      (each_sorted (push_change_of r s after) e.resvs of_tunnels
      (each_sorted (push_change r s after) e.tunnels [] tt)))

  all_change : AllByRecursion (λ (edit : Edit). look_tunnel r s edit.0 ≢ look_tunnel r after edit.0) all
  all_change =
      all-from_find nat_cmp nat_cmp_total (λ (edit : Edit). look_tunnel r s edit.0 ≢ look_tunnel r after edit.0) all all_sorted (λ number edit at same.
      (changing number edit at).0 (sym (look_tunnel-at r s sorted number) ∙ same ∙ look_tunnel-at r after sorted_after number))

  -- where no tunnel's action changes there is none
  none_changes : (edits : List Edit) → AllByRecursion (λ (edit : Edit). look_tunnel r s edit.0 ≢ look_tunnel r after edit.0) edits → ((number : ℕ) → look_tunnel r s number ≡ look_tunnel r after number) → edits ≡ []
  none_changes [] change same = refl
  none_changes (edit ∷ edits) change same = absurd (change.0 (same edit.0))

  module _ (resvs : AllByRecursion (IsResv after.facts.moment) after.resvs) (repairs : AllByRecursion (λ (repair : Key × Repair). IsResv after.facts.moment (repair.0, repair.1.resv)) after.repairs) where
    -- what the action of a tunnel writes for labels are labels
    writes : (number : ℕ) → IfSome (push_at r after number) WritesLabels
    writes number = by (find nat_cmp number after.facts.tunnels)
      where
        by : (o : Option Tunnel) → IfSome (option_and_then (λ tunnel. push_of r after (number, tunnel)) o) WritesLabels
        by None = tt
        by (Some tunnel) = push_writes r after resvs repairs (current_key r (number, tunnel))

    -- So they are edits of the table.
    pub pushes_edit : AreTunnelEdits r s after all
    pushes_edit = record {
      table = table_made;
      labels = All-from_recursion (λ (edit : Edit). IfSome edit.1 WritesLabels) all
          (all-from_find nat_cmp nat_cmp_total (λ (edit : Edit). IfSome edit.1 WritesLabels) all all_sorted (λ number edit at.
          subst (λ o. IfSome o WritesLabels) (sym (changing number edit at).1) (writes number)));
      changes = All-from_recursion (λ (edit : Edit). look_tunnel r s edit.0 ≢ look_tunnel r after edit.0) all all_change;
      none = none_changes all all_change;
    }

    -- They are where they were made of the rows of edits.
    pub made_edit : (tunnels : List (ℕ × Option Tunnel)) (by_resvs : List (Key × Option ResvFact)) (by_repairs : List (Key × Option Repair)) (lsps : List (Key × Unit {0})) → tunnels ≡ e.tunnels → by_resvs ≡ e.resvs → by_repairs ≡ e.repairs → lsps ≡ bypassed
        → (none first second third edits : List Edit) → none ≡ [] → first ≡ put_each (push_change r s after) tunnels none → second ≡ put_each (push_change_of r s after) by_resvs first → third ≡ put_each (push_change_of r s after) by_repairs second → edits ≡ put_each (push_change_of r s after) lsps third → AreTunnelEdits r s after edits
    made_edit tunnels by_resvs by_repairs lsps are_tunnels are_resvs are_repairs are_lsps none first second third edits is_none is_first is_second is_third is_edits =
        let one = is_first ∙ (λ i. put_each (push_change r s after) (are_tunnels i) (is_none i)) in
        let two = is_second ∙ (λ i. put_each (push_change_of r s after) (are_resvs i) (one i)) in
        let three = is_third ∙ (λ i. put_each (push_change_of r s after) (are_repairs i) (two i)) in
        subst (AreTunnelEdits r s after) (sym (is_edits ∙ (λ i. put_each (push_change_of r s after) (are_lsps i) (three i)))) pushes_edit
