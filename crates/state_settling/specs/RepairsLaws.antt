-- By these edits exactly what a lost link takes away is repaired.
use Rattle.std.specs.Prelude.{◌≡◌, ◌&&◌, not, Bool, true, false, if◌then◌else◌, T, List, [], ◌∷◌, map, Option, Some, None, IfSome}
use Rattle.std.specs.FinMap.Entries.{find, is_sorted, same_entries}
use Rattle.std.specs.List.{AllByRecursion}
use Rattle.std.specs.Option.{option_and_then, option_or, unwrap_or}
use Rattle.std.proofs.Common.{refl, sym, ap, arith, subst, ◌∙◌}
use Rattle.sorted_rows.specs.EditLaws.{edited-put, find-edited}
use Rattle.sorted_rows.specs.Edits as rows
use Rattle.sorted_rows.specs.ListLaws.{all-filter, all-weaker}
use Rattle.sorted_rows.specs.Rows.{keys_of}
use Rattle.sorted_rows.specs.RowsLaws.{find-all_row, is_sorted-both}
use Rattle.lsr_facts.specs.OrderLaws.{key_exact, key_total}
use Rattle.lsr_facts.specs.Orders.{is_one_of, key_cmp}
use Rattle.lsr_facts.specs.declared.key.Key.{Key}
use Rattle.lsr_facts.specs.declared.path_fact.PathFact.{PathFact}
use Rattle.lsr_facts.specs.declared.router.Router.{Router}
use Rattle.lsr_facts.specs.declared.repair.Repair.{Repair}
use Rattle.lsr_facts.specs.declared.resv_fact.ResvFact.{ResvFact}
use Rattle.abstract_paths.specs.MessageLaws.{LeavesRoom}
use Rattle.abstract_paths.specs.Places.{is_up}
use Rattle.abstract_paths.specs.Soundness.{ArePaths, IsPath}
use Rattle.abstract_paths.specs.Tears.{leaves_by}
use Rattle.abstract_paths.specs.TouchedLaws.{find-made, is_sorted-made}
use Rattle.abstract_router.specs.Repairing.{new_repairs, put_repair, repair_of, repair_on, repaired}
use Rattle.abstract_router.specs.States.{State}
use Rattle.abstract_router.specs.Steps.{given_up, stands, taken_over}
use Rattle.state_views.specs.Edits.{edited}
use Rattle.state_views.specs.Joining.{joined_rows}
use Rattle.state_views.specs.declared.edits.Edits.{Edits}
use Rattle.state_settling.specs.Repairs.{repair_at}
use Rattle.make_before_break.specs.SwitchingLaws.{or_none}

-- The repairs are those that are found under each key.
pub all_repairs : (r : Router) (s : State) (repairs : List (Key × Repair)) → T (is_sorted key_cmp s.resvs) → T (is_sorted key_cmp repairs) → ((q : Key) → find key_cmp q repairs ≡ repair_at r s q) → repairs ≡ new_repairs r s
unfolding new_repairs
all_repairs r s repairs g h found =
    same_entries key_cmp key_total key_exact repairs (new_repairs r s) h (is_sorted-made key_cmp key_total key_exact (repair_of r s) s.resvs g)
    (λ q. found q ∙ sym (find-made key_cmp key_total key_exact (repair_of r s) q s.resvs g))

module _ (r : Router) (s : State) (e : Edits) where
  -- the repair of an LSP, by its reservation
  abbrev of : Key → Option ResvFact → Option Repair
  of q resv = option_and_then (λ resv. repair_of r (edited e s) (q, resv)) resv

  -- what is asked of all that were reserved before, and of the edits, is asked of all
  asked_all : (q : Key) (edit : Option (Option ResvFact)) (was : Option ResvFact) (ask : Option Repair) → ask ≡ of q (rows.over edit was)
      → option_or (option_and_then (λ resv. ask) was) (option_or (option_and_then (λ row. ask) edit) None) ≡ ask
  asked_all q None None ask is = sym is
  asked_all q None (Some resv) ask is = or_none ask
  asked_all q (Some now) None ask is = or_none ask
  asked_all q (Some now) (Some resv) ask is = or_same ask
    where
      or_same : (o : Option Repair) → option_or o (option_or o None) ≡ o
      or_same None = refl
      or_same (Some x) = refl

  -- the repair of an LSP, by its edit and what was reserved before
  asked : (q : Key) → repair_at r (edited e s) q ≡ of q (rows.over (find key_cmp q e.resvs) (find key_cmp q s.resvs))
  asked q = ap (of q) (find-edited key_cmp key_total q e.resvs s.resvs)

  -- Where all that were reserved before are asked, and the edits, all are found.
  pub repairs_of_all : (repairs known : List (Key × Repair))
      → ((q : Key) → find key_cmp q known ≡ option_or (option_and_then (λ row. repair_at r (edited e s) q) (find key_cmp q e.resvs)) None)
      → ((q : Key) → find key_cmp q repairs ≡ option_or (option_and_then (λ row. repair_at r (edited e s) q) (find key_cmp q s.resvs)) (find key_cmp q known))
      → (q : Key) → find key_cmp q repairs ≡ repair_at r (edited e s) q
  repairs_of_all repairs known before all q =
      all q ∙ ap (option_or (option_and_then (λ row. repair_at r (edited e s) q) (find key_cmp q s.resvs))) (before q)
      ∙ asked_all q (find key_cmp q e.resvs) (find key_cmp q s.resvs) (repair_at r (edited e s) q) (asked q)

  -- an LSP isn't repaired whose link is up
  stays : (q : Key) (resv : ResvFact) → is_up (edited e s).facts.up resv.link ≡ true → repair_of r (edited e s) (q, resv) ≡ None
  stays q resv up = on (find key_cmp q (edited e s).facts.paths)
    where
      unless : (leaves is : Bool) (choice : Option Repair) → is ≡ true → (if leaves && not is then choice else None) ≡ None
      unless false is choice so = refl
      unless true true choice so = refl
      unless true false choice so = absurd (let f = so in cc)

      on : (path : Option PathFact) → option_and_then (repair_on r (edited e s) q resv) path ≡ None
      on None = refl
      on (Some path) = unless (leaves_by resv.link path) (is_up (edited e s).facts.up resv.link) _ up

  -- Where no link changed and all stood, it is enough to ask the edits.
  pub repairs_of_edits : (repairs : List (Key × Repair)) → AllByRecursion (λ resv. stands s.facts resv ≡ true) s.resvs → e.up ≡ None
      → ((q : Key) → find key_cmp q repairs ≡ option_or (option_and_then (λ row. repair_at r (edited e s) q) (find key_cmp q e.resvs)) None)
      → (q : Key) → find key_cmp q repairs ≡ repair_at r (edited e s) q
  repairs_of_edits repairs stood same all q =
      all q ∙ or_none (option_and_then (λ row. repair_at r (edited e s) q) (find key_cmp q e.resvs))
      ∙ by (find key_cmp q e.resvs) (find key_cmp q s.resvs) (repair_at r (edited e s) q) (find-all_row key_cmp key_exact (λ resv. stands s.facts resv ≡ true) q s.resvs stood) (asked q)
    where
      up_first : (a b : Bool) → (a && b) ≡ true → a ≡ true
      up_first true b so = refl
      up_first false b so = so

      is_up_still : (resv : ResvFact) → stands s.facts (q, resv) ≡ true → is_up (edited e s).facts.up resv.link ≡ true
      is_up_still resv so = ap (λ up. is_up (unwrap_or up s.facts.up) resv.link) same ∙ up_first (is_up s.facts.up resv.link) _ so

      by : (edit : Option (Option ResvFact)) (was : Option ResvFact) (ask : Option Repair) → IfSome was (λ resv. stands s.facts (q, resv) ≡ true) → ask ≡ of q (rows.over edit was) → option_and_then (λ row. ask) edit ≡ ask
      by (Some now) was ask stood is = refl
      by None None ask stood is = sym is
      by None (Some resv) ask stood is = sym (is ∙ stays q resv (is_up_still resv stood))

-- What puts repairs has their keys.
keys_put : (repairs : List (Key × Repair)) → keys_of (map put_repair repairs) ≡ keys_of repairs
keys_put [] = refl
keys_put (repair ∷ repairs) = ap (λ keys. repair.0 ∷ keys) (keys_put repairs)

-- So it stands in order where they do.
pub sorted_put : (repairs : List (Key × Repair)) → T (is_sorted key_cmp repairs) → T (is_sorted key_cmp (map put_repair repairs))
sorted_put repairs h = subst T (sym (is_sorted-both key_cmp (map put_repair repairs) repairs (keys_put repairs))) h

-- repairs that are put among edits are put after them
put_after : (es : List (Key × Option Repair)) (repairs before : List (Key × Repair)) → T (is_sorted key_cmp before)
    → rows.edited key_cmp (joined_rows key_cmp es (map put_repair repairs)) before ≡ rows.edited key_cmp (map put_repair repairs) (rows.edited key_cmp es before)
put_after es [] before h = refl
put_after es (repair ∷ repairs) before h =
    edited-put key_cmp key_total key_exact repair.0 (Some repair.1) (joined_rows key_cmp es (map put_repair repairs)) before h
    ∙ ap (rows.at_key key_cmp repair.0 (Some repair.1)) (put_after es repairs before h)

-- Edits by which LSPs have the new repairs lead where what a lost link takes away is repaired.
pub repaired_by : (r : Router) (s : State) (e : Edits) (repairs : List (Key × Repair)) → T (is_sorted key_cmp s.repairs) → repairs ≡ new_repairs r (edited e s)
    → edited (record e { repairs = joined_rows key_cmp e.repairs (map put_repair repairs) }) s ≡ repaired r (edited e s)
unfolding repaired
repaired_by r s e repairs h are =
    λ i. record (edited e s) { repairs = (put_after e.repairs repairs s.repairs h ∙ ap (λ new. rows.edited key_cmp (map put_repair new) (edited e s).repairs) are) i }

-- Each path that is left when tunnels have gone over to their new LSPs leaves room for an error that names it.
pub rooms-taken_over : (r : Router) (s : State) → ArePaths r s.facts.moment s.facts.paths → AllByRecursion (λ path. LeavesRoom (Some path.1.tspec)) (taken_over r s).facts.paths
unfolding taken_over
rooms-taken_over r s are =
    all-filter (λ (path : Key × PathFact). LeavesRoom (Some path.1.tspec)) (λ path. not (is_one_of (given_up r s) path.0)) s.facts.paths
    (all-weaker (IsPath r s.facts.moment) (λ path. LeavesRoom (Some path.1.tspec)) (λ path is. omega (arith, is.whole_tspec)) s.facts.paths are.each)
