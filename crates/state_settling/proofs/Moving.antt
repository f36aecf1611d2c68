-- One more of the LSPs whose paths are edited.
use Rattle.std.specs.Prelude.{◌≡◌, ◌==◌, ◌+◌, ◌<◌, ℕ, Bool, true, false, cond, List, Option, Some, None, is_some, length, take}
use Rattle.std.specs.FinMap.Entries.{find, put}
use Rattle.std.specs.Option.{option_and_then, option_map, option_map_or, option_or}
use Rattle.std.specs.Ordering.{eq_by_cmp}
use Rattle.std.proofs.Common.{get_or, refl, sym, ap, subst, ◌∙◌}
use Rattle.sorted_rows.specs.RowsLaws.{find-put_other, find-put_same, ties}
use Rattle.lsr_facts.specs.OrderLaws.{key_exact, key_total}
use Rattle.lsr_facts.specs.Orders.{key_cmp}
use Rattle.lsr_facts.specs.declared.key.Key.{Key}
use Rattle.lsr_facts.specs.declared.path_fact.PathFact.{PathFact}
use Rattle.lsr_facts.specs.declared.resv_fact.ResvFact.{ResvFact}
use Rattle.admission.specs.Bandwidths.{Edit}
use Rattle.state_settling.specs.Keeping.{edit_at, holding_at, moved, with_edit}
use Rattle.make_before_break.specs.SwitchingLaws.{or_none}
use Rattle.make_before_break.proofs.Places.{find-one_more}

-- What an LSP has is not moved where its path has it kept at the same priority.
pub unmoved : (before after : List (Key × PathFact)) (resvs : List (Key × ResvFact)) (key : Key) → (holding_at after key == holding_at before key) ≡ true → moved before after resvs key ≡ None
unmoved before after resvs key same = by (find key_cmp key resvs)
  where
    kept : ResvFact → Edit
    kept fact = Some (fact, holding_at after key)

    by : (o : Option ResvFact) → option_and_then (λ (fact : ResvFact). cond (holding_at after key == holding_at before key) None (kept fact)) o ≡ None
    by None = refl
    by (Some fact) = ap (λ (b : Bool). cond b None (kept fact)) same

-- the same, or itself
or_same : {A : Type 0} (o : Option A) → option_or o o ≡ o
or_same None = refl
or_same (Some x) = refl

-- what is found of the LSP that has an edit more,
find-with_same : (key : Key) (now : Edit) (edits : List (Key × Edit)) → find key_cmp key (with_edit key now edits) ≡ option_or (find key_cmp key edits) (option_map Some now)
find-with_same key now edits = by (find key_cmp key edits) now refl
  where
    by : (o : Option Edit) (given : Edit) → find key_cmp key edits ≡ o → find key_cmp key (cond (is_some o) edits (option_map_or (λ g. put key_cmp key (Some g) edits) given edits)) ≡ option_or o (option_map Some given)
    by (Some x) given is = is
    by None None is = is
    by None (Some g) is = find-put_same key_cmp key_total key (Some g) edits

-- and of every other
find-with_other : (q key : Key) (now : Edit) (edits : List (Key × Edit)) → eq_by_cmp key_cmp q key ≡ false → find key_cmp q (with_edit key now edits) ≡ find key_cmp q edits
find-with_other q key now edits apart = by (is_some (find key_cmp key edits)) now
  where
    by : (b : Bool) (given : Edit) → find key_cmp q (cond b edits (option_map_or (λ g. put key_cmp key (Some g) edits) given edits)) ≡ find key_cmp q edits
    by true given = refl
    by false None = refl
    by false (Some g) = find-put_other key_cmp key_total q key (Some g) edits apart

-- an edit of an LSP whose path is edited too
edit_too : {E : Type 0} (kept : Option Edit) (path : Option E) (more : E) (now : Edit) → option_or (edit_at kept path now) (option_map Some now) ≡ edit_at kept (option_or path (Some more)) now
edit_too (Some x) path more now = refl
edit_too None (Some p) more now = or_same (option_map Some now)
edit_too None None more now = refl

-- before any is asked there is what was there
pub none_yet : {E : Type 0} (paths : List (Key × E)) (kept : List (Key × Edit)) (elsewhere : Key → Edit) → (q : Key) → find key_cmp q kept ≡ edit_at (find key_cmp q kept) (find key_cmp q (take 0 paths)) (elsewhere q)
none_yet paths kept elsewhere q = sym (or_none (find key_cmp q kept))

module _ {E : Type 0} (paths : List (Key × E)) (i : ℕ) (path : Key × E) (within : i < length paths) (is : path ≡ get_or paths i path) where
  -- One more is asked for its edit.
  pub one_more : (kept edits all : List (Key × Edit)) (elsewhere : Key → Edit) → all ≡ with_edit path.0 (elsewhere path.0) edits → ((q : Key) → find key_cmp q edits ≡ edit_at (find key_cmp q kept) (find key_cmp q (take i paths)) (elsewhere q)) → (q : Key) → find key_cmp q all ≡ edit_at (find key_cmp q kept) (find key_cmp q (take (i + 1) paths)) (elsewhere q)
  one_more kept edits all elsewhere with known q =
      ap (find key_cmp q) with
      ∙ elim (eq_by_cmp key_cmp q path.0) as (λ b. eq_by_cmp key_cmp q path.0 ≡ b → find key_cmp q (with_edit path.0 (elsewhere path.0) edits) ≡ edit_at (find key_cmp q kept) (option_or (find key_cmp q (take i paths)) (cond b (Some path.1) None)) (elsewhere q)) [
        | true ↦ λ t.
            subst (λ (k : Key). find key_cmp k (with_edit path.0 (elsewhere path.0) edits) ≡ edit_at (find key_cmp k kept) (option_or (find key_cmp k (take i paths)) (Some path.1)) (elsewhere k)) (sym (key_exact q path.0 (ties _ t)))
            (find-with_same path.0 (elsewhere path.0) edits
            ∙ ap (λ o. option_or o (option_map Some (elsewhere path.0))) (known path.0)
            ∙ edit_too (find key_cmp path.0 kept) (find key_cmp path.0 (take i paths)) path.1 (elsewhere path.0))
        | false ↦ λ t.
            find-with_other q path.0 (elsewhere path.0) edits t ∙ known q ∙ ap (λ o. edit_at (find key_cmp q kept) o (elsewhere q)) (sym (or_none (find key_cmp q (take i paths))))
      ] refl
      ∙ ap (λ o. edit_at (find key_cmp q kept) o (elsewhere q)) (sym (find-one_more key_cmp paths i path within is q))
