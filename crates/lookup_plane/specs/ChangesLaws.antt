-- What one more change makes of a label table.
use Rattle.std.specs.Prelude.{◌≡◌, ℕ, Bool, true, false, cond, All, IfSome, List, [], ◌∷◌, ◌++◌, length, Option, Some, None}
use Rattle.std.specs.Cmp.{unsigned_tied}
use Rattle.std.specs.FinMap.Entries.{find}
use Rattle.std.specs.Ordering.{nat_cmp}
use Rattle.std.proofs.Common.{refl, ap, subst, sym, ◌∙◌, arith}
use Rattle.std.proofs.lemmas.Bool.{ne_eqb}
use Rattle.std.proofs.lemmas.List.{append-nil, append_assoc, length-append, nil_from_length}
use Rattle.std.proofs.lemmas.List.Elements.{All-head, All-tail, recursion_from_All}
use Rattle.std.proofs.lemmas.List.Sums.{fold-append}
use Rattle.forwarding_table.specs.Actions.{WritesLabels}
use Rattle.forwarding_table.specs.declared.action.Action.{Action}
use Rattle.sorted_rows.specs.Edits.{over}
use Rattle.sorted_rows.specs.RowsLaws.{find-all}
use Rattle.lookup_plane.specs.Changes.{StartsWith, after_rows, look, look_tunnel}
use Rattle.lookup_plane.specs.declared.change.TableChange.{TableChange}

-- at first nothing is done with a label
pub look_none : (label : ℕ) → look [] label ≡ None
unfolding look
look_none label = refl

-- nor with a tunnel's traffic
pub look_tunnel_none : (number : ℕ) → look_tunnel [] number ≡ None
unfolding look_tunnel
look_tunnel_none number = refl

-- what is done with a label after one more change
pub look_added : (changes : List TableChange) (change : TableChange) (label : ℕ) → look (changes ++ change ∷ []) label ≡ after_rows change.cleared change.labels label (look changes label)
unfolding look
look_added changes change label = fold-append (λ was c. after_rows c.cleared c.labels label was) None changes (change ∷ [])

-- and with a tunnel's traffic
pub look_tunnel_added : (changes : List TableChange) (change : TableChange) (number : ℕ) → look_tunnel (changes ++ change ∷ []) number ≡ after_rows change.cleared change.tunnels number (look_tunnel changes number)
unfolding look_tunnel
look_tunnel_added changes change number = fold-append (λ was c. after_rows c.cleared c.tunnels number was) None changes (change ∷ [])

-- a number that no row has isn't found
pub find-none : (P : ℕ → Type 0) (number : ℕ) (rows : List (ℕ × Option Action)) → All (λ row. P row.0) rows → (P number → ⊥) → find nat_cmp number rows ≡ None
find-none P number [] all other = refl
find-none P number (row ∷ rows) all other =
    ap (λ t. cond t (Some row.1) (find nat_cmp number rows)) (unsigned_tied number row.0 ∙ ne_eqb number row.0 (λ same. other (subst P (sym same) (All-head (λ r. P r.0) row rows all))))
    ∙ find-none P number rows (All-tail (λ r. P r.0) row rows all) other

over_writes : (now : Option (Option Action)) (was : Option Action) → IfSome now (λ action. IfSome action WritesLabels) → IfSome was WritesLabels → IfSome (over now was) WritesLabels
over_writes None was written before = before
over_writes (Some now) was written before = written

cleared_writes : (cleared : Bool) (was : Option Action) → IfSome was WritesLabels → IfSome (cond cleared None was) WritesLabels
cleared_writes true was before = tt
cleared_writes false was before = before

-- where actions write labels, those after a change do
pub after_rows-writes : (cleared : Bool) (rows : List (ℕ × Option Action)) (number : ℕ) (was : Option Action) → All (λ row. IfSome row.1 WritesLabels) rows → IfSome was WritesLabels → IfSome (after_rows cleared rows number was) WritesLabels
after_rows-writes cleared rows number was written before =
    over_writes (find nat_cmp number rows) (cond cleared None was)
    (find-all nat_cmp (λ action. IfSome action WritesLabels) number rows (recursion_from_All (λ row. IfSome row.1 WritesLabels) rows written))
    (cleared_writes cleared was before)

-- changes begin with themselves
pub starts_same : (changes : List TableChange) → StartsWith changes changes
starts_same changes = ([], sym (append-nil changes))

-- and so do more of them
pub starts_more : (changes later seen : List TableChange) → StartsWith changes seen → StartsWith (changes ++ later) seen
starts_more changes later seen starts = (starts.0 ++ later, ap (λ all. all ++ later) starts.1 ∙ append_assoc seen starts.0 later)

-- a beginning that is as long is all of them
pub starts_whole : (changes seen : List TableChange) → StartsWith changes seen → length seen ≡ length changes → changes ≡ seen
starts_whole changes seen starts long =
    let none : length starts.0 ≡ 0 = omega (arith, long, ap length starts.1, length-append seen starts.0) in
    starts.1 ∙ ap (λ later. seen ++ later) (nil_from_length starts.0 none) ∙ append-nil seen
