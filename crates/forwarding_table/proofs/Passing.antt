-- What is passed on is a stack.
use Rattle.std.proofs.Common.{◌≡◌, ◌≤◌, ℕ, List, ◌++◌, length, drop, append-nil, sym, ◌∙◌}
use Rattle.std.specs.List.{All, flat_map}
use Rattle.std.proofs.lemmas.List.{at_drop_all}
use Rattle.std.proofs.lemmas.List.Elements.{recursion_from_All}
use Rattle.label_stacks.specs.declared.entry.StackEntry.{StackEntry}
use Rattle.label_stacks.specs.Entries.{IsEntry}
use Rattle.label_stacks.specs.Stacks.{IsStack}
use Rattle.forwarding_table.specs.Forwarding.{written_for}
use Rattle.forwarding_table.specs.ForwardingLaws.{relabelled-fits}
use Rattle.forwarding_table.specs.Labels.{IsLabel}

-- when all labels are written
pub flat_map-written : (last : StackEntry) (labels : List ℕ) (entries : List StackEntry) (i : ℕ) → length labels ≤ i → entries ++ flat_map (written_for last) (drop i labels) ≡ flat_map (written_for last) labels → entries ≡ flat_map (written_for last) labels
flat_map-written last labels entries i past so_far =
    sym (append-nil entries) ∙ sym (at_drop_all (λ xs. entries ++ flat_map (written_for last) xs) labels i past) ∙ so_far

-- and the entries below stand below
pub passed_on-fits : (last : StackEntry) (labels : List ℕ) (entries below out : List StackEntry) → entries ≡ flat_map (written_for last) labels → out ≡ entries ++ below → length out ≤ 8 → All IsLabel labels → IsEntry last → All IsEntry below → IsStack out
passed_on-fits last labels entries below out written is few are fits rest = record {
  few = few;
  entries = rw (is, written) (relabelled-fits labels last below (recursion_from_All IsLabel labels are) fits rest);
}
