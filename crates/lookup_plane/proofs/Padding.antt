-- What writes make of slots of which only the first are there.
use Rattle.std.proofs.Common.{◌≡◌, ℕ, ◌+◌, ◌-◌, ◌<◌, ◌≤◌, cond, List, [], ◌∷◌, ◌++◌, Option, None, length, set, get_or, replicate, suc, refl, ap, sym, ◌∙◌, arith}
use Rattle.std.proofs.lemmas.Bool.{le-leb}
use Rattle.std.proofs.lemmas.List.{append_assoc, get_or-append_right, length-append, length-replicate, length-set, replicate-append-replicate, set-append_left, set-get_or, set_at}
use Rattle.forwarding_table.specs.declared.action.Action.{Action}
use Rattle.lookup_plane.specs.Slots.{padded, with_slot}
use Rattle.lookup_plane.proofs.Writes.{get_or-nothing}

-- the writing of a slot, where slots begin with number 0
with_slot_0 : (number : ℕ) (action : Option Action) (slots : List (Option Action)) → with_slot 0 (number, action) slots ≡ set slots number action
with_slot_0 number action slots =
    ap (λ t. cond t (set slots (number - 0) action) slots) (le-leb 0 number (omega arith))
    ∙ ap (λ place. set slots place action) (let same : number - 0 ≡ number = omega arith in same)

-- where none is there, all are empty
pub padded-nothing : (count : ℕ) → padded count [] ≡ replicate count None
padded-nothing count = ap (λ n. replicate n None) (let same : count - 0 ≡ count = omega arith in same)

-- empty slots after those that are there change nothing
padded-more : (count more : ℕ) (slots : List (Option Action)) → length slots + more ≤ count → padded count (slots ++ replicate more None) ≡ padded count slots
padded-more count more slots within =
    let rest = count - length (slots ++ replicate {A = Option Action} more None) in
    append_assoc slots (replicate more None) (replicate rest None)
    ∙ ap (λ empty. slots ++ empty) (replicate-append-replicate more rest None)
    ∙ ap (λ n. slots ++ replicate n None)
    (let same : more + rest ≡ count - length slots = omega (arith, within, length-append slots (replicate {A = Option Action} more None), length-replicate {A = Option Action} more None) in same)

module _ (count number : ℕ) (slots : List (Option Action)) where
  -- a write to a slot that is there
  pub padded-set : (action : Option Action) → number < length slots → padded count (set slots number action) ≡ with_slot 0 (number, action) (padded count slots)
  padded-set action there =
      ap (λ n. set slots number action ++ replicate (count - n) None) (length-set slots number action)
      ∙ sym (with_slot_0 number action (padded count slots) ∙ set-append_left slots (replicate (count - length slots) None) number action there)

  -- nothing changes where a slot that isn't there is emptied
  pub padded-kept : length slots ≤ number → padded count slots ≡ with_slot 0 (number, None) (padded count slots)
  padded-kept beyond =
      let empty = replicate {A = Option Action} (count - length slots) None in
      let nothing : get_or (padded count slots) number None ≡ None =
      get_or-append_right slots empty (length slots) number None refl beyond ∙ get_or-nothing (count - length slots) (number - length slots) in
      sym (with_slot_0 number None (padded count slots) ∙ ap (set (padded count slots) number) (sym nothing) ∙ set-get_or (padded count slots) number None)

  -- a write to the slot after those that are there and empty ones up to it
  pub padded-grown : (action : Option Action) → length slots ≤ number → number < count
      → padded count ((slots ++ replicate (number - length slots) None) ++ action ∷ []) ≡ with_slot 0 (number, action) (padded count slots)
  padded-grown action beyond within =
      let before = slots ++ replicate {A = Option Action} (number - length slots) None in
      let long : length before ≡ number = omega (arith, beyond, length-append slots (replicate {A = Option Action} (number - length slots) None), length-replicate {A = Option Action} (number - length slots) None) in
      let one_more : length (before ++ action ∷ []) ≡ suc number = omega (arith, long, length-append before (action ∷ [])) in
      let behind = count - suc number in
      let after : padded count (before ++ action ∷ []) ≡ before ++ action ∷ replicate behind None =
      ap (λ n. (before ++ action ∷ []) ++ replicate (count - n) None) one_more ∙ append_assoc before (action ∷ []) (replicate behind None) in
      let was : padded count slots ≡ before ++ None ∷ replicate behind None =
      sym (padded-more count (number - length slots) slots (omega arith))
      ∙ ap (λ n. before ++ replicate (count - n) None) long
      ∙ ap (λ n. before ++ replicate n None) (let same : count - number ≡ suc behind = omega arith in same) in
      after ∙ sym (with_slot_0 number action (padded count slots) ∙ ap (λ all. set all number action) was ∙ set_at before None (replicate behind None) action number long)
