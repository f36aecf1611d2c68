-- What some flow descriptors have led to of a Resv that came back from the end of a bypass, as it is kept.
use Rattle.std.specs.Prelude.{◌≡◌, ℕ, Bool, List, map}
use Rattle.sorted_rows.specs.Edits.{edited}
use Rattle.lsr_facts.specs.Orders.{key_cmp}
use Rattle.lsr_facts.specs.declared.key.Key.{Key}
use Rattle.lsr_facts.specs.declared.repair.Repair.{Repair}
use Rattle.abstract_router.specs.Reserving as reserving
use Rattle.abstract_router.specs.States.{State}
use Rattle.repair_arrivals.specs.declared.progress.RepairProgress.{RepairProgress}

-- what is repaired now
abbrev pub repairs_at : State → RepairProgress → List (Key × Repair)
repairs_at s p = edited key_cmp p.edits s.repairs

-- what the flow descriptors have led to
abbrev pub reached : State → RepairProgress → reserving.Progress
reached s p = record { state = record s { repairs = repairs_at s p }; errors = p.errors; first = p.first; has_granted = p.has_granted }

-- what a Resv leaves of a repair: its LSP, its bypass, and the link that is protected
abbrev pub bare : Key × Repair → Key × (ℕ × (Bool × ℕ))
bare repair = (repair.0, (repair.1.bypass, (repair.1.is_nnhop, repair.1.resv.link)))

-- that much is left of all
abbrev pub IsReached : State → RepairProgress → Type 0
IsReached s p = map bare (repairs_at s p) ≡ map bare s.repairs
