-- Receipts and segments are those of one run of the router of a configuration.
use Rattle.std.specs.Prelude.{◌≡◌, ◌⊎◌, ◌≤◌, ℕ, All, List, [], ◌∷◌, ◌++◌}
use Rattle.abstract_router.specs.Steps.{opening}
use Rattle.lsr_config.specs.Configs.{Setup}
use Rattle.run_journal.specs.Journals.{Stretch}
use Rattle.run_journal.specs.Marks.{first_counts}
use Rattle.run_journal.specs.declared.receipt.Receipt.{Receipt}
use Rattle.run_reconciler.specs.Mismatches.{IsMismatch}
use Rattle.run_reconciler.specs.Reconciled.{AreOneRun, IsReconciled}
use Rattle.run_reconciler.specs.declared.reconciling.Mismatch.{Mismatch}

-- The first stretch begins with the router of this very configuration as it is opened, before any of so many ports had an entry.
abbrev pub BeginsWith : Setup → ℕ → List Stretch → Type 0
BeginsWith config ports [] = ⊥
BeginsWith config ports (piece ∷ more) =
    (piece.router ≡ config.router) × (piece.base ≡ opening config.router config.routes config.tunnels config.bypasses)
    × (piece.from ≡ first_counts ports)

-- ports have the numbers from 1 on
abbrev pub IsPort : ℕ → ℕ → Type 0
IsPort ports port = (1 ≤ port) × (port ≤ ports)

-- each receipt is of one of so many ports
abbrev pub AreOfPorts : ℕ → List Receipt → Type 0
AreOfPorts ports receipts = All (λ receipt. IsPort ports receipt.mark.port) receipts

-- The port is that of the first receipt that is of none of so many ports.
pub record IsStrayPort (ports : ℕ) (receipts : List Receipt) (port : ℕ) : Type 0 where
  pub before : List Receipt
  pub receipt : Receipt
  pub after : List Receipt
  pub all : receipts ≡ before ++ receipt ∷ after
  pub own : AreOfPorts ports before
  pub none : IsPort ports receipt.mark.port → ⊥
  pub port_is : port ≡ receipt.mark.port

-- A receipt is of a port that there isn't: the port is that of the first one, the place is 1, and the segment is 0.
abbrev pub IsStray : ℕ → List Receipt → Mismatch → Type 0
IsStray ports receipts m = (m.segment ≡ 0) × (m.place ≡ 1) × IsStrayPort ports receipts m.port

-- Segments and receipts are those of one run of the router of a configuration, which so many ports fed: it begins as the router is
-- opened, its steps are those of the abstract router, and each port was told of its entries, each once and in their order.
pub record ServesRun (config : Setup) (ports : ℕ) (pieces : List Stretch) (receipts : List Receipt) : Type 0 where
  pub begins : BeginsWith config ports pieces
  pub run : AreOneRun pieces
  pub reconciled : IsReconciled pieces receipts
  pub own : AreOfPorts ports receipts

-- The first segment doesn't begin with the router of the configuration as it is opened: the port and the place are 0, and the segment
-- is that one.
abbrev pub IsOtherRouter : Setup → ℕ → List Stretch → Mismatch → Type 0
IsOtherRouter config ports pieces m = (m.port ≡ 0) × (m.place ≡ 0) × (m.segment ≡ 1) × (BeginsWith config ports pieces → ⊥)

-- They are one run, but not that of the configuration, or not of its ports.
abbrev pub IsStrange : Setup → ℕ → List Stretch → List Receipt → Mismatch → Type 0
IsStrange config ports pieces receipts m = IsOtherRouter config ports pieces m ⊎ IsStray ports receipts m

-- They aren't one run of the router of the configuration, for this reason.
abbrev pub IsNoRun : Setup → ℕ → List Stretch → List Receipt → Mismatch → Type 0
IsNoRun config ports pieces receipts m = IsMismatch pieces receipts m ⊎ IsStrange config ports pieces receipts m
