-- An operator that fed nothing, and one that fed an event.
use Rattle.std.proofs.Common.{◌+◌, ◌≡◌, ℕ, arith, refl}
use Rattle.lsr_config.specs.Configs.{Setup}
use Rattle.run_journal.specs.declared.mark.Mark.{Mark}
use Rattle.interface_workers.specs.Chains.{AddsUp, AreHandedOut, HasRoom, StaysWorkOf, WorkGoesOn}
use Rattle.interface_workers.specs.declared.worker.Work.{Work}
use Rattle.lsr_rounds.specs.Attending.{IsAttended}

-- nothing was fed
pub rests : (c : Setup) (work : Work) (mark : Mark) (taken : ℕ) → HasRoom work → IsAttended c work mark taken work mark taken
rests c work mark taken room = record {
  goes_on = record { chain = λ first chain. chain; receipts = omega arith; segments = omega arith; receipts_room = refl; segments_room = refl };
  handed_out = refl;
  adds_up = room.adds_up;
  datagrams = omega arith;
  own = λ own. own;
}

-- an event was fed
pub fed_one : (c : Setup) (before : Work) (mark : Mark) (taken : ℕ) (after : Work) (new_mark : Mark) (now_taken : ℕ) → WorkGoesOn before mark after new_mark → AreHandedOut taken before.segments.items now_taken after.segments.items
    → AddsUp after → after.tally.datagrams ≡ before.tally.datagrams + 1 → StaysWorkOf c before after → IsAttended c before mark taken after new_mark now_taken
fed_one c before mark taken after new_mark now_taken goes handed adds more own = record { goes_on = goes; handed_out = handed; adds_up = adds; datagrams = omega arith; own = own }
