-- What a round leaves.
use Rattle.std.specs.Prelude.{◌≡◌, ◌+◌, ◌≤◌, length, vec_capacity}
use Rattle.lsr_config.specs.Configs.{Setup}
use Rattle.lsr_serve.specs.Below.workers.Chains.{AddsUp, IsWorkOf, StaysWorkOf}
use Rattle.lsr_serve.specs.Below.workers.declared.worker.Work.{Work}
use Rattle.lsr_rounds.specs.declared.round.SeatWork.{SeatWork}

-- Work has grown by at most one event, in the same room; its tally adds up, and it is still of the router of this configuration.
pub record IsGrown (c : Setup) (before after : Work) : Type 0 where
  pub receipts : length after.receipts.items ≤ length before.receipts.items + 1
  pub segments : length after.segments.items ≤ length before.segments.items + 1
  pub receipts_room : vec_capacity after.receipts ≡ vec_capacity before.receipts
  pub segments_room : vec_capacity after.segments ≡ vec_capacity before.segments
  pub adds_up : AddsUp after
  pub datagrams : after.tally.datagrams ≤ before.tally.datagrams + 1
  pub own : StaysWorkOf c before after

-- What was done by the clock's port and by the operator's is of the router of this configuration.
abbrev pub AreSeatsOf : Setup → SeatWork → Type 0
AreSeatsOf c work = IsWorkOf c work.clock × IsWorkOf c work.operator
