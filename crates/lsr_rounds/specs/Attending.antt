-- What an operator does by a port of a router.
use Rattle.std.specs.Prelude.{◌+◌, ◌≤◌, ℕ}
use Rattle.lsr_config.specs.Configs.{Setup}
use Rattle.lsr_serve.specs.Below.workers.Chains.{AddsUp, AreHandedOut, StaysWorkOf, WorkGoesOn}
use Rattle.lsr_serve.specs.Below.workers.Below.journal.declared.mark.Mark.{Mark}
use Rattle.lsr_serve.specs.Below.workers.declared.worker.Work.{Work}

-- Work by a port with this mark, to which so many segments were handed out, went on by at most one event: one receipt and one segment more
-- at most, all of the router of this configuration, and one datagram more at most in a tally that adds up.
pub record IsAttended (c : Setup) (before : Work) (mark : Mark) (taken : ℕ) (after : Work) (new_mark : Mark) (now_taken : ℕ) : Type 0 where
  pub goes_on : WorkGoesOn before mark after new_mark
  pub handed_out : AreHandedOut taken before.segments.items now_taken after.segments.items
  pub adds_up : AddsUp after
  pub datagrams : after.tally.datagrams ≤ before.tally.datagrams + 1
  pub own : StaysWorkOf c before after
