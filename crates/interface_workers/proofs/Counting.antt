-- What a turn counts.
use Rattle.std.proofs.Common.{◌≡◌, ◌-◌, ◌≤◌, ℕ, List, [], ap, arith, ◌∙◌}
use Rattle.worker_tallies.specs.Tallies.{counted, with_lost}
use Rattle.interface_workers.specs.Wires.{Sending, WireHistory, after, lost_in}
use Rattle.worker_tallies.specs.declared.handled.Handled.{Handled}
use Rattle.worker_tallies.specs.declared.handled.Tally.{Tally}

-- as many frames are lost as the count of failures rose
pub lost_is : (failures later : ℕ) (h now : WireHistory) (sendings : List Sending) → failures ≡ h.failed → later ≡ now.failed → now ≡ after h [] sendings → later - failures ≡ lost_in sendings
lost_is failures later h now sendings was is history = omega (arith, was, is, ap (λ (x : WireHistory). x.failed) history)

-- the count of failures doesn't fall
pub failures_rise : (failures later : ℕ) (h now : WireHistory) (sendings : List Sending) → failures ≡ h.failed → later ≡ now.failed → now ≡ after h [] sendings → failures ≤ later
failures_rise failures later h now sendings was is history = omega (arith, was, is, ap (λ (x : WireHistory). x.failed) history)

-- what was taken is counted, and the frames that are lost
pub tally_is : (before same losing now : Tally) (handled : Handled) (lost others : ℕ) → same ≡ before → losing ≡ with_lost same lost → now ≡ counted losing handled → lost ≡ others → now ≡ counted (with_lost before others) handled
tally_is before same losing now handled lost others kept lose count is =
    count ∙ ap (λ (t : Tally). counted t handled) (lose ∙ ap (λ (t : Tally). with_lost t lost) kept ∙ ap (λ (n : ℕ). with_lost before n) is)
