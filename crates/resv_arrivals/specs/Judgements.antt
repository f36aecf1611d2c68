-- What becomes of a flow descriptor where there is room for what it asks for.
use Rattle.std.specs.Prelude.{◌≡◌, Ok}
use Rattle.rsvp_bodies.specs.Traffic.{flowspec_rate}
use Rattle.lsr_facts.specs.declared.resv_fact.ResvFact.{ResvFact}
use Rattle.abstract_router.specs.Reserving as reserving
use Rattle.resv_arrivals.specs.declared.verdicts.Judgement.{Judgement}
use Rattle.resv_arrivals.specs.declared.verdicts.Judgement.TheVariants as judgements

-- The judgement on what asks for this reservation is this verdict; what is granted has the rate.
abbrev pub IsJudgement : ResvFact → Judgement → reserving.Verdict → Type 0
IsJudgement fact (judgements.Failed e) verdict = verdict ≡ reserving.Failed e
IsJudgement fact judgements.PassedOver verdict = verdict ≡ reserving.PassedOver
IsJudgement fact (judgements.Granted rate) verdict = (verdict ≡ reserving.Granted) × (flowspec_rate fact.flowspec ≡ Ok rate)
