-- The words of the law on refused descriptors.
use Rattle.std.specs.Prelude.{ℕ, List}
use Rattle.rsvp_contents.specs.declared.descriptors.FlowDescriptor.{FlowDescriptor}
use Rattle.rsvp_contents.specs.declared.messages.Resv.{Resv}
use Rattle.lsr_facts.specs.declared.resv_fact.ResvStyle.{ResvStyle}
use Rattle.lsr_facts.specs.declared.router.Router.{Router}
use Rattle.abstract_router.specs.Reserving.{Verdict, all_descriptors, key_in, resv_by, verdict_of}
use Rattle.abstract_router.specs.States.{State}

-- What becomes of a descriptor of a Resv over a link, by what those in front of it have led to.
abbrev pub verdict_after : Router → State → ℕ → ResvStyle → Resv → List FlowDescriptor → FlowDescriptor → Verdict
verdict_after r s link style v front d =
    let now = (all_descriptors r s link style (record v { descriptors = front })).state in
    verdict_of r now (key_in v d) (resv_by now.facts.moment link style v d)
