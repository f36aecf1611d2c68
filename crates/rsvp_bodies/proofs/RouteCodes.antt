-- Steps and entries are spelled so that a reader knows where each ends and which it is.
use Rattle.rsvp_bodies.proofs.Sequences.{IsCode, code_by_parts}
use Rattle.rsvp_bodies.specs.Steps.{SpellsStep}
use Rattle.rsvp_bodies.specs.StepLaws as step
use Rattle.rsvp_bodies.specs.Traces.{SpellsTrace}
use Rattle.rsvp_bodies.specs.TraceLaws as trace
use Rattle.rsvp_bodies.proofs.Codes.{subobjects_cut}

pub step_code : IsCode SpellsStep
step_code = code_by_parts subobjects_cut step.is_subobject_lem step.one_value_lem

pub trace_code : IsCode SpellsTrace
trace_code = code_by_parts subobjects_cut trace.is_subobject_lem trace.one_value_lem
