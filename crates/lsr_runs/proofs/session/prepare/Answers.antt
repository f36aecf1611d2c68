-- What was read before the session begins.
use Rattle.std.proofs.Common.{string_bytes}
use Rattle.std.specs.Option.{option_map}
use Rattle.std.proofs.lemmas.Result.{err_from_is_err_and}
use Rattle.lsr_runs.specs.Sessions.{said_by}
use Rattle.lsr_runs.proofs.Sessions.{cannot_begin}
use Rattle.lsr_runs.proofs.session.prepare.Goals as goal

pub returns-in_err-config_text-clause-fault : goal.returns-in_err-config_text-clause-fault
returns-in_err-config_text-clause-fault g c =
    let p = err_from_is_err_and c.from_residual.result c.from_residual.ensures.1 in
    rw (p.1, p.2) c.in_err-config_text.ensures.fault

pub returns-in_err-session-clause-fault : goal.returns-in_err-session-clause-fault
returns-in_err-session-clause-fault g c =
    let stream = option_map g.C.ByteStream.stream c.args.config in
    let input = g.R.ByteStream.stream c.args.input.now in
    let p = err_from_is_err_and c.from_residual-in_err-session.result c.from_residual-in_err-session.ensures.1 in
    rw (p.1, p.2) (cannot_begin stream input _ _ _ c.in_ok-config_text.ensures.texts.0 c.in_ok-config_text.ensures.texts.1 c.in_err-session.ensures.fault)

pub returns-clause-ready : goal.returns-clause-ready
returns-clause-ready g c =
    record {
      configured = said_by (option_map string_bytes c.in_ok-config_text.config_text);
      config = c.in_ok-session.ensures.begun.0;
      config_read = c.in_ok-config_text.ensures.texts.0;
      input_read = c.in_ok-config_text.ensures.texts.1;
      says = c.in_ok-session.ensures.begun.1;
      begins = c.in_ok-session.ensures.begun.2;
    }
