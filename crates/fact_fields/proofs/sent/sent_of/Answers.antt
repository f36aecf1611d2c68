-- Where the rows aren't Paths and then Resvs nothing was sent of them.
use Rattle.std.proofs.Common.{Err, List, ℕ, subst}
use Rattle.std.proofs.lemmas.Result.{err_from_is_err_and}
use Rattle.fact_fields.specs.Sent.{IsSplit}
use Rattle.fact_fields.specs.declared.sent.Refreshed.{Refreshed}
use Rattle.fact_fields.proofs.Splitting.{unsplit}
use Rattle.fact_fields.proofs.sent.sent_of.Goals as goal

pub returns-in_err-paths : goal.returns-in_err-paths
returns-in_err-paths c =
    let p = err_from_is_err_and c.from_residual.result c.from_residual.ensures.1 in
    let fault = c.in_err-paths.field-0.0 in
    let none = subst (λ (rows : List (Refreshed × ℕ)). IsSplit rows (Err fault)) c.as_slice.ensures c.in_err-paths.ensures in
    rw (p.1, p.2) (unsplit c.args.rows fault none)
