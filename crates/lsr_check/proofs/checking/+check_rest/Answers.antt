-- The first file is a run, and the others are checked after it; or there is none.
use Rattle.std.proofs.Common.{[], ℕ, Ok}
use Rattle.std.proofs.KnownBytes.{Appends-nil}
use Rattle.lsr_check.proofs.Checks.{first_name, none_left, one_more}
use Rattle.lsr_check.proofs.checking.+check_rest.Goals as goal

pub returns-in_default : goal.returns-in_default
returns-in_default g t c =
    ([], [], none_left _ _ c.args.before c.args.names.now c.in_default.len_below, Appends-nil _, Appends-nil _)

pub returns-in-Ok : goal.returns-in-Ok
returns-in-Ok g t c =
    one_more {E = ℕ} (g.N.RunsByName.spells c.args.runs.now) (g.N.RunsByName.fails c.args.runs.now) c.args.before _ c.args.names.now _ _ c.in-Ok.checked.count c.in-Ok.checked.end _ _ _ _ _
    (Ok c.in_ok-status-in-Ok.status) (first_name c.args.names.now _ c.in-len1-up.len_at_least) c.as_ref.ensures.value c.in-Ok.ensures.run c.in_ok-put_run-in-Ok.ensures c.in_ok-status-in-Ok.ensures
