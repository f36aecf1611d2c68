-- What is shown are the router's own tables.
use Rattle.lsr_session.proofs.shown.show_config.Goals as goal

pub returns : goal.returns
returns c = rw (← c.router.ensures, ← c.in_ok-state.ensures, ← c.as_slice.ensures.rows, ← c.as_slice-2.ensures.rows, ← c.as_slice-3.ensures.rows, ← c.in_ok-bytes.ensures) c.text_of.ensures
