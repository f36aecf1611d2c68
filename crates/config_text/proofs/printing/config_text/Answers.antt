-- The tables are the configuration's.
use Rattle.config_text.proofs.printing.config_text.Goals as goal

pub returns : goal.returns
returns c = rw (← c.config.view_is, ← c.as_slice.ensures.rows, ← c.as_slice-2.ensures.rows, ← c.as_slice-3.ensures.rows) c.setup_text.ensures
