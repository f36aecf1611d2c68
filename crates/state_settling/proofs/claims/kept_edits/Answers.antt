use Rattle.std.proofs.Common.{List, Option, T, subst, sym}
use Rattle.std.specs.FinMap.Entries.{is_sorted}
use Rattle.sorted_rows.specs.Edits.{edited}
use Rattle.lsr_facts.specs.Orders.{key_cmp}
use Rattle.lsr_facts.specs.declared.key.Key.{Key}
use Rattle.lsr_facts.specs.declared.resv_fact.ResvFact.{ResvFact}
use Rattle.admission.specs.Bandwidths.{Edit}
use Rattle.state_settling.proofs.Editing.{is_sorted-kept}
use Rattle.state_settling.proofs.claims.kept_edits.Goals as goal

pub from_rows-requires : goal.from_rows-requires
from_rows-requires g c =
    subst (λ (rows : List (Key × Edit)). T (is_sorted key_cmp rows)) (sym c.in_ok-kept_rows.ensures)
    (is_sorted-kept (edited key_cmp c.args.paths.now (g.V.StateView.state c.args.view.now).facts.paths) c.into_rows.result.items (subst (λ (rows : List (Key × Option ResvFact)). T (is_sorted key_cmp rows)) (sym c.into_rows.ensures.rows) c.into_rows.ensures.sorted))
