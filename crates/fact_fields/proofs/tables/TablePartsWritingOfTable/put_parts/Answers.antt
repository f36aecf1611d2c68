-- A table's rows rise.
use Rattle.std.proofs.Common.{List, OnOk, subst}
use Rattle.std.proofs.lemmas.Result.{on_ok_weaker}
use Rattle.field_bytes.specs.Spelling.{ListFits}
use Rattle.fact_fields.proofs.tables.TablePartsWritingOfTable.put_parts.Goals as goal

pub returns-clause-fits : goal.returns-clause-fits
returns-clause-fits g c =
    let P : List (g.row.K.Denot × g.row.V.Denot) → Type 0 = λ rows. OnOk c.put_list.result (ListFits g.F.Field.Fits rows) in
    on_ok_weaker c.put_list.result (λ fits. (c.as_slice.ensures.sorted, fits)) (subst P c.as_slice.ensures.rows c.put_list.ensures.fits)
