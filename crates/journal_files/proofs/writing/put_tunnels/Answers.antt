-- The tunnels rise, and can be counted.
use Rattle.std.proofs.Common.{◌<◌, ◌^◌, ℕ, List, OnOk, length, map, arith, subst}
use Rattle.field_bytes.specs.Spelling.{ListFits}
use Rattle.lsr_facts.specs.declared.tunnel.Tunnel.{Tunnel}
use Rattle.journal_files.specs.Fitting.{TunnelRowFits}
use Rattle.journal_files.specs.Pending.{untold_row}
use Rattle.journal_files.proofs.Mapped.{list_fits}
use Rattle.journal_files.proofs.Untold.{tunnels_fit}
use Rattle.journal_files.proofs.writing.put_tunnels.Goals as goal

pub returns-clause-fits : goal.returns-clause-fits
returns-clause-fits c =
    let rows = c.as_slice-rows.result.now in
    let few : length rows < 2 ^ 32 = omega arith in
    tunnels_fit c.put_tunnel_rows.result c.args.tunnels.now c.as_slice-rows.ensures.sorted
    (subst (λ (v : List (ℕ × Tunnel)). OnOk c.put_tunnel_rows.result (ListFits TunnelRowFits (map untold_row v))) c.as_slice-rows.ensures.rows (list_fits untold_row TunnelRowFits c.put_tunnel_rows.result rows few c.put_tunnel_rows.ensures.fits))
