-- What a file says of a tunnel is spelled as the tunnel is.
use Rattle.std.proofs.Common.{◌≡◌, ◌++◌, ℕ, T, List, map, Result, Ok, Err, OnOk, sym, ap, subst, ◌∙◌, append_assoc}
use Rattle.std.specs.FinMap.Entries.{is_sorted}
use Rattle.std.specs.Ordering.{nat_cmp}
use Rattle.byteorder.specs.Endian.{big_bytes}
use Rattle.sorted_rows.specs.RowsLaws.{is_sorted-both}
use Rattle.abstract_paths.specs.RowLaws.{keys-map}
use Rattle.lsr_facts.specs.declared.tunnel.Tunnel.{Tunnel}
use Rattle.event_fields.specs.Fitting.{IsShort}
use Rattle.field_bytes.specs.Spelling.{ListFits}
use Rattle.fact_fields.specs.Fitting.{TunnelPartsFit}
use Rattle.fact_fields.specs.IdLaws.{untold_bytes, untold_fits}
use Rattle.fact_fields.specs.Tunnels.{tunnel_bytes, tunnel_parts, untold}
use Rattle.journal_files.specs.Fitting.{TunnelRowFits, TunnelsFit}
use Rattle.journal_files.specs.Pending.{untold_row}
use Rattle.journal_files.specs.Rows.{tunnel_row_bytes}

row_bytes : (row : ℕ × Tunnel) → tunnel_row_bytes (untold_row row) ≡ tunnel_row_bytes row
row_bytes row = ap (λ (v : List ℕ). big_bytes 2 row.0 ++ v) (untold_bytes row.1)

pub row_written : {X E : Type 0} (result : Result X E) (old numbered new : List ℕ) (row : ℕ × Tunnel) → numbered ≡ old ++ big_bytes 2 row.0 → OnOk result (new ≡ numbered ++ tunnel_bytes row.1) →
    OnOk result (new ≡ old ++ tunnel_row_bytes (untold_row row))
row_written (Ok x) old numbered new row first second =
    second ∙ (ap (λ (v : List ℕ). v ++ tunnel_bytes row.1) first ∙ (append_assoc old (big_bytes 2 row.0) (tunnel_bytes row.1) ∙ ap (λ (v : List ℕ). old ++ v) (sym (row_bytes row))))
row_written (Err e) old numbered new row first _ = tt

-- and has a spelling where its parts have
pub row_fits : {X E : Type 0} (result : Result X E) (row : ℕ × Tunnel) → IsShort row.0 → OnOk result (TunnelPartsFit (tunnel_parts row.1)) → OnOk result (TunnelRowFits (untold_row row))
row_fits (Ok x) row number fit = (number, untold_fits TunnelPartsFit row.1 fit)
row_fits (Err e) row number _ = tt

-- the numbers stay
pub untold_rising : (rows : List (ℕ × Tunnel)) → T (is_sorted nat_cmp rows) → T (is_sorted nat_cmp (map untold_row rows))
untold_rising rows sorted = subst T (sym (is_sorted-both nat_cmp (map untold_row rows) rows (keys-map (λ (row : ℕ × Tunnel). untold row.1) rows))) sorted

pub tunnels_fit : {X E : Type 0} (result : Result X E) (rows : List (ℕ × Tunnel)) → T (is_sorted nat_cmp rows) → OnOk result (ListFits TunnelRowFits (map untold_row rows)) → OnOk result (TunnelsFit (map untold_row rows))
tunnels_fit (Ok x) rows sorted fits = (untold_rising rows sorted, fits)
tunnels_fit (Err e) rows sorted _ = tt
