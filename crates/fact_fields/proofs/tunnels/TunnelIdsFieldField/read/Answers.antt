-- Where its parts aren't read, no IDs are spelled.
use Rattle.std.proofs.Common.{refl}
use Rattle.std.proofs.lemmas.Result.{err_from_is_err_and}
use Rattle.field_bytes.specs.Making.{parts_unread}
use Rattle.field_bytes.specs.OptionLaws.{OptionFits, option_bytes}
use Rattle.field_bytes.specs.PairLaws.{PairFits, pair_bytes}
use Rattle.event_fields.specs.Fitting.{IsShort}
use Rattle.event_fields.specs.Laws.{short_bytes}
use Rattle.fact_fields.specs.Fitting.{IsAny, NotedFits}
use Rattle.fact_fields.specs.Tunnels.{noted_bytes}
use Rattle.fact_fields.specs.Tunnels.{ids_bytes, ids_parts}
use Rattle.fact_fields.proofs.tunnels.TunnelIdsFieldField.read.Goals as goal

pub returns-in_err-parts : goal.returns-in_err-parts
returns-in_err-parts c =
    let p = err_from_is_err_and c.from_residual.result c.from_residual.ensures.1 in
    rw (p.1, p.2) (parts_unread IsAny ids_parts ids_bytes (PairFits IsShort (PairFits IsShort (PairFits IsShort (OptionFits NotedFits)))) (pair_bytes short_bytes (pair_bytes short_bytes (pair_bytes short_bytes (option_bytes noted_bytes)))) (λ x. refl) c.args.bytes.now _ c.in_err-parts.ensures)
