-- The rows so far have their wires, and local addresses.
use Rattle.std.proofs.Common.{◌≡◌, All, map, take}
use Rattle.lsr_serve.specs.Local.{AreLinkLocal}
use Rattle.lsr_serve.proofs.udp_wire.open_wires.Given as goal

abbrev pub invariant-loop-row : goal.invariant-loop-row
invariant-loop-row g l = record {
  numbers : map (λ wire. wire.number) l.wires.items ≡ map (λ row. row.0) (take l.row-index l.rows);
  local : All (λ row. AreLinkLocal l.like row.1) (take l.row-index l.rows);
}
