-- Rows of tables.
use Rattle.std.specs.Prelude.{◌≡◌, ◌++◌, ◌∷◌, [], ℕ, Bool, List}
use Rattle.std.proofs.Common.{sym, ◌∙◌}
use Rattle.byteorder.specs.Endian.{big_bytes}
use Rattle.field_bytes.specs.Making.{IsToldApart}
use Rattle.field_bytes.specs.NumberLaws.{flag_byte}
use Rattle.rsvp_bodies.specs.declared.prefix.Prefix.{Prefix}
use Rattle.lsr_facts.specs.declared.assignment.Assignment.{Assignment}
use Rattle.lsr_facts.specs.declared.bypass.Bypass.{Bypass}
use Rattle.lsr_facts.specs.declared.key.Key.{Key}
use Rattle.lsr_facts.specs.declared.path_fact.PathFact.{PathFact}
use Rattle.lsr_facts.specs.declared.repair.Repair.{Repair}
use Rattle.lsr_facts.specs.declared.resv_fact.ResvFact.{ResvFact}
use Rattle.lsr_facts.specs.declared.tunnel.Tunnel.{Tunnel}
use Rattle.journal_bytes.specs.Events.{prefix_bytes}
use Rattle.fact_fields.specs.Keys.{key_bytes}
use Rattle.fact_fields.specs.Paths.{path_bytes}
use Rattle.fact_fields.specs.Resvs.{assignment_bytes, repair_bytes, resv_bytes}
use Rattle.fact_fields.specs.Tunnels.{tunnel_bytes}

-- ---- what a format doesn't have

-- the table is empty
abbrev pub IsEmpty : {K V : Type 0} → List (K × V) → Type 0
IsEmpty rows = rows ≡ []

abbrev pub absent_parts : {K V : Type 0} → List (K × V) → Unit {0}
absent_parts rows = tt

-- no bytes at all
abbrev pub absent_bytes : {K V : Type 0} → List (K × V) → List ℕ
absent_bytes rows = []

pub absent_told : {K V : Type 0} → IsToldApart (IsEmpty {K = K} {V = V}) absent_parts
absent_told x y p q _ = p ∙ sym q

-- ---- rows: a key, and what stands beside it

abbrev pub up_bytes : ℕ × Bool → List ℕ
up_bytes row = big_bytes 2 row.0 ++ (flag_byte row.1 ∷ [])

abbrev pub route_row_bytes : Prefix × ℕ → List ℕ
route_row_bytes row = prefix_bytes row.0 ++ big_bytes 2 row.1

abbrev pub tunnel_row_bytes : ℕ × Tunnel → List ℕ
tunnel_row_bytes row = big_bytes 2 row.0 ++ tunnel_bytes row.1

abbrev pub bypass_row_bytes : (Bypass → List ℕ) → ℕ × Bypass → List ℕ
bypass_row_bytes bypass_bytes row = big_bytes 2 row.0 ++ bypass_bytes row.1

abbrev pub path_row_bytes : Key × PathFact → List ℕ
path_row_bytes row = key_bytes row.0 ++ path_bytes row.1

abbrev pub resv_row_bytes : Key × ResvFact → List ℕ
resv_row_bytes row = key_bytes row.0 ++ resv_bytes row.1

abbrev pub repair_row_bytes : Key × Repair → List ℕ
repair_row_bytes row = key_bytes row.0 ++ repair_bytes row.1

-- the promise to an LSP
abbrev pub promise_row_bytes : Key × Assignment → List ℕ
promise_row_bytes row = key_bytes row.0 ++ assignment_bytes row.1

-- a label that rests, and until when
abbrev pub resting_row_bytes : ℕ × ℕ → List ℕ
resting_row_bytes row = big_bytes 4 row.0 ++ big_bytes 8 row.1
