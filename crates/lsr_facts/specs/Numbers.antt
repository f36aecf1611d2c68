-- The numbers by which LSPs and messages are looked for.
use Rattle.std.specs.Prelude.{ℕ, ◌+◌, ◌*◌}
use Rattle.std.specs.Net.Addr.{ipv4_bits}
use Rattle.lsr_facts.specs.declared.key.Key.{Key}
use Rattle.lsr_facts.specs.declared.key.Item.{Item}
use Rattle.lsr_facts.specs.declared.key.Item.TheVariants.{Down, Backup}
use Rattle.lsr_facts.specs.declared.upstream.Upstream.{Upstream}

-- the number of an LSP: those of tunnels that follow one another do
abbrev pub key_number : Key → ℕ
key_number key =
    key.session.tunnel + key.sender.lsp * 521 + ipv4_bits key.sender.sender * 1543 + ipv4_bits key.session.extended * 3079 + ipv4_bits key.session.endpoint * 6151

-- that of a Path that is kept alive
abbrev pub item_number : Item → ℕ
item_number (Down key link) = key_number key
item_number (Backup key bypass) = key_number key + 1031

-- that of a Resv that is kept alive
abbrev pub upstream_number : Upstream → ℕ
upstream_number u = key_number u.key + ipv4_bits u.sender * 1543 + u.link * 2053 + ipv4_bits u.hop * 769
