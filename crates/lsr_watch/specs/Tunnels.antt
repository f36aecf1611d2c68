-- What is told of the tunnels that begin here.
use Rattle.std.specs.Prelude.{ℕ, Bool, true, false, ◌==◌, List, [], ◌++◌, codes, flat_map, is_some, Option, Some, None, if◌then◌else◌}
use Rattle.std.specs.FinMap.Entries.{find}
use Rattle.std.specs.Fmt.{decimal}
use Rattle.std.specs.Net.Addr.{ipv4_octets}
use Rattle.std.specs.Net.Text.{ipv4_text}
use Rattle.std.specs.Ordering.{nat_cmp}
use Rattle.std.specs.Result.{result_ok}
use Rattle.std.specs.declared.net.ipv4_addr.Ipv4Addr.{Ipv4Addr}
use Rattle.rsvp_bodies.specs.Traffic.{tspec_rate}
use Rattle.lsr_facts.specs.Tunnels.{current_key}
use Rattle.lsr_facts.specs.declared.router.Router.{Router}
use Rattle.lsr_facts.specs.declared.state.State.{State}
use Rattle.lsr_facts.specs.declared.tunnel.Tunnel.{Tunnel}
use Rattle.lsr_text.specs.Routes.{name_text}
use Rattle.lsr_watch.specs.Errors.{error_line}
use Rattle.lsr_watch.specs.Lsps.{is_up, rate_words}

-- the LSP that carries the tunnel's traffic is up
abbrev pub carries : Router → State → ℕ × Tunnel → Bool
carries r s tunnel = is_up s (current_key r tunnel)

-- ` to ENDPOINT rate `
unfoldable pub end_words : Ipv4Addr → List ℕ
end_words endpoint = codes " to " ++ (ipv4_text (ipv4_octets endpoint) ++ codes " rate ")

-- ` to ENDPOINT rate R (B bit/s)`
unfoldable pub asked_words : Tunnel → List ℕ
asked_words tunnel = end_words tunnel.endpoint ++ (rate_words (result_ok (tspec_rate tunnel.current.tspec)) ++ codes "\n")

-- `"NAME" to ENDPOINT rate R (B bit/s)`
unfoldable pub called_words : Tunnel → List ℕ
called_words tunnel = name_text tunnel.attr.name ++ asked_words tunnel

-- ` configured: "NAME" to ENDPOINT rate R (B bit/s)`
unfoldable pub configured_words : Tunnel → List ℕ
configured_words tunnel = codes " configured: " ++ called_words tunnel

-- `tunnel N configured: "NAME" to ENDPOINT rate R (B bit/s)`
unfoldable pub configured_line : ℕ × Tunnel → List ℕ
configured_line tunnel = codes "tunnel " ++ (decimal tunnel.0 ++ configured_words tunnel.1)

-- `tunnel N dropped`, of a tunnel that isn't there any more
abbrev pub dropped_line : State → ℕ × Tunnel → List ℕ
dropped_line after tunnel =
    if is_some (find nat_cmp tunnel.0 after.facts.tunnels) then [] else codes "tunnel " ++ (decimal tunnel.0 ++ codes " dropped\n")

-- `tunnel N switched from lsp A to lsp B`, where another LSP carries its traffic
abbrev pub switched_line : ℕ → ℕ → ℕ → List ℕ
switched_line number was is =
    if was == is then []
    else codes "tunnel " ++ (decimal number ++ (codes " switched from lsp " ++ (decimal was ++ (codes " to lsp " ++ (decimal is ++ codes "\n")))))

-- `tunnel N up on lsp A` or `tunnel N down`, where it was the other
abbrev pub standing_line : ℕ → ℕ → Bool → Bool → List ℕ
standing_line number lsp false false = []
standing_line number lsp false true = codes "tunnel " ++ (decimal number ++ (codes " up on lsp " ++ (decimal lsp ++ codes "\n")))
standing_line number lsp true false = codes "tunnel " ++ (decimal number ++ codes " down\n")
standing_line number lsp true true = []

-- of a tunnel that was there
unfoldable pub kept_lines : Router → State → State → ℕ → Tunnel → Tunnel → List ℕ
kept_lines r before after number was is =
    switched_line number was.current.id is.current.id
    ++ (standing_line number is.current.id (carries r before (number, was)) (carries r after (number, is)) ++ error_line number was.noted is.noted)

-- of a tunnel that wasn't
unfoldable pub new_lines : Router → State → ℕ × Tunnel → List ℕ
new_lines r after tunnel =
    configured_line tunnel
    ++ (standing_line tunnel.0 tunnel.1.current.id false (carries r after tunnel) ++ error_line tunnel.0 None tunnel.1.noted)

-- of a tunnel, and of what it was
abbrev pub lines_since : Router → State → State → ℕ × Tunnel → Option Tunnel → List ℕ
lines_since r before after tunnel None = new_lines r after tunnel
lines_since r before after tunnel (Some was) = kept_lines r before after tunnel.0 was tunnel.1

abbrev pub tunnel_lines : Router → State → State → ℕ × Tunnel → List ℕ
tunnel_lines r before after tunnel = lines_since r before after tunnel (find nat_cmp tunnel.0 before.facts.tunnels)

-- the tunnels that went, and all that there are
unfoldable pub tunnels_lines : Router → State → State → List ℕ
tunnels_lines r before after = flat_map (dropped_line after) before.facts.tunnels ++ flat_map (tunnel_lines r before after) after.facts.tunnels
