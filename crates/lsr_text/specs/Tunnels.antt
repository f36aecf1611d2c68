-- What `show tunnels` prints.
use Rattle.std.specs.Prelude.{ℕ, List, ◌++◌, codes, flat_map, Option, Some, None}
use Rattle.std.specs.Fmt.{decimal}
use Rattle.lsr_facts.specs.declared.tunnel.Noted.{Noted}
use Rattle.lsr_facts.specs.declared.tunnel.Tunnel.{Tunnel}
use Rattle.lsr_facts.specs.declared.tunnel.TunnelLsp.{TunnelLsp}

-- the LSP ID of an LSP, or that there is none
abbrev pub lsp_word : Option TunnelLsp → List ℕ
lsp_word None = codes "none"
lsp_word (Some lsp) = decimal lsp.id

-- the code and the value of an error, or that there is none
abbrev pub noted_words : Option Noted → List ℕ
noted_words None = codes "none"
noted_words (Some error) = decimal error.code ++ (codes " " ++ decimal error.value)

-- `tunnel N current C pending P error CODE VALUE`: the LSP ID of the LSP that carries its traffic, that of the one which
-- is to take its place, and the error that came last for one of its LSPs; `none` for what there isn't
abbrev pub tunnel_line : ℕ × Tunnel → List ℕ
tunnel_line row =
    codes "tunnel " ++ (decimal row.0 ++ (codes " current " ++ (decimal row.1.current.id ++ (codes " pending "
    ++ (lsp_word row.1.pending ++ (codes " error " ++ (noted_words row.1.noted ++ codes "\n")))))))

-- a line for each tunnel, in their order
abbrev pub tunnels_text : List (ℕ × Tunnel) → List ℕ
tunnels_text tunnels = flat_map tunnel_line tunnels
