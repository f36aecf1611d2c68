-- What is told of LSPs: which came up, went down, or run over another way than before.
use Rattle.std.specs.Prelude.{ℕ, Bool, true, false, not, ◌==◌, ◌&&◌, ◌||◌, ◌*◌, ◌-◌, ◌^◌, min, List, [], ◌++◌, Option, Some, None, codes, flat_map, is_some, if◌then◌else◌, nat_lt}
use Rattle.std.specs.FinMap.Entries.{find}
use Rattle.std.specs.Fmt.{decimal}
use Rattle.std.specs.Option.{option_map_or}
use Rattle.std.specs.Result.{result_ok}
use Rattle.rsvp_bodies.specs.Traffic.{flowspec_rate}
use Rattle.lsr_facts.specs.Orders.{key_cmp}
use Rattle.lsr_facts.specs.declared.key.Key.{Key}
use Rattle.lsr_facts.specs.declared.path_fact.PathFact.{PathFact}
use Rattle.lsr_facts.specs.declared.path_fact.Role.{Role}
use Rattle.lsr_facts.specs.declared.path_fact.Role.TheVariants as roles
use Rattle.lsr_facts.specs.declared.repair.Repair.{Repair}
use Rattle.lsr_facts.specs.declared.resv_fact.ResvFact.{ResvFact}
use Rattle.lsr_facts.specs.declared.state.State.{State}
use Rattle.lsr_text.specs.Shown.{key_text}
use Rattle.lsr_watch.specs.declared.lsps.TheConstants.{LOW_RATE}

-- the LSP is reserved on the link to its next hop
abbrev pub is_reserved : State → Key → Bool
is_reserved s key = is_some (find key_cmp key s.resvs)

-- it is repaired: it runs over a bypass
abbrev pub is_repaired : State → Key → Bool
is_repaired s key = is_some (find key_cmp key s.repairs)

-- the bypass that it runs over has this number
abbrev pub is_over : State → Key → ℕ → Bool
is_over s key bypass = option_map_or (λ repair. repair.bypass == bypass) (find key_cmp key s.repairs) false

-- a path ends here, where it needs no reservation
abbrev pub is_tail : Role → Bool
is_tail roles.Transit = false
is_tail roles.Tail = true
is_tail roles.Head = false

-- the LSP ends here
abbrev pub ends_here : State → Key → Bool
ends_here s key = option_map_or (λ path. is_tail path.role) (find key_cmp key s.facts.paths) false

-- An LSP is up where it is reserved, is repaired, or ends here.
unfoldable pub is_up : State → Key → Bool
is_up s key = is_reserved s key || (is_repaired s key || ends_here s key)

-- so many bytes are so many bits, as far as 64 bits hold the number
abbrev pub bits_of : ℕ → ℕ
bits_of bytes = min (bytes * 8) (2 ^ 64 - 1)

-- what is told of some bytes per second that are less than 125, 1 kbit/s
unfoldable pub rate_hint : ℕ → List ℕ
rate_hint rate = if rate == 0 then [] else if nat_lt rate 125 then LOW_RATE.now else []

-- `R (B bit/s)`: a rate in bytes per second, and in bits, and what is told of a low one; or `none`
abbrev pub rate_words : Option ℕ → List ℕ
rate_words None = codes "none"
rate_words (Some rate) = decimal rate ++ (codes " (" ++ (decimal (bits_of rate) ++ (codes " bit/s)" ++ rate_hint rate)))

-- ` link N rate R (B bit/s)`: the link that is reserved, and the rate
unfoldable pub reserved_words : ResvFact → List ℕ
reserved_words fact = codes " link " ++ (decimal fact.link ++ (codes " rate " ++ (rate_words (result_ok (flowspec_rate fact.flowspec)) ++ codes "\n")))

-- `KEY link N rate R (B bit/s)`
unfoldable pub way_words : Key × ResvFact → List ℕ
way_words row = key_text row.0 ++ reserved_words row.1

-- `lsp up: KEY link N rate R (B bit/s)`
abbrev pub up_line : Key × ResvFact → List ℕ
up_line row = codes "lsp up: " ++ way_words row

-- `lsp restored to its own path: KEY link N rate R (B bit/s)`
abbrev pub back_line : Key × ResvFact → List ℕ
back_line row = codes "lsp restored to its own path: " ++ way_words row

-- of an LSP that is reserved: that it is now, or that it is again and was repaired
abbrev pub reserved_line : State → Key × ResvFact → List ℕ
reserved_line before row = if is_reserved before row.0 then [] else if is_repaired before row.0 then back_line row else up_line row

-- `KEY (egress here)`
unfoldable pub ending_words : Key → List ℕ
ending_words key = key_text key ++ codes " (egress here)\n"

-- `path received: KEY (egress here)`
abbrev pub tail_line : Key → List ℕ
tail_line key = codes "path received: " ++ ending_words key

-- `path removed: KEY (egress here)`
abbrev pub gone_line : Key → List ℕ
gone_line key = codes "path removed: " ++ ending_words key

-- of a path: that the LSP ends here now
abbrev pub ending_line : State → Key × PathFact → List ℕ
ending_line before row = if is_tail row.1.role && not (ends_here before row.0) then tail_line row.0 else []

-- `KEY`, at the end of a line
unfoldable pub key_words : Key → List ℕ
key_words key = key_text key ++ codes "\n"

-- `lsp down: KEY`
abbrev pub down_line : Key → List ℕ
down_line key = codes "lsp down: " ++ key_words key

-- of an LSP that was up: that it isn't any more
abbrev pub lost_line : State → Key → List ℕ
lost_line after key = if is_up after key then [] else down_line key

-- of a path that ended here: that it doesn't any more, where its LSP isn't up in another way either
abbrev pub lost_tail_line : State → Key × PathFact → List ℕ
lost_tail_line after row = if is_tail row.1.role && not (is_up after row.0) then gone_line row.0 else []

-- `lsp repaired over bypass N: KEY`
abbrev pub repair_line : Key → ℕ → List ℕ
repair_line key bypass = codes "lsp repaired over bypass " ++ (decimal bypass ++ (codes ": " ++ key_words key))

-- of an LSP that is repaired: that it runs over this bypass now
abbrev pub repaired_line : State → Key × Repair → List ℕ
repaired_line before row = if is_over before row.0 row.1.bypass then [] else repair_line row.0 row.1.bypass

-- the LSPs that came up, or are back on their own path
unfoldable pub came_lines : State → State → List ℕ
came_lines before after = flat_map (reserved_line before) after.resvs ++ flat_map (ending_line before) after.facts.paths

-- the LSPs that were reserved or repaired and went down
unfoldable pub lost_held : State → State → List ℕ
lost_held before after = flat_map (λ row. lost_line after row.0) before.resvs ++ flat_map (λ row. lost_line after row.0) before.repairs

-- the LSPs that went down: those, and those that ended here
unfoldable pub lost_lines : State → State → List ℕ
lost_lines before after = lost_held before after ++ flat_map (lost_tail_line after) before.facts.paths

-- the LSPs that are repaired, or repaired over another bypass
unfoldable pub repaired_lines : State → State → List ℕ
repaired_lines before after = flat_map (repaired_line before) after.repairs
