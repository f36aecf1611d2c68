-- What `show path KEY` and `show resv KEY` print: one LSP whole.
use Rattle.std.specs.Prelude.{ℕ, Bool, false, ◌-◌, ◌==◌, ◌&&◌, nat_lt, List, [], ◌∷◌, ◌++◌, codes, flat_map, length, Option, Some, None, if◌then◌else◌}
use Rattle.std.specs.FinMap.Entries.{find}
use Rattle.std.specs.Int.{to_be_bytes, w32}
use Rattle.std.specs.declared.net.ipv4_addr.Ipv4Addr.{Ipv4Addr}
use Rattle.std.specs.Fmt.{decimal, digits}
use Rattle.std.specs.Net.Addr.{ipv4_octets}
use Rattle.std.specs.Net.Text.{ipv4_text}
use Rattle.std.specs.Option.{option_and_then, option_map_or}
use Rattle.std.specs.Ordering.{nat_cmp}
use Rattle.std.specs.Result.{result_ok}
use Rattle.hex.specs.Hex.{encode_lower}
use Rattle.rsvp_bodies.specs.Rates.{rate_of}
use Rattle.rsvp_bodies.specs.Traffic.{flowspec_rate, tspec_rate}
use Rattle.rsvp_bodies.specs.declared.attr.Attr.{Attr}
use Rattle.rsvp_objects.specs.declared.values.FastReroute.{FastReroute}
use Rattle.rsvp_objects.specs.declared.values.Hop.{Hop}
use Rattle.lsr_facts.specs.Orders.{key_cmp}
use Rattle.lsr_facts.specs.declared.assignment.Assignment.{Assignment}
use Rattle.lsr_facts.specs.declared.key.Key.{Key}
use Rattle.lsr_facts.specs.declared.path_fact.Origin.{Origin}
use Rattle.lsr_facts.specs.declared.path_fact.PathFact.{PathFact}
use Rattle.lsr_facts.specs.declared.path_fact.Role.{Role}
use Rattle.lsr_facts.specs.declared.path_fact.Via.{Via}
use Rattle.lsr_facts.specs.declared.path_fact.Via.TheVariants as vias
use Rattle.lsr_facts.specs.declared.router.Link.{Link}
use Rattle.lsr_facts.specs.declared.router.Router.{Router}
use Rattle.lsr_facts.specs.Priorities.{holding_of, setup_of}
use Rattle.lsr_facts.specs.declared.repair.Repair.{Repair}
use Rattle.lsr_facts.specs.declared.resv_fact.ResvFact.{ResvFact}
use Rattle.lsr_facts.specs.declared.state.State.{State}
use Rattle.lsr_text.specs.Routes.{flags_words, name_text, record_lines, route_line}
use Rattle.object_text.specs.Traffic.{rate_bytes}
use Rattle.lsr_text.specs.Rows.{style_text}
use Rattle.lsr_text.specs.Shown.{key_text, role_word}

-- how the Paths of an origin come: over a link, or through stacks of labels
abbrev pub via_words : Via → List ℕ
via_words (vias.Link link) = codes "link " ++ decimal link
via_words vias.Stack = codes "stack"

-- in how many milliseconds what expires then counts no more
unfoldable pub left_words : ℕ → ℕ → List ℕ
left_words moment expiry = codes " expires " ++ (decimal (expiry - moment) ++ codes " ms\n")

-- who sends the Paths
unfoldable pub from_words : Ipv4Addr → List ℕ
from_words sender = codes "  from " ++ (ipv4_text (ipv4_octets sender) ++ codes " ")

-- from which hop
unfoldable pub hop_words : Hop → List ℕ
hop_words hop = codes " hop " ++ (ipv4_text (ipv4_octets hop.address) ++ (codes " lih " ++ decimal hop.interface))

-- `from SENDER link N hop ADDRESS lih LIH expires N ms`
abbrev pub origin_line : ℕ → Ipv4Addr × Origin → List ℕ
origin_line moment row = from_words row.0 ++ (via_words row.1.via ++ (hop_words row.1.hop ++ left_words moment row.1.expiry))

-- a line for each origin, or that there is none: the LSP begins here
abbrev pub origin_lines : ℕ → List (Ipv4Addr × Origin) → List ℕ
origin_lines moment [] = codes "  from none\n"
origin_lines moment (first ∷ others) = flat_map (origin_line moment) (first ∷ others)

-- `to link N hop ADDRESS router ID`: the link that the LSP leaves by, and the neighbour on it; `to none` where it ends here
abbrev pub next_line : ℕ → Option Link → List ℕ
next_line number None = codes "  to none\n"
next_line number (Some link) =
    codes "  to link " ++ (decimal number ++ (codes " hop " ++ (ipv4_text (ipv4_octets link.peer) ++ (codes " router "
    ++ (ipv4_text (ipv4_octets link.peer_router) ++ codes "\n")))))

-- the hops before this router, and the one after it
unfoldable pub hop_lines : Router → ℕ → PathFact → List ℕ
hop_lines r moment fact = origin_lines moment fact.origins ++ next_line fact.out_link (find nat_cmp fact.out_link r.links)

-- a rate in bytes per second, `none` where the word stands for none
abbrev pub rate_number : Option ℕ → List ℕ
rate_number None = codes "none"
rate_number (Some rate) = decimal rate

-- and the hexadecimal digits of its word
unfoldable pub rate_word : Option ℕ → List ℕ → List ℕ
rate_word rate word = codes "rate " ++ (rate_number rate ++ (codes " word " ++ encode_lower word))

-- `rate R word HEX`: the token bucket rate of a description of traffic
unfoldable pub rate_line : Option ℕ → List ℕ → List ℕ
rate_line rate body = codes "  " ++ (rate_word rate (rate_bytes body) ++ codes "\n")

-- a line's first word, and priorities, of which 0 is the best
unfoldable pub priority_words : List ℕ → ℕ → ℕ → List ℕ
priority_words word setup hold = codes "  " ++ (word ++ (codes " setup " ++ (decimal setup ++ (codes " hold " ++ decimal hold))))

-- the name of an LSP
unfoldable pub called_words : List ℕ → List ℕ
called_words name = codes " name " ++ (name_text name ++ codes "\n")

-- flags, after other words
unfoldable pub set_words : ℕ → List ℕ
set_words flags = flags_words flags

-- `attributes setup S hold H flags FF name "NAME"`: attributes as they came
unfoldable pub said_line : Attr → List ℕ
said_line attr = priority_words (codes "attributes") attr.setup attr.hold ++ (set_words attr.flags ++ called_words attr.name)

-- what a SESSION_ATTRIBUTE says, if there is one
abbrev pub attr_line : Option Attr → List ℕ
attr_line None = codes "  attributes none\n"
attr_line (Some attr) = said_line attr

-- `priorities setup S hold H`
unfoldable pub counting_line : ℕ → ℕ → List ℕ
counting_line setup hold = priority_words (codes "priorities") setup hold ++ codes "\n"

-- the priorities of an LSP as they count
abbrev pub counted_line : Option Attr → List ℕ
counted_line attr = counting_line (setup_of attr) (holding_of attr)

-- how many hops a backup may have
unfoldable pub limit_words : ℕ → List ℕ
limit_words hops = codes " hops " ++ decimal hops

-- the bandwidth of a backup
unfoldable pub backup_words : ℕ → List ℕ
backup_words word = codes " " ++ (rate_word (rate_of word) (to_be_bytes w32 word) ++ codes "\n")

-- `reroute setup S hold H hops N flags FF rate R word HEX`: what a FAST_REROUTE asks for
unfoldable pub asked_line : FastReroute → List ℕ
asked_line asked =
    priority_words (codes "reroute") asked.setup asked.hold ++ (limit_words asked.hop_limit ++ (set_words asked.flags ++ backup_words asked.bandwidth))

-- if there is one
abbrev pub fast_reroute_line : Option FastReroute → List ℕ
fast_reroute_line None = codes "  reroute none\n"
fast_reroute_line (Some asked) = asked_line asked

-- what the LSP is to carry, and what is asked for it
unfoldable pub carried_lines : PathFact → List ℕ
carried_lines fact =
    codes "  protocol 0x" ++ (digits 16 false fact.label_request.l3pid ++ (codes "\n"
    ++ (rate_line (result_ok (tspec_rate fact.tspec)) fact.tspec ++ (attr_line fact.attr ++ (counted_line fact.attr ++ fast_reroute_line fact.fast_reroute)))))

-- how many objects are passed on unread
unfoldable pub passed_line : ℕ → List ℕ
passed_line count = codes "  passed " ++ (decimal count ++ codes "\n")

-- the route that its Path came with, what is left of it for the next hop, and the route that the Path took
unfoldable pub routed_lines : PathFact → List ℕ
routed_lines fact =
    route_line (codes "given") fact.given ++ (route_line (codes "rest") fact.rest ++ (record_lines fact.recorded ++ passed_line (length fact.passing)))

-- the bypass that the LSP runs over, the link that it had before, and the label under which the bypass's end takes it
unfoldable pub repair_words : Repair → List ℕ
repair_words repair =
    codes "  repair bypass " ++ (decimal repair.bypass ++ (codes " link " ++ (decimal repair.resv.link ++ (codes " label " ++ decimal repair.resv.label))))

-- `repair bypass N link N label L expires N ms`
unfoldable pub used_line : ℕ → Repair → List ℕ
used_line moment repair = repair_words repair ++ left_words moment repair.resv.expiry

-- if it is repaired
abbrev pub repair_line : ℕ → Option Repair → List ℕ
repair_line moment None = codes "  repair none\n"
repair_line moment (Some repair) = used_line moment repair

-- `assigned bypass N rate R`: what the LSP is promised of a bypass, in bytes per second; `assigned none` where it is none
abbrev pub assigned_line : Option Assignment → List ℕ
assigned_line None = codes "  assigned none\n"
assigned_line (Some given) = codes "  assigned bypass " ++ (decimal given.bypass ++ (codes " rate " ++ (decimal given.rate ++ codes "\n")))

-- the repair that it runs over, and what it is promised for repairs
unfoldable pub protection_lines : State → Key → Option Repair → List ℕ
protection_lines s key repair = repair_line s.facts.moment repair ++ assigned_line (find key_cmp key s.assignments)

-- `path KEY ROLE`
unfoldable pub path_head : Key → Role → List ℕ
path_head key role = codes "path " ++ (key_text key ++ (codes " " ++ (role_word role ++ codes "\n")))

-- all lines of a path
unfoldable pub path_lines : Router → State → Key → PathFact → List ℕ
path_lines r s key fact =
    path_head key fact.role ++ (hop_lines r s.facts.moment fact ++ (carried_lines fact ++ (routed_lines fact ++ protection_lines s key (find key_cmp key s.repairs))))

-- `show path KEY`: nothing where there is no such path
abbrev pub path_lsp_text : Router → State → Key → List ℕ
path_lsp_text r s key = option_map_or (path_lines r s key) (find key_cmp key s.facts.paths) []

-- the attributes of an LSP's path, if it has some
abbrev pub attr_at : State → Key → Option Attr
attr_at s key = option_and_then (λ fact. fact.attr) (find key_cmp key s.facts.paths)

-- a label, or that there is none
abbrev pub given_word : Option ℕ → List ℕ
given_word None = codes "none"
given_word (Some label) = decimal label

-- the label that the next hop gave
unfoldable pub out_words : ℕ → List ℕ
out_words out = codes "  label out " ++ (decimal out ++ codes " in ")

-- `label out L in L`: that label, and the one that this router gave, `none` where the LSP begins here
unfoldable pub labels_line : ℕ → Option ℕ → List ℕ
labels_line out given = out_words out ++ (given_word given ++ codes "\n")

-- `resv KEY STYLE`, and `link N`: the link that the Resv came over
unfoldable pub resv_head : Key → ResvFact → List ℕ
resv_head key fact = codes "resv " ++ (key_text key ++ (codes " " ++ (style_text fact.style ++ (codes "\n  link " ++ (decimal fact.link ++ codes "\n")))))

-- and the rate, the labels and the priorities as they count
unfoldable pub reserved_lines : State → Key → ResvFact → List ℕ
reserved_lines s key fact =
    resv_head key fact ++ (rate_line (result_ok (flowspec_rate fact.flowspec)) fact.flowspec ++ (labels_line fact.label (find key_cmp key s.labels) ++ counted_line (attr_at s key)))

-- and the route that its Resv took, and in how many milliseconds it counts no more
unfoldable pub resv_lines : State → Key → ResvFact → List ℕ
resv_lines s key fact =
    reserved_lines s key fact ++ (record_lines fact.recorded ++ (passed_line (length fact.passing)
    ++ (codes " " ++ left_words s.facts.moment fact.expiry)))

-- it has a reservation on the link, which it keeps at a priority that is worse than this one
abbrev pub is_preempted : State → ℕ → ℕ → Key × ResvFact → Bool
is_preempted s link setup row = (row.1.link == link) && nat_lt setup (holding_of (attr_at s row.0))

-- it has a reservation on the link, and takes bandwidth at a priority that is better than this one
abbrev pub is_preempting : State → ℕ → ℕ → Key × ResvFact → Bool
is_preempting s link holding row = (row.1.link == link) && nat_lt (setup_of (attr_at s row.0)) holding

-- the key of another LSP, and the line's end
unfoldable pub rival_key : Key → List ℕ
rival_key key = key_text key ++ codes "\n"

-- the line of another LSP
unfoldable pub rival_line : List ℕ → Key → List ℕ
rival_line words key = words ++ rival_key key

-- `preempts KEY`, of an LSP that yields
abbrev pub preempted_line : State → ℕ → ℕ → Key × ResvFact → List ℕ
preempted_line s link setup row = if is_preempted s link setup row then rival_line (codes "  preempts ") row.0 else []

-- `preempted by KEY`, of one that takes
abbrev pub preempting_line : State → ℕ → ℕ → Key × ResvFact → List ℕ
preempting_line s link holding row = if is_preempting s link holding row then rival_line (codes "  preempted by ") row.0 else []

-- the LSPs on its link that an LSP takes bandwidth from, and those that take its own, as far as priorities say
unfoldable pub rival_lines : State → Key → ℕ → List ℕ
rival_lines s key link =
    flat_map (preempted_line s link (setup_of (attr_at s key))) s.resvs ++ flat_map (preempting_line s link (holding_of (attr_at s key))) s.resvs

-- the lines of a reservation that stands on its link
abbrev pub standing_lines : State → Key → ResvFact → List ℕ
standing_lines s key fact = resv_lines s key fact ++ (protection_lines s key None ++ rival_lines s key fact.link)

-- those of one that was lost with its link, and that the LSP is repaired for
abbrev pub repaired_lines : State → Key → Repair → List ℕ
repaired_lines s key repair = resv_lines s key repair.resv ++ protection_lines s key (Some repair)

-- `show resv KEY`: nothing where there is neither
abbrev pub resv_lsp_text : State → Key → List ℕ
resv_lsp_text s key =
    option_map_or (standing_lines s key) (find key_cmp key s.resvs) (option_map_or (repaired_lines s key) (find key_cmp key s.repairs) [])
