-- The words of an event, as a line of `lsr step` has them. Of an event that no line tells they are as near as words come.
use Rattle.std.specs.Prelude.{ℕ, Bool, ◌==◌, ◌&&◌, not, nat_lt, List, [], ◌∷◌, ◌++◌, codes, flat_map, length, if◌then◌else◌}
use Rattle.std.specs.Fmt.{decimal}
use Rattle.std.specs.List.{list_all}
use Rattle.std.specs.Net.Addr.{ipv4_octets}
use Rattle.std.specs.Str.{is_utf8}
use Rattle.hex.specs.Hex.{encode_lower}
use Rattle.link_frames.specs.Frames.{routed_bytes}
use Rattle.lsr_facts.specs.declared.router.Router.{Router}
use Rattle.abstract_paths.specs.declared.commands.Command.{Command}
use Rattle.abstract_paths.specs.declared.commands.Command.TheVariants as commands
use Rattle.abstract_paths.specs.declared.tunnels.NewBypass.{NewBypass}
use Rattle.abstract_paths.specs.declared.tunnels.NewTunnel.{NewTunnel}
use Rattle.abstract_paths.specs.declared.tunnels.TunnelChange.{TunnelChange}
use Rattle.abstract_paths.specs.declared.ways.ArrivalWay.{ArrivalWay}
use Rattle.abstract_paths.specs.declared.ways.ArrivalWay.TheVariants as ways
use Rattle.event_fields.specs.declared.unread.UnreadEvent.{UnreadEvent}
use Rattle.event_fields.specs.declared.unread.UnreadEvent.TheVariants as unread
use Rattle.object_text.specs.Routes.{prefix_text}
use Rattle.object_text.specs.Traffic.{rate_bytes}
use Rattle.object_text.specs.Words.{address_text}
use Rattle.lsr_text.specs.FrameLines.{bytes_words}
use Rattle.lsr_text.specs.Routes.{name_text, step_words}

-- A message for this router that came over a link: `rx LINK HEX` where it came in a Hop frame; else `frame LINK HEX` with a frame that brings
-- it: a Labelled frame of no labels, or a Routed frame to the router's id, which no other router may pass on.
abbrev pub arrive_words : Router → ℕ → ArrivalWay → List ℕ → List ℕ
arrive_words r link ways.Hop message = bytes_words (codes "rx") link message
arrive_words r link ways.Stack message = bytes_words (codes "frame") link (2 ∷ 0 ∷ 1 ∷ message)
arrive_words r link ways.Routed message = bytes_words (codes "frame") link (routed_bytes (ipv4_octets r.id) 1 message)

-- a byte that may stand in a word: no space, no control byte
abbrev pub is_letter : ℕ → Bool
is_letter byte = nat_lt 32 byte && not (byte == 127)

-- one letter or more, in UTF-8
abbrev pub is_word : List ℕ → Bool
is_word bytes = not (length bytes == 0) && (list_all is_letter bytes && is_utf8 bytes)

-- a name: as it is where it is a word, else between quotes
abbrev pub name_word : List ℕ → List ℕ
name_word name = if is_word name then name else name_text name

-- the digits of a rate's word
abbrev pub rate_word : List ℕ → List ℕ
rate_word tspec = encode_lower (rate_bytes tspec)

-- `tunnel N ENDPOINT RATE SETUP HOLD FLAGS NAME [ROUTE..]`
abbrev pub tunnel_words : NewTunnel → List ℕ
tunnel_words t =
    codes "tunnel " ++ (decimal t.number ++ (codes " " ++ (address_text t.endpoint ++ (codes " " ++ (rate_word t.tspec ++ (codes " " ++ (decimal t.attr.setup
    ++ (codes " " ++ (decimal t.attr.hold ++ (codes " " ++ (encode_lower (t.attr.flags ∷ []) ++ (codes " " ++ (name_word t.attr.name ++ flat_map step_words t.route)))))))))))))

-- `change N RATE [ROUTE..]`
abbrev pub change_words : TunnelChange → List ℕ
change_words c = codes "change " ++ (decimal c.number ++ (codes " " ++ (rate_word c.tspec ++ flat_map step_words c.route)))

-- `bypass N TUNNEL LINK CAPACITY`
abbrev pub bypass_words : NewBypass → List ℕ
bypass_words b =
    codes "bypass " ++ (decimal b.number ++ (codes " " ++ (decimal b.tunnel ++ (codes " " ++ (decimal b.link ++ (codes " " ++ decimal b.capacity))))))

-- what an operator told a router
abbrev pub command_words : Command → List ℕ
command_words (commands.AddTunnel t) = tunnel_words t
command_words (commands.ChangeTunnel c) = change_words c
command_words (commands.CancelChange number) = codes "cancel " ++ decimal number
command_words (commands.DropTunnel number) = codes "drop " ++ decimal number
command_words (commands.AddBypass b) = bypass_words b
command_words (commands.DropBypass number) = codes "unbypass " ++ decimal number
command_words (commands.AddRoute prefix link) = codes "route " ++ (prefix_text prefix ++ (codes " " ++ decimal link))
command_words (commands.DropRoute prefix) = codes "unroute " ++ prefix_text prefix

-- what happened to a router
abbrev pub event_words : Router → UnreadEvent → List ℕ
event_words r (unread.Arrive a) = arrive_words r a.link a.way a.message
event_words r (unread.Relay m) = bytes_words (codes "frame") m.link (routed_bytes (ipv4_octets m.to) m.limit m.message)
event_words r (unread.Tick moment) = codes "tick " ++ decimal moment
event_words r (unread.LinkUp link) = codes "up " ++ decimal link
event_words r (unread.LinkDown link) = codes "down " ++ decimal link
event_words r unread.Restart = codes "restart"
event_words r unread.Start = codes "start"
event_words r (unread.Command c) = command_words c
