-- What an operator is told of how much each port did.
use Rattle.std.specs.Prelude.{ℕ, ◌+◌, ◌-◌, ◌^◌, ◌==◌, Bool, true, false, List, ◌++◌, Option, Some, None, codes, flat_map, length, map, min, slice_get}
use Rattle.std.specs.Fmt.{decimal}
use Rattle.std.specs.List.{enumerate_from}
use Rattle.std.specs.Net.Text.{socket_text}
use Rattle.std.specs.Option.{option_map_or}
use Rattle.lsr_config.specs.declared.sockets.LinkSockets.{LinkSockets}
use Rattle.lsr_serve.specs.declared.run.PortCount.{PortCount}
use Rattle.worker_tallies.specs.declared.handled.Tally.{Tally}
use Rattle.lsr_console.specs.declared.counters.TheConstants.{NOTHING_YET, UP_TO}

-- ---- rounds

-- the sum of both; what is too great to be counted stays at the most that can be
abbrev pub count_sum : ℕ → ℕ → ℕ
count_sum before more = min (before + more) (2 ^ 64 - 1)

-- what was counted of both
abbrev pub tally_sum : Tally → Tally → Tally
tally_sum before more = record {
  datagrams = count_sum before.datagrams more.datagrams;
  dropped = count_sum before.dropped more.dropped;
  passed = count_sum before.passed more.passed;
  fed = count_sum before.fed more.fed;
  refused = count_sum before.refused more.refused;
  lost = count_sum before.lost more.lost;
  faults = count_sum before.faults more.faults;
}

-- what the port after so many counted before, with what it did in a round
unfoldable pub counted_at : List Tally → ℕ → Tally → Tally
counted_at before place more = option_map_or (λ (count : Tally). tally_sum count more) (slice_get before place) more

abbrev pub counted_in : List Tally → ℕ × PortCount → Tally
counted_in before port = counted_at before port.0 port.1.tally

-- what the ports counted before, with what they did in a round, in their order
unfoldable pub counts_with : List Tally → List PortCount → List Tally
counts_with before round = map (counted_in before) (enumerate_from 0 round)

-- ---- what is told

-- what stands before the lines of the ports, where there are none, or some
abbrev pub heading : Bool → List ℕ
heading true = NOTHING_YET.now
heading false = UP_TO.now

-- the port of a link, by its number and its socket addresses
abbrev pub link_name : ℕ × LinkSockets → List ℕ
link_name link =
    codes "link " ++ (decimal link.0 ++ (codes " listen " ++ (socket_text link.1.listen ++ (codes " send " ++ socket_text link.1.send))))

-- the clock's port, or the operator's
abbrev pub seat_name : Bool → List ℕ
seat_name true = codes "clock"
seat_name false = codes "console"

abbrev pub name_of : Option (ℕ × LinkSockets) → Bool → List ℕ
name_of (Some link) is_clock = link_name link
name_of None is_clock = seat_name is_clock

-- whose port the one after so many is: those of these links come first, in their order, then the clock's, then the operator's
abbrev pub port_name : List (ℕ × LinkSockets) → ℕ → List ℕ
port_name sockets place = name_of (slice_get sockets place) (place == length sockets)

-- how many datagrams, ticks or lines came, and how many went on
unfoldable pub taken_words : Tally → List ℕ
taken_words t = codes ": " ++ (decimal t.datagrams ++ (codes " received: " ++ (decimal t.fed ++ (codes " processed, " ++ (decimal t.passed ++ codes " forwarded, ")))))

-- how many were dropped and refused
unfoldable pub refused_words : Tally → List ℕ
refused_words t = decimal t.dropped ++ (codes " dropped, " ++ (decimal t.refused ++ codes " refused; "))

-- how many frames weren't sent, and how often the socket failed
unfoldable pub lost_words : Tally → List ℕ
lost_words t = decimal t.lost ++ (codes " frames not sent, " ++ (decimal t.faults ++ codes " socket errors\n"))

-- the line of the port after so many
unfoldable pub port_line : List (ℕ × LinkSockets) → ℕ × Tally → List ℕ
port_line sockets port = port_name sockets port.0 ++ (taken_words port.1 ++ (refused_words port.1 ++ lost_words port.1))

-- What each port of a router did, whose links have these socket addresses: a line for each, or that nothing is counted yet.
abbrev pub counters_text : List (ℕ × LinkSockets) → List Tally → List ℕ
counters_text sockets counts = heading (length counts == 0) ++ flat_map (port_line sockets) (enumerate_from 0 counts)
