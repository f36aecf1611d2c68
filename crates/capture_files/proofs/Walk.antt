-- How a walk over blocks goes on.
use Rattle.std.proofs.Common.{◌≡◌, Option, None, subst}
use Rattle.capture_files.specs.declared.capture.Capture.{Capture}
use Rattle.capture_files.specs.declared.packet.Packet.{Packet}
use Rattle.capture_files.specs.Captures.{Turns, known_of, packets_read, rest_of}
use Rattle.capture_files.specs.Files.{Passes, goes_on}

-- a block that says no packet is passed over
pub one_more : (first here next : Capture) (found : Option Packet) → Passes (known_of first) (rest_of first) (known_of here) (rest_of here) → found ≡ None → Turns here next found → Passes (known_of first) (rest_of first) (known_of next) (rest_of next)
one_more first here next found passed none turn =
    let t : Turns here next None = subst (λ (f : Option Packet). Turns here next f) none turn in
    goes_on t.0 t.1 passed t.2 t.3 t.4 t.5

-- and no packet more was read
pub packets_same : (here next : Capture) (found : Option Packet) → found ≡ None → Turns here next found → packets_read next ≡ packets_read here
packets_same here next found none turn =
    let t : Turns here next None = subst (λ (f : Option Packet). Turns here next f) none turn in t.6
