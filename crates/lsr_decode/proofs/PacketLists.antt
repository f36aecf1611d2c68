-- How the list of a file's packets grows, and ends.
use Rattle.std.proofs.Common.{◌≡◌, ◌+◌, ◌-◌, ◌++◌, ℕ, List, [], ◌∷◌, length, Option, Some, None, Result, Ok, Err, ap, subst, inl, inr, refl, ◌∙◌}
use Rattle.capture_files.specs.declared.capture.Capture.{Capture}
use Rattle.capture_files.specs.declared.fault.CaptureFault.{CaptureFault}
use Rattle.capture_files.specs.declared.packet.Packet.{Packet}
use Rattle.capture_files.specs.Captures.{IsNext, IsNextFault, IsNextPacket, IsNoNext, IsOpened, known_of, packets_read, rest_of, size_of_file}
use Rattle.capture_files.specs.Files.{Gives, HasPackets, Passes, another, opening_fault}

-- what a reader answers, where it is a packet
pub is_packet : (here next : Capture) (answer : Result Packet CaptureFault) (packet : Packet) → answer ≡ Ok packet → IsNext here next (Some answer) → IsNextPacket here next packet
is_packet here next answer packet same is_next = subst (λ (a : Result Packet CaptureFault). IsNext here next (Some a)) same is_next

-- one packet more stands before the reader
pub one_packet : (first here next : Capture) (packet : Packet) (packets : List Packet) → Gives (known_of first) (rest_of first) packets (known_of here) (rest_of here) → packets_read here ≡ length packets → IsNextPacket here next packet
    → Gives (known_of first) (rest_of first) (packets ++ packet ∷ []) (known_of next) (rest_of next)
one_packet first here next packet packets gives count p =
    another packet p.len gives p.passed p.stands (p.number ∙ ap (λ n. n + 1) count) refl p.rest

-- the file breaks at once
pub breaks_at_once : (file : List ℕ) (fault : CaptureFault) → (fault.at ≡ 0) × (opening_fault file ≡ Some fault.damage) → HasPackets file [] (Some fault)
breaks_at_once file fault (place, damaged) = inl (record { none = refl; place = place; damaged = damaged })

-- or after these packets
pub breaks_after : (file : List ℕ) (first here next : Capture) (answer : Result Packet CaptureFault) (fault : CaptureFault) (packets : List Packet) → IsOpened file first → Gives (known_of first) (rest_of first) packets (known_of here) (rest_of here) → size_of_file here ≡ length file → answer ≡ Err fault
    → IsNext here next (Some answer) → HasPackets file packets (Some fault)
breaks_after file first here next answer fault packets opened gives size same is_next =
    let f : IsNextFault here next fault = subst (λ (a : Result Packet CaptureFault). IsNext here next (Some a)) same is_next in
    inr (record {
      first = known_of first;
      last = known_of here;
      known = f.known;
      bytes = rest_of first;
      rest = rest_of here;
      here = f.here;
      good = opened.good;
      starts = opened.starts;
      gives = gives;
      passed = f.passed;
      some = f.some;
      place = f.place ∙ ap (λ s. s - length f.here) size;
      damaged = f.damaged;
    })

-- or is whole
pub is_whole : (file : List ℕ) (first here next : Capture) (answer : Option (Result Packet CaptureFault)) (packets : List Packet) → IsOpened file first → Gives (known_of first) (rest_of first) packets (known_of here) (rest_of here) → answer ≡ None → IsNext here next answer → HasPackets file packets None
is_whole file first here next answer packets opened gives same is_next =
    let n : IsNoNext here next = subst (λ (a : Option (Result Packet CaptureFault)). IsNext here next a) same is_next in
    record {
      first = known_of first;
      last = known_of here;
      end = known_of next;
      bytes = rest_of first;
      rest = rest_of here;
      good = opened.good;
      starts = opened.starts;
      gives = gives;
      passed = subst (λ (l : List ℕ). Passes (known_of here) (rest_of here) (known_of next) l) n.rest n.passed;
    }
