-- What is read is a message: it fits, and is read again as the same content.
use Rattle.std.proofs.Common.{◌≡◌, ◌≤◌, ℕ, Bool, true, false, if◌then◌else◌, List, length, drop, Option, Some, None, refl, arith, ltb-false}
use Rattle.std.specs.Prelude.{slice_index}
use Rattle.std.proofs.lemmas.Bool.{le-leb}
use Rattle.std.proofs.lemmas.List.{length-drop}
use Rattle.rsvp_contents.specs.declared.dropped.Dropped.{Dropped}
use Rattle.rsvp_contents.specs.declared.message.Reading.{Reading}
use Rattle.rsvp_contents.specs.Fitting.{written_len}
use Rattle.rsvp_contents.specs.Picking.{content_in}
use Rattle.rsvp_contents.specs.Spelling.{header_fault, SpellsReading, IsMessage}
use Rattle.rsvp_contents.specs.Written.{objects_of}
use Rattle.rsvp_contents.proofs.Totals.{size_of, total-spelled, length-flat_map-spelling}
use Rattle.rsvp_contents.proofs.Fitted.{said_message}
use Rattle.rsvp_contents.proofs.Said.{read_is_said}

-- a fault that is not there leaves the next ones
past_fault : (test : Bool) (f : Dropped) (rest : Option Dropped) → (if test then Some f else rest) ≡ None → (test ≡ false) × (rest ≡ None)
past_fault true f rest e = absurd cc
past_fault false f rest e = (refl, e)

-- a good header stands before the objects of at most 4,096 bytes
header_fits : (bytes : List ℕ) → header_fault bytes ≡ None → (8 ≤ length bytes) × (length bytes ≤ 4096)
unfolding header_fault
header_fits bytes e =
    let short = past_fault _ _ _ e in
    let version = past_fault _ _ _ short.1 in
    let long = past_fault _ _ _ version.1 in
    (ltb-false _ _ short.0, ltb-false _ _ long.0)

-- what is read is a message
pub what_is_read_is_a_message_lem : (bytes : List ℕ) (reading : Reading) → SpellsReading bytes reading → IsMessage (content_in reading)
what_is_read_is_a_message_lem bytes reading s =
    let said = read_is_said (slice_index bytes 1) s.0 reading s.2 in
    let header = header_fits bytes s.1.header in
    said_message (content_in reading) said.fits
    (le-leb (written_len (content_in reading)) 4096
    (omega (
      arith,
      length-flat_map-spelling (objects_of (content_in reading)),
      said.within size_of,
      total-spelled (drop 8 bytes) s.0 s.1.spelled,
      length-drop 8 bytes,
    )))
