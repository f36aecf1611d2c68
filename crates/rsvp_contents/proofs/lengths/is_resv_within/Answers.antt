-- A Resv fits where its flow descriptors fit behind the rest of it.
use Rattle.std.proofs.Common.{◌≡◌, ◌≤◌, ◌+◌, ◌∙◌, None, length, arith}
use Rattle.std.specs.List.{flat_map}
use Rattle.std.proofs.lemmas.Bool.{le-leb}
use Rattle.rsvp_objects.specs.Objects.{spelling}
use Rattle.rsvp_contents.specs.Flows.{flow_objects}
use Rattle.rsvp_contents.specs.Fitting.{written_len}
use Rattle.rsvp_contents.specs.declared.messages.Content.TheVariants as contents
use Rattle.rsvp_contents.proofs.Bytes.{no_room_left, passing_most, resv_written, room_left}
use Rattle.rsvp_contents.proofs.ResvAgain.{resv_parts_of}
use Rattle.rsvp_contents.proofs.lengths.is_resv_within.Goals as goal

pub returns-then-head_len-le-MAX_MESSAGE_LEN-clause-within :
    goal.returns-then-head_len-le-MAX_MESSAGE_LEN-clause-within
returns-then-head_len-le-MAX_MESSAGE_LEN-clause-within c =
    let r = c.args.resv.now in
    let within = rw c.as_slice.ensures at c.are_flows_within.ensures in
    within
    ∙ room_left (8 + c.session_len.result + c.hop_len.result + 8 + c.passing_len.result + 8) (length (flat_map spelling (flow_objects None r.descriptors))) (written_len (contents.Resv r))
    (omega (arith, resv_written r, c.session_len.ensures.len, c.hop_len.ensures.len, c.passing_len.ensures.len))
    (omega arith)

pub returns-then-head_len-le-MAX_MESSAGE_LEN-clause-room : goal.returns-then-head_len-le-MAX_MESSAGE_LEN-clause-room
returns-then-head_len-le-MAX_MESSAGE_LEN-clause-room c = λ fits room.
    let within = rw c.as_slice.ensures at c.are_flows_within.ensures in
    let passing = passing_most c.args.resv.now.passing (resv_parts_of c.args.resv.now fits).passing in
    within
    ∙ le-leb _ _ (omega (arith, room, passing.size, c.session_len.ensures.fixed, c.hop_len.ensures.fixed, c.passing_len.ensures.len))

pub returns-else-head_len-le-MAX_MESSAGE_LEN-clause-within :
    goal.returns-else-head_len-le-MAX_MESSAGE_LEN-clause-within
returns-else-head_len-le-MAX_MESSAGE_LEN-clause-within c =
    let r = c.args.resv.now in
    no_room_left (8 + c.session_len.result + c.hop_len.result + 8 + c.passing_len.result + 8) (length (flat_map spelling (flow_objects None r.descriptors))) (written_len (contents.Resv r))
    (omega (arith, resv_written r, c.session_len.ensures.len, c.hop_len.ensures.len, c.passing_len.ensures.len))
    (omega arith)

pub returns-else-head_len-le-MAX_MESSAGE_LEN-clause-room : goal.returns-else-head_len-le-MAX_MESSAGE_LEN-clause-room
returns-else-head_len-le-MAX_MESSAGE_LEN-clause-room c = λ fits room.
    let passing = passing_most c.args.resv.now.passing (resv_parts_of c.args.resv.now fits).passing in
    absurd (omega (arith, passing.size, c.session_len.ensures.fixed, c.hop_len.ensures.fixed, c.passing_len.ensures.len))
