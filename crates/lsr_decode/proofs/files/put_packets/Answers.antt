-- One more packet's message is printed.
use Rattle.std.proofs.Common.{◌+◌, ◌++◌, ◌∷◌, [], false, arith, ap, refl, ◌∙◌, length-append}
use Rattle.std.proofs.KnownBytes.{Appends-nil, Appends-trans}
use Rattle.capture_files.specs.Files.{nothing}
use Rattle.lsr_decode.specs.Files.{carried_by, counted}
use Rattle.lsr_decode.proofs.FileLaws.{counts_more, has_room, shows_more}
use Rattle.lsr_decode.proofs.PacketLists.{breaks_after, breaks_at_once, is_packet, is_whole, one_packet}
use Rattle.lsr_decode.proofs.files.put_packets.Goals as goal

pub loop-next-init : goal.loop-next-init
loop-next-init g c =
    record {
      packets = [];
      printed = [];
      gives = nothing;
      number = c.in-Ok.ensures.opened.packets;
      size = c.in-Ok.ensures.opened.size;
      told = Appends-nil _;
      shows = (refl, refl);
      all = refl;
    }

pub put_packet-requires : goal.put_packet-requires
put_packet-requires g c =
    let before = c.loop-next.invariant in
    let room = has_room before.packets c.loop-next.counts before.all (omega (arith, before.number, before.size, c.loop-next.capture.counted, c.requires)) in
    record { messages = room.0; fragments = room.1; cut = room.2; others = room.3 }

pub loop-next-preserved : goal.loop-next-preserved
loop-next-preserved g c =
    let before = c.loop-next.invariant in
    let packet = c.in-Ok-next.packet in
    let next = is_packet c.loop-next.capture c.next_packet.new.self c.in-Some.next packet c.in-Ok-next.is c.in-Some.ensures.next in
    let shown = c.in_ok-is_bad-in-Ok-next.ensures.shown in
    record {
      packets = before.packets ++ packet ∷ [];
      printed = before.printed ++ shown.0;
      gives = one_packet c.in-Ok.capture c.loop-next.capture c.next_packet.new.self packet before.packets before.gives before.number next;
      number = omega (arith, next.packets, before.number, length-append before.packets (packet ∷ []));
      size = c.next_packet.ensures.size ∙ before.size;
      told = Appends-trans _ _ _ _ _ before.told shown.1;
      shows = shows_more c.args.fields before.packets packet before.printed shown.0 c.loop-next.refused c.in_ok-is_bad-in-Ok-next.is_bad before.shows shown.2;
      all = c.in_ok-is_bad-in-Ok-next.ensures.counted ∙ ap (λ k. counted k (carried_by packet)) before.all ∙ counts_more before.packets packet;
    }

pub returns-in-Err : goal.returns-in-Err
returns-in-Err g c = ([], [], Appends-nil _, (breaks_at_once c.args.file.now c.in-Err.fault c.in-Err.ensures.fault, false, (refl, refl)), refl)

pub returns-in-Err-next : goal.returns-in-Err-next
returns-in-Err-next g c =
    let before = c.loop-next.invariant in
    let broken = breaks_after c.args.file.now c.in-Ok.capture c.loop-next.capture c.next_packet.new.self c.in-Some.next c.in-Err-next.fault before.packets c.in-Ok.ensures.opened before.gives before.size c.in-Err-next.is c.in-Some.ensures.next in
    (before.packets, before.printed, before.told, (broken, c.loop-next.refused, before.shows), before.all)

pub returns : goal.returns
returns g c =
    let before = c.loop-next.invariant in
    let whole = is_whole c.args.file.now c.in-Ok.capture c.loop-next.capture c.next_packet.new.self c.next_packet.result before.packets c.in-Ok.ensures.opened before.gives c.in_default.is c.next_packet.ensures.next in
    (before.packets, before.printed, before.told, (whole, before.shows), before.all)
