-- Packets whose messages were printed so far.
use Rattle.std.proofs.Common.{◌≡◌, ◌<◌, ◌+◌, ◌^◌, arith, ◌++◌, ◌∷◌, ◌||◌, ℕ, List, [], Bool, true, false, Option, Some, None, subst, length, refl, sym, ap, ◌∙◌, append_assoc, append-nil, codes}
use Rattle.std.specs.Fmt.{decimal}
use Rattle.std.specs.Io.KnownBytes.{Appends}
use Rattle.std.specs.Option.{IfSome}
use Rattle.std.proofs.lemmas.List.Sums.{count_by-le-length, sum_by_push}
use Rattle.capture_files.specs.Captures.{known_of, packets_read, rest_of, size_of_file}
use Rattle.capture_files.specs.Datagrams.{Carried}
use Rattle.capture_files.specs.Files.{Gives}
use Rattle.capture_files.specs.declared.capture.Capture.{Capture}
use Rattle.capture_files.specs.declared.packet.Packet.{Packet}
use Rattle.line_streams.specs.Texts.{Stream}
use Rattle.lsr_facts.specs.Refusals.{number_of}
use Rattle.lsr_facts.specs.declared.refusal.Refusal.{Refusal}
use Rattle.lsr_text.specs.Answers.{refusal_line}
use Rattle.lsr_text.specs.Names.{name_of}
use Rattle.lsr_decode.specs.Files.{DecodesFile, IsBlock, Shows, ShowsFound, ShowsPacket, ShowsPackets, carried_by, counted, counts_of, counts_text, has_message, is_cut, is_fragment, is_other, message_in, one_if}
use Rattle.lsr_decode.specs.declared.files.Counts.{Counts}
use Rattle.lsr_decode.specs.declared.files.FileEnding.{FileEnding}
use Rattle.lsr_decode.specs.declared.files.FileEnding.TheVariants as endings

-- These packets stand between a reader's beginning and its place. Their messages were printed, and they were counted.
pub record IsShown (fields : Bool) (file : List ℕ) (first here : Capture) (old new : Option (List ℕ)) (refused : Bool) (counts : Counts) : Type 0 where
  pub packets : List Packet
  pub printed : List ℕ
  pub gives : Gives (known_of first) (rest_of first) packets (known_of here) (rest_of here)
  pub number : packets_read here ≡ length packets
  pub size : size_of_file here ≡ length file
  pub told : Appends old new printed
  pub shows : ShowsPackets fields packets printed refused
  pub all : counts ≡ counts_of packets

or_assoc : (a b c : Bool) → ((a || b) || c) ≡ (a || (b || c))
or_assoc true b c = refl
or_assoc false b c = refl

or_false : (a : Bool) → (a || false) ≡ a
or_false true = refl
or_false false = refl

-- one more packet is printed after these
pub shows_more : (fields : Bool) (packets : List Packet) (packet : Packet) (printed block : List ℕ) (refused bad : Bool) → ShowsPackets fields packets printed refused → ShowsPacket fields packet block bad
    → ShowsPackets fields (packets ++ packet ∷ []) (printed ++ block) (refused || bad)
shows_more fields [] packet printed block refused bad (nothing, none) shows =
    (block, [], bad, false, ap (λ l. l ++ block) nothing ∙ sym (append-nil block), ap (λ r. r || bad) none ∙ sym (or_false bad), shows, (refl, refl))
shows_more fields (first ∷ packets) packet printed block refused bad (part, rest, was, later, parts, is, shows_first, shows_rest) shows = (
  part,
  rest ++ block,
  was,
  later || bad,
  ap (λ l. l ++ block) parts ∙ append_assoc part rest block,
  ap (λ r. r || bad) is ∙ or_assoc was later bad,
  shows_first,
  shows_more fields packets packet rest block later bad shows_rest shows,
)

-- and counted with them
pub counts_more : (packets : List Packet) (packet : Packet) → counted (counts_of packets) (carried_by packet) ≡ counts_of (packets ++ packet ∷ [])
counts_more packets packet =
    let messages = sum_by_push (λ p. one_if (has_message p)) packets packet in
    let fragments = sum_by_push (λ p. one_if (is_fragment p)) packets packet in
    let cut = sum_by_push (λ p. one_if (is_cut p)) packets packet in
    let others = sum_by_push (λ p. one_if (is_other p)) packets packet in
    rw (messages, fragments, cut, others) refl

-- no kind has more packets than there are, so that one more of it can be counted
pub has_room : (packets : List Packet) (counts : Counts) → counts ≡ counts_of packets → length packets + 1 < 2 ^ 64
    → (counts.messages + 1 < 2 ^ 64) × (counts.fragments + 1 < 2 ^ 64) × (counts.cut + 1 < 2 ^ 64) × (counts.others + 1 < 2 ^ 64)
has_room packets counts all fits =
    let messages = count_by-le-length has_message packets in
    let fragments = count_by-le-length is_fragment packets in
    let cut = count_by-le-length is_cut packets in
    let others = count_by-le-length is_other packets in
    rw all (omega (arith, messages, fits), omega (arith, fragments, fits), omega (arith, cut, fits), omega (arith, others, fits))

-- what is printed for a file that was read
pub decoded : (fields : Bool) (stream : Stream) (file blocks printed : List ℕ) (packets : List Packet) (counts : Counts) (ending : FileEnding) → IfSome stream.bytes (λ all. file ≡ all) → Shows fields file packets blocks ending → counts ≡ counts_of packets → printed ≡ blocks ++ counts_text counts
    → DecodesFile fields stream printed ending
decoded fields stream file blocks printed packets counts (endings.Whole refused) read shows all shown =
    (file, read, record { packets = packets; blocks = blocks; shows = shows; shown = shown ∙ ap (λ k. blocks ++ counts_text k) all })
decoded fields stream file blocks printed packets counts (endings.Damaged fault) read shows all shown =
    (file, read, record { packets = packets; blocks = blocks; shows = shows; shown = shown ∙ ap (λ k. blocks ++ counts_text k) all })
decoded fields stream file blocks printed packets counts (endings.Unread fault) read shows all shown = absurd shows

-- what a packet carries that was taken apart
pub shows_message : (fields : Bool) (packet : Packet) (content : Carried) (message block : List ℕ) (bad : Bool) → content ≡ carried_by packet → Some message ≡ message_in content → IsBlock fields packet message block bad → ShowsPacket fields packet block bad
shows_message fields packet content message block bad same found shows =
    subst (λ m. ShowsFound fields packet m block bad) (found ∙ ap message_in same) shows

pub shows_none : (fields : Bool) (packet : Packet) (content : Carried) → content ≡ carried_by packet → None ≡ message_in content → ShowsPacket fields packet [] false
shows_none fields packet content same found =
    subst (λ m. ShowsFound fields packet m [] false) (found ∙ ap message_in same) (refl, refl)

-- what is told of a refused message, and an empty line
line_ends : (kind name : List ℕ) → (codes "refused " ++ (kind ++ (codes " " ++ (name ++ codes "\n\n")))) ≡ ((codes "refused " ++ (kind ++ (codes " " ++ (name ++ codes "\n")))) ++ codes "\n")
line_ends kind name =
    ap (λ (l : List ℕ). codes "refused " ++ l) (sym (append_assoc kind (codes " " ++ (name ++ codes "\n")) (codes "\n") ∙ ap (λ (l : List ℕ). kind ++ (codes " " ++ l)) (append_assoc name (codes "\n") (codes "\n"))))

pub refusal_told : (refusal : Refusal) (kind : ℕ) (name : List ℕ) (old new : Option (List ℕ)) → kind ≡ number_of refusal → name ≡ name_of refusal → Appends old new (codes "refused " ++ (decimal kind ++ (codes " " ++ (name ++ codes "\n\n")))) → Appends old new (refusal_line refusal ++ codes "\n")
refusal_told refusal kind name old new k n told =
    let kinds = ap (λ (m : ℕ). codes "refused " ++ (decimal m ++ (codes " " ++ (name ++ codes "\n\n")))) k in
    let names = ap (λ (l : List ℕ). codes "refused " ++ (decimal (number_of refusal) ++ (codes " " ++ (l ++ codes "\n\n")))) n in
    subst (λ (l : List ℕ). Appends old new l) (kinds ∙ names ∙ line_ends (decimal (number_of refusal)) (name_of refusal)) told
