-- What `decode FILE` prints for a capture file: the messages that its packets carry, and how many packets carry none.
use Rattle.std.specs.Prelude.{◌≡◌, ◌==◌, ◌&&◌, ◌||◌, ◌⊎◌, ◌/◌, ◌%◌, ◌^◌, ◌-◌, ◌+◌, ℕ, List, [], ◌∷◌, ◌++◌, Bool, true, false, not, if◌then◌else◌, Option, Some, None, option_map, is_some, count_by, codes, cond}
use Rattle.std.specs.Duration.{as_nanos}
use Rattle.std.specs.Fmt.{decimal, format_spec, padded_integral}
use Rattle.std.specs.List.{list_any}
use Rattle.std.specs.Option.{IfSome}
use Rattle.capture_files.specs.Datagrams.{Carried, content_in, cut, fragment, other, rsvp, udp}
use Rattle.capture_files.specs.Files.{HasPackets}
use Rattle.capture_files.specs.declared.fault.CaptureFault.{CaptureFault}
use Rattle.capture_files.specs.declared.fault.Damage.{Damage}
use Rattle.capture_files.specs.declared.fault.Damage.TheVariants as damages
use Rattle.capture_files.specs.declared.packet.Packet.{Packet}
use Rattle.rsvp_contents.specs.declared.dropped.Dropped.{Dropped}
use Rattle.lsr_facts.specs.declared.refusal.Refusal.TheVariants.{Unread}
use Rattle.lsr_text.specs.Answers.{refusal_line}
use Rattle.line_streams.specs.Texts.{IsUnread, Stream, input_fault_text}
use Rattle.lsr_decode.specs.Decoding.{RefusesMessage, ShowsMessage}
use Rattle.lsr_decode.specs.declared.files.Counts.{Counts}
use Rattle.lsr_decode.specs.declared.files.FileEnding.{FileEnding}
use Rattle.lsr_decode.specs.declared.files.FileEnding.TheVariants as endings

-- whether a word is the name of a file: it has a dot or a slash
abbrev pub is_file_name : List ℕ → Bool
is_file_name word = list_any (λ byte. byte == 46 || byte == 47) word

-- whether a message's first byte says version 1, in its upper half
abbrev pub is_of_version : List ℕ → Bool
is_of_version [] = false
is_of_version (first ∷ rest) = first / 16 == 1

-- the message of a Hop frame, which the payload of a UDP datagram may be: a byte 1, and after it a message of version 1
abbrev pub hop_message : List ℕ → Option (List ℕ)
hop_message [] = None
hop_message (kind ∷ message) = if kind == 1 && is_of_version message then Some message else None

-- the message that is carried: of protocol 46, or in a Hop frame
abbrev pub message_in : Carried → Option (List ℕ)
message_in (rsvp message) = Some message
message_in (udp source destination payload) = hop_message payload
message_in fragment = None
message_in cut = None
message_in other = None

-- what a packet carries
abbrev pub carried_by : Packet → Carried
carried_by packet = content_in packet.link_type packet.bytes.now

abbrev pub message_of : Packet → Option (List ℕ)
message_of packet = message_in (carried_by packet)

abbrev pub has_message : Packet → Bool
has_message packet = is_some (message_of packet)

abbrev pub is_fragment_in : Carried → Bool
is_fragment_in fragment = true
is_fragment_in _ = false

abbrev pub is_cut_in : Carried → Bool
is_cut_in cut = true
is_cut_in _ = false

abbrev pub is_fragment : Packet → Bool
is_fragment packet = is_fragment_in (carried_by packet)

abbrev pub is_cut : Packet → Bool
is_cut packet = is_cut_in (carried_by packet)

abbrev pub is_other_in : Carried → Bool
is_other_in carried = not (is_some (message_in carried)) && (not (is_fragment_in carried) && not (is_cut_in carried))

abbrev pub is_other : Packet → Bool
is_other packet = is_other_in (carried_by packet)

-- how many packets carry a message, and how many don't
abbrev pub counts_of : List Packet → Counts
counts_of packets =
    record {
      messages = count_by has_message packets;
      fragments = count_by is_fragment packets;
      cut = count_by is_cut packets;
      others = count_by is_other packets;
    }

-- with one packet more, of what it carries
abbrev pub one_if : Bool → ℕ
one_if b = cond b 1 0

abbrev pub counted : Counts → Carried → Counts
counted counts carried =
    record {
      messages = counts.messages + one_if (is_some (message_in carried));
      fragments = counts.fragments + one_if (is_fragment_in carried);
      cut = counts.cut + one_if (is_cut_in carried);
      others = counts.others + one_if (is_other_in carried);
    }

abbrev pub counts_text : Counts → List ℕ
counts_text counts =
    codes "messages " ++ (decimal counts.messages ++ (codes "\nfragments " ++ (decimal counts.fragments
    ++ (codes "\ncut " ++ (decimal counts.cut ++ (codes "\nothers " ++ (decimal counts.others ++ codes "\n")))))))

-- a number in nine digits, as `{:09}` writes it
abbrev pub nine_digits : ℕ → List ℕ
nine_digits n = padded_integral (format_spec 32 0 4 9 (2 ^ 64 - 1)) false [] (decimal n)

-- a time in seconds, by its nanoseconds
abbrev pub time_text : Option ℕ → List ℕ
time_text None = codes "unknown"
time_text (Some nanos) = decimal (nanos / 1_000_000_000) ++ (codes "." ++ nine_digits (nanos % 1_000_000_000))

-- a packet's number and time
abbrev pub heading_text : Packet → List ℕ
heading_text packet = codes "packet " ++ (decimal packet.number ++ (codes " " ++ (time_text (option_map as_nanos packet.time) ++ codes "\n")))

-- A packet's message under its heading, or why it is refused; and an empty line.
abbrev pub IsBlock : Bool → Packet → List ℕ → List ℕ → Bool → Type 0
IsBlock fields packet message block refused =
    ((refused ≡ false) × (text : List ℕ) × ShowsMessage fields message text × (block ≡ heading_text packet ++ (text ++ codes "\n")))
    ⊎ ((refused ≡ true) × (fault : Dropped) × RefusesMessage message fault × (block ≡ heading_text packet ++ (refusal_line (Unread fault) ++ codes "\n")))

-- what is printed for a packet, by its message
abbrev pub ShowsFound : Bool → Packet → Option (List ℕ) → List ℕ → Bool → Type 0
ShowsFound fields packet None block refused = (block ≡ []) × (refused ≡ false)
ShowsFound fields packet (Some message) block refused = IsBlock fields packet message block refused

abbrev pub ShowsPacket : Bool → Packet → List ℕ → Bool → Type 0
ShowsPacket fields packet block refused = ShowsFound fields packet (message_of packet) block refused

-- what is printed for packets, one after the other, and whether a message is refused
abbrev pub ShowsPackets : Bool → List Packet → List ℕ → Bool → Type 0
ShowsPackets fields [] printed refused = (printed ≡ []) × (refused ≡ false)
ShowsPackets fields (packet ∷ packets) printed refused =
    (block : List ℕ) × (rest : List ℕ) × (bad : Bool) × (later : Bool) × (printed ≡ block ++ rest) × (refused ≡ (bad || later))
    × ShowsPacket fields packet block bad × ShowsPackets fields packets rest later

-- A file has these packets, and their messages are printed: it is a whole capture file, and this says whether a message is
-- refused; or it breaks after them.
abbrev pub Shows : Bool → List ℕ → List Packet → List ℕ → FileEnding → Type 0
Shows fields file packets blocks (endings.Whole refused) = HasPackets file packets None × ShowsPackets fields packets blocks refused
Shows fields file packets blocks (endings.Damaged fault) =
    HasPackets file packets (Some fault) × (refused : Bool) × ShowsPackets fields packets blocks refused
Shows fields file packets blocks (endings.Unread fault) = ⊥

-- what is printed for the bytes of a file: the messages of its packets, and after them how many packets there are of each
-- kind
pub record DecodesBytes (fields : Bool) (file printed : List ℕ) (ending : FileEnding) : Type 0 where
  pub packets : List Packet
  pub blocks : List ℕ
  pub shows : Shows fields file packets blocks ending
  pub shown : printed ≡ blocks ++ counts_text (counts_of packets)

-- what is printed for a file's stream, all of whose bytes are read first
abbrev pub DecodesFile : Bool → Stream → List ℕ → FileEnding → Type 0
DecodesFile fields stream printed (endings.Unread fault) = (printed ≡ []) × IsUnread stream fault
DecodesFile fields stream printed ending = (file : List ℕ) × IfSome stream.bytes (λ all. file ≡ all) × DecodesBytes fields file printed ending

-- what is wrong with a capture file, and what to do
abbrev pub advice_of : Damage → List ℕ
advice_of damages.Short = codes "the file ends too early: copy it again, or let its capture end first"
advice_of damages.Magic = codes "this is no pcap and no pcapng file: look at its name, or convert it to pcap"
advice_of damages.Version = codes "its version is unknown: convert it to pcap"
advice_of damages.Length = codes "a length is wrong: copy the file again"
advice_of damages.Interface = codes "a packet's interface isn't described: convert the file to pcap"
advice_of damages.Memory = codes "there is no memory for an interface: free some and try again"

-- where the file of this name breaks
abbrev pub damage_text : List ℕ → CaptureFault → List ℕ
damage_text name fault = codes "damaged\n  " ++ (name ++ (codes ", byte " ++ (decimal fault.at ++ (codes ": " ++ (advice_of fault.damage ++ codes "\n")))))

-- what is told on the error stream
abbrev pub file_ending_text : List ℕ → FileEnding → List ℕ
file_ending_text name (endings.Whole refused) = []
file_ending_text name (endings.Damaged fault) = damage_text name fault
file_ending_text name (endings.Unread fault) = input_fault_text name fault

-- the status: 1 where a message is refused, or the file wasn't read to its end
abbrev pub file_status : FileEnding → ℕ
file_status (endings.Whole false) = 0
file_status (endings.Whole true) = 1
file_status (endings.Damaged fault) = 1
file_status (endings.Unread fault) = 1
