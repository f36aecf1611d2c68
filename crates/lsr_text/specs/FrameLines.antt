-- What is printed of a frame that is sent, and of a payload that is delivered.
use Rattle.std.specs.Prelude.{◌==◌, ℕ, List, ◌++◌, codes, drop, if◌then◌else◌}
use Rattle.std.specs.Fmt.{decimal}
use Rattle.hex.specs.Hex.{encode_lower}
use Rattle.link_frames.specs.Frames.{frame_bytes, kind_of}
use Rattle.link_frames.specs.declared.frame.Frame.{Frame}

-- `WORD LINK HEX`: bytes, and the link that they go or came by
abbrev pub bytes_words : List ℕ → ℕ → List ℕ → List ℕ
bytes_words word link bytes = word ++ (codes " " ++ (decimal link ++ (codes " " ++ encode_lower bytes)))

-- the same as a line
abbrev pub bytes_line : List ℕ → ℕ → List ℕ → List ℕ
bytes_line word link bytes = bytes_words word link bytes ++ codes "\n"

-- The bytes of a frame: `tx LINK HEX`, the message of a Hop frame, which stands after its kind; or `frame LINK HEX`, the whole of another
-- frame.
abbrev pub written_line : ℕ → List ℕ → List ℕ
written_line link bytes = if kind_of bytes == 1 then bytes_line (codes "tx") link (drop 1 bytes) else bytes_line (codes "frame") link bytes

-- a frame, by its bytes
abbrev pub sent_line : ℕ → Frame → List ℕ
sent_line link frame = written_line link (frame_bytes frame)

-- `deliver HEX`, the bytes of a payload that has arrived
abbrev pub delivery_line : List ℕ → List ℕ
delivery_line content = codes "deliver " ++ (encode_lower content ++ codes "\n")
