-- What an object says: its class and its fields, each after its name.
use Rattle.std.specs.Prelude.{ℕ, ◌%◌, ◌==◌, List, [], ◌++◌, codes, Option, Some, None, if◌then◌else◌}
use Rattle.std.specs.Char.{is_ascii_graphic}
use Rattle.std.specs.Fmt.{decimal}
use Rattle.std.specs.List.{list_all}
use Rattle.std.specs.declared.net.Ipv4Addr.{Ipv4Addr}
use Rattle.byteorder.specs.Endian.{big_bytes}
use Rattle.hex.specs.Hex.{encode_lower}
use Rattle.rsvp_objects.specs.Kinds.{kind_of}
use Rattle.rsvp_objects.specs.Objects.{raw_of}
use Rattle.rsvp_objects.specs.Raw.{Raw}
use Rattle.rsvp_objects.specs.declared.object.Object.{Object}
use Rattle.rsvp_objects.specs.declared.object.Object.TheVariants as objects
use Rattle.rsvp_objects.specs.declared.values.ErrorSpec.{ErrorSpec}
use Rattle.rsvp_objects.specs.declared.values.FastReroute.{FastReroute}
use Rattle.rsvp_objects.specs.declared.values.Hop.{Hop}
use Rattle.rsvp_objects.specs.declared.values.Session.{Session}
use Rattle.rsvp_objects.specs.declared.values.Template.{Template}
use Rattle.rsvp_bodies.specs.declared.affinities.Affinities.{Affinities}
use Rattle.rsvp_bodies.specs.declared.attr.Attr.{Attr}
use Rattle.object_text.specs.Classes.{kind_words}
use Rattle.object_text.specs.Errors.{error_name}
use Rattle.object_text.specs.Flags.{attribute_flags, error_flags, reroute_flags}
use Rattle.object_text.specs.Routes.{steps_text, traces_text}
use Rattle.object_text.specs.Traffic.{amount_words, traffic_words}
use Rattle.object_text.specs.Words.{address_text, digits_word, next_word, word_text}

abbrev pub session_words : Session → List ℕ
session_words s =
    codes " endpoint " ++ (address_text s.endpoint ++ (codes " tunnel " ++ (decimal s.tunnel ++ (codes " extended " ++ address_text s.extended))))

abbrev pub hop_words : Hop → List ℕ
hop_words h = codes " address " ++ (address_text h.address ++ (codes " lih " ++ decimal h.interface))

-- the refresh period in milliseconds
abbrev pub refresh_words : ℕ → List ℕ
refresh_words refresh_ms = codes " refresh " ++ (decimal refresh_ms ++ codes " ms")

-- the router that found an error
unfoldable pub node_words : Ipv4Addr → List ℕ
node_words node = codes " node " ++ address_text node

-- `CODE/VALUE`, and the error's name, if it has one
unfoldable pub named_error : ℕ → ℕ → List ℕ
named_error code value = codes " error " ++ (decimal code ++ (codes "/" ++ (decimal value ++ next_word (error_name code value))))

abbrev pub error_words : ErrorSpec → List ℕ
error_words e = node_words e.node ++ (error_flags e.flags ++ named_error e.code e.value)

-- the style, in the low five bits of the option vector (RFC 2205, A.7)
unfoldable pub style_name : ℕ → List ℕ
style_name word =
    if word % 32 == 10 then codes "fixed-filter" else
    if word % 32 == 17 then codes "wildcard-filter" else
    if word % 32 == 18 then codes "shared-explicit" else
    codes "unknown"

-- the style, and the word that it stands in
abbrev pub style_words : ℕ → List ℕ
style_words word = codes " " ++ (style_name word ++ (codes " word " ++ word_text word))

abbrev pub template_words : Template → List ℕ
template_words t = codes " sender " ++ (address_text t.sender ++ (codes " lsp " ++ decimal t.lsp))

abbrev pub label_words : ℕ → List ℕ
label_words label = codes " label " ++ decimal label

-- the EtherTypes of what an LSP may carry
unfoldable pub protocol_name : ℕ → List ℕ
protocol_name l3pid = if l3pid == 0x0800 then codes "IPv4" else if l3pid == 0x86dd then codes "IPv6" else []

abbrev pub request_words : ℕ → List ℕ
request_words l3pid = codes " l3pid " ++ (encode_lower (big_bytes 2 l3pid) ++ next_word (protocol_name l3pid))

abbrev pub priority_words : ℕ → ℕ → List ℕ
priority_words setup hold = codes " setup " ++ (decimal setup ++ (codes " hold " ++ decimal hold))

-- links by the bits of a word, after its name (RFC 3209, 4.7.1)
unfoldable pub affinity : List ℕ → ℕ → List ℕ
affinity name word = codes " " ++ (name ++ (codes " " ++ word_text word))

abbrev pub affinity_words : Affinities → List ℕ
affinity_words a =
    affinity (codes "exclude-any") a.exclude_any ++ (affinity (codes "include-any") a.include_any ++ affinity (codes "include-all") a.include_all)

abbrev pub reroute_words : FastReroute → List ℕ
reroute_words f =
    priority_words f.setup f.hold ++ (codes " hop-limit " ++ (decimal f.hop_limit ++ (reroute_flags f.flags ++ (amount_words (codes "bandwidth") f.bandwidth ++ affinity_words f.affinities))))

-- affinities, where there are some
abbrev pub affinities_words : Option Affinities → List ℕ
affinities_words None = []
affinities_words (Some affinities) = affinity_words affinities

-- a name of printed characters
abbrev pub printed_name : List ℕ → List ℕ
printed_name name = codes " name" ++ next_word name

-- the bytes of a name that has others
abbrev pub hidden_name : List ℕ → List ℕ
hidden_name name = codes " name-bytes" ++ digits_word name

-- a name of printed characters of ASCII, none of them a space; of another one its bytes in hexadecimal digits
unfoldable pub name_words : List ℕ → List ℕ
name_words name =
    if list_all is_ascii_graphic name then printed_name name else hidden_name name

abbrev pub attribute_words : Attr → List ℕ
attribute_words a =
    priority_words a.setup a.hold ++ (attribute_flags a.flags ++ (affinities_words a.affinities ++ name_words a.name))

-- what an object says on the line of its class; of one that is kept as its bytes nothing
unfoldable pub words_of : Object → List ℕ
words_of (objects.Session s) = session_words s
words_of (objects.Hop h) = hop_words h
words_of (objects.TimeValues t) = refresh_words t.refresh_ms
words_of (objects.ErrorSpec e) = error_words e
words_of (objects.Style s) = style_words s.word
words_of (objects.Flowspec body) = traffic_words body
words_of (objects.FilterSpec t) = template_words t
words_of (objects.SenderTemplate t) = template_words t
words_of (objects.SenderTspec body) = traffic_words body
words_of (objects.Label l) = label_words l.number
words_of (objects.LabelRequest r) = request_words r.l3pid
words_of (objects.ExplicitRoute route) = []
words_of (objects.RecordRoute entries) = []
words_of (objects.FastReroute f) = reroute_words f
words_of (objects.SessionAttribute a) = attribute_words a
words_of (objects.Other raw) = []

-- a line for each subobject of a route
unfoldable pub subobject_lines : Object → List ℕ
subobject_lines (objects.ExplicitRoute route) = steps_text route
subobject_lines (objects.RecordRoute entries) = traces_text entries
subobject_lines _ = []

-- the lines of an object that is written so: its class and what it says, and in routes a line for each subobject
abbrev pub fields_of : Raw → Object → List ℕ
fields_of raw object =
    codes "  " ++ (kind_words (kind_of raw.class raw.ctype) raw.class raw.ctype ++ (words_of object ++ (codes "\n" ++ subobject_lines object)))

abbrev pub fields_text : Object → List ℕ
fields_text object = fields_of (raw_of object) object
