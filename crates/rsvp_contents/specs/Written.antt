-- How a message is written: its objects in their order, behind the common header.
use Rattle.std.specs.Prelude.{ℕ, ◌+◌, not, ◌==◌, List, [], ◌∷◌, ◌++◌, Option, Some, None, length, map, filter}
use Rattle.std.specs.List.{flat_map}
use Rattle.byteorder.specs.Endian.{big_bytes}
use Rattle.internet_checksum.specs.Checksums.{with_checksum, checksum_of}
use Rattle.rsvp_objects.specs.declared.object.Object.{Object}
use Rattle.rsvp_objects.specs.declared.object.Object.TheVariants as objects
use Rattle.rsvp_objects.specs.Raw.{Raw}
use Rattle.rsvp_objects.specs.Objects.{spelling}
use Rattle.rsvp_contents.specs.declared.messages.Path.{Path}
use Rattle.rsvp_contents.specs.declared.messages.PathErr.{PathErr}
use Rattle.rsvp_contents.specs.declared.messages.PathTear.{PathTear}
use Rattle.rsvp_contents.specs.Errors.{error_objects}
pub use Rattle.rsvp_contents.specs.Flows.{if_some}
use Rattle.rsvp_contents.specs.Flows.{flow_objects}
use Rattle.rsvp_contents.specs.declared.messages.Resv.{Resv}
use Rattle.rsvp_contents.specs.declared.messages.ResvErr.{ResvErr}
use Rattle.rsvp_contents.specs.declared.messages.ResvTear.{ResvTear}
use Rattle.rsvp_contents.specs.declared.messages.Content.{Content}
use Rattle.rsvp_contents.specs.declared.messages.Content.TheVariants as contents

-- what is passed on, but for the ADSPEC; and the ADSPEC
abbrev pub before_sender : List Raw → List Object
before_sender passing = map objects.Other (filter (λ o. not (o.class == 13)) passing)

abbrev pub adspec : List Raw → List Object
adspec passing = map objects.Other (filter (λ o. o.class == 13) passing)

-- Path (RFC 2205, 3.1.3; RFC 3209, 3.1; RFC 4090, 4.1): the sender descriptor stands last.
abbrev pub path_objects : Path → List Object
path_objects p =
    (objects.Session p.session ∷ objects.Hop p.hop ∷ objects.TimeValues p.time ∷ [])
    ++ (if_some p.route objects.ExplicitRoute
    ++ ((objects.LabelRequest p.label_request ∷ [])
    ++ (if_some p.attr objects.SessionAttribute
    ++ (if_some p.fast_reroute objects.FastReroute
    ++ (before_sender p.passing
    ++ ((objects.SenderTemplate p.sender ∷ objects.SenderTspec p.tspec ∷ [])
    ++ (adspec p.passing
    ++ if_some p.recorded objects.RecordRoute)))))))

-- PathErr (RFC 2205, 3.1.7)
abbrev pub path_err_objects : PathErr → List Object
path_err_objects e =
    (objects.Session e.session ∷ objects.ErrorSpec e.error ∷ objects.SenderTemplate e.sender ∷ []) ++ if_some e.tspec objects.SenderTspec

-- PathTear (RFC 2205, 3.1.5)
abbrev pub path_tear_objects : PathTear → List Object
path_tear_objects t = objects.Session t.session ∷ objects.Hop t.hop ∷ objects.SenderTemplate t.sender ∷ []

-- Resv (RFC 2205, 3.1.4; RFC 3209, 3.2)
abbrev pub resv_objects : Resv → List Object
resv_objects r =
    (objects.Session r.session ∷ objects.Hop r.hop ∷ objects.TimeValues r.time ∷ [])
    ++ (map objects.Other r.passing ++ (objects.Style r.style ∷ flow_objects None r.descriptors))

-- ResvErr (RFC 2205, 3.1.8)
abbrev pub resv_err_objects : ResvErr → List Object
resv_err_objects e = objects.Session e.session ∷ objects.Hop e.hop ∷ objects.ErrorSpec e.error ∷ objects.Style e.style ∷ error_objects None e.descriptors

-- ResvTear (RFC 2205, 3.1.6)
abbrev pub resv_tear_objects : ResvTear → List Object
resv_tear_objects t = objects.Session t.session ∷ objects.Hop t.hop ∷ objects.Style t.style ∷ map objects.FilterSpec t.filters

abbrev pub objects_of : Content → List Object
objects_of (contents.Path p) = path_objects p
objects_of (contents.PathErr e) = path_err_objects e
objects_of (contents.PathTear t) = path_tear_objects t
objects_of (contents.Resv r) = resv_objects r
objects_of (contents.ResvErr e) = resv_err_objects e
objects_of (contents.ResvTear t) = resv_tear_objects t

-- the type of the message (RFC 2205, 3.1.1)
abbrev pub type_of : Content → ℕ
type_of (contents.Path p) = 1
type_of (contents.PathErr e) = 3
type_of (contents.PathTear t) = 5
type_of (contents.Resv r) = 2
type_of (contents.ResvErr e) = 4
type_of (contents.ResvTear t) = 6

abbrev pub body_of : Content → List ℕ
body_of content = flat_map spelling (objects_of content)

-- The common header (RFC 2205, 3.1.1) before a body: version 1 with no flags, the type, no checksum yet,
-- Send_TTL 255, a reserved byte and the length of it all.
abbrev pub with_header : ℕ → List ℕ → List ℕ
with_header type body = 16 ∷ type ∷ 0 ∷ 0 ∷ 255 ∷ 0 ∷ (big_bytes 2 (8 + length body) ++ body)

-- The message's bytes: the checksum of the whole stands in its field.
abbrev pub message_bytes : Content → List ℕ
message_bytes content =
    let bytes = with_header (type_of content) (body_of content) in with_checksum (checksum_of bytes) bytes
