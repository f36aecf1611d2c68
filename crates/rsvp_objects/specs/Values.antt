-- The bodies of the objects of a fixed length: what their bytes say, by offsets, and how they are
-- written. Reserved bytes are not read and are written as zero.
use Rattle.std.specs.Prelude.{ℕ, List, ◌∷◌, ◌++◌, drop, slice_index}
use Rattle.std.specs.Net.Addr.{ipv4_octets}
use Rattle.byteorder.specs.Endian.{big_number, big_bytes}
use Rattle.rsvp_bodies.specs.Addresses.{address_at}
use Rattle.rsvp_objects.specs.declared.values.Session.{Session}
use Rattle.rsvp_objects.specs.declared.values.Hop.{Hop}
use Rattle.rsvp_objects.specs.declared.values.TimeValues.{TimeValues}
use Rattle.rsvp_objects.specs.declared.values.ErrorSpec.{ErrorSpec}
use Rattle.rsvp_objects.specs.declared.values.Style.{Style}
use Rattle.rsvp_objects.specs.declared.values.Template.{Template}
use Rattle.rsvp_objects.specs.declared.values.Label.{Label}
use Rattle.rsvp_objects.specs.declared.values.LabelRequest.{LabelRequest}
use Rattle.rsvp_objects.specs.declared.values.FastReroute.{FastReroute}

-- SESSION: endpoint, two reserved bytes, tunnel, extended tunnel ID (RFC 3209, 4.6.1.1)
abbrev pub session_at : List ℕ → Session
session_at body =
    record { endpoint = address_at body; tunnel = big_number 2 (drop 6 body); extended = address_at (drop 8 body) }

abbrev pub session_body : Session → List ℕ
session_body s = ipv4_octets s.endpoint ++ (0 ∷ 0 ∷ (big_bytes 2 s.tunnel ++ ipv4_octets s.extended))

-- RSVP_HOP: address, logical interface handle (RFC 2205, A.2)
abbrev pub hop_at : List ℕ → Hop
hop_at body = record { address = address_at body; interface = big_number 4 (drop 4 body) }

abbrev pub hop_body : Hop → List ℕ
hop_body h = ipv4_octets h.address ++ big_bytes 4 h.interface

-- TIME_VALUES: the refresh period (RFC 2205, A.4)
abbrev pub time_values_at : List ℕ → TimeValues
time_values_at body = record { refresh_ms = big_number 4 body }

abbrev pub time_values_body : TimeValues → List ℕ
time_values_body t = big_bytes 4 t.refresh_ms

-- ERROR_SPEC: node, flags, code, value (RFC 2205, A.5)
abbrev pub error_spec_at : List ℕ → ErrorSpec
error_spec_at body =
    record {
      node = address_at body;
      flags = slice_index body 4;
      code = slice_index body 5;
      value = big_number 2 (drop 6 body);
    }

abbrev pub error_spec_body : ErrorSpec → List ℕ
error_spec_body e = ipv4_octets e.node ++ (e.flags ∷ e.code ∷ big_bytes 2 e.value)

-- STYLE: flags and option vector in one word (RFC 2205, A.7)
abbrev pub style_at : List ℕ → Style
style_at body = record { word = big_number 4 body }

abbrev pub style_body : Style → List ℕ
style_body s = big_bytes 4 s.word

-- SENDER_TEMPLATE and FILTER_SPEC: sender, two reserved bytes, LSP ID (RFC 3209, 4.6.2.1 and 4.6.3.1)
abbrev pub template_at : List ℕ → Template
template_at body = record { sender = address_at body; lsp = big_number 2 (drop 6 body) }

abbrev pub template_body : Template → List ℕ
template_body t = ipv4_octets t.sender ++ (0 ∷ 0 ∷ big_bytes 2 t.lsp)

-- LABEL: the number in one word (RFC 3209, 4.1)
abbrev pub label_at : List ℕ → Label
label_at body = record { number = big_number 4 body }

abbrev pub label_body : Label → List ℕ
label_body l = big_bytes 4 l.number

-- LABEL_REQUEST: two reserved bytes, L3PID (RFC 3209, 4.2.1)
abbrev pub label_request_at : List ℕ → LabelRequest
label_request_at body = record { l3pid = big_number 2 (drop 2 body) }

abbrev pub label_request_body : LabelRequest → List ℕ
label_request_body r = 0 ∷ 0 ∷ big_bytes 2 r.l3pid

-- FAST_REROUTE: setup, hold, hop limit, flags, bandwidth, include-any, exclude-any, include-all
-- (RFC 4090, 4.1)
abbrev pub fast_reroute_at : List ℕ → FastReroute
fast_reroute_at body =
    record {
      setup = slice_index body 0;
      hold = slice_index body 1;
      hop_limit = slice_index body 2;
      flags = slice_index body 3;
      bandwidth = big_number 4 (drop 4 body);
      affinities =
          record {
            exclude_any = big_number 4 (drop 12 body);
            include_any = big_number 4 (drop 8 body);
            include_all = big_number 4 (drop 16 body);
          };
    }

abbrev pub fast_reroute_body : FastReroute → List ℕ
fast_reroute_body f =
    f.setup ∷ f.hold ∷ f.hop_limit ∷ f.flags
    ∷ (big_bytes 4 f.bandwidth ++ (big_bytes 4 f.affinities.include_any ++ (big_bytes 4 f.affinities.exclude_any ++ big_bytes 4 f.affinities.include_all)))
