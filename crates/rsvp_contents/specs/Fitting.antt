-- Which content is a message, in plain words.
use Rattle.std.specs.Prelude.{ℕ, ◌+◌, ◌-◌, Bool, true, not, ◌&&◌, ◌||◌, ◌==◌, nat_le, List, length, take, map, false, Option, None, IfSome, ◌≤◌, count_by}
use Rattle.std.specs.Option.{option_map_or}
use Rattle.std.specs.List.{list_all, flat_map}
use Rattle.rsvp_objects.specs.declared.values.FastReroute.{FastReroute}
use Rattle.rsvp_objects.specs.declared.object.Object.TheVariants as objects
use Rattle.rsvp_objects.specs.Raw.{Raw}
use Rattle.rsvp_contents.specs.declared.messages.Path.{Path}
use Rattle.rsvp_objects.specs.Objects.{spelling}
use Rattle.rsvp_contents.specs.declared.descriptors.FlowDescriptor.{FlowDescriptor}
use Rattle.rsvp_contents.specs.Errors.{counts_on, error_objects}
use Rattle.rsvp_contents.specs.Flows.{fits_style, flow_objects}
use Rattle.rsvp_contents.specs.declared.messages.Resv.{Resv}
use Rattle.rsvp_contents.specs.declared.messages.Content.{Content}
use Rattle.rsvp_contents.specs.declared.messages.Content.TheVariants as contents
use Rattle.rsvp_contents.specs.Counting.{passes}
use Rattle.rsvp_contents.specs.Limits.{is_short_route, is_short_record, is_short_passing}
use Rattle.rsvp_contents.specs.Written.{body_of}

-- Each object is an ADSPEC, class 13, or one that a message of this type passes on.
abbrev pub are_passed_by : ℕ → List Raw → Bool
are_passed_by type passing = list_all (λ o. o.class == 13 || passes type (objects.Other o)) passing

-- or one that a Path, type 1, passes on
abbrev pub are_passed_on : List Raw → Bool
are_passed_on passing = are_passed_by 1 passing

-- None but the last is an ADSPEC.
abbrev pub has_adspec_last : List Raw → Bool
has_adspec_last passing = list_all (λ o. not (o.class == 13)) (take (length passing - 1) passing)

-- At most one object is of class 205, FAST_REROUTE: the Path's own, or one of another type that is passed on.
abbrev pub has_one_fast_reroute : Option FastReroute → List Raw → Bool
has_one_fast_reroute own passing = nat_le (option_map_or (λ _. 1) own 0 + count_by (λ o. o.class == 205) passing) 1

-- the parts of a Path fit
abbrev pub fits_path : Path → Bool
fits_path p =
    option_map_or is_short_route p.route true
    && (option_map_or is_short_record p.recorded true
    && (is_short_passing p.passing
    && (are_passed_on p.passing && (has_adspec_last p.passing && has_one_fast_reroute p.fast_reroute p.passing))))

-- The record of each flow descriptor, where it has one, is within its limits.
abbrev pub have_short_records : List FlowDescriptor → Bool
have_short_records ds = list_all (λ d. option_map_or is_short_record d.recorded true) ds

-- those of a Resv, type 2: the flow descriptors are such as its style has
abbrev pub fits_resv : Resv → Bool
fits_resv r =
    have_short_records r.descriptors
    && (is_short_passing r.passing
    && (are_passed_by 2 r.passing && (has_adspec_last r.passing && fits_style r.style r.descriptors)))

-- those of a ResvErr: behind a descriptor for which a FLOWSPEC counts one counts for each; those of a ResvTear:
-- it names an LSP; those of a PathErr and of a PathTear always fit
abbrev pub fits_parts : Content → Bool
fits_parts (contents.Path p) = fits_path p
fits_parts (contents.PathErr e) = true
fits_parts (contents.PathTear t) = true
fits_parts (contents.Resv r) = fits_resv r
fits_parts (contents.ResvErr e) = counts_on false e.descriptors
fits_parts (contents.ResvTear t) = not (length t.filters == 0)

-- how many bytes the message has, with its header
abbrev pub written_len : Content → ℕ
written_len content = 8 + length (body_of content)

-- The content fits a message: its parts do, and it is written in at most 4,096 bytes.
abbrev pub fits_content : Content → Bool
fits_content content = fits_parts content && nat_le (written_len content) 4096

-- The Tspec is so short that whatever else the content says, parts that fit leave room for it. A good one
-- has 32 bytes. Of a message with flow descriptors these are so short.
abbrev pub HasRoom : Content → Type 0
HasRoom (contents.Path p) = length p.tspec ≤ 104
HasRoom (contents.PathErr e) = IfSome e.tspec (λ tspec. length tspec ≤ 4044)
HasRoom (contents.PathTear t) = Unit {0}
HasRoom (contents.Resv r) = length (flat_map spelling (flow_objects None r.descriptors)) ≤ 1964
HasRoom (contents.ResvErr e) = length (flat_map spelling (error_objects None e.descriptors)) ≤ 4040
HasRoom (contents.ResvTear t) = length (flat_map spelling (map objects.FilterSpec t.filters)) ≤ 4052
