-- Priorities, flags, affinities and name, one after the other.
use Rattle.std.proofs.Common.{string_bytes, ◌++◌}
use Rattle.object_text.specs.Fields.{affinities_words, name_words, priority_words}
use Rattle.object_text.specs.Flags.{attribute_flags}
use Rattle.object_text.proofs.Growing.{grown_on}
use Rattle.object_text.proofs.values.push_attribute.Goals as goal

pub returns : goal.returns
returns c =
    let a = c.args.attr.now in
    let flags = attribute_flags a.flags in
    let links = affinities_words a.affinities in
    let name = name_words a.name in
    let old = string_bytes c.args.text.now in
    let one = string_bytes c.push_priorities.new.text in
    let two = string_bytes c.push_attribute_flags.new.text in
    let three = string_bytes c.push_some_affinities.new.text in
    let new = string_bytes c.push_name.new.text in
    let r = c.push_name.result in
    grown_on r old one new (priority_words a.setup a.hold) (flags ++ (links ++ name)) c.in_ok-push_priorities.ensures
    (grown_on r one two new flags (links ++ name) c.in_ok-push_attribute_flags.ensures
    (grown_on r two three new links name c.in_ok-push_some_affinities.ensures (rw c.as_slice.ensures.bytes at c.push_name.ensures)))
