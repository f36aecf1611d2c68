-- Three words of links, one after the other.
use Rattle.std.proofs.Common.{string_bytes, codes, ◌++◌}
use Rattle.object_text.specs.Fields.{affinity}
use Rattle.object_text.proofs.Growing.{grown_on}
use Rattle.object_text.proofs.values.push_affinities.Goals as goal

pub returns : goal.returns
returns c =
    let first = affinity (codes "exclude-any") c.args.affinities.exclude_any in
    let second = affinity (codes "include-any") c.args.affinities.include_any in
    let third = affinity (codes "include-all") c.args.affinities.include_all in
    let old = string_bytes c.args.text.now in
    let one = string_bytes c.push_affinity.new.text in
    let two = string_bytes c.push_affinity-2.new.text in
    let new = string_bytes c.push_affinity-3.new.text in
    grown_on c.push_affinity-3.result old one new first (second ++ third) c.in_ok-push_affinity.ensures
    (grown_on c.push_affinity-3.result one two new second third c.in_ok-push_affinity-2.ensures c.push_affinity-3.ensures)
