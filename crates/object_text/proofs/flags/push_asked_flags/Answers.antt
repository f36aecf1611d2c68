-- The names of three flags, one after the other.
use Rattle.std.proofs.Common.{string_bytes, codes, ◌++◌}
use Rattle.object_text.specs.Flags.{asked_flags, flag_word}
use Rattle.object_text.proofs.Growing.{grown_on}
use Rattle.object_text.proofs.flags.push_asked_flags.Goals as goal

pub returns : goal.returns
unfolding asked_flags
returns c =
    let first = flag_word c.args.flags 1 (codes "local-protection") in
    let second = flag_word c.args.flags 2 (codes "label-recording") in
    let third = flag_word c.args.flags 4 (codes "se-style") in
    let old = string_bytes c.args.text.now in
    let one = string_bytes c.push_flag.new.text in
    let two = string_bytes c.push_flag-2.new.text in
    let new = string_bytes c.push_flag-3.new.text in
    grown_on c.push_flag-3.result old one new first (second ++ third) c.in_ok-push_flag.ensures
    (grown_on c.push_flag-3.result one two new second third c.in_ok-push_flag-2.ensures c.push_flag-3.ensures)
