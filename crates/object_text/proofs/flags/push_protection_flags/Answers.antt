-- The names of two flags, one after the other.
use Rattle.std.proofs.Common.{string_bytes, codes}
use Rattle.object_text.specs.Flags.{flag_word, protection_flags}
use Rattle.object_text.proofs.Growing.{grown_on}
use Rattle.object_text.proofs.flags.push_protection_flags.Goals as goal

pub returns : goal.returns
unfolding protection_flags
returns c =
    let first = flag_word c.args.flags c.args.bandwidth (codes "bandwidth-protection") in
    let second = flag_word c.args.flags c.args.node (codes "node-protection") in
    grown_on c.push_flag-2.result (string_bytes c.args.text.now) (string_bytes c.push_flag.new.text) (string_bytes c.push_flag-2.new.text) first second
    c.in_ok-push_flag.ensures c.push_flag-2.ensures
