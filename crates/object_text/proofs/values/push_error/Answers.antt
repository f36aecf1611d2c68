-- The node, the flags and the error, one after the other.
use Rattle.std.proofs.Common.{string_bytes, ◌++◌}
use Rattle.object_text.specs.Fields.{named_error, node_words}
use Rattle.object_text.specs.Flags.{error_flags}
use Rattle.object_text.proofs.Growing.{grown_on}
use Rattle.object_text.proofs.values.push_error.Goals as goal

pub returns : goal.returns
returns c =
    let e = c.args.error.now in
    let old = string_bytes c.args.text.now in
    let one = string_bytes c.push_node.new.text in
    let two = string_bytes c.push_error_flags.new.text in
    let new = string_bytes c.push_named_error.new.text in
    let r = c.push_named_error.result in
    grown_on r old one new (node_words e.node) (error_flags e.flags ++ named_error e.code e.value) c.in_ok-push_node.ensures
    (grown_on r one two new (error_flags e.flags) (named_error e.code e.value) c.in_ok-push_error_flags.ensures c.push_named_error.ensures)
