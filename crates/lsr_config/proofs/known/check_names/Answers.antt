use Rattle.std.proofs.Common.{◌≡◌, ◌++◌, map, sym, ap, ◌∙◌}
use Rattle.std.proofs.lemmas.Map.Iter.{rest_so_far, rest_more, iter_end}
use Rattle.std.specs.Map.{keys_of}
use Rattle.std.specs.Map.Iter.{deref}
use Rattle.lsr_config.proofs.Naming.{names_kept, one_more_name, fault_of_name}
use Rattle.lsr_config.proofs.known.check_names.Goals as goal

pub returns-then-not-is_known : goal.returns-then-not-is_known
returns-then-not-is_known c =
    let start : c.into_iter-name-iterator.result ≡ keys_of c.args.table.now.entries = cc in
    let front = rest_so_far deref c.loop-name.yielded _ c.loop-name.name-iterator c.loop-name.yielded_by in
    let step = rest_more deref _ c.next.new.self _ c.in-Some.name c.in-Some.is c.next.ensures.steps in
    fault_of_name c.args.keys.now c.args.table.now.entries c.loop-name.yielded c.in-Some.name c.next.new.self _
    (sym start ∙ front ∙ ap (λ rest. map deref c.loop-name.yielded ++ rest) step)
    c.loop-name.invariant (rw c.as_str.ensures.value at (sym c.is_known.ensures ∙ c.if-not-is_known.true)) (rw c.as_str-then-not-is_known.ensures.value at c.unknown_key.ensures)

pub loop-name-preserved : goal.loop-name-preserved
loop-name-preserved c =
    one_more_name c.args.keys.now c.loop-name.yielded c.in-Some.name c.loop-name.invariant (rw c.as_str.ensures.value at (sym c.is_known.ensures ∙ c.if-not-is_known.false))

pub returns : goal.returns
returns c =
    let start : c.into_iter-name-iterator.result ≡ keys_of c.args.table.now.entries = cc in
    let all = iter_end deref (keys_of c.args.table.now.entries) c.loop-name.yielded _ _ c.next.new.self _ start c.loop-name.yielded_by c.in-None.is c.next.ensures.steps in
    (names_kept c.args.keys.now c.args.table.now.entries c.loop-name.yielded all.0 c.loop-name.invariant, tt)
