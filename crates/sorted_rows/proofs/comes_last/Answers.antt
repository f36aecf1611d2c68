-- A key above the last goes behind all.
use Rattle.std.proofs.Common.{◌≡◌, ◌+◌, ◌-◌, length, arith, sym, ◌∙◌, get_or}
use Rattle.std.specs.declared.cmp.Ordering.TheVariants.{Less}
use Rattle.sorted_rows.proofs.Places.{lesser, put_last}
use Rattle.sorted_rows.proofs.comes_last.Goals as goal

pub returns-else-count-eq0 : goal.returns-else-count-eq0
returns-else-count-eq0 g c = λ above v.
    let rows = c.args.rows.now in
    let last = c.index-rows-count.result in
    let filled : length rows - 1 + 1 ≡ length rows = omega (arith, c.if-count-eq0.false) in
    let less : g.K.Ord.cmp (get_or rows (length rows - 1) last).0 c.args.key.now ≡ Less = sym c.cmp.ensures ∙ lesser c.cmp.result (sym c.is_lt.ensures ∙ above) in
    put_last g.K.Ord.cmp g.met.K.Ord.total c.args.key.now rows (length rows - 1) last c.requires filled less v
