-- The value under the key is cut, or there is none.
use Rattle.std.proofs.Common.{sym, ap, ◌∙◌}
use Rattle.toml.specs.View.{view, members_view}
use Rattle.config_text.specs.Cuts.{cut_value}
use Rattle.config_text.proofs.Cutting.{cut_found, cut_missing}
use Rattle.config_text.proofs.cuts.cut_at.Goals as goal

pub returns-in-Some : goal.returns-in-Some
returns-in-Some c =
    let k = c.args.name.now in
    let es = c.args.table.now.entries in
    let w = c.cut_value.result in
    let held = (c.get_mut.follows.holds w).0 in
    ap members_view held ∙ cut_found k c.args.count es c.in-Some.value.now w (sym (rw c.in-Some.is at c.get_mut.ensures.value)) (c.cut_value.ensures ∙ ap (λ v. cut_value c.args.count (view v)) c.replace-whole.ensures.value)

pub returns-in_default : goal.returns-in_default
returns-in_default c =
    let k = c.args.name.now in
    let es = c.args.table.now.entries in
    ap (λ m. members_view m.entries) c.get_mut.follows.holds-at-none ∙ cut_missing k c.args.count es (sym (rw c.in_default.is at c.get_mut.ensures.value))
