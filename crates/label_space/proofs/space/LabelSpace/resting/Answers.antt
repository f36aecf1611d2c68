use Rattle.std.proofs.Common.{◌≡◌, ◌+◌, ◌++◌, ◌<◌, ◌≤◌, ◌∷◌, [], ◌∙◌, ℕ, List, T, Some, None, ap, nat_lt, arith, sym, subst}
use Rattle.std.specs.FinMap.Entries.{find, is_sorted}
use Rattle.std.specs.Ordering.{nat_cmp}
use Rattle.std.proofs.lemmas.List.{append-nil}
use Rattle.sorted_rows.specs.ListLaws.{all-weaker}
use Rattle.sorted_rows.specs.RowsLaws.{is_sorted-filter}
use Rattle.label_space.specs.Bindings.{by_label}
use Rattle.label_space.specs.Labels.{IsLabelSpace, IsOf, Labels}
use Rattle.label_space.specs.RestLaws.{find-by_label, is_sorted-by_label}
use Rattle.label_space.proofs.Exporting.{none_below, row_at, rows_all, rows_below, rows_next, rows_own}
use Rattle.label_space.proofs.space.LabelSpace.resting.Goals as goal
use Rattle.label_space.proofs.space.LabelSpace.resting.Goals.{in-Some+in_ok-push, in_default}

pub loop-place-init : goal.loop-place-init
loop-place-init c =
    let labels = c.args.self.now in
    let own = rows_own labels (subst IsLabelSpace c.self.view_is c.self.invariant.known) in
    c.new-rows.ensures.items
    ∙ sym (none_below (labels.range.first + 0) (by_label labels.resting) (all-weaker (λ (row : ℕ × ℕ). IsOf labels.range row.0) (λ (row : ℕ × ℕ). labels.range.first + 0 ≤ row.0) (λ row is. omega (arith, is.from)) (by_label labels.resting) own))

pub loop-place-preserved : goal.loop-place-preserved
loop-place-preserved c =
    let labels = c.args.self.now in
    let rows = by_label labels.resting in
    let label = labels.range.first + c.loop-place.place in
    let next : label + 1 ≡ labels.range.first + (c.loop-place.place + 1) = omega arith in
    let more = sym (rows_next rows label (is_sorted-by_label labels.resting)) ∙ ap (λ l. rows_below l rows) next in
    let found : find nat_cmp label rows ≡ c.rests_until.result =
    find-by_label label labels.resting ∙ sym (c.rests_until.ensures ∙ ap (λ (l : Labels). find nat_cmp (l.range.first + c.loop-place.place) labels.resting) c.self.view_is) in
    elim c.match-rests_until.branch [
      | in-Some+in_ok-push w ↦
          ap (λ rs. rs.items) w.rows-is
          ∙ w.in_ok-push.ensures.items
          ∙ ap (λ l. l ++ (c.self.inside.range.first + c.loop-place.place, w.in-Some.until) ∷ []) c.loop-place.invariant
          ∙ ap (λ (l : Labels). rows_below label rows ++ (l.range.first + c.loop-place.place, w.in-Some.until) ∷ []) c.self.view_is
          ∙ ap (λ o. rows_below label rows ++ row_at label o) (sym (found ∙ w.in-Some.is))
          ∙ more
      | in_default w ↦
          ap (λ rs. rs.items) w.rows-is
          ∙ c.loop-place.invariant
          ∙ sym (append-nil (rows_below label rows))
          ∙ ap (λ o. rows_below label rows ++ row_at label o) (sym (found ∙ w.in_default.is))
          ∙ more
    ]

pub from_rows-requires : goal.from_rows-requires
from_rows-requires c =
    let labels = c.args.self.now in
    let rows = by_label labels.resting in
    subst (λ items. T (is_sorted nat_cmp items)) (sym c.loop-place.invariant) (is_sorted-filter nat_cmp (λ row. nat_lt row.0 (labels.range.first + c.loop-place.place)) rows (is_sorted-by_label labels.resting))

pub returns : goal.returns
returns c =
    let labels = c.args.self.now in
    let rows = by_label labels.resting in
    let own = rows_own labels (subst IsLabelSpace c.self.view_is c.self.invariant.known) in
    let is_first = ap (λ (l : Labels). l.range.first) c.self.view_is in
    let is_last = ap (λ (l : Labels). l.range.last) c.self.view_is in
    let last : labels.range.last < labels.range.first + c.loop-place.place = omega (arith, c.loop-place-test.false, is_first, is_last) in
    c.from_rows.ensures
    ∙ c.loop-place.invariant
    ∙ rows_all rows (labels.range.first + c.loop-place.place) (all-weaker (λ (row : ℕ × ℕ). IsOf labels.range row.0) (λ (row : ℕ × ℕ). row.0 < labels.range.first + c.loop-place.place) (λ row is. omega (arith, is.to, last)) rows own)
