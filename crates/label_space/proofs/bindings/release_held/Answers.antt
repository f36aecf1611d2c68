use Rattle.std.proofs.Common.{◌≡◌, ℕ, ◌+◌, ◌<◌, Some, arith, ap, drop, length, sym, subst, ◌∙◌}
use Rattle.std.specs.List.{slice_get}
use Rattle.std.specs.Option.{option_copied}
use Rattle.std.proofs.lemmas.Bool.{le-ltb}
use Rattle.std.proofs.lemmas.List.{drop_all}
use Rattle.std.proofs.lemmas.Option.{get_or_from_slice_get}
use Rattle.lsr_facts.specs.declared.key.Key.{Key}
use Rattle.slot_rows.proofs.RunRows.{got_within}
use Rattle.label_space.specs.Labels.{IsHeld, Labels, release}
use Rattle.label_space.specs.Bindings.{AreBound}
use Rattle.label_space.proofs.Binding.{bound-release_next, next_held}
use Rattle.label_space.proofs.bindings.release_held.Goals as goal
use Rattle.label_space.proofs.bindings.release_held.Goals.{in-Some, in_default}

pub release-requires : goal.release-requires
release-requires c =
    let rows = c.args.rows.now in
    let place = c.loop-place.place in
    let row = c.in-Some.row.now in
    let there : slice_get rows place ≡ Some row = sym c.in-Some.ensures in
    let within : place < length rows = omega arith in
    subst (λ (one : Key × ℕ). IsHeld c.loop-place.space one.1) (get_or_from_slice_get rows place row row there) (next_held c.loop-place.space rows place row within c.loop-place.invariant.bound)

pub loop-place-preserved : goal.loop-place-preserved
loop-place-preserved c =
    let rows = c.args.rows.now in
    let place = c.loop-place.place in
    let within : place < length rows = omega arith in
    elim c.match-row.branch [
      | in-Some w ↦
          let row = w.in-Some.row.now in
          let there : slice_get rows place ≡ Some row = sym w.in-Some.ensures in
          let released : c.match-row.space ≡ release c.loop-place.space row.1 0 = w.space-is ∙ w.release.ensures in
          let left = subst (λ (one : Key × ℕ). AreBound (release c.loop-place.space one.1 0) (drop (place + 1) rows)) (get_or_from_slice_get rows place row row there) (bound-release_next c.loop-place.space rows place row within c.loop-place.invariant.bound 0) in
          record {
            bound = rw released left;
            range = ap (λ (space : Labels). space.range) released ∙ c.loop-place.invariant.range;
            moment = ap (λ (space : Labels). space.moment) released ∙ c.loop-place.invariant.moment;
            resting = ap (λ (space : Labels). space.resting) released ∙ (rw (le-ltb c.loop-place.space.moment 0 (omega arith)) c.loop-place.invariant.resting);
          }
      | in_default w ↦ absurd (got_within rows place (sym c.row.ensures ∙ ap option_copied w.in_default.is) within)
    ]

pub returns : goal.returns
returns c = record {
  free = subst (AreBound c.loop-place.space) (drop_all c.loop-place.place c.args.rows.now (omega arith)) c.loop-place.invariant.bound;
  range = c.loop-place.invariant.range;
  moment = c.loop-place.invariant.moment;
  resting = c.loop-place.invariant.resting;
}
