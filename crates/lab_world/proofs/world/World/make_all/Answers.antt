-- The moves so far are runs, and one more is made or stops them.
use Rattle.std.specs.Prelude.{◌≡◌, ◌+◌, ◌++◌, [], ◌∷◌, List, Some, length, slice_get, take}
use Rattle.std.proofs.Common.{rules, ap, refl, subst, sym, ◌∙◌}
use Rattle.std.proofs.lemmas.List.{take_all, take_more}
use Rattle.std.proofs.lemmas.Option.{slice_get_read}
use Rattle.std.proofs.lemmas.Result.{err_from_is_err_and}
use Rattle.abstract_world.specs.Moves.{AreMoved}
use Rattle.abstract_world.specs.Worlds.{WorldState}
use Rattle.abstract_world.specs.declared.moves.Move.{Move}
use Rattle.abstract_world.specs.declared.told.Told.{Told}
use Rattle.lab_world.proofs.Moving.{moved_more}
use Rattle.lab_world.proofs.Running.{moves_are_runs}
use Rattle.lab_world.proofs.Stopping.{stops_at, stops_first}
use Rattle.lab_world.proofs.world.World.make_all.Goals as goal

pub returns-in_err-told : goal.returns-in_err-told
returns-in_err-told c =
    let p = err_from_is_err_and c.from_residual.result c.from_residual.ensures.1 in
    let w = c.args.self.now in
    let some : length c.args.moves.now ≡ 0 → ⊥ = λ none. absurd (let e = c.in_err-told.ensures.succeeds none in cc) in
    rw (p.1, p.2) (record {
      runs = ([], moves_are_runs c.every_run_stays_sound.ensures.step w [] [] [] w c.soundness.ensures.sound (refl, refl), stops_first w c.args.moves.now some);
    })

pub loop-one-preserved : goal.loop-one-preserved
loop-one-preserved c =
    let w = c.args.self.now in
    let moves = c.args.moves.now in
    let i = c.loop-one.one-index in
    let one = c.one-item.result in
    let before = c.loop-one.invariant in
    let more : take (i + 1) moves ≡ take i moves ++ one ∷ [] = take_more moves i one c.loop-one-test.true ∙ ap (λ (v : Move). take i moves ++ v ∷ []) (sym {A = Move} c.one-item.is) in
    let made = c.in_ok-make.ensures.moved in
    record {
      moved = (
        before.moved.0 ++ made.0,
        subst (λ (xs : List Move). AreMoved w xs c.push_reserved.new.self.items (before.moved.0 ++ made.0) c.make.new.self) (sym more)
            (subst (λ (tolds : List Told). AreMoved w (take i moves ++ one ∷ []) tolds (before.moved.0 ++ made.0) c.make.new.self) (sym c.push_reserved.ensures.items)
            (moved_more w (take i moves) c.loop-one.told.items before.moved.0 c.loop-one.self one c.in_ok-make.field-0 made.0 c.make.new.self before.moved.1 made.1)),
      );
      count = search rules;
      room = search rules;
    }

pub returns-in_err-make : goal.returns-in_err-make
returns-in_err-make c =
    let p = err_from_is_err_and c.from_residual-in_err-make.result c.from_residual-in_err-make.ensures.1 in
    let w = c.args.self.now in
    let moves = c.args.moves.now in
    let i = c.loop-one.one-index in
    let one = c.one-item.result in
    let before = c.loop-one.invariant.moved in
    let kept = c.in_err-make.ensures.kept in
    let at : slice_get moves i ≡ Some one = slice_get_read moves (length moves) i one refl c.loop-one-test.true c.one-item.is in
    let moved = subst (λ (v : WorldState). AreMoved w (take i moves) c.loop-one.told.items before.0 v) (sym kept) before.1 in
    rw (p.1, p.2) (record {
      runs = (
        before.0,
        moves_are_runs c.every_run_stays_sound.ensures.step w (take i moves) c.loop-one.told.items before.0 c.make.new.self c.soundness.ensures.sound moved,
        stops_at w moves i one c.loop-one.told.items before.0 c.loop-one.self c.in_err-make.field-0.0 c.make.new.self at before.1 kept c.in_err-make.ensures.stopped,
      );
    })

pub returns : goal.returns
returns c =
    let w = c.args.self.now in
    let moves = c.args.moves.now in
    let i = c.loop-one.one-index in
    let before = c.loop-one.invariant.moved in
    let moved = subst (λ (ms : List Move). AreMoved w ms c.loop-one.told.items before.0 c.loop-one.self) (take_all i moves c.loop-one-test.false) before.1 in
    record {
      runs = (before.0, moves_are_runs c.every_run_stays_sound.ensures.step w moves c.loop-one.told.items before.0 c.loop-one.self c.soundness.ensures.sound moved, moved);
    }
