-- Moves, one more after the others.
use Rattle.std.specs.Prelude.{ℕ, List, [], ◌∷◌, ◌++◌}
use Rattle.std.proofs.Common.{refl, ap, subst, sym, ◌∙◌}
use Rattle.std.proofs.lemmas.List.{append-nil, append_assoc}
use Rattle.abstract_paths.specs.declared.events.Made.{Made}
use Rattle.abstract_world.specs.Moves.{AreMoved, IsMoved}
use Rattle.abstract_world.specs.Worlds.{WorldState}
use Rattle.abstract_world.specs.declared.moves.Move.{Move}
use Rattle.abstract_world.specs.declared.told.Told.{Told}

-- one move more is made
pub moved_more : (w : WorldState) (ms : List Move) (tolds : List Told) (steps : List (ℕ × Made)) (between : WorldState) (m : Move) (told : Told) (more : List (ℕ × Made)) (after : WorldState)
    → AreMoved w ms tolds steps between → IsMoved between m told more after → AreMoved w (ms ++ m ∷ []) (tolds ++ told ∷ []) (steps ++ more) after
moved_more w [] [] steps between m told more after moved is =
    (after, more, [], subst (λ (v : WorldState). IsMoved v m told more after) moved.1 is, (refl, refl), ap (λ (l : List (ℕ × Made)). l ++ more) moved.0 ∙ sym (append-nil more))
moved_more w [] (one ∷ tolds) steps between m told more after moved is = absurd moved
moved_more w (one ∷ ms) [] steps between m told more after moved is = absurd moved
moved_more w (one ∷ ms) (first ∷ tolds) steps between m told more after moved is = (
  moved.0,
  moved.1,
  moved.2 ++ more,
  moved.3,
  moved_more moved.0 ms tolds moved.2 between m told more after moved.4 is,
  ap (λ (l : List (ℕ × Made)). l ++ more) moved.5 ∙ append_assoc moved.1 moved.2 more,
)
