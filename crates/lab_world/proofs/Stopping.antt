-- Moves that stop before one that can't be made.
use Rattle.std.specs.Prelude.{◌≡◌, ℕ, suc, zero, List, [], ◌∷◌, ◌++◌, length, slice_get, take, Some}
use Rattle.std.proofs.Common.{refl, ap, subst, sym}
use Rattle.lsr_facts.specs.declared.refusal.Refusal.{Refusal}
use Rattle.lsr_facts.specs.declared.refusal.Refusal.TheVariants.{NoMemory}
use Rattle.abstract_paths.specs.declared.events.Made.{Made}
use Rattle.abstract_world.specs.Moves.{AreMoved, IsStopFor, StopsAt}
use Rattle.abstract_world.specs.Worlds.{WorldState}
use Rattle.abstract_world.specs.declared.moves.Move.{Move}
use Rattle.abstract_world.specs.declared.moves.Move.TheVariants as moves
use Rattle.abstract_world.specs.declared.told.Told.{Told}

-- memory may run out for every move
pub memory_stops : (w : WorldState) (m : Move) → IsStopFor w m NoMemory
memory_stops w (moves.Deliver number) = tt
memory_stops w (moves.Repeat number) = tt
memory_stops w (moves.Tick router moment) = tt
memory_stops w (moves.LinkUp router link) = tt
memory_stops w (moves.LinkDown router link) = tt
memory_stops w (moves.Command router command) = tt
memory_stops w (moves.Restart router) = tt

-- there is no memory to tell of any move
pub stops_first : (w : WorldState) (ms : List Move) → (length ms ≡ 0 → ⊥) → StopsAt w ms NoMemory [] w
stops_first w [] some = absurd (some refl)
stops_first w (m ∷ ms) some = record { before = []; next = m; later = ms; moves_are = refl; told = []; made = (refl, refl); why = memory_stops w m }

-- those before one, that one, and those after it
parted : (ms : List Move) (i : ℕ) (m : Move) → slice_get ms i ≡ Some m → (later : List Move) × (ms ≡ take i ms ++ m ∷ later)
parted [] zero m is = absurd (let e = is in cc)
parted [] (suc i) m is = absurd (let e = is in cc)
parted (x ∷ ms) zero m is = let same : x ≡ m = let e = is in cc in (ms, ap (λ (v : Move). v ∷ ms) same)
parted (x ∷ ms) (suc i) m is = let more = parted ms i m is in (more.0, ap (λ (l : List Move). x ∷ l) more.1)

-- one can't be made
pub stops_at : (w : WorldState) (ms : List Move) (i : ℕ) (m : Move) (tolds : List Told) (steps : List (ℕ × Made)) (between : WorldState) (refusal : Refusal) (after : WorldState)
    → slice_get ms i ≡ Some m → AreMoved w (take i ms) tolds steps between → after ≡ between → IsStopFor between m refusal → StopsAt w ms refusal steps after
stops_at w ms i m tolds steps between refusal after is moved same why =
    let parts = parted ms i m is in
    record {
      before = take i ms;
      next = m;
      later = parts.0;
      moves_are = parts.1;
      told = tolds;
      made = subst (λ (v : WorldState). AreMoved w (take i ms) tolds steps v) (sym same) moved;
      why = subst (λ (v : WorldState). IsStopFor v m refusal) (sym same) why;
    }
