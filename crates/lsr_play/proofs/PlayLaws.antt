-- Lines that were played so far, and one more; and how a run over them begins and ends.
use Rattle.std.proofs.Common.{◌≡◌, ◌+◌, ◌≤◌, ℕ, List, [], ◌∷◌, ◌++◌, Bor, Option, None, Some, Result, Ok, Err, MatchResult, inl, inr, refl, sym, ap, ◌∙◌, subst, length, append_assoc, append-nil}
use Rattle.std.specs.Str.{IsUtf8}
use Rattle.std.specs.Io.KnownBytes.{Appends, append_known}
use Rattle.abstract_paths.specs.declared.events.Made.{Made}
use Rattle.abstract_world.specs.Moves.{AreMoved, StopsAt}
use Rattle.abstract_world.specs.Runs.{AreRuns}
use Rattle.abstract_world.specs.Worlds.{WorldState}
use Rattle.abstract_world.specs.declared.moves.Move.{Move}
use Rattle.lab_world.specs.declared.move_run.Report.{Report}
use Rattle.line_streams.specs.Cuts.{lines_of}
use Rattle.lsr_config.specs.Configs.{Setup}
use Rattle.lsr_facts.specs.declared.refusal.Refusal.{Refusal}
use Rattle.lsr_play.specs.Answers.{told_in}
use Rattle.lsr_play.specs.Declaring.{Declaration}
use Rattle.lsr_play.specs.Making.{AreAnswered}
use Rattle.lsr_play.specs.Playing.{EndsOn, HoldsUp, PlaysLine, PlaysLines}
use Rattle.lsr_play.specs.declared.endings.PlayEnding.{PlayEnding}

pub plays_push : (names : List (Bor (List ℕ))) (a : WorldState) (lines : List (List ℕ)) (printed : List ℕ) (b : WorldState) (line text : List ℕ) (c : WorldState) → PlaysLines names a lines printed b → PlaysLine names b line text c → PlaysLines names a (lines ++ (line ∷ [])) (printed ++ text) c
plays_push names a [] printed b line text c h p =
    (text, [], c, ap (λ l. l ++ text) h.0 ∙ sym (append-nil text), subst (λ s. PlaysLine names s line text c) h.1 p, (refl, refl))
plays_push names a (first ∷ lines) printed b line text c h p =
    (h.0, h.1 ++ text, h.2, ap (λ l. l ++ text) h.3 ∙ append_assoc h.0 h.1 text, h.4, plays_push names h.2 lines h.1 b line text c h.5 p)

-- The lines before `rest` were played, and what their moves are answered printed.
pub record IsPlayedTo (names : List (Bor (List ℕ))) (before : WorldState) (text : List ℕ) (old new : Option (List ℕ)) (rest : List ℕ) (count number : ℕ) (after : WorldState) : Type 0 where
  pub played : List (List ℕ)
  pub printed : List ℕ
  pub parts : lines_of text ≡ played ++ lines_of rest
  pub plays : PlaysLines names before played printed after
  pub told : Appends old new printed
  pub counted : number ≡ count + length played
  pub room : number + length rest ≤ count + length text
  pub utf8 : IsUtf8 rest

-- what a block held that was empty at first, and is written then, was printed
pub block_written : (a b c : Option (List ℕ)) (start block printed : List ℕ) → start ≡ [] → Appends (append_known a start) (append_known b block) printed → Appends b c block → Appends a c printed
block_written None b c start block printed none p q = tt
block_written (Some x) None c start block printed none p q = absurd p
block_written (Some x) (Some y) None start block printed none p q = absurd q
block_written (Some x) (Some y) (Some z) start block printed none p q = q ∙ (p ∙ ap (λ l. l ++ printed) (ap (λ l. x ++ l) none ∙ append-nil x))

-- the answer to moves is what is told in it
pub answered_by : (before : WorldState) (ms : List Move) (moved : Result Report Refusal) (after : WorldState) (steps : List (ℕ × Made)) → AreRuns before steps after
    → MatchResult moved (λ (report : Report). AreMoved before ms report.moves.items steps after) (λ (refusal : Refusal). StopsAt before ms refusal steps after)
    → AreAnswered before ms (told_in moved) after
answered_by before ms (Ok report) after steps runs moved = (steps, runs, moved)
answered_by before ms (Err refusal) after steps runs moved = (steps, runs, moved)

-- a run that is held up prints nothing
pub held_on : (configs : List Setup) (d : Declaration) (count : ℕ) (lines : List (List ℕ)) (ending : PlayEnding) → HoldsUp d.names count lines ending → EndsOn configs d count lines [] ending
held_on configs d count lines ending (inl bad) = inl (refl, bad)
held_on configs d count lines ending (inr memory) = inr (inl (refl, memory))
