-- What was given is all that there is.
use Rattle.std.proofs.Common.{◌≡◌, ◌∙◌, ap, sym, map, List, ℕ, Some, length, true, ◌==◌}
use Rattle.std.specs.Borrow.{Bor}
use Rattle.clap.specs.Matches.{found_of}
use Rattle.clap.specs.Words.{rows_of}
use Rattle.clap.proofs.WalkLemmas.{raw_values-rows}
use Rattle.lsr_words.proofs.WordLaws.{first_is, has_none, no_values}
use Rattle.lsr_words.proofs.words.several.Goals as goal
use Rattle.lsr_words.proofs.words.several.Goals.{in_default-via-in-Some+else-not-is_empty, in_default-via-in_default}

pub returns-in_ok-to_vec-in-Some : goal.returns-in_ok-to_vec-in-Some
returns-in_ok-to_vec-in-Some c =
    let all = sym (raw_values-rows (found_of c.args.given.now) c.args.name.now) ∙ sym c.in-Some.ensures in
    let same = c.in_ok-to_vec-in-Some.ensures.items_if_clones_equal (λ x y e. e) in (
      all ∙ ap (λ (words : List (Bor (List ℕ))). Some (map (λ w. w.now) words)) (sym same),
      λ none.
          let t : (length c.in-Some.words.now == 0) ≡ true = ap (λ (words : List (Bor (List ℕ))). length words == 0) (sym same ∙ none) in
          let u = c.if-not-is_empty.ensures in cc,
    )

pub returns-in_default : goal.returns-in_default
returns-in_default c =
    let found = found_of c.args.given.now in
    elim c.in_default.branch [
      | in_default-via-in-Some+else-not-is_empty w ↦
          first_is c.args.name.now (rows_of found) _ (sym (raw_values-rows found c.args.name.now) ∙ sym w.in-Some.ensures) ∙ no_values w.in-Some.words.now (sym w.if-not-is_empty.ensures)
      | in_default-via-in_default w ↦
          has_none c.args.name.now (rows_of found) (sym (raw_values-rows found c.args.name.now) ∙ sym w.in_default.ensures)
    ]
