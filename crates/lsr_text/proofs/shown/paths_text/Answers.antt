-- One more path has its line.
use Rattle.std.proofs.Common.{◌≡◌, ◌+◌, ◌++◌, ◌∷◌, [], ap, sym, ◌∙◌, take, string_bytes}
use Rattle.std.proofs.lemmas.List.{take_more}
use Rattle.lsr_facts.specs.declared.key.Key.{Key}
use Rattle.lsr_facts.specs.declared.path_fact.PathFact.{PathFact}
use Rattle.lsr_text.specs.Shown.{path_line}
use Rattle.object_text.proofs.Growing.{rows_push_after}
use Rattle.lsr_text.proofs.shown.paths_text.Goals as goal

pub loop-path-preserved : goal.loop-path-preserved
loop-path-preserved c =
    let paths = c.args.paths.now in
    let i = c.loop-path.path-index in
    let path = c.path-item.result in
    let more : take (i + 1) paths ≡ take i paths ++ path ∷ [] = take_more paths i path c.loop-path-test.true ∙ ap (λ (p : Key × PathFact). take i paths ++ p ∷ []) (sym c.path-item.is) in
    rows_push_after path_line [] (string_bytes c.loop-path.text) (string_bytes c.push_path.new.text) (take i paths) (take (i + 1) paths) path c.loop-path.invariant c.in_ok-push_path.ensures more
