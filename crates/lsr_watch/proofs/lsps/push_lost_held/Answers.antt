-- The lines of the repairs come after those of the reservations.
use Rattle.std.proofs.Common.{string_bytes}
use Rattle.std.specs.List.{flat_map}
use Rattle.object_text.proofs.Growing.{grown_on}
use Rattle.lsr_facts.specs.declared.key.Key.{Key}
use Rattle.lsr_facts.specs.declared.repair.Repair.{Repair}
use Rattle.lsr_facts.specs.declared.resv_fact.ResvFact.{ResvFact}
use Rattle.lsr_watch.specs.Lsps.{lost_held, lost_line}
use Rattle.lsr_watch.proofs.lsps.push_lost_held.Goals as goal

pub returns : goal.returns
unfolding lost_held
returns c =
    let before = c.args.before.now in
    let after = c.args.after.now in
    grown_on c.push_all_lost-2.result (string_bytes c.args.text.now) (string_bytes c.push_all_lost.new.text) (string_bytes c.push_all_lost-2.new.text)
    (flat_map (λ (row : Key × ResvFact). lost_line after row.0) before.resvs) (flat_map (λ (row : Key × Repair). lost_line after row.0) before.repairs)
    (rw c.as_slice.ensures.rows at c.in_ok-push_all_lost.ensures) (rw c.as_slice-2.ensures.rows at c.push_all_lost-2.ensures)
