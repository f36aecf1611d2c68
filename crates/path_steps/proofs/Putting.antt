-- An edit of a path that is put among edits.
use Rattle.std.specs.Prelude.{◌≡◌, T, Some}
use Rattle.std.specs.FinMap.Entries.{is_sorted, put}
use Rattle.std.proofs.Common.{ap}
use Rattle.sorted_rows.specs.EditLaws.{edited-put}
use Rattle.lsr_facts.specs.OrderLaws.{key_exact, key_total}
use Rattle.lsr_facts.specs.Orders.{key_cmp}
use Rattle.lsr_facts.specs.declared.key.Key.{Key}
use Rattle.lsr_facts.specs.declared.path_fact.PathFact.{PathFact}
use Rattle.abstract_paths.specs.Changes.{with_path}
use Rattle.abstract_router.specs.States.{State, with_facts}
use Rattle.state_views.specs.Edits.{edited}
use Rattle.state_views.specs.declared.edits.Edits.{Edits}

-- A path that is put among edits is put after them.
pub path_is_put : (e : Edits) (s : State) (key : Key) (fact : PathFact) → T (is_sorted key_cmp s.facts.paths) → edited (record e { paths = put key_cmp key (Some fact) e.paths }) s ≡ with_facts (with_path key fact (edited e s).facts) (edited e s)
path_is_put e s key fact h =
    ap (λ (paths : _). with_facts (record (edited e s).facts { paths = paths }) (edited e s)) (edited-put key_cmp key_total key_exact key (Some fact) e.paths s.facts.paths h)
