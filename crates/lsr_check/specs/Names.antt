-- The names of the clauses of soundness, as docs/ROUTER.md has them.
use Rattle.std.specs.Prelude.{ℕ, List, codes}
use Rattle.plain_soundness.specs.declared.clause.Clause.{Clause}
use Rattle.plain_soundness.specs.declared.clause.Clause.TheVariants as clauses

abbrev pub clause_name : Clause → List ℕ
clause_name clauses.Paths = codes "paths"
clause_name clauses.Held = codes "held"
clause_name clauses.Standing = codes "standing"
clause_name clauses.Repaired = codes "repaired"
clause_name clauses.RepairsStanding = codes "repairs_standing"
clause_name clauses.Labels = codes "labels"
clause_name clauses.Assigned = codes "assigned"
clause_name clauses.Resting = codes "resting"
clause_name clauses.Sent = codes "sent"
clause_name clauses.SentUpstream = codes "sent_upstream"
