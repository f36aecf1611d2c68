-- The laws are lemmas.
use Rattle.internet_checksum.proofs.ChangedBytes.{changes_are_seen, changes_are_refused}
use Rattle.internet_checksum.proofs.laws.changed_bytes_are_found.Goals as goal

pub returns-clause-seen : goal.returns-clause-seen
returns-clause-seen c = changes_are_seen

pub returns-clause-refused : goal.returns-clause-refused
returns-clause-refused c = changes_are_refused
