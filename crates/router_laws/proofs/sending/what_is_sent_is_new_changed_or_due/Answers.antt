-- What is no news rests where it isn't due, and nothing else that is sent makes state.
use Rattle.router_laws.proofs.Exactly.{due_exactly, news_exactly}
use Rattle.router_laws.proofs.sending.what_is_sent_is_new_changed_or_due.Goals as goal

pub returns-clause-events : goal.returns-clause-events
returns-clause-events c = news_exactly

pub returns-clause-moments : goal.returns-clause-moments
returns-clause-moments c = due_exactly
