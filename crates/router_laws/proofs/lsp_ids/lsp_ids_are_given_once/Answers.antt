-- The ID that was given last only grows, and each that is given is one above it.
use Rattle.router_laws.proofs.LspIds.{above_current, given_once}
use Rattle.router_laws.proofs.lsp_ids.lsp_ids_are_given_once.Goals as goal

pub returns-clause-once : goal.returns-clause-once
returns-clause-once c = given_once

pub returns-clause-current : goal.returns-clause-current
returns-clause-current c = above_current
