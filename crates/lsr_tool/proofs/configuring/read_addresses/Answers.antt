-- A text that lacks an address, and not for want of memory.
use Rattle.std.proofs.Common.{inl, sym, ◌∙◌}
use Rattle.std.proofs.lemmas.Bool.{false≢true}
use Rattle.lsr_tool.proofs.configuring.read_addresses.Goals as goal

pub returns : goal.returns
returns c =
    inl (c.new.ensures.items, (c.in-Err.fault, (λ memory. false≢true (sym c.if-is_memory.false ∙ c.is_memory.ensures.1 memory)), c.in-Err.ensures.refused))
