-- The output is named as it stands at the call.
use Rattle.lsr_tool.proofs.console.attend_lent.Given as goal

abbrev pub ghosts-attend_named : goal.ghosts-attend_named
ghosts-attend_named g a = record { output = a.output.output.ghost_name; held = g.W.Write.contents a.output.output.now }
