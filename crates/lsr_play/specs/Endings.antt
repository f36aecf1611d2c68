-- What is told of how a run over the lines of a world's file ended.
use Rattle.std.specs.Prelude.{ℕ, List, [], ◌++◌, codes}
use Rattle.std.specs.Fmt.{decimal}
use Rattle.lab_world.specs.declared.fault.WorldFault.{WorldFault}
use Rattle.lab_world.specs.declared.fault.WorldFault.TheVariants as faults
use Rattle.world_lines.specs.Forms.{bad_line_text}
use Rattle.lsr_play.specs.declared.endings.PlayEnding.{PlayEnding}
use Rattle.lsr_play.specs.declared.endings.PlayEnding.TheVariants as endings

-- `world FAULT`: why routers and wires make no world
abbrev pub fault_text : WorldFault → List ℕ
fault_text faults.Memory = codes "world Memory\n"
fault_text faults.Routers = codes "world Routers\n"
fault_text (faults.Joint number) = codes "world Joint " ++ (decimal number ++ codes "\n")

-- what is told of how a run ended
abbrev pub play_ending_text : PlayEnding → List ℕ
play_ending_text endings.Done = []
play_ending_text (endings.BadLine number line) = bad_line_text number line.now
play_ending_text (endings.Fault fault) = fault_text fault
play_ending_text endings.Memory = codes "memory\n"

-- the status: 1 wherever something is told
abbrev pub play_status : PlayEnding → ℕ
play_status endings.Done = 0
play_status (endings.BadLine number line) = 1
play_status (endings.Fault fault) = 1
play_status endings.Memory = 1
