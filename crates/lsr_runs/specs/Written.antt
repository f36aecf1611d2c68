-- Why a file isn't written, and what is told of it.
use Rattle.std.specs.Fmt.{decimal}
use Rattle.std.specs.Prelude.{ℕ, Bool, true, false, List, [], ◌++◌, codes, Result, Ok, Err, if◌then◌else◌}
use Rattle.std.specs.declared.io.ErrorKind.{ErrorKind}
use Rattle.std.specs.declared.io.ErrorKind.TheVariants as kinds
use Rattle.lsr_runs.specs.declared.written.OutputFault.{OutputFault}
use Rattle.lsr_runs.specs.declared.written.OutputFault.TheVariants as faults

-- why a file isn't written, by the kind of the error
abbrev pub output_fault : ErrorKind → OutputFault
output_fault kinds.NotFound = faults.Absent
output_fault kinds.PermissionDenied = faults.Forbidden
output_fault kinds.AlreadyExists = faults.Claimed
output_fault kinds.OutOfMemory = faults.Memory
output_fault kind = faults.Broken

-- there is no memory for it
abbrev pub is_memory : OutputFault → Bool
is_memory faults.Memory = true
is_memory fault = false

-- what is told of it after the file's name, with what to do
abbrev pub fault_words : OutputFault → List ℕ
fault_words faults.Absent = codes " is in a folder that doesn't exist: create it, or give another name"
fault_words faults.Forbidden = codes " may not be written: look at its permissions and its folder's"
fault_words faults.NotAFile = codes " is no regular file, and is not replaced: give another name"
fault_words faults.Present = codes " is there already, and is kept: give another name, or move it away with those that belong to it"
fault_words faults.Foreign = codes " is there already, and is another kind of file, which is not replaced: give another name, or move it away"
fault_words faults.Claimed =
    codes " is there already: another router writes this journal, or one was killed while it did; give another prefix, or remove the file"
fault_words faults.Unnamed = codes " is the name of a folder: give the files a name in it"
fault_words faults.Broken = codes " can't be written: look at the room on its disk"
fault_words faults.GivenUp =
    codes " was let go with what came after it, for the files before it couldn't be written: look at the room on their disk"
fault_words faults.Memory = codes " takes more memory than there is"

-- what is told of a file of this name that isn't written: where it is and what to do stands in a line of its own
abbrev pub output_fault_text : List ℕ → OutputFault → List ℕ
output_fault_text name fault =
    if is_memory fault then codes "memory\n" else codes "unwritable\n  " ++ (name ++ (fault_words fault ++ codes ", and run it again\n"))

-- why the file of this name isn't written, where it isn't
abbrev pub kept_text : List ℕ → Result (Unit {0}) OutputFault → List ℕ
kept_text name (Ok done) = []
kept_text name (Err fault) = output_fault_text name fault

-- the name of the file of a segment: the prefix, a dot, and its number
abbrev pub segment_name : List ℕ → ℕ → List ℕ
segment_name prefix number = prefix ++ (codes "." ++ decimal number)
