-- What a reader of messages answers.
use Rattle.std.specs.Prelude.{◌≡◌, ℕ, Option, Some, None, Result, Err}
use Rattle.rsvp_bodies.specs.declared.fault.ObjectFault.{ObjectFault}
use Rattle.rsvp_bodies.specs.declared.fault.ObjectFault.TheVariants as faults
use Rattle.rsvp_contents.specs.declared.dropped.Dropped.{Dropped}
use Rattle.rsvp_contents.specs.declared.dropped.Dropped.TheVariants as dropped
use Rattle.rsvp_contents.specs.declared.messages.Content.{Content}
use Rattle.rsvp_contents.specs.declared.message.Reading.{Reading}
use Rattle.rsvp_contents.specs.declared.message.Reading.TheVariants as readings

-- the reading of the content, by the class and C-Type of an object that its message doesn't know
abbrev pub reading_with : Content → Option (ℕ × ℕ) → Reading
reading_with content None = readings.Whole content
reading_with content (Some r) = readings.Unknown content r.0 r.1

-- the fault of a message whose objects are refused so
abbrev pub fault_for : ObjectFault → Dropped
fault_for faults.Length = dropped.ObjectLength
fault_for faults.Memory = dropped.NoMemory

-- The answer is what is said, or there was no memory for it.
abbrev pub IsAnswer : Result Reading Dropped → Result Reading Dropped → Type 0
IsAnswer (Err dropped.NoMemory) said = Unit {0}
IsAnswer answer said = answer ≡ said
