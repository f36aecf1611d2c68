-- The numbers of the refusals.
use Rattle.std.specs.Prelude.{ℕ}
use Rattle.rsvp_contents.specs.declared.dropped.Dropped.{Dropped}
use Rattle.rsvp_contents.specs.declared.dropped.Dropped.TheVariants as dropped

abbrev pub number_of : Dropped → ℕ
number_of dropped.Short = 1
number_of dropped.Version = 2
number_of dropped.LengthField = 3
number_of dropped.Checksum = 4
number_of dropped.ObjectLength = 5
number_of dropped.MissingObject = 6
number_of dropped.KindUnsupported = 7
number_of dropped.Integrity = 8
number_of dropped.TooLong = 9
number_of dropped.NoMemory = 40
