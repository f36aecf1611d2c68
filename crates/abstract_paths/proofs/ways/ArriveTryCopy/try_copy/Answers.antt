use Rattle.std.proofs.Common.{◌≡◌, true, ap, subst, sym}
use mathlib.Core.Bool.{Bool-set}
use Rattle.rsvp_contents.specs.declared.message.Reading.{Reading}
use Rattle.abstract_paths.specs.Ways.{takes}
use Rattle.abstract_paths.specs.declared.ways.Arrive.{Arrive}
use Rattle.abstract_paths.proofs.ways.ArriveTryCopy.try_copy.Goals as goal

-- the message with another reading
abbrev with_reading : (a : Arrive) (reading : Reading) → takes a.way reading ≡ true → Arrive
with_reading a reading taken = record { link = a.link; way = a.way; reading = reading; taken = taken }

-- it is the same where the reading is
same : (a : Arrive) (reading : Reading) (taken : takes a.way reading ≡ true) → a.reading ≡ reading → a ≡ with_reading a reading taken
same a reading taken is =
    subst (λ (r : Reading). (t : takes a.way r ≡ true) → a ≡ with_reading a r t) is (λ t. ap (with_reading a a.reading) (Bool-set _ _ a.taken t)) taken

pub returns : goal.returns
returns c = sym (same c.args.self.now c.in_ok-clone.field-0 _ (sym c.in_ok-clone.ensures.cases))
