-- An object with a type of its own is known, with its C-Type.
use Rattle.std.proofs.Common.{◌≡◌, ◌≢◌, ℕ, Option, Some, None, false, refl}
use Rattle.std.specs.Option.{option_map_or}
use Rattle.rsvp_objects.specs.declared.object.Object.{Object}
use Rattle.rsvp_objects.specs.declared.object.Object.TheVariants as objects
use Rattle.rsvp_objects.specs.Kinds.{kind_of}
use Rattle.rsvp_objects.specs.Raw.{Raw}
use Rattle.rsvp_contents.specs.Counting.{refuses, refuses_as}
use Rattle.rsvp_messages.proofs.look.refuses.Goals as goal

attributes_known : {X : Type 0} (type : ℕ) (affinities : Option X) → false ≡ refuses_as type (kind_of 207 (option_map_or (λ _. 1) affinities 7)) 207
unfolding kind_of
attributes_known type (Some affinities) = refl
attributes_known type None = refl

known : (type : ℕ) (o : Object) → ((raw : Raw) → o ≢ objects.Other raw) → false ≡ refuses type o
unfolding kind_of
known type (objects.Session s) typed = refl
known type (objects.Hop h) typed = refl
known type (objects.TimeValues t) typed = refl
known type (objects.ErrorSpec e) typed = refl
known type (objects.Style s) typed = refl
known type (objects.Flowspec body) typed = refl
known type (objects.FilterSpec t) typed = refl
known type (objects.SenderTemplate t) typed = refl
known type (objects.SenderTspec body) typed = refl
known type (objects.Label l) typed = refl
known type (objects.LabelRequest r) typed = refl
known type (objects.ExplicitRoute route) typed = refl
known type (objects.RecordRoute entries) typed = refl
known type (objects.FastReroute f) typed = refl
known type (objects.SessionAttribute a) typed = attributes_known type a.affinities
known type (objects.Other raw) typed = absurd (typed raw refl)

-- src/look.rt:116:1
pub returns-in_default : goal.returns-in_default
returns-in_default c = known c.args.kind c.args.object.now c.in_default.not-Other
