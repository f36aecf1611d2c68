-- The names of refusals, as operators see them.
use Rattle.std.specs.Prelude.{ℕ, List, codes}
use Rattle.rsvp_contents.specs.declared.dropped.Dropped.{Dropped}
use Rattle.rsvp_contents.specs.declared.dropped.Dropped.TheVariants as dropped
use Rattle.lsr_facts.specs.declared.refusal.Refusal.{Refusal}
use Rattle.lsr_facts.specs.declared.refusal.Refusal.TheVariants as refusals

-- why a datagram was dropped unread
abbrev pub name_of_drop : Dropped → List ℕ
name_of_drop dropped.Short = codes "Short"
name_of_drop dropped.Version = codes "Version"
name_of_drop dropped.LengthField = codes "LengthField"
name_of_drop dropped.Checksum = codes "Checksum"
name_of_drop dropped.ObjectLength = codes "ObjectLength"
name_of_drop dropped.MissingObject = codes "MissingObject"
name_of_drop dropped.KindUnsupported = codes "KindUnsupported"
name_of_drop dropped.Integrity = codes "Integrity"
name_of_drop dropped.TooLong = codes "TooLong"
name_of_drop dropped.NoMemory = codes "NoMemory"

abbrev pub name_of : Refusal → List ℕ
name_of (refusals.Unread drop) = name_of_drop drop
name_of refusals.NoMatch = codes "NoMatch"
name_of refusals.NoMerge = codes "NoMerge"
name_of refusals.LinkDown = codes "LinkDown"
name_of refusals.HopLimit = codes "HopLimit"
name_of refusals.NoLabel = codes "NoLabel"
name_of refusals.UnknownTunnel = codes "UnknownTunnel"
name_of refusals.TunnelExists = codes "TunnelExists"
name_of refusals.BadRoute = codes "BadRoute"
name_of refusals.ChangePending = codes "ChangePending"
name_of refusals.UnknownLink = codes "UnknownLink"
name_of refusals.BypassExists = codes "BypassExists"
name_of refusals.BypassOnItsLink = codes "BypassOnItsLink"
name_of refusals.Full = codes "Full"
name_of refusals.InUse = codes "InUse"
name_of refusals.Late = codes "Late"
name_of refusals.BadMoment = codes "BadMoment"
name_of refusals.BadCapacity = codes "BadCapacity"
name_of refusals.NoMemory = codes "NoMemory"
name_of refusals.JournalFull = codes "JournalFull"
name_of refusals.IsCold = codes "IsCold"
name_of refusals.WrongPort = codes "WrongPort"
name_of refusals.NoFrame = codes "NoFrame"
name_of refusals.NoRouter = codes "NoRouter"
