-- The numbers of refusals.
use Rattle.std.specs.Prelude.{ℕ}
use Rattle.rsvp_contents.specs.Dropping as dropping
use Rattle.lsr_facts.specs.declared.refusal.Refusal.{Refusal}
use Rattle.lsr_facts.specs.declared.refusal.Refusal.TheVariants.{Unread, NoMatch, NoMerge, LinkDown, HopLimit, NoLabel, UnknownTunnel, TunnelExists, BadRoute, ChangePending, UnknownLink, BypassExists, BypassOnItsLink, Full, InUse, Late, BadMoment, BadCapacity, NoMemory, JournalFull, IsCold, WrongPort, NoFrame, NoRouter}

abbrev pub number_of : Refusal → ℕ
number_of (Unread dropped) = dropping.number_of dropped
number_of NoMatch = 10
number_of NoMerge = 11
number_of LinkDown = 12
number_of HopLimit = 13
number_of NoLabel = 14
number_of UnknownTunnel = 20
number_of TunnelExists = 21
number_of BadRoute = 22
number_of ChangePending = 23
number_of UnknownLink = 24
number_of BypassExists = 25
number_of BypassOnItsLink = 26
number_of Full = 27
number_of InUse = 28
number_of Late = 29
number_of BadMoment = 30
number_of BadCapacity = 31
number_of NoMemory = 40
number_of JournalFull = 41
number_of IsCold = 42
number_of WrongPort = 43
number_of NoFrame = 50
number_of NoRouter = 51
