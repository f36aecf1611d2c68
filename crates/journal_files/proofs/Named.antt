-- Numbers that name refusals.
use Rattle.std.proofs.Common.{◌≡◌, refl}
use Rattle.rsvp_contents.specs.declared.dropped.Dropped.TheVariants as drops
use Rattle.lsr_facts.specs.declared.refusal.Refusal.{Refusal}
use Rattle.lsr_facts.specs.declared.refusal.Refusal.TheVariants as refusals
use Rattle.journal_files.specs.Replies.{IsNamed}

-- each refusal is named by its number, but for want of memory to read
pub has_name : (refusal : Refusal) → (refusal ≡ refusals.Unread drops.NoMemory → ⊥) → IsNamed refusal
has_name (refusals.Unread drops.Short) other = refl
has_name (refusals.Unread drops.Version) other = refl
has_name (refusals.Unread drops.LengthField) other = refl
has_name (refusals.Unread drops.Checksum) other = refl
has_name (refusals.Unread drops.ObjectLength) other = refl
has_name (refusals.Unread drops.MissingObject) other = refl
has_name (refusals.Unread drops.KindUnsupported) other = refl
has_name (refusals.Unread drops.Integrity) other = refl
has_name (refusals.Unread drops.TooLong) other = refl
has_name (refusals.Unread drops.NoMemory) other = absurd (other refl)
has_name refusals.NoMatch other = refl
has_name refusals.NoMerge other = refl
has_name refusals.LinkDown other = refl
has_name refusals.HopLimit other = refl
has_name refusals.NoLabel other = refl
has_name refusals.UnknownTunnel other = refl
has_name refusals.TunnelExists other = refl
has_name refusals.BadRoute other = refl
has_name refusals.ChangePending other = refl
has_name refusals.UnknownLink other = refl
has_name refusals.BypassExists other = refl
has_name refusals.BypassOnItsLink other = refl
has_name refusals.Full other = refl
has_name refusals.InUse other = refl
has_name refusals.Late other = refl
has_name refusals.BadMoment other = refl
has_name refusals.BadCapacity other = refl
has_name refusals.NoMemory other = refl
has_name refusals.JournalFull other = refl
has_name refusals.IsCold other = refl
has_name refusals.WrongPort other = refl
has_name refusals.NoFrame other = refl
has_name refusals.NoRouter other = refl
