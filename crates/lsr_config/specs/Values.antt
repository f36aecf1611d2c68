-- What the values of a configuration say.
use Rattle.std.specs.Prelude.{◌≡◌, ℕ, ◌-◌, ◌<◌, ◌≤◌, Bool, List, [], ◌∷◌, length, pos, IsSome}
use Rattle.std.specs.List.{AllByRecursion}
use Rattle.std.specs.Net.Grammar.{IsIpv4Text, IsSocketText}
use Rattle.std.specs.declared.net.ipv4_addr.Ipv4Addr.{Ipv4Addr}
use Rattle.std.specs.declared.net.socket_addr.SocketAddr.{SocketAddr}
use Rattle.toml.specs.Data.{Data, string, integer, boolean, array, table, Items, no_items, item, Members}
use Rattle.rsvp_bodies.specs.declared.prefix.Prefix.{Prefix}
use Rattle.rsvp_bodies.specs.declared.step.Step.{Step}
use Rattle.rsvp_bodies.specs.declared.step.Step.TheVariants.{Ipv4, Other}
use Rattle.rsvp_bodies.specs.Rates.{rate_of}
use Rattle.rsvp_bodies.specs.Names.{IsName}
use Rattle.rsvp_bodies.specs.RateWords.{IsRateText, tspec_with}
use Rattle.rsvp_bodies.specs.RouteWords.{IsPrefixText, IsStepText}
use Rattle.lsr_facts.specs.Routers.{masked}
use Rattle.lsr_facts.specs.declared.router.LabelRange.{LabelRange}

-- the value is a text that spells this
abbrev pub SaysText : {A : Type 0} → (List ℕ → A → Type 0) → Data → A → Type 0
SaysText Spells d a = (text : List ℕ) × (d ≡ string text) × Spells text a

-- the value is a text that writes this IPv4 address: four decimal numbers with dots between them
unfoldable pub SaysAddress : Data → Ipv4Addr → Type 0
SaysAddress = SaysText IsIpv4Text

-- the value is a text that writes this socket address: an address, a colon and a port
unfoldable pub SaysSocket : Data → SocketAddr → Type 0
SaysSocket = SaysText IsSocketText

-- the value is this whole number, from the least to the most that is allowed
unfoldable pub SaysWhole : ℕ → ℕ → Data → ℕ → Type 0
SaysWhole least most d n = (d ≡ integer (pos n)) × (least ≤ n) × (n ≤ most)

-- the value is this truth value
unfoldable pub SaysFlag : Data → Bool → Type 0
SaysFlag d b = d ≡ boolean b

-- the value is a first and a last label, of 16 to 1,048,575 (RFC 3032, 2.1): not the last before the first,
-- and at most 4,096 labels
unfoldable pub SaysLabels : Data → LabelRange → Type 0
SaysLabels d labels =
    (first last : Data) × (d ≡ array (item first (item last no_items)))
    × SaysWhole 16 1048575 first labels.first × SaysWhole 16 1048575 last labels.last
    × (labels.first ≤ labels.last) × (labels.last - labels.first < 4096)

-- The text writes a prefix of at most 32 bits. Bits of the address past the length don't count.
abbrev pub IsMaskedPrefixText : List ℕ → Prefix → Type 0
IsMaskedPrefixText text prefix =
    (written : Prefix) × IsPrefixText text written × (written.length ≤ 32)
    × (prefix ≡ record { address = masked written.address written.length; length = written.length })

-- the value is a text that writes this prefix
unfoldable pub SaysPrefix : Data → Prefix → Type 0
SaysPrefix = SaysText IsMaskedPrefixText

-- the elements of an array
abbrev pub elements : Items → List Data
elements no_items = []
elements (item d ds) = d ∷ elements ds

-- the value is a table
abbrev pub IsTable : Data → Type 0
IsTable d = (ms : Members) × (d ≡ table ms)

-- the value is an array of these tables
unfoldable pub SaysTables : Data → List Data → Type 0
SaysTables d tables = (ds : Items) × (d ≡ array ds) × (elements ds ≡ tables) × AllByRecursion IsTable tables

-- each of the first list says its part of the second
abbrev pub SaysEach : {A : Type 0} → (Data → A → Type 0) → List Data → List A → Type 0
SaysEach Says [] [] = Unit {0}
SaysEach Says [] (row ∷ rows) = ⊥
SaysEach Says (d ∷ ds) [] = ⊥
SaysEach Says (d ∷ ds) (row ∷ rows) = Says d row × SaysEach Says ds rows

-- a step to a prefix of at most 32 bits
abbrev pub IsInAddress : Step → Type 0
IsInAddress (Ipv4 loose prefix) = prefix.length ≤ 32
IsInAddress (Other bytes) = ⊥

-- the text writes this step, to a prefix of at most 32 bits
abbrev pub IsShortStepText : List ℕ → Step → Type 0
IsShortStepText text step = IsStepText text step × IsInAddress step

-- the value is a text that writes this step
unfoldable pub SaysStep : Data → Step → Type 0
SaysStep = SaysText IsShortStepText

-- the value is an array of at most 31 steps
unfoldable pub SaysSteps : Data → List Step → Type 0
SaysSteps d steps = (ds : Items) × (d ≡ array ds) × SaysEach SaysStep (elements ds) steps × (length steps ≤ 31)

-- the text writes the 32 bits of this rate, which is a number of bytes per second
abbrev pub IsDefinedRateText : List ℕ → ℕ → Type 0
IsDefinedRateText text rate = IsRateText text rate × IsSome (rate_of rate)

-- the value is a text that writes this rate
unfoldable pub SaysRate : Data → ℕ → Type 0
SaysRate = SaysText IsDefinedRateText

-- the value writes the rate of this traffic
abbrev pub SaysTspec : Data → List ℕ → Type 0
SaysTspec d tspec = (rate : ℕ) × SaysRate d rate × (tspec ≡ tspec_with rate)

-- the text, of at most 255 bytes, is this name (RFC 3209, 4.7.1)
abbrev pub IsNameText : List ℕ → List ℕ → Type 0
IsNameText text name = (text ≡ name) × IsName name

-- the value is a text that is this name
unfoldable pub SaysName : Data → List ℕ → Type 0
SaysName = SaysText IsNameText
