-- What lines that command a router say of tunnels, of bypasses and of static routes, word by word.
use Rattle.std.specs.Prelude.{◌≡◌, ◌≤◌, ◌==◌, ℕ, Bool, false, List, [], ◌∷◌, ◌⊎◌, codes, length, Option, Some, None, ⊤}
use Rattle.std.specs.List.{list_any, slice_split}
use Rattle.std.specs.Net.Grammar.{IsIpv4Text}
use Rattle.std.specs.Str.Parse.{IsNumeral, digits_value}
use Rattle.rsvp_bodies.specs.declared.prefix.Prefix.{Prefix}
use Rattle.rsvp_bodies.specs.declared.step.Step.{Step}
use Rattle.rsvp_bodies.specs.Names.{IsName}
use Rattle.rsvp_bodies.specs.declared.attr.Attr.{Attr}
use Rattle.rsvp_bodies.specs.RateWords.{IsRateText, tspec_with}
use Rattle.rsvp_bodies.specs.RouteWords.{IsPrefixText, IsStepText}
use Rattle.abstract_paths.specs.declared.commands.Command.{Command}
use Rattle.abstract_paths.specs.declared.commands.Command.TheVariants as commands
use Rattle.abstract_paths.specs.declared.tunnels.NewBypass.{NewBypass}
use Rattle.abstract_paths.specs.declared.tunnels.NewTunnel.{NewTunnel}
use Rattle.abstract_paths.specs.declared.tunnels.TunnelChange.{TunnelChange}
use Rattle.lsr_lines.specs.Numbers.{NamesLink, NamesUpTo, NamesWhole}
use denote.Ref.{Bor}

-- a space
abbrev pub is_space : ℕ → Bool
is_space byte = byte == 32

-- The words of a text: one space parts each two of them.
abbrev pub words_of : List ℕ → List (List ℕ)
words_of text = slice_split is_space text

-- the words of what is left of a line, if anything is
abbrev pub words_left : Option (Bor (List ℕ)) → List (List ℕ)
words_left None = []
words_left (Some text) = words_of text.now

-- the first of the words is this, and the others are such
abbrev pub BeginsWith : List ℕ → (List (List ℕ) → Type 0) → List (List ℕ) → Type 0
BeginsWith word Says [] = ⊥
BeginsWith word Says (first ∷ others) = (first ≡ word) × Says others

-- The word writes flags: two hexadecimal digits, of either case.
pub record IsFlagsText (text : List ℕ) (flags : ℕ) : Type 0 where
  pub two : length text ≡ 2
  pub hexadecimal : IsNumeral 16 text
  pub value : digits_value 16 text ≡ flags

-- `SETUP HOLD FLAGS NAME`: priorities of one byte each, flags, and a name of 1 to 255 bytes, none of them a carriage return.
pub record SaysAttr (setup hold flags name : List ℕ) (attr : Attr) : Type 0 where
  pub no_affinities : attr.affinities ≡ None
  pub setup_priority : NamesUpTo 255 setup attr.setup
  pub hold_priority : NamesUpTo 255 hold attr.hold
  pub flags_set : IsFlagsText flags attr.flags
  pub called : attr.name ≡ name
  pub some : 1 ≤ length name
  pub short : IsName name
  pub no_return : list_any (λ byte. byte == 13) name ≡ false

-- each word writes its step
abbrev pub AreSteps : List (List ℕ) → List Step → Type 0
AreSteps [] [] = ⊤
AreSteps (word ∷ words) (step ∷ steps) = IsStepText word step × AreSteps words steps
AreSteps words steps = ⊥

-- `[ROUTE..]`: the steps of a route, as many as an EXPLICIT_ROUTE carries or fewer.
abbrev pub SaysRoute : List (List ℕ) → List Step → Type 0
SaysRoute words steps = AreSteps words steps × (length steps ≤ 8191)

-- `RATE`: the traffic is that of the rate
abbrev pub SaysTraffic : List ℕ → List ℕ → Type 0
SaysTraffic text tspec = (rate : ℕ) × IsRateText text rate × (tspec ≡ tspec_with rate)

-- `N ENDPOINT RATE SETUP HOLD FLAGS NAME [ROUTE..]`, without a FAST_REROUTE
abbrev pub SaysTunnel : List (List ℕ) → NewTunnel → Type 0
SaysTunnel (number ∷ endpoint ∷ rate ∷ setup ∷ hold ∷ flags ∷ name ∷ steps) t =
    NamesUpTo 65535 number t.number × IsIpv4Text endpoint t.endpoint × SaysTraffic rate t.tspec
    × SaysAttr setup hold flags name t.attr × SaysRoute steps t.route × (t.fast_reroute ≡ None)
SaysTunnel words t = ⊥

-- `N RATE [ROUTE..]`
abbrev pub SaysChange : List (List ℕ) → TunnelChange → Type 0
SaysChange (number ∷ rate ∷ steps) c = NamesUpTo 65535 number c.number × SaysTraffic rate c.tspec × SaysRoute steps c.route
SaysChange words c = ⊥

-- `N`
abbrev pub SaysNumber : List (List ℕ) → ℕ → Type 0
SaysNumber (number ∷ []) n = NamesUpTo 65535 number n
SaysNumber words n = ⊥

-- `[CAPACITY]`, in bytes per second: 0 where there is no word
abbrev pub SaysCapacity : List (List ℕ) → ℕ → Type 0
SaysCapacity [] capacity = capacity ≡ 0
SaysCapacity (digits ∷ []) capacity = NamesWhole digits capacity
SaysCapacity words capacity = ⊥

-- `N TUNNEL LINK [CAPACITY]`
abbrev pub SaysBypass : List (List ℕ) → NewBypass → Type 0
SaysBypass (number ∷ tunnel ∷ link ∷ others) b =
    NamesUpTo 65535 number b.number × NamesUpTo 65535 tunnel b.tunnel × NamesLink link b.link × SaysCapacity others b.capacity
SaysBypass words b = ⊥

-- `PREFIX`
abbrev pub SaysPrefix : List (List ℕ) → Prefix → Type 0
SaysPrefix (text ∷ []) prefix = IsPrefixText text prefix
SaysPrefix words prefix = ⊥

-- `PREFIX LINK`
abbrev pub SaysStatic : List (List ℕ) → Prefix → ℕ → Type 0
SaysStatic (text ∷ digits ∷ []) prefix link = IsPrefixText text prefix × NamesLink digits link
SaysStatic words prefix link = ⊥

-- What words command a router: `tunnel N ENDPOINT RATE SETUP HOLD FLAGS NAME [ROUTE..]`, `change N RATE [ROUTE..]`,
-- `cancel N`, `drop N`, `bypass N TUNNEL LINK [CAPACITY]`, `unbypass N`, `route PREFIX LINK` or `unroute PREFIX`.
abbrev pub SaysCommand : List (List ℕ) → Command → Type 0
SaysCommand words (commands.AddTunnel t) = BeginsWith (codes "tunnel") (λ others. SaysTunnel others t) words
SaysCommand words (commands.ChangeTunnel c) = BeginsWith (codes "change") (λ others. SaysChange others c) words
SaysCommand words (commands.CancelChange number) = BeginsWith (codes "cancel") (λ others. SaysNumber others number) words
SaysCommand words (commands.DropTunnel number) = BeginsWith (codes "drop") (λ others. SaysNumber others number) words
SaysCommand words (commands.AddBypass b) = BeginsWith (codes "bypass") (λ others. SaysBypass others b) words
SaysCommand words (commands.DropBypass number) = BeginsWith (codes "unbypass") (λ others. SaysNumber others number) words
SaysCommand words (commands.AddRoute prefix link) = BeginsWith (codes "route") (λ others. SaysStatic others prefix link) words
SaysCommand words (commands.DropRoute prefix) = BeginsWith (codes "unroute") (λ others. SaysPrefix others prefix) words

-- a line that asks for a tunnel, or for a tunnel to be changed
abbrev pub BringsTunnel : List ℕ → Type 0
BringsTunnel line =
    ((t : NewTunnel) × SaysCommand (words_of line) (commands.AddTunnel t))
    ⊎ ((c : TunnelChange) × SaysCommand (words_of line) (commands.ChangeTunnel c))
