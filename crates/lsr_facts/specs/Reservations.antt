-- What a reservation says of itself (RFC 2205, 1.3 and 2.3).
use Rattle.std.specs.Prelude.{ℕ, nat_lt, Bool, if◌then◌else◌, List, filter, Option, Some, None}
use Rattle.rsvp_contents.specs.Styles.{is_fixed, is_shared}
use Rattle.rsvp_objects.specs.declared.values.Style.{Style}
use Rattle.lsr_facts.specs.declared.key.Key.{Key}
use Rattle.lsr_facts.specs.declared.repair.Repair.{Repair}
use Rattle.lsr_facts.specs.declared.resv_fact.ResvFact.{ResvFact}
use Rattle.lsr_facts.specs.declared.resv_fact.ResvStyle.{ResvStyle}
use Rattle.lsr_facts.specs.declared.resv_fact.ResvStyle.TheVariants.{FixedFilter, SharedExplicit}

-- the style that an object says, where it is one of the two (RFC 2205, A.7)
abbrev pub style_of : Style → Option ResvStyle
style_of style = if is_fixed style then Some FixedFilter else if is_shared style then Some SharedExplicit else None

-- the bits that name a style: 01010 and 10010 (RFC 2205, A.7)
abbrev pub style_bits : ResvStyle → ℕ
style_bits FixedFilter = 10
style_bits SharedExplicit = 18

-- STYLE as this router writes it
abbrev pub style_word : ResvStyle → Style
style_word style = record { word = style_bits style }

-- the reservation's expiry is yet to come: one whose expiry is this moment has expired (RFC 2205, 2.3)
abbrev pub resv_lives_past : ℕ → ResvFact → Bool
resv_lives_past moment fact = nat_lt moment fact.expiry

-- Each reservation goes that has expired (RFC 2205, 2.3).
unfoldable pub expire_resvs : ℕ → List (Key × ResvFact) → List (Key × ResvFact)
expire_resvs moment resvs = filter (λ resv. resv_lives_past moment resv.1) resvs

-- a reservation, whenever it expires, which no message says
abbrev pub timeless_resv : ResvFact → ResvFact
timeless_resv resv = record resv { expiry = 0 }

-- a repair, whenever it expires
abbrev pub timeless_repair : Repair → Repair
timeless_repair repair = record repair { resv = timeless_resv repair.resv }

-- A repair expires as the reservation does from which it comes.
unfoldable pub expire_repairs : ℕ → List (Key × Repair) → List (Key × Repair)
expire_repairs moment repairs = filter (λ repair. resv_lives_past moment repair.1.resv) repairs
