-- What is reserved of the links of a router, and by whom.
use Rattle.std.specs.Prelude.{◌≡◌, ℕ, ◌^◌, ◌≤◌, not, List, map, Option, Some, None, is_some, IsOk}
use Rattle.std.specs.FinMap.Entries.{find, put, where_key}
use Rattle.std.specs.List.{AllByRecursion, AllZip}
use Rattle.std.specs.Option.{option_map, option_map_or}
use Rattle.std.specs.Ordering.{is_eq}
use Rattle.rsvp_bodies.specs.Traffic.{flowspec_rate}
use Rattle.sorted_rows.specs.Edits.{edited}
use Rattle.lsr_facts.specs.Orders.{key_cmp}
use Rattle.lsr_facts.specs.declared.key.Key.{Key}
use Rattle.lsr_facts.specs.Claims.{claim_of}
use Rattle.lsr_facts.specs.Reservations.{expire_resvs}
use Rattle.lsr_facts.specs.declared.claim.Claim.{Claim}
use Rattle.lsr_facts.specs.declared.resv_fact.ResvFact.{ResvFact}

-- the reservations, what each takes, and the most that may be reserved on each link, in bytes per second
pub record Bandwidth : Type 0 where
  pub resvs : List (Key × ResvFact)
  pub claims : List (Key × Claim)
  pub limits : List (ℕ × ℕ)

-- the claim is what the reservation of its LSP takes, kept at some priority, 0 to 7
pub record IsClaimOf (resv : Key × ResvFact) (claim : Key × Claim) : Type 0 where
  pub same_lsp : claim.0 ≡ resv.0
  pub taken : claim.1 ≡ claim_of resv.1 claim.1.holding
  pub kept : claim.1.holding ≤ 7
  pub rated : claim.1.rate ≤ 2 ^ 50

-- The reservations and the claims are those of the same LSPs, and row by row a claim is what the reservation takes.
abbrev pub AreMatched : List (Key × ResvFact) → List (Key × Claim) → Type 0
AreMatched resvs claims = AllZip IsClaimOf resvs claims

-- each rate is at most 2 ^ 50 bytes per second, the greatest limit of a link
abbrev pub AreRated : List (Key × Claim) → Type 0
AreRated claims = AllByRecursion (λ claim. claim.1.rate ≤ 2 ^ 50) claims

-- An LSP has this reservation from now on, kept at this priority, in place of the one that it had.
abbrev pub with_resv : Key → ResvFact → ℕ → Bandwidth → Bandwidth
with_resv key fact holding b = record b { resvs = put key_cmp key fact b.resvs; claims = put key_cmp key (claim_of fact holding) b.claims }

-- An LSP has no reservation any more.
abbrev pub without_resv : Key → Bandwidth → Bandwidth
without_resv key b = record b {
  resvs = where_key key_cmp (λ other. not (is_eq (key_cmp key other))) b.resvs;
  claims = where_key key_cmp (λ other. not (is_eq (key_cmp key other))) b.claims;
}

-- the claims of those LSPs that have a reservation
abbrev pub claims_of : List (Key × ResvFact) → List (Key × Claim) → List (Key × Claim)
claims_of resvs claims = where_key key_cmp (λ key. is_some (find key_cmp key resvs)) claims

-- Those reservations alone are left that live past a moment.
abbrev pub left_at : ℕ → Bandwidth → Bandwidth
left_at moment b = record b { resvs = expire_resvs moment b.resvs; claims = claims_of (expire_resvs moment b.resvs) b.claims }

-- An LSP keeps what it has at this priority from now on. Where it has nothing, nothing changes.
abbrev pub with_holding : Key → ℕ → Bandwidth → Bandwidth
with_holding key holding b = record b {
  claims = option_map_or (λ (claim : Claim). put key_cmp key (record claim { holding = holding }) b.claims) (find key_cmp key b.claims) b.claims;
}

-- an edit of what an LSP has: from now on this reservation, kept at this priority, or none
abbrev pub Edit : Type 0
Edit = Option (ResvFact × ℕ)

-- the edit can be made: the rate of its reservation is defined, and its priority is 0 to 7
abbrev pub IsEdit : Edit → Type 0
IsEdit None = Unit {0}
IsEdit (Some now) = IsOk (flowspec_rate now.0.flowspec) × (now.1 ≤ 7)

-- each of the edits can be made
abbrev pub AreEdits : List (Key × Edit) → Type 0
AreEdits edits = AllByRecursion (λ edit. IsEdit edit.1) edits

-- what edits make of the reservations
abbrev pub resv_edits : List (Key × Edit) → List (Key × Option ResvFact)
resv_edits edits = map (λ edit. (edit.0, option_map (λ now. now.0) edit.1)) edits

-- and of what these take
abbrev pub claim_edits : List (Key × Edit) → List (Key × Option Claim)
claim_edits edits = map (λ edit. (edit.0, option_map (λ now. claim_of now.0 now.1) edit.1)) edits

-- Each LSP that the edits name has from now on what they say.
abbrev pub with_edits : List (Key × Edit) → Bandwidth → Bandwidth
with_edits edits b = record b { resvs = edited key_cmp (resv_edits edits) b.resvs; claims = edited key_cmp (claim_edits edits) b.claims }

-- of this LSP the same is known by both
pub record IsSameOf (key : Key) (a b : Bandwidth) : Type 0 where
  pub fact : find key_cmp key a.resvs ≡ find key_cmp key b.resvs
  pub claim : find key_cmp key a.claims ≡ find key_cmp key b.claims
