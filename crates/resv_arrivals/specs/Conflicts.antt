-- Which claims stand against a reservation, as those reservations do whose claims they are.
use Rattle.std.specs.Prelude.{◌≡◌, ℕ, ◌==◌, ◌&&◌, not, Bool, cond, true, false, List, [], ◌∷◌, Some, find}
use Rattle.std.specs.Option.{option_map}
use Rattle.std.specs.Ordering.{is_eq}
use Rattle.std.proofs.Common.{refl}
use Rattle.lsr_facts.specs.Orders.{key_cmp}
use Rattle.lsr_facts.specs.declared.key.Key.{Key}
use Rattle.lsr_facts.specs.declared.path_fact.PathFact.{PathFact}
use Rattle.lsr_facts.specs.Claims.{claim_of, is_same_session}
use Rattle.lsr_facts.specs.Priorities.{holding_of}
use Rattle.lsr_facts.specs.declared.claim.Claim.{Claim}
use Rattle.lsr_facts.specs.declared.resv_fact.ResvFact.{ResvFact}
use Rattle.lsr_facts.specs.declared.resv_fact.ResvStyle.{ResvStyle}
use Rattle.abstract_router.specs.Preempting.{attr_at, claims_of}
use Rattle.abstract_router.specs.Reserving as reserving
use Rattle.abstract_router.specs.Reserving.{is_same_style}

-- another LSP of the session claims of the link in the other style
abbrev pub conflicts : ℕ → ResvStyle → Key → Key × Claim → Bool
conflicts link style key claim =
    is_same_session key.session claim.0.session && not (is_eq (key_cmp key claim.0)) && (claim.1.link == link) && not (is_same_style style claim.1.style)

-- So the first claim in the way is that of the first reservation in the way.
pub conflicting_style : (link : ℕ) (style : ResvStyle) (key : Key) (paths : List (Key × PathFact)) (resvs : List (Key × ResvFact))
    → option_map (λ claim. claim.1.style) (find (conflicts link style key) (claims_of paths resvs)) ≡ option_map (λ resv. resv.1.style) (find (reserving.conflicts link style key) resvs)
unfolding claims_of
conflicting_style link style key paths [] = refl
conflicting_style link style key paths (v ∷ vs) =
    elim (reserving.conflicts link style key v) as (λ b. option_map (λ (claim : Key × Claim). claim.1.style) (cond b (Some (v.0, claim_of v.1 (holding_of (attr_at paths v.0)))) (find (conflicts link style key) (claims_of paths vs))) ≡ option_map (λ (resv : Key × ResvFact). resv.1.style) (cond b (Some v) (find (reserving.conflicts link style key) vs))) [
      | true ↦ refl
      | false ↦ conflicting_style link style key paths vs
    ]
