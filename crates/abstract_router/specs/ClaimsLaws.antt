-- Laws of what reservations claim: the claims stand under their keys, and change as they do.
use Rattle.std.specs.Prelude.{◌≡◌, suc, Bool, true, false, cond, T, List, [], ◌∷◌, length, map, Some}
use Rattle.std.specs.FinMap.Entries.{by_order, find, is_sorted, put, where_key}
use Rattle.std.specs.Option.{option_map}
use Rattle.std.specs.Ordering.{eq_by_cmp}
use Rattle.std.specs.declared.cmp.Ordering.TheVariants.{Less, Equal, Greater}
use Rattle.std.proofs.Common.{refl, sym, ap, subst}
use Rattle.sorted_rows.specs.Rows.{keys_of}
use Rattle.sorted_rows.specs.RowsLaws.{is_sorted-both, ties}
use Rattle.lsr_facts.specs.OrderLaws.{key_exact}
use Rattle.lsr_facts.specs.Orders.{key_cmp}
use Rattle.lsr_facts.specs.declared.key.Key.{Key}
use Rattle.lsr_facts.specs.declared.path_fact.PathFact.{PathFact}
use Rattle.lsr_facts.specs.Claims.{claim_of}
use Rattle.lsr_facts.specs.Priorities.{holding_of}
use Rattle.lsr_facts.specs.declared.claim.Claim.{Claim}
use Rattle.lsr_facts.specs.declared.resv_fact.ResvFact.{ResvFact}
use Rattle.abstract_router.specs.Preempting.{attr_at, claims_of}

-- what one reservation claims
abbrev pub claim_at : List (Key × PathFact) → Key × ResvFact → Key × Claim
claim_at paths resv = (resv.0, claim_of resv.1 (holding_of (attr_at paths resv.0)))

-- each reservation claims once
pub length-claims : (paths : List (Key × PathFact)) (resvs : List (Key × ResvFact)) → length (claims_of paths resvs) ≡ length resvs
unfolding claims_of
length-claims paths [] = refl
length-claims paths (v ∷ vs) = ap suc (length-claims paths vs)

-- The claims stand under the keys of the reservations, and so are in order as these are.
pub keys-claims : (paths : List (Key × PathFact)) (resvs : List (Key × ResvFact)) → keys_of (claims_of paths resvs) ≡ keys_of resvs
unfolding claims_of
keys-claims paths [] = refl
keys-claims paths (v ∷ vs) = ap (λ l. v.0 ∷ l) (keys-claims paths vs)

pub sorted-claims : (paths : List (Key × PathFact)) (resvs : List (Key × ResvFact)) → T (is_sorted key_cmp resvs) → T (is_sorted key_cmp (claims_of paths resvs))
sorted-claims paths resvs h = subst T (sym (is_sorted-both key_cmp (claims_of paths resvs) resvs (keys-claims paths resvs))) h

-- the claims of reservations that are kept by their keys
pub claims-where : (paths : List (Key × PathFact)) (p : Key → Bool) (resvs : List (Key × ResvFact)) → claims_of paths (where_key key_cmp p resvs) ≡ where_key key_cmp p (claims_of paths resvs)
unfolding claims_of
claims-where paths p [] = refl
claims-where paths p (v ∷ vs) =
    let rest = claims-where paths p vs in
    elim (p v.0) as (λ b. map (claim_at paths) (cond b (v ∷ where_key key_cmp p vs) (where_key key_cmp p vs)) ≡ cond b (claim_at paths v ∷ where_key key_cmp p (map (claim_at paths) vs)) (where_key key_cmp p (map (claim_at paths) vs))) [
      | true ↦ ap (λ l. claim_at paths v ∷ l) rest
      | false ↦ rest
    ]

-- the claims once a reservation is put
pub claims-put : (paths : List (Key × PathFact)) (key : Key) (fact : ResvFact) (resvs : List (Key × ResvFact))
    → claims_of paths (put key_cmp key fact resvs) ≡ put key_cmp key (claim_of fact (holding_of (attr_at paths key))) (claims_of paths resvs)
unfolding claims_of
claims-put paths key fact [] = refl
claims-put paths key fact (v ∷ vs) =
    let claim = claim_of fact (holding_of (attr_at paths key)) in
    let rest = claims-put paths key fact vs in
    elim (key_cmp key v.0) as (λ o. key_cmp key v.0 ≡ o → map (claim_at paths) (by_order o ((key, fact) ∷ v ∷ vs) ((v.0, fact) ∷ vs) (v ∷ put key_cmp key fact vs))
    ≡ by_order o ((key, claim) ∷ claim_at paths v ∷ map (claim_at paths) vs) ((v.0, claim) ∷ map (claim_at paths) vs) (claim_at paths v ∷ put key_cmp key claim (map (claim_at paths) vs))) [
      | Less ↦ λ o. refl
      | Equal ↦ λ o. ap (λ k. (v.0, claim_of fact (holding_of (attr_at paths k))) ∷ map (claim_at paths) vs) (sym (key_exact key v.0 o))
      | Greater ↦ λ o. ap (λ l. claim_at paths v ∷ l) rest
    ] refl

-- what an LSP claims
pub find-claims : (paths : List (Key × PathFact)) (key : Key) (resvs : List (Key × ResvFact)) → find key_cmp key (claims_of paths resvs) ≡ option_map (λ fact. claim_of fact (holding_of (attr_at paths key))) (find key_cmp key resvs)
unfolding claims_of
find-claims paths key [] = refl
find-claims paths key (v ∷ vs) =
    elim (eq_by_cmp key_cmp key v.0) as (λ b. eq_by_cmp key_cmp key v.0 ≡ b → cond b (Some (claim_of v.1 (holding_of (attr_at paths v.0)))) (find key_cmp key (map (claim_at paths) vs)) ≡ option_map (λ fact. claim_of fact (holding_of (attr_at paths key))) (cond b (Some v.1) (find key_cmp key vs))) [
      | true ↦ λ tie. ap (λ k. Some (claim_of v.1 (holding_of (attr_at paths k)))) (sym (key_exact key v.0 (ties _ tie)))
      | false ↦ λ apart. find-claims paths key vs
    ] refl
