-- Changes of the reservations and of the claims beside them keep them matched.
use Rattle.std.proofs.Common.{◌≡◌, ℕ, suc, ◌≤◌, ◌^◌, T, Bool, true, false, cond, List, [], ◌∷◌, length, Some, None, is_some, refl, sym, ap, subst, ◌∙◌}
use Rattle.std.specs.FinMap.Entries.{by_order, find, is_sorted, put, where_key}
use Rattle.std.specs.List.{filter}
use Rattle.std.specs.Ordering.{eq_by_cmp}
use Rattle.std.specs.declared.cmp.Ordering.TheVariants.{Less, Equal, Greater}
use Rattle.sorted_rows.specs.RowsLaws.{put-found, where_key-kept}
use Rattle.lsr_facts.specs.Orders.{key_cmp}
use Rattle.lsr_facts.specs.OrderLaws.{key_total}
use Rattle.lsr_facts.specs.declared.key.Key.{Key}
use Rattle.lsr_facts.specs.Claims.{claim_of}
use Rattle.lsr_facts.specs.declared.claim.Claim.{Claim}
use Rattle.lsr_facts.specs.declared.resv_fact.ResvFact.{ResvFact}
use Rattle.admission.specs.Bandwidths.{AreMatched, AreRated, Bandwidth, IsClaimOf, claims_of}

-- what is reserved, by its lists
abbrev pub bandwidth : List (Key × ResvFact) → List (Key × Claim) → List (ℕ × ℕ) → Bandwidth
bandwidth resvs claims limits = record { resvs = resvs; claims = claims; limits = limits }

-- there are as many claims as reservations
pub matched_length : (rs : List (Key × ResvFact)) (cs : List (Key × Claim)) → AreMatched rs cs → length cs ≡ length rs
matched_length [] [] m = refl
matched_length [] (c ∷ cs) m = absurd m
matched_length (r ∷ rs) [] m = absurd m
matched_length (r ∷ rs) (c ∷ cs) m = ap suc (matched_length rs cs m.1)

-- and each claim has a rate in its range
pub matched_rated : (rs : List (Key × ResvFact)) (cs : List (Key × Claim)) → AreMatched rs cs → AreRated cs
matched_rated [] [] m = tt
matched_rated [] (c ∷ cs) m = absurd m
matched_rated (r ∷ rs) [] m = absurd m
matched_rated (r ∷ rs) (c ∷ cs) m = (m.0.rated, matched_rated rs cs m.1)

-- a reservation and its claim that are put under one key
pub matched_put : (key : Key) (fact : ResvFact) (claim : Claim) → IsClaimOf (key, fact) (key, claim) → (rs : List (Key × ResvFact)) (cs : List (Key × Claim)) → AreMatched rs cs → AreMatched (put key_cmp key fact rs) (put key_cmp key claim cs)
matched_put key fact claim is [] [] m = (is, tt)
matched_put key fact claim is [] (c ∷ cs) m = absurd m
matched_put key fact claim is (r ∷ rs) [] m = absurd m
matched_put key fact claim is (r ∷ rs) (c ∷ cs) m =
    let here : IsClaimOf (r.0, fact) (c.0, claim) = record { same_lsp = m.0.same_lsp; taken = is.taken; kept = is.kept; rated = is.rated } in
    let rest = matched_put key fact claim is rs cs m.1 in
    let same : key_cmp key r.0 ≡ key_cmp key c.0 = ap (key_cmp key) (sym m.0.same_lsp) in
    subst (λ o. AreMatched (put key_cmp key fact (r ∷ rs)) (by_order o ((key, claim) ∷ c ∷ cs) ((c.0, claim) ∷ cs) (c ∷ put key_cmp key claim cs))) same
    (elim (key_cmp key r.0) as (λ o. AreMatched (by_order o ((key, fact) ∷ r ∷ rs) ((r.0, fact) ∷ rs) (r ∷ put key_cmp key fact rs)) (by_order o ((key, claim) ∷ c ∷ cs) ((c.0, claim) ∷ cs) (c ∷ put key_cmp key claim cs))) [
      | Less ↦ (is, m)
      | Equal ↦ (here, m.1)
      | Greater ↦ (m.0, rest)
    ])

-- those that are left by a test of the keys
pub matched_where_key : (p : Key → Bool) (rs : List (Key × ResvFact)) (cs : List (Key × Claim)) → AreMatched rs cs → AreMatched (where_key key_cmp p rs) (where_key key_cmp p cs)
matched_where_key p [] [] m = tt
matched_where_key p [] (c ∷ cs) m = absurd m
matched_where_key p (r ∷ rs) [] m = absurd m
matched_where_key p (r ∷ rs) (c ∷ cs) m =
    let rest = matched_where_key p rs cs m.1 in
    subst (λ b. AreMatched (where_key key_cmp p (r ∷ rs)) (cond b (c ∷ where_key key_cmp p cs) (where_key key_cmp p cs))) (ap p (sym m.0.same_lsp))
    (elim (p r.0) as (λ b. AreMatched (cond b (r ∷ where_key key_cmp p rs) (where_key key_cmp p rs)) (cond b (c ∷ where_key key_cmp p cs) (where_key key_cmp p cs))) [ true ↦ (m.0, rest) | false ↦ rest ])

-- those that are left by a test of the reservations
pub matched_claims_of : (p : Key × ResvFact → Bool) (rs : List (Key × ResvFact)) (cs : List (Key × Claim)) → T (is_sorted key_cmp rs) → AreMatched rs cs → AreMatched (filter p rs) (claims_of (filter p rs) cs)
matched_claims_of p rs cs h m =
    subst (λ left. AreMatched left (claims_of (filter p rs) cs)) (where_key-kept key_cmp key_total p rs h) (matched_where_key (λ key. is_some (find key_cmp key (filter p rs))) rs cs m)

-- what the claim of an LSP is, where it has a reservation
pub matched_found : (key : Key) (fact : ResvFact) (rs : List (Key × ResvFact)) (cs : List (Key × Claim)) → AreMatched rs cs → find key_cmp key rs ≡ Some fact → (claim : Claim) × (find key_cmp key cs ≡ Some claim) × IsClaimOf (key, fact) (key, claim)
matched_found key fact [] [] m is = absurd cc
matched_found key fact [] (c ∷ cs) m is = absurd m
matched_found key fact (r ∷ rs) [] m is = absurd m
matched_found key fact (r ∷ rs) (c ∷ cs) m is =
    let same : eq_by_cmp key_cmp key r.0 ≡ eq_by_cmp key_cmp key c.0 = ap (eq_by_cmp key_cmp key) (sym m.0.same_lsp) in
    elim (eq_by_cmp key_cmp key r.0) as (λ b. eq_by_cmp key_cmp key r.0 ≡ b → cond b (Some r.1) (find key_cmp key rs) ≡ Some fact → (claim : Claim) × (find key_cmp key (c ∷ cs) ≡ Some claim) × IsClaimOf (key, fact) (key, claim)) [
      | true ↦ λ tie found.
          let value : r.1 ≡ fact = cc in
          let here = ap (λ b. cond b (Some c.1) (find key_cmp key cs)) (sym same ∙ tie) in
          let row : IsClaimOf (key, fact) (key, c.1) = record { same_lsp = refl; taken = m.0.taken ∙ ap (λ f. claim_of f c.1.holding) value; kept = m.0.kept; rated = m.0.rated } in
          (c.1, here, row)
      | false ↦ λ apart found.
          let rest = matched_found key fact rs cs m.1 found in
          (rest.0, ap (λ b. cond b (Some c.1) (find key_cmp key cs)) (sym same ∙ apart) ∙ rest.1, rest.2)
    ] refl is

-- and what the reservation of an LSP is, where it has a claim
pub matched_fact : (key : Key) (claim : Claim) (rs : List (Key × ResvFact)) (cs : List (Key × Claim)) → AreMatched rs cs → find key_cmp key cs ≡ Some claim → (fact : ResvFact) × (find key_cmp key rs ≡ Some fact) × IsClaimOf (key, fact) (key, claim)
matched_fact key claim [] [] m is = absurd cc
matched_fact key claim [] (c ∷ cs) m is = absurd m
matched_fact key claim (r ∷ rs) [] m is = absurd m
matched_fact key claim (r ∷ rs) (c ∷ cs) m is =
    let same : eq_by_cmp key_cmp key c.0 ≡ eq_by_cmp key_cmp key r.0 = ap (eq_by_cmp key_cmp key) m.0.same_lsp in
    elim (eq_by_cmp key_cmp key c.0) as (λ b. eq_by_cmp key_cmp key c.0 ≡ b → cond b (Some c.1) (find key_cmp key cs) ≡ Some claim → (fact : ResvFact) × (find key_cmp key (r ∷ rs) ≡ Some fact) × IsClaimOf (key, fact) (key, claim)) [
      | true ↦ λ tie found.
          let value : c.1 ≡ claim = cc in
          let here = ap (λ b. cond b (Some r.1) (find key_cmp key rs)) (sym same ∙ tie) in
          let own : IsClaimOf (key, r.1) (key, c.1) = record { same_lsp = refl; taken = m.0.taken; kept = m.0.kept; rated = m.0.rated } in
          (r.1, here, subst (λ (x : Claim). IsClaimOf (key, r.1) (key, x)) value own)
      | false ↦ λ apart found.
          let rest = matched_fact key claim rs cs m.1 found in
          (rest.0, ap (λ b. cond b (Some r.1) (find key_cmp key rs)) (sym same ∙ apart) ∙ rest.1, rest.2)
    ] refl is

-- an LSP that has no reservation has no claim
pub matched_none : (key : Key) (rs : List (Key × ResvFact)) (cs : List (Key × Claim)) → AreMatched rs cs → find key_cmp key rs ≡ None → find key_cmp key cs ≡ None
matched_none key [] [] m is = refl
matched_none key [] (c ∷ cs) m is = absurd m
matched_none key (r ∷ rs) [] m is = absurd m
matched_none key (r ∷ rs) (c ∷ cs) m is =
    let same : eq_by_cmp key_cmp key r.0 ≡ eq_by_cmp key_cmp key c.0 = ap (eq_by_cmp key_cmp key) (sym m.0.same_lsp) in
    elim (eq_by_cmp key_cmp key r.0) as (λ b. eq_by_cmp key_cmp key r.0 ≡ b → cond b (Some r.1) (find key_cmp key rs) ≡ None → find key_cmp key (c ∷ cs) ≡ None) [
      | true ↦ λ tie found. absurd cc
      | false ↦ λ apart found. ap (λ b. cond b (Some c.1) (find key_cmp key cs)) (sym same ∙ apart) ∙ matched_none key rs cs m.1 found
    ] refl is

-- a claim that is kept at another priority
pub matched_held : (key : Key) (claim : Claim) (holding : ℕ) (rs : List (Key × ResvFact)) (cs : List (Key × Claim)) → T (is_sorted key_cmp rs) → holding ≤ 7 → AreMatched rs cs → find key_cmp key cs ≡ Some claim → AreMatched rs (put key_cmp key (record claim { holding = holding }) cs)
matched_held key claim holding rs cs h fits m is =
    let found = matched_fact key claim rs cs m is in
    let fact = found.0 in
    let held : IsClaimOf (key, fact) (key, record claim { holding = holding }) = record { same_lsp = refl; taken = ap (λ (x : Claim). record x { holding = holding }) found.2.taken; kept = fits; rated = found.2.rated } in
    subst (λ rows. AreMatched rows (put key_cmp key (record claim { holding = holding }) cs)) (put-found key_cmp key_total key fact rs h found.1) (matched_put key fact (record claim { holding = holding }) held rs cs m)

-- what a reservation takes is matched with it
pub row_matched : (key : Key) (fact : ResvFact) (holding : ℕ) (claim : Claim) → claim ≡ claim_of fact holding → holding ≤ 7 → claim.rate ≤ 2 ^ 50 → IsClaimOf (key, fact) (key, claim)
row_matched key fact holding claim is fits most =
    let kept : claim.holding ≡ holding = ap (λ (x : Claim). x.holding) is in
    record {
      same_lsp = refl;
      taken = is ∙ ap (claim_of fact) (sym kept);
      kept = subst (λ n. n ≤ 7) (sym kept) fits;
      rated = most;
    }

-- the same lists are the same
pub same_bandwidth : (rs others : List (Key × ResvFact)) (cs claims : List (Key × Claim)) (limits : List (ℕ × ℕ)) → rs ≡ others → cs ≡ claims → bandwidth rs cs limits ≡ bandwidth others claims limits
same_bandwidth rs others cs claims limits a b = λ i. bandwidth (a i) (b i) limits
