-- A request for what its LSP claims already: it fits, and nobody gives way to it.
use Rattle.std.specs.Prelude.{◌≡◌, ℕ, ◌≤◌, true, T, List, [], Some}
use Rattle.std.specs.FinMap.Entries.{find, is_sorted}
use Rattle.std.proofs.Common.{refl, sym, ap, subst, ◌∙◌, arith}
use Rattle.std.proofs.lemmas.Bool.{le-leb}
use Rattle.sorted_rows.specs.ListLaws.{all-always, filter-all_pass}
use Rattle.sorted_rows.specs.RowsLaws.{put-found}
use Rattle.lsr_facts.specs.OrderLaws.{key_total}
use Rattle.lsr_facts.specs.Orders.{key_cmp}
use Rattle.lsr_facts.specs.declared.key.Key.{Key}
use Rattle.lsr_facts.specs.Admission.{fits, granted, is_enough, victims_of, without}
use Rattle.lsr_facts.specs.AdmissionLaws.{victims_of-none}
use Rattle.lsr_facts.specs.Claims.{reserved_of}
use Rattle.lsr_facts.specs.declared.claim.Claim.{Claim}
use Rattle.lsr_facts.specs.declared.claim.Request.{Request}

module _ (request : Request) (claims : List (Key × Claim)) (sorted : T (is_sorted key_cmp claims)) (found : find key_cmp request.key claims ≡ Some request.claim) where
  -- all claims stay
  pub granted_again : granted request (without [] claims) ≡ claims
  granted_again =
      ap (granted request) (filter-all_pass (λ claim. true) claims (all-always (λ claim. true ≡ true) (λ claim. refl) claims))
      ∙ put-found key_cmp key_total request.key request.claim claims sorted found

  module _ (limit : ℕ) (within : (priority : ℕ) → priority ≤ 7 → reserved_of request.claim.link priority claims ≤ limit) where
    pub fits_again : request.setup ≤ 7 → fits limit request claims ≡ true
    unfolding fits
    fits_again most =
        le-leb _ limit (subst (λ cs. reserved_of request.claim.link request.setup cs ≤ limit) (sym (put-found key_cmp key_total request.key request.claim claims sorted found)) (within request.setup most))

    enough : is_enough limit request claims [] ≡ true
    unfolding is_enough
    enough = le-leb _ limit (subst (λ cs. reserved_of request.claim.link 7 cs ≤ limit) (sym granted_again) (within 7 (omega arith)))

    pub none_gives_way : victims_of limit request claims ≡ []
    none_gives_way = victims_of-none limit request claims enough
