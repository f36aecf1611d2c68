-- Whether it is enough that nobody gives way to a request.
use Rattle.std.specs.Prelude.{◌≡◌, ℕ, nat_le, true, List, []}
use Rattle.std.proofs.Common.{refl, sym, ap}
use Rattle.lsr_facts.specs.declared.key.Key.{Key}
use Rattle.sorted_rows.specs.ListLaws.{all-always, filter-all_pass}
use Rattle.lsr_facts.specs.Admission.{granted, is_enough, without}
use Rattle.lsr_facts.specs.Claims.{reserved_of}
use Rattle.lsr_facts.specs.declared.claim.Claim.{Claim}
use Rattle.lsr_facts.specs.declared.claim.Request.{Request}

-- nobody is gone
pub without_none : (claims : List (Key × Claim)) → claims ≡ without [] claims
without_none claims = sym (filter-all_pass (λ claim. true) claims (all-always (λ claim. true ≡ true) (λ claim. refl) claims))

module _ (limit : ℕ) (request : Request) (claims : List (Key × Claim)) where
  -- it is enough where what is reserved with the request at the worst priority is within the limit
  pub enough_is : nat_le (reserved_of request.claim.link 7 (granted request claims)) limit ≡ is_enough limit request claims []
  unfolding is_enough
  enough_is = ap (λ rows. nat_le (reserved_of request.claim.link 7 (granted request rows)) limit) (without_none claims)
