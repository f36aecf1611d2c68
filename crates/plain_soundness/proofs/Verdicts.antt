-- What a clause that is found says of the whole.
use Rattle.std.specs.Prelude.{◌≡◌, ◌↔◌, true, Option, Some, None, Result, Ok, Err, IfOk, IfSome, MatchOption, is_none}
use Rattle.std.proofs.Common.{refl}
use Rattle.lsr_facts.specs.declared.router.Router.{Router}
use Rattle.abstract_router.specs.Soundness.{IsSound}
use Rattle.abstract_router.specs.States.{State}
use Rattle.plain_soundness.specs.declared.clause.Clause.{Clause}
use Rattle.plain_soundness.specs.declared.clause.Clause.TheVariants as clauses
use Rattle.plain_soundness.specs.Clauses.{Holds, IsBroken}

-- each clause holds of a sound state
sound_holds : (r : Router) (s : State) → IsSound r s → (clause : Clause) → Holds clause r s
sound_holds r s is clauses.Paths = is.paths
sound_holds r s is clauses.Held = is.held
sound_holds r s is clauses.Standing = is.standing
sound_holds r s is clauses.Repaired = is.repaired
sound_holds r s is clauses.RepairsStanding = is.repairs_standing
sound_holds r s is clauses.Labels = is.labels
sound_holds r s is clauses.Assigned = is.assigned
sound_holds r s is clauses.Resting = is.resting
sound_holds r s is clauses.Sent = is.sent
sound_holds r s is clauses.SentUpstream = is.sent_upstream

-- So none is found just where the state is sound,
pub sound_where : {E : Type 0} (r : Router) (s : State) (result : Result (Option Clause) E) → IfOk result (λ found. MatchOption found (IsSound r s) (λ clause. IsBroken clause r s)) → IfOk result (λ found. (is_none found ≡ true) ↔ IsSound r s)
sound_where r s (Ok None) is = (λ none. is, λ sound. refl)
sound_where r s (Ok (Some clause)) is = (λ none. absurd (let e = none in cc), λ sound. absurd (is (sound_holds r s sound clause)))
sound_where r s (Err e) is = is

-- and one that is found is broken.
pub broken_where : {E : Type 0} (r : Router) (s : State) (result : Result (Option Clause) E) → IfOk result (λ found. MatchOption found (IsSound r s) (λ clause. IsBroken clause r s)) → IfOk result (λ found. IfSome found (λ clause. IsBroken clause r s))
broken_where r s (Ok None) is = tt
broken_where r s (Ok (Some clause)) is = is
broken_where r s (Err e) is = is
