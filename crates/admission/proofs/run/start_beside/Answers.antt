use Rattle.std.proofs.Common.{◌≡◌, ℕ, ◌+◌, ◌≤◌, length, true, arith, subst}
use Rattle.std.specs.List.{HoldsAt}
use Rattle.admission.specs.Runs.{comes_before}
use Rattle.admission.proofs.Runs.{starts_at}
use Rattle.admission.proofs.run.start_beside.Goals as goal
use Rattle.admission.proofs.run.start_beside.Goals.{then-near-eq0-via-else-near-eq0+then-is_lesser_at-3, then-near-eq0-via-then-near-eq0}

pub returns-then-is_lesser_at : goal.returns-then-is_lesser_at
returns-then-is_lesser_at c =
    let session = c.args.session.now in
    let claims = c.args.claims.now in
    let near = c.args.near in
    let at = c.is_lesser_at.ensures.lesser c.if-is_lesser_at.true in
    let within : near + 1 ≤ length claims = omega (arith, at.0) in
    (within, starts_at session claims c.requires (near + 1) within (λ k is. subst (HoldsAt (λ row. comes_before session row ≡ true) claims) (omega (arith, is)) at.1) (c.is_lesser_at-then-is_lesser_at.ensures.other c.if-is_lesser_at-2.false))

pub returns-then-near-eq0 : goal.returns-then-near-eq0
returns-then-near-eq0 c =
    let session = c.args.session.now in
    let claims = c.args.claims.now in
    let near = c.args.near in
    let before : (near ≤ length claims) × ((k : ℕ) → k + 1 ≡ near → HoldsAt (λ row. comes_before session row ≡ true) claims k) =
    elim c.then-near-eq0.branch [
      | then-near-eq0-via-then-near-eq0 w ↦ (omega (arith, w.if-near-eq0.true), λ k is. absurd (omega (arith, is, w.if-near-eq0.true)))
      | then-near-eq0-via-else-near-eq0+then-is_lesser_at-3 w ↦
          let at = w.is_lesser_at-else-near-eq0.ensures.lesser w.if-is_lesser_at-3.true in
          (omega (arith, at.0), λ k is. subst (HoldsAt (λ row. comes_before session row ≡ true) claims) (omega (arith, is)) at.1)
    ]
    in
    (before.0, starts_at session claims c.requires near before.0 before.1 (c.is_lesser_at.ensures.other c.if-is_lesser_at.false))
