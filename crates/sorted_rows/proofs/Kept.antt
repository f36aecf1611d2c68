-- What a call that may refuse leaves behind.
use Rattle.std.proofs.Common.{◌≡◌, Result, Ok, Err, OnOk, OnErr, sym, subst}

-- what holds of both outcomes of a call holds after it
pub kept_either : {X E A : Type 0} (P : A → Type 0) (result : Result X E) (after done before : A) → OnOk result (after ≡ done) → OnErr result (after ≡ before) → P done → P before → P after
kept_either P (Ok x) after done before ok err d b = subst P (sym ok) d
kept_either P (Err e) after done before ok err d b = subst P (sym err) b
