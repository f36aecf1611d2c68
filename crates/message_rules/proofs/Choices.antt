-- What the answer of a value that may be missing is.
use Rattle.std.specs.Prelude.{◌≡◌, Option, Some, None, is_none}
use Rattle.std.specs.Option.{ok_or}
use Rattle.std.specs.Result.{is_err}
use Rattle.std.proofs.Common.{refl}

-- an error stands just where the value is missing
pub missing : {A E : Type 0} (o : Option A) (e : E) → is_err (ok_or o e) ≡ is_none o
missing None e = refl
missing (Some x) e = refl
