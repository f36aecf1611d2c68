-- Slices that reach to the end.
use Rattle.std.proofs.Common.{◌≡◌, ◌-◌, ℕ, List, arith, drop, length, length-drop, take, take_all}

-- all that is left
pub rest_of : (start : ℕ) (bytes : List ℕ) → take (length bytes - start) (drop start bytes) ≡ drop start bytes
rest_of start bytes = take_all (length bytes - start) (drop start bytes) (omega (arith, length-drop start bytes))
