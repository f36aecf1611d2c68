-- What a clause says of a closure that tests rows.
use Rattle.std.specs.Prelude.{◌≡◌, Bool}
use Rattle.std.specs.Fn.{Shared}
use denote.Ref.{Bor}

-- each answer of the closure, at a key and a value, is what `passes` gives
abbrev pub ComputesTest : {F K V : Type 0} → Shared F (Bor K × (Bor V × Unit {0})) Bool → F → (K × V → Bool) → Type 0
ComputesTest {F} {K} {V} g f passes = (key : Bor K) (value : Bor V) (answer : Bool) → g.post f (key, (value, tt)) answer → answer ≡ passes (key.now, value.now)
