-- The same subobjects are written as the same bytes.
use Rattle.std.proofs.Common.{◌≡◌, ℕ, List, true, nat_eq, sym, ap, ◌∙◌}
use Rattle.std.specs.Cmp.Lexicographic.{pointwise, bytes_decides, pointwise_decides}
use Rattle.std.specs.List.{flat_map}
use Rattle.message_rules.proofs.spelling.is_same.Goals as goal

same_bytes : {X : Type 0} (spelling : X → List ℕ) (a b : List X) → a ≡ b → true ≡ pointwise nat_eq (flat_map spelling a) (flat_map spelling b)
same_bytes spelling a b same =
    let bytes : flat_map spelling a ≡ flat_map spelling b = ap (flat_map spelling) same in
    sym ((bytes_decides (flat_map spelling a) (flat_map spelling b)).1 bytes)

-- src/spelling.rt:24:1
pub returns-in-Some-Some : goal.returns-in-Some-Some
returns-in-Some-Some g c =
    let decides = pointwise_decides g.met.T.Subobject.equal_is_same c.in-Some-Some.a c.in-Some-Some.b in
    let equal : c.in-Some-Some.a ≡ c.in-Some-Some.b = decides.0 (sym c.eq.ensures ∙ c.if-eq.true) in
    rw (c.in-Some-Some.is-0, c.in-Some-Some.is-1)
    (same_bytes g.T.Subobject.spelling c.in-Some-Some.a c.in-Some-Some.b equal)
