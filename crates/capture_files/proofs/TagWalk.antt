-- How a walk over tags goes on.
use Rattle.std.proofs.Common.{◌≡◌, ◌<◌, ◌-◌, ℕ, zero, suc, true, List, drop, refl, arith}
use Rattle.capture_files.specs.Links.{after_tags, has_tag}

-- a tag is passed over
pub one_tag : (left : ℕ) (bytes rest : List ℕ) → 0 < left → has_tag bytes ≡ true → rest ≡ drop 4 bytes → after_tags (left - 1) rest ≡ after_tags left bytes
one_tag zero bytes rest some tag same = absurd (omega (arith, some))
one_tag (suc left) bytes rest some tag same =
    let before : suc left - 1 ≡ left = omega arith in
    rw (before, tag, same) refl
