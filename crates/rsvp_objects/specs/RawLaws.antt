-- When two kept objects are the same.
use Rattle.std.proofs.Common.{◌≡◌, ◌==◌, ◌&&◌, Bool, ap, nat_eq}
use Rattle.std.specs.Bool.{Decides}
use Rattle.std.specs.Cmp.Lexicographic.{pointwise, bytes_decides}
use Rattle.std.proofs.lemmas.Bool.Decides.{Decides-and, Decides-eqb, Decides-like}
use Rattle.rsvp_objects.specs.Raw.{Raw}

-- class, C-Type and body are the same
abbrev pub same_raw : Raw → Raw → Bool
same_raw a b = (a.class == b.class) && ((a.ctype == b.ctype) && pointwise nat_eq a.body b.body)

-- it says so exactly where the objects are the same
pub same_raw_lem : (a b : Raw) → Decides (same_raw a b) (a ≡ b)
same_raw_lem a b =
    Decides-like _ (λ h i. record { class = h.0 i; ctype = h.1.0 i; body = h.1.1 i })
    (λ e. (ap (λ o. o.class) e, (ap (λ o. o.ctype) e, ap (λ o. o.body) e)))
    (Decides-and _ _ (Decides-eqb a.class b.class)
    (Decides-and _ _ (Decides-eqb a.ctype b.ctype) (bytes_decides a.body b.body)))
