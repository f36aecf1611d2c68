-- Segments of a line that is linked both ways: their ends, their parts, and what a link that changes leaves of them.
use Rattle.std.proofs.Common.{◌≡◌, ◌≢◌, ◌⊎◌, ℕ, zero, suc, ◌<◌, ◌≤◌, ◌==◌, nat_eq, false, cond, List, [], ◌∷◌, ◌++◌, length, get_or, set, refl, sym, ap, subst, ◌∙◌, inl, inr, arith, get_or-set_other, get_or-set_same}
use Rattle.std.specs.List.{AllByRecursion, IsDistinct}
use Rattle.std.proofs.lemmas.Bool.{cond-false, cond-true, eq-eqb, eqb-false}
use Rattle.std.proofs.lemmas.Grind.{get_or-set_at}
use Rattle.std.proofs.lemmas.List.{append-nil}
use Rattle.std.proofs.lemmas.Map.Keys.{IsDistinct-cons, IsDistinct-head, IsDistinct-tail}
use Rattle.sorted_rows.specs.ListLaws.{all-weaker}
use Rattle.label_space.specs.LineLaws.{Differs, differ_turned}
use Rattle.label_space.specs.Lines.{IsLinked, line_from}

-- what holds of the place before a line and of each in it holds of the last of them
pub all-last : (P : ℕ → Type 0) (next previous : List ℕ) (from : ℕ) (line : List ℕ) (to : ℕ) → IsLinked next previous from line to → P from → AllByRecursion P line → P (get_or previous to 0)
all-last P next previous from [] to linked here each = subst P (sym linked.1) here
all-last P next previous from (place ∷ line) to linked here each = all-last P next previous place line to linked.2 each.0 each.1

-- what holds of the place behind a line and of each in it holds of the first of them
pub all-first : (P : ℕ → Type 0) (next previous : List ℕ) (from : ℕ) (line : List ℕ) (to : ℕ) → IsLinked next previous from line to → P to → AllByRecursion P line → P (get_or next from 0)
all-first P next previous from [] to linked there each = subst P (sym linked.0) there
all-first P next previous from (place ∷ line) to linked there each = subst P (sym linked.0) each.0

-- a place that names no next within the segment may name another
pub linked-set_next : (next previous : List ℕ) (i x from : ℕ) (line : List ℕ) (to : ℕ) → i ≢ from → Differs i line → IsLinked next previous from line to → IsLinked (set next i x) previous from line to
linked-set_next next previous i x from [] to apart differs linked =
    (get_or-set_other next i from x 0 (λ same. apart (sym same)) ∙ linked.0, linked.1)
linked-set_next next previous i x from (place ∷ line) to apart differs linked =
    (get_or-set_other next i from x 0 (λ same. apart (sym same)) ∙ linked.0, linked.1, linked-set_next next previous i x place line to (eqb-false i place differs.0) differs.1 linked.2)

-- nor one that names no previous
pub linked-set_previous : (next previous : List ℕ) (i x from : ℕ) (line : List ℕ) (to : ℕ) → i ≢ to → Differs i line → IsLinked next previous from line to → IsLinked next (set previous i x) from line to
linked-set_previous next previous i x from [] to apart differs linked =
    (linked.0, get_or-set_other previous i to x 0 (λ same. apart (sym same)) ∙ linked.1)
linked-set_previous next previous i x from (place ∷ line) to apart differs linked =
    (linked.0, get_or-set_other previous i place x 0 (λ same. eqb-false i place differs.0 (sym same)) ∙ linked.1, linked-set_previous next previous i x place line to apart differs.1 linked.2)

-- the last of a segment gets another place behind it
pub linked-set_end : (next previous : List ℕ) (last behind from : ℕ) (line : List ℕ) (to : ℕ) → last ≡ get_or previous to 0 → last < length next → behind < length previous → Differs from line → IsDistinct nat_eq line → Differs behind line → IsLinked next previous from line to → IsLinked (set next last behind) (set previous behind last) from line behind
linked-set_end next previous last behind from [] to is within place_within differs distinct apart linked =
    let here : from ≡ last = sym (is ∙ linked.1) in
    (get_or-set_at next last from behind 0 here within, get_or-set_same previous behind last 0 place_within ∙ sym here)
linked-set_end next previous last behind from (place ∷ line) to is within place_within differs distinct apart linked =
    let later : (from == last) ≡ false = subst (λ b. (from == b) ≡ false) (sym is) (all-last (λ b. (from == b) ≡ false) next previous place line to linked.2 differs.0 differs.1) in (
      get_or-set_other next last from behind 0 (eqb-false from last later) ∙ linked.0,
      get_or-set_other previous behind place last 0 (λ same. eqb-false behind place apart.0 (sym same)) ∙ linked.1,
      linked-set_end next previous last behind place line to is within place_within (IsDistinct-head nat_eq place line distinct) (IsDistinct-tail nat_eq place line distinct) apart.1 linked.2,
    )

-- the last of a segment is one of it, or the place before it where none is in it
pub linked_last : (next previous : List ℕ) (from : ℕ) (line : List ℕ) (to : ℕ) → IsLinked next previous from line to → ((line ≡ []) × (get_or previous to 0 ≡ from)) ⊎ ((less : List ℕ) × (line ≡ less ++ get_or previous to 0 ∷ []))
linked_last next previous from [] to linked = inl (refl, linked.1)
linked_last next previous from (place ∷ line) to linked =
    elim (linked_last next previous place line to linked.2) [
      | inl none ↦ inr ([], ap (λ rest. place ∷ rest) none.0 ∙ ap (λ x. x ∷ []) (sym none.1))
      | inr some ↦ inr (place ∷ some.0, ap (λ rest. place ∷ rest) some.1)
    ]

-- a segment, parted at a place
pub linked-part : (next previous : List ℕ) (from : ℕ) (before : List ℕ) (place : ℕ) (behind : List ℕ) (to : ℕ) → IsLinked next previous from (before ++ place ∷ behind) to → IsLinked next previous from before place × IsLinked next previous place behind to
linked-part next previous from [] place behind to linked = ((linked.0, linked.1), linked.2)
linked-part next previous from (first ∷ before) place behind to linked =
    let parts = linked-part next previous first before place behind to linked.2 in ((linked.0, linked.1, parts.0), parts.1)

-- and joined
pub linked-join : (next previous : List ℕ) (from : ℕ) (before : List ℕ) (place : ℕ) (behind : List ℕ) (to : ℕ) → IsLinked next previous from before place → IsLinked next previous place behind to → IsLinked next previous from (before ++ place ∷ behind) to
linked-join next previous from [] place behind to first later = (first.0, first.1, later)
linked-join next previous from (head ∷ before) place behind to first later =
    (first.0, first.1, linked-join next previous head before place behind to first.2 later)

-- what is in line on both sides of a place
pub record AroundPlace (before : List ℕ) (place : ℕ) (behind : List ℕ) : Type 0 where
  pub differs_before : Differs place before
  pub differs_behind : Differs place behind
  pub first : IsDistinct nat_eq before
  pub later : IsDistinct nat_eq behind
  pub apart : AllByRecursion (λ x. Differs x behind) before

-- what holds of each of a line holds of those before a place in it, of the place, and of those behind it
pub all-part : (P : ℕ → Type 0) (before : List ℕ) (place : ℕ) (behind : List ℕ) → AllByRecursion P (before ++ place ∷ behind) → AllByRecursion P before × P place × AllByRecursion P behind
all-part P [] place behind each = (tt, each.0, each.1)
all-part P (first ∷ before) place behind each =
    let parts = all-part P before place behind each.1 in ((each.0, parts.0), parts.1, parts.2)

distinct_nil : IsDistinct nat_eq []
unfolding IsDistinct
distinct_nil = tt

-- nothing is twice on both sides of a place
pub around_place : (before : List ℕ) (place : ℕ) (behind : List ℕ) → IsDistinct nat_eq (before ++ place ∷ behind) → AroundPlace before place behind
around_place [] place behind distinct = record {
  differs_before = tt;
  differs_behind = IsDistinct-head nat_eq place behind distinct;
  first = distinct_nil;
  later = IsDistinct-tail nat_eq place behind distinct;
  apart = tt;
}
around_place (x ∷ before) place behind distinct =
    let around = around_place before place behind (IsDistinct-tail nat_eq x (before ++ place ∷ behind) distinct) in
    let parts = all-part (λ y. (x == y) ≡ false) before place behind (IsDistinct-head nat_eq x (before ++ place ∷ behind) distinct) in
    record {
      differs_before = (differ_turned x place parts.1, around.differs_before);
      differs_behind = around.differs_behind;
      first = IsDistinct-cons nat_eq x before parts.0 around.first;
      later = around.later;
      apart = (parts.2, around.apart);
    }

-- where each of one line differs from each of another, so each of the other from each of the one
pub differ_across : (before behind : List ℕ) → AllByRecursion (λ x. Differs x behind) before → AllByRecursion (λ y. Differs y before) behind
differ_across before [] apart = tt
differ_across before (y ∷ behind) apart =
    (all_turned before (all-weaker (λ x. Differs x (y ∷ behind)) (λ x. (x == y) ≡ false) (λ x differs. differs.0) before apart), differ_across before behind (all-weaker (λ x. Differs x (y ∷ behind)) (λ x. Differs x behind) (λ x differs. differs.1) before apart))
  where
    all_turned : (line : List ℕ) → AllByRecursion (λ x. (x == y) ≡ false) line → Differs y line
    all_turned line each = all-weaker (λ x. (x == y) ≡ false) (λ x. (y == x) ≡ false) (λ x differs. differ_turned x y differs) line each

-- A place leaves a segment: the places on both sides of it name each other.
pub linked-removed : (next previous : List ℕ) (last first from : ℕ) (before : List ℕ) (place : ℕ) (behind : List ℕ) (to : ℕ) → last ≡ get_or previous place 0 → first ≡ get_or next place 0 → last < length next → first < length previous → Differs from (before ++ place ∷ behind) → Differs to (before ++ place ∷ behind) → IsDistinct nat_eq (before ++ place ∷ behind) → IsLinked next previous from (before ++ place ∷ behind) to → IsLinked (set next last first) (set previous first last) from (before ++ behind) to
linked-removed next previous last first from before place [] to is_last is_first within place_within from_differs to_differs distinct linked =
    let parts = linked-part next previous from before place [] to linked in
    let around = around_place before place [] distinct in
    let there : first ≡ to = is_first ∙ parts.1.0 in
    let apart = subst (λ x. Differs x before) (sym there) (all-part (λ y. (to == y) ≡ false) before place [] to_differs).0 in
    let relinked = linked-set_end next previous last first from before place is_last within place_within (all-part (λ y. (from == y) ≡ false) before place [] from_differs).0 around.first apart parts.0 in
    subst (λ line. IsLinked (set next last first) (set previous first last) from line to) (sym (append-nil before)) (subst (λ x. IsLinked (set next last first) (set previous first last) from before x) there relinked)
linked-removed next previous last first from before place (y ∷ behind) to is_last is_first within place_within from_differs to_differs distinct linked =
    let parts = linked-part next previous from before place (y ∷ behind) to linked in
    let around = around_place before place (y ∷ behind) distinct in
    let there : first ≡ y = is_first ∙ parts.1.0 in
    let across = differ_across before (y ∷ behind) around.apart in
    let apart = subst (λ x. Differs x before) (sym there) across.0 in
    let relinked = linked-set_end next previous last first from before place is_last within place_within (all-part (λ y. (from == y) ≡ false) before place (y ∷ behind) from_differs).0 around.first apart parts.0 in
    let last_differs : Differs last (y ∷ behind) = subst (λ x. Differs x (y ∷ behind)) (sym is_last) (all-last (λ x. Differs x (y ∷ behind)) next previous from before place parts.0 (all-part (λ y. (from == y) ≡ false) before place (y ∷ behind) from_differs).2 around.apart) in
    let y_differs : Differs y behind = IsDistinct-head nat_eq y behind around.later in
    let y_apart : y ≢ to = λ same. eqb-false to y (all-part (λ y. (to == y) ≡ false) before place (y ∷ behind) to_differs).2.0 (sym same) in
    let rest = linked-set_previous (set next last first) previous first last y behind to (λ same. y_apart (sym there ∙ same)) (subst (λ x. Differs x behind) (sym there) y_differs) (linked-set_next next previous last first y behind to (eqb-false last y last_differs.0) last_differs.1 parts.1.2) in
    linked-join (set next last first) (set previous first last) from before y behind to (subst (λ x. IsLinked (set next last first) (set previous first last) from before x) there relinked) rest

-- the line that a linked one is read as
pub line_from-linked : (most end : ℕ) (next previous : List ℕ) (from : ℕ) (line : List ℕ) → IsLinked next previous from line end → Differs end line → length line ≤ most → line_from most end next (get_or next from 0) ≡ line
unfolding line_from
line_from-linked zero end next previous from [] linked differs few = refl
line_from-linked zero end next previous from (place ∷ line) linked differs few = absurd (omega (arith, few))
line_from-linked (suc most) end next previous from [] linked differs few =
    cond-true (get_or next from 0 == end) [] (get_or next from 0 ∷ line_from most end next (get_or next (get_or next from 0) 0)) (eq-eqb (get_or next from 0) end linked.0)
line_from-linked (suc most) end next previous from (place ∷ line) linked differs few =
    subst (λ x. cond (x == end) [] (x ∷ line_from most end next (get_or next x 0)) ≡ place ∷ line) (sym linked.0)
    (cond-false (place == end) [] (place ∷ line_from most end next (get_or next place 0)) (differ_turned end place differs.0) ∙ ap (λ rest. place ∷ rest) (line_from-linked most end next previous place line linked.2 differs.1 (omega (arith, few))))
