-- What is true of each step of an explicit route, whatever bytes spell it.
use Rattle.std.proofs.Common.{◌≡◌, ◌∙◌, ℕ, Bool, true, false, List, Some, None, if◌then◌else◌, length, drop, refl, sym, arith}
use Rattle.std.proofs.lemmas.List.{length-append, length-take, length-drop}
use Rattle.std.proofs.lemmas.Bool.{eqb-true}
use Rattle.std.specs.Bool.{Decides}
use Rattle.std.specs.Cmp.{booleans_Decides}
use Rattle.std.specs.Cmp.Lexicographic.{bytes_decides}
use Rattle.std.proofs.lemmas.Bool.Decides.{Decides-and, Decides-like}
use Rattle.rsvp_bodies.specs.PrefixLaws as prefixes
use Rattle.rsvp_bodies.specs.contracts.step.StepPartialEq.TheImpl.{ghosts}
use Rattle.rsvp_bodies.specs.Subobjects.{IsSubobject}
use Rattle.rsvp_bodies.specs.Prefixes.{prefix_at}
use Rattle.rsvp_bodies.specs.Steps.{SpellsStep, step_bytes}
use Rattle.rsvp_bodies.specs.declared.prefix.Prefix.{Prefix}
use Rattle.rsvp_bodies.specs.declared.step.Step.{Step}
use Rattle.rsvp_bodies.specs.declared.step.Step.TheVariants.{Ipv4, Other}

-- what spells a step is a subobject
pub is_subobject_lem : (bytes : List ℕ) (x : Step) → SpellsStep bytes x → IsSubobject bytes
is_subobject_lem bytes x s = s.subobject

-- no bytes spell two steps
pub one_value_lem : (bytes : List ℕ) (x y : Step) → SpellsStep bytes x → SpellsStep bytes y → x ≡ y
one_value_lem bytes x y s t = let e : Some x ≡ Some y = sym s.value ∙ t.value in cc

-- the length of what was chosen from a table like that of `step_of`
length_chosen : (is_ipv4 is_whole : Bool) (bytes : List ℕ) (loose : Bool) (prefix : Prefix) (x : Step) → (is_whole ≡ true → (length prefix.address.octets ≡ 4) × (length bytes ≡ 8)) → (if is_ipv4 then (if is_whole then Some (Ipv4 loose prefix) else None) else Some (Other bytes)) ≡ Some x → length (step_bytes x) ≡ length bytes
length_chosen true true bytes loose prefix x h e =
    let facts : (length prefix.address.octets ≡ 4) × (length bytes ≡ 8) = h refl in
    let same : Ipv4 loose prefix ≡ x = cc in
    rw (← same, length-append) (omega arith)
length_chosen true false bytes loose prefix x h e = absurd cc
length_chosen false is_whole bytes loose prefix x h e =
    let same : Other bytes ≡ x = cc in rw (← same) refl

-- a step is written in as many bytes as it was read from
pub same_length_lem : (bytes : List ℕ) (x : Step) → SpellsStep bytes x → length (step_bytes x) ≡ length bytes
same_length_lem bytes x s =
    length_chosen _ _ bytes _ (prefix_at (drop 2 bytes)) x
    (λ whole.
    let counted : length bytes ≡ 8 = eqb-true _ _ whole in
    (omega (arith, length-take 4 (drop 2 bytes), length-drop 2 bytes), counted))
    s.value

-- two steps compare as equal exactly where they are the same
pub equal_is_same_lem : (a b : Step) → Decides (ghosts.eq a b) (a ≡ b)
equal_is_same_lem (Ipv4 loose prefix) (Ipv4 other_loose other_prefix) =
    Decides-like _ (λ h i. Ipv4 (h.0 i) (h.1 i)) (λ e. (cc, cc))
    (Decides-and _ _ (booleans_Decides loose other_loose) (prefixes.equal_is_same_lem prefix other_prefix))
equal_is_same_lem (Ipv4 loose prefix) (Other bytes) = (λ e. absurd cc, λ e. absurd cc)
equal_is_same_lem (Other bytes) (Ipv4 loose prefix) = (λ e. absurd cc, λ e. absurd cc)
equal_is_same_lem (Other bytes) (Other other_bytes) =
    Decides-like _ (λ e i. Other (e i)) (λ e. cc) (bytes_decides bytes other_bytes)
