-- What is true of each entry of a recorded route, whatever bytes spell it.
use Rattle.std.proofs.Common.{◌≡◌, ◌∙◌, ◌&&◌, ℕ, Bool, true, false, List, Some, None, if◌then◌else◌, length, drop, refl, sym, arith}
use Rattle.std.proofs.lemmas.List.{length-append, length-take, length-drop}
use Rattle.std.proofs.lemmas.Bool.{eqb-true}
use Rattle.std.specs.Bool.{Decides}
use Rattle.std.specs.Cmp.Lexicographic.{bytes_decides}
use Rattle.std.proofs.lemmas.Bool.Decides.{Decides-and, Decides-eqb, Decides-like}
use Rattle.rsvp_bodies.specs.PrefixLaws as prefixes
use Rattle.rsvp_bodies.specs.contracts.trace.TracePartialEq.TheImpl.{ghosts}
use Rattle.rsvp_bodies.specs.Subobjects.{IsSubobject, is_label}
use Rattle.rsvp_bodies.specs.Prefixes.{prefix_at}
use Rattle.rsvp_bodies.specs.Traces.{SpellsTrace, trace_bytes}
use Rattle.rsvp_bodies.specs.declared.prefix.Prefix.{Prefix}
use Rattle.rsvp_bodies.specs.declared.trace.Trace.{Trace}
use Rattle.rsvp_bodies.specs.declared.trace.Trace.TheVariants.{Ipv4, Label, Other}

-- what spells an entry is a subobject
pub is_subobject_lem : (bytes : List ℕ) (x : Trace) → SpellsTrace bytes x → IsSubobject bytes
is_subobject_lem bytes x s = s.subobject

-- no bytes spell two entries
pub one_value_lem : (bytes : List ℕ) (x y : Trace) → SpellsTrace bytes x → SpellsTrace bytes y → x ≡ y
one_value_lem bytes x y s t = let e : Some x ≡ Some y = sym s.value ∙ t.value in cc

-- the length of what was chosen from a table like that of `trace_of`
length_chosen : (is_ipv4 is_whole label : Bool) (bytes : List ℕ) (prefix : Prefix) (flags label_flags number : ℕ) (x : Trace) → (is_whole ≡ true → (length prefix.address.octets ≡ 4) × (length bytes ≡ 8)) → (label ≡ true → length bytes ≡ 8) → (if is_ipv4 then (if is_whole then Some (Ipv4 prefix flags) else None) else (if label then Some (Label label_flags number) else Some (Other bytes))) ≡ Some x → length (trace_bytes x) ≡ length bytes
length_chosen true true label bytes prefix flags label_flags number x h l e =
    let facts : (length prefix.address.octets ≡ 4) × (length bytes ≡ 8) = h refl in
    let same : Ipv4 prefix flags ≡ x = cc in
    rw (← same, length-append) (omega arith)
length_chosen true false label bytes prefix flags label_flags number x h l e = absurd cc
length_chosen false is_whole true bytes prefix flags label_flags number x h l e =
    let counted : length bytes ≡ 8 = l refl in
    let same : Label label_flags number ≡ x = cc in
    rw (← same) (omega arith)
length_chosen false is_whole false bytes prefix flags label_flags number x h l e =
    let same : Other bytes ≡ x = cc in rw (← same) refl

-- where three tests hold, the second does
second_holds : (a b c : Bool) → (a && (b && c)) ≡ true → b ≡ true
second_holds true true c e = refl
second_holds true false c e = absurd cc
second_holds false b c e = absurd cc

-- a label has 8 bytes
length_label : (bytes : List ℕ) → is_label bytes ≡ true → length bytes ≡ 8
length_label bytes e = eqb-true _ _ (second_holds _ _ _ e)

-- an entry is written in as many bytes as it was read from
pub same_length_lem : (bytes : List ℕ) (x : Trace) → SpellsTrace bytes x → length (trace_bytes x) ≡ length bytes
same_length_lem bytes x s =
    length_chosen _ _ (is_label bytes) bytes (prefix_at (drop 2 bytes)) _ _ _ x
    (λ whole.
    let counted : length bytes ≡ 8 = eqb-true _ _ whole in
    (omega (arith, length-take 4 (drop 2 bytes), length-drop 2 bytes), counted))
    (length_label bytes)
    s.value

-- two entries compare as equal exactly where they are the same
pub equal_is_same_lem : (a b : Trace) → Decides (ghosts.eq a b) (a ≡ b)
equal_is_same_lem (Ipv4 prefix flags) (Ipv4 other_prefix other_flags) =
    Decides-like _ (λ h i. Ipv4 (h.0 i) (h.1 i)) (λ e. (cc, cc))
    (Decides-and _ _ (prefixes.equal_is_same_lem prefix other_prefix) (Decides-eqb flags other_flags))
equal_is_same_lem (Ipv4 prefix flags) (Label other_flags label) = (λ e. absurd cc, λ e. absurd cc)
equal_is_same_lem (Ipv4 prefix flags) (Other bytes) = (λ e. absurd cc, λ e. absurd cc)
equal_is_same_lem (Label flags label) (Ipv4 prefix other_flags) = (λ e. absurd cc, λ e. absurd cc)
equal_is_same_lem (Label flags label) (Label other_flags other_label) =
    Decides-like _ (λ h i. Label (h.0 i) (h.1 i)) (λ e. (cc, cc))
    (Decides-and _ _ (Decides-eqb flags other_flags) (Decides-eqb label other_label))
equal_is_same_lem (Label flags label) (Other bytes) = (λ e. absurd cc, λ e. absurd cc)
equal_is_same_lem (Other bytes) (Ipv4 prefix flags) = (λ e. absurd cc, λ e. absurd cc)
equal_is_same_lem (Other bytes) (Label flags label) = (λ e. absurd cc, λ e. absurd cc)
equal_is_same_lem (Other bytes) (Other other_bytes) =
    Decides-like _ (λ e i. Other (e i)) (λ e. cc) (bytes_decides bytes other_bytes)
