-- What becomes of a ring where nodes lead elsewhere.
use Rattle.std.proofs.Common.{◌≡◌, ℕ, ◌≤◌, ◌<◌, ◌≢◌, List, [], ◌∷◌, Bool, true, false, cond, not, length, nat_eq, get_or, set, refl, ap, sym, ◌∙◌, subst, get_or-set_same, get_or-set_other, length-set, arith}
use Rattle.std.proofs.lemmas.Bool.Decides.{nat_tests}
use Rattle.std.proofs.lemmas.Bool.{false≢true}
use Rattle.timer_wheel.specs.Rings.{AreRings, Leads, IsRing}
use Rattle.timer_wheel.proofs.Slots.{without, has, has_tail, has_head, without_fewer, distinct_filter, distinct_more, has_cases}

-- what comes after a node where one node is passed over
abbrev pub passing : List ℕ → ℕ → ℕ → ℕ
passing after node at = cond (nat_eq node at) (get_or after node 0) at

cond_same : {X : Type 0} (b : Bool) (x : X) → cond b x x ≡ x
cond_same true x = refl
cond_same false x = refl

pub leads_without : (after now : List ℕ) (node head : ℕ) → head ≢ node → (slots : List ℕ) → ((x : ℕ) → has x slots ≡ true → x ≢ node → get_or now x 0 ≡ passing after node (get_or after x 0)) → (at : ℕ) → Leads after head slots at → Leads now head (without node slots) (passing after node at)
leads_without after now node head ne [] passes at leads = grind (arith, nat_tests)
leads_without after now node head ne (slot ∷ slots) passes at leads =
    let rest = leads_without after now node head ne slots (λ x h. passes x (has_tail x slot slots h)) (get_or after slot 0) leads.2 in
    let step : (b : Bool) → nat_eq node slot ≡ b → Leads now head (cond (not b) (slot ∷ without node slots) (without node slots)) (cond b (get_or after node 0) slot) =
    λ b. elim b as (λ (b : Bool). nat_eq node slot ≡ b → Leads now head (cond (not b) (slot ∷ without node slots) (without node slots)) (cond b (get_or after node 0) slot)) [
      | true ↦ λ e.
          let same : slot ≡ node = grind (arith, nat_tests) in
          subst (Leads now head (without node slots)) (cond_same (nat_eq node (get_or after node 0)) (get_or after node 0)) (subst (λ x. Leads now head (without node slots) (passing after node (get_or after x 0))) same rest)
      | false ↦ λ e.
          let apart : slot ≢ node = grind (arith, nat_tests) in
          (refl, leads.1, subst (Leads now head (without node slots)) (sym (passes slot (has_head slot slots) apart)) rest)
    ] in
    subst (λ x. Leads now head (without node (slot ∷ slots)) (passing after node x)) (sym leads.0) (step (nat_eq node slot) refl)

-- nodes that lead where they led before
pub leads_kept : (after now : List ℕ) (head : ℕ) (slots : List ℕ) → ((x : ℕ) → has x slots ≡ true → get_or now x 0 ≡ get_or after x 0) → (at : ℕ) → Leads after head slots at → Leads now head slots at
leads_kept after now head [] same at leads = leads
leads_kept after now head (slot ∷ slots) same at leads =
    (leads.0, leads.1, subst (Leads now head slots) (sym (same slot (has_head slot slots))) (leads_kept after now head slots (λ x h. same x (has_tail x slot slots h)) (get_or after slot 0) leads.2))

skips : (after before : List ℕ) (node : ℕ) → AreRings after before → node < length after → (x : ℕ) → x < length after → x ≢ node → get_or (set (set after (get_or before node 0) (get_or after node 0)) node node) x 0 ≡ passing after node (get_or after x 0)
skips after before node rings in' x x_in ne =
    let earlier_in = rings.before_in node in' in
    let led = rings.forth node in' in
    let back = rings.back x x_in in
    grind (arith, nat_tests, get_or-set_same, get_or-set_other, length-set)

-- a ring without a node that was taken out
pub ring_without : (after before : List ℕ) (node bound head : ℕ) (slots : List ℕ) → AreRings after before → node < length after → bound ≤ length after → head < length after → head ≢ node → IsRing after bound head slots → IsRing (set (set after (get_or before node 0) (get_or after node 0)) node node) bound head (without node slots)
ring_without after before node bound head slots rings in' few head_in ne ring =
    let now = set (set after (get_or before node 0) (get_or after node 0)) node node in
    record {
      leads = subst (Leads now head (without node slots)) (sym (skips after before node rings in' head head_in ne)) (leads_without after now node head ne slots (λ x h. skips after before node rings in' x (let below = ring.below x h in omega arith)) (get_or after head 0) ring.leads);
      below = λ slot h. ring.below slot (without_fewer node slot slots h);
      once = distinct_filter (λ slot. not (nat_eq node slot)) slots ring.once;
    }

-- the slots of a ring lead where they led before, where one slot that is not among them and a head lead elsewhere
leads_beside : (after : List ℕ) (slot bound head other n : ℕ) (slots : List ℕ) → bound ≤ head → has slot slots ≡ false → IsRing after bound other slots → (x : ℕ) → has x slots ≡ true → get_or (set (set after head slot) slot n) x 0 ≡ get_or after x 0
leads_beside after slot bound head other n slots high new ring x h =
    let low = ring.below x h in
    let apart : x ≢ slot = λ e. false≢true (sym new ∙ ap (λ y. has y slots) (sym e) ∙ h) in
    let aside : x ≢ head = omega arith in
    grind (arith, get_or-set_other)

-- a ring with a slot put right after its head
pub ring_with : (after : List ℕ) (slot bound head : ℕ) (slots : List ℕ) → slot < length after → head < length after → slot < bound → bound ≤ head → has slot slots ≡ false → IsRing after bound head slots → IsRing (set (set after head slot) slot (get_or after head 0)) bound head (slot ∷ slots)
ring_with after slot bound head slots in' head_in low high new ring =
    let now = set (set after head slot) slot (get_or after head 0) in
    let apart : slot ≢ head = omega arith in
    let first : get_or now head 0 ≡ slot = grind (arith, get_or-set_same, get_or-set_other, length-set) in
    let next : get_or now slot 0 ≡ get_or after head 0 = grind (arith, get_or-set_same, length-set) in
    let same = leads_beside after slot bound head head (get_or after head 0) slots high new ring in
    record {
      leads = (first, apart, subst (Leads now head slots) (sym next) (leads_kept after now head slots same (get_or after head 0) ring.leads));
      below = λ x h. has_cases x slot slots bound low (ring.below x) h;
      once = distinct_more slot slots new ring.once;
    }

-- a ring beside those, as before
pub ring_beside : (after : List ℕ) (slot bound head other : ℕ) (slots : List ℕ) (n : ℕ) → bound ≤ head → other ≢ head → other ≢ slot → has slot slots ≡ false → IsRing after bound other slots → IsRing (set (set after head slot) slot n) bound other slots
ring_beside after slot bound head other slots n high apart beside new ring =
    let now = set (set after head slot) slot n in
    let first : get_or now other 0 ≡ get_or after other 0 = grind (arith, get_or-set_other) in
    let same = leads_beside after slot bound head other n slots high new ring in
    record {
      leads = subst (Leads now other slots) (sym first) (leads_kept after now other slots same (get_or after other 0) ring.leads);
      below = ring.below;
      once = ring.once;
    }
