-- Entries that lead from one state to another: the first of them, and those that are left.
use Rattle.std.proofs.Common.{◌≡◌, ℕ, ◌+◌, ◌<◌, ◌≤◌, List, [], ◌∷◌, ◌++◌, length, take, drop, get_or, refl, sym, ap, subst, ◌∙◌, arith}
use Rattle.std.proofs.lemmas.List.{drop_all, drop_more, length-take-le, take-append-drop, take_all, take_more}
use Rattle.run_checker.specs.Faulty.{IsFirstWrong}
use Rattle.run_checker.specs.Recorded.{IsLed}

-- The first so many entries lead to a state which keeps what is asked, and wherever all of them lead, those that are left lead from there.
pub record IsSoFar {E S : Type 0} (Leads : S → E → S → Type 0) (Keeps : S → Type 0) (base : S) (entries : List E) (place : ℕ) (s : S) : Type 0 where
  pub kept : Keeps s
  pub led : IsLed Leads base (take place entries) s
  pub left : (end : S) → IsLed Leads base entries end → IsLed Leads s (drop place entries) end

module _ {E S : Type 0} (Leads : S → E → S → Type 0) where
  -- one entry more
  led_more : (base : S) (entries : List E) (s : S) (entry : E) (after : S) → IsLed Leads base entries s → Leads s entry after → IsLed Leads base (entries ++ entry ∷ []) after
  led_more base [] s entry after led leads = (after, subst (λ (x : S). Leads x entry after) led leads, refl)
  led_more base (first ∷ entries) s entry after led leads = (led.0, led.1, led_more led.0 entries s entry after led.2 leads)

  -- the entries before a place, the one there, and those after it
  parts_at : (entries : List E) (place : ℕ) (entry : E) → place < length entries → entry ≡ get_or entries place entry → drop place entries ≡ entry ∷ drop (place + 1) entries
  parts_at entries place entry within is = drop_more entries place entry within ∙ ap (λ (x : E). x ∷ drop (place + 1) entries) (sym is)

  taken_at : (entries : List E) (place : ℕ) (entry : E) → place < length entries → entry ≡ get_or entries place entry → take (place + 1) entries ≡ take place entries ++ entry ∷ []
  taken_at entries place entry within is = take_more entries place entry within ∙ ap (λ (x : E). take place entries ++ x ∷ []) (sym is)

  module _ (one : (s : S) (entry : E) (a b : S) → Leads s entry a → Leads s entry b → a ≡ b) where
    -- entries lead to one state alone, where each does
    led_one : (base : S) (entries : List E) (a b : S) → IsLed Leads base entries a → IsLed Leads base entries b → a ≡ b
    led_one base [] a b x y = x ∙ sym y
    led_one base (entry ∷ entries) a b x y = led_one y.0 entries a b (subst (λ (s : S). IsLed Leads s entries a) (one base entry x.0 y.0 x.1 y.1) x.2) y.2

    -- the first of them lead somewhere, and the others on from there
    led_parts : (base : S) (earlier later : List E) (end : S) → IsLed Leads base (earlier ++ later) end → (between : S) × IsLed Leads base earlier between × IsLed Leads between later end
    led_parts base [] later end led = (base, refl, led)
    led_parts base (entry ∷ earlier) later end led = let rest = led_parts led.0 earlier later end led.2 in (rest.0, (led.0, led.1, rest.1), rest.2)

    -- With none of them anything is wrong, where what is wrong leads nowhere.
    pub none_wrong : (Wrong : S → E → Type 0) → ((s : S) (entry : E) (after : S) → Wrong s entry → Leads s entry after → ⊥) → (base end : S) (entries : List E) (number : ℕ)
        → IsLed Leads base entries end → IsFirstWrong Leads Wrong base entries number → ⊥
    none_wrong Wrong nowhere base end entries number led first =
        let parts = led_parts base first.earlier (first.entry ∷ first.later) end (subst (λ (es : List E). IsLed Leads base es end) first.parts led) in
        let same : parts.0 ≡ first.between = led_one base first.earlier parts.0 first.between parts.1 first.led in
        let rest = subst (λ (s : S). IsLed Leads s (first.entry ∷ first.later) end) same parts.2 in
        nowhere first.between first.entry rest.0 first.wrong rest.1

  module _ (Keeps : S → Type 0) (base : S) (entries : List E) where
    -- before the first entry
    pub none_yet : Keeps base → IsSoFar Leads Keeps base entries 0 base
    none_yet kept = record { kept = kept; led = refl; left = λ end led. led }

    -- and after one more, where that leads to one state alone
    pub one_more : (place : ℕ) (s : S) (entry : E) (after : S) → place < length entries → entry ≡ get_or entries place entry → Leads s entry after → Keeps after
        → ((other : S) → Leads s entry other → other ≡ after) → IsSoFar Leads Keeps base entries place s → IsSoFar Leads Keeps base entries (place + 1) after
    one_more place s entry after within is leads kept one far = record {
      kept = kept;
      led = subst (λ (xs : List E). IsLed Leads base xs after) (sym (taken_at entries place entry within is)) (led_more base (take place entries) s entry after far.led leads);
      left = λ end led.
          let rest = subst (λ (xs : List E). IsLed Leads s xs end) (parts_at entries place entry within is) (far.left end led) in
          subst (λ (x : S). IsLed Leads x (drop (place + 1) entries) end) (one rest.0 rest.1) rest.2;
    }

    -- At the end all entries lead there,
    pub led_all : (place : ℕ) (s : S) → length entries ≤ place → IsSoFar Leads Keeps base entries place s → IsLed Leads base entries s
    led_all place s past far = subst (λ (xs : List E). IsLed Leads base xs s) (take_all place entries past) far.led

    -- and nowhere else.
    pub led_only : (place : ℕ) (s : S) → length entries ≤ place → IsSoFar Leads Keeps base entries place s → (end : S) → IsLed Leads base entries end → end ≡ s
    led_only place s past far end led = subst (λ (xs : List E). IsLed Leads s xs end) (drop_all place entries past) (far.left end led)

    -- Something is wrong with the next entry,
    pub wrong_next : (Wrong : S → E → Type 0) (place : ℕ) (s : S) (entry : E) → place < length entries → entry ≡ get_or entries place entry → Wrong s entry
        → IsSoFar Leads Keeps base entries place s → IsFirstWrong Leads Wrong base entries (place + 1)
    wrong_next Wrong place s entry within is wrong far =
        let few : place ≤ length entries = omega arith in
        record {
          earlier = take place entries;
          entry = entry;
          later = drop (place + 1) entries;
          parts = sym (take-append-drop place entries) ∙ ap (λ (xs : List E). take place entries ++ xs) (parts_at entries place entry within is);
          place = ap (λ n. n + 1) (sym (length-take-le place entries few));
          between = s;
          led = far.led;
          wrong = wrong;
        }

    -- and where it leads nowhere, neither do all.
    pub led_nowhere : (place : ℕ) (s : S) (entry : E) → place < length entries → entry ≡ get_or entries place entry → ((other : S) → Leads s entry other → ⊥)
        → IsSoFar Leads Keeps base entries place s → (end : S) → IsLed Leads base entries end → ⊥
    led_nowhere place s entry within is nowhere far end led =
        let rest = subst (λ (xs : List E). IsLed Leads s xs end) (parts_at entries place entry within is) (far.left end led) in
        nowhere rest.0 rest.1
