-- Which names of keys are known.
use Rattle.std.proofs.Common.{◌≡◌, ℕ, true, false, ◌||◌, List, [], ◌∷◌, ◌++◌, append_assoc, map, Some, None, String, Global, string_bytes, inl, inr, refl, sym, ap, subst, ◌∙◌, ◌⊎◌}
use Rattle.std.proofs.lemmas.Bool.{false≢true}
use Rattle.std.proofs.lemmas.List.{map-append}
use Rattle.std.proofs.lemmas.Slice.Eq.{bytes_eq-Decides}
use Rattle.std.specs.Prelude.{bytes_eq}
use Rattle.std.specs.List.{AllByRecursion, list_any}
use Rattle.std.specs.Map.{keys_of}
use Rattle.std.specs.Map.Iter.{deref}
use Rattle.toml.specs.Data.{Data, string, integer, float, boolean, datetime, array, table, Members, as_table}
use Rattle.toml.specs.View.{members_view}
use Rattle.toml.specs.declared.value.Value.{Value}
use Rattle.sorted_rows.specs.ListLaws.{all-append}
use Rattle.lsr_config.specs.Keys.{key_name}
use Rattle.lsr_config.specs.Rules.{SomeOf, known, Holds, fault_of}
use Rattle.lsr_config.specs.Documents.{names, names_of, known_rules}
use Rattle.lsr_config.specs.Reading.{IsFault}
use Rattle.lsr_config.specs.declared.key.Key.{Key}
use Rattle.lsr_config.specs.declared.fault.ConfigFault.{ConfigFault}
use Rattle.lsr_config.specs.declared.fault.ConfigFault.TheVariants as fault
use Rattle.lsr_config.proofs.Judging.{fault_front, fault_past, fault_memory, broken_alone}
use denote.Ref.{Bor}

-- the test of a name, against the keys that have it
is_one : (name : List ℕ) (keys : List Key) → list_any (λ key. bytes_eq (key_name key) name) keys ≡ true → SomeOf (λ key. key_name key ≡ name) keys
is_one name [] e = absurd (false≢true e)
is_one name (key ∷ keys) e =
    elim (bytes_eq (key_name key) name) as (λ b. bytes_eq (key_name key) name ≡ b → (b || list_any (λ k. bytes_eq (key_name k) name) keys) ≡ true → SomeOf (λ k. key_name k ≡ name) (key ∷ keys)) [
      | true ↦ λ t _. inl ((bytes_eq-Decides (key_name key) name).0 t)
      | false ↦ λ _ more. inr (is_one name keys more)
    ] refl e

is_none : (name : List ℕ) (keys : List Key) → list_any (λ key. bytes_eq (key_name key) name) keys ≡ false → ¬ (SomeOf (λ key. key_name key ≡ name) keys)
is_none name [] e h = absurd h
is_none name (key ∷ keys) e (inl h) = false≢true (sym e ∙ ap (λ b. b || list_any (λ k. bytes_eq (key_name k) name) keys) ((bytes_eq-Decides (key_name key) name).1 h))
is_none name (key ∷ keys) e (inr h) =
    elim (bytes_eq (key_name key) name) as (λ b. (b || list_any (λ k. bytes_eq (key_name k) name) keys) ≡ false → ⊥) [
      | true ↦ λ no. false≢true (sym no)
      | false ↦ λ more. is_none name keys more h
    ] e

pub name_is_known : (name : List ℕ) (keys : List Key) → list_any (λ key. bytes_eq (key_name key) name) keys ≡ true → Holds (known keys name)
unfolding Holds
name_is_known name keys e = is_one name keys e

pub name_is_unknown : (name : List ℕ) (keys : List Key) → list_any (λ key. bytes_eq (key_name key) name) keys ≡ false → ¬ (Holds (known keys name))
unfolding Holds
name_is_unknown name keys e = is_none name keys e

abbrev pub Name : Type 0
Name = String Global

-- the names of a table, as its map keeps them
names-view : (es : List (Name × Value)) → names (members_view es) ≡ map string_bytes (keys_of es)
unfolding names
names-view [] = refl
names-view (e ∷ es) = ap (λ ns. string_bytes e.0 ∷ ns) (names-view es)

-- all names were looked at
pub names_kept : (keys : List Key) (es : List (Name × Value)) (xs : List (Bor Name)) → map deref xs ≡ keys_of es → AllByRecursion Holds (map (known keys) (map string_bytes (map deref xs))) → AllByRecursion Holds (map (known keys) (names (members_view es)))
names_kept keys es xs all kept = subst (λ ns. AllByRecursion Holds (map (known keys) ns)) (ap (map string_bytes) all ∙ sym (names-view es)) kept

-- one name more
pub one_more_name : (keys : List Key) (xs : List (Bor Name)) (x : Bor Name) → AllByRecursion Holds (map (known keys) (map string_bytes (map deref xs))) → list_any (λ key. bytes_eq (key_name key) (string_bytes x.now)) keys ≡ true
    → AllByRecursion Holds (map (known keys) (map string_bytes (map deref (xs ++ x ∷ []))))
one_more_name keys xs x kept e =
    let cut : map (known keys) (map string_bytes (map deref (xs ++ x ∷ []))) ≡ map (known keys) (map string_bytes (map deref xs)) ++ known keys (string_bytes x.now) ∷ [] =
    ap (λ ns. map (known keys) (map string_bytes ns)) (map-append deref xs (x ∷ [])) ∙ ap (map (known keys)) (map-append string_bytes (map deref xs) (deref x ∷ []))
    ∙ map-append (known keys) (map string_bytes (map deref xs)) (string_bytes x.now ∷ []) in
    subst (AllByRecursion Holds) (sym cut) (all-append Holds (map (known keys) (map string_bytes (map deref xs))) (known keys (string_bytes x.now) ∷ []) kept (name_is_known (string_bytes x.now) keys e, tt))

-- the fault of a name that is no key's
pub fault_of_name : (keys : List Key) (es : List (Name × Value)) (xs : List (Bor Name)) (x : Bor Name) (rest : List Name) (f : ConfigFault) → keys_of es ≡ map deref xs ++ deref x ∷ rest
    → AllByRecursion Holds (map (known keys) (map string_bytes (map deref xs))) → list_any (λ key. bytes_eq (key_name key) (string_bytes x.now)) keys ≡ false
    → (f ≡ fault.UnknownKey (string_bytes x.now)) ⊎ (f ≡ fault.Memory) → IsFault (map (known keys) (names (members_view es))) f
unfolding fault_of
fault_of_name keys es xs x rest f all kept e (inr is) = subst (IsFault _) (sym is) (fault_memory _)
fault_of_name keys es xs x rest f all kept e (inl is) =
    let front = map (known keys) (map string_bytes (map deref xs)) in
    let cut : map (known keys) (names (members_view es)) ≡ front ++ (known keys (string_bytes x.now) ∷ []) ++ map (known keys) (map string_bytes rest) =
    ap (map (known keys)) (names-view es ∙ ap (map string_bytes) all ∙ map-append string_bytes (map deref xs) (deref x ∷ rest))
    ∙ map-append (known keys) (map string_bytes (map deref xs)) (map string_bytes (deref x ∷ rest))
    ∙ sym (append_assoc front (known keys (string_bytes x.now) ∷ []) (map (known keys) (map string_bytes rest))) in
    subst (λ rules. IsFault rules f) (sym cut)
    (fault_front _ (map (known keys) (map string_bytes rest)) f
    (fault_past front _ f kept (broken_alone (known keys (string_bytes x.now)) f (name_is_unknown (string_bytes x.now) keys e) is)))

-- ---- the rules of a table's names

pub known_rules-table : (keys : List Key) (d : Data) (ms : Members) → Some ms ≡ as_table d → known_rules keys d ≡ map (known keys) (names ms)
unfolding known_rules names_of
known_rules-table keys (string s) ms e = cc
known_rules-table keys (integer z) ms e = cc
known_rules-table keys (float x) ms e = cc
known_rules-table keys (boolean b) ms e = cc
known_rules-table keys (datetime dt) ms e = cc
known_rules-table keys (array ds) ms e = cc
known_rules-table keys (table ns) ms e = let same : ms ≡ ns = cc in ap (λ x. map (known keys) (names x)) (sym same)

pub known_rules-other : (keys : List Key) (d : Data) → None ≡ as_table d → AllByRecursion Holds (known_rules keys d)
unfolding known_rules names_of
known_rules-other keys (string s) e = tt
known_rules-other keys (integer z) e = tt
known_rules-other keys (float x) e = tt
known_rules-other keys (boolean b) e = tt
known_rules-other keys (datetime dt) e = tt
known_rules-other keys (array ds) e = tt
known_rules-other keys (table ns) e = cc
