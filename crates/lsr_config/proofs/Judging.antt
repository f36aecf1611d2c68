-- Which rules are kept and broken where a table has a key or none, and a value of its kind or another.
use Rattle.std.proofs.Common.{◌≡◌, ℕ, zero, suc, arith, ◌+◌, ◌<◌, ◌≤◌, length, get_or, take, drop, map, append_assoc, List, [], ◌∷◌, ◌++◌, Option, Some, None, IsSome, Result, Ok, Err, MatchResult, inl, inr, refl, sym, ap, subst, ◌∙◌}
use Rattle.std.specs.Prelude.{IfSome, IsSomeAnd, MatchOption}
use Rattle.std.proofs.lemmas.Bool.{false≢true}
use Rattle.std.specs.List.{AllByRecursion}
use Rattle.toml.specs.Data.{Data, get}
use Rattle.toml.specs.View.{view}
use Rattle.toml.specs.declared.value.Value.{Value}
use denote.Ref.{Bor}
use Rattle.std.proofs.lemmas.List.{append-nil, map-append, take_all, take-append-drop, take_more}
use Rattle.sorted_rows.specs.ListLaws.{all-append}
use Rattle.lsr_config.specs.Keys.{key_name}
use Rattle.rsvp_bodies.specs.Finding.{Finds}
use Rattle.lsr_config.specs.Values.{SaysEach, SaysTables}
use Rattle.lsr_config.specs.Rules.{Kind, some_tables, IsOfKind, Has, Rule, given, fitting, new_number, new_address, new_prefix, elsewhere, known_number, carried, few, known, HasOr, Holds, fault_of, FirstBroken}
use Rattle.lsr_config.specs.Documents.{needed, optional, in_turn, each_record, table_rules, array_elements, records}
use Rattle.lsr_config.specs.Reading.{IsFault, Judges}
use Rattle.lsr_config.specs.declared.key.Key.{Key}
use Rattle.lsr_config.specs.declared.fault.ConfigFault.{ConfigFault}
use Rattle.lsr_config.specs.declared.fault.ConfigFault.TheVariants as fault

-- ---- rules in turn

broken_front : (rules more : List Rule) (f : ConfigFault) → FirstBroken rules f → FirstBroken (rules ++ more) f
unfolding FirstBroken
broken_front [] more f h = absurd h
broken_front (rule ∷ rules) more f (inl h) = inl h
broken_front (rule ∷ rules) more f (inr h) = inr (h.0, broken_front rules more f h.1)

broken_past : (rules more : List Rule) (f : ConfigFault) → AllByRecursion Holds rules → FirstBroken more f → FirstBroken (rules ++ more) f
unfolding FirstBroken
broken_past [] more f kept h = h
broken_past (rule ∷ rules) more f kept h = inr (kept.0, broken_past rules more f kept.1 h)

-- a fault stays the first where more rules follow
pub fault_front : (rules more : List Rule) (f : ConfigFault) → IsFault rules f → IsFault (rules ++ more) f
unfolding IsFault
fault_front rules more fault.Text h = broken_front rules more fault.Text h
fault_front rules more (fault.Missing key) h = broken_front rules more (fault.Missing key) h
fault_front rules more (fault.BadValue key) h = broken_front rules more (fault.BadValue key) h
fault_front rules more (fault.Repeated key) h = broken_front rules more (fault.Repeated key) h
fault_front rules more (fault.UnknownName key) h = broken_front rules more (fault.UnknownName key) h
fault_front rules more (fault.TooMany key) h = broken_front rules more (fault.TooMany key) h
fault_front rules more (fault.UnknownKey name) h = broken_front rules more (fault.UnknownKey name) h
fault_front rules more fault.Memory h = tt

-- and where those before it are kept
pub fault_past : (rules more : List Rule) (f : ConfigFault) → AllByRecursion Holds rules → IsFault more f → IsFault (rules ++ more) f
unfolding IsFault
fault_past rules more fault.Text kept h = broken_past rules more fault.Text kept h
fault_past rules more (fault.Missing key) kept h = broken_past rules more (fault.Missing key) kept h
fault_past rules more (fault.BadValue key) kept h = broken_past rules more (fault.BadValue key) kept h
fault_past rules more (fault.Repeated key) kept h = broken_past rules more (fault.Repeated key) kept h
fault_past rules more (fault.UnknownName key) kept h = broken_past rules more (fault.UnknownName key) kept h
fault_past rules more (fault.TooMany key) kept h = broken_past rules more (fault.TooMany key) kept h
fault_past rules more (fault.UnknownKey name) kept h = broken_past rules more (fault.UnknownKey name) kept h
fault_past rules more fault.Memory kept h = tt

-- ---- a key of a table

-- a table that lacks the key
pub missing : (kind : Kind) (key : Key) (d : Data) (f : ConfigFault) → get (key_name key) d ≡ None → f ≡ fault.Missing key → IsFault (needed kind key d) f
unfolding IsFault FirstBroken Holds fault_of
missing kind key d f none is = rw is (inl ((λ some. false≢true (subst IsSome none some)), refl))

module _ {A : Type 0} (kind : Kind) (key : Key) (d : Data) (P : Data → A → Type 0) (same : (v : Data) → IsOfKind kind v ≡ ((a : A) × P v a)) where
  -- a value that is given is judged by its kind
  pub needed_judged : (v : Data) (o : Option A) (r : Result A ConfigFault) → get (key_name key) d ≡ Some v → Finds (P v) o
      → MatchResult r (λ a. o ≡ Some a) (λ f. (o ≡ None) × (f ≡ fault.BadValue key)) → Judges (needed kind key d) (λ a. Has key d (λ w. P w a)) r
  unfolding IsFault FirstBroken Holds fault_of
  needed_judged v o (Ok a) some found is =
      let says : P v a = subst (Finds (P v)) is found in
      let fits : IsOfKind kind v = subst (λ T. T) (sym (same v)) (a, says) in
      ((subst IsSome (sym some) refl, (subst (λ x. IfSome x (IsOfKind kind)) (sym some) fits, tt)), subst (λ x. IsSomeAnd x (λ w. P w a)) (sym some) says)
  needed_judged v o (Err f) some found is =
      let none : (a : A) → ¬ (P v a) = subst (Finds (P v)) is.0 found in
      rw is.1 (inr (
        subst IsSome (sym some) refl,
        inl (
          (λ fits.
              let here : IsOfKind kind v = subst (λ x. IfSome x (IsOfKind kind)) some fits in
              let says : (a : A) × P v a = subst (λ T. T) (same v) here in
              none says.0 says.1),
          refl,
        ),
      ))

  -- and so is a value that may be given
  pub optional_judged : (default : A → Type 0) (v : Data) (o : Option A) (r : Result A ConfigFault) → get (key_name key) d ≡ Some v → Finds (P v) o
      → MatchResult r (λ a. o ≡ Some a) (λ f. (o ≡ None) × (f ≡ fault.BadValue key)) → Judges (optional kind key d) (λ a. HasOr key d (default a) (λ w. P w a)) r
  unfolding IsFault FirstBroken Holds fault_of
  optional_judged default v o (Ok a) some found is =
      let says : P v a = subst (Finds (P v)) is found in
      let fits : IsOfKind kind v = subst (λ T. T) (sym (same v)) (a, says) in
      ((subst (λ x. IfSome x (IsOfKind kind)) (sym some) fits, tt), subst (λ x. MatchOption x (default a) (λ w. P w a)) (sym some) says)
  optional_judged default v o (Err f) some found is =
      let none : (a : A) → ¬ (P v a) = subst (Finds (P v)) is.0 found in
      rw is.1 (inl (
        (λ fits.
            let here : IsOfKind kind v = subst (λ x. IfSome x (IsOfKind kind)) some fits in
            let says : (a : A) × P v a = subst (λ T. T) (same v) here in
            none says.0 says.1),
        refl,
      ))

-- a table that lacks a key that it need not have
pub optional_absent : (kind : Kind) (key : Key) (d : Data) → get (key_name key) d ≡ None → AllByRecursion Holds (optional kind key d)
unfolding Holds
optional_absent kind key d none = (subst (λ x. IfSome x (IsOfKind kind)) (sym none) tt, tt)

-- and then the default is said
pub default_judged : (kind : Kind) (key : Key) (d : Data) (D : Type 0) (Q : Data → Type 0) → get (key_name key) d ≡ None → D → AllByRecursion Holds (optional kind key d) × HasOr key d D Q
default_judged kind key d D Q none h = (optional_absent kind key d none, subst (λ x. MatchOption x D Q) (sym none) h)

-- ---- the records of a table

pub records_absent : (key : Key) (d : Data) → get (key_name key) d ≡ None → AllByRecursion Holds (optional some_tables key d) × ([] ≡ records key d)
unfolding records
records_absent key d none = (optional_absent some_tables key d none, ap array_elements (sym none))

pub records_judged : (key : Key) (d v : Data) (o : Option (Bor (List Value))) (r : Result (Bor (List Value)) ConfigFault) → get (key_name key) d ≡ Some v
    → MatchOption o ((tables : List Data) → ¬ (SaysTables v tables)) (λ found. SaysTables v (map view found.now))
    → MatchResult r (λ found. o ≡ Some found) (λ f. (o ≡ None) × (f ≡ fault.BadValue key))
    → Judges (optional some_tables key d) (λ found. map view found.now ≡ records key d) r
unfolding IsFault FirstBroken Holds fault_of IsOfKind records SaysTables
records_judged key d v o (Ok t) some found is =
    let says : SaysTables v (map view t.now) = subst (λ x. MatchOption x ((tables : List Data) → ¬ (SaysTables v tables)) (λ y. SaysTables v (map view y.now))) is found in
    let fits : IsOfKind some_tables v = (map view t.now, says) in
    ((subst (λ x. IfSome x (IsOfKind some_tables)) (sym some) fits, tt), sym says.2 ∙ ap (λ x. array_elements (Some x)) (sym says.1) ∙ ap array_elements (sym some))
records_judged key d v o (Err f) some found is =
    let none : (tables : List Data) → ¬ (SaysTables v tables) = subst (λ x. MatchOption x ((tables : List Data) → ¬ (SaysTables v tables)) (λ y. SaysTables v (map view y.now))) is.0 found in
    rw is.1 (inl (
      (λ fits.
          let here : IsOfKind some_tables v = subst (λ x. IfSome x (IsOfKind some_tables)) some fits in
          none here.0 here.1),
      refl,
    ))

-- ---- groups of rules

pub turn_front : (rules : List Rule) (more : List (List Rule)) (f : ConfigFault) → IsFault rules f → IsFault (in_turn (rules ∷ more)) f
unfolding in_turn
turn_front rules more f h = fault_front rules (in_turn more) f h

pub turn_past : (rules : List Rule) (more : List (List Rule)) (f : ConfigFault) → AllByRecursion Holds rules → IsFault (in_turn more) f → IsFault (in_turn (rules ∷ more)) f
unfolding in_turn
turn_past rules more f kept h = fault_past rules (in_turn more) f kept h

pub turn_kept : (rules : List Rule) (more : List (List Rule)) → AllByRecursion Holds rules → AllByRecursion Holds (in_turn more) → AllByRecursion Holds (in_turn (rules ∷ more))
unfolding in_turn
turn_kept rules more kept h = all-append Holds rules (in_turn more) kept h

pub turn_end : AllByRecursion Holds (in_turn [])
unfolding in_turn
turn_end = tt

-- out of memory may come anywhere
pub fault_memory : (rules : List Rule) → IsFault rules fault.Memory
unfolding IsFault
fault_memory rules = tt

fault_alone : (rule : Rule) → ¬ (Holds rule) → IsFault (rule ∷ []) (fault_of rule)
unfolding IsFault FirstBroken fault_of
fault_alone (given key d) h = inl (h, refl)
fault_alone (fitting kind key d) h = inl (h, refl)
fault_alone (new_number first before d) h = inl (h, refl)
fault_alone (new_address document before link) h = inl (h, refl)
fault_alone (new_prefix before route) h = inl (h, refl)
fault_alone (elsewhere document links tunnel) h = inl (h, refl)
fault_alone (known_number first under others d) h = inl (h, refl)
fault_alone (carried tunnels bypass) h = inl (h, refl)
fault_alone (few key most before) h = inl (h, refl)
fault_alone (known keys name) h = inl (h, refl)

-- ---- rules that are kept, taken apart

pub all_front : {A : Type 0} (P : A → Type 0) (xs ys : List A) → AllByRecursion P (xs ++ ys) → AllByRecursion P xs
all_front P [] ys h = tt
all_front P (x ∷ xs) ys h = (h.0, all_front P xs ys h.1)

pub all_back : {A : Type 0} (P : A → Type 0) (xs ys : List A) → AllByRecursion P (xs ++ ys) → AllByRecursion P ys
all_back P [] ys h = h
all_back P (x ∷ xs) ys h = all_back P xs ys h.1

pub turn_first : (rules : List Rule) (more : List (List Rule)) → AllByRecursion Holds (in_turn (rules ∷ more)) → AllByRecursion Holds rules
unfolding in_turn
turn_first rules more h = all_front Holds rules (in_turn more) h

pub turn_rest : (rules : List Rule) (more : List (List Rule)) → AllByRecursion Holds (in_turn (rules ∷ more)) → AllByRecursion Holds (in_turn more)
unfolding in_turn
turn_rest rules more h = all_back Holds rules (in_turn more) h

-- ---- records one after the other

each_record-append : (rules : List Data → Data → List Rule) (before xs ys : List Data) → each_record rules before (xs ++ ys) ≡ each_record rules before xs ++ each_record rules (before ++ xs) ys
unfolding each_record
each_record-append rules before [] ys = ap (λ b. each_record rules b ys) (sym (append-nil before))
each_record-append rules before (x ∷ xs) ys =
    ap (λ more. rules before x ++ more) (each_record-append rules (before ++ x ∷ []) xs ys)
    ∙ sym (append_assoc (rules before x) (each_record rules (before ++ x ∷ []) xs) (each_record rules ((before ++ x ∷ []) ++ xs) ys))
    ∙ ap (λ b. (rules before x ++ each_record rules (before ++ x ∷ []) xs) ++ each_record rules b ys) (append_assoc before (x ∷ []) xs)

-- ---- records that are read one after the other

pub says_more : {A : Type 0} (Reads : Data → A → Type 0) (ds : List Data) (rows : List A) (d : Data) (row : A) → SaysEach Reads ds rows → Reads d row → SaysEach Reads (ds ++ d ∷ []) (rows ++ row ∷ [])
says_more Reads [] [] d row h this = (this, tt)
says_more Reads [] (r ∷ rows) d row h this = absurd h
says_more Reads (e ∷ ds) [] d row h this = absurd h
says_more Reads (e ∷ ds) (r ∷ rows) d row h this = (h.0, says_more Reads ds rows d row h.1 this)

pub says_length : {A : Type 0} (Reads : Data → A → Type 0) (ds : List Data) (rows : List A) → SaysEach Reads ds rows → length ds ≡ length rows
says_length Reads [] [] h = refl
says_length Reads [] (r ∷ rows) h = absurd h
says_length Reads (d ∷ ds) [] h = absurd h
says_length Reads (d ∷ ds) (r ∷ rows) h = ap suc (says_length Reads ds rows h.1)

pub says_weaker : {A : Type 0} (P Q : Data → A → Type 0) → ((d : Data) (row : A) → P d row → Q d row) → (ds : List Data) (rows : List A) → SaysEach P ds rows → SaysEach Q ds rows
says_weaker P Q from [] [] h = tt
says_weaker P Q from [] (r ∷ rows) h = absurd h
says_weaker P Q from (d ∷ ds) [] h = absurd h
says_weaker P Q from (d ∷ ds) (r ∷ rows) h = (from d r h.0, says_weaker P Q from ds rows h.1)

-- the rules of these records are kept
abbrev pub AreKept : (List Data → Data → List Rule) → List Data → Type 0
AreKept rules ds = AllByRecursion Holds (each_record rules [] ds)

pub none_kept : (rules : List Data → Data → List Rule) → AreKept rules []
unfolding each_record
none_kept rules = tt

-- the first records, with one more
taken : (vs : List Value) (i : ℕ) (v : Value) → i < length vs → v ≡ get_or vs i v → map view (take (i + 1) vs) ≡ map view (take i vs) ++ view v ∷ []
taken vs i v within is = ap (map view) (take_more vs i v within) ∙ map-append view (take i vs) (get_or vs i v ∷ []) ∙ ap (λ x. map view (take i vs) ++ view x ∷ []) (sym is)

pub one_more_kept : (rules : List Data → Data → List Rule) (vs : List Value) (i : ℕ) (v : Value) → i < length vs → v ≡ get_or vs i v → AreKept rules (map view (take i vs))
    → AllByRecursion Holds (rules (map view (take i vs)) (view v)) → AreKept rules (map view (take (i + 1) vs))
unfolding each_record
one_more_kept rules vs i v within is so_far kept =
    let front = map view (take i vs) in
    subst (AreKept rules) (sym (taken vs i v within is))
    (rw (each_record-append rules [] front (view v ∷ [])) (all-append Holds (each_record rules [] front) (rules front (view v) ++ []) so_far (all-append Holds (rules front (view v)) [] kept tt)))

pub one_more_says : {A : Type 0} (Reads : Data → A → Type 0) (vs : List Value) (i : ℕ) (v : Value) (rows : List A) (row : A) → i < length vs → v ≡ get_or vs i v → SaysEach Reads (map view (take i vs)) rows
    → Reads (view v) row → SaysEach Reads (map view (take (i + 1) vs)) (rows ++ row ∷ [])
one_more_says Reads vs i v rows row within is so_far says =
    subst (λ ds. SaysEach Reads ds (rows ++ row ∷ [])) (sym (taken vs i v within is)) (says_more Reads (map view (take i vs)) rows (view v) row so_far says)

-- all of the records
pub all_taken : (vs : List Value) (i : ℕ) → length vs ≤ i → map view (take i vs) ≡ map view vs
all_taken vs i whole = ap (map view) (take_all i vs whole)

-- what each of the records says one does
pub says_at : {A : Type 0} (Reads : Data → A → Type 0) (vs : List Value) (i : ℕ) (v : Value) (rows : List A) → i < length vs → v ≡ get_or vs i v → SaysEach Reads (map view vs) rows → (row : A) × Reads (view v) row
says_at Reads [] i v rows within is h = absurd (omega (arith, within))
says_at Reads (w ∷ vs) i v [] within is h = absurd h
says_at Reads (w ∷ vs) zero v (row ∷ rows) within is h = (row, subst (λ x. Reads (view x) row) (sym is) h.0)
says_at Reads (w ∷ vs) (suc i) v (row ∷ rows) within is h = says_at Reads vs i v rows (omega (arith, within)) is h.1

-- the record at which the rules break
pub fault_there : (rules : List Data → Data → List Rule) (vs : List Value) (i : ℕ) (v : Value) (f : ConfigFault) → i < length vs → v ≡ get_or vs i v → AreKept rules (map view (take i vs))
    → IsFault (rules (map view (take i vs)) (view v)) f → IsFault (each_record rules [] (map view vs)) f
unfolding each_record
fault_there rules vs i v f within is so_far h =
    let front = map view (take i vs) in
    let more = map view (drop (i + 1) vs) in
    let whole : map view vs ≡ (front ++ view v ∷ []) ++ more =
    ap (map view) (sym (take-append-drop (i + 1) vs)) ∙ map-append view (take (i + 1) vs) (drop (i + 1) vs) ∙ ap (λ x. x ++ more) (taken vs i v within is) in
    let cut : each_record rules [] (map view vs) ≡ (each_record rules [] front ++ (rules front (view v) ++ [])) ++ each_record rules (front ++ view v ∷ []) more =
    ap (each_record rules []) whole ∙ each_record-append rules [] (front ++ view v ∷ []) more ∙ ap (λ x. x ++ each_record rules (front ++ view v ∷ []) more) (each_record-append rules [] front (view v ∷ [])) in
    subst (λ x. IsFault x f) (sym cut) (fault_front _ _ f (fault_past _ _ f so_far (fault_front _ [] f h)))

-- ---- tables of records

pub table_front : (key : Key) (rules : List Data → Data → List Rule) (d : Data) (f : ConfigFault) → IsFault (optional some_tables key d) f → IsFault (table_rules key rules d) f
unfolding table_rules
table_front key rules d f h = fault_front _ _ f h

-- the record at which the rules break, of those that stand in the table
pub table_there : (key : Key) (rules : List Data → Data → List Rule) (d : Data) (vs : List Value) (i : ℕ) (v : Value) (f : ConfigFault) → AllByRecursion Holds (optional some_tables key d) × (map view vs ≡ records key d)
    → i < length vs → v ≡ get_or vs i v → AreKept rules (map view (take i vs)) → IsFault (rules (map view (take i vs)) (view v)) f → IsFault (table_rules key rules d) f
unfolding table_rules
table_there key rules d vs i v f tables within is so_far h =
    fault_past (optional some_tables key d) _ f tables.0 (subst (λ ds. IsFault (each_record rules [] ds) f) tables.1 (fault_there rules vs i v f within is so_far h))

-- all of the records that stand in the table were read
pub table_read : {A : Type 0} (Reads : Data → A → Type 0) (key : Key) (rules : List Data → Data → List Rule) (d : Data) (vs : List Value) (i : ℕ) (rows : List A) → AllByRecursion Holds (optional some_tables key d) × (map view vs ≡ records key d)
    → length vs ≤ i → AreKept rules (map view (take i vs)) × SaysEach Reads (map view (take i vs)) rows → AllByRecursion Holds (table_rules key rules d) × SaysEach Reads (records key d) rows
unfolding table_rules
table_read Reads key rules d vs i rows tables whole read =
    let all = subst (λ ds. AreKept rules ds × SaysEach Reads ds rows) (all_taken vs i whole ∙ tables.1) read in
    (all-append Holds (optional some_tables key d) (each_record rules [] (records key d)) tables.0 all.0, all.1)

pub records_kept : (key : Key) (rules : List Data → Data → List Rule) (d : Data) → AllByRecursion Holds (table_rules key rules d) → AreKept rules (records key d)
unfolding table_rules
records_kept key rules d h = all_back Holds (optional some_tables key d) (each_record rules [] (records key d)) h

-- ---- one rule

pub kept_alone : (rule : Rule) → Holds rule → AllByRecursion Holds (rule ∷ [])
kept_alone rule h = (h, tt)

pub broken_alone : (rule : Rule) (f : ConfigFault) → ¬ (Holds rule) → f ≡ fault_of rule → IsFault (rule ∷ []) f
broken_alone rule f h is = subst (IsFault (rule ∷ [])) (sym is) (fault_alone rule h)
