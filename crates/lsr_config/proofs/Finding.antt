-- What the values of a document say, and that nothing else is said by them.
use Rattle.std.proofs.Common.{◌≡◌, ℕ, ◌<◌, ◌≤◌, ◌-◌, ◌^◌, ℤ, pos, negsuc, Bool, true, false, List, [], ◌∷◌, Option, Some, None, Result, Ok, Err, refl, sym, ap, subst, ◌∙◌, arith}
use Rattle.std.proofs.Common.{◌≢◌, map, is_some, suc, length, get_or, to_z, of_z}
use Rattle.std.proofs.lemmas.Bool.{and_parts, false≢true}
use Rattle.std.specs.List.{AllByRecursion, list_all}
use Rattle.std.proofs.lemmas.Int.{to_z-of_z}
use Rattle.std.specs.Int.{FitsUnsignedBits, w64}
use Rattle.std.specs.Result.{OkIff}
use Rattle.toml.specs.View.{view, items_view}
use Rattle.toml.specs.declared.value.Value.{Value}
use mir.Val.{SFits}
use denote.Ref.{Bor}
use Rattle.std.specs.Prelude.{unsigned_abs, MatchOption}
use Rattle.std.specs.Result.{result_ok}
use Rattle.lsr_facts.specs.declared.router.LabelRange.{LabelRange}
use Rattle.std.specs.Net.Grammar.{Parses}
use Rattle.toml.specs.Data.{Data, string, integer, float, boolean, datetime, array, table, Items, no_items, item, as_str, as_integer, as_bool, as_array, as_table}
use Rattle.rsvp_bodies.specs.Finding.{Finds}
use Rattle.lsr_config.specs.Values.{SaysText, SaysWhole, SaysFlag, SaysLabels, SaysTables, IsTable, elements}
use Rattle.lsr_config.specs.Documents.{array_elements}

-- the value that an accessor gives is the value that is there
pub string_from : (d : Data) (text : List ℕ) → Some text ≡ as_str d → d ≡ string text
string_from (string s) text e = cc
string_from (integer z) text e = cc
string_from (float x) text e = cc
string_from (boolean b) text e = cc
string_from (datetime dt) text e = cc
string_from (array ds) text e = cc
string_from (table ms) text e = cc

pub integer_from : (d : Data) (z : ℤ) → Some z ≡ as_integer d → d ≡ integer z
integer_from (string s) z e = cc
integer_from (integer z) y e = cc
integer_from (float x) z e = cc
integer_from (boolean b) z e = cc
integer_from (datetime dt) z e = cc
integer_from (array ds) z e = cc
integer_from (table ms) z e = cc

pub boolean_from : (d : Data) (b : Bool) → Some b ≡ as_bool d → d ≡ boolean b
boolean_from (string s) b e = cc
boolean_from (integer z) b e = cc
boolean_from (float x) b e = cc
boolean_from (boolean c) b e = cc
boolean_from (datetime dt) b e = cc
boolean_from (array ds) b e = cc
boolean_from (table ms) b e = cc

pub array_from : (d : Data) (ds : Items) → Some ds ≡ as_array d → d ≡ array ds
array_from (string s) ds e = cc
array_from (integer z) ds e = cc
array_from (float x) ds e = cc
array_from (boolean b) ds e = cc
array_from (datetime dt) ds e = cc
array_from (array es) ds e = cc
array_from (table ms) ds e = cc

-- a value that is no text spells nothing
pub no_text : {A : Type 0} (Spells : List ℕ → A → Type 0) (d : Data) → None ≡ as_str d → (a : A) → ¬ (SaysText Spells d a)
no_text Spells d none a h = let some : as_str d ≡ Some h.0 = ap as_str h.1 in cc

-- what a text spells is what the value says
pub text_found : {A : Type 0} (Spells : List ℕ → A → Type 0) (d : Data) (text : List ℕ) (o : Option A) → Some text ≡ as_str d → Finds (Spells text) o → Finds (SaysText Spells d) o
text_found Spells d text (Some a) e h = (text, string_from d text e, h)
text_found Spells d text None e h =
    λ a says.
    let same : says.0 ≡ text = let other : as_str d ≡ Some says.0 = ap as_str says.1 in cc in
    h a (subst (λ t. Spells t a) same says.2)

-- what `parse` gives is what the text spells
pub parse_found : {A E : Type 0} (Spells : List ℕ → A → Type 0) (text : List ℕ) (r : Result A E) → Parses Spells text r → Finds (Spells text) (result_ok r)
parse_found Spells text (Ok a) h = h
parse_found Spells text (Err e) h = h

-- the truth value that is there
pub flag_found : (d : Data) → Finds (SaysFlag d) (as_bool d)
unfolding SaysFlag
flag_found (string s) = λ b e. cc
flag_found (integer z) = λ b e. cc
flag_found (float x) = λ b e. cc
flag_found (boolean b) = refl
flag_found (datetime dt) = λ b e. cc
flag_found (array ds) = λ b e. cc
flag_found (table ms) = λ b e. cc

-- a value that is no array lists no labels
pub no_labels : (d : Data) → None ≡ as_array d → (labels : LabelRange) → ¬ (SaysLabels d labels)
unfolding SaysLabels
no_labels d none labels h = let some : as_array d ≡ Some (item h.0 (item h.1 no_items)) = ap as_array h.2 in cc

below_all : (n : ℕ) → SFits w64 (pos n) → n < 2 ^ 64
below_all n h = omega arith

-- the number, where it isn't below 0
pub natural_found : {E : Type 0} (z : ℤ) (r : Result ℕ E) → SFits w64 z → OkIff r (FitsUnsignedBits 64 (to_z w64 (of_z w64 z))) (unsigned_abs (to_z w64 (of_z w64 z))) → Finds (λ n. z ≡ pos n) (result_ok r)
natural_found (pos m) (Ok n) fits h = ap pos (sym (simp to_z-of_z at h.1))
natural_found (negsuc m) (Ok n) fits h = absurd (simp to_z-of_z at h.0)
natural_found z (Err e) fits h = λ n is. simp to_z-of_z at h (subst (FitsUnsignedBits 64) (sym is) (below_all n (subst (SFits w64) is fits)))

-- the number that the value is
pub integer_found : (d : Data) (z : ℤ) (o : Option ℕ) → Some z ≡ as_integer d → Finds (λ n. z ≡ pos n) o → Finds (λ n. d ≡ integer (pos n)) o
integer_found d z (Some n) e h = integer_from d z e ∙ ap integer h
integer_found d z None e h = λ n is. h n (let some : as_integer d ≡ Some (pos n) = ap as_integer is in cc)

-- a value that is no whole number is none
pub no_integer : (d : Data) → None ≡ as_integer d → (n : ℕ) → ¬ (d ≡ integer (pos n))
no_integer d none n is = let some : as_integer d ≡ Some (pos n) = ap as_integer is in cc

-- two whole numbers that a value is are the same
pub same_integer : (d : Data) (m n : ℕ) → d ≡ integer (pos m) → d ≡ integer (pos n) → m ≡ n
same_integer d m n p q = cc

-- a slice of two values is an array of two
pub two_items : (vs : List Value) (a b : Value) → length vs ≡ 2 → a ≡ get_or vs 0 a → b ≡ get_or vs 1 b → items_view vs ≡ item (view a) (item (view b) no_items)
two_items [] a b two p q = absurd (omega arith)
two_items (v ∷ []) a b two p q = absurd (omega arith)
two_items (v ∷ w ∷ []) a b two p q = rw (p, q)
two_items (v ∷ w ∷ x ∷ vs) a b two p q = absurd (omega arith)

-- how many items there are
length_items : Items → ℕ
length_items no_items = 0
length_items (item d ds) = suc (length_items ds)

length-items : (vs : List Value) → length_items (items_view vs) ≡ length vs
unfolding length_items
length-items [] = refl
length-items (v ∷ vs) = ap suc (length-items vs)

-- an array of another length lists no labels
pub not_two_labels : (vs : List Value) → length vs ≢ 2 → (labels : LabelRange) → ¬ (SaysLabels (array (items_view vs)) labels)
unfolding SaysLabels length_items
not_two_labels vs other labels h =
    let same : items_view vs ≡ item h.0 (item h.1 no_items) = cc in
    other (sym (length-items vs) ∙ ap length_items same)

-- an array of two lists only labels whose first and last those two say
pub two_labels : (vs : List Value) (a b : Value) → length vs ≡ 2 → a ≡ get_or vs 0 a → b ≡ get_or vs 1 b → (labels : LabelRange) → SaysLabels (array (items_view vs)) labels
    → SaysWhole 16 1048575 (view a) labels.first × SaysWhole 16 1048575 (view b) labels.last × (labels.first ≤ labels.last) × (labels.last - labels.first < 4096)
unfolding SaysLabels
two_labels vs a b two p q labels h =
    let items = two_items vs a b two p q in
    let first : h.0 ≡ view a = cc in
    let last : h.1 ≡ view b = cc in
    (subst (λ d. SaysWhole 16 1048575 d labels.first) first h.3, subst (λ d. SaysWhole 16 1048575 d labels.last) last h.4, h.5, h.6)

-- and it lists those
pub labels_found : (vs : List Value) (a b : Value) → length vs ≡ 2 → a ≡ get_or vs 0 a → b ≡ get_or vs 1 b → (first last : ℕ) → SaysWhole 16 1048575 (view a) first → SaysWhole 16 1048575 (view b) last
    → first ≤ last → last - first < 4096 → SaysLabels (array (items_view vs)) (record { first = first; last = last })
unfolding SaysLabels
labels_found vs a b two p q first last says_first says_last up few =
    (view a, view b, ap array (two_items vs a b two p q), says_first, says_last, up, few)

-- a whole number that a value says in a range is the same as another that it says there
pub same_whole : (least most : ℕ) (d : Data) (m n : ℕ) → SaysWhole least most d m → SaysWhole least most d n → m ≡ n
unfolding SaysWhole
same_whole least most d m n p q = same_integer d m n p.0 q.0

-- ---- arrays of tables

table_from : (d : Data) → is_some (as_table d) ≡ true → IsTable d
table_from (string s) e = cc
table_from (integer z) e = cc
table_from (float x) e = cc
table_from (boolean b) e = cc
table_from (datetime dt) e = cc
table_from (array ds) e = cc
table_from (table ms) e = (ms, refl)

all_tables : (vs : List Value) → list_all (λ v. is_some (as_table (view v))) vs ≡ true → AllByRecursion IsTable (map view vs)
all_tables [] e = tt
all_tables (v ∷ vs) e =
    let (here, more) = and_parts (is_some (as_table (view v))) (list_all (λ w. is_some (as_table (view w))) vs) e in
    (table_from (view v) here, all_tables vs more)

tables_all : (vs : List Value) → AllByRecursion IsTable (map view vs) → list_all (λ v. is_some (as_table (view v))) vs ≡ true
tables_all [] h = refl
tables_all (v ∷ vs) h = rw (ap (λ d. is_some (as_table d)) h.0.1) (tables_all vs h.1)

pub elements-view : (vs : List Value) → elements (items_view vs) ≡ map view vs
elements-view [] = refl
elements-view (v ∷ vs) = ap (λ ds. view v ∷ ds) (elements-view vs)

-- an array says its tables
pub tables_found : (d : Data) (vs : List Value) → Some (items_view vs) ≡ as_array d → list_all (λ v. is_some (as_table (view v))) vs ≡ true → SaysTables d (map view vs)
unfolding SaysTables
tables_found d vs e all = (items_view vs, array_from d _ e, elements-view vs, all_tables vs all)

-- and none, where one of its values is no table
pub not_tables : (d : Data) (vs : List Value) → Some (items_view vs) ≡ as_array d → list_all (λ v. is_some (as_table (view v))) vs ≡ false → (tables : List Data) → ¬ (SaysTables d tables)
unfolding SaysTables
not_tables d vs e some tables h =
    let here : d ≡ array (items_view vs) = array_from d _ e in
    let same : h.0 ≡ items_view vs = cc in
    let all : map view vs ≡ tables = sym (elements-view vs) ∙ ap elements (sym same) ∙ h.2 in
    false≢true (sym some ∙ tables_all vs (subst (AllByRecursion IsTable) (sym all) h.3))

pub no_tables : (d : Data) → None ≡ as_array d → (tables : List Data) → ¬ (SaysTables d tables)
unfolding SaysTables
no_tables d none tables h = let some : as_array d ≡ Some h.0 = ap as_array h.1 in cc

-- and so for what is found of it
pub tables_judged : (d : Data) (vs : List Value) (o : Option (Bor (List Value))) → Some (items_view vs) ≡ as_array d
    → MatchOption o (list_all (λ v. is_some (as_table (view v))) vs ≡ false) (λ found. (list_all (λ v. is_some (as_table (view v))) vs ≡ true) × (found.now ≡ vs))
    → MatchOption o ((tables : List Data) → ¬ (SaysTables d tables)) (λ found. SaysTables d (map view found.now))
tables_judged d vs None e h = not_tables d vs e h
tables_judged d vs (Some found) e h = rw h.1 (tables_found d vs e h.0)

-- ---- arrays

pub items_found : (d : Data) (vs : List Value) → Some (items_view vs) ≡ as_array d → map view vs ≡ array_elements (Some d)
items_found d vs e = sym (elements-view vs) ∙ ap (λ x. array_elements (Some x)) (sym (array_from d _ e))

pub no_items_found : (d : Data) → None ≡ as_array d → [] ≡ array_elements (Some d)
no_items_found (string s) e = refl
no_items_found (integer z) e = refl
no_items_found (float x) e = refl
no_items_found (boolean b) e = refl
no_items_found (datetime dt) e = refl
no_items_found (array ds) e = cc
no_items_found (table ms) e = refl
