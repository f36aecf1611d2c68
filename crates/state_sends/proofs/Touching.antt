-- One more key among others, and what is known of those that aren't among them.
use Rattle.std.specs.Prelude.{◌≡◌, ◌+◌, ◌<◌, ◌||◌, ◌++◌, ℕ, zero, suc, slice_get, Bool, true, false, cond, List, [], ◌∷◌, Option, Some, None, is_some, length, take}
use Rattle.std.specs.FinMap.Entries.{find, find-put, put}
use Rattle.std.specs.Option.{option_map, option_or}
use Rattle.std.specs.Ordering.{eq_by_cmp}
use Rattle.std.proofs.Common.{get_or, refl, sym, ap, subst, arith, ◌∙◌}
use Rattle.std.proofs.lemmas.List.{take_more}
use Rattle.std.proofs.lemmas.List.Folds.{list_any-append}
use Rattle.sorted_rows.specs.Edits.{over}
use Rattle.sorted_rows.specs.RowsLaws.{find-append}
use Rattle.lsr_facts.specs.OrderLaws.{key_exact, key_total}
use Rattle.lsr_facts.specs.Orders.{key_cmp}
use Rattle.lsr_facts.specs.declared.key.Key.{Key}
use Rattle.abstract_paths.specs.StampLaws.{none-is, ties}
use Rattle.abstract_paths.specs.Touched.{is_among}
use Rattle.abstract_router.specs.Lsps.{Lsp, lsp_at}
use Rattle.abstract_router.specs.States.{State}
use Rattle.state_views.specs.EditLaws.{neither, row_edited, same_unedited}
use Rattle.state_views.specs.Edits.{edited, is_edited}
use Rattle.state_views.specs.declared.edits.Edits.{Edits}
use Rattle.state_sends.specs.Touching.{AreAllLsps, IsSaidAgain, is_lsp_of, said_by_resvs}

-- a key is among rows with one more after them
among-more : {E : Type 0} (key : Key) (rows : List (Key × E)) (row : Key × E) → is_among key_cmp (rows ++ row ∷ []) key ≡ (is_among key_cmp rows key || eq_by_cmp key_cmp key row.0)
among-more {E} key rows row = ap is_some (find-append key_cmp key rows (row ∷ [])) ∙ by (find key_cmp key rows) (eq_by_cmp key_cmp key row.0)
  where
    by : (o : Option E) (b : Bool) → is_some (option_or o (cond b (Some row.1) None)) ≡ (is_some o || b)
    by None true = refl
    by None false = refl
    by (Some x) b = refl

-- and where it is put
among-put : (key : Key) (row : Key) (keys : List (Key × Unit {0})) → is_among key_cmp (put key_cmp row tt keys) key ≡ (eq_by_cmp key_cmp key row || is_among key_cmp keys key)
among-put key row keys = ap is_some (find-put key_cmp key_total key row tt keys) ∙ by (eq_by_cmp key_cmp key row) (find key_cmp key keys)
  where
    by : (b : Bool) (o : Option (Unit {0})) → is_some (cond b (Some tt) o) ≡ (b || is_some o)
    by true o = refl
    by false o = refl

-- one of three tests, in another order
turned : (a b c : Bool) → (b || (a || c)) ≡ ((a || b) || c)
turned true true c = refl
turned true false c = refl
turned false b c = refl

-- a test or nothing
or_false : (b : Bool) → (b || false) ≡ b
or_false true = refl
or_false false = refl

-- One more of the rows: its key is put among the keys.
pub one_more : {E : Type 0} (rows : List (Key × E)) (i : ℕ) (row : Key × E) (keys all after : List (Key × Unit {0})) → i < length rows → row ≡ get_or rows i row → after ≡ put key_cmp row.0 tt all → ((key : Key) → is_among key_cmp all key ≡ (is_among key_cmp (take i rows) key || is_among key_cmp keys key)) → (key : Key) → is_among key_cmp after key ≡ (is_among key_cmp (take (i + 1) rows) key || is_among key_cmp keys key)
one_more rows i row keys all after within is put known key =
    ap (λ rows. is_among key_cmp rows key) put
    ∙ among-put key row.0 all
    ∙ ap (λ b. eq_by_cmp key_cmp key row.0 || b) (known key)
    ∙ turned (is_among key_cmp (take i rows) key) (eq_by_cmp key_cmp key row.0) (is_among key_cmp keys key)
    ∙ ap (λ b. b || is_among key_cmp keys key) (sym (among-more key (take i rows) row) ∙ sym (ap (λ xs. is_among key_cmp xs key) (take_more rows i row within ∙ ap (λ r. take i rows ++ r ∷ []) (sym is))))

-- the keys of one row more
among_next : {E : Type 0} (rows : List (Key × E)) (i : ℕ) (row : Key × E) → i < length rows → row ≡ get_or rows i row → (key : Key) → is_among key_cmp (take (i + 1) rows) key ≡ (is_among key_cmp (take i rows) key || eq_by_cmp key_cmp key row.0)
among_next rows i row within is key =
    ap (λ xs. is_among key_cmp xs key) (take_more rows i row within ∙ ap (λ r. take i rows ++ r ∷ []) (sym is)) ∙ among-more key (take i rows) row

-- What holds of each of so many LSPs that isn't among the changed ones: it holds of one more where it holds of that,
pub one_same : {E : Type 0} (P : Key → Type 0) (lsps : List (Key × E)) (i : ℕ) (row : Key × E) (changed after : List (Key × Unit {0})) → i < length lsps → row ≡ get_or lsps i row → ((key : Key) → is_among key_cmp (take i lsps) key ≡ true → is_among key_cmp changed key ≡ false → P key) → after ≡ changed → P row.0
    → (key : Key) → is_among key_cmp (take (i + 1) lsps) key ≡ true → is_among key_cmp after key ≡ false → P key
one_same P lsps i row changed after within is holds stays own key known apart =
    by (is_among key_cmp (take i lsps) key) (eq_by_cmp key_cmp key row.0) refl refl (sym (among_next lsps i row within is key) ∙ known)
  where
    by : (a b : Bool) → is_among key_cmp (take i lsps) key ≡ a → eq_by_cmp key_cmp key row.0 ≡ b → (a || b) ≡ true → P key
    by true b among tie e = holds key among (sym (ap (λ keys. is_among key_cmp keys key) stays) ∙ apart)
    by false true among tie e = subst P (sym (key_exact key row.0 (ties (key_cmp key row.0) tie))) own
    by false false among tie e = absurd (let f = e in cc)

-- and where that is put among them.
pub one_changed : {E : Type 0} (P : Key → Type 0) (lsps : List (Key × E)) (i : ℕ) (row : Key × E) (changed after : List (Key × Unit {0})) → i < length lsps → row ≡ get_or lsps i row → ((key : Key) → is_among key_cmp (take i lsps) key ≡ true → is_among key_cmp changed key ≡ false → P key) → after ≡ put key_cmp row.0 tt changed
    → (key : Key) → is_among key_cmp (take (i + 1) lsps) key ≡ true → is_among key_cmp after key ≡ false → P key
one_changed P lsps i row changed after within is holds put known_key known apart =
    let none = neither (eq_by_cmp key_cmp known_key row.0) (is_among key_cmp changed known_key) (sym (among-put known_key row.0 changed) ∙ sym (ap (λ keys. is_among key_cmp keys known_key) put) ∙ apart) in
    holds known_key (sym (or_false (is_among key_cmp (take i lsps) known_key)) ∙ ap (λ b. is_among key_cmp (take i lsps) known_key || b) (sym none.0) ∙ sym (among_next lsps i row within is known_key) ∙ known) none.1

-- One more of the LSPs that are known is put among those before it.
pub one_known : {E : Type 0} (rows : List (Key × E)) (i : ℕ) (row : Key × E) (all after : List (Key × Unit {0})) → i < length rows → row ≡ get_or rows i row → after ≡ put key_cmp row.0 tt all → ((key : Key) → is_among key_cmp all key ≡ is_among key_cmp (take i rows) key) → (key : Key) → is_among key_cmp after key ≡ is_among key_cmp (take (i + 1) rows) key
one_known rows i row all after within is put known key =
    one_more rows i row [] all after within is put (λ k. known k ∙ sym (or_false (is_among key_cmp (take i rows) k))) key ∙ or_false (is_among key_cmp (take (i + 1) rows) key)

-- each place of a list has an element
pub none_past : {A : Type 0} (xs : List A) (i : ℕ) → i < length xs → slice_get xs i ≡ None → ⊥
none_past [] i within none = omega (arith, within)
none_past (x ∷ xs) zero within none = let f = none in cc
none_past (x ∷ xs) (suc i) within none = none_past xs i (omega (arith, within)) none

-- One more of the items: its LSP is put among the keys.
pub one_item : {I : Type 0} (of : I → Key) (items : List I) (i : ℕ) (item : I) (lsp : Key) (keys all after : List (Key × Unit {0})) → i < length items → item ≡ get_or items i item → lsp ≡ of item → after ≡ put key_cmp lsp tt all
    → ((key : Key) → is_among key_cmp all key ≡ (is_lsp_of of (take i items) key || is_among key_cmp keys key)) → (key : Key) → is_among key_cmp after key ≡ (is_lsp_of of (take (i + 1) items) key || is_among key_cmp keys key)
one_item {I} of items i item lsp keys all after within is is_lsp put known key =
    ap (λ rows. is_among key_cmp rows key) put
    ∙ among-put key lsp all
    ∙ (λ k. eq_by_cmp key_cmp key (is_lsp k) || known key k)
    ∙ turned (is_lsp_of of (take i items) key) (eq_by_cmp key_cmp key (of item)) (is_among key_cmp keys key)
    ∙ ap (λ b. b || is_among key_cmp keys key)
    (ap (λ b. is_lsp_of of (take i items) key || b) (sym (or_false (eq_by_cmp key_cmp key (of item))))
    ∙ sym (list_any-append (λ (x : I). eq_by_cmp key_cmp key (of x)) (take i items) (item ∷ []))
    ∙ sym (ap (λ (xs : List I). is_lsp_of of xs key) (take_more items i item within ∙ ap (λ x. take i items ++ x ∷ []) (sym is))))

-- What is known is the same where Resvs say the same, which may say all.
known_again : (s t : State) (key : Key) → IsSaidAgain said_by_resvs s t key → lsp_at s key ≡ lsp_at t key
known_again s t key same = sym (whole (lsp_at s key)) ∙ same ∙ whole (lsp_at t key)
  where
    whole : (o : Option Lsp) → option_map said_by_resvs o ≡ o
    whole None = refl
    whole (Some lsp) = refl

-- And so of those that aren't among the edited LSPs of which not the same is known.
pub same_apart : (s : State) (e : Edits) (lsps changed : List (Key × Unit {0})) → ((key : Key) → is_among key_cmp lsps key ≡ is_edited e key)
    → ((key : Key) → is_among key_cmp lsps key ≡ true → is_among key_cmp changed key ≡ false → IsSaidAgain said_by_resvs s (edited e s) key)
    → (key : Key) → is_among key_cmp changed key ≡ false → lsp_at s key ≡ lsp_at (edited e s) key
same_apart s e lsps changed known same key apart = by (is_among key_cmp lsps key) refl
  where
    by : (b : Bool) → is_among key_cmp lsps key ≡ b → lsp_at s key ≡ lsp_at (edited e s) key
    by true is = known_again s (edited e s) key (same key is apart)
    by false is = same_unedited s e key (sym (known key) ∙ is)

-- LSPs that are known before, and those whose path has an edit, are all that are known before or after.
pub known_after : (s : State) (e : Edits) (known all : List (Key × Unit {0})) → ((key : Key) → is_among key_cmp known key ≡ is_among key_cmp s.facts.paths key) → ((key : Key) → is_among key_cmp all key ≡ (is_among key_cmp e.paths key || is_among key_cmp known key))
    → AreAllLsps s all × AreAllLsps (edited e s) all
known_after s e known all before after = (
  λ key away. none-is (find key_cmp key s.facts.paths) (gone key away).1,
  λ key away. row_edited key e.paths s.facts.paths ∙ (λ i. over (none-is (find key_cmp key e.paths) (gone key away).0 i) (none-is (find key_cmp key s.facts.paths) (gone key away).1 i)),
)
  where
    gone : (key : Key) → is_among key_cmp all key ≡ false → (is_among key_cmp e.paths key ≡ false) × (is_among key_cmp s.facts.paths key ≡ false)
    gone key away =
        let none = neither (is_among key_cmp e.paths key) (is_among key_cmp known key) (sym (after key) ∙ away) in
        (none.0, sym (before key) ∙ none.1)
