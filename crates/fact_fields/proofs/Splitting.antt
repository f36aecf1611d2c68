-- Rows of Paths, and then of Resvs.
use Rattle.std.proofs.Common.{◌≡◌, ◌<◌, ◌==◌, ◌≢◌, ◌+◌, ◌++◌, ◌∷◌, [], ℕ, List, T, Bool, true, false, ◌&&◌, Result, Ok, Err, OnOk, map, length, take, drop, get_or, refl, sym, ap, subst, ◌∙◌, arith, eqb→eq, take-append-drop}
use Rattle.std.proofs.lemmas.List.{at_drop_more}
use Rattle.std.specs.FinMap.Entries.{is_sorted}
use Rattle.field_bytes.specs.Making.{MadeFits, Makes}
use Rattle.field_bytes.specs.Spelling.{ListFits}
use Rattle.field_bytes.specs.declared.fault.ReadFault.{ReadFault}
use Rattle.field_bytes.specs.declared.fault.ReadFault.TheVariants as faults
use Rattle.lsr_facts.specs.Orders.{item_cmp}
use Rattle.lsr_facts.specs.Upstreams.{upstream_cmp}
use Rattle.lsr_facts.specs.declared.key.Item.{Item}
use Rattle.lsr_facts.specs.declared.upstream.Upstream.{Upstream}
use Rattle.fact_fields.specs.Sent.{NeverFollows, IsSent, IsSplit, are_rising, joined, path_row, paths_again, paths_in, resv_row, resvs_again, resvs_in, sent_by, sent_rows}
use Rattle.fact_fields.specs.declared.sent.Sent.{Sent}
use Rattle.fact_fields.specs.declared.sent.Refreshed.{Refreshed}
use Rattle.fact_fields.specs.declared.sent.Refreshed.TheVariants as kept

-- one Path more, where no Resv came yet
pub path_more : (paths : List (Item × ℕ)) (row : Item × ℕ) → joined (paths ++ row ∷ []) [] ≡ joined paths [] ++ path_row row ∷ []
path_more [] row = refl
path_more (p ∷ ps) row = ap (λ (v : List (Refreshed × ℕ)). path_row p ∷ v) (path_more ps row)

resv_last : (resvs : List (Upstream × ℕ)) (row : Upstream × ℕ) → map resv_row (resvs ++ row ∷ []) ≡ map resv_row resvs ++ resv_row row ∷ []
resv_last [] row = refl
resv_last (r ∷ rs) row = ap (λ (v : List (Refreshed × ℕ)). resv_row r ∷ v) (resv_last rs row)

-- one Resv more
pub resv_more : (paths : List (Item × ℕ)) (resvs : List (Upstream × ℕ)) (row : Upstream × ℕ) → joined paths (resvs ++ row ∷ []) ≡ joined paths resvs ++ resv_row row ∷ []
resv_more [] resvs row = resv_last resvs row
resv_more (p ∷ ps) resvs row = ap (λ (v : List (Refreshed × ℕ)). path_row p ∷ v) (resv_more ps resvs row)

-- whether the first row is one of a Path
abbrev begins_with_path : List (Refreshed × ℕ) → Bool
begins_with_path [] = false
begins_with_path ((kept.Path item, moment) ∷ rest) = true
begins_with_path ((kept.Resv upstream, moment) ∷ rest) = false

-- among Resvs there is no Path
no_path : (resvs more : List (Upstream × ℕ)) (row : Item × ℕ) (rest : List (Refreshed × ℕ)) → map resv_row more ≡ map resv_row resvs ++ path_row row ∷ rest → ⊥
no_path [] [] row rest e = cc
no_path [] (m ∷ ms) row rest e = let h : false ≡ true = ap begins_with_path e in cc
no_path (r ∷ rs) [] row rest e = cc
no_path (r ∷ rs) (m ∷ ms) row rest e = no_path rs ms row rest (ap (drop 1) e)

-- after a Resv comes no Path
pub no_path_later : (paths others : List (Item × ℕ)) (resvs more : List (Upstream × ℕ)) (row : Item × ℕ) (rest : List (Refreshed × ℕ)) → resvs ≢ [] →
    joined others more ≡ joined paths resvs ++ path_row row ∷ rest → ⊥
no_path_later [] [] resvs more row rest some e = no_path resvs more row rest e
no_path_later [] (o ∷ os) [] more row rest some e = some refl
no_path_later [] (o ∷ os) (r ∷ rs) more row rest some e = let h : true ≡ false = ap begins_with_path e in cc
no_path_later (p ∷ ps) [] resvs [] row rest some e = cc
no_path_later (p ∷ ps) [] resvs (m ∷ ms) row rest some e = let h : false ≡ true = ap begins_with_path e in cc
no_path_later (p ∷ ps) (o ∷ os) resvs more row rest some e = no_path_later ps os resvs more row rest some (ap (drop 1) e)

none_left : (resvs : List (Upstream × ℕ)) → (length resvs == 0) ≡ true → resvs ≡ []
none_left [] e = refl
none_left (r ∷ rs) e =
    let h : length (r ∷ rs) ≡ 0 = eqb→eq (length (r ∷ rs)) 0 (subst T (sym e) tt) in
    absurd (omega (arith, h))

some_left : (resvs : List (Upstream × ℕ)) → (length resvs == 0) ≡ false → resvs ≢ []
some_left [] e same = cc
some_left (r ∷ rs) e same = cc

-- where no Resv is there yet
pub path_after : (paths : List (Item × ℕ)) (resvs : List (Upstream × ℕ)) (row : Item × ℕ) → (length resvs == 0) ≡ true → joined (paths ++ row ∷ []) resvs ≡ joined paths resvs ++ path_row row ∷ []
path_after paths resvs row none =
    let P : List (Upstream × ℕ) → Type 0 = λ v. joined (paths ++ row ∷ []) v ≡ joined paths v ++ path_row row ∷ [] in
    subst P (sym (none_left resvs none)) (path_more paths row)

-- and where one is
pub path_too_late : (paths : List (Item × ℕ)) (resvs : List (Upstream × ℕ)) (row : Item × ℕ) → (length resvs == 0) ≡ false → NeverFollows faults.Format paths resvs (path_row row)
path_too_late paths resvs row some = λ others more rest e. no_path_later paths others resvs more row rest (some_left resvs some) e

-- ---- what was sent

-- where a Path comes after a Resv nothing was sent of these rows
pub unsplit : (rows : List (Refreshed × ℕ)) (fault : ReadFault) → IsSplit rows (Err fault) → Makes IsSent sent_rows rows (Err fault)
unsplit rows faults.Memory none = tt
unsplit rows faults.Format none = λ s is same. none s.paths s.resvs same

-- nor where the Paths don't rise, or the Resvs
is_so : (b : Bool) → T b → b ≡ true
is_so true t = refl
is_so false t = absurd t

pub unrising : (rows : List (Refreshed × ℕ)) (paths : List (Item × ℕ)) (resvs : List (Upstream × ℕ)) → joined paths resvs ≡ rows → are_rising paths resvs ≡ false → Makes IsSent sent_rows rows (Err faults.Format)
unrising rows paths resvs e none = λ s is same.
    let p : s.paths ≡ paths = sym (paths_again s.paths s.resvs) ∙ (ap paths_in (same ∙ sym e) ∙ paths_again paths resvs) in
    let r : s.resvs ≡ resvs = sym (resvs_again s.paths s.resvs) ∙ (ap resvs_in (same ∙ sym e) ∙ resvs_again paths resvs) in
    let a : is_sorted item_cmp paths ≡ true = ap (is_sorted item_cmp) (sym p) ∙ is_so (is_sorted item_cmp s.paths) is.paths in
    let b : is_sorted upstream_cmp resvs ≡ true = ap (is_sorted upstream_cmp) (sym r) ∙ is_so (is_sorted upstream_cmp s.resvs) is.resvs in
    let h : true ≡ false = sym (λ i. a i && b i) ∙ none in cc

both_so : (a b : Bool) → (a && b) ≡ true → T a × T b
both_so true true e = (tt, tt)
both_so true false e = cc
both_so false b e = cc

-- where they do so do these
pub paths_rise : (paths rows : List (Item × ℕ)) (resvs : List (Upstream × ℕ)) → are_rising paths resvs ≡ true → rows ≡ paths → T (is_sorted item_cmp rows)
paths_rise paths rows resvs rising same = subst T (ap (is_sorted item_cmp) (sym same)) (both_so (is_sorted item_cmp paths) (is_sorted upstream_cmp resvs) rising).0

pub resvs_rise : (paths : List (Item × ℕ)) (resvs rows : List (Upstream × ℕ)) → are_rising paths resvs ≡ true → rows ≡ resvs → T (is_sorted upstream_cmp rows)
resvs_rise paths resvs rows rising same = subst T (ap (is_sorted upstream_cmp) (sym same)) (both_so (is_sorted item_cmp paths) (is_sorted upstream_cmp resvs) rising).1

-- and what was sent is of these rows
pub rising_made : (rows : List (Refreshed × ℕ)) (paths : List (Item × ℕ)) (resvs : List (Upstream × ℕ)) (s : Sent) → joined paths resvs ≡ rows → are_rising paths resvs ≡ true → s ≡ sent_by paths resvs → Makes IsSent sent_rows rows (Ok s)
rising_made rows paths resvs s e rising same =
    let both = both_so (is_sorted item_cmp paths) (is_sorted upstream_cmp resvs) rising in
    (ap sent_rows same ∙ e, subst IsSent (sym same) (record { paths = both.0; resvs = both.1 }))

-- it is of the rows of these tables, which have a spelling where the rows have
pub sent_fits : {X E : Type 0} (Fits : Refreshed × ℕ → Type 0) (paths : List (Item × ℕ)) (resvs : List (Upstream × ℕ)) (rows : List (Refreshed × ℕ)) (result : Result X E) →
    T (is_sorted item_cmp paths) → T (is_sorted upstream_cmp resvs) → rows ≡ joined paths resvs → OnOk result (ListFits Fits rows) → OnOk result (MadeFits IsSent sent_rows (ListFits Fits) (sent_by paths resvs))
sent_fits Fits paths resvs rows (Ok x) p r same fits = (record { paths = p; resvs = r }, subst (ListFits Fits) same fits)
sent_fits Fits paths resvs rows (Err e) p r same fits = tt

-- what is left after the rows so far
rows_left : (i : ℕ) (rows : List (Refreshed × ℕ)) (other : Refreshed × ℕ) → i < length rows → rows ≡ take i rows ++ get_or rows i other ∷ drop (i + 1) rows
rows_left i rows other less = sym (take-append-drop i rows) ∙ ap (λ (v : List (Refreshed × ℕ)). take i rows ++ v) (at_drop_more (λ (v : List (Refreshed × ℕ)). v) rows i other less)

-- where a row can't follow those so far they aren't Paths and then Resvs
pub split_ends : (i : ℕ) (rows : List (Refreshed × ℕ)) (other : Refreshed × ℕ) (paths : List (Item × ℕ)) (resvs : List (Upstream × ℕ)) (fault : ReadFault) → i < length rows →
    joined paths resvs ≡ take i rows → NeverFollows fault paths resvs (get_or rows i other) → IsSplit rows (Err fault)
split_ends i rows other paths resvs faults.Memory less so_far none = tt
split_ends i rows other paths resvs faults.Format less so_far none = λ others more same.
    none others more (drop (i + 1) rows) (same ∙ (rows_left i rows other less ∙ ap (λ (v : List (Refreshed × ℕ)). v ++ get_or rows i other ∷ drop (i + 1) rows) (sym so_far)))
