-- A state's label table has no more rows than the state has paths.
use Rattle.std.proofs.Common.{◌≡◌, ◌+◌, ◌≤◌, ◌==◌, ℕ, suc, T, Bool, true, false, cond, not, List, [], ◌∷◌, length, Option, Some, None, is_some, refl, sym, subst, ◌∙◌, arith}
use Rattle.std.specs.FinMap.Entries.{find, is_sorted}
use Rattle.std.specs.List.{AllByRecursion, filter, find as find_first}
use Rattle.std.specs.Option.{option_map}
use Rattle.std.specs.Ordering.{nat_cmp}
use Rattle.std.specs.declared.cmp.Ordering.TheVariants.{Less}
use Rattle.std.proofs.lemmas.Bool.{eqb-true}
use Rattle.std.proofs.lemmas.Cmp.{nat_cmp_total, tied_itself}
use Rattle.sorted_rows.specs.ListLaws.{all-both, all-weaker}
use Rattle.sorted_rows.specs.RowsLaws.{all-below, all_found, first, second}
use Rattle.lsr_facts.specs.declared.router.Router.{Router}
use Rattle.forwarding_table.specs.declared.action.Action.{Action}
use Rattle.abstract_router.specs.States.{State}
use Rattle.abstract_router.specs.Tables.{table_of}
use Rattle.label_table.specs.RowLaws.{length_table, look-entry}
use Rattle.label_table.specs.Rows.{IsTableOf}

-- the label is among the entries
abbrev has : List (ℕ × Action) → ℕ → Bool
has entries label = is_some (find_first (λ entry. entry.0 == label) entries)

-- the entries of other labels
abbrev others : ℕ → List (ℕ × Action) → List (ℕ × Action)
others label entries = filter (λ entry. not (entry.0 == label)) entries

-- without a label there is at least one entry less, where it is among them
others_fewer : (label : ℕ) (entries : List (ℕ × Action)) → length (others label entries) ≤ length entries
others_fewer label [] = omega arith
others_fewer label (entry ∷ entries) =
    let rest = others_fewer label entries in
    elim (entry.0 == label) as (λ b. length (cond (not b) (entry ∷ others label entries) (others label entries)) ≤ suc (length entries)) [ true ↦ omega arith | false ↦ omega arith ]

one_fewer : (label : ℕ) (entries : List (ℕ × Action)) → has entries label ≡ true → length (others label entries) + 1 ≤ length entries
one_fewer label [] = λ among. absurd (let e = among in cc)
one_fewer label (entry ∷ entries) =
    let fewer = others_fewer label entries in
    elim (entry.0 == label) as (λ b. is_some (cond b (Some entry) (find_first (λ e. e.0 == label) entries)) ≡ true → length (cond (not b) (entry ∷ others label entries) (others label entries)) + 1 ≤ suc (length entries)) [
      | true ↦ λ among. omega (arith, fewer)
      | false ↦ λ among. let rest = one_fewer label entries among in omega (arith, rest)
    ]

-- and another label is among them still
still_has : (gone label : ℕ) → (gone ≡ label → ⊥) → (entries : List (ℕ × Action)) → has entries label ≡ true → has (others gone entries) label ≡ true
still_has gone label apart [] = λ among. among
still_has gone label apart (entry ∷ entries) =
    let rest = still_has gone label apart entries in
    elim (entry.0 == gone) as (λ b. (entry.0 == gone) ≡ b → has (entry ∷ entries) label ≡ true → has (cond (not b) (entry ∷ others gone entries) (others gone entries)) label ≡ true) [
      | true ↦ λ same. elim (entry.0 == label) as (λ b. (entry.0 == label) ≡ b → is_some (cond b (Some entry) (find_first (λ e. e.0 == label) entries)) ≡ true → has (others gone entries) label ≡ true) [
        | true ↦ λ too. absurd (apart (sym (eqb-true entry.0 gone same) ∙ eqb-true entry.0 label too))
        | false ↦ λ not_too among. rest among
      ] refl
      | false ↦ λ other. elim (entry.0 == label) as (λ b. is_some (cond b (Some entry) (find_first (λ e. e.0 == label) entries)) ≡ true → is_some (cond b (Some entry) (find_first (λ e. e.0 == label) (others gone entries))) ≡ true) [
        | true ↦ λ among. refl
        | false ↦ λ among. rest among
      ]
    ] refl

-- a label isn't below itself
below_apart : (a b : ℕ) → nat_cmp a b ≡ Less → a ≡ b → ⊥
below_apart a b less same = absurd (let e = subst (λ n. nat_cmp a n ≡ Less) (sym same) less in let t = tied_itself nat_cmp_total a in cc)

-- Labels that are all among some entries, none of them twice, are no more than these.
length_among : (rows entries : List (ℕ × Action)) → T (is_sorted nat_cmp rows) → AllByRecursion (λ (row : ℕ × Action). has entries row.0 ≡ true) rows → length rows ≤ length entries
length_among [] entries h among = omega arith
length_among (row ∷ rows) entries h among =
    let later = all-both (λ (other : ℕ × Action). nat_cmp row.0 other.0 ≡ Less) (λ (other : ℕ × Action). has entries other.0 ≡ true) (λ (other : ℕ × Action). has (others row.0 entries) other.0 ≡ true) (λ other below is. still_has row.0 other.0 (below_apart row.0 other.0 below) entries is) rows (all-below nat_cmp row.0 rows (first _ _ h)) among.1 in
    omega (arith, one_fewer row.0 entries among.0, length_among rows (others row.0 entries) (second _ _ h) later)

some_entry : (o : Option (ℕ × Action)) (action : Action) → option_map (λ (entry : ℕ × Action). entry.1) o ≡ Some action → is_some o ≡ true
some_entry None action e = absurd (let h = e in cc)
some_entry (Some entry) action e = refl

-- The rows of a table are no more than the paths.
pub table_few : (r : Router) (s : State) (rows : List (ℕ × Action)) → T (is_sorted nat_cmp rows) → IsTableOf r s rows → length rows ≤ length s.facts.paths
table_few r s rows h is =
    let among = all-weaker (λ (row : ℕ × Action). find nat_cmp row.0 rows ≡ Some row.1) (λ (row : ℕ × Action). has (table_of r s) row.0 ≡ true) (λ row found. some_entry (find_first (λ entry. entry.0 == row.0) (table_of r s)) row.1 (sym (is row.0 ∙ look-entry r s row.0) ∙ found)) rows (all_found nat_cmp nat_cmp_total rows h) in
    omega (arith, length_among rows (table_of r s) h among, length_table r s)
