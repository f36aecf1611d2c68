-- The addresses of links that a document says are all different, in whatever order their rows stand.
use Rattle.std.proofs.Common.{◌≡◌, ℕ, Bool, true, false, List, [], ◌∷◌, ◌++◌, map, inl, inr, refl, subst, ◌∙◌}
use Rattle.std.proofs.lemmas.Cmp.{nat_list_eq_equiv}
use Rattle.std.proofs.lemmas.Map.Keys.{IsDistinct-head, IsDistinct-tail, IsDistinct-cons}
use Rattle.std.specs.Cmp.{IsEquivalence}
use Rattle.std.specs.FinMap.Entries.{put}
use Rattle.std.specs.List.{AllByRecursion, IsDistinct}
use Rattle.std.specs.Net.Addr.{ipv4_octets}
use Rattle.std.specs.declared.cmp.Ordering.{Ordering}
use Rattle.std.specs.declared.net.ipv4_addr.Ipv4Addr.{Ipv4Addr}
use Rattle.toml.specs.Data.{Data}
use Rattle.sorted_rows.specs.ListLaws.{all-map, all-from_map}
use Rattle.sorted_rows.specs.Rows.{values_of}
use Rattle.sorted_rows.specs.RowsLaws.{all-put_row, distinct-put}
use Rattle.lsr_facts.specs.Routers.{is_same}
use Rattle.lsr_facts.specs.declared.router.Link.{Link}
use Rattle.lsr_config.specs.Rules.{HasAddress, IsFree, SomeOf, Holds}
use Rattle.lsr_config.specs.Documents.{each_record, link_rules, in_order, SaysLink}
use Rattle.lsr_config.specs.Values.{SaysEach}
use Rattle.lsr_config.specs.declared.key.Key.TheVariants as key
use Rattle.lsr_config.proofs.Judging.{all_front, all_back, turn_first, turn_rest}
use Rattle.lsr_config.proofs.Placing.{placed}
use Rattle.lsr_config.proofs.Telling.{address_tells, some_not_none}

-- ---- values that are apart stay so in the order of the keys

module _ {K V : Type 0} (cmp : K → K → Ordering) (eq : V → V → Bool) (laws : IsEquivalence eq) where
  -- no value of the table is that of one of the rows
  abbrev AreNew : List (K × V) → List (K × V) → Type 0
  AreNew table rows = AllByRecursion (λ row. AllByRecursion (λ e. eq row.1 e.1 ≡ false) table) rows

  none_there : (rows : List (K × V)) → AreNew [] rows
  none_there [] = tt
  none_there (row ∷ rows) = (tt, none_there rows)

  still_new : (row : K × V) (table rows : List (K × V)) → AllByRecursion (λ r. eq row.1 r.1 ≡ false) rows → AreNew table rows → AreNew (put cmp row.0 row.1 table) rows
  still_new row table [] apart h = tt
  still_new row table (r ∷ rows) apart h =
      let far : eq r.1 row.1 ≡ false = laws.symm r.1 row.1 ∙ apart.0 in
      (all-put_row cmp (λ e. eq r.1 e.1 ≡ false) row.0 row.1 (λ x tie. far) far table h.0, still_new row table rows apart.1 h.1)

  distinct_placed : (table rows : List (K × V)) → AreNew table rows → IsDistinct eq (values_of rows) → IsDistinct eq (values_of table) → IsDistinct eq (values_of (placed cmp table rows))
  unfolding placed
  distinct_placed table [] new apart h = h
  distinct_placed table (row ∷ rows) new apart h =
      let later = all-from_map (λ y. eq row.1 y ≡ false) (λ r. r.1) rows (IsDistinct-head eq row.1 (values_of rows) apart) in
      distinct_placed (put cmp row.0 row.1 table) rows (still_new row table rows later new.1) (IsDistinct-tail eq row.1 (values_of rows) apart) (distinct-put cmp eq laws row.0 row.1 table new.0 h)

  distinct_in_order : (rows : List (K × V)) → IsDistinct eq (values_of rows) → IsDistinct eq (values_of (in_order cmp rows))
  unfolding in_order placed IsDistinct
  distinct_in_order rows apart = distinct_placed [] rows (none_there rows) apart tt

-- ---- links by their addresses

abbrev pub same_link : Link → Link → Bool
same_link a b = is_same a.address b.address

same_links : IsEquivalence same_link
same_links = record {
  refl = λ a. nat_list_eq_equiv.refl (ipv4_octets a.address);
  symm = λ a b. nat_list_eq_equiv.symm (ipv4_octets a.address) (ipv4_octets b.address);
  congr = λ a b c. nat_list_eq_equiv.congr (ipv4_octets a.address) (ipv4_octets b.address) (ipv4_octets c.address);
}

pub addresses_apart : (cmp : ℕ → ℕ → Ordering) (rows : List (ℕ × Link)) → IsDistinct same_link (values_of rows) → IsDistinct same_link (values_of (in_order cmp rows))
addresses_apart cmp = distinct_in_order cmp same_link same_links

pub distinct_addresses : (links : List (ℕ × Link)) → IsDistinct same_link (values_of links) → IsDistinct is_same (map (λ l. l.1.address) links)
unfolding IsDistinct
distinct_addresses [] h = tt
distinct_addresses (l ∷ links) h =
    let later = all-from_map (λ y. same_link l.1 y ≡ false) (λ r. r.1) links (IsDistinct-head same_link l.1 (values_of links) h) in
    IsDistinct-cons is_same l.1.address (map (λ r. r.1.address) links)
    (all-map (λ a. is_same l.1.address a ≡ false) (λ r. r.1.address) links later)
    (distinct_addresses links (IsDistinct-tail same_link l.1 (values_of links) h))

-- ---- the records of links have addresses of their own

pub not_same : (a b : Ipv4Addr) → ¬ (a ≡ b) → is_same a b ≡ false
not_same a b differ =
    elim (is_same a b) as (λ x. is_same a b ≡ x → x ≡ false) [
      | true ↦ λ t. absurd (differ ((address_tells a b).0 t))
      | false ↦ λ _. refl
    ] refl

some_front : {A : Type 0} (P : A → Type 0) (xs ys : List A) → SomeOf P xs → SomeOf P (xs ++ ys)
some_front P [] ys h = absurd h
some_front P (x ∷ xs) ys (inl h) = inl h
some_front P (x ∷ xs) ys (inr h) = inr (some_front P xs ys h)

some_back : {A : Type 0} (P : A → Type 0) (xs : List A) (y : A) → P y → SomeOf P (xs ++ y ∷ [])
some_back P [] y h = inl h
some_back P (x ∷ xs) y h = inr (some_back P xs y h)

-- what the rule of an address says, where it is kept
pub address_rule : (d : Data) (before : List Data) (link : Data) → AllByRecursion Holds (link_rules d before link)
    → (a : Ipv4Addr) → HasAddress key.Address link a → IsFree d before a
unfolding link_rules Holds
address_rule d before link h = (turn_first _ _ (turn_rest _ _ (turn_rest _ _ (turn_rest _ _ h)))).0

-- no later link has the address of an earlier one
later_apart : (d : Data) (a : Ipv4Addr) (before ds : List Data) (rows : List (ℕ × Link)) → SomeOf (λ other. HasAddress key.Address other a) before
    → AllByRecursion Holds (each_record (link_rules d) before ds) → SaysEach SaysLink ds rows → AllByRecursion (λ row. is_same a row.1.address ≡ false) rows
unfolding each_record
later_apart d a before [] [] some kept says = tt
later_apart d a before [] (row ∷ rows) some kept says = absurd says
later_apart d a before (x ∷ ds) [] some kept says = absurd says
later_apart d a before (x ∷ ds) (row ∷ rows) some kept says =
    let front = all_front Holds (link_rules d before x) (each_record (link_rules d) (before ++ x ∷ []) ds) kept in
    let back = all_back Holds (link_rules d before x) (each_record (link_rules d) (before ++ x ∷ []) ds) kept in
    let none = (address_rule d before x front row.1.address says.0.address).1 in
    let apart : ¬ (a ≡ row.1.address) =
    λ e. some_not_none (λ other. HasAddress key.Address other row.1.address) before (subst (λ b. SomeOf (λ other. HasAddress key.Address other b) before) e some) none in
    (not_same a row.1.address apart, later_apart d a (before ++ x ∷ []) ds rows (some_front (λ other. HasAddress key.Address other a) before (x ∷ []) some) back says.1)

pub rows_apart : (d : Data) (before ds : List Data) (rows : List (ℕ × Link)) → AllByRecursion Holds (each_record (link_rules d) before ds) → SaysEach SaysLink ds rows → IsDistinct same_link (values_of rows)
unfolding each_record IsDistinct
rows_apart d before [] [] kept says = tt
rows_apart d before [] (row ∷ rows) kept says = absurd says
rows_apart d before (x ∷ ds) [] kept says = absurd says
rows_apart d before (x ∷ ds) (row ∷ rows) kept says =
    let back = all_back Holds (link_rules d before x) (each_record (link_rules d) (before ++ x ∷ []) ds) kept in
    let later = later_apart d row.1.address (before ++ x ∷ []) ds rows (some_back (λ other. HasAddress key.Address other row.1.address) before x says.0.address) back says.1 in
    IsDistinct-cons same_link row.1 (values_of rows) (all-map (λ y. same_link row.1 y ≡ false) (λ r. r.1) rows later) (rows_apart d (before ++ x ∷ []) ds rows back says.1)
