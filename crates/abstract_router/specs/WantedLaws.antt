-- Laws of what is wanted downstream: it stands in the order of items, and that of some LSPs comes of these alone.
use Rattle.std.specs.Prelude.{◌≡◌, ◌&&◌, ◌++◌, ℕ, Bool, true, false, cond, not, T, List, [], ◌∷◌, filter_map, is_none, Option, Some, None, IfSome}
use Rattle.std.specs.FinMap.Entries.{below_all, is_sorted, where_key}
use Rattle.std.specs.List.{cons_option}
use Rattle.std.specs.Option.{option_and_then, option_map}
use Rattle.std.specs.Ordering.{is_lt, nat_cmp, ordering_then}
use Rattle.std.specs.declared.cmp.Ordering.{Ordering}
use Rattle.std.specs.declared.cmp.Ordering.TheVariants.{Less, Equal, Greater}
use Rattle.std.proofs.Common.{refl, sym, ap, subst, ◌∙◌}
use Rattle.std.proofs.lemmas.List.Elements.{filter-append}
use Rattle.sorted_rows.specs.RowsLaws.{is_sorted-append}
use Rattle.rsvp_contents.specs.declared.messages.Content.TheVariants as contents
use Rattle.lsr_facts.specs.Orders.{item_cmp, key_cmp, key_of_item}
use Rattle.lsr_facts.specs.Routers.{link_at}
use Rattle.lsr_facts.specs.declared.key.Item.{Item}
use Rattle.lsr_facts.specs.declared.key.Item.TheVariants.{Backup, Down}
use Rattle.lsr_facts.specs.declared.key.Key.{Key}
use Rattle.lsr_facts.specs.declared.router.Router.{Router}
use Rattle.lsr_facts.specs.declared.repair.Repair.{Repair}
use Rattle.abstract_paths.specs.declared.events.Output.{Output}
use Rattle.abstract_paths.specs.Onward.{path_onward}
use Rattle.abstract_paths.specs.Outcomes.{sent_by}
use Rattle.abstract_paths.specs.Paths.{goes_on}
use Rattle.abstract_paths.specs.Places.{is_up}
use Rattle.abstract_paths.specs.RowLaws.{both, filter-filter_map, first, second}
use Rattle.abstract_paths.specs.Touched.{is_among}
use Rattle.abstract_router.specs.LspLaws.{is_sorted-lsps, lsps-among, lsps-elsewhere}
use Rattle.abstract_router.specs.Lsps.{Around, Lsp, around_of, lsp_at, lsps_of}
use Rattle.abstract_router.specs.States.{State}
use Rattle.abstract_router.specs.Through.{backup_of}
use Rattle.abstract_router.specs.Touched.{IsSameElsewhere}
use Rattle.abstract_router.specs.UpstreamLaws.{all-filter_map}
use Rattle.abstract_router.specs.Wanted.{backup_at, backup_row, downstream_at, downstream_row, item_rows, items_at, items_of}

-- a row of one item, if any
row_of : {A B C : Type 0} (P : A × C → Type 0) (item : A) (f : B → C) → ((x : B) → P (item, f x)) → (b : Bool) (l : Option B) → IfSome (cond b (option_map (λ x. (item, f x)) l) None) P
row_of P item f holds true None = tt
row_of P item f holds true (Some x) = holds x
row_of P item f holds false l = tt

-- what f gives of the rows that look-ups find
found_then : {K E X Y : Type 0} (f : K × X → Option Y) (look : K → Option X) (es : List (K × E)) → filter_map f (filter_map (λ e. option_map (λ x. (e.0, x)) (look e.0)) es) ≡ filter_map (λ e. option_and_then (λ x. f (e.0, x)) (look e.0)) es
found_then f look [] = refl
found_then {K} {E} {X} {Y} f look (e ∷ es) = one (look e.0) (filter_map (λ row. option_map (λ x. (row.0, x)) (look row.0)) es) ∙ ap (cons_option (option_and_then (λ x. f (e.0, x)) (look e.0))) (found_then f look es)
  where
    one : (o : Option X) (rest : List (K × X)) → filter_map f (cons_option (option_map (λ x. (e.0, x)) o) rest) ≡ cons_option (option_and_then (λ x. f (e.0, x)) o) (filter_map f rest)
    one None rest = refl
    one (Some x) rest = refl

-- an item of a kind, of this LSP
abbrev IsDownOf : Key → Item → Type 0
IsDownOf key item = (link : ℕ) × (item ≡ Down key link)

abbrev IsBackupOf : Key → Item → Type 0
IsBackupOf key item = (bypass : ℕ) × (item ≡ Backup key bypass)

-- a key below another: its items are below those of the other, of each kind
below_then : (o p : Ordering) → T (is_lt o) → T (is_lt (ordering_then o p))
below_then Less p h = tt
below_then Equal p h = absurd h
below_then Greater p h = absurd h

down_below : (key k : Key) (item other : Item) → IsDownOf key item → IsDownOf k other → T (is_lt (key_cmp key k)) → T (is_lt (item_cmp item other))
down_below key k item other (link, is) (out, are) low =
    subst (λ x. T (is_lt (item_cmp x other))) (sym is) (subst (λ x. T (is_lt (item_cmp (Down key link) x))) (sym are) (below_then (key_cmp key k) (nat_cmp link out) low))

backup_below : (key k : Key) (item other : Item) → IsBackupOf key item → IsBackupOf k other → T (is_lt (key_cmp key k)) → T (is_lt (item_cmp item other))
backup_below key k item other (bypass, is) (by, are) low =
    subst (λ x. T (is_lt (item_cmp x other))) (sym is) (subst (λ x. T (is_lt (item_cmp (Backup key bypass) x))) (sym are) (below_then (key_cmp key k) (nat_cmp bypass by) low))

-- Rows of one kind: each LSP has one at most, of its own, and they are in the order of their LSPs.
module _ (IsOf : Key → Item → Type 0) (less : (key k : Key) (item other : Item) → IsOf key item → IsOf k other → T (is_lt (key_cmp key k)) → T (is_lt (item_cmp item other)))
    (f : Key × Lsp → Option (Item × Output)) (own : (lsp : Key × Lsp) → IfSome (f lsp) (λ w. IsOf lsp.0 w.0)) where
  -- a row below others goes in front of them, if there is one
  below_row : (item : Item) (o : Option (Item × Output)) (rows : List (Item × Output)) → IfSome o (λ w. T (is_lt (item_cmp item w.0))) → T (below_all item_cmp item rows) → T (below_all item_cmp item (cons_option o rows))
  below_row item None rows p h = h
  below_row item (Some w) rows p h = both _ _ p h

  sorted_row : (o : Option (Item × Output)) (rows : List (Item × Output)) → IfSome o (λ w. T (below_all item_cmp w.0 rows)) → T (is_sorted item_cmp rows) → T (is_sorted item_cmp (cons_option o rows))
  sorted_row None rows p h = h
  sorted_row (Some w) rows p h = both _ _ p h

  -- what holds of each item of an LSP holds of its row
  of_row : (P : Item × Output → Type 0) (key : Key) (o : Option (Item × Output)) → IfSome o (λ w. IsOf key w.0) → ((w : Item × Output) → IsOf key w.0 → P w) → IfSome o P
  of_row P key None is holds = tt
  of_row P key (Some w) is holds = holds w is

  -- an item of a key below the keys of LSPs is below those that the LSPs want
  below-kind : (key : Key) (item : Item) → IsOf key item → (lsps : List (Key × Lsp)) → T (below_all key_cmp key lsps) → T (below_all item_cmp item (filter_map f lsps))
  below-kind key item is [] h = tt
  below-kind key item is (e ∷ es) h =
      below_row item (f e) (filter_map f es)
      (of_row (λ w. T (is_lt (item_cmp item w.0))) e.0 (f e) (own e) (λ w at. less key e.0 item w.0 is at (first _ _ h)))
      (below-kind key item is es (second _ _ h))

  is_sorted-kind : (lsps : List (Key × Lsp)) → T (is_sorted key_cmp lsps) → T (is_sorted item_cmp (filter_map f lsps))
  is_sorted-kind [] h = tt
  is_sorted-kind (e ∷ es) h =
      sorted_row (f e) (filter_map f es)
      (of_row (λ w. T (below_all item_cmp w.0 (filter_map f es))) e.0 (f e) (own e) (λ w at. below-kind e.0 w.0 at es (first _ _ h)))
      (is_sorted-kind es (second _ _ h))

module _ (a : Around) where
  -- what an LSP wants at its next hop is for its own link and key
  downstream-own : (P : Item × Output → Type 0) (lsp : Key × Lsp) → ((o : Output) → P (Down lsp.0 lsp.1.path.out_link, o)) → IfSome (downstream_row a lsp) P
  downstream-own P lsp holds =
      row_of P (Down lsp.0 lsp.1.path.out_link) (λ link. sent_by lsp.1.path.out_link (contents.Path (path_onward a.place.router lsp.0 lsp.1.path link))) (λ link. holds _)
      (goes_on lsp.1.path.role && is_none lsp.1.repair && is_up a.place.up lsp.1.path.out_link) (link_at a.place.router lsp.1.path.out_link)

  -- and what it wants through a bypass for its own key
  backup-own : (P : Item × Output → Type 0) (lsp : Key × Lsp) → ((bypass : ℕ) (o : Output) → P (Backup lsp.0 bypass, o)) → IfSome (backup_row a lsp) P
  backup-own P lsp holds = by lsp.1.repair
    where
      sent : (bypass : ℕ) (o : Option Output) → IfSome (option_map (λ output. (Backup lsp.0 bypass, output)) o) P
      sent bypass None = tt
      sent bypass (Some output) = holds bypass output

      by : (o : Option Repair) → IfSome (option_and_then (λ repair. option_map (λ output. (Backup lsp.0 repair.bypass, output)) (backup_of a lsp.0 lsp.1.path repair)) o) P
      by None = tt
      by (Some repair) = sent repair.bypass (backup_of a lsp.0 lsp.1.path repair)

  down_own : (lsp : Key × Lsp) → IfSome (downstream_row a lsp) (λ w. IsDownOf lsp.0 w.0)
  down_own lsp = downstream-own (λ w. IsDownOf lsp.0 w.0) lsp (λ o. (lsp.1.path.out_link, refl))

  backup_own : (lsp : Key × Lsp) → IfSome (backup_row a lsp) (λ w. IsBackupOf lsp.0 w.0)
  backup_own lsp = backup-own (λ w. IsBackupOf lsp.0 w.0) lsp (λ bypass o. (bypass, refl))

  -- every item at a next hop is below those through bypasses
  below-backups : (key : Key) (link : ℕ) (lsps : List (Key × Lsp)) → T (below_all item_cmp (Down key link) (filter_map (backup_row a) lsps))
  below-backups key link [] = tt
  below-backups key link (e ∷ es) =
      below_row IsBackupOf backup_below (backup_row a) backup_own (Down key link) (backup_row a e) (filter_map (backup_row a) es)
      (backup-own (λ w. T (is_lt (item_cmp (Down key link) w.0))) e (λ bypass o. tt)) (below-backups key link es)

  is_sorted-item_rows : (lsps : List (Key × Lsp)) → T (is_sorted key_cmp lsps) → T (is_sorted item_cmp (item_rows a lsps))
  is_sorted-item_rows lsps h =
      is_sorted-append item_cmp (filter_map (downstream_row a) lsps) (filter_map (backup_row a) lsps)
      (is_sorted-kind IsDownOf down_below (downstream_row a) down_own lsps h) (is_sorted-kind IsBackupOf backup_below (backup_row a) backup_own lsps h)
      (all-filter_map (λ w. T (below_all item_cmp w.0 (filter_map (backup_row a) lsps))) (downstream_row a)
      (λ lsp. downstream-own (λ w. T (below_all item_cmp w.0 (filter_map (backup_row a) lsps))) lsp (λ o. below-backups lsp.0 lsp.1.path.out_link lsps)) lsps)

  -- what some LSPs want comes of these
  item_rows-at_keys : (touched : Key → Bool) (lsps : List (Key × Lsp)) → where_key item_cmp (λ item. touched (key_of_item item)) (item_rows a lsps) ≡ item_rows a (where_key key_cmp touched lsps)
  item_rows-at_keys touched lsps =
      filter-append (λ (w : Item × Output). touched (key_of_item w.0)) (filter_map (downstream_row a) lsps) (filter_map (backup_row a) lsps)
      ∙ (λ i. filter-filter_map (downstream_row a) (λ lsp. touched lsp.0) (λ w. touched (key_of_item w.0))
      (λ lsp. downstream-own (λ w. touched (key_of_item w.0) ≡ touched lsp.0) lsp (λ o. refl)) lsps i
      ++ filter-filter_map (backup_row a) (λ lsp. touched lsp.0) (λ w. touched (key_of_item w.0))
      (λ lsp. backup-own (λ w. touched (key_of_item w.0) ≡ touched lsp.0) lsp (λ bypass o. refl)) lsps i)

-- What is wanted stands in the order of items.
pub is_sorted-items : (r : Router) (s : State) → T (is_sorted key_cmp s.facts.paths) → T (is_sorted item_cmp (items_of r s))
unfolding items_of
is_sorted-items r s h = is_sorted-item_rows (around_of r s) (lsps_of s) (is_sorted-lsps s h)

-- What is wanted of some LSPs comes of these.
pub items-at_keys : (r : Router) (touched : Key → Bool) (s : State) → where_key item_cmp (λ item. touched (key_of_item item)) (items_of r s) ≡ items_at r s touched
unfolding items_of items_at
items-at_keys r touched s = item_rows-at_keys (around_of r s) touched (lsps_of s)

-- Where all LSPs share the same before and after, what is wanted of those that aren't touched is the same.
pub items-elsewhere : (r : Router) (touched : Key → Bool) (before after : State) → T (is_sorted key_cmp before.facts.paths) → T (is_sorted key_cmp after.facts.paths) → IsSameElsewhere r touched before after
    → where_key item_cmp (λ item. not (touched (key_of_item item))) (items_of r before) ≡ where_key item_cmp (λ item. not (touched (key_of_item item))) (items_of r after)
unfolding items_at
items-elsewhere r touched before after g h same =
    items-at_keys r (λ key. not (touched key)) before
    ∙ (λ i. item_rows (same.around i) (lsps-elsewhere r touched before after g h same i))
    ∙ sym (items-at_keys r (λ key. not (touched key)) after)

-- What is wanted of the LSPs of rows in order is what each of them wants.
pub items-among : {E : Type 0} (r : Router) (s : State) (es : List (Key × E)) → T (is_sorted key_cmp es) → T (is_sorted key_cmp s.facts.paths)
    → filter_map (λ e. downstream_at r s e.0) es ++ filter_map (λ e. backup_at r s e.0) es ≡ items_at r s (is_among key_cmp es)
unfolding items_at
items-among r s es g h =
    sym (ap (item_rows (around_of r s)) (lsps-among s es g h)
    ∙ (λ i. found_then (downstream_row (around_of r s)) (lsp_at s) es i ++ found_then (backup_row (around_of r s)) (lsp_at s) es i))
