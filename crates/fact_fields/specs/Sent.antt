-- When messages that are kept alive were sent last.
use Rattle.std.specs.Prelude.{◌≡◌, ◌++◌, ◌∷◌, ◌&&◌, [], ℕ, Bool, List, map, T, Result, Ok, Err, refl}
use Rattle.std.specs.FinMap.Entries.{is_sorted}
use Rattle.std.proofs.Common.{ap, sym, ◌∙◌}
use Rattle.byteorder.specs.Endian.{big_bytes}
use Rattle.field_bytes.specs.Making.{IsToldApart, told_by}
use Rattle.field_bytes.specs.Spelling.{list_bytes}
use Rattle.field_bytes.specs.declared.cases.OneOf.{OneOf}
use Rattle.field_bytes.specs.declared.cases.OneOf.TheVariants.{This, Other}
use Rattle.field_bytes.specs.declared.fault.ReadFault.{ReadFault}
use Rattle.field_bytes.specs.declared.fault.ReadFault.TheVariants as faults
use Rattle.lsr_facts.specs.Orders.{item_cmp}
use Rattle.lsr_facts.specs.Upstreams.{upstream_cmp}
use Rattle.lsr_facts.specs.declared.key.Item.{Item}
use Rattle.lsr_facts.specs.declared.key.Item.TheVariants as items
use Rattle.lsr_facts.specs.declared.key.Key.{Key}
use Rattle.lsr_facts.specs.declared.upstream.Upstream.{Upstream}
use Rattle.fact_fields.specs.Keys.{key_bytes, upstream_bytes}
use Rattle.fact_fields.specs.declared.sent.Refreshed.{Refreshed}
use Rattle.fact_fields.specs.declared.sent.Refreshed.TheVariants as kept
use Rattle.fact_fields.specs.declared.sent.Sent.{Sent}

-- What is kept alive at a neighbour: 1, an LSP and a link; 2, an LSP and a bypass; or 3 and a Resv.
abbrev pub item_bytes : Item → List ℕ
item_bytes (items.Down key link) = 1 ∷ (key_bytes key ++ big_bytes 2 link)
item_bytes (items.Backup key bypass) = 2 ∷ (key_bytes key ++ big_bytes 2 bypass)

abbrev pub refreshed_bytes : Refreshed → List ℕ
refreshed_bytes (kept.Path item) = item_bytes item
refreshed_bytes (kept.Resv upstream) = 3 ∷ upstream_bytes upstream

abbrev pub RefreshedOf : Type 0
RefreshedOf = OneOf (Key × ℕ) (OneOf (Key × ℕ) Upstream)

abbrev pub item_parts : Item → RefreshedOf
item_parts (items.Down key link) = This (key, link)
item_parts (items.Backup key bypass) = Other (This (key, bypass))

abbrev pub refreshed_parts : Refreshed → RefreshedOf
refreshed_parts (kept.Path item) = item_parts item
refreshed_parts (kept.Resv upstream) = Other (Other upstream)

-- what is kept alive by these
abbrev pub refreshed_of : RefreshedOf → Refreshed
refreshed_of (This parts) = kept.Path (items.Down parts.0 parts.1)
refreshed_of (Other (This parts)) = kept.Path (items.Backup parts.0 parts.1)
refreshed_of (Other (Other upstream)) = kept.Resv upstream

refreshed_again : (r : Refreshed) → refreshed_of (refreshed_parts r) ≡ r
refreshed_again (kept.Path (items.Down key link)) = refl
refreshed_again (kept.Path (items.Backup key bypass)) = refl
refreshed_again (kept.Resv upstream) = refl

pub refreshed_told : IsToldApart (λ (r : Refreshed). Unit {0}) refreshed_parts
refreshed_told = told_by (λ (r : Refreshed). Unit {0}) refreshed_parts refreshed_of refreshed_again

-- ---- Paths before Resvs

-- a row of a Path, and one of a Resv
abbrev pub path_row : Item × ℕ → Refreshed × ℕ
path_row row = (kept.Path row.0, row.1)

abbrev pub resv_row : Upstream × ℕ → Refreshed × ℕ
resv_row row = (kept.Resv row.0, row.1)

-- the rows of Paths, and after them those of Resvs
abbrev pub joined : List (Item × ℕ) → List (Upstream × ℕ) → List (Refreshed × ℕ)
joined paths resvs = map path_row paths ++ map resv_row resvs

-- what was sent of these
abbrev pub sent_by : List (Item × ℕ) → List (Upstream × ℕ) → Sent
sent_by paths resvs = record { paths = paths; resvs = resvs }

abbrev pub sent_rows : Sent → List (Refreshed × ℕ)
sent_rows s = joined s.paths s.resvs

-- what is kept alive, and when it was sent last, in milliseconds
abbrev pub sent_row_bytes : Refreshed × ℕ → List ℕ
sent_row_bytes row = refreshed_bytes row.0 ++ big_bytes 8 row.1

-- how many rows there are, in 4 bytes, and the rows: first those of Paths
abbrev pub sent_bytes : Sent → List ℕ
sent_bytes s = list_bytes sent_row_bytes (sent_rows s)

-- whether both rise
abbrev pub are_rising : List (Item × ℕ) → List (Upstream × ℕ) → Bool
are_rising paths resvs = is_sorted item_cmp paths && is_sorted upstream_cmp resvs

-- both rise
pub record IsSent (s : Sent) : Type 0 where
  pub paths : T (is_sorted item_cmp s.paths)
  pub resvs : T (is_sorted upstream_cmp s.resvs)

-- The rows of Paths and those of Resvs; or Format exactly where a Path comes after a Resv.
abbrev pub IsSplit : List (Refreshed × ℕ) → Result (List (Item × ℕ) × List (Upstream × ℕ)) ReadFault → Type 0
IsSplit rows (Ok parts) = joined parts.0 parts.1 ≡ rows
IsSplit rows (Err faults.Format) = (paths : List (Item × ℕ)) (resvs : List (Upstream × ℕ)) → joined paths resvs ≡ rows → ⊥
IsSplit rows (Err faults.Memory) = Unit {0}

-- The row can't follow these, whatever follows it: it is one of a Path, and Resvs are there.
abbrev pub NeverFollows : ReadFault → List (Item × ℕ) → List (Upstream × ℕ) → Refreshed × ℕ → Type 0
NeverFollows faults.Format paths resvs row = (others : List (Item × ℕ)) (more : List (Upstream × ℕ)) (rest : List (Refreshed × ℕ)) → joined others more ≡ joined paths resvs ++ row ∷ rest → ⊥
NeverFollows faults.Memory paths resvs row = Unit {0}

-- the rows of Paths among rows, and those of Resvs
abbrev pub paths_in : List (Refreshed × ℕ) → List (Item × ℕ)
paths_in [] = []
paths_in ((kept.Path item, moment) ∷ rows) = (item, moment) ∷ paths_in rows
paths_in ((kept.Resv upstream, moment) ∷ rows) = paths_in rows

abbrev pub resvs_in : List (Refreshed × ℕ) → List (Upstream × ℕ)
resvs_in [] = []
resvs_in ((kept.Path item, moment) ∷ rows) = resvs_in rows
resvs_in ((kept.Resv upstream, moment) ∷ rows) = (upstream, moment) ∷ resvs_in rows

paths_of_resvs : (resvs : List (Upstream × ℕ)) → paths_in (map resv_row resvs) ≡ []
paths_of_resvs [] = refl
paths_of_resvs (r ∷ rs) = paths_of_resvs rs

resvs_of_resvs : (resvs : List (Upstream × ℕ)) → resvs_in (map resv_row resvs) ≡ resvs
resvs_of_resvs [] = refl
resvs_of_resvs (r ∷ rs) = ap (λ (v : List (Upstream × ℕ)). r ∷ v) (resvs_of_resvs rs)

pub paths_again : (paths : List (Item × ℕ)) (resvs : List (Upstream × ℕ)) → paths_in (joined paths resvs) ≡ paths
paths_again [] resvs = paths_of_resvs resvs
paths_again (p ∷ ps) resvs = ap (λ (v : List (Item × ℕ)). p ∷ v) (paths_again ps resvs)

pub resvs_again : (paths : List (Item × ℕ)) (resvs : List (Upstream × ℕ)) → resvs_in (joined paths resvs) ≡ resvs
resvs_again [] resvs = resvs_of_resvs resvs
resvs_again (p ∷ ps) resvs = resvs_again ps resvs

pub sent_told : IsToldApart IsSent sent_rows
sent_told x y _ _ e i = record {
  paths = (sym (paths_again x.paths x.resvs) ∙ (ap paths_in e ∙ paths_again y.paths y.resvs)) i;
  resvs = (sym (resvs_again x.paths x.resvs) ∙ (ap resvs_in e ∙ resvs_again y.paths y.resvs)) i;
}
