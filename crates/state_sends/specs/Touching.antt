-- The LSPs that a step touches.
use Rattle.std.specs.Prelude.{◌≡◌, ◌⊎◌, Bool, false, List, Option, Some, None}
use Rattle.std.specs.FinMap.Entries.{find}
use Rattle.std.specs.List.{list_any}
use Rattle.std.specs.Option.{option_map}
use Rattle.std.specs.Ordering.{eq_by_cmp}
use Rattle.lsr_facts.specs.Orders.{key_cmp}
use Rattle.lsr_facts.specs.declared.key.Key.{Key}
use Rattle.lsr_facts.specs.declared.router.Router.{Router}
use Rattle.abstract_paths.specs.Touched.{is_among}
use Rattle.abstract_router.specs.Lsps.{Lsp, around_of, lsp_at}
use Rattle.abstract_router.specs.States.{State}
use Rattle.state_views.specs.Edits.{edited}
use Rattle.state_views.specs.declared.edits.Edits.{Edits}

-- one of these items is the LSP's
abbrev pub is_lsp_of : {I : Type 0} → (I → Key) → List I → Key → Bool
is_lsp_of of items key = list_any (λ item. eq_by_cmp key_cmp key (of item)) items

-- every LSP that is known is among these
abbrev pub AreAllLsps : State → List (Key × Unit {0}) → Type 0
AreAllLsps s lsps = (key : Key) → is_among key_cmp lsps key ≡ false → find key_cmp key s.facts.paths ≡ None

-- all LSPs that are known before or after edits, where these may change what LSPs share; none are told where they don't
abbrev pub AreAllSharing : Router → State → Edits → Option (List (Key × Unit {0})) → Type 0
AreAllSharing r before e None = around_of r before ≡ around_of r (edited e before)
AreAllSharing r before e (Some lsps) = AreAllLsps before lsps × AreAllLsps (edited e before) lsps

-- what Paths say of an LSP: nothing of its label, of its reservation, nor of what it is promised of a bypass
abbrev pub said_by_paths : Lsp → Lsp
said_by_paths lsp = record lsp { label = None; resv = None; assignment = None }

-- what Resvs say of it: they may say all
abbrev pub said_by_resvs : Lsp → Lsp
said_by_resvs lsp = lsp

-- what messages of a kind say of an LSP is the same before and after
abbrev pub IsSaidAgain : (Lsp → Lsp) → State → State → Key → Type 0
IsSaidAgain said before after key = option_map said (lsp_at before key) ≡ option_map said (lsp_at after key)

-- and so it is of each LSP that isn't touched
abbrev pub LeavesOthersSaid : (Lsp → Lsp) → (Key → Bool) → State → State → Type 0
LeavesOthersSaid said touched before after = (key : Key) → touched key ≡ false → IsSaidAgain said before after key

-- What a step touches is among these LSPs: of any other the same is said before and after; and where all LSPs may not
-- share the same before and after, there is no other.
pub record AreAllTouched (r : Router) (said : Lsp → Lsp) (before : State) (e : Edits) (lsps : List (Key × Unit {0})) : Type 0 where
  pub same : LeavesOthersSaid said (is_among key_cmp lsps) before (edited e before)
  pub around : (around_of r before ≡ around_of r (edited e before)) ⊎ AreAllLsps before lsps

-- A step touches no LSP: the same is said of each before and after, and all share the same.
pub record IsSaidOfAll (r : Router) (said : Lsp → Lsp) (before : State) (e : Edits) : Type 0 where
  pub lsps : (key : Key) → IsSaidAgain said before (edited e before) key
  pub around : around_of r before ≡ around_of r (edited e before)
