-- Of the LSPs that a step doesn't touch the same is known before and after.
use Rattle.std.specs.Prelude.{◌≡◌, Bool, false}
use Rattle.lsr_facts.specs.declared.key.Key.{Key}
use Rattle.lsr_facts.specs.declared.router.Router.{Router}
use Rattle.abstract_router.specs.Lsps.{around_of, lsp_at}
use Rattle.abstract_router.specs.States.{State}

-- of each LSP that isn't touched the same is known, but for when it expires
abbrev pub LeavesOtherLsps : (Key → Bool) → State → State → Type 0
LeavesOtherLsps touched before after = (key : Key) → touched key ≡ false → lsp_at before key ≡ lsp_at after key

-- And all LSPs share the same before and after.
pub record IsSameElsewhere (r : Router) (touched : Key → Bool) (before after : State) : Type 0 where
  pub around : around_of r before ≡ around_of r after
  pub lsps : LeavesOtherLsps touched before after
