-- The LSPs whose frames may go another way because bypasses come to run over something else.
use Rattle.std.specs.Prelude.{◌≡◌, ◌⊎◌, false, List, [], ◌∷◌, None}
use Rattle.std.specs.FinMap.Entries.{find, put}
use Rattle.lsr_facts.specs.Orders.{key_cmp}
use Rattle.lsr_facts.specs.declared.key.Key.{Key}
use Rattle.lsr_facts.specs.declared.router.Router.{Router}
use Rattle.abstract_paths.specs.Touched.{is_among}
use Rattle.abstract_router.specs.BypassTunnels.{bypass_tunnels_of}
use Rattle.abstract_router.specs.States.{State}

-- the keys of these rows among others
abbrev pub with_keys : {E : Type 0} → List (Key × E) → List (Key × Unit {0}) → List (Key × Unit {0})
with_keys [] keys = keys
with_keys (row ∷ rows) keys = with_keys rows (put key_cmp row.0 tt keys)

-- Bypasses take no LSP's frames another way after: it isn't repaired before, or bypasses run over the same.
abbrev pub KeepsBypass : Router → State → State → Key → Type 0
KeepsBypass r before after key = (find key_cmp key before.repairs ≡ None) ⊎ (bypass_tunnels_of r before ≡ bypass_tunnels_of r after)

-- All of these keys are among others, and bypasses take the frames of no LSP that isn't among them another way.
pub record AreBypassed (r : Router) (before after : State) (keys all : List (Key × Unit {0})) : Type 0 where
  pub kept : (key : Key) → is_among key_cmp all key ≡ false → is_among key_cmp keys key ≡ false
  pub others : (key : Key) → is_among key_cmp all key ≡ false → KeepsBypass r before after key
