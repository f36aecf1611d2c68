-- The body of SESSION_ATTRIBUTE: what its bytes say, by offsets, and how it is written.
use Rattle.std.specs.Prelude.{◌≡◌, ◌≤◌, ◌+◌, ℕ, List, ◌∷◌, ◌++◌, length, drop, take, slice_index, [], Option, Some, None, IfSome}
use Rattle.std.specs.Option.{option_map_or}
use Rattle.rsvp_bodies.specs.declared.affinities.Affinities.{Affinities}
use Rattle.rsvp_bodies.specs.declared.attr.Attr.{Attr}
use Rattle.rsvp_bodies.specs.Names.{padding, IsName}
use Rattle.rsvp_bodies.specs.Affinities.{affinities_at, affinities_body, IsAffinities}

-- Setup priority, holding priority, flags, name length, name (RFC 3209, 4.7.1). The name may not be
-- longer than what is left; what stands behind it isn't read.
pub record HasName (body : List ℕ) : Type 0 where
  pub head : 4 ≤ length body
  pub name : 4 + slice_index body 3 ≤ length body

-- the attributes with these affinities, and with what the bytes say of the rest
abbrev pub attr_with : Option Affinities → List ℕ → Attr
attr_with affinities body =
    record {
      affinities = affinities;
      setup = slice_index body 0;
      hold = slice_index body 1;
      flags = slice_index body 2;
      name = take (slice_index body 3) (drop 4 body);
    }

-- LSP_TUNNEL, C-Type 7 (RFC 3209, 4.7.1)
abbrev pub SpellsAttr : List ℕ → Attr → Type 0
SpellsAttr body attr = HasName body × (attr ≡ attr_with None body)

-- LSP_TUNNEL_RA, C-Type 1: the affinities stand before the rest (RFC 3209, 4.7.2)
abbrev pub SpellsAttrRa : List ℕ → Attr → Type 0
SpellsAttrRa body attr =
    (12 ≤ length body) × HasName (drop 12 body) × (attr ≡ attr_with (Some (affinities_at body)) (drop 12 body))

-- What follows the affinities, as it is written: zeros fill the last word.
abbrev pub name_body : Attr → List ℕ
name_body a = a.setup ∷ a.hold ∷ a.flags ∷ length a.name ∷ (a.name ++ padding (length a.name))

-- the whole body: LSP_TUNNEL without affinities, LSP_TUNNEL_RA with them
abbrev pub attr_body : Attr → List ℕ
attr_body a = option_map_or affinities_body a.affinities [] ++ name_body a

-- 1 with affinities, 7 without (RFC 3209, 4.7)
abbrev pub attr_ctype : Attr → ℕ
attr_ctype a = option_map_or (λ _. 1) a.affinities 7

-- the numbers fit
pub record IsAttr (a : Attr) : Type 0 where
  pub affinities : IfSome a.affinities IsAffinities
  pub name : IsName a.name
