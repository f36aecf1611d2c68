-- A written SESSION_ATTRIBUTE is read again as the same attributes.
use Rattle.std.proofs.Common.{◌≡◌, ◌+◌, ◌-◌, ◌%◌, ℕ, List, [], ◌++◌, length, take, Option, Some, None, sym, ap, ◌∙◌, arith, length-append}
use Rattle.std.proofs.lemmas.List.{length-replicate}
use Rattle.std.specs.Option.{option_map_or}
use Rattle.std.proofs.Math.Seq.{take-append_seam}
use Rattle.byteorder.specs.Endian.{big_bytes}
use Rattle.byteorder.specs.Numbers.{big_number-reads_back}
use Rattle.rsvp_bodies.specs.declared.affinities.Affinities.{Affinities}
use Rattle.rsvp_bodies.specs.declared.attr.Attr.{Attr}
use Rattle.rsvp_bodies.specs.Names.{padding}
use Rattle.rsvp_bodies.specs.Affinities.{affinities_at, affinities_body, IsAffinities}
use Rattle.rsvp_bodies.specs.Attributes.{HasName, attr_with, attr_body, name_body, SpellsAttrRa}

-- how long what stands behind the affinities is
pub length-name_body : (attr : Attr) → length (name_body attr) ≡ 4 + length attr.name + (4 - length attr.name % 4) % 4
length-name_body attr =
    omega (arith, length-append attr.name (padding (length attr.name)), length-replicate {A = ℕ} ((4 - length attr.name % 4) % 4) 0)

-- how long the body is: the affinities, where it has them, and what stands behind
length_with : (affinities : Option Affinities) (attr : Attr) → length (option_map_or affinities_body affinities [] ++ name_body attr) ≡ option_map_or (λ _. 12) affinities 0 + (4 + length attr.name + (4 - length attr.name % 4) % 4)
length_with None attr = omega (arith, length-name_body attr)
length_with (Some affinities) attr = omega (arith, length-name_body attr)

pub length_attr_body : (attr : Attr) → length (attr_body attr) ≡ option_map_or (λ _. 12) attr.affinities 0 + (4 + length attr.name + (4 - length attr.name % 4) % 4)
length_attr_body attr = length_with attr.affinities attr

pub HasName-name_body : (attr : Attr) → HasName (name_body attr)
HasName-name_body attr = record { head = omega (arith, length-name_body attr); name = omega (arith, length-name_body attr) }

-- attributes without affinities
pub attr_again : (setup hold flags : ℕ) (name : List ℕ) →
    let attr : Attr = record { affinities = None; setup = setup; hold = hold; flags = flags; name = name } in attr ≡ attr_with None (name_body attr)
attr_again setup hold flags name =
    ap (λ (n : List ℕ). record { affinities = None; setup = setup; hold = hold; flags = flags; name = n }) (sym (take-append_seam name (padding (length name))))

-- a function of three numbers at equal numbers
three_words : {X : Type 0} (f : ℕ → ℕ → ℕ → X) {a a' b b' c c' : ℕ} → a ≡ a' → b ≡ b' → c ≡ c' → f a b c ≡ f a' b' c'
three_words f p q r = cc

-- the affinities, whatever stands behind them
affinities_again : (a : Affinities) (rest : List ℕ) → IsAffinities a → affinities_at (affinities_body a ++ rest) ≡ a
affinities_again a rest h =
    let exclude = big_number-reads_back 4 a.exclude_any (big_bytes 4 a.include_any ++ (big_bytes 4 a.include_all ++ rest)) h.exclude_any in
    let include = big_number-reads_back 4 a.include_any (big_bytes 4 a.include_all ++ rest) h.include_any in
    let all = big_number-reads_back 4 a.include_all rest h.include_all in
    three_words (λ e i n. record { exclude_any = e; include_any = i; include_all = n }) exclude include all

-- attributes with affinities
pub attr_ra_again : (affinities : Affinities) (setup hold flags : ℕ) (name : List ℕ) → IsAffinities affinities →
    let attr : Attr = record { affinities = Some affinities; setup = setup; hold = hold; flags = flags; name = name } in
    SpellsAttrRa (affinities_body affinities ++ name_body attr) attr
attr_ra_again affinities setup hold flags name h =
    let attr : Attr = record { affinities = Some affinities; setup = setup; hold = hold; flags = flags; name = name } in
    let named = HasName-name_body (record { affinities = Some affinities; setup = setup; hold = hold; flags = flags; name = name }) in (
      omega arith,
      named,
      ap (λ (n : List ℕ). record { affinities = Some affinities; setup = setup; hold = hold; flags = flags; name = n }) (sym (take-append_seam name (padding (length name))))
          ∙ ap (λ (a : Affinities). record { affinities = Some a; setup = setup; hold = hold; flags = flags; name = take (length name) (name ++ padding (length name)) })
          (sym (affinities_again affinities (name_body (record { affinities = Some affinities; setup = setup; hold = hold; flags = flags; name = name })) h)),
    )
