-- The choice of a bypass, in one pass over all.
use Rattle.std.specs.Prelude.{◌≡◌, not, Bool, true, false, cond, if◌then◌else◌, List, [], ◌∷◌, filter, filter_map, find, Option, Some, None}
use Rattle.std.specs.List.{cons_option}
use Rattle.std.specs.Option.{option_or}
use Rattle.std.proofs.Common.{refl, sym, ap, ◌∙◌}

-- the next candidate, if it is one: a preferred one is taken, and another is kept where none is before it
abbrev pub next : {C : Type 0} → (C → Bool) → Option C → Option C → (Option C → Option C) → Option C
next is_preferred None kept rest = rest kept
next is_preferred (Some choice) kept rest = if is_preferred choice then Some choice else rest (option_or kept (Some choice))

-- the first of these that is preferred; else the one that is kept, if there is one; else the first
abbrev pub best_of : {A C : Type 0} → (C → Bool) → (A → Option C) → List A → Option C → Option C
best_of is_preferred candidate_by [] kept = kept
best_of is_preferred candidate_by (x ∷ xs) kept = next is_preferred (candidate_by x) kept (best_of is_preferred candidate_by xs)

module _ {A C : Type 0} (is_preferred may_serve : C → Bool) (serves : A → Bool) (candidate_by : A → Option C) where
  -- the candidates of those alone that may serve
  abbrev pub serving : A → Option C
  serving x = if serves x then candidate_by x else None

  -- the first that may serve of the preferred ones; else the one that is kept, if there is one; else the first of the others
  abbrev first_of : Option C → List C → Option C
  first_of kept choices = option_or (find may_serve (filter is_preferred choices)) (option_or kept (find may_serve (filter (λ choice. not (is_preferred choice)) choices)))

  -- what is kept comes before what is found later
  keeps : (kept : Option C) (choice : C) (later : Option C) → option_or kept (Some choice) ≡ option_or (option_or kept (Some choice)) later
  keeps None choice later = refl
  keeps (Some first) choice later = refl

  keeps_first : (kept : Option C) (choice : C) (later : Option C) → option_or (option_or kept (Some choice)) later ≡ option_or kept (Some choice)
  keeps_first kept choice later = sym (keeps kept choice later)

  -- one candidate more, which may serve or not
  one_more : (choice : C) (choices : List C) (kept : Option C) (rest : Option C → Option C) → ((kept : Option C) → rest kept ≡ first_of kept choices)
      → next is_preferred (if may_serve choice then Some choice else None) kept rest ≡ first_of kept (choice ∷ choices)
  one_more choice choices kept rest so =
      by (may_serve choice)
      ∙ (elim (is_preferred choice) as (λ is. cond (may_serve choice) (cond is (Some choice) (rest (option_or kept (Some choice)))) (rest kept)
      ≡ option_or (find may_serve (cond is (choice ∷ preferred) preferred)) (option_or kept (find may_serve (cond (not is) (choice ∷ others) others)))) [
        | true ↦ ends true (may_serve choice)
        | false ↦ ends false (may_serve choice)
      ])
    where
      preferred : List C
      preferred = filter is_preferred choices

      others : List C
      others = filter (λ choice. not (is_preferred choice)) choices

      by : (may : Bool) → next is_preferred (if may then Some choice else None) kept rest ≡ cond may (cond (is_preferred choice) (Some choice) (rest (option_or kept (Some choice)))) (rest kept)
      by true = refl
      by false = refl

      -- the first of these with this one before them
      first : Bool → List C → Option C
      first may more = cond may (Some choice) (find may_serve more)

      ends : (is may : Bool) → cond may (cond is (Some choice) (rest (option_or kept (Some choice)))) (rest kept)
          ≡ option_or (cond is (first may preferred) (find may_serve preferred)) (option_or kept (cond (not is) (first may others) (find may_serve others)))
      ends true true = refl
      ends true false = so kept
      ends false true = so (option_or kept (Some choice)) ∙ ap (option_or (find may_serve preferred)) (keeps_first kept choice (find may_serve others))
      ends false false = so kept

  -- So it is the first that may serve, of the preferred ones and then the others.
  pub best : ((x : A) (choice : C) → candidate_by x ≡ Some choice → serves x ≡ may_serve choice) → (xs : List A) (kept : Option C)
      → best_of is_preferred serving xs kept ≡ first_of kept (filter_map candidate_by xs)
  best told [] None = refl
  best told [] (Some choice) = refl
  best told (x ∷ xs) kept = by (candidate_by x) refl (best told xs)
    where
      rest : Option C → Option C
      rest = best_of is_preferred serving xs

      by : (o : Option C) → candidate_by x ≡ o → ((kept : Option C) → rest kept ≡ first_of kept (filter_map candidate_by xs))
          → next is_preferred (if serves x then o else None) kept rest ≡ first_of kept (cons_option o (filter_map candidate_by xs))
      by None is so =
          elim (serves x) as (λ (b : Bool). next is_preferred (if b then None else None) kept rest ≡ first_of kept (filter_map candidate_by xs)) [
            | true ↦ so kept
            | false ↦ so kept
          ]
      by (Some choice) is so =
          ap (λ (b : Bool). next is_preferred (if b then Some choice else None) kept rest) (told x choice is)
          ∙ one_more choice (filter_map candidate_by xs) kept rest so
