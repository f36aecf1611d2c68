-- What is asked one element more.
use Rattle.std.specs.Prelude.{◌≡◌, ◌+◌, ◌<◌, ◌++◌, ℕ, List, Option, length, take, filter_map}
use Rattle.std.specs.Option.{option_to_list}
use Rattle.std.specs.declared.cmp.Ordering.{Ordering}
use Rattle.std.proofs.Common.{append_assoc, get_or, refl, sym, ap, ◌∙◌}
use Rattle.std.proofs.lemmas.List.Sums.{fold-append}
use Rattle.std.specs.FinMap.Entries.{put}
use Rattle.abstract_paths.specs.RowLaws.{one_more}
use Rattle.state_sends.specs.Placing.{placed}

module _ {X Y : Type 0} (f : X → Option Y) (xs : List X) (i : ℕ) (x : X) (within : i < length xs) (is : x ≡ get_or xs i x) where
  -- what f gives of one element more
  more : filter_map f (take i xs) ++ option_to_list (f x) ≡ filter_map f (take (i + 1) xs)
  more = one_more f (filter_map f (take i xs)) (filter_map f (take i xs) ++ option_to_list (f x)) xs i x (f x) within is refl refl refl

  -- behind what is there
  pub one_behind : (there before after : List Y) (o : Option Y) → before ≡ there ++ filter_map f (take i xs) → o ≡ f x → after ≡ before ++ option_to_list o → after ≡ there ++ filter_map f (take (i + 1) xs)
  one_behind there before after o was gives now =
      now ∙ (λ k. was k ++ option_to_list (gives k)) ∙ append_assoc there (filter_map f (take i xs)) (option_to_list (f x)) ∙ ap (λ ys. there ++ ys) more

-- or put one after the other
pub one_placed : {X K V : Type 0} (cmp : K → K → Ordering) (f : X → Option (K × V)) (xs : List X) (i : ℕ) (x : X) → i < length xs → x ≡ get_or xs i x → (table before after : List (K × V)) (o : Option (K × V)) → before ≡ placed cmp table (filter_map f (take i xs)) → o ≡ f x → after ≡ placed cmp before (option_to_list o) → after ≡ placed cmp table (filter_map f (take (i + 1) xs))
one_placed {X} {K} {V} cmp f xs i x within is table before after o was gives now =
    now
    ∙ (λ k. placed cmp (was k) (option_to_list (gives k)))
    ∙ sym (fold-append (λ t (row : K × V). put cmp row.0 row.1 t) table (filter_map f (take i xs)) (option_to_list (f x)))
    ∙ ap (placed cmp table) (more f xs i x within is)
