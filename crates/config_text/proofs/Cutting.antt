-- Tables of which only the first are left.
use Rattle.std.proofs.Common.{◌≡◌, ℕ, true, false, List, [], ◌∷◌, take, map, Some, None, is_some, is_eq, refl, ap, sym, ◌∙◌, inl, inr}
use Rattle.std.proofs.lemmas.Bool.{cases_Bool, true≢false}
use Rattle.std.proofs.lemmas.List.{take-map}
use Rattle.std.proofs.lemmas.List.Folds.{list_all-map}
use Rattle.std.proofs.lemmas.Option.{same_Some}
use Rattle.std.specs.BTreeMap.{is_at}
use Rattle.std.specs.List.{list_all}
use Rattle.std.specs.Map.{lookup, set_value}
use Rattle.toml.specs.Data.{as_table}
use Rattle.toml.specs.View.{view, items_view, members_view}
use Rattle.toml.specs.declared.value.Value.{Value}
use Rattle.lsr_config.specs.Values.{elements}
use Rattle.lsr_config.proofs.Finding.{elements-view}
use Rattle.toml.proofs.Views.{Entry, at_text}
use Rattle.config_text.specs.Cuts.{cut_at, cut_items, cut_value, only_tables}

tables_seen : (vs : List Value) → list_all (λ d. is_some (as_table d)) (elements (items_view vs)) ≡ list_all (λ v. is_some (as_table (view v))) vs
tables_seen vs = ap (list_all (λ d. is_some (as_table d))) (elements-view vs) ∙ list_all-map (λ d. is_some (as_table d)) view vs

-- values that are all tables, and others
pub tables_all : (vs : List Value) → list_all (λ v. is_some (as_table (view v))) vs ≡ true → map view vs ≡ only_tables (map view vs)
tables_all vs h = rw (list_all-map (λ d. is_some (as_table d)) view vs, h) refl

pub tables_none : (vs : List Value) → list_all (λ v. is_some (as_table (view v))) vs ≡ false → [] ≡ only_tables (map view vs)
tables_none vs h = rw (list_all-map (λ d. is_some (as_table d)) view vs, h) refl

pub items_cut : (n : ℕ) (vs : List Value) → list_all (λ v. is_some (as_table (view v))) vs ≡ true → items_view (take n vs) ≡ cut_items n (items_view vs)
items_cut n vs h = rw (tables_seen vs, h, elements-view vs, take-map view n vs) refl

pub items_whole : (n : ℕ) (vs : List Value) → list_all (λ v. is_some (as_table (view v))) vs ≡ false → items_view vs ≡ cut_items n (items_view vs)
items_whole n vs h = rw (tables_seen vs, h) refl

-- the value under a key is another
pub cut_found : (k : List ℕ) (n : ℕ) (es : List Entry) (old w : Value) → lookup (is_at (at_text k)) es ≡ Some old → view w ≡ cut_value n (view old) → members_view (set_value (is_at (at_text k)) es w) ≡ cut_at k n (members_view es)
unfolding cut_at
cut_found k n [] old w h e = absurd (true≢false (sym (ap is_some h)))
cut_found k n (x ∷ es) old w h e =
    elim (cases_Bool (is_eq (at_text k x.0))) [
      | inl same ↦ rw (same, e, same_Some _ _ (rw same at h)) refl
      | inr other ↦ rw (other, cut_found k n es old w (rw other at h) e) refl
    ]

-- there is no value under the key
pub cut_missing : (k : List ℕ) (n : ℕ) (es : List Entry) → lookup (is_at (at_text k)) es ≡ None → members_view es ≡ cut_at k n (members_view es)
unfolding cut_at
cut_missing k n [] h = refl
cut_missing k n (x ∷ es) h =
    elim (cases_Bool (is_eq (at_text k x.0))) [
      | inl same ↦ absurd (true≢false (ap is_some (rw same at h)))
      | inr other ↦ rw (other, ← cut_missing k n es (rw other at h)) refl
    ]
