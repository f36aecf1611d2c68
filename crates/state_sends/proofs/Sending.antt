-- What comes of the LSPs that a step touches is all that it sends, of each kind.
use Rattle.std.specs.Prelude.{◌≡◌, ℕ, Bool, false, true, T, List, [], ◌∷◌, Option}
use Rattle.std.specs.Cmp.{IsTotalOrder}
use Rattle.std.specs.FinMap.Entries.{find, is_sorted, is_sorted-where_key, where_key}
use Rattle.std.specs.declared.cmp.Ordering.{Ordering}
use Rattle.std.specs.declared.cmp.Ordering.TheVariants.{Equal}
use Rattle.std.proofs.Common.{ap, refl, subst, sym, ◌∙◌}
use Rattle.sorted_rows.specs.Edits as edits
use Rattle.sorted_rows.specs.ListLaws.{all-always, filter-all_pass}
use Rattle.sorted_rows.specs.Rows.{keys_of}
use Rattle.lsr_facts.specs.Orders.{key_cmp}
use Rattle.lsr_facts.specs.declared.key.Key.{Key}
use Rattle.lsr_facts.specs.declared.router.Router.{Router}
use Rattle.abstract_paths.specs.declared.events.Output.{Output}
use Rattle.abstract_paths.specs.Outputs.{between, is_due, send_for, tear_for}
use Rattle.abstract_paths.specs.Soundness.{ArePaths}
use Rattle.abstract_paths.specs.Stamps.{stamps}
use Rattle.abstract_paths.specs.Touched.{is_among, moments_between}
use Rattle.abstract_router.specs.Lsps.{Around, Lsp, around_of, lsps_of}
use Rattle.abstract_router.specs.States.{State}
use Rattle.state_views.specs.Edits.{edited}
use Rattle.state_views.specs.declared.edits.Edits.{Edits}
use Rattle.state_sends.specs.KeptAlive.{all_said}
use Rattle.state_sends.specs.Touching.{AreAllTouched, IsSaidOfAll, is_lsp_of}
use Rattle.state_sends.proofs.Elsewhere.{not_due, said_elsewhere, said_some, same_wanted}
use Rattle.state_sends.proofs.Lifting.{all_moments, all_sends, all_tears}

module _ {I : Type 0} (cmp : I → I → Ordering) (total : IsTotalOrder cmp) (exact : (a b : I) → cmp a b ≡ Equal → a ≡ b) (of : I → Key) (said : Lsp → Lsp) (rows : Around → List (Key × Lsp) → List (I × Output)) (told : (a : Around) (lsps : List (Key × Lsp)) → rows a (all_said said lsps) ≡ rows a lsps) (none : (a : Around) → rows a [] ≡ [])
    (parts : (r : Router) (s : State) (touched : Key → Bool) → where_key cmp (λ item. touched (of item)) (rows (around_of r s) (lsps_of s)) ≡ rows (around_of r s) (where_key key_cmp touched (lsps_of s)))
    (in_order : (r : Router) (s : State) → ArePaths r s.facts.moment s.facts.paths → T (is_sorted cmp (rows (around_of r s) (lsps_of s))))
    (r : Router) (s : State) (e : Edits) (lsps : List (Key × Unit {0})) where
  -- all that a state wants, and what it wants of the touched LSPs
  abbrev pub all_rows : State → List (I × Output)
  all_rows t = rows (around_of r t) (lsps_of t)

  abbrev pub some_rows : State → List (I × Output)
  some_rows t = rows (around_of r t) (where_key key_cmp (is_among key_cmp lsps) (lsps_of t))

  -- That stands in order.
  pub sorted_some : (t : State) → ArePaths r t.facts.moment t.facts.paths → T (is_sorted cmp (some_rows t))
  sorted_some t are = subst (λ ws. T (is_sorted cmp ws)) (parts r t (is_among key_cmp lsps)) (is_sorted-where_key cmp (λ item. is_among key_cmp lsps (of item)) (all_rows t) (in_order r t are))

  -- Of no LSPs nothing is wanted.
  pub none_some : lsps ≡ [] → (t : State) → some_rows t ≡ []
  none_some empty t = ap (rows (around_of r t)) (ap (λ (keys : List (Key × Unit {0})). where_key key_cmp (is_among key_cmp keys) (lsps_of t)) empty ∙ none_left (lsps_of t)) ∙ none (around_of r t)
    where
      none_left : (es : List (Key × Lsp)) → where_key key_cmp (λ key. false) es ≡ []
      none_left [] = refl
      none_left (x ∷ es) = none_left es

  module _ (are : AreAllTouched r said s e lsps) (before : ArePaths r s.facts.moment s.facts.paths) (after : ArePaths r (edited e s).facts.moment (edited e s).facts.paths)
      (due : List I) (apart : (key : Key) → is_among key_cmp lsps key ≡ false → is_lsp_of of due key ≡ false) where
    rest : (item : I) → is_among key_cmp lsps (of item) ≡ false → is_due cmp due item ≡ false
    rest item away = not_due cmp exact of due item (apart (of item) away)

    pub step_tears : (up : List (ℕ × Bool)) → between cmp (tear_for up) (some_rows s) (some_rows (edited e s)) ≡ between cmp (tear_for up) (all_rows s) (all_rows (edited e s))
    step_tears up =
        all_tears cmp total exact (λ item. is_among key_cmp lsps (of item)) due (all_rows s) (all_rows (edited e s)) (some_rows s) (some_rows (edited e s))
        (in_order r s before) (in_order r (edited e s) after) (same_wanted cmp of said rows told none parts r s e lsps are before.in_order) rest
        (parts r s (is_among key_cmp lsps)) (parts r (edited e s) (is_among key_cmp lsps)) up

    pub step_sends : between cmp (send_for cmp due) (some_rows (edited e s)) (some_rows s) ≡ between cmp (send_for cmp due) (all_rows (edited e s)) (all_rows s)
    step_sends =
        all_sends cmp total exact (λ item. is_among key_cmp lsps (of item)) due (all_rows s) (all_rows (edited e s)) (some_rows s) (some_rows (edited e s))
        (in_order r s before) (in_order r (edited e s) after) (same_wanted cmp of said rows told none parts r s e lsps are before.in_order) rest
        (parts r s (is_among key_cmp lsps)) (parts r (edited e s) (is_among key_cmp lsps))

    pub step_moments : (now : ℕ) (moments : List (I × Option ℕ)) → ((item : I) → find cmp item moments ≡ find cmp item (moments_between cmp due now (some_rows s) (some_rows (edited e s))))
        → (sent : List (I × ℕ)) → keys_of sent ≡ keys_of (all_rows s) → edits.edited cmp moments sent ≡ stamps cmp due (all_rows s) sent now (all_rows (edited e s))
    step_moments now moments become sent known =
        all_moments cmp total exact (λ item. is_among key_cmp lsps (of item)) due (all_rows s) (all_rows (edited e s)) (some_rows s) (some_rows (edited e s))
        (in_order r s before) (in_order r (edited e s) after) (same_wanted cmp of said rows told none parts r s e lsps are before.in_order) rest
        (parts r s (is_among key_cmp lsps)) (parts r (edited e s) (is_among key_cmp lsps)) sent now known moments become

-- Where the same is said of all LSPs before and after, the same is wanted of any of them.
pub same_some : {I : Type 0} (said : Lsp → Lsp) (rows : Around → List (Key × Lsp) → List (I × Output)) → ((a : Around) (lsps : List (Key × Lsp)) → rows a (all_said said lsps) ≡ rows a lsps) → (r : Router) (s : State) (e : Edits) (touched : Key → Bool) → T (is_sorted key_cmp s.facts.paths) → T (is_sorted key_cmp (edited e s).facts.paths) → IsSaidOfAll r said s e
    → rows (around_of r (edited e s)) (where_key key_cmp touched (lsps_of (edited e s))) ≡ rows (around_of r s) (where_key key_cmp touched (lsps_of s))
same_some said rows told r s e touched g h same =
    said_some said rows told (around_of r (edited e s)) touched (lsps_of (edited e s))
    ∙ sym (λ i. rows (same.around i) (where_key key_cmp touched (same_said i)))
    ∙ sym (said_some said rows told (around_of r s) touched (lsps_of s))
  where
    all_left : (lsps : List (Key × Lsp)) → where_key key_cmp (λ key. true) lsps ≡ lsps
    all_left lsps = filter-all_pass (λ lsp. true) lsps (all-always (λ lsp. true ≡ true) (λ lsp. refl) lsps)

    same_said : all_said said (lsps_of s) ≡ all_said said (lsps_of (edited e s))
    same_said = sym (all_left (all_said said (lsps_of s))) ∙ said_elsewhere said (λ key. false) s (edited e s) g h (λ key apart. same.lsps key) ∙ all_left (all_said said (lsps_of (edited e s)))
