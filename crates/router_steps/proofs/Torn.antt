-- The LSPs that a ResvTear takes the reservation from are those whose reservations are torn by it.
use Rattle.std.specs.Prelude.{◌≡◌, ◌==◌, ◌&&◌, ◌||◌, ℕ, not, Bool, true, false, cond, T, List, [], ◌∷◌, filter, length, map, Option, Some, None}
use Rattle.std.specs.FinMap.Entries.{find, is_sorted}
use Rattle.std.specs.List.{AllByRecursion, list_any}
use Rattle.std.specs.Option.{option_map_or}
use Rattle.std.specs.Ordering.{eq_by_cmp, is_eq}
use Rattle.std.proofs.Common.{refl, sym, ap, arith, ◌∙◌}
use Rattle.std.proofs.lemmas.Cmp.{tied_itself}
use Rattle.std.proofs.lemmas.Map.Views.{any-filter_same}
use Rattle.rsvp_contents.specs.declared.messages.ResvTear.{ResvTear}
use Rattle.rsvp_objects.specs.declared.values.Session.{Session}
use Rattle.rsvp_objects.specs.declared.values.Template.{Template}
use Rattle.sorted_rows.specs.ListLaws.{all-weaker, filter_agree_within}
use Rattle.sorted_rows.specs.RowsLaws.{all_found, ties}
use Rattle.lsr_facts.specs.OrderLaws.{key_exact, key_total}
use Rattle.lsr_facts.specs.Orders.{key_cmp}
use Rattle.lsr_facts.specs.declared.key.Key.{Key}
use Rattle.lsr_facts.specs.declared.refusal.Refusal.TheVariants.{NoMatch}
use Rattle.lsr_facts.specs.declared.reply.Reply.TheVariants as replies
use Rattle.lsr_facts.specs.declared.resv_fact.ResvFact.{ResvFact}
use Rattle.abstract_paths.specs.Outcomes.{lsp}
use Rattle.abstract_router.specs.Outcomes.{refused, replied}
use Rattle.abstract_router.specs.States.{State, is_one_of, with_resvs_where}
use Rattle.abstract_router.specs.Tearing.{is_resv_torn_by, resv_tear_arrival}
use Rattle.router_steps.specs.Torn.{is_reserved_on, torn_keys}

-- a key is among those that filters name where one of the filters names it
among-named : (session : Session) (key : Key) (filters : List Template) → is_one_of (map (lsp session) filters) key ≡ list_any (λ f. is_eq (key_cmp (lsp session f) key)) filters
among-named session key [] = refl
among-named session key (f ∷ fs) = ap (λ b. is_eq (key_cmp (lsp session f) key) || b) (among-named session key fs)

-- what fails a test at each element fails it at any
none_any : {A : Type 0} (test : A → Bool) (xs : List A) → AllByRecursion (λ x. test x ≡ false) xs → list_any test xs ≡ false
none_any test [] h = refl
none_any test (x ∷ xs) h = λ i. h.0 i || none_any test xs h.1 i

-- a row that is found and passes a test is one that passes it
any_found : {X : Type 0} (test : Key × X → Bool) (key : Key) (value : X) (rows : List (Key × X)) → find key_cmp key rows ≡ Some value → test (key, value) ≡ true → list_any test rows ≡ true
any_found test key value [] is passes = absurd (let e = is in cc)
any_found {X} test key value (row ∷ rows) is passes =
    elim (eq_by_cmp key_cmp key row.0) as (λ b. eq_by_cmp key_cmp key row.0 ≡ b → cond b (Some row.1) (find key_cmp key rows) ≡ Some value → (test row || list_any test rows) ≡ true) [
      | true ↦ λ tie found. here (key_exact key row.0 (ties _ tie)) (let e : Some row.1 ≡ Some value = found in cc)
      | false ↦ λ tie found. either (test row) (any_found test key value rows found passes)
    ] refl is
  where
    here : key ≡ row.0 → row.1 ≡ value → (test row || list_any test rows) ≡ true
    here same found = ap (λ b. b || list_any test rows) ((λ i. test (sym same i, found i)) ∙ passes)

    either : (b : Bool) → list_any test rows ≡ true → (b || list_any test rows) ≡ true
    either true h = refl
    either false h = h

-- where some are left after a filter, one passes its test
some_left : {A B : Type 0} (f : A → B) (test : B → Bool) (xs : List A) → (length (filter test (map f xs)) ≡ 0 → ⊥) → list_any (λ x. test (f x)) xs ≡ true
some_left f test [] some = absurd (some refl)
some_left f test (x ∷ xs) some =
    elim (test (f x)) as (λ b. (length (cond b (f x ∷ filter test (map f xs)) (filter test (map f xs))) ≡ 0 → ⊥) → (b || list_any (λ y. test (f y)) xs) ≡ true) [
      | true ↦ λ h. refl
      | false ↦ λ h. some_left f test xs h
    ] some

-- of each reservation, its LSP is among those that a ResvTear takes it from where it is torn by it
module _ (link : ℕ) (t : ResvTear) (resvs : List (Key × ResvFact)) where
  among-torn : (resv : Key × ResvFact) → find key_cmp resv.0 resvs ≡ Some resv.1 → is_one_of (torn_keys link t resvs) resv.0 ≡ is_resv_torn_by link t resv
  among-torn resv found =
      let on = is_reserved_on link resvs in
      any-filter_same (λ key. is_eq (key_cmp key resv.0)) on (on resv.0) (λ key tie. ap on (key_exact key resv.0 (ties _ tie))) (map (lsp t.session) t.filters)
      ∙ (λ i. option_map_or (λ (r : ResvFact). r.link == link) (found i) false && among-named t.session resv.0 t.filters i)

  each-torn : T (is_sorted key_cmp resvs) → AllByRecursion (λ resv. is_one_of (torn_keys link t resvs) resv.0 ≡ is_resv_torn_by link t resv) resvs
  each-torn h = all-weaker (λ resv. find key_cmp resv.0 resvs ≡ Some resv.1) (λ resv. is_one_of (torn_keys link t resvs) resv.0 ≡ is_resv_torn_by link t resv) among-torn resvs (all_found key_cmp key_total resvs h)

  -- So without these, those are left that aren't torn.
  pub without_torn : T (is_sorted key_cmp resvs) → filter (λ resv. not (is_one_of (torn_keys link t resvs) resv.0)) resvs ≡ filter (λ resv. not (is_resv_torn_by link t resv)) resvs
  without_torn h =
      filter_agree_within (λ resv. not (is_one_of (torn_keys link t resvs) resv.0)) (λ resv. not (is_resv_torn_by link t resv)) resvs
      (all-weaker (λ resv. is_one_of (torn_keys link t resvs) resv.0 ≡ is_resv_torn_by link t resv) (λ resv. not (is_one_of (torn_keys link t resvs) resv.0) ≡ not (is_resv_torn_by link t resv)) (λ resv same. ap not same) resvs (each-torn h))

  -- with none of them, none is torn
  none_torn : T (is_sorted key_cmp resvs) → length (torn_keys link t resvs) ≡ 0 → list_any (is_resv_torn_by link t) resvs ≡ false
  none_torn h none =
      none_any (is_resv_torn_by link t) resvs
      (all-weaker (λ resv. is_one_of (torn_keys link t resvs) resv.0 ≡ is_resv_torn_by link t resv) (λ resv. is_resv_torn_by link t resv ≡ false) (λ resv same. sym same ∙ empty (torn_keys link t resvs) none resv.0) resvs (each-torn h))
    where
      empty : (keys : List Key) → length keys ≡ 0 → (key : Key) → is_one_of keys key ≡ false
      empty [] e key = refl
      empty (k ∷ ks) e key = absurd (omega (arith, e))

  -- and where a filter names one that is reserved on the link, one is
  any_torn : (fs : List Template) → ((key : Key) → list_any (λ f. is_eq (key_cmp (lsp t.session f) key)) fs ≡ true → list_any (λ f. is_eq (key_cmp (lsp t.session f) key)) t.filters ≡ true) → list_any (λ f. is_reserved_on link resvs (lsp t.session f)) fs ≡ true → list_any (is_resv_torn_by link t) resvs ≡ true
  any_torn [] within any = absurd (let e = any in cc)
  any_torn (f ∷ fs) within any =
      by (find key_cmp (lsp t.session f) resvs) refl any
      (any_torn fs (λ key names. within key (further (list_any (λ g. is_eq (key_cmp (lsp t.session g) key)) fs) names (is_eq (key_cmp (lsp t.session f) key)))))
    where
      named : list_any (λ g. is_eq (key_cmp (lsp t.session g) (lsp t.session f))) t.filters ≡ true
      named = within (lsp t.session f) (ap (λ o. is_eq o || list_any (λ g. is_eq (key_cmp (lsp t.session g) (lsp t.session f))) fs) (tied_itself key_total (lsp t.session f)))

      further : (b : Bool) → b ≡ true → (c : Bool) → (c || b) ≡ true
      further b is true = refl
      further b is false = is

      on_link : (v : ResvFact) → find key_cmp (lsp t.session f) resvs ≡ Some v → (b : Bool) → (v.link == link) ≡ b → (b || list_any (λ g. is_reserved_on link resvs (lsp t.session g)) fs) ≡ true → (list_any (λ g. is_reserved_on link resvs (lsp t.session g)) fs ≡ true → list_any (is_resv_torn_by link t) resvs ≡ true) → list_any (is_resv_torn_by link t) resvs ≡ true
      on_link v is true on either rest = any_found (is_resv_torn_by link t) (lsp t.session f) v resvs is (λ i. on i && named i)
      on_link v is false off either rest = rest either

      by : (o : Option ResvFact) → find key_cmp (lsp t.session f) resvs ≡ o → (option_map_or (λ (v : ResvFact). v.link == link) o false || list_any (λ g. is_reserved_on link resvs (lsp t.session g)) fs) ≡ true → (list_any (λ g. is_reserved_on link resvs (lsp t.session g)) fs ≡ true → list_any (is_resv_torn_by link t) resvs ≡ true) → list_any (is_resv_torn_by link t) resvs ≡ true
      by None is either rest = rest either
      by (Some v) is either rest = on_link v is (v.link == link) refl either rest

  some_torn : list_any (λ f. is_reserved_on link resvs (lsp t.session f)) t.filters ≡ true → list_any (is_resv_torn_by link t) resvs ≡ true
  some_torn = any_torn t.filters (λ key names. names)

-- A ResvTear that names one that is reserved on the link isn't silent,
pub tear_speaks : (s : State) (link : ℕ) (t : ResvTear) → list_any (λ f. is_reserved_on link s.resvs (lsp t.session f)) t.filters ≡ true → (resv_tear_arrival s link t).is_silent ≡ false
unfolding resv_tear_arrival
tear_speaks s link t any =
    ap (λ b. (cond b (replied replies.Done [] (with_resvs_where (λ resv. not (is_resv_torn_by link t resv)) s)) (refused s NoMatch)).is_silent) (some_torn link t s.resvs any)

-- one that names none is refused,
pub tears_none : (s : State) (link : ℕ) (t : ResvTear) → T (is_sorted key_cmp s.resvs) → (keys : List Key) → keys ≡ torn_keys link t s.resvs → length keys ≡ 0 → refused s NoMatch ≡ resv_tear_arrival s link t
unfolding resv_tear_arrival
tears_none s link t h keys is none =
    sym (ap (λ b. cond b (replied replies.Done [] (with_resvs_where (λ resv. not (is_resv_torn_by link t resv)) s)) (refused s NoMatch)) (none_torn link t s.resvs h (ap length (sym is) ∙ none)))

-- and another takes these reservations away.
pub tears_some : (s : State) (link : ℕ) (t : ResvTear) → T (is_sorted key_cmp s.resvs) → (keys : List Key) → keys ≡ torn_keys link t s.resvs → (length keys ≡ 0 → ⊥) → replied replies.Done [] (with_resvs_where (λ resv. not (is_one_of keys resv.0)) s) ≡ resv_tear_arrival s link t
unfolding resv_tear_arrival
tears_some s link t h keys is some =
    ap (λ (gone : List Key). replied replies.Done [] (with_resvs_where (λ resv. not (is_one_of gone resv.0)) s)) is
    ∙ ap (λ resvs. replied replies.Done [] (record s { resvs = resvs })) (without_torn link t s.resvs h)
    ∙ sym (ap (λ b. cond b (replied replies.Done [] (with_resvs_where (λ resv. not (is_resv_torn_by link t resv)) s)) (refused s NoMatch)) (some_torn link t s.resvs (some_left (lsp t.session) (is_reserved_on link s.resvs) t.filters (λ none. some (ap length is ∙ none)))))
