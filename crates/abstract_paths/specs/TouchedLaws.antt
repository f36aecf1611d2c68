-- Laws of what is sent between what was wanted and what is, and of when it was sent last, for items of any kind: all
-- comes of the rows of the items that are touched.
use Rattle.std.specs.Prelude.{◌∷◌, if◌then◌else◌, is_none, ◌≡◌, ◌++◌, ◌&&◌, ℕ, not, Bool, true, false, cond, T, List, [], filter_map, Option, Some, None, is_some}
use Rattle.std.specs.Cmp.{IsTotalOrder}
use Rattle.std.specs.FinMap.Entries.{below_all, find, find-where_key, is_sorted, is_sorted-where_key, same_entries, where_key}
use Rattle.std.specs.List.{cons_option}
use Rattle.std.specs.Option.{option_and_then, option_map, option_or, unwrap_or}
use Rattle.std.specs.Ordering.{eq_by_cmp, is_lt}
use Rattle.std.specs.declared.cmp.Ordering.{Ordering}
use Rattle.std.specs.declared.cmp.Ordering.TheVariants.{Equal}
use Rattle.std.proofs.Common.{refl, sym, ap, subst, ◌∙◌}
use Rattle.std.proofs.lemmas.Cmp.{nat_list_eq_equiv}
use Rattle.sorted_rows.specs.ListLaws.{all-always, all-filter_passes, all-weaker, filter_map_agree_within, filter_map_within}
use Rattle.sorted_rows.specs.Rows.{keys_of}
use Rattle.sorted_rows.specs.RowsLaws.{all_found, find-append, find-behind, is_some-find_both, is_sorted-both}
use Rattle.sorted_rows.specs.EditLaws.{find-edited, is_sorted-edited}
use Rattle.sorted_rows.specs.Edits.{edited, over}
use Rattle.abstract_paths.specs.Frames.{frame_bytes}
use Rattle.abstract_paths.specs.declared.events.Output.{Output}
use Rattle.abstract_paths.specs.Outputs.{between, is_due, is_same_frame, rests, send_for, tear_for}
use Rattle.abstract_paths.specs.StampLaws.{find-stamps, keys-stamps, none-is, ties}
use Rattle.abstract_paths.specs.Stamps.{stamp, stamps}
use Rattle.abstract_paths.specs.Touched.{forgotten, found_rows, is_among, moments_between, renewed_moment}
use Rattle.abstract_paths.specs.RowLaws.{both, first, second}

module _ {K C O : Type 0} (cmp : K → K → Ordering) (total : IsTotalOrder cmp) (exact : (x y : K) → cmp x y ≡ Equal → x ≡ y) where
  -- What comes of rows beside others that agree with them outside the touched keys comes of the touched parts of
  -- both, where a row comes to nothing which isn't touched, and which the others have too.
  pub between-touched : (f : Option C → K × C → Option O) (touched : K → Bool) (rows others : List (K × C)) → T (is_sorted cmp rows) → ((k : K) → touched k ≡ false → find cmp k others ≡ find cmp k rows) → ((k : K) (c : C) → touched k ≡ false → f (Some c) (k, c) ≡ None) → between cmp f rows others ≡ between cmp f (where_key cmp touched rows) (where_key cmp touched others)
  between-touched f touched rows others h same quiet =
      filter_map_within (λ row. f (find cmp row.0 others) row) (λ row. touched row.0) rows
      (all-weaker (λ (e : K × C). find cmp e.0 rows ≡ Some e.1) (λ e. touched e.0 ≡ false → f (find cmp e.0 others) e ≡ None)
      (λ e found apart. ap (λ o. f o e) (same e.0 apart ∙ found) ∙ quiet e.0 e.1 apart) rows (all_found cmp total rows h))
      ∙ filter_map_agree_within (λ row. f (find cmp row.0 others) row) (λ row. f (find cmp row.0 (where_key cmp touched others)) row) (where_key cmp touched rows)
      (all-filter_passes (λ (e : K × C). f (find cmp e.0 others) e ≡ f (find cmp e.0 (where_key cmp touched others)) e) (λ e. touched e.0)
      (λ e is. ap (λ o. f o e) (sym (find-where_key cmp touched e.0 (λ x tie. ap touched (sym (exact e.0 x tie))) others ∙ ap (λ b. cond b (find cmp e.0 others) None) is))) rows)

module _ {K C : Type 0} (cmp : K → K → Ordering) (total : IsTotalOrder cmp) (exact : (x y : K) → cmp x y ≡ Equal → x ≡ y) where
  -- what is found among the touched rows is what is found among all, at a touched key
  pub find-touched : (touched : K → Bool) (k : K) (rows : List (K × C)) → touched k ≡ true → find cmp k (where_key cmp touched rows) ≡ find cmp k rows
  find-touched touched k rows is = find-where_key cmp touched k (λ x tie. ap touched (sym (exact k x tie))) rows ∙ ap (λ b. cond b (find cmp k rows) None) is

  -- rows that are the same outside the touched keys are found alike there
  pub found_elsewhere : (touched : K → Bool) (rows others : List (K × C)) → where_key cmp (λ k. not (touched k)) rows ≡ where_key cmp (λ k. not (touched k)) others → (k : K) → touched k ≡ false → find cmp k others ≡ find cmp k rows
  found_elsewhere touched rows others same k apart =
      sym (find-touched (λ q. not (touched q)) k others (ap not apart)) ∙ ap (find cmp k) (sym same) ∙ find-touched (λ q. not (touched q)) k rows (ap not apart)

  -- rows in order that are found alike at each key that isn't touched are the same there
  pub same_elsewhere : (touched : K → Bool) (rows others : List (K × C)) → T (is_sorted cmp rows) → T (is_sorted cmp others) → ((k : K) → touched k ≡ false → find cmp k rows ≡ find cmp k others) → where_key cmp (λ k. not (touched k)) rows ≡ where_key cmp (λ k. not (touched k)) others
  same_elsewhere touched rows others g h same =
      same_entries cmp total exact (where_key cmp (λ k. not (touched k)) rows) (where_key cmp (λ k. not (touched k)) others)
      (is_sorted-where_key cmp (λ k. not (touched k)) rows g) (is_sorted-where_key cmp (λ k. not (touched k)) others h)
      (λ q. left q rows ∙ alike q (touched q) (same q) ∙ sym (left q others))
    where
      left : (q : K) (es : List (K × C)) → find cmp q (where_key cmp (λ k. not (touched k)) es) ≡ cond (not (touched q)) (find cmp q es) None
      left q es = find-where_key cmp (λ k. not (touched k)) q (λ x tie. ap (λ k. not (touched k)) (sym (exact q x tie))) es

      alike : (q : K) (b : Bool) → (b ≡ false → find cmp q rows ≡ find cmp q others) → cond (not b) (find cmp q rows) None ≡ cond (not b) (find cmp q others) None
      alike q true is = refl
      alike q false is = is refl

module _ {K X Y : Type 0} (cmp : K → K → Ordering) where
  -- a key below rows is below those that h makes of them
  below-made : (h : K × X → Option Y) (k : K) (es : List (K × X)) → T (below_all cmp k es) → T (below_all cmp k (filter_map (λ e. option_map (λ y. (e.0, y)) (h e)) es))
  below-made h k [] low = tt
  below-made h k (e ∷ es) low = below_row (h e) (first _ _ low) (below-made h k es (second _ _ low))
    where
      below_row : (o : Option Y) → T (is_lt (cmp k e.0)) → T (below_all cmp k (filter_map (λ row. option_map (λ y. (row.0, y)) (h row)) es)) → T (below_all cmp k (cons_option (option_map (λ y. (e.0, y)) o) (filter_map (λ row. option_map (λ y. (row.0, y)) (h row)) es)))
      below_row None low rest = rest
      below_row (Some y) low rest = both _ _ low rest

  -- rows that h makes of rows in order stand in order
  pub sorted_made : (h : K × X → Option Y) (es : List (K × X)) → T (is_sorted cmp es) → T (is_sorted cmp (filter_map (λ e. option_map (λ y. (e.0, y)) (h e)) es))
  sorted_made h [] g = tt
  sorted_made h (e ∷ es) g = sorted_row (h e) (sorted_made h es (second _ _ g)) (below-made h e.0 es (first _ _ g))
    where
      sorted_row : (o : Option Y) → T (is_sorted cmp (filter_map (λ row. option_map (λ y. (row.0, y)) (h row)) es)) → T (below_all cmp e.0 (filter_map (λ row. option_map (λ y. (row.0, y)) (h row)) es)) → T (is_sorted cmp (cons_option (option_map (λ y. (e.0, y)) o) (filter_map (λ row. option_map (λ y. (row.0, y)) (h row)) es)))
      sorted_row None sorted low = sorted
      sorted_row (Some y) sorted low = both _ _ low sorted

module _ {K X Y : Type 0} (cmp : K → K → Ordering) (total : IsTotalOrder cmp) (exact : (x y : K) → cmp x y ≡ Equal → x ≡ y) where
  -- what is found of rows that h makes of rows in order, each under its key, if any
  pub find-made : (h : K × X → Option Y) (q : K) (es : List (K × X)) → T (is_sorted cmp es) → find cmp q (filter_map (λ e. option_map (λ y. (e.0, y)) (h e)) es) ≡ option_and_then (λ x. h (q, x)) (find cmp q es)
  find-made h q [] g = refl
  find-made h q (e ∷ es) g =
      let rest = find-made h q es (second _ _ g) in
      elim (eq_by_cmp cmp q e.0) as (λ b. eq_by_cmp cmp q e.0 ≡ b → find cmp q (filter_map (λ row. option_map (λ y. (row.0, y)) (h row)) (e ∷ es)) ≡ option_and_then (λ x. h (q, x)) (cond b (Some e.1) (find cmp q es))) [
        | true ↦ λ t.
            let tie = ties _ t in
            first_row (h e) true t (rest ∙ ap (option_and_then (λ x. h (q, x))) (find-behind cmp total q e es g tie)) ∙ ap (λ k. h (k, e.1)) (sym (exact q e.0 tie))
        | false ↦ λ t. later_row (h e) t ∙ rest
      ] refl
    where
      tail : List (K × Y)
      tail = filter_map (λ row. option_map (λ y. (row.0, y)) (h row)) es

      first_row : (o : Option Y) (b : Bool) → eq_by_cmp cmp q e.0 ≡ true → find cmp q tail ≡ None → find cmp q (cons_option (option_map (λ y. (e.0, y)) o) tail) ≡ o
      first_row None b t none = none
      first_row (Some y) b t none = ap (λ tied. cond tied (Some y) (find cmp q tail)) t

      later_row : (o : Option Y) → eq_by_cmp cmp q e.0 ≡ false → find cmp q (cons_option (option_map (λ y. (e.0, y)) o) tail) ≡ find cmp q tail
      later_row None t = refl
      later_row (Some y) t = ap (λ tied. cond tied (Some y) (find cmp q tail)) t

  -- they stand in order, too
  pub is_sorted-made : (h : K × X → Option Y) (es : List (K × X)) → T (is_sorted cmp es) → T (is_sorted cmp (filter_map (λ e. option_map (λ y. (e.0, y)) (h e)) es))
  is_sorted-made = sorted_made cmp

module _ {K E X : Type 0} (cmp : K → K → Ordering) (total : IsTotalOrder cmp) (exact : (x y : K) → cmp x y ≡ Equal → x ≡ y) where
  -- The part of rows under the keys of others is what look-ups at these keys find.
  pub where_key-among : (es : List (K × E)) (rows : List (K × X)) → T (is_sorted cmp es) → T (is_sorted cmp rows) → where_key cmp (is_among cmp es) rows ≡ found_rows cmp es rows
  where_key-among es rows g h =
      same_entries cmp total exact (where_key cmp (is_among cmp es) rows) (found_rows cmp es rows)
      (is_sorted-where_key cmp (is_among cmp es) rows h)
      (is_sorted-made cmp total exact (λ e. find cmp e.0 rows) es g)
      (λ q. find-where_key cmp (is_among cmp es) q (λ x tie. ap (is_among cmp es) (sym (exact q x tie))) rows ∙ known (find cmp q es) (find cmp q rows) ∙ sym (find-made cmp total exact (λ e. find cmp e.0 rows) q es g))
    where
      known : (o : Option E) (found : Option X) → cond (is_some o) found None ≡ option_and_then (λ x. found) o
      known None found = refl
      known (Some x) found = refl

-- a frame is the same as itself
same_itself : (o : Output) → is_same_frame o.frame o.frame ≡ true
same_itself o = nat_list_eq_equiv.refl (frame_bytes o.frame)

-- a row under its key, by its value
paired : {K Y : Type 0} (b : Bool) (k : K) (y : Y) → cond {A = Option (K × Y)} b (Some (k, y)) None ≡ option_map (λ v. (k, v)) (cond b (Some y) None)
paired true k y = refl
paired false k y = refl

unpaired : {K Y : Type 0} (b : Bool) (k : K) (y : Y) → cond {A = Option (K × Y)} b None (Some (k, y)) ≡ option_map (λ v. (k, v)) (cond b None (Some y))
unpaired true k y = refl
unpaired false k y = refl

-- an edit over what was
over_unwrap : {X : Type 0} (edit : Option (Option X)) (was : Option X) → over edit was ≡ unwrap_or edit was
over_unwrap None was = refl
over_unwrap (Some now) was = refl

module _ {I : Type 0} (cmp : I → I → Ordering) where
  -- what was wanted before, the same, and isn't due, rests
  pub rests_same : (due : List I) (item : I) (o : Output) → is_due cmp due item ≡ false → rests cmp due (Some o) (item, o) ≡ true
  rests_same due item o none = λ i. not (none i) && same_itself o i

  -- an item that is wanted as it was, and isn't due, keeps its moment
  stamp-rests : (due : List I) (was : List (I × Output)) (sent : List (I × ℕ)) (now : ℕ) (item : I) (o : Option Output) (at : Option ℕ) → find cmp item was ≡ o → find cmp item sent ≡ at → is_some at ≡ is_some o → is_due cmp due item ≡ false → option_map (λ w. stamp cmp due was sent now (item, w)) o ≡ at
  stamp-rests due was sent now item None None wanted stamped both none = refl
  stamp-rests due was sent now item None (Some at) wanted stamped both none = absurd (let e = both in cc)
  stamp-rests due was sent now item (Some w) None wanted stamped both none = absurd (let e = both in cc)
  stamp-rests due was sent now item (Some w) (Some at) wanted stamped both none =
      let had = unwrap_or (find cmp item sent) now in
      ap Some (ap (λ found. cond (rests cmp due found (item, w)) had now) wanted ∙ ap (λ b. cond b had now) (rests_same due item w none) ∙ ap (λ o. unwrap_or o now) stamped)

  -- what becomes of a moment: it goes, or it is this one
  abbrev gone : List (I × Output) → I × Output → Option (Option ℕ)
  gone is row = if is_none (find cmp row.0 is) then Some None else None

  abbrev sent_then : List I → ℕ → List (I × Output) → I × Output → Option (Option ℕ)
  sent_then due moment was row = if rests cmp due (find cmp row.0 was) row then None else Some (Some moment)

  forgotten_rows : (was is : List (I × Output)) → between cmp forgotten was is ≡ filter_map (λ row. option_map (λ y. (row.0, y)) (gone is row)) was
  forgotten_rows was is =
      filter_map_agree_within (λ row. forgotten (find cmp row.0 is) row) (λ row. option_map (λ y. (row.0, y)) (gone is row)) was
      (all-always (λ row. forgotten (find cmp row.0 is) row ≡ option_map (λ y. (row.0, y)) (gone is row)) (λ row. paired (is_none (find cmp row.0 is)) row.0 None) was)

  renewed_rows : (due : List I) (moment : ℕ) (was is : List (I × Output)) → between cmp (renewed_moment cmp due moment) is was ≡ filter_map (λ row. option_map (λ y. (row.0, y)) (sent_then due moment was row)) is
  renewed_rows due moment was is =
      filter_map_agree_within (λ row. renewed_moment cmp due moment (find cmp row.0 was) row) (λ row. option_map (λ y. (row.0, y)) (sent_then due moment was row)) is
      (all-always (λ row. renewed_moment cmp due moment (find cmp row.0 was) row ≡ option_map (λ y. (row.0, y)) (sent_then due moment was row)) (λ row. unpaired (rests cmp due (find cmp row.0 was) row) row.0 (Some moment)) is)

  -- moments that go, and that are renewed, stand in the order of items
  pub is_sorted-forgotten : (was is : List (I × Output)) → T (is_sorted cmp was) → T (is_sorted cmp (between cmp forgotten was is))
  is_sorted-forgotten was is g = subst (λ rows. T (is_sorted cmp rows)) (sym (forgotten_rows was is)) (sorted_made cmp (gone is) was g)

  pub is_sorted-renewed_moment : (due : List I) (moment : ℕ) (was is : List (I × Output)) → T (is_sorted cmp is) → T (is_sorted cmp (between cmp (renewed_moment cmp due moment) is was))
  is_sorted-renewed_moment due moment was is h = subst (λ rows. T (is_sorted cmp rows)) (sym (renewed_rows due moment was is)) (sorted_made cmp (sent_then due moment was) is h)

  -- what an item's moment becomes, by what was wanted and what is
  moment_becomes : (item : I) (due : List I) (sent : List (I × ℕ)) (moment : ℕ) (old new : Option Output) (at : Option ℕ) → find cmp item sent ≡ at → is_some (find cmp item sent) ≡ is_some old
      → option_map (λ o. cond (rests cmp due old (item, o)) (unwrap_or (find cmp item sent) moment) moment) new
      ≡ unwrap_or (option_or (option_and_then (λ o. cond (rests cmp due old (item, o)) None (Some (Some moment))) new) (option_and_then (λ o. cond (is_none new) (Some None) None) old)) (find cmp item sent)
  moment_becomes item due sent moment None None at has stamped = sym (none-is _ stamped)
  moment_becomes item due sent moment (Some o) None at has stamped = refl
  moment_becomes item due sent moment None (Some w) at has stamped = fresh (is_due cmp due item)
    where
      fresh : (b : Bool) → Some (cond (not b && false) (unwrap_or (find cmp item sent) moment) moment) ≡ unwrap_or (option_or (cond (not b && false) None (Some (Some moment))) None) (find cmp item sent)
      fresh true = refl
      fresh false = refl
  moment_becomes item due sent moment (Some o) (Some w) None has stamped = absurd (let e = ap is_some (sym has) ∙ stamped in cc)
  moment_becomes item due sent moment (Some o) (Some w) (Some at) has stamped = by (rests cmp due (Some o) (item, w))
    where
      by : (b : Bool) → Some (cond b (unwrap_or (find cmp item sent) moment) moment) ≡ unwrap_or (option_or (cond b None (Some (Some moment))) None) (find cmp item sent)
      by true = ap (λ o. Some (unwrap_or o moment)) has ∙ sym has
      by false = refl

module _ {I : Type 0} (cmp : I → I → Ordering) (total : IsTotalOrder cmp) (exact : (x y : I) → cmp x y ≡ Equal → x ≡ y) where
  -- The moment stays of an item that is wanted as it was, and isn't due.
  pub stamps-elsewhere : (due : List I) (was : List (I × Output)) (sent : List (I × ℕ)) (now : ℕ) (is : List (I × Output)) (item : I) → keys_of sent ≡ keys_of was → find cmp item is ≡ find cmp item was → is_due cmp due item ≡ false → find cmp item (stamps cmp due was sent now is) ≡ find cmp item sent
  stamps-elsewhere due was sent now is item known found none =
      find-stamps cmp exact due was sent now is item
      ∙ stamp-rests cmp due was sent now item (find cmp item is) (find cmp item sent) (sym found) refl (is_some-find_both cmp item sent was known ∙ ap is_some (sym found)) none

  -- what becomes of the moment of an item
  find-moments_between : (item : I) (due : List I) (moment : ℕ) (was is : List (I × Output)) → T (is_sorted cmp was) → T (is_sorted cmp is)
      → find cmp item (moments_between cmp due moment was is)
      ≡ option_or (option_and_then (λ o. sent_then cmp due moment was (item, o)) (find cmp item is)) (option_and_then (λ o. gone cmp is (item, o)) (find cmp item was))
  find-moments_between item due moment was is g h =
      find-append cmp item (between cmp (renewed_moment cmp due moment) is was) (between cmp forgotten was is)
      ∙ (λ i. option_or
      ((ap (find cmp item) (renewed_rows cmp due moment was is) ∙ find-made cmp total exact (sent_then cmp due moment was) item is h) i)
      ((ap (find cmp item) (forgotten_rows cmp was is) ∙ find-made cmp total exact (gone cmp is) item was g) i))

  module _ (due : List I) (was : List (I × Output)) (sent : List (I × ℕ)) (now : ℕ) (is : List (I × Output)) (g : T (is_sorted cmp was)) (h : T (is_sorted cmp is)) (known : keys_of sent ≡ keys_of was) where
    -- The moments of what is wanted are those of what was, but for what becomes of them between the two.
    pub find-moments : (item : I) → find cmp item (stamps cmp due was sent now is) ≡ unwrap_or (find cmp item (moments_between cmp due now was is)) (find cmp item sent)
    find-moments item =
        find-stamps cmp exact due was sent now is item
        ∙ moment_becomes cmp item due sent now (find cmp item was) (find cmp item is) (find cmp item sent) refl (is_some-find_both cmp item sent was known)
        ∙ ap (λ edit. unwrap_or edit (find cmp item sent)) (sym (find-moments_between item due now was is g h))

    -- So edits that are found as the moments become make the moments of what is wanted.
    pub edited_moments : (moments : List (I × Option ℕ)) → ((item : I) → find cmp item moments ≡ find cmp item (moments_between cmp due now was is)) → edited cmp moments sent ≡ stamps cmp due was sent now is
    edited_moments moments found =
        same_entries cmp total exact (edited cmp moments sent) (stamps cmp due was sent now is)
        (is_sorted-edited cmp total moments sent (subst T (sym (is_sorted-both cmp sent was known)) g))
        (subst T (sym (is_sorted-both cmp (stamps cmp due was sent now is) is (keys-stamps cmp due was sent now is))) h)
        (λ item.
        find-edited cmp total item moments sent
        ∙ over_unwrap (find cmp item moments) (find cmp item sent)
        ∙ ap (λ edit. unwrap_or edit (find cmp item sent)) (found item)
        ∙ sym (find-moments item))

  -- Where the same was wanted as is of all items that aren't touched, and none of them is due, what is sent, and what
  -- becomes of the moments, comes of the rows of the touched items.
  module _ (touched : I → Bool) (due : List I) (was is : List (I × Output)) (g : T (is_sorted cmp was)) (h : T (is_sorted cmp is)) (same : where_key cmp (λ item. not (touched item)) was ≡ where_key cmp (λ item. not (touched item)) is) (none : (item : I) → touched item ≡ false → is_due cmp due item ≡ false) where
    found : (item : I) → touched item ≡ false → find cmp item is ≡ find cmp item was
    found item apart = found_elsewhere cmp total exact touched was is same item apart

    pub touched_tears : (up : List (ℕ × Bool)) → between cmp (tear_for up) was is ≡ between cmp (tear_for up) (where_key cmp touched was) (where_key cmp touched is)
    touched_tears up = between-touched cmp total exact (tear_for up) touched was is g found (λ item o apart. refl)

    pub touched_sends : between cmp (send_for cmp due) is was ≡ between cmp (send_for cmp due) (where_key cmp touched is) (where_key cmp touched was)
    touched_sends =
        between-touched cmp total exact (send_for cmp due) touched is was h (λ item apart. sym (found item apart)) (λ item o apart. ap (λ b. cond b None (Some o)) (rests_same cmp due item o (none item apart)))

    touched_between : (now : ℕ) → moments_between cmp due now was is ≡ moments_between cmp due now (where_key cmp touched was) (where_key cmp touched is)
    touched_between now = λ i.
        between-touched cmp total exact (renewed_moment cmp due now) touched is was h (λ item apart. sym (found item apart)) (λ item o apart. ap (λ b. cond b None (Some (item, Some now))) (rests_same cmp due item o (none item apart))) i
        ++ between-touched cmp total exact forgotten touched was is g found (λ item o apart. refl) i

    pub touched_moments : (sent : List (I × ℕ)) (now : ℕ) → keys_of sent ≡ keys_of was → (moments : List (I × Option ℕ)) → ((item : I) → find cmp item moments ≡ find cmp item (moments_between cmp due now (where_key cmp touched was) (where_key cmp touched is))) → edited cmp moments sent ≡ stamps cmp due was sent now is
    touched_moments sent now known moments become =
        edited_moments due was sent now is g h known moments (λ item. become item ∙ ap (find cmp item) (sym (touched_between now)))
