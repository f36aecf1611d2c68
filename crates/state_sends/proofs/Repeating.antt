-- Where the same is wanted before and after, what is due is sent again, and nothing else.
use Rattle.std.specs.Prelude.{◌≡◌, ◌&&◌, ℕ, not, Bool, true, false, cond, T, List, [], ◌∷◌, ◌++◌, Option, Some, None, filter_map, reverse}
use Rattle.std.specs.Cmp.{IsTotalOrder}
use Rattle.std.specs.FinMap.Entries.{find, is_sorted}
use Rattle.std.specs.List.{AllByRecursion, cons_option}
use Rattle.std.specs.Option.{option_map, option_to_list}
use Rattle.std.specs.declared.cmp.Ordering.{Ordering}
use Rattle.std.proofs.Common.{append_assoc, refl, sym, ap, subst, ◌∙◌}
use Rattle.std.proofs.lemmas.Cmp.{nat_list_eq_equiv}
use Rattle.std.proofs.lemmas.List.{reverse-append}
use Rattle.sorted_rows.specs.ListLaws.{all-weaker, filter_map_agree_within}
use Rattle.sorted_rows.specs.RowsLaws.{all_found}
use Rattle.abstract_paths.specs.Frames.{frame_bytes}
use Rattle.abstract_paths.specs.declared.events.Output.{Output}
use Rattle.abstract_paths.specs.Outputs.{between, is_due, is_same_frame, send_for, tear_for}
use Rattle.abstract_paths.specs.Touched.{forgotten, moments_between, renewed_moment}
use Rattle.state_sends.specs.Going.{going}
use Rattle.state_sends.specs.Placing.{placed}
use Rattle.state_sends.proofs.Placing.{find-become}

-- what is given of one row first, and then of the others
first_given : {Y : Type 0} (o : Option Y) (there rest : List Y) → (there ++ option_to_list o) ++ rest ≡ there ++ cons_option o rest
first_given None there rest = append_assoc there [] rest
first_given (Some y) there rest = append_assoc there (y ∷ []) rest

first_placed : {K V : Type 0} (cmp : K → K → Ordering) (o : Option (K × V)) (table rest : List (K × V)) → placed cmp (placed cmp table (option_to_list o)) rest ≡ placed cmp table (cons_option o rest)
first_placed cmp None table rest = refl
first_placed cmp (Some y) table rest = refl

-- a row that is taken from the end of what is left, and put after what is there
module _ {X : Type 0} (before left : List X) (x : X) (popped : before ≡ left ++ x ∷ []) where
  pub one_sent : {Y : Type 0} (f : X → Option Y) (there after : List Y) (o : Option Y) → o ≡ f x → after ≡ there ++ option_to_list o → after ++ filter_map f (reverse left) ≡ there ++ filter_map f (reverse before)
  one_sent f there after o gives now =
      ap (λ ys. ys ++ filter_map f (reverse left)) (now ∙ ap (λ y. there ++ option_to_list y) gives)
      ∙ first_given (f x) there (filter_map f (reverse left))
      ∙ ap (λ xs. there ++ filter_map f xs) (sym (ap reverse popped ∙ reverse-append left (x ∷ [])))

  pub one_renewed : {K V : Type 0} (cmp : K → K → Ordering) (f : X → Option (K × V)) (there after : List (K × V)) (o : Option (K × V)) → o ≡ f x → after ≡ placed cmp there (option_to_list o) → placed cmp after (filter_map f (reverse left)) ≡ placed cmp there (filter_map f (reverse before))
  one_renewed cmp f there after o gives now =
      ap (λ ys. placed cmp ys (filter_map f (reverse left))) (now ∙ ap (λ y. placed cmp there (option_to_list y)) gives)
      ∙ first_placed cmp (f x) there (filter_map f (reverse left))
      ∙ ap (λ xs. placed cmp there (filter_map f xs)) (sym (ap reverse popped ∙ reverse-append left (x ∷ [])))

-- where nothing is given of any element, nothing is given
none_given : {X Y : Type 0} (f : X → Option Y) (xs : List X) → AllByRecursion (λ x. f x ≡ None) xs → filter_map f xs ≡ []
none_given f [] h = refl
none_given f (x ∷ xs) h = λ i. cons_option (h.0 i) (none_given f xs h.1 i)

-- what is due is sent, and what is the same rests
sent_by : {I : Type 0} (b same : Bool) (row : I × Output) → same ≡ true → option_map (λ r. r.1) (cond b (Some row) None) ≡ cond (not b && same) None (Some row.1)
sent_by true same row is = refl
sent_by false same row is = ap (λ s. cond s None (Some row.1)) (sym is)

renewed_by : {I : Type 0} (b same : Bool) (moment : ℕ) (row : I × Output) → same ≡ true → option_map {U = I × Option ℕ} (λ r. (r.0, Some moment)) (cond b (Some row) None) ≡ cond (not b && same) None (Some (row.0, Some moment))
renewed_by true same moment row is = refl
renewed_by false same moment row is = ap (λ s. cond s None (Some (row.0, Some moment))) (sym is)

module _ {I : Type 0} (cmp : I → I → Ordering) (total : IsTotalOrder cmp) (due : List I) (is : List (I × Output)) (h : T (is_sorted cmp is)) where
  -- what holds of each row beside its own frame holds of each beside what is found
  each : (P : Option Output → I × Output → Type 0) → ((row : I × Output) → P (Some row.1) row) → AllByRecursion (λ row. P (find cmp row.0 is) row) is
  each P own =
      all-weaker (λ row. find cmp row.0 is ≡ Some row.1) (λ row. P (find cmp row.0 is) row) (λ row found. subst (λ o. P o row) (sym found) (own row)) is (all_found cmp total is h)

  same : (row : I × Output) → is_same_frame row.1.frame row.1.frame ≡ true
  same row = nat_list_eq_equiv.refl (frame_bytes row.1.frame)

  pub none_torn : (up : List (ℕ × Bool)) → [] ≡ between cmp (tear_for up) is is
  none_torn up = sym (none_given (λ row. tear_for up (find cmp row.0 is) row) is (each (λ o row. tear_for up o row ≡ None) (λ row. refl)))

  none_forgotten : between cmp forgotten is is ≡ []
  none_forgotten = none_given (λ row. forgotten (find cmp row.0 is) row) is (each (λ o row. forgotten o row ≡ None) (λ row. refl))

  pub due_sent : filter_map (λ row. option_map (λ r. r.1) (going cmp due row)) is ≡ between cmp (send_for cmp due) is is
  due_sent =
      filter_map_agree_within (λ row. option_map (λ r. r.1) (going cmp due row)) (λ row. send_for cmp due (find cmp row.0 is) row) is
      (each (λ o row. option_map (λ r. r.1) (going cmp due row) ≡ send_for cmp due o row) (λ row. sent_by (is_due cmp due row.0) (is_same_frame row.1.frame row.1.frame) row (same row)))

  due_renewed : (moment : ℕ) → filter_map (λ row. option_map (λ r. (r.0, Some moment)) (going cmp due row)) is ≡ between cmp (renewed_moment cmp due moment) is is
  due_renewed moment =
      filter_map_agree_within (λ row. option_map (λ r. (r.0, Some moment)) (going cmp due row)) (λ row. renewed_moment cmp due moment (find cmp row.0 is) row) is
      (each (λ o row. option_map (λ r. (r.0, Some moment)) (going cmp due row) ≡ renewed_moment cmp due moment o row) (λ row. renewed_by (is_due cmp due row.0) (is_same_frame row.1.frame row.1.frame) moment row (same row)))

  -- So the moments are found as they become.
  pub find-again : (moment : ℕ) (item : I) → find cmp item (placed cmp [] (filter_map (λ row. option_map (λ r. (r.0, Some moment)) (going cmp due row)) is)) ≡ find cmp item (moments_between cmp due moment is is)
  find-again moment item =
      (λ i. find cmp item (placed cmp (placed cmp [] (sym none_forgotten i)) (due_renewed moment i)))
      ∙ find-become cmp total due moment is is h h item
