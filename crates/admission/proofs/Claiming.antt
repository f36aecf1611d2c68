-- A change of one LSP's claim keeps the sums.
use Rattle.std.proofs.Common.{◌≡◌, ◌≢◌, ℕ, ◌+◌, ◌-◌, ◌==◌, ◌<◌, ◌≤◌, ◌^◌, T, Bool, true, false, cond, not, List, [], ◌∷◌, Option, Some, None, length, map, refl, sym, ap, subst, ◌∙◌, arith}
use Rattle.std.specs.FinMap.Entries.{find, is_sorted, is_sorted-put, is_sorted-where_key, put, where_key}
use Rattle.std.specs.List.{filter}
use Rattle.std.specs.Option.{option_map_or}
use Rattle.std.specs.Ordering.{is_eq}
use Rattle.std.specs.Prelude.{IfSome}
use Rattle.std.proofs.lemmas.Bool.{eq-eqb, false≢true, or_parts}
use Rattle.std.proofs.lemmas.List.Sums.{count_by-le-length, length-filter}
use Rattle.rsvp_objects.specs.declared.values.Session.{Session}
use Rattle.sorted_rows.specs.ListLaws.{all-filter}
use Rattle.sorted_rows.specs.RowsLaws.{all-put}
use Rattle.lsr_facts.specs.Orders.{key_cmp}
use Rattle.lsr_facts.specs.OrderLaws.{key_total}
use Rattle.lsr_facts.specs.declared.key.Key.{Key}
use Rattle.lsr_facts.specs.AdmissionLaws.{reserved_of-put_elsewhere}
use Rattle.lsr_facts.specs.Claims.{reserved_of}
use Rattle.lsr_facts.specs.declared.claim.Claim.{Claim}
use Rattle.admission.proofs.Bounds.{reserved_of-fits}
use Rattle.admission.proofs.Keeping.{sums_moved}
use Rattle.admission.proofs.Moving.{mine, moved, others, others_put, others_removed, reserved_of-removed_elsewhere}
use Rattle.admission.specs.Bandwidths.{AreRated}
use Rattle.admission.specs.Running.{AreSums, is_touched, less, more}
use Rattle.admission.specs.declared.running.LinkSum.{LinkSum}
use Rattle.admission.specs.declared.running.Touched.{Touched}

-- all of a list pass a filter that leaves as many
pub filter-full : {A : Type 0} (p : A → Bool) (xs : List A) → length xs ≤ length (filter p xs) → filter p xs ≡ xs
filter-full p [] full = refl
filter-full p (x ∷ xs) full =
    let most = length-filter p xs in
    let within = count_by-le-length p xs in
    elim (p x) as (λ b. length (x ∷ xs) ≤ length (cond b (x ∷ filter p xs) (filter p xs)) → cond b (x ∷ filter p xs) (filter p xs) ≡ x ∷ xs) [
      | true ↦ λ all. ap (λ ys. x ∷ ys) (filter-full p xs (omega (arith, all)))
      | false ↦ λ all. absurd (omega (arith, all, most, within))
    ] full

-- What is reserved after only the claims of a session changed, from what was: it fits.
pub exchanged : (link p : ℕ) (session : Session) (xs ys : List (Key × Claim)) → T (is_sorted key_cmp xs) → T (is_sorted key_cmp ys) → others session ys ≡ others session xs → AreRated ys → length ys ≤ 1025 → (total part more : ℕ) → total ≡ reserved_of link p xs → part ≡ reserved_of link p (mine session xs) → more ≡ reserved_of link p (mine session ys) → (part ≤ total) × ((total - part) + more ≡ reserved_of link p ys) × ((total - part) + more < 2 ^ 64)
exchanged link p session xs ys h g same rated few total part more all own now =
    let law = moved link p session xs ys h g same in
    let fits = reserved_of-fits link p ys g rated few in
    let within = law.0 in
    let is = law.1 in
    (omega (arith, all, own, within), omega (arith, all, own, now, within, is), omega (arith, all, own, now, within, is, fits))

-- a link that isn't touched is another one than those that are
not_touched : (touched : Touched) (link other : ℕ) → is_touched touched link ≡ false → (touched.before ≡ other → other ≢ link) × (touched.after ≡ other → other ≢ link)
not_touched touched link other un =
    let parts = or_parts (link == touched.before) (link == touched.after) un in (
      λ is same. absurd (false≢true (sym parts.0 ∙ eq-eqb link touched.before (sym (is ∙ same)))),
      λ is same. absurd (false≢true (sym parts.1 ∙ eq-eqb link touched.after (sym (is ∙ same)))),
    )

module _ (key : Key) (xs : List (Key × Claim)) (h : T (is_sorted key_cmp xs)) (touched : Touched) (sums between now : List LinkSum) (was_run now_run : List (Key × Claim)) (own : was_run ≡ mine key.session xs) (are : AreSums xs sums) (off : between ≡ map (less touched was_run) sums) (on : now ≡ map (more touched now_run) between) where
  off_mine : between ≡ map (less touched (mine key.session xs)) sums
  off_mine = off ∙ ap (λ run. map (less touched run) sums) own

  on_mine : (ys : List (Key × Claim)) → now_run ≡ mine key.session ys → now ≡ map (more touched (mine key.session ys)) between
  on_mine ys is = on ∙ ap (λ run. map (more touched run) between) is

  -- Where a claim is put.
  pub put_keeps : (claim : Claim) (was : Option Claim) → now_run ≡ mine key.session (put key_cmp key claim xs) → find key_cmp key xs ≡ was → touched.before ≡ option_map_or (λ (old : Claim). old.link) was claim.link → touched.after ≡ claim.link → claim.rate ≤ 2 ^ 50 → AreRated xs → length (put key_cmp key claim xs) ≤ 1024 → AreRated (put key_cmp key claim xs) × AreSums (put key_cmp key claim xs) now
  put_keeps claim was is found before after most rated few =
      let ys = put key_cmp key claim xs in
      let sorted = is_sorted-put key_cmp key_total key claim xs h in
      let all = all-put key_cmp (λ (c : Claim). c.rate ≤ 2 ^ 50) key claim most xs rated in
      let room : length ys ≤ 1025 = omega (arith, few) in
      let unseen : (link p : ℕ) → is_touched touched link ≡ false → reserved_of link p ys ≡ reserved_of link p xs = λ link p un.
      reserved_of-put_elsewhere link p key claim xs ((not_touched touched link claim.link un).1 after) (subst (λ o. IfSome o (λ old. old.link ≢ link)) (sym found) (old_elsewhere claim was before link un)) in
      (all, sums_moved touched key.session xs ys h sorted (others_put key claim xs) (λ link p. reserved_of-fits link p ys sorted all room) unseen sums between now are off_mine (on_mine ys is))
    where
      old_elsewhere : (claim : Claim) (was : Option Claim) → touched.before ≡ option_map_or (λ (old : Claim). old.link) was claim.link → (link : ℕ) → is_touched touched link ≡ false → IfSome was (λ old. old.link ≢ link)
      old_elsewhere claim None before link un = tt
      old_elsewhere claim (Some old) before link un = (not_touched touched link old.link un).0 before

  -- Where an LSP's claim is taken away.
  pub removal_keeps : (was : Claim) → now_run ≡ mine key.session (where_key key_cmp (λ other. not (is_eq (key_cmp key other))) xs) → find key_cmp key xs ≡ Some was → touched.before ≡ was.link → AreRated xs → length xs ≤ 1024 → AreRated (where_key key_cmp (λ other. not (is_eq (key_cmp key other))) xs) × AreSums (where_key key_cmp (λ other. not (is_eq (key_cmp key other))) xs) now
  removal_keeps was is found before rated few =
      let stays = λ (other : Key). not (is_eq (key_cmp key other)) in
      let ys = where_key key_cmp stays xs in
      let sorted = is_sorted-where_key key_cmp stays xs h in
      let all = all-filter (λ (row : Key × Claim). row.1.rate ≤ 2 ^ 50) (λ (row : Key × Claim). stays row.0) xs rated in
      let room : length ys ≤ 1025 = omega (arith, few, length-filter (λ (row : Key × Claim). stays row.0) xs, count_by-le-length (λ (row : Key × Claim). stays row.0) xs) in
      let unseen : (link p : ℕ) → is_touched touched link ≡ false → reserved_of link p ys ≡ reserved_of link p xs = λ link p un.
      reserved_of-removed_elsewhere link p key was xs h ((not_touched touched link was.link un).0 before) found in
      (all, sums_moved touched key.session xs ys h sorted (others_removed key xs) (λ link p. reserved_of-fits link p ys sorted all room) unseen sums between now are off_mine (on_mine ys is))
