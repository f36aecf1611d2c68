-- What a change of one LSP's claim makes of what is reserved: only the claims of its session change.
use Rattle.std.proofs.Common.{◌≡◌, ◌≢◌, ℕ, ◌+◌, ◌-◌, ◌≤◌, T, Bool, true, false, cond, not, List, [], ◌∷◌, Some, None, refl, sym, ap, subst, ◌∙◌, arith}
use Rattle.std.specs.FinMap.Entries.{by_order, find, find-where_key, is_sorted, put, where_key}
use Rattle.std.specs.List.{filter}
use Rattle.std.specs.Ordering.{is_eq}
use Rattle.std.specs.Prelude.{IfSome}
use Rattle.std.specs.declared.cmp.Ordering.{Ordering}
use Rattle.std.specs.declared.cmp.Ordering.TheVariants.{Less, Equal, Greater}
use Rattle.std.proofs.lemmas.Bool.{false≢true}
use Rattle.std.proofs.lemmas.Cmp.{tied_itself}
use Rattle.rsvp_objects.specs.declared.values.Session.{Session}
use Rattle.sorted_rows.specs.ListLaws.{all-always}
use Rattle.sorted_rows.specs.RowsLaws.{ties}
use Rattle.lsr_facts.specs.Orders.{key_cmp}
use Rattle.lsr_facts.specs.OrderLaws.{key_exact, key_total, session_total}
use Rattle.lsr_facts.specs.declared.key.Key.{Key}
use Rattle.lsr_facts.specs.Admission.{granted}
use Rattle.lsr_facts.specs.AdmissionLaws.{reserved_of-put_away, reserved_of-put_elsewhere}
use Rattle.lsr_facts.specs.Claims.{is_of, is_same_session, reserved_of}
use Rattle.lsr_facts.specs.SumLaws.{filter_within, where_key-put}
use Rattle.lsr_facts.specs.declared.claim.Claim.{Claim}
use Rattle.lsr_facts.specs.declared.claim.Request.{Request}
use Rattle.admission.proofs.Splitting.{reserved_of-split}

-- a test that fails where another passes
fails_there : (a b : Bool) → (b ≡ true → a ≡ false) → a ≡ true → not b ≡ true
fails_there a true apart passes = absurd (false≢true (sym (apart refl) ∙ passes))
fails_there a false apart passes = refl

module _ {K X : Type 0} (cmp : K → K → Ordering) (p : K → Bool) (k : K) (out : (x : K) → cmp k x ≡ Equal → p x ≡ false) where
  -- a put under a key that fails a test leaves those that pass it
  others-put : (v : X) → p k ≡ false → (es : List (K × X)) → where_key cmp p (put cmp k v es) ≡ where_key cmp p es
  others-put v fails [] = ap (λ b. cond b ((k, v) ∷ []) []) fails
  others-put v fails (e ∷ es) =
      let rest = where_key cmp p es in
      elim (cmp k e.0) as (λ r. cmp k e.0 ≡ r → where_key cmp p (by_order r ((k, v) ∷ e ∷ es) ((e.0, v) ∷ es) (e ∷ put cmp k v es)) ≡ where_key cmp p (e ∷ es)) [
        | Less ↦ λ is. ap (λ b. cond b ((k, v) ∷ where_key cmp p (e ∷ es)) (where_key cmp p (e ∷ es))) fails
        | Equal ↦ λ is. ap (λ b. cond b ((e.0, v) ∷ rest) rest) (out e.0 is) ∙ sym (ap (λ b. cond b (e ∷ rest) rest) (out e.0 is))
        | Greater ↦ λ is. ap (λ (kept : List (K × X)). cond (p e.0) (e ∷ kept) kept) (others-put v fails es)
      ] refl

  -- and so does a removal
  others-removed : (es : List (K × X)) → where_key cmp p (where_key cmp (λ x. not (is_eq (cmp k x))) es) ≡ where_key cmp p es
  others-removed es =
      filter_within (λ e. p e.0) (λ e. not (is_eq (cmp k e.0))) es
      (all-always (λ (e : K × X). p e.0 ≡ true → not (is_eq (cmp k e.0)) ≡ true) (λ e. fails_there (p e.0) (is_eq (cmp k e.0)) (λ tie. out e.0 (ties _ tie))) es)

-- the claims of a session, and those of the others
abbrev pub mine : Session → List (Key × Claim) → List (Key × Claim)
mine session = filter (is_of session)

abbrev pub others : Session → List (Key × Claim) → List (Key × Claim)
others session = filter (λ row. not (is_of session row))

module _ (key : Key) where
  -- no LSP with the same key is of another session
  same_out : (x : Key) → key_cmp key x ≡ Equal → not (is_same_session key.session x.session) ≡ false
  same_out x tie = subst (λ (k : Key). not (is_same_session key.session k.session) ≡ false) (key_exact key x tie) (ap (λ o. not (is_eq o)) (tied_itself session_total key.session))

  -- The claims of other sessions are the same after a put, and after a removal.
  pub others_put : (claim : Claim) (claims : List (Key × Claim)) → others key.session (put key_cmp key claim claims) ≡ others key.session claims
  others_put claim = others-put key_cmp (λ k. not (is_same_session key.session k.session)) key same_out claim (same_out key (tied_itself key_total key))

  pub others_removed : (claims : List (Key × Claim)) → others key.session (where_key key_cmp (λ other. not (is_eq (key_cmp key other))) claims) ≡ others key.session claims
  others_removed = others-removed key_cmp (λ k. not (is_same_session key.session k.session)) key same_out

  -- What an LSP takes is found among the claims of its session.
  pub find_mine : (claims run : List (Key × Claim)) → run ≡ mine key.session claims → find key_cmp key claims ≡ find key_cmp key run
  find_mine claims run own =
      let same : Key → Bool = λ k. is_same_session key.session k.session in
      let kept = ap (λ b. cond b (find key_cmp key claims) None) (ap is_eq (tied_itself session_total key.session)) in
      sym (ap (find key_cmp key) own ∙ find-where_key key_cmp same key (λ x tie. ap same (sym (key_exact key x tie))) claims ∙ kept)

-- The claims of a request's session, once it is granted, are those of before with it granted.
pub mine_granted : (request : Request) (claims : List (Key × Claim)) → T (is_sorted key_cmp claims) → mine request.key.session (granted request claims) ≡ granted request (mine request.key.session claims)
mine_granted request claims h =
    where_key-put key_cmp key_total key_exact (λ key. is_same_session request.key.session key.session) request.key request.claim claims (ap is_eq (tied_itself session_total request.key.session)) h

-- the step of the next law
moved_step : (x y mx my o : ℕ) → x ≡ mx + o → y ≡ my + o → (mx ≤ x) × (y ≡ (x - mx) + my)
moved_step x y mx my o before after = (omega (arith, before), omega (arith, before, after))

-- Where only the claims of a session differ, what they reserve may be taken off, and what they reserve now added.
pub moved : (link p : ℕ) (session : Session) (xs ys : List (Key × Claim)) → T (is_sorted key_cmp xs) → T (is_sorted key_cmp ys) → others session ys ≡ others session xs → (reserved_of link p (mine session xs) ≤ reserved_of link p xs) × (reserved_of link p ys ≡ (reserved_of link p xs - reserved_of link p (mine session xs)) + reserved_of link p (mine session ys))
moved link p session xs ys h g same =
    moved_step (reserved_of link p xs) (reserved_of link p ys) (reserved_of link p (mine session xs)) (reserved_of link p (mine session ys)) (reserved_of link p (others session xs))
    (reserved_of-split link p session xs h)
    (reserved_of-split link p session ys g ∙ ap (λ rows. reserved_of link p (mine session ys) + reserved_of link p rows) same)

-- A claim on another link that goes changes nothing.
pub reserved_of-removed_elsewhere : (link p : ℕ) (key : Key) (claim : Claim) (claims : List (Key × Claim)) → T (is_sorted key_cmp claims) → claim.link ≢ link → find key_cmp key claims ≡ Some claim → reserved_of link p (where_key key_cmp (λ other. not (is_eq (key_cmp key other))) claims) ≡ reserved_of link p claims
reserved_of-removed_elsewhere link p key claim claims h other found =
    sym (reserved_of-put_away link p key claim claims h other)
    ∙ reserved_of-put_elsewhere link p key claim claims other (subst (λ o. IfSome o (λ old. old.link ≢ link)) (sym found) other)
