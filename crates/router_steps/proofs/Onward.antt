-- What a ResvErr does, by what goes on of it.
use Rattle.std.specs.Option.{option_to_list}
use Rattle.std.specs.Prelude.{◌≡◌, ℕ, true, false, ◌||◌, List, [], ◌∷◌, ◌++◌, filter_map, is_some, length, map, Option, Some, None}
use Rattle.std.specs.List.{cons_option, flat_map, list_any}
use Rattle.std.proofs.Common.{refl, sym, ap, arith, ◌∙◌}
use Rattle.rsvp_contents.specs.declared.messages.ResvErr.{ResvErr}
use Rattle.lsr_facts.specs.declared.refusal.Refusal.TheVariants.{NoMatch}
use Rattle.lsr_facts.specs.declared.reply.Reply.TheVariants as replies
use Rattle.lsr_facts.specs.declared.router.Router.{Router}
use Rattle.abstract_paths.specs.declared.events.Output.{Output}
use Rattle.abstract_router.specs.Outcomes.{refused, replied}
use Rattle.abstract_router.specs.States.{State}
use Rattle.abstract_router.specs.Tearing.{resv_err_passed_on}
use Rattle.router_steps.specs.Onward.{err_by, passed_on}

-- what is passed on of one that matches isn't silent
passed_speaks : {X : Type 0} (s : State) (f : X → Option (List Output)) (xs : List X) → list_any (λ x. is_some (f x)) xs ≡ true → (resv_err_passed_on s (filter_map f xs)).is_silent ≡ false
passed_speaks s f [] any = absurd (let e = any in cc)
passed_speaks s f (x ∷ xs) any = by (f x) (passed_speaks s f xs) any
  where
    by : (o : Option (List Output)) → (list_any (λ y. is_some (f y)) xs ≡ true → (resv_err_passed_on s (filter_map f xs)).is_silent ≡ false) → (is_some o || list_any (λ y. is_some (f y)) xs) ≡ true → (resv_err_passed_on s (cons_option o (filter_map f xs))).is_silent ≡ false
    by None rest any = rest any
    by (Some told) rest any = refl

-- A ResvErr of which a descriptor matches isn't silent.
pub err_speaks : (r : Router) (s : State) (over : Option ℕ) (e : ResvErr) → list_any (λ d. is_some (err_by r s over e d)) e.descriptors ≡ true → (passed_on r s over e).is_silent ≡ false
unfolding passed_on
err_speaks r s over e any = passed_speaks s (err_by r s over e) e.descriptors any

-- the messages that go on, one after the other
flat_listed : (told : List (Option Output)) → flat_map (λ one. one) (map option_to_list told) ≡ flat_map option_to_list told
flat_listed [] = refl
flat_listed (one ∷ more) = ap (λ rest. option_to_list one ++ rest) (flat_listed more)

-- Where none matches, it is refused.
pub none_onward : (r : Router) (s : State) (over : Option ℕ) (e : ResvErr) (told : List (Option Output)) → map option_to_list told ≡ filter_map (err_by r s over e) e.descriptors → length told ≡ 0 → refused s NoMatch ≡ passed_on r s over e
unfolding passed_on
none_onward r s over e [] is none = ap (resv_err_passed_on s) is
none_onward r s over e (one ∷ more) is none = absurd (omega (arith, none))

-- Where one does, what goes on is told.
pub some_onward : (r : Router) (s : State) (over : Option ℕ) (e : ResvErr) (told : List (Option Output)) → map option_to_list told ≡ filter_map (err_by r s over e) e.descriptors → (length told ≡ 0 → ⊥) → replied replies.Done (flat_map option_to_list told) s ≡ passed_on r s over e
unfolding passed_on
some_onward r s over e [] is some = absurd (some refl)
some_onward r s over e (one ∷ more) is some = ap (λ (outputs : List Output). replied replies.Done outputs s) (sym (flat_listed (one ∷ more))) ∙ ap (resv_err_passed_on s) is
