-- What a ResvTear does that came back from the end of a bypass, by the repairs that it is for.
use Rattle.std.specs.Prelude.{◌≡◌, ◌||◌, not, true, false, List, [], ◌∷◌, filter_map, is_some, length, Option, Some, None}
use Rattle.std.specs.List.{cons_option, list_any}
use Rattle.std.specs.Option.{option_map}
use Rattle.std.proofs.Common.{refl, ap, arith}
use Rattle.rsvp_contents.specs.declared.messages.ResvTear.{ResvTear}
use Rattle.lsr_facts.specs.declared.key.Key.{Key}
use Rattle.lsr_facts.specs.declared.refusal.Refusal.TheVariants.{NoMatch}
use Rattle.lsr_facts.specs.declared.reply.Reply.TheVariants as replies
use Rattle.lsr_facts.specs.declared.router.Router.{Router}
use Rattle.abstract_paths.specs.Outcomes.{lsp}
use Rattle.abstract_router.specs.Outcomes.{refused, replied}
use Rattle.abstract_router.specs.Returning.{repair_from, returned_keys, returned_tear, torn_back}
use Rattle.abstract_router.specs.States.{State, is_one_of, with_repairs_where}

-- what takes something away isn't silent
torn_speaks : {X : Type 0} (s : State) (f : X → Option Key) (xs : List X) → list_any (λ x. is_some (f x)) xs ≡ true → (torn_back s (filter_map f xs)).is_silent ≡ false
torn_speaks s f [] any = absurd (let e = any in cc)
torn_speaks s f (x ∷ xs) any = by (f x) (torn_speaks s f xs) any
  where
    by : (o : Option Key) → (list_any (λ y. is_some (f y)) xs ≡ true → (torn_back s (filter_map f xs)).is_silent ≡ false) → (is_some o || list_any (λ y. is_some (f y)) xs) ≡ true → (torn_back s (cons_option o (filter_map f xs))).is_silent ≡ false
    by None rest any = rest any
    by (Some key) rest any = refl

-- A ResvTear of which a filter is for a repair isn't silent.
pub tear_speaks : (r : Router) (s : State) (t : ResvTear) → list_any (λ filter_spec. is_some (option_map (λ repair. repair.0) (repair_from r s t.hop.address (lsp t.session filter_spec)))) t.filters ≡ true → (returned_tear r s t).is_silent ≡ false
unfolding returned_tear
tear_speaks r s t any = torn_speaks s (λ filter_spec. option_map (λ repair. repair.0) (repair_from r s t.hop.address (lsp t.session filter_spec))) t.filters any

-- Where it is for none, it is refused.
pub tears_none : (r : Router) (s : State) (t : ResvTear) (keys : List Key) → keys ≡ returned_keys r s t → length keys ≡ 0 → refused s NoMatch ≡ returned_tear r s t
unfolding returned_tear
tears_none r s t [] is none = ap (torn_back s) is
tears_none r s t (key ∷ keys) is none = absurd (omega (arith, none))

-- Where it is for some, these go.
pub tears_some : (r : Router) (s : State) (t : ResvTear) (keys : List Key) → keys ≡ returned_keys r s t → (length keys ≡ 0 → ⊥) → replied replies.Done [] (with_repairs_where (λ repair. not (is_one_of keys repair.0)) s) ≡ returned_tear r s t
unfolding returned_tear
tears_some r s t [] is some = absurd (some refl)
tears_some r s t (key ∷ keys) is some = ap (torn_back s) is
