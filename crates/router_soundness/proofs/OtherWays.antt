-- What messages do that come through stacks of labels or in Routed frames: each is one of a few outcomes.
use Rattle.std.specs.Prelude.{◌≡◌, ℕ, Bool, not, List, [], ◌∷◌, Option, Some, None}
use Rattle.std.specs.FinMap.Entries.{find}
use Rattle.std.specs.Option.{option_map_or}
use Rattle.std.proofs.lemmas.Bool.{cond_both}
use Rattle.rsvp_contents.specs.declared.messages.Content.{Content}
use Rattle.rsvp_contents.specs.declared.messages.Content.TheVariants as contents
use Rattle.rsvp_contents.specs.declared.messages.Path.{Path}
use Rattle.rsvp_contents.specs.declared.messages.PathErr.{PathErr}
use Rattle.rsvp_contents.specs.declared.messages.Resv.{Resv}
use Rattle.rsvp_contents.specs.declared.messages.ResvTear.{ResvTear}
use Rattle.lsr_facts.specs.declared.errors.RsvpError.{RsvpError}
use Rattle.lsr_facts.specs.declared.key.Key.{Key}
use Rattle.lsr_facts.specs.declared.path_fact.PathFact.{PathFact}
use Rattle.lsr_facts.specs.declared.refusal.Refusal.{Refusal}
use Rattle.lsr_facts.specs.declared.refusal.Refusal.TheVariants.{NoMatch}
use Rattle.lsr_facts.specs.declared.reply.Reply.{Reply}
use Rattle.lsr_facts.specs.declared.reply.Reply.TheVariants as replies
use Rattle.lsr_facts.specs.declared.router.Router.{Router}
use Rattle.lsr_facts.specs.Orders.{key_cmp}
use Rattle.lsr_facts.specs.declared.repair.Repair.{Repair}
use Rattle.lsr_facts.specs.declared.resv_fact.ResvStyle.{ResvStyle}
use Rattle.lsr_facts.specs.Reservations.{style_of}
use Rattle.abstract_paths.specs.Merging.{stack_path_failed}
use Rattle.abstract_paths.specs.Outcomes.{lsp}
use Rattle.abstract_paths.specs.Paths.{unknown_object}
use Rattle.abstract_paths.specs.Tears.{err_of_path}
use Rattle.abstract_router.specs.Arrivals.{routed_arrival, stack_arrival, unknown_routed_arrival, unknown_stack_arrival}
use Rattle.abstract_router.specs.Outcomes.{Outcome, of_paths, refused, replied}
use Rattle.abstract_router.specs.Reserving.{resv_replied}
use Rattle.abstract_router.specs.Returning.{all_returned, first_returned, repair_known_as, returned_err, returned_failed, returned_keys, returned_resv, returned_tear, returned_unknown, torn_back}
use Rattle.abstract_router.specs.States.{State, is_one_of, with_repairs_where}

-- a reply that refuses nothing
abbrev pub IsHeard : Reply → Type 0
IsHeard reply = (refusal : Refusal) → reply ≡ replies.Refused refusal → ⊥

module _ (P : Outcome → Type 0) (r : Router) (s : State) where
  -- Of messages that come through a stack a Path alone heeds an object that it doesn't know,
  pub unknown_stack_by : (class ctype : ℕ) (content : Content) → ((p : Path) → P (of_paths s (stack_path_failed r s.facts p (unknown_object class ctype)))) → P (stack_arrival r s content) → P (unknown_stack_arrival r s content class ctype)
  unknown_stack_by class ctype (contents.Path p) fails whole = fails p
  unknown_stack_by class ctype (contents.Resv v) fails whole = whole
  unknown_stack_by class ctype (contents.PathErr e) fails whole = whole
  unknown_stack_by class ctype (contents.ResvErr e) fails whole = whole
  unknown_stack_by class ctype (contents.PathTear t) fails whole = whole
  unknown_stack_by class ctype (contents.ResvTear t) fails whole = whole

  -- and of those that come in Routed frames a Resv.
  pub unknown_routed_by : (class ctype : ℕ) (content : Content) → ((v : Resv) → P (returned_unknown r s v class ctype)) → P (routed_arrival r s content) → P (unknown_routed_arrival r s content class ctype)
  unknown_routed_by class ctype (contents.Path p) fails whole = whole
  unknown_routed_by class ctype (contents.Resv v) fails whole = fails v
  unknown_routed_by class ctype (contents.PathErr e) fails whole = whole
  unknown_routed_by class ctype (contents.ResvErr e) fails whole = whole
  unknown_routed_by class ctype (contents.PathTear t) fails whole = whole
  unknown_routed_by class ctype (contents.ResvTear t) fails whole = whole

  module _ (refuses : P (refused s NoMatch)) where
    -- A Resv from the end of a bypass is refused, or answered after its descriptors,
    pub returned_resv_by : (v : Resv) → ((style : ResvStyle) (reply : Reply) → IsHeard reply → P (replied reply (all_returned r s style v).errors (all_returned r s style v).state)) → P (returned_resv r s v)
    unfolding returned_resv
    returned_resv_by v answered = by_style (style_of v.style)
      where
        by_first : (style : ResvStyle) (first : Option RsvpError) → P (resv_replied s (all_returned r s style v) first)
        by_first style (Some e) = answered style (replies.Error e) (λ refusal is. cc)
        by_first style None = cond_both (all_returned r s style v).has_granted _ _ P (λ some. answered style replies.Done (λ refusal is. cc)) (λ none. refuses)

        by_style : (style : Option ResvStyle) → P (option_map_or (λ style. let progress = all_returned r s style v in resv_replied s progress progress.first) style (refused s NoMatch))
        by_style None = refuses
        by_style (Some style) = by_first style (all_returned r s style v).first

    -- and one with an object that it doesn't know is refused, or in error for a repair.
    pub returned_unknown_by : (v : Resv) (class ctype : ℕ) → ((repair : Key × Repair) → P (returned_failed r s v (unknown_object class ctype) repair)) → P (returned_unknown r s v class ctype)
    unfolding returned_unknown
    returned_unknown_by v class ctype fails = by (first_returned r s v v.descriptors)
      where
        by : (o : Option (Key × Repair)) → P (option_map_or (returned_failed r s v (unknown_object class ctype)) o (refused s NoMatch))
        by None = refuses
        by (Some repair) = fails repair

    -- A ResvTear is refused, or takes repairs away,
    pub returned_tear_by : (t : ResvTear) → ((test : Key × Repair → Bool) → P (replied replies.Done [] (with_repairs_where test s))) → P (returned_tear r s t)
    unfolding returned_tear
    returned_tear_by t takes = by (returned_keys r s t)
      where
        by : (keys : List Key) → P (torn_back s keys)
        by [] = refuses
        by (key ∷ keys) = takes (λ repair. not (is_one_of (key ∷ keys) repair.0))

    -- and a PathErr is refused, or for a path that is known.
    pub returned_err_by : (e : PathErr) → ((key : Key) (path : PathFact) → P (of_paths s (err_of_path r s.facts key e path))) → P (returned_err r s e)
    unfolding returned_err
    returned_err_by e passes = by (repair_known_as r s (lsp e.session e.sender))
      where
        of : (key : Key) (o : Option PathFact) → P (option_map_or (λ path. of_paths s (err_of_path r s.facts key e path)) o (refused s NoMatch))
        of key None = refuses
        of key (Some path) = passes key path

        by : (o : Option (Key × Repair)) → P (option_map_or (λ repair. option_map_or (λ path. of_paths s (err_of_path r s.facts repair.0 e path)) (find key_cmp repair.0 s.facts.paths) (refused s NoMatch)) o (refused s NoMatch))
        by None = refuses
        by (Some repair) = of repair.0 (find key_cmp repair.0 s.facts.paths)
