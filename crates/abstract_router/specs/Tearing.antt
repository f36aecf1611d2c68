-- What a ResvTear and a ResvErr do (RFC 2205, 3.1.6 and 3.1.8).
use Rattle.std.specs.Prelude.{ℕ, ◌==◌, ◌&&◌, not, Bool, if◌then◌else◌, List, [], ◌∷◌, filter_map, find as find_first, Option, Some, None}
use Rattle.std.specs.FinMap.Entries.{find}
use Rattle.std.specs.List.{flat_map, list_any}
use Rattle.std.specs.Option.{option_and_then, option_map, option_or, option_to_list}
use Rattle.std.specs.Ordering.{is_eq}
use Rattle.rsvp_contents.specs.declared.messages.ResvErr.{ResvErr}
use Rattle.rsvp_contents.specs.declared.messages.ResvTear.{ResvTear}
use Rattle.rsvp_contents.specs.declared.descriptors.ErrorDescriptor.{ErrorDescriptor}
use Rattle.lsr_facts.specs.Orders.{key_cmp}
use Rattle.lsr_facts.specs.declared.key.Key.{Key}
use Rattle.lsr_facts.specs.declared.path_fact.PathFact.{PathFact}
use Rattle.lsr_facts.specs.declared.refusal.Refusal.TheVariants.{NoMatch}
use Rattle.lsr_facts.specs.declared.reply.Reply.TheVariants as replies
use Rattle.lsr_facts.specs.declared.router.Router.{Router}
use Rattle.lsr_facts.specs.declared.resv_fact.ResvFact.{ResvFact}
use Rattle.abstract_paths.specs.declared.events.Output.{Output}
use Rattle.abstract_paths.specs.Merging.{came_through}
use Rattle.abstract_paths.specs.Outcomes.{lsp}
use Rattle.abstract_paths.specs.Paths.{goes_on}
use Rattle.abstract_paths.specs.Tears.{is_from}
use Rattle.abstract_router.specs.Lsps.{around_of}
use Rattle.abstract_router.specs.Outcomes.{Outcome, replied, refused, told_downstream}
use Rattle.abstract_router.specs.States.{State, with_resvs_where}
use Rattle.abstract_router.specs.Through.{err_through}

-- one of the tear's filters names the reservation, and it is on the link; style and hop don't count
abbrev pub is_resv_torn_by : ℕ → ResvTear → Key × ResvFact → Bool
is_resv_torn_by link t resv = (resv.1.link == link) && list_any (λ filter_spec. is_eq (key_cmp (lsp t.session filter_spec) resv.0)) t.filters

-- A ResvTear takes away the reservations that it names; one that names none is refused (RFC 2205, 3.1.6).
unfoldable pub resv_tear_arrival : State → ℕ → ResvTear → Outcome
resv_tear_arrival s link t =
    if list_any (is_resv_torn_by link t) s.resvs
    then replied replies.Done [] (with_resvs_where (λ resv. not (is_resv_torn_by link t resv)) s)
    else refused s NoMatch

-- the path came from the neighbour that sent the ResvErr
abbrev pub is_from_origin : ℕ → ResvErr → PathFact → Bool
is_from_origin link e path = list_any (λ origin. is_from link e.hop.address origin.1) path.origins

-- where a ResvErr of an LSP goes on to, its error and style unchanged: the next hop where the LSP is reserved, the bypass's
-- end where it is repaired
abbrev pub err_to : Router → State → ResvErr → ErrorDescriptor → Key → Option (List Output)
err_to r s e d key =
    option_or (option_map (λ resv. option_to_list (told_downstream r resv.link e.session e.error e.style (d ∷ []))) (find key_cmp key s.resvs))
    (option_map (λ repair. option_to_list (err_through (around_of r s) repair e d)) (find key_cmp key s.repairs))

-- A ResvErr goes on for an LSP that is reserved or repaired; where the LSP ends here it has come to its end, and nothing is
-- sent. None: it matches nothing here.
abbrev pub err_onward : Router → State → ℕ → ResvErr → ErrorDescriptor → Option (List Output)
err_onward r s link e d =
    let key = lsp e.session d.filter in
    option_and_then (λ path.
    if not (is_from_origin link e path) then None
    else if not (goes_on path.role) then Some []
    else err_to r s e d key)
    (find key_cmp key s.facts.paths)

-- A ResvErr that came through a stack of labels names the sender of an origin. It goes on under the LSP's own sender.
abbrev pub stack_err_onward : Router → State → ResvErr → ErrorDescriptor → Option (List Output)
stack_err_onward r s e d =
    option_and_then (λ path. if not (goes_on path.1.role) then Some [] else err_to r s e (record d { filter = path.0.sender }) path.0)
    (find_first (came_through (lsp e.session d.filter)) s.facts.paths)

-- what comes of the descriptors that matched
abbrev pub resv_err_passed_on : State → List (List Output) → Outcome
resv_err_passed_on s [] = refused s NoMatch
resv_err_passed_on s (one ∷ more) = replied replies.Done (flat_map (λ told. told) (one ∷ more)) s

-- What a ResvErr does, descriptor by descriptor: one of which none matches is refused (RFC 2205, 3.1.8).
unfoldable pub resv_err_arrival : Router → State → ℕ → ResvErr → Outcome
resv_err_arrival r s link e = resv_err_passed_on s (filter_map (err_onward r s link e) e.descriptors)

-- and what one does that came through a stack
unfoldable pub stack_err_arrival : Router → State → ResvErr → Outcome
stack_err_arrival r s e = resv_err_passed_on s (filter_map (stack_err_onward r s e) e.descriptors)
