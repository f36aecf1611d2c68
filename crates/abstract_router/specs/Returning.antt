-- What the end of a bypass sends back to the point of local repair, in Routed frames: it goes by the repair that it is for.
-- How it finds that repair is this router's choice.
use Rattle.std.specs.Prelude.{ℕ, ◌&&◌, ◌++◌, not, Bool, true, false, List, [], ◌∷◌, filter, filter_map, fold, option_to_list, Option, Some, None}
use Rattle.std.specs.FinMap.Entries.{find}
use Rattle.std.specs.Option.{option_and_then, option_map, option_map_or, option_or}
use Rattle.std.specs.Ordering.{is_eq, nat_cmp}
use Rattle.std.specs.declared.net.ipv4_addr.Ipv4Addr.{Ipv4Addr}
use Rattle.rsvp_contents.specs.declared.messages.PathErr.{PathErr}
use Rattle.rsvp_contents.specs.declared.messages.Resv.{Resv}
use Rattle.rsvp_contents.specs.declared.messages.ResvTear.{ResvTear}
use Rattle.rsvp_contents.specs.declared.descriptors.ErrorDescriptor.{ErrorDescriptor}
use Rattle.rsvp_contents.specs.declared.descriptors.FlowDescriptor.{FlowDescriptor}
use Rattle.rsvp_objects.specs.declared.values.Session.{Session}
use Rattle.rsvp_objects.specs.declared.values.Template.{Template}
use Rattle.lsr_facts.specs.Orders.{key_cmp}
use Rattle.lsr_facts.specs.Routers.{is_same, link_at}
use Rattle.lsr_facts.specs.declared.errors.RsvpError.{RsvpError}
use Rattle.lsr_facts.specs.declared.key.Key.{Key}
use Rattle.lsr_facts.specs.declared.refusal.Refusal.TheVariants.{NoMatch}
use Rattle.lsr_facts.specs.declared.reply.Reply.TheVariants as replies
use Rattle.lsr_facts.specs.declared.router.Router.{Router}
use Rattle.lsr_facts.specs.Reservations.{style_of}
use Rattle.lsr_facts.specs.declared.repair.Repair.{Repair}
use Rattle.lsr_facts.specs.declared.resv_fact.ResvFact.{ResvFact}
use Rattle.lsr_facts.specs.declared.resv_fact.ResvStyle.{ResvStyle}
use Rattle.abstract_paths.specs.declared.events.Output.{Output}
use Rattle.abstract_paths.specs.Merging.{under}
use Rattle.abstract_paths.specs.Outcomes.{lsp}
use Rattle.abstract_paths.specs.Paths.{unknown_object}
use Rattle.abstract_paths.specs.Tears.{err_of_path}
use Rattle.abstract_router.specs.Assigning.{fits_share}
use Rattle.abstract_router.specs.BypassTunnels.{bypass_tunnels_of}
use Rattle.abstract_router.specs.Lsps.{around_of}
use Rattle.abstract_router.specs.Outcomes.{Outcome, of_paths, refused, replied, reservation_error}
use Rattle.abstract_router.specs.Reserving.{Progress, Verdict, first_named, named, resv_by, resv_replied, verdict_by_style}
use Rattle.abstract_router.specs.Reserving.Verdict.{Failed, Granted, PassedOver}
use Rattle.abstract_router.specs.States.{State, is_one_of, with_repair, with_repairs_where}
use Rattle.abstract_router.specs.Through.{told_through}

-- the one of a list, if it is one
abbrev pub the_one : {A : Type 0} → List A → Option A
the_one (x ∷ []) = Some x
the_one xs = None

-- the repair is of an LSP that the bypass's end knows as this one: under this router's address on the protected link
abbrev pub is_known_as : Router → Key → Key × Repair → Bool
is_known_as r key repair = option_map_or (λ link. is_eq (key_cmp (under link.address repair.0) key)) (link_at r repair.1.resv.link) false

-- its bypass ends at the router of this address
abbrev pub ends_at : Router → State → Ipv4Addr → Key × Repair → Bool
ends_at r s hop repair = option_map_or (λ bypass_tunnel. is_same bypass_tunnel.ends_at hop) (find nat_cmp repair.1.bypass (bypass_tunnels_of r s)) false

-- the repair that a PathErr is for: the one of an LSP that is known so
unfoldable pub repair_known_as : Router → State → Key → Option (Key × Repair)
repair_known_as r s key = the_one (filter (is_known_as r key) s.repairs)

-- and that a Resv or a ResvTear from a router is for: its bypass ends there, too
unfoldable pub repair_from : Router → State → Ipv4Addr → Key → Option (Key × Repair)
repair_from r s hop key = the_one (filter (λ repair. is_known_as r key repair && ends_at r s hop repair) s.repairs)

-- The error of a descriptor goes back through the bypass; what the repair keeps stays as it was, so it says in place.
abbrev pub told_back : Router → State → Resv → FlowDescriptor → Repair → RsvpError → List Output
told_back r s v d repair e =
    option_to_list (told_through (around_of r s) repair v.session (reservation_error r true e) v.style (named d ∷ []))

-- What comes of a descriptor for a repair: one that is granted takes the place of what the repair kept.
abbrev pub carried_back : Router → Resv → FlowDescriptor → Key × Repair → ResvFact → Progress → Verdict → Progress
carried_back r v d repair fact progress (Failed e) =
    record progress { errors = progress.errors ++ told_back r progress.state v d repair.1 e; first = option_or progress.first (Some e) }
carried_back r v d repair fact progress PassedOver = progress
carried_back r v d repair fact progress Granted =
    record progress { state = with_repair repair.0 (record repair.1 { resv = fact }) progress.state; has_granted = true }

-- A descriptor renews the repair that it is for. It is tested as any other; but it takes no bandwidth of the link, and it has
-- to fit what the LSP is promised of the bypass, if it is promised any.
abbrev pub renewed : Router → ResvStyle → Resv → FlowDescriptor → Progress → Key × Repair → Progress
renewed r style v d progress repair =
    let fact = resv_by progress.state.facts.moment repair.1.resv.link style v d in
    carried_back r v d repair fact progress (verdict_by_style r progress.state repair.0 fact (fits_share progress.state repair.0 fact))

-- and so the next descriptor is taken: one that is for no repair is passed over
abbrev pub next_returned : Router → ResvStyle → Resv → Progress → FlowDescriptor → Progress
next_returned r style v progress d =
    option_map_or (renewed r style v d progress) (repair_from r progress.state v.hop.address (lsp v.session d.filter)) progress

-- all of them, in their order
abbrev pub all_returned : Router → State → ResvStyle → Resv → Progress
all_returned r s style v = fold (next_returned r style v) (record { state = s; errors = []; first = None; has_granted = false }) v.descriptors

-- What a Resv from the end of a bypass does; one of another style is for no repair.
unfoldable pub returned_resv : Router → State → Resv → Outcome
returned_resv r s v =
    option_map_or (λ style. let progress = all_returned r s style v in resv_replied s progress progress.first) (style_of v.style) (refused s NoMatch)

-- the repair that a Resv's first descriptor is for
abbrev pub first_returned : Router → State → Resv → List FlowDescriptor → Option (Key × Repair)
first_returned r s v [] = None
first_returned r s v (d ∷ ds) = repair_from r s v.hop.address (lsp v.session d.filter)

-- One with an error as a whole, of this repair: that is told back, and changes nothing.
abbrev pub returned_failed : Router → State → Resv → RsvpError → Key × Repair → Outcome
returned_failed r s v e repair =
    replied (replies.Error e) (option_to_list (told_through (around_of r s) repair.1 v.session (reservation_error r true e) v.style (first_named v.descriptors))) s

-- A Resv with an object that it doesn't know is in error, for the repair of its first descriptor.
unfoldable pub returned_unknown : Router → State → Resv → ℕ → ℕ → Outcome
returned_unknown r s v class ctype =
    option_map_or (returned_failed r s v (unknown_object class ctype)) (first_returned r s v v.descriptors) (refused s NoMatch)

-- the LSPs whose repairs a ResvTear is for
abbrev pub returned_keys : Router → State → ResvTear → List Key
returned_keys r s t = filter_map (λ filter_spec. option_map (λ repair. repair.0) (repair_from r s t.hop.address (lsp t.session filter_spec))) t.filters

-- A ResvTear takes away the repairs that it is for.
abbrev pub torn_back : State → List Key → Outcome
torn_back s [] = refused s NoMatch
torn_back s (key ∷ keys) = replied replies.Done [] (with_repairs_where (λ repair. not (is_one_of (key ∷ keys) repair.0)) s)

-- What a ResvTear from the end of a bypass does.
unfoldable pub returned_tear : Router → State → ResvTear → Outcome
returned_tear r s t = torn_back s (returned_keys r s t)

-- What a PathErr from beyond a bypass does: it is told to the origins of the LSP whose repair it is for.
unfoldable pub returned_err : Router → State → PathErr → Outcome
returned_err r s e =
    option_map_or (λ repair. option_map_or (λ path. of_paths s (err_of_path r s.facts repair.0 e path)) (find key_cmp repair.0 s.facts.paths) (refused s NoMatch))
    (repair_known_as r s (lsp e.session e.sender)) (refused s NoMatch)
