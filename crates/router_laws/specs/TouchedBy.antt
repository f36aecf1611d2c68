-- The LSPs that a message touches.
use Rattle.std.specs.Prelude.{◌++◌, ℕ, false, List, [], ◌∷◌, filter, find as find_first, map, Option, None}
use Rattle.std.specs.Option.{option_map, option_map_or, option_to_list}
use Rattle.rsvp_contents.specs.declared.message.Reading.TheVariants as readings
use Rattle.rsvp_contents.specs.declared.message.Reading.{Reading}
use Rattle.rsvp_contents.specs.declared.messages.Content.TheVariants as contents
use Rattle.rsvp_contents.specs.declared.messages.Content.{Content}
use Rattle.rsvp_contents.specs.declared.messages.Resv.{Resv}
use Rattle.rsvp_contents.specs.declared.descriptors.FlowDescriptor.{FlowDescriptor}
use Rattle.lsr_facts.specs.declared.key.Key.{Key}
use Rattle.lsr_facts.specs.declared.path_fact.PathFact.{PathFact}
use Rattle.lsr_facts.specs.declared.router.Router.{Router}
use Rattle.lsr_facts.specs.Reservations.{style_of}
use Rattle.lsr_facts.specs.declared.repair.Repair.{Repair}
use Rattle.lsr_facts.specs.declared.resv_fact.ResvFact.{ResvFact}
use Rattle.lsr_facts.specs.declared.resv_fact.ResvStyle.{ResvStyle}
use Rattle.abstract_paths.specs.declared.ways.ArrivalWay.{ArrivalWay}
use Rattle.abstract_paths.specs.declared.ways.ArrivalWay.TheVariants as ways
use Rattle.abstract_paths.specs.declared.ways.Arrive.{Arrive}
use Rattle.abstract_paths.specs.Merging.{came_through, may_join}
use Rattle.abstract_paths.specs.Outcomes.{lsp}
use Rattle.abstract_paths.specs.Paths.{key_of}
use Rattle.abstract_router.specs.Assigning.{fits_share}
use Rattle.abstract_router.specs.Preempting.{giving_way}
use Rattle.abstract_router.specs.Reserving.{Failed, Granted, PassedOver, Progress, Verdict, key_in, next_descriptor, resv_by, verdict_by_style, verdict_of}
use Rattle.abstract_router.specs.Returning.{next_returned, repair_from, returned_keys, the_one}
use Rattle.abstract_router.specs.Arrivals.{arrival}
use Rattle.abstract_router.specs.States.{State}
use Rattle.abstract_router.specs.Steps.{given_up}

-- the LSPs that a descriptor touches, by its verdict: where it is granted its own, and those that give way to it
abbrev pub touched_by_verdict : Router → State → Key → ResvFact → Verdict → List Key
touched_by_verdict r s key fact (Failed e) = []
touched_by_verdict r s key fact PassedOver = []
touched_by_verdict r s key fact Granted = key ∷ giving_way r s key fact

-- those that a Resv's descriptors touch, one after the other
abbrev pub touched_by_descriptors : Router → ℕ → ResvStyle → Resv → Progress → List FlowDescriptor → List Key
touched_by_descriptors r link style v progress [] = []
touched_by_descriptors r link style v progress (d ∷ ds) =
    let fact = resv_by progress.state.facts.moment link style v d in
    touched_by_verdict r progress.state (key_in v d) fact (verdict_of r progress.state (key_in v d) fact)
    ++ touched_by_descriptors r link style v (next_descriptor r link style v progress d) ds

-- those that a Resv touches: one of another style than FF and SE none
abbrev pub touched_by_resv : Router → State → ℕ → Resv → List Key
touched_by_resv r s link v =
    option_map_or (λ style. touched_by_descriptors r link style v (record { state = s; errors = []; first = None; has_granted = false }) v.descriptors) (style_of v.style) []

-- those that a message touches which is read whole: that an error goes on touches none
abbrev pub touched_by_message : Router → State → ℕ → Content → List Key
touched_by_message r s link (contents.Path p) = key_of p ∷ []
touched_by_message r s link (contents.Resv v) = touched_by_resv r s link v
touched_by_message r s link (contents.PathErr e) = []
touched_by_message r s link (contents.ResvErr e) = []
touched_by_message r s link (contents.PathTear t) = lsp t.session t.sender ∷ []
touched_by_message r s link (contents.ResvTear t) = map (lsp t.session) t.filters

-- a Path or a Resv with an object that it doesn't know changes nothing
abbrev pub touched_by_unknown : Router → State → ℕ → Content → List Key
touched_by_unknown r s link (contents.Path p) = []
touched_by_unknown r s link (contents.Resv v) = []
touched_by_unknown r s link content = touched_by_message r s link content

abbrev pub touched_by_reading : Router → State → ℕ → Reading → List Key
touched_by_reading r s link (readings.Whole content) = touched_by_message r s link content
touched_by_reading r s link (readings.Unknown content class ctype) = touched_by_unknown r s link content

-- the LSP of a path, if there is one
abbrev pub lsp_of_path : Option (Key × PathFact) → List Key
lsp_of_path path = option_to_list (option_map (λ path. path.0) path)

-- What comes through a stack touches the LSP of another sender: a Path that of the one path that it may join, a PathTear that
-- of the path that it came through.
abbrev pub touched_through : State → Content → List Key
touched_through s (contents.Path p) = lsp_of_path (the_one (filter (may_join (key_of p)) s.facts.paths))
touched_through s (contents.PathTear t) = lsp_of_path (find_first (came_through (lsp t.session t.sender)) s.facts.paths)
touched_through s content = []

-- and with an object that it doesn't know a Path touches none
abbrev pub touched_through_unknown : State → Content → List Key
touched_through_unknown s (contents.Path p) = []
touched_through_unknown s content = touched_through s content

-- the LSPs that a descriptor touches which is for a repair of this LSP, by its verdict: where it is granted, that one
abbrev pub touched_by_renewal : Key → Verdict → List Key
touched_by_renewal key (Failed e) = []
touched_by_renewal key PassedOver = []
touched_by_renewal key Granted = key ∷ []

abbrev pub touched_by_renewed : Router → ResvStyle → Resv → FlowDescriptor → State → Key × Repair → List Key
touched_by_renewed r style v d s repair =
    let fact = resv_by s.facts.moment repair.1.resv.link style v d in
    touched_by_renewal repair.0 (verdict_by_style r s repair.0 fact (fits_share s repair.0 fact))

-- those that the descriptors of a Resv from the end of a bypass touch, one after the other
abbrev pub touched_by_returned : Router → ResvStyle → Resv → Progress → List FlowDescriptor → List Key
touched_by_returned r style v progress [] = []
touched_by_returned r style v progress (d ∷ ds) =
    option_map_or (touched_by_renewed r style v d progress.state) (repair_from r progress.state v.hop.address (lsp v.session d.filter)) []
    ++ touched_by_returned r style v (next_returned r style v progress d) ds

-- those that such a Resv touches
abbrev pub touched_by_returned_resv : Router → State → Resv → List Key
touched_by_returned_resv r s v =
    option_map_or (λ style. touched_by_returned r style v (record { state = s; errors = []; first = None; has_granted = false }) v.descriptors) (style_of v.style) []

-- What comes in a Routed frame touches LSPs that are repaired: a Resv those whose repairs it renews, a ResvTear those whose
-- repairs it is for.
abbrev pub touched_beyond : Router → State → Content → List Key
touched_beyond r s (contents.Resv v) = touched_by_returned_resv r s v
touched_beyond r s (contents.ResvTear t) = returned_keys r s t
touched_beyond r s content = []

-- and with an object that it doesn't know a Resv touches none
abbrev pub touched_beyond_unknown : Router → State → Content → List Key
touched_beyond_unknown r s (contents.Resv v) = []
touched_beyond_unknown r s content = touched_beyond r s content

-- the LSPs that a message touches of itself, by the way in which it comes
abbrev pub touched_by_way : Router → State → ArrivalWay → ℕ → Reading → List Key
touched_by_way r s ways.Hop link reading = touched_by_reading r s link reading
touched_by_way r s ways.Stack link (readings.Whole content) = touched_through s content
touched_by_way r s ways.Stack link (readings.Unknown content class ctype) = touched_through_unknown s content
touched_by_way r s ways.Routed link (readings.Whole content) = touched_beyond r s content
touched_by_way r s ways.Routed link (readings.Unknown content class ctype) = touched_beyond_unknown r s content

-- The LSPs that a message touches: its own, and those that tunnels give up, where it reserves their new ones (RFC 3209, 2.5).
abbrev pub touched_by : Router → State → Arrive → List Key
touched_by r s a = touched_by_way r s a.way a.link a.reading ++ given_up r (arrival r s a).after
