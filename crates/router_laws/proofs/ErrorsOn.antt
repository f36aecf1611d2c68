-- What an event that leaves the state as it was sends: its errors. So a PathErr on its way goes on, and changes nothing.
use Rattle.std.specs.Prelude.{◌≡◌, ℕ, ◌++◌, not, true, false, cond, List, [], ◌∷◌, Some}
use Rattle.std.specs.FinMap.Entries.{find}
use Rattle.std.specs.Option.{option_map_or}
use Rattle.std.proofs.Common.{refl, ap, ◌∙◌}
use Rattle.std.proofs.lemmas.List.{append-nil}
use Rattle.rsvp_contents.specs.declared.message.Reading.TheVariants as readings
use Rattle.rsvp_contents.specs.declared.messages.Content.TheVariants as contents
use Rattle.rsvp_contents.specs.declared.messages.PathErr.{PathErr}
use Rattle.lsr_facts.specs.Lifetimes.{begins_here}
use Rattle.lsr_facts.specs.Orders.{key_cmp}
use Rattle.lsr_facts.specs.Routers.{HasLink}
use Rattle.lsr_facts.specs.declared.key.Key.{Key}
use Rattle.lsr_facts.specs.declared.path_fact.PathFact.{PathFact}
use Rattle.lsr_facts.specs.declared.refusal.Refusal.TheVariants.{LinkDown, NoMatch, UnknownLink}
use Rattle.lsr_facts.specs.declared.reply.Reply.{Reply}
use Rattle.lsr_facts.specs.declared.reply.Reply.TheVariants as replies
use Rattle.lsr_facts.specs.declared.router.Router.{Router}
use Rattle.lsr_facts.specs.declared.repair.Repair.{Repair}
use Rattle.abstract_paths.specs.declared.events.Event.TheVariants as events
use Rattle.abstract_paths.specs.declared.events.Made.{Made}
use Rattle.abstract_paths.specs.declared.events.Output.{Output}
use Rattle.abstract_paths.specs.declared.ways.ArrivalWay.TheVariants as ways
use Rattle.abstract_paths.specs.declared.ways.Arrive.{Arrive}
use Rattle.abstract_paths.specs.Arrivals.{comes}
use Rattle.abstract_paths.specs.Heads.{with_noted}
use Rattle.abstract_paths.specs.Outcomes as paths
use Rattle.abstract_paths.specs.Outcomes.{lsp, told_upstream}
use Rattle.abstract_paths.specs.Outputs.{errors_out}
use Rattle.abstract_paths.specs.Places.{is_up, place_of}
use Rattle.abstract_paths.specs.Tears.{err_of_path, leaves_by, path_err_arrival, path_err_passed_on}
use Rattle.abstract_router.specs.Arrivals.{arrival, arrival_by}
use Rattle.abstract_router.specs.Assigning.{assigned_anew}
use Rattle.abstract_router.specs.Outcomes.{of_paths, refused, replied}
use Rattle.abstract_router.specs.Outputs.{outputs_of}
use Rattle.abstract_router.specs.Repairing.{told_repaired}
use Rattle.abstract_router.specs.Returning.{repair_known_as, returned_err}
use Rattle.abstract_router.specs.Soundness.{IsSound}
use Rattle.abstract_router.specs.States.{State}
use Rattle.abstract_router.specs.Steps.{AreSettled, Step, sent_in}
use Rattle.router_soundness.specs.Assigned.{AreStanding}
use Rattle.router_laws.proofs.Led.{answered, led, sends}
use Rattle.router_laws.proofs.LostLinks.{up_known}
use Rattle.router_laws.proofs.OwnLsps.{arrival_over}
use Rattle.router_laws.proofs.NoneRepaired.{over-up, told-none}
use Rattle.router_laws.proofs.Settled.{taken_over-same}
use Rattle.router_laws.proofs.Still.{known-same, sends-nothing}

-- of lists joined the first stands apart from the others
apart_first : {A : Type 0} (first b c d e : List A) → first ++ b ++ c ++ d ++ e ≡ first ++ ([] ++ b ++ c ++ d ++ e)
apart_first [] b c d e = refl
apart_first (x ∷ xs) b c d e = ap (λ l. x ∷ l) (apart_first xs b c d e)

module _ (r : Router) (s : State) (is : IsSound r s) (rests : AreSettled r s) (stand : AreStanding r s) where
  only_errors : (errors : List Output) → outputs_of r s errors [] [] s ≡ errors_out s.facts.up errors ++ outputs_of r s [] [] [] s
  unfolding outputs_of
  only_errors errors = apart_first (errors_out s.facts.up errors) _ _ _ _

  -- An outcome that leaves the state sends its errors over the links that are up, and nothing else.
  pub sent_errors : (reply : Reply) (errors : List Output) → sent_in r s (replied reply errors s) s ≡ errors_out s.facts.up errors
  sent_errors reply errors =
      ap (λ (t : State). outputs_of r s (errors ++ told_repaired r (assigned_anew r t)) [] [] s) (taken_over-same r s rests)
      ∙ (λ i. outputs_of r s (errors ++ told_repaired r (record s { assignments = stand i })) [] [] s)
      ∙ ap (λ told. outputs_of r s (errors ++ told) [] [] s) (told-none r s (over-up r s is))
      ∙ ap (λ all. outputs_of r s all [] [] s) (append-nil errors)
      ∙ only_errors errors
      ∙ ap (λ rest. errors_out s.facts.up errors ++ rest) (sends-nothing r s is rests stand)
      ∙ append-nil (errors_out s.facts.up errors)

-- A PathErr for an LSP that doesn't begin here goes on to its origins.
passes_on : (r : Router) (s : State) (link : ℕ) (e : PathErr) (fact : PathFact) → find key_cmp (lsp e.session e.sender) s.facts.paths ≡ Some fact → leaves_by link fact ≡ true → begins_here fact.role ≡ false
    → of_paths s (path_err_arrival r s.facts link e) ≡ replied replies.Done (told_upstream (place_of r s.facts) (lsp e.session e.sender) fact e.tspec e.error) s
unfolding path_err_arrival
passes_on r s link e fact known leaves elsewhere =
    let key = lsp e.session e.sender in
    ap (λ o. of_paths s (path_err_passed_on r s.facts link e o)) known
    ∙ ap (λ b. of_paths s (cond b (err_of_path r s.facts key e fact) (paths.refused s.facts NoMatch))) leaves
    ∙ ap (λ b. of_paths s (paths.done (told_upstream (place_of r s.facts) key fact e.tspec e.error) (cond b (with_noted e.error e.session.tunnel s.facts) s.facts))) elsewhere

pub path_err_passes : (r : Router) (before after : State) (made : Made) (link : ℕ) (e : PathErr) (fact : PathFact) → IsSound r before → AreSettled r before → AreStanding r before → is_up before.facts.up link ≡ true
    → find key_cmp (lsp e.session e.sender) before.facts.paths ≡ Some fact → leaves_by link fact ≡ true → begins_here fact.role ≡ false → Step r before made after → made.event ≡ comes link (contents.PathErr e)
    → (made.reply ≡ replies.Done) × (after ≡ before) × (made.outputs ≡ errors_out before.facts.up (told_upstream (place_of r before.facts) (lsp e.session e.sender) fact e.tspec e.error))
path_err_passes r before after made link e fact is rests stand up known leaves elsewhere x event =
    let told = told_upstream (place_of r before.facts) (lsp e.session e.sender) fact e.tspec e.error in
    let o = replied replies.Done told before in
    let does = arrival_over r before link (contents.PathErr e) (up_known r before link is up) up ∙ passes_on r before link e fact known leaves elsewhere in
    let came = led r before after made (comes link (contents.PathErr e)) o x event does ∙ known-same r before is rests stand replies.Done told made.labels in
    (answered r before after made (comes link (contents.PathErr e)) o x event does, came, sends r before after made (comes link (contents.PathErr e)) o x event does ∙ ap (sent_in r before o) came ∙ sent_errors r before is rests stand replies.Done told)

-- One that came in a Routed frame does what it does of itself, over a link that is up,
returned_on : (r : Router) (s : State) (a : Arrive) (e : PathErr) (key : Key) (repair : Repair) (fact : PathFact) → HasLink r a.link → is_up s.facts.up a.link ≡ true → a.way ≡ ways.Routed → a.reading ≡ readings.Whole (contents.PathErr e)
    → repair_known_as r s (lsp e.session e.sender) ≡ Some (key, repair) → find key_cmp key s.facts.paths ≡ Some fact → begins_here fact.role ≡ false → arrival r s a ≡ replied replies.Done (told_upstream (place_of r s.facts) key fact e.tspec e.error) s
unfolding arrival returned_err
returned_on r s a e key repair fact there up way reading of known elsewhere =
    let told = told_upstream (place_of r s.facts) key fact e.tspec e.error in
    let on = λ (path : PathFact). of_paths s (err_of_path r s.facts key e path) in
    ap (λ b. cond (not b) (refused s UnknownLink) (cond (not (is_up s.facts.up a.link)) (refused s LinkDown) (arrival_by r s a.way a.link a.reading))) there
    ∙ ap (λ b. cond (not b) (refused s LinkDown) (arrival_by r s a.way a.link a.reading)) up
    ∙ (λ i. arrival_by r s (way i) a.link (reading i))
    ∙ ap (λ o. option_map_or (λ repair. option_map_or (λ path. of_paths s (err_of_path r s.facts repair.0 e path)) (find key_cmp repair.0 s.facts.paths) (refused s NoMatch)) o (refused s NoMatch)) of
    ∙ ap (λ o. option_map_or on o (refused s NoMatch)) known
    ∙ ap (λ b. of_paths s (paths.done told (cond b (with_noted e.error e.session.tunnel s.facts) s.facts))) elsewhere

-- and so goes on to the origins of the LSP whose repair it is for.
pub returned_err_passes : (r : Router) (before after : State) (made : Made) (arrived : Arrive) (e : PathErr) (key : Key) (repair : Repair) (fact : PathFact) → IsSound r before → AreSettled r before → AreStanding r before → is_up before.facts.up arrived.link ≡ true
    → repair_known_as r before (lsp e.session e.sender) ≡ Some (key, repair) → find key_cmp key before.facts.paths ≡ Some fact → begins_here fact.role ≡ false → Step r before made after → made.event ≡ events.Arrive arrived
    → arrived.way ≡ ways.Routed → arrived.reading ≡ readings.Whole (contents.PathErr e)
    → (made.reply ≡ replies.Done) × (after ≡ before) × (made.outputs ≡ errors_out before.facts.up (told_upstream (place_of r before.facts) key fact e.tspec e.error))
returned_err_passes r before after made arrived e key repair fact is rests stand up of known elsewhere x event way reading =
    let told = told_upstream (place_of r before.facts) key fact e.tspec e.error in
    let o = replied replies.Done told before in
    let does = returned_on r before arrived e key repair fact (up_known r before arrived.link is up) up way reading of known elsewhere in
    let came = led r before after made (events.Arrive arrived) o x event does ∙ known-same r before is rests stand replies.Done told made.labels in
    (answered r before after made (events.Arrive arrived) o x event does, came, sends r before after made (events.Arrive arrived) o x event does ∙ ap (sent_in r before o) came ∙ sent_errors r before is rests stand replies.Done told)
