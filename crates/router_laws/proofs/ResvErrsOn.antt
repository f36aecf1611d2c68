-- A ResvErr changes nothing, and goes on for the LSPs that it is for: for each that is reserved or repaired, and for no other.
use Rattle.std.specs.Prelude.{◌≡◌, ◌==◌, ◌&&◌, ◌||◌, ℕ, not, Bool, true, false, cond, if◌then◌else◌, List, [], ◌∷◌, filter_map, Option, Some, None, find as find_first, is_none, is_some, IfSome}
use Rattle.std.specs.FinMap.Entries.{find}
use Rattle.std.specs.List.{AllByRecursion, Contains, cons_option, flat_map}
use Rattle.std.specs.Option.{option_and_then, option_map, option_map_or, option_or, option_to_list}
use Rattle.std.specs.Ordering.{eq_by_cmp, is_eq}
use Rattle.std.proofs.Common.{refl, sym, ap, subst, ◌∙◌, inl, inr, ⊎_elim}
use Rattle.std.proofs.lemmas.Bool.{and_parts, cond_both, not-false}
use Rattle.std.proofs.lemmas.Cmp.{tied_itself}
use Rattle.std.proofs.lemmas.List.Elements.{All-contains_itself, Contains-append_left, Contains-append_right, recursion_from_All}
use Rattle.std.proofs.lemmas.Option.{same_Some}
use Rattle.rsvp_contents.specs.Picking.{content_in}
use Rattle.rsvp_contents.specs.declared.message.Reading.TheVariants as readings
use Rattle.rsvp_contents.specs.declared.message.Reading.{Reading}
use Rattle.rsvp_contents.specs.declared.messages.Content.TheVariants as contents
use Rattle.rsvp_contents.specs.declared.messages.Content.{Content}
use Rattle.rsvp_contents.specs.declared.messages.ResvErr.{ResvErr}
use Rattle.rsvp_contents.specs.declared.descriptors.ErrorDescriptor.{ErrorDescriptor}
use Rattle.sorted_rows.specs.ListLaws.{all-append, all-filter, all-weaker}
use Rattle.sorted_rows.specs.RowsLaws.{all_found, ties}
use Rattle.label_space.specs.LineLaws.{Contains-cons_cases, Contains-first, none_contained}
use Rattle.lsr_facts.specs.OrderLaws.{key_exact, key_total}
use Rattle.lsr_facts.specs.Orders.{key_cmp}
use Rattle.lsr_facts.specs.Routers.{HasLink, link_at}
use Rattle.lsr_facts.specs.SumLaws.{Contains-filter}
use Rattle.lsr_facts.specs.declared.key.Key.{Key}
use Rattle.lsr_facts.specs.declared.path_fact.PathFact.{PathFact}
use Rattle.lsr_facts.specs.declared.refusal.Refusal.TheVariants.{LinkDown, NoMatch, UnknownLink}
use Rattle.lsr_facts.specs.declared.reply.Reply.TheVariants as replies
use Rattle.lsr_facts.specs.declared.router.Link.{Link}
use Rattle.lsr_facts.specs.declared.router.Router.{Router}
use Rattle.lsr_facts.specs.declared.repair.Over.{Over}
use Rattle.lsr_facts.specs.declared.repair.Repair.{Repair}
use Rattle.lsr_facts.specs.declared.resv_fact.ResvFact.{ResvFact}
use Rattle.abstract_paths.proofs.PathTable.{path_known}
use Rattle.abstract_paths.specs.declared.events.Event.TheVariants as events
use Rattle.abstract_paths.specs.declared.events.Made.{Made}
use Rattle.abstract_paths.specs.declared.events.Output.{Output}
use Rattle.abstract_paths.specs.declared.ways.ArrivalWay.{ArrivalWay}
use Rattle.abstract_paths.specs.declared.ways.ArrivalWay.TheVariants as ways
use Rattle.abstract_paths.specs.declared.ways.Arrive.{Arrive}
use Rattle.abstract_paths.specs.Merging.{came_through}
use Rattle.abstract_paths.specs.Outcomes.{lsp, sent_by}
use Rattle.abstract_paths.specs.Paths.{goes_on}
use Rattle.abstract_paths.specs.Places.{is_up}
use Rattle.abstract_paths.specs.RowLaws.{find-holds, find-passes}
use Rattle.abstract_paths.specs.Soundness.{IsPath}
use Rattle.abstract_paths.specs.Tears.{leaves_by}
use Rattle.abstract_router.specs.Arrivals.{arrival, arrival_by, outcome}
use Rattle.abstract_router.specs.Lsps.{around_of}
use Rattle.abstract_router.specs.Outcomes.{Outcome, refused, replied, told_downstream}
use Rattle.abstract_router.specs.Soundness.{IsSound}
use Rattle.abstract_router.specs.Standing.{stands}
use Rattle.abstract_router.specs.States.{State, is_held}
use Rattle.abstract_router.specs.Steps.{AreSettled, Step, known_after, sent_in}
use Rattle.abstract_router.specs.Tearing.{err_onward, err_to, is_from_origin, resv_err_arrival, resv_err_passed_on, stack_err_arrival, stack_err_onward}
use Rattle.abstract_router.specs.Through.{err_through, head_through, hop_through, labelled_by, told_through}
use Rattle.router_soundness.proofs.AssigningRepairs.{of_found}
use Rattle.router_soundness.proofs.Standing.{repair_on_bypass}
use Rattle.router_soundness.specs.Assigned.{AreStanding}
use Rattle.router_laws.specs.Errors.{GoesOn, GoesOnFor, IsErrFor, names_lsp}
use Rattle.router_laws.proofs.ErrorsOn.{sent_errors}
use Rattle.router_laws.proofs.Led.{answered, led, sends}
use Rattle.router_laws.proofs.LostLinks.{up_known}
use Rattle.router_laws.proofs.OwnLsps.{leaves_over}
use Rattle.router_laws.proofs.Still.{known-same}

-- ---- of lists

-- what holds of each that f may give of these holds of all that it gives
all-given : {A B : Type 0} (P : B → Type 0) (f : A → Option B) (xs : List A) → AllByRecursion (λ x. IfSome (f x) P) xs → AllByRecursion P (filter_map f xs)
all-given P f [] h = tt
all-given {A} {B} P f (x ∷ xs) h = by (f x) h.0 (all-given P f xs h.1)
  where
    by : (o : Option B) → IfSome o P → AllByRecursion P (filter_map f xs) → AllByRecursion P (cons_option o (filter_map f xs))
    by None is rest = rest
    by (Some y) is rest = (is, rest)

-- what f tells of one of these is among all that it tells
told_among : {A : Type 0} (f : A → Option (List Output)) (xs : List A) (x : A) (told : List Output) (output : Output) → Contains xs x → f x ≡ Some told → Contains told output → Contains (flat_map (λ told. told) (filter_map f xs)) output
told_among f [] x told output among gives has = absurd (none_contained x among)
told_among {A} f (y ∷ ys) x told output among gives has = ⊎_elim here (λ later. behind (f y) (told_among f ys x told output later gives has)) (Contains-cons_cases y ys x among)
  where
    rest : List (List Output)
    rest = filter_map f ys

    behind : (o : Option (List Output)) → Contains (flat_map (λ told. told) rest) output → Contains (flat_map (λ told. told) (cons_option o rest)) output
    behind None there = there
    behind (Some first) there = Contains-append_right first (flat_map (λ told. told) rest) output there

    own : (o : Option (List Output)) → o ≡ Some told → Contains (flat_map (λ told. told) (cons_option o rest)) output
    own None same = absurd (let e = same in cc)
    own (Some first) same = Contains-append_left first (flat_map (λ told. told) rest) output (subst (λ (outputs : List Output). Contains outputs output) (sym (same_Some first told same)) has)

    here : y ≡ x → Contains (flat_map (λ told. told) (cons_option (f y) rest)) output
    here same = own (f y) (ap f same ∙ gives)

-- where a row is found that passes a test, there is a first one that does
first_there : (test : Key × PathFact → Bool) (key : Key) (path : PathFact) (rows : List (Key × PathFact)) → find key_cmp key rows ≡ Some path → test (key, path) ≡ true → find_first test rows ≡ None → ⊥
first_there test key path [] found passes none = let e = found in cc
first_there test key path (row ∷ rows) found passes none =
    elim (test row) as (λ b. test row ≡ b → cond b (Some row) (find_first test rows) ≡ None → ⊥) [
      | true ↦ λ is gone. let e = gone in cc
      | false ↦ λ fails gone. elim (eq_by_cmp key_cmp key row.0) as (λ b. eq_by_cmp key_cmp key row.0 ≡ b → cond b (Some row.1) (find key_cmp key rows) ≡ Some path → ⊥) [
        | true ↦ λ tie own.
            let same : row ≡ (key, path) = λ i. (sym (key_exact key row.0 (ties _ tie)) i, same_Some row.1 path own i) in
            let e = sym fails ∙ ap test same ∙ passes in cc
        | false ↦ λ apart other. first_there test key path rows other passes gone
      ] refl found
    ] refl none

-- ---- what goes on is for an LSP

module _ (r : Router) (s : State) (is : IsSound r s) (a : Arrive) (e : ResvErr) where
  abbrev AreOn : List Output → Type 0
  AreOn told = AllByRecursion (GoesOn r s a e) told

  -- one that may be sent
  if_sent : (o : Option Output) → ((output : Output) → o ≡ Some output → GoesOn r s a e output) → AreOn (option_to_list o)
  if_sent None on = tt
  if_sent (Some output) on = (on output refl, tt)

  -- what is told of an LSP that the ResvErr is for
  to-on : (d : ErrorDescriptor) (key : Key) → IsErrFor s a e d key → IfSome (err_to r s e (record d { filter = key.sender }) key) AreOn
  to-on d key is_for = by (find key_cmp key s.resvs) refl (find key_cmp key s.repairs) refl
    where
      own : ErrorDescriptor
      own = record d { filter = key.sender }

      by : (resv : Option ResvFact) → find key_cmp key s.resvs ≡ resv → (repair : Option Repair) → find key_cmp key s.repairs ≡ repair
          → IfSome (option_or (option_map (λ (resv : ResvFact). option_to_list (told_downstream r resv.link e.session e.error e.style (own ∷ []))) resv) (option_map (λ repair. option_to_list (err_through (around_of r s) repair e own)) repair)) AreOn
      by (Some resv) at repair over = if_sent (told_downstream r resv.link e.session e.error e.style (own ∷ [])) (λ output sent. record { descriptor = d; key = key; is_for = is_for; told = inl (resv, at, sent) })
      by None at (Some repair) over = if_sent (err_through (around_of r s) repair e own) (λ output sent. record { descriptor = d; key = key; is_for = is_for; told = inr (repair, over, sent) })
      by None at None over = tt

  -- one from a neighbour,
  hop-on : a.way ≡ ways.Hop → (d : ErrorDescriptor) → Contains e.descriptors d → IfSome (err_onward r s a.link e d) AreOn
  hop-on way d among = by (find key_cmp key s.facts.paths) refl
    where
      key : Key
      key = lsp e.session d.filter

      names : (path : PathFact) → is_from_origin a.link e path ≡ true → names_lsp a.way a.link e d (key, path) ≡ true
      names path from = subst (λ (w : ArrivalWay). names_lsp w a.link e d (key, path) ≡ true) (sym way) (λ i. is_eq (tied_itself key_total key i) && from i)

      by : (path : Option PathFact) → find key_cmp key s.facts.paths ≡ path
          → IfSome (option_and_then (λ (path : PathFact). if not (is_from_origin a.link e path) then None else if not (goes_on path.role) then Some [] else err_to r s e d key) path) AreOn
      by None known = tt
      by (Some path) known =
          cond_both (not (is_from_origin a.link e path)) None _ (λ (o : Option (List Output)). IfSome o AreOn) (λ other. tt)
          (λ from. cond_both (not (goes_on path.role)) (Some []) _ (λ (o : Option (List Output)). IfSome o AreOn) (λ ends. tt)
          (λ goes. to-on d key (record { among = among; path = path; known = known; names = names path (not-false (is_from_origin a.link e path) from) })))

  -- or one that came through a stack
  stack-on : a.way ≡ ways.Stack → (d : ErrorDescriptor) → Contains e.descriptors d → IfSome (stack_err_onward r s e d) AreOn
  stack-on way d among =
      by (find_first test s.facts.paths) (find-passes test s.facts.paths) (find-holds (λ path. find key_cmp path.0 s.facts.paths ≡ Some path.1) test s.facts.paths (all_found key_cmp key_total s.facts.paths is.paths.paths.in_order))
    where
      test : Key × PathFact → Bool
      test path = came_through (lsp e.session d.filter) path

      by : (path : Option (Key × PathFact)) → IfSome path (λ path. test path ≡ true) → IfSome path (λ path. find key_cmp path.0 s.facts.paths ≡ Some path.1)
          → IfSome (option_and_then (λ (path : Key × PathFact). if not (goes_on path.1.role) then Some [] else err_to r s e (record d { filter = path.0.sender }) path.0) path) AreOn
      by None came known = tt
      by (Some path) came known =
          cond_both (not (goes_on path.1.role)) (Some []) _ (λ (o : Option (List Output)). IfSome o AreOn) (λ ends. tt)
          (λ goes. to-on d path.0 (record { among = among; path = path.1; known = known; names = subst (λ (w : ArrivalWay). names_lsp w a.link e d path ≡ true) (sym way) came }))

  -- so are all
  matched-on : (f : ErrorDescriptor → Option (List Output)) → ((d : ErrorDescriptor) → Contains e.descriptors d → IfSome (f d) AreOn) → AllByRecursion AreOn (filter_map f e.descriptors)
  matched-on f on =
      all-given AreOn f e.descriptors (all-weaker (Contains e.descriptors) (λ d. IfSome (f d) AreOn) on e.descriptors (recursion_from_All (Contains e.descriptors) e.descriptors (All-contains_itself e.descriptors)))

  all_on : (matched : List (List Output)) → AllByRecursion AreOn matched → AreOn (flat_map (λ told. told) matched)
  all_on [] on = tt
  all_on (told ∷ more) on = all-append (GoesOn r s a e) told (flat_map (λ told. told) more) on.0 (all_on more on.1)

  module _ (rests : AreSettled r s) (stand : AreStanding r s) (chosen : List (Key × ℕ)) where
    abbrev Passes : Outcome → Type 0
    Passes o = (known_after r s chosen o ≡ s) × AreOn (sent_in r s o s)

    refused-on : Passes (refused s NoMatch)
    refused-on = (refl, tt)

    passed-on : (matched : List (List Output)) → AllByRecursion AreOn matched → Passes (resv_err_passed_on s matched)
    passed-on [] on = refused-on
    passed-on (told ∷ more) on =
        let errors = flat_map (λ (told : List Output). told) (told ∷ more) in
        (known-same r s is rests stand replies.Done errors chosen, subst AreOn (sym (sent_errors r s is rests stand replies.Done errors)) (all-filter (GoesOn r s a e) (λ output. is_up s.facts.up output.link) errors (all_on (told ∷ more) on)))

    whole-on : (way : ArrivalWay) → a.way ≡ way → Passes (arrival_by r s way a.link (readings.Whole (contents.ResvErr e)))
    unfolding resv_err_arrival stack_err_arrival
    whole-on ways.Hop is_so = passed-on (filter_map (err_onward r s a.link e) e.descriptors) (matched-on (err_onward r s a.link e) (hop-on is_so))
    whole-on ways.Stack is_so = passed-on (filter_map (stack_err_onward r s e) e.descriptors) (matched-on (stack_err_onward r s e) (stack-on is_so))
    whole-on ways.Routed is_so = refused-on

    -- with an object that isn't known it is as without
    unknown-on : (class ctype : ℕ) (way : ArrivalWay) → a.way ≡ way → Passes (arrival_by r s way a.link (readings.Unknown (contents.ResvErr e) class ctype))
    unknown-on class ctype ways.Hop is_so = whole-on ways.Hop is_so
    unknown-on class ctype ways.Stack is_so = whole-on ways.Stack is_so
    unknown-on class ctype ways.Routed is_so = whole-on ways.Routed is_so

    reading-on : (reading : Reading) → content_in reading ≡ contents.ResvErr e → Passes (arrival_by r s a.way a.link reading)
    reading-on (readings.Whole content) same = subst (λ (c : Content). Passes (arrival_by r s a.way a.link (readings.Whole c))) (sym same) (whole-on a.way refl)
    reading-on (readings.Unknown content class ctype) same = subst (λ (c : Content). Passes (arrival_by r s a.way a.link (readings.Unknown c class ctype))) (sym same) (unknown-on class ctype a.way refl)

    arrival-on : content_in a.reading ≡ contents.ResvErr e → Passes (arrival r s a)
    unfolding arrival
    arrival-on same =
        cond_both (is_none (link_at r a.link)) (refused s UnknownLink) _ Passes (λ none. (refl, tt))
        (λ there. cond_both (not (is_up s.facts.up a.link)) (refused s LinkDown) _ Passes (λ down. (refl, tt)) (λ up. reading-on a.reading same))

-- A ResvErr changes nothing, and what is sent for it goes on for LSPs that it is for.
pub resv_err_alone : (r : Router) (before after : State) (made : Made) (arrived : Arrive) (e : ResvErr) → IsSound r before → AreSettled r before → AreStanding r before → Step r before made after → made.event ≡ events.Arrive arrived
    → content_in arrived.reading ≡ contents.ResvErr e → (after ≡ before) × AllByRecursion (GoesOn r before arrived e) made.outputs
resv_err_alone r before after made arrived e is rests stand x event same =
    let o = arrival r before arrived in
    let passes = arrival-on r before is arrived e rests stand made.labels same in
    let came = led r before after made (events.Arrive arrived) o x event refl ∙ passes.0 in
    (came, subst (AllByRecursion (GoesOn r before arrived e)) (sym (sends r before after made (events.Arrive arrived) o x event refl ∙ ap (sent_in r before o) came)) passes.1)

-- ---- and it does go on

module _ (r : Router) (s : State) (is : IsSound r s) (a : Arrive) (e : ResvErr) (d : ErrorDescriptor) (key : Key) where
  abbrev own : ErrorDescriptor
  own = record d { filter = key.sender }

  -- What is told of an LSP that is reserved or repaired, over a link that is up; its path leaves by a link.
  record IsTold : Type 0 where
    output : Output
    goes : GoesOnFor r s e d key output
    told : err_to r s e (record d { filter = key.sender }) key ≡ Some (output ∷ [])
    up : is_up s.facts.up output.link ≡ true
    link : ℕ
    leaves : option_map_or (leaves_by link) (find key_cmp key s.facts.paths) false ≡ true

  reserved-told : (resv : ResvFact) → find key_cmp key s.resvs ≡ Some resv → IsTold
  reserved-told resv reserved = by (link_at r resv.link) refl (up_known r s resv.link is stood.0)
    where
      stood : (is_up s.facts.up resv.link ≡ true) × (option_map_or (leaves_by resv.link) (find key_cmp key s.facts.paths) false ≡ true)
      stood = and_parts (is_up s.facts.up resv.link) (option_map_or (leaves_by resv.link) (find key_cmp key s.facts.paths) false) (of_found (λ resv. stands s.facts resv ≡ true) key resv s.resvs is.standing reserved)

      say : Link → Output
      say l = sent_by resv.link (contents.ResvErr (record { session = e.session; hop = record { address = l.address; interface = resv.link }; error = e.error; style = e.style; descriptors = own ∷ [] }))

      by : (o : Option Link) → link_at r resv.link ≡ o → is_some o ≡ true → IsTold
      by None at there = absurd (let f = there in cc)
      by (Some l) at there =
          let sent : told_downstream r resv.link e.session e.error e.style (own ∷ []) ≡ Some (say l) = ap (option_map say) at in
          record {
            output = say l;
            goes = inl (resv, reserved, sent);
            told = ap (λ (o : Option ResvFact). option_or (option_map (λ (resv : ResvFact). option_to_list (told_downstream r resv.link e.session e.error e.style (own ∷ []))) o) (option_map (λ repair. option_to_list (err_through (around_of r s) repair e own)) (find key_cmp key s.repairs))) reserved
                ∙ ap (λ (o : Option Output). Some (option_to_list o)) sent;
            up = stood.0;
            link = resv.link;
            leaves = stood.1;
          }

  repaired-told : (repair : Repair) → find key_cmp key s.repairs ≡ Some repair → IsTold
  repaired-told repair found = by (link_at r repair.resv.link) refl (leaves_over r repair.resv.link path its.way leaving)
    where
      path : PathFact
      path = (repair_on_bypass r s key repair is found).0

      over : Over
      over = (repair_on_bypass r s key repair is found).1

      known : find key_cmp key s.facts.paths ≡ Some path
      known = (repair_on_bypass r s key repair is found).2

      leaving : leaves_by repair.resv.link path ≡ true
      leaving = (repair_on_bypass r s key repair is found).3

      its : IsPath r s.facts.moment (key, path)
      its = subst (λ (o : Option PathFact). IfSome o (λ f. IsPath r s.facts.moment (key, f))) known (path_known r s.facts.moment key s.facts.paths is.paths.paths)

      free : find key_cmp key s.resvs ≡ None
      free = of_found (λ (repair : Key × Repair). find key_cmp repair.0 s.resvs ≡ None) key repair s.repairs is.repaired.apart found

      through : Link → List ErrorDescriptor
      through link = record own { filter = head_through own.filter link } ∷ []

      say : Link → Over → Output
      say link over = labelled_by over (contents.ResvErr (record { session = e.session; hop = hop_through r repair; error = e.error; style = e.style; descriptors = through link }))

      by : (o : Option Link) → link_at r repair.resv.link ≡ o → is_some o ≡ true → IsTold
      by None at there = absurd (let f = there in cc)
      by (Some link) at there =
          let sent : err_through (around_of r s) repair e own ≡ Some (say link over) =
          ap (option_and_then (λ (link : Link). told_through (around_of r s) repair e.session e.error e.style (through link))) at ∙ ap (option_map (say link)) (repair_on_bypass r s key repair is found).4 in
          record {
            output = say link over;
            goes = inr (repair, found, sent);
            told = ap (λ (o : Option ResvFact). option_or (option_map (λ (resv : ResvFact). option_to_list (told_downstream r resv.link e.session e.error e.style (own ∷ []))) o) (option_map (λ repair. option_to_list (err_through (around_of r s) repair e own)) (find key_cmp key s.repairs))) free
                ∙ ap (option_map (λ (repair : Repair). option_to_list (err_through (around_of r s) repair e own))) found
                ∙ ap (λ (o : Option Output). Some (option_to_list o)) sent;
            up = (repair_on_bypass r s key repair is found).5;
            link = repair.resv.link;
            leaves = ap (λ (o : Option PathFact). option_map_or (leaves_by repair.resv.link) o false) known ∙ leaving;
          }

  held-told : is_held s key ≡ true → IsTold
  held-told = by (find key_cmp key s.resvs) refl (find key_cmp key s.repairs) refl
    where
      by : (resv : Option ResvFact) → find key_cmp key s.resvs ≡ resv → (repair : Option Repair) → find key_cmp key s.repairs ≡ repair → (is_some resv || is_some repair) ≡ true → IsTold
      by (Some resv) at repair over held = reserved-told resv at
      by None at (Some repair) over held = repaired-told repair over
      by None at None over held = absurd (let f = held in cc)

  module _ (is_for : IsErrFor s a e d key) (told : IsTold) where
    -- the path goes on
    goes : goes_on is_for.path.role ≡ true
    unfolding leaves_by
    goes = (and_parts (goes_on is_for.path.role) (is_for.path.out_link == told.link) (ap (λ (o : Option PathFact). option_map_or (leaves_by told.link) o false) (sym is_for.known) ∙ told.leaves)).0

    -- one from a neighbour goes on,
    hop-tells : a.way ≡ ways.Hop → err_onward r s a.link e d ≡ Some (told.output ∷ [])
    hop-tells way =
        let parts = and_parts (is_eq (key_cmp (lsp e.session d.filter) key)) (is_from_origin a.link e is_for.path) (subst (λ (w : ArrivalWay). names_lsp w a.link e d (key, is_for.path) ≡ true) way is_for.names) in
        let same : lsp e.session d.filter ≡ key = key_exact (lsp e.session d.filter) key (ties _ parts.0) in
        let passed : Bool → Bool → Option (List Output) = λ from on. if not from then None else if not on then Some [] else err_to r s e d (lsp e.session d.filter) in
        ap (option_and_then (λ (path : PathFact). passed (is_from_origin a.link e path) (goes_on path.role))) (ap (λ k. find key_cmp k s.facts.paths) same ∙ is_for.known)
        ∙ (λ i. passed (parts.1 i) (goes i))
        ∙ ap (λ (k : Key). err_to r s e (record d { filter = k.sender }) k) same
        ∙ told.told

    -- one that came through a stack is for one path,
    the_first : find_first (came_through (lsp e.session d.filter)) s.facts.paths ≡ None → a.way ≡ ways.Stack → ⊥
    the_first none way = first_there (came_through (lsp e.session d.filter)) key is_for.path s.facts.paths is_for.known (subst (λ (w : ArrivalWay). names_lsp w a.link e d (key, is_for.path) ≡ true) way is_for.names) none

    one_path : a.way ≡ ways.Stack → find_first (came_through (lsp e.session d.filter)) s.facts.paths ≡ Some (key, is_for.path)
    one_path way =
        by (find_first test s.facts.paths) refl (find-passes test s.facts.paths) (find-holds (λ row. find key_cmp row.0 s.facts.paths ≡ Some row.1) test s.facts.paths (all_found key_cmp key_total s.facts.paths is.paths.paths.in_order))
      where
        test : Key × PathFact → Bool
        test path = came_through (lsp e.session d.filter) path

        by : (o : Option (Key × PathFact)) → find_first test s.facts.paths ≡ o → IfSome o (λ row. test row ≡ true) → IfSome o (λ row. find key_cmp row.0 s.facts.paths ≡ Some row.1) → o ≡ Some (key, is_for.path)
        by None none came known = absurd (the_first none way)
        by (Some row) first came known =
            let came_here = subst (λ (w : ArrivalWay). names_lsp w a.link e d (key, is_for.path) ≡ true) way is_for.names in
            let same : row.0 ≡ key = key_exact row.0 key (ties _ (is.paths.paths.apart (lsp e.session d.filter) row.0 key row.1 is_for.path known is_for.known came came_here)) in
            let path : row.1 ≡ is_for.path = same_Some row.1 is_for.path (sym known ∙ ap (λ (k : Key). find key_cmp k s.facts.paths) same ∙ is_for.known) in
            λ i. Some (same i, path i)

    -- and goes on
    stack-tells : a.way ≡ ways.Stack → stack_err_onward r s e d ≡ Some (told.output ∷ [])
    stack-tells way =
        let passed : Bool → Option (List Output) = λ on. if not on then Some [] else err_to r s e (record d { filter = key.sender }) key in
        ap (option_and_then (λ (path : Key × PathFact). if not (goes_on path.1.role) then Some [] else err_to r s e (record d { filter = path.0.sender }) path.0)) (one_path way)
        ∙ ap passed goes
        ∙ told.told

    -- The outcome tells it.
    abbrev Tells : Outcome → Type 0
    Tells o = (errors : List Output) × (o ≡ replied replies.Done errors s) × Contains errors told.output

    matched : (all : List (List Output)) → Contains (flat_map (λ told. told) all) told.output → Tells (resv_err_passed_on s all)
    matched [] there = absurd (none_contained told.output there)
    matched (first ∷ more) there = (flat_map (λ (told : List Output). told) (first ∷ more), refl, there)

    tells : (f : ErrorDescriptor → Option (List Output)) → f d ≡ Some (told.output ∷ []) → Tells (resv_err_passed_on s (filter_map f e.descriptors))
    tells f gives = matched (filter_map f e.descriptors) (told_among f e.descriptors d (told.output ∷ []) told.output is_for.among gives (Contains-first told.output [] told.output refl))

    whole-tells : (way : ArrivalWay) → a.way ≡ way → Tells (arrival_by r s way a.link (readings.Whole (contents.ResvErr e)))
    unfolding resv_err_arrival stack_err_arrival
    whole-tells ways.Hop is_so = tells (err_onward r s a.link e) (hop-tells is_so)
    whole-tells ways.Stack is_so = tells (stack_err_onward r s e) (stack-tells is_so)
    whole-tells ways.Routed is_so = absurd (let none = subst (λ (w : ArrivalWay). names_lsp w a.link e d (key, is_for.path) ≡ true) is_so is_for.names in cc)

    unknown-tells : (class ctype : ℕ) (way : ArrivalWay) → a.way ≡ way → Tells (arrival_by r s way a.link (readings.Unknown (contents.ResvErr e) class ctype))
    unknown-tells class ctype ways.Hop is_so = whole-tells ways.Hop is_so
    unknown-tells class ctype ways.Stack is_so = whole-tells ways.Stack is_so
    unknown-tells class ctype ways.Routed is_so = whole-tells ways.Routed is_so

    reading-tells : (reading : Reading) → content_in reading ≡ contents.ResvErr e → Tells (arrival_by r s a.way a.link reading)
    reading-tells (readings.Whole content) same = subst (λ (c : Content). Tells (arrival_by r s a.way a.link (readings.Whole c))) (sym same) (whole-tells a.way refl)
    reading-tells (readings.Unknown content class ctype) same = subst (λ (c : Content). Tells (arrival_by r s a.way a.link (readings.Unknown c class ctype))) (sym same) (unknown-tells class ctype a.way refl)

    arrival-tells : HasLink r a.link → is_up s.facts.up a.link ≡ true → content_in a.reading ≡ contents.ResvErr e → Tells (arrival r s a)
    unfolding arrival
    arrival-tells there up same =
        subst Tells
        (sym (ap (λ b. cond (not b) (refused s UnknownLink) (cond (not (is_up s.facts.up a.link)) (refused s LinkDown) (arrival_by r s a.way a.link a.reading))) there
        ∙ ap (λ b. cond (not b) (refused s LinkDown) (arrival_by r s a.way a.link a.reading)) up)) (reading-tells a.reading same)

-- It goes on for an LSP that it is for, and that is reserved or repaired.
pub resv_err_goes_on : (r : Router) (before after : State) (made : Made) (arrived : Arrive) (e : ResvErr) (d : ErrorDescriptor) (key : Key) → IsSound r before → AreSettled r before → AreStanding r before → is_up before.facts.up arrived.link ≡ true
    → Step r before made after → made.event ≡ events.Arrive arrived → content_in arrived.reading ≡ contents.ResvErr e → IsErrFor before arrived e d key → is_held before key ≡ true
    → (made.reply ≡ replies.Done) × (output : Output) × GoesOnFor r before e d key output × Contains made.outputs output
resv_err_goes_on r before after made arrived e d key is rests stand up x event same is_for held =
    let told = held-told r before is arrived e d key held in
    let tells = arrival-tells r before is arrived e d key is_for told (up_known r before arrived.link is up) up same in
    let errors : List Output = tells.0 in
    let o = replied replies.Done errors before in
    let does : outcome r before (events.Arrive arrived) ≡ o = tells.1 in
    let came = led r before after made (events.Arrive arrived) o x event does ∙ known-same r before is rests stand replies.Done errors made.labels in
    let sent = sends r before after made (events.Arrive arrived) o x event does ∙ ap (sent_in r before o) came ∙ sent_errors r before is rests stand replies.Done errors in (
      answered r before after made (events.Arrive arrived) o x event does,
      told.output,
      told.goes,
      subst (λ (outputs : List Output). Contains outputs told.output) (sym sent) (Contains-filter (λ (output : Output). is_up before.facts.up output.link) errors told.output told.up tells.2),
    )
