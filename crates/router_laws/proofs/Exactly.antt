-- A step sends no tear but of what went, and no Path or Resv but what is news.
use Rattle.std.specs.Prelude.{◌≡◌, ◌≢◌, ◌&&◌, ◌||◌, ◌++◌, ◌==◌, ℕ, not, Bool, true, false, cond, if◌then◌else◌, T, List, [], ◌∷◌, filter, filter_map, length, map, Option, Some, None, IfSome, is_none, is_some}
use Rattle.std.specs.Cmp.{IsTotalOrder}
use Rattle.std.specs.FinMap.Entries.{find, is_sorted, where_key}
use Rattle.std.specs.List.{AllByRecursion, Contains, cons_option}
use Rattle.std.specs.Option.{option_map_or}
use Rattle.std.specs.declared.cmp.Ordering.{Ordering}
use Rattle.std.specs.declared.net.ipv4_addr.Ipv4Addr.{Ipv4Addr}
use Rattle.std.proofs.Common.{refl, ap, sym, subst, append-nil, inl, inr, ◌∙◌}
use Rattle.std.proofs.lemmas.Bool.{cond_both}
use Rattle.std.proofs.lemmas.Cmp.{nat_list_eq_equiv}
use Rattle.std.proofs.lemmas.List.Elements.{filter-append, filter_map-append}
use Rattle.rsvp_contents.specs.declared.messages.Content.{Content}
use Rattle.rsvp_contents.specs.declared.messages.Content.TheVariants as contents
use Rattle.sorted_rows.specs.ListLaws.{all-filter, all-weaker, filter-all_pass}
use Rattle.sorted_rows.specs.RowsLaws.{all_found, find-all, is_sorted-both}
use Rattle.lsr_facts.specs.Lifetimes.{due_items}
use Rattle.lsr_facts.specs.OrderLaws.{item_total}
use Rattle.lsr_facts.specs.Orders.{item_cmp}
use Rattle.lsr_facts.specs.Routers.{link_at}
use Rattle.lsr_facts.specs.UpstreamOrder.{upstream_total}
use Rattle.lsr_facts.specs.Upstreams.{upstream_cmp}
use Rattle.lsr_facts.specs.declared.key.Item.{Item}
use Rattle.lsr_facts.specs.declared.key.Key.{Key}
use Rattle.lsr_facts.specs.declared.path_fact.Origin.{Origin}
use Rattle.lsr_facts.specs.declared.path_fact.Via.{Via}
use Rattle.lsr_facts.specs.declared.path_fact.Via.TheVariants as vias
use Rattle.lsr_facts.specs.declared.reply.Reply.TheVariants as replies
use Rattle.lsr_facts.specs.declared.router.Router.{Router}
use Rattle.lsr_facts.specs.declared.upstream.Upstream.{Upstream}
use Rattle.abstract_paths.specs.Frame.{Frame}
use Rattle.abstract_paths.specs.Frame.TheVariants as frames
use Rattle.abstract_paths.specs.Frames.{frame_bytes}
use Rattle.abstract_paths.specs.Payload.TheVariants as payloads
use Rattle.abstract_paths.specs.declared.events.Event.TheVariants as events
use Rattle.abstract_paths.specs.declared.events.Made.{Made}
use Rattle.abstract_paths.specs.declared.events.Output.{Output}
use Rattle.abstract_paths.specs.Outcomes.{sent_by}
use Rattle.abstract_paths.specs.Outputs.{between, errors_out, is_due, is_same_frame, rests, send_for, tear_by, tear_for, tear_of}
use Rattle.abstract_paths.specs.Paths.{goes_on}
use Rattle.abstract_paths.specs.Places.{is_up}
use Rattle.abstract_paths.specs.RowLaws.{option_map-holds}
use Rattle.abstract_paths.specs.Routing.{route_to}
use Rattle.abstract_paths.specs.StampLaws.{is_due-due_items}
use Rattle.abstract_router.specs.Lsps.{Around, Lsp, around_of, lsps_of}
use Rattle.abstract_router.specs.Outputs.{outputs_of}
use Rattle.abstract_router.specs.Repairing.{told_repaired}
use Rattle.abstract_router.specs.Soundness.{IsSound}
use Rattle.abstract_router.specs.States.{State}
use Rattle.abstract_router.specs.Steps.{Step, promised}
use Rattle.abstract_router.specs.Through.{backup_of}
use Rattle.abstract_router.specs.UpstreamLaws.{all-filter_map, is_sorted-upstream_sound}
use Rattle.abstract_router.specs.Upstreams.{Reserved, reserved_for, upstream_of, upstream_row, upstream_rows, upstream_via}
use Rattle.abstract_router.specs.Wanted.{backup_row, downstream_row, items_of}
use Rattle.abstract_router.specs.WantedLaws.{is_sorted-items}
use Rattle.sorted_rows.specs.ListLaws.{all-append}
use Rattle.router_laws.specs.Sending.{due_in, is_news, is_overdue, is_state, is_tear, news_in, says, tears_of, wanted_no_more}
use Rattle.router_laws.proofs.OverUp.{all-flat_map, always, and_then-holds}
use Rattle.router_laws.proofs.Reports.{AreReports, IsReport, event_reports, event_tells, repaired-reports}
use Rattle.router_laws.proofs.Sent.{by_silence, gone_path, gone_resv, loud_sends, o, silent_wants, told}
use Rattle.router_laws.proofs.Settled.{filter-none_pass}
use Rattle.router_laws.proofs.Ticks.{sends_then, ticked}

-- ---- tears are tears, and what is wanted makes state

abbrev pub IsTear : Output → Type 0
IsTear output = (says is_state output ≡ false) × (says is_tear output ≡ true)

-- it has a tear, too
abbrev pub MakesState : Output → Type 0
MakesState output = (says is_state output ≡ true) × (says is_tear output ≡ false) × (is_some (tear_by output.link output.frame) ≡ true)

torn-content : (content : Content) → IfSome (tear_of content) (λ tear. (is_state tear ≡ false) × (is_tear tear ≡ true))
torn-content (contents.Path p) = (refl, refl)
torn-content (contents.Resv v) = cond_both (length v.descriptors == 0) None _ (λ o. IfSome o (λ tear. (is_state tear ≡ false) × (is_tear tear ≡ true))) (λ none. tt) (λ some. (refl, refl))
torn-content (contents.PathErr e) = tt
torn-content (contents.ResvErr e) = tt
torn-content (contents.PathTear t) = tt
torn-content (contents.ResvTear t) = tt

tear-is_tear : (link : ℕ) (frame : Frame) → IfSome (tear_by link frame) IsTear
tear-is_tear link (frames.Hop content) = option_map-holds IsTear (sent_by link) (tear_of content) (torn-content content)
tear-is_tear link (frames.Labelled stack (payloads.Message content)) =
    option_map-holds IsTear (λ tear. record { link = link; frame = frames.Labelled stack (payloads.Message tear) }) (tear_of content) (torn-content content)
tear-is_tear link (frames.Labelled stack (payloads.Received payload)) = tt
tear-is_tear link (frames.Routed to limit content) =
    option_map-holds IsTear (λ tear. record { link = link; frame = frames.Routed to limit tear }) (tear_of content) (torn-content content)
tear-is_tear link (frames.Relayed to limit message) = tt

abbrev pub IsRowOfState : {I : Type 0} → I × Output → Type 0
IsRowOfState wants = MakesState wants.1

module _ (a : Around) where
  downstream-state : (lsp : Key × Lsp) → IfSome (downstream_row a lsp) IsRowOfState
  downstream-state lsp =
      cond_both (goes_on lsp.1.path.role && is_none lsp.1.repair && is_up a.place.up lsp.1.path.out_link) _ None (λ o. IfSome o IsRowOfState)
      (λ goes. option_map-holds IsRowOfState _ (link_at a.place.router lsp.1.path.out_link) (always _ (λ link. (refl, refl, refl)) (link_at a.place.router lsp.1.path.out_link))) (λ stays. tt)

  backup-state : (lsp : Key × Lsp) → IfSome (backup_row a lsp) IsRowOfState
  backup-state lsp =
      and_then-holds IsRowOfState _
      (λ repair. option_map-holds IsRowOfState _ (backup_of a lsp.0 lsp.1.path repair)
      (and_then-holds MakesState _ (λ bypass_tunnel. and_then-holds MakesState _ (λ link. option_map-holds MakesState _ bypass_tunnel.over (always _ (λ over. (refl, refl, refl)) bypass_tunnel.over)) (link_at a.place.router repair.resv.link)) _))
      lsp.1.repair

  upstream-state : (lsp : Key × Lsp) (label : ℕ) (said : Reserved) (origin : Ipv4Addr × Origin) (via : Via) → IfSome (upstream_via a lsp label said origin via) IsRowOfState
  upstream-state lsp label said origin (vias.Link number) =
      cond_both (is_up a.place.up number) _ None (λ o. IfSome o IsRowOfState)
      (λ up. option_map-holds IsRowOfState _ (link_at a.place.router number) (always _ (λ link. (refl, refl, refl)) (link_at a.place.router number))) (λ down. tt)
  upstream-state lsp label said origin vias.Stack =
      option_map-holds IsRowOfState _ (route_to a.place origin.1.hop.address) (always _ (λ link. (refl, refl, refl)) (route_to a.place origin.1.hop.address))

  rows-state : (lsp : Key × Lsp) → AllByRecursion IsRowOfState (upstream_rows a lsp)
  rows-state lsp = by_label lsp.1.label
    where
      by_said : (label : ℕ) (o : Option Reserved) → AllByRecursion IsRowOfState (option_map_or (λ said. filter_map (upstream_row a lsp label said) lsp.1.path.origins) o [])
      by_said label None = tt
      by_said label (Some said) = all-filter_map IsRowOfState (upstream_row a lsp label said) (λ origin. upstream-state lsp label said origin origin.1.via) lsp.1.path.origins

      by_label : (o : Option ℕ) → AllByRecursion IsRowOfState (option_map_or (λ label. option_map_or (λ said. filter_map (upstream_row a lsp label said) lsp.1.path.origins) (reserved_for a lsp) []) o [])
      by_label None = tt
      by_label (Some label) = by_said label (reserved_for a lsp)

module _ (r : Router) (s : State) where
  pub items-state : AllByRecursion IsRowOfState (items_of r s)
  unfolding items_of
  items-state =
      all-append IsRowOfState (filter_map (downstream_row (around_of r s)) (lsps_of s)) (filter_map (backup_row (around_of r s)) (lsps_of s))
      (all-filter_map IsRowOfState (downstream_row (around_of r s)) (downstream-state (around_of r s)) (lsps_of s))
      (all-filter_map IsRowOfState (backup_row (around_of r s)) (backup-state (around_of r s)) (lsps_of s))

  pub resvs-state : AllByRecursion IsRowOfState (upstream_of r s)
  unfolding upstream_of
  resvs-state = all-flat_map IsRowOfState (upstream_rows (around_of r s)) (rows-state (around_of r s)) (lsps_of s)

-- ---- items of any kind

module _ {I : Type 0} (cmp : I → I → Ordering) where
  module _ (up : List (ℕ × Bool)) (is : List (I × Output)) where
    -- tears are those of what is wanted no more
    tears-same : (was : List (I × Output)) → between cmp (tear_for up) was is ≡ tears_of (wanted_no_more cmp up was is)
    tears-same [] = refl
    tears-same (row ∷ rows) = ap (cons_option (tear_for up (find cmp row.0 is) row)) (tears-same rows) ∙ one (is_none (find cmp row.0 is)) (is_up up row.1.link) refl
      where
        left : List (I × Output)
        left = where_key cmp (λ item. is_none (find cmp item is)) rows

        goes : Output → Bool
        goes output = is_up up output.link

        more : List Output
        more = filter goes (map (λ row. row.1) left)

        one : (gone on : Bool) → is_up up row.1.link ≡ on → cons_option (if gone && on then tear_by row.1.link row.1.frame else None) (tears_of more) ≡ tears_of (filter goes (map (λ row. row.1) (cond gone (row ∷ left) left)))
        one true true so = sym (ap (λ b. tears_of (cond b (row.1 ∷ more) more)) so)
        one true false so = sym (ap (λ b. tears_of (cond b (row.1 ∷ more) more)) so)
        one false on so = refl

    pub tears-are : (was : List (I × Output)) → AllByRecursion IsTear (between cmp (tear_for up) was is)
    tears-are was =
        all-filter_map IsTear (λ row. tear_for up (find cmp row.0 is) row)
        (λ row. cond_both (is_none (find cmp row.0 is) && is_up up row.1.link) (tear_by row.1.link row.1.frame) None (λ o. IfSome o IsTear) (λ goes. tear-is_tear row.1.link row.1.frame) (λ stays. tt)) was

  module _ (due : List I) (was : List (I × Output)) where
    sends-are : (is : List (I × Output)) → AllByRecursion IsRowOfState is → AllByRecursion MakesState (between cmp (send_for cmp due) is was)
    sends-are [] each = tt
    sends-are (wants ∷ more) each = by (send_for cmp due (find cmp wants.0 was) wants) (cond_both (rests cmp due (find cmp wants.0 was) wants) None (Some wants.1) (λ o. IfSome o MakesState) (λ rest. tt) (λ goes. each.0)) (sends-are more each.1)
      where
        by : (o : Option Output) → IfSome o MakesState → AllByRecursion MakesState (between cmp (send_for cmp due) more was) → AllByRecursion MakesState (cons_option o (between cmp (send_for cmp due) more was))
        by None is rest = rest
        by (Some output) is rest = (is, rest)

  -- where nothing is due, news are sent
  sends-news : (was is : List (I × Output)) → between cmp (send_for cmp []) is was ≡ news_in cmp was is
  sends-news was [] = refl
  sends-news was (row ∷ rows) = ap (cons_option (send_for cmp [] (find cmp row.0 was) row)) (sends-news was rows) ∙ one (rests cmp [] (find cmp row.0 was) row)
    where
      left : List (I × Output)
      left = filter (λ row. is_news (find cmp row.0 was) row.1) rows

      one : (rest : Bool) → cons_option (if rest then None else Some row.1) (map (λ row. row.1) left) ≡ map (λ row. row.1) (cond (not rest) (row ∷ left) left)
      one true = refl
      one false = refl

  -- at a moment, what is due too
  module _ (total : IsTotalOrder cmp) (refresh_ms : ℕ) (sent : List (I × ℕ)) (n : ℕ) (in_order : T (is_sorted cmp sent)) where
    abbrev due : List I
    due = due_items refresh_ms sent n

    sends-due : (was is : List (I × Output)) → between cmp (send_for cmp due) is was ≡ due_in cmp refresh_ms sent n was is
    sends-due was [] = refl
    sends-due was (row ∷ rows) =
        ap (cons_option (send_for cmp due (find cmp row.0 was) row)) (sends-due was rows)
        ∙ one (is_due cmp due row.0) (option_map_or (λ o. is_same_frame row.1.frame o.frame) (find cmp row.0 was) false)
        ∙ ap (λ b. map (λ (row : I × Output). row.1) (cond (is_news (find cmp row.0 was) row.1 || b) (row ∷ left) left)) (is_due-due_items cmp total refresh_ms sent n row.0 in_order)
      where
        left : List (I × Output)
        left = filter (λ row. is_news (find cmp row.0 was) row.1 || is_overdue cmp refresh_ms sent n row.0) rows

        one : (d same : Bool) → cons_option (if not d && same then None else Some row.1) (map (λ row. row.1) left) ≡ map (λ row. row.1) (cond (not same || d) (row ∷ left) left)
        one true true = refl
        one true false = refl
        one false true = refl
        one false false = refl

  -- what is wanted as before isn't gone, and is no news
  module _ (total : IsTotalOrder cmp) (rows : List (I × Output)) (in_order : T (is_sorted cmp rows)) where
    none-gone : (up : List (ℕ × Bool)) → wanted_no_more cmp up rows rows ≡ []
    none-gone up =
        ap (λ left. filter (λ (output : Output). is_up up output.link) (map (λ (row : I × Output). row.1) left))
        (filter-none_pass (λ row. is_none (find cmp row.0 rows)) rows (all-weaker (λ row. find cmp row.0 rows ≡ Some row.1) (λ row. is_none (find cmp row.0 rows) ≡ false) (λ row found. ap is_none found) rows (all_found cmp total rows in_order)))

    none-news : news_in cmp rows rows ≡ []
    none-news =
        ap (map (λ (row : I × Output). row.1))
        (filter-none_pass (λ row. is_news (find cmp row.0 rows) row.1) rows
        (all-weaker (λ row. find cmp row.0 rows ≡ Some row.1) (λ row. is_news (find cmp row.0 rows) row.1 ≡ false) (λ row found. ap (λ o. is_news o row.1) found ∙ ap not (nat_list_eq_equiv.refl (frame_bytes row.1.frame))) rows (all_found cmp total rows in_order)))

-- ---- a step

-- five lists of which one passes a test
filter_parts : (test : Output → Bool) (a b c d e : List Output) → filter test (a ++ b ++ c ++ d ++ e) ≡ filter test a ++ filter test b ++ filter test c ++ filter test d ++ filter test e
filter_parts test a b c d e =
    filter-append test (a ++ b ++ c ++ d) e
    ∙ ap (λ front. front ++ filter test e) (filter-append test (a ++ b ++ c) d ∙ ap (λ front. front ++ filter test d) (filter-append test (a ++ b) c ∙ ap (λ front. front ++ filter test c) (filter-append test a b)))

none-of : (test : Output → Bool) (P : Output → Type 0) → ((output : Output) → P output → test output ≡ false) → (outputs : List Output) → AllByRecursion P outputs → filter test outputs ≡ []
none-of test P fails outputs each = filter-none_pass test outputs (all-weaker P (λ output. test output ≡ false) fails outputs each)

all-of : (test : Output → Bool) (P : Output → Type 0) → ((output : Output) → P output → test output ≡ true) → (outputs : List Output) → AllByRecursion P outputs → filter test outputs ≡ outputs
all-of test P passes outputs each = filter-all_pass test outputs (all-weaker P (λ output. test output ≡ true) passes outputs each)

-- nothing behind
append-nil_twice : (xs : List Output) → xs ++ [] ++ [] ≡ xs
append-nil_twice xs = ap (λ ys. ys ++ []) (append-nil xs) ∙ append-nil xs

module _ (r : Router) (before after : State) (made : Made) (sound : IsSound r before) (step : Step r before made after) where
  abbrev up : List (ℕ × Bool)
  up = after.facts.up

  abbrev errors : List Output
  errors = errors_out up (told r before after made step)

  told-report : AreReports (told r before after made step)
  told-report = all-append IsReport (o r before after made step).errors (told_repaired r (promised r (o r before after made step).after)) (event_reports r before made.event) (repaired-reports r (promised r (o r before after made step).after))

  errors-report : AreReports errors
  errors-report = all-filter IsReport (λ output. is_up up output.link) (told r before after made step) told-report

  items_in_order : T (is_sorted item_cmp (items_of r before))
  items_in_order = is_sorted-items r before sound.paths.paths.in_order

  resvs_in_order : T (is_sorted upstream_cmp (upstream_of r before))
  resvs_in_order = is_sorted-upstream_sound r before before.facts.moment sound.paths.paths

  abbrev Torn : Type 0
  Torn =
      filter (says is_tear) made.outputs
      ≡ tears_of (wanted_no_more item_cmp up (items_of r before) (items_of r after) ++ wanted_no_more upstream_cmp up (upstream_of r before) (upstream_of r after))

  loud_torn : (o r before after made step).is_silent ≡ false → Torn
  unfolding outputs_of
  loud_torn loud =
      let due = (o r before after made step).due in
      let upstream_due = (o r before after made step).upstream_due in
      let tears = between item_cmp (tear_for up) (items_of r before) (items_of r after) in
      let resv_tears = between upstream_cmp (tear_for up) (upstream_of r before) (upstream_of r after) in
      let sends = between item_cmp (send_for item_cmp due) (items_of r after) (items_of r before) in
      let resv_sends = between upstream_cmp (send_for upstream_cmp upstream_due) (upstream_of r after) (upstream_of r before) in
      let test = says is_tear in
      ap (filter test) (loud_sends r before after made step loud)
      ∙ filter_parts test errors tears resv_tears sends resv_sends
      ∙ (λ i. none-of test IsReport (λ output is. is.1) errors errors-report i
      ++ all-of test IsTear (λ output is. is.1) tears (tears-are item_cmp up (items_of r after) (items_of r before)) i
      ++ all-of test IsTear (λ output is. is.1) resv_tears (tears-are upstream_cmp up (upstream_of r after) (upstream_of r before)) i
      ++ none-of test MakesState (λ output is. is.1) sends (sends-are item_cmp due (items_of r before) (items_of r after) (items-state r after)) i
      ++ none-of test MakesState (λ output is. is.1) resv_sends (sends-are upstream_cmp upstream_due (upstream_of r before) (upstream_of r after) (resvs-state r after)) i)
      ∙ append-nil_twice (tears ++ resv_tears)
      ∙ (λ i. tears-same item_cmp up (items_of r after) (items_of r before) i ++ tears-same upstream_cmp up (upstream_of r after) (upstream_of r before) i)
      ∙ sym (filter_map-append (λ (output : Output). tear_by output.link output.frame) (wanted_no_more item_cmp up (items_of r before) (items_of r after)) (wanted_no_more upstream_cmp up (upstream_of r before) (upstream_of r after)))

  silent_sends : (o r before after made step).is_silent ≡ true → made.outputs ≡ []
  silent_sends silent = step.sent ∙ ap (λ b. if b then [] else outputs_of r before (told r before after made step) (o r before after made step).due (o r before after made step).upstream_due after) silent

  step_torn : made.event ≢ events.Restart → Torn
  step_torn runs =
      by_silence r before after made step Torn
      (λ silent. elim (silent_wants r before after made step silent) [
        | inl same ↦
            ap (filter (says is_tear)) (silent_sends silent)
            ∙ sym (λ i. tears_of (none-gone item_cmp item_total (items_of r before) items_in_order up i ++ none-gone upstream_cmp upstream_total (upstream_of r before) resvs_in_order up i))
            ∙ (λ i. tears_of (wanted_no_more item_cmp up (items_of r before) (sym same.0 i) ++ wanted_no_more upstream_cmp up (upstream_of r before) (sym same.1 i)))
        | inr restart ↦ absurd (runs restart.0)
      ])
      loud_torn

  abbrev SendsNews : Type 0
  SendsNews = filter (says is_state) made.outputs ≡ news_in item_cmp (items_of r before) (items_of r after) ++ news_in upstream_cmp (upstream_of r before) (upstream_of r after)

  -- of what goes out, what is sent of what is wanted makes state
  state_parts : (told : List Output) (due : List Item) (upstream_due : List Upstream) → AreReports told
      → filter (says is_state) (outputs_of r before told due upstream_due after)
      ≡ between item_cmp (send_for item_cmp due) (items_of r after) (items_of r before) ++ between upstream_cmp (send_for upstream_cmp upstream_due) (upstream_of r after) (upstream_of r before)
  unfolding outputs_of
  state_parts told due upstream_due reports =
      let tears = between item_cmp (tear_for up) (items_of r before) (items_of r after) in
      let resv_tears = between upstream_cmp (tear_for up) (upstream_of r before) (upstream_of r after) in
      let sends = between item_cmp (send_for item_cmp due) (items_of r after) (items_of r before) in
      let resv_sends = between upstream_cmp (send_for upstream_cmp upstream_due) (upstream_of r after) (upstream_of r before) in
      let test = says is_state in
      filter_parts test (errors_out up told) tears resv_tears sends resv_sends
      ∙ (λ i. none-of test IsReport (λ output is. is.0) (errors_out up told) (all-filter IsReport (λ output. is_up up output.link) told reports) i
      ++ none-of test IsTear (λ output is. is.0) tears (tears-are item_cmp up (items_of r after) (items_of r before)) i
      ++ none-of test IsTear (λ output is. is.0) resv_tears (tears-are upstream_cmp up (upstream_of r after) (upstream_of r before)) i
      ++ all-of test MakesState (λ output is. is.0) sends (sends-are item_cmp due (items_of r before) (items_of r after) (items-state r after)) i
      ++ all-of test MakesState (λ output is. is.0) resv_sends (sends-are upstream_cmp upstream_due (upstream_of r before) (upstream_of r after) (resvs-state r after)) i)

  loud_news : ((n : ℕ) → made.event ≢ events.Tick n) → (o r before after made step).is_silent ≡ false → SendsNews
  loud_news other loud =
      let none_due = event_tells r before made.event other in
      ap (filter (says is_state)) (loud_sends r before after made step loud)
      ∙ state_parts (told r before after made step) (o r before after made step).due (o r before after made step).upstream_due told-report
      ∙ (λ i. between item_cmp (send_for item_cmp (none_due.1 i)) (items_of r after) (items_of r before) ++ between upstream_cmp (send_for upstream_cmp (none_due.2 i)) (upstream_of r after) (upstream_of r before))
      ∙ (λ i. sends-news item_cmp (items_of r before) (items_of r after) i ++ sends-news upstream_cmp (upstream_of r before) (upstream_of r after) i)

  -- at a moment, what is due too
  moment_due : (n : ℕ) → made.event ≡ events.Tick n → made.reply ≡ replies.Done
      → filter (says is_state) made.outputs
      ≡ due_in item_cmp r.refresh_ms before.facts.sent n (items_of r before) (items_of r after) ++ due_in upstream_cmp r.refresh_ms before.sent_upstream n (upstream_of r before) (upstream_of r after)
  moment_due n is is_done =
      let sent_in_order = subst T (sym (is_sorted-both item_cmp before.facts.sent (items_of r before) sound.sent)) items_in_order in
      let sent_upstream_in_order = subst T (sym (is_sorted-both upstream_cmp before.sent_upstream (upstream_of r before) sound.sent_upstream)) resvs_in_order in
      ap (filter (says is_state)) (sends_then r before after made n step is is_done)
      ∙ state_parts (told_repaired r (promised r (ticked r before n).after)) (due_items r.refresh_ms before.facts.sent n) (due_items r.refresh_ms before.sent_upstream n) (repaired-reports r (promised r (ticked r before n).after))
      ∙ (λ i. sends-due item_cmp item_total r.refresh_ms before.facts.sent n sent_in_order (items_of r before) (items_of r after) i
      ++ sends-due upstream_cmp upstream_total r.refresh_ms before.sent_upstream n sent_upstream_in_order (upstream_of r before) (upstream_of r after) i)

  step_news : ((n : ℕ) → made.event ≢ events.Tick n) → SendsNews
  step_news other =
      by_silence r before after made step SendsNews
      (λ silent. elim (silent_wants r before after made step silent) [
        | inl same ↦
            ap (filter (says is_state)) (silent_sends silent)
            ∙ sym (λ i. none-news item_cmp item_total (items_of r before) items_in_order i ++ none-news upstream_cmp upstream_total (upstream_of r before) resvs_in_order i)
            ∙ (λ i. news_in item_cmp (items_of r before) (sym same.0 i) ++ news_in upstream_cmp (upstream_of r before) (sym same.1 i))
        | inr restart ↦
            ap (filter (says is_state)) (silent_sends silent)
            ∙ (λ i. news_in item_cmp (items_of r before) (sym restart.1.0 i) ++ news_in upstream_cmp (upstream_of r before) (sym restart.1.1 i))
      ])
      (loud_news other)

-- The tears of a step are those of what went.
pub tears_exactly : (r : Router) (before after : State) (made : Made) → IsSound r before → Step r before made after → made.event ≢ events.Restart
    → filter (says is_tear) made.outputs ≡ tears_of (wanted_no_more item_cmp after.facts.up (items_of r before) (items_of r after) ++ wanted_no_more upstream_cmp after.facts.up (upstream_of r before) (upstream_of r after))
tears_exactly r before after made sound step runs = step_torn r before after made sound step runs

-- What a step sends to make state is news.
pub news_exactly : (r : Router) (before after : State) (made : Made) → IsSound r before → Step r before made after → ((n : ℕ) → made.event ≢ events.Tick n)
    → filter (says is_state) made.outputs ≡ news_in item_cmp (items_of r before) (items_of r after) ++ news_in upstream_cmp (upstream_of r before) (upstream_of r after)
news_exactly r before after made sound step other = step_news r before after made sound step other

-- And at a moment it is news, or due.
pub due_exactly : (r : Router) (before after : State) (made : Made) (n : ℕ) → IsSound r before → Step r before made after → made.event ≡ events.Tick n → made.reply ≡ replies.Done
    → filter (says is_state) made.outputs
    ≡ due_in item_cmp r.refresh_ms before.facts.sent n (items_of r before) (items_of r after) ++ due_in upstream_cmp r.refresh_ms before.sent_upstream n (upstream_of r before) (upstream_of r after)
due_exactly r before after made n sound step is is_done = moment_due r before after made sound step n is is_done

-- a message that makes state, and is found, has a tear
torn_of : {I : Type 0} (cmp : I → I → Ordering) (item : I) (was : Output) (rows : List (I × Output)) → AllByRecursion IsRowOfState rows → find cmp item rows ≡ Some was → (tear : Output) × (tear_by was.link was.frame ≡ Some tear)
torn_of cmp item was rows each found = there (tear_by was.link was.frame) (subst (λ (o : Option Output). IfSome o MakesState) found (find-all cmp MakesState item rows each)).2
  where
    there : (o : Option Output) → is_some o ≡ true → (tear : Output) × (o ≡ Some tear)
    there None none = absurd (let e = none in cc)
    there (Some tear) some = (tear, refl)

-- A Path that is wanted no more is torn down.
pub path_torn : (r : Router) (before after : State) (made : Made) (item : Item) (was : Output) → Step r before made after → made.event ≢ events.Restart → find item_cmp item (items_of r before) ≡ Some was → find item_cmp item (items_of r after) ≡ None → is_up after.facts.up was.link ≡ true
    → (tear : Output) × (tear_by was.link was.frame ≡ Some tear) × Contains made.outputs tear
path_torn r before after made item was step runs wanted gone goes =
    let torn = torn_of item_cmp item was (items_of r before) (items-state r before) wanted in
    (torn.0, torn.1, gone_path r before after made item was torn.0 step runs wanted gone goes torn.1)

-- So is a Resv.
pub resv_torn : (r : Router) (before after : State) (made : Made) (upstream : Upstream) (was : Output) → Step r before made after → made.event ≢ events.Restart → find upstream_cmp upstream (upstream_of r before) ≡ Some was → find upstream_cmp upstream (upstream_of r after) ≡ None → is_up after.facts.up was.link ≡ true
    → (tear : Output) × (tear_by was.link was.frame ≡ Some tear) × Contains made.outputs tear
resv_torn r before after made upstream was step runs wanted gone goes =
    let torn = torn_of upstream_cmp upstream was (upstream_of r before) (resvs-state r before) wanted in
    (torn.0, torn.1, gone_resv r before after made upstream was torn.0 step runs wanted gone goes torn.1)
