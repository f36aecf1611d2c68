-- What holds of all that a step sends: of its errors, of tears, and of what is wanted after it.
use Rattle.std.specs.Prelude.{◌≡◌, ◌++◌, true, false, List, [], ◌∷◌, Option, Some, None, IfSome}
use Rattle.std.specs.FinMap.Entries.{find}
use Rattle.std.specs.List.{AllByRecursion, cons_option}
use Rattle.std.specs.Option.{option_map_or}
use Rattle.std.specs.declared.cmp.Ordering.{Ordering}
use Rattle.std.proofs.Common.{refl}
use Rattle.std.proofs.lemmas.Bool.{cond_both}
use Rattle.rsvp_contents.specs.declared.messages.Content.{Content}
use Rattle.rsvp_contents.specs.declared.messages.Content.TheVariants as contents
use Rattle.sorted_rows.specs.ListLaws.{all-append, all-filter, all-weaker}
use Rattle.lsr_facts.specs.Orders.{item_cmp}
use Rattle.lsr_facts.specs.Upstreams.{upstream_cmp}
use Rattle.lsr_facts.specs.declared.key.Item.{Item}
use Rattle.lsr_facts.specs.declared.router.Router.{Router}
use Rattle.lsr_facts.specs.declared.upstream.Upstream.{Upstream}
use Rattle.abstract_paths.specs.declared.events.Output.{Output}
use Rattle.abstract_paths.specs.Outputs.{between, errors_out, rests, send_for, tear_for}
use Rattle.abstract_paths.specs.Places.{is_up}
use Rattle.abstract_router.specs.Outputs.{outputs_of}
use Rattle.abstract_router.specs.States.{State}
use Rattle.abstract_router.specs.Upstreams.{upstream_of}
use Rattle.abstract_router.specs.Wanted.{items_of}
use Rattle.router_laws.specs.Sending.{content_of, is_path_err, is_state, is_tear, says}
use Rattle.router_laws.proofs.Exactly.{IsTear, tears-are}

-- what holds of what is wanted holds of what is sent of it
sends-hold : {I : Type 0} (cmp : I → I → Ordering) (P : Output → Type 0) (due : List I) (was is : List (I × Output)) → AllByRecursion (λ row. P row.1) is → AllByRecursion P (between cmp (send_for cmp due) is was)
sends-hold cmp P due was [] each = tt
sends-hold cmp P due was (wants ∷ more) each =
    by (send_for cmp due (find cmp wants.0 was) wants) (cond_both (rests cmp due (find cmp wants.0 was) wants) None (Some wants.1) (λ o. IfSome o P) (λ rest. tt) (λ goes. each.0)) (sends-hold cmp P due was more each.1)
  where
    by : (o : Option Output) → IfSome o P → AllByRecursion P (between cmp (send_for cmp due) more was) → AllByRecursion P (cons_option o (between cmp (send_for cmp due) more was))
    by None is rest = rest
    by (Some output) is rest = (is, rest)

-- What holds of the errors, of each tear, and of all that is wanted after a step, holds of all that it sends.
pub outputs-hold : (P : Output → Type 0) (r : Router) (before : State) (errors : List Output) (due : List Item) (upstream_due : List Upstream) (after : State)
    → AllByRecursion P errors → ((output : Output) → IsTear output → P output) → AllByRecursion (λ row. P row.1) (items_of r after) → AllByRecursion (λ row. P row.1) (upstream_of r after)
    → AllByRecursion P (outputs_of r before errors due upstream_due after)
unfolding outputs_of
outputs-hold P r before errors due upstream_due after of_errors of_tears of_items of_resvs =
    let up = after.facts.up in
    let told = errors_out up errors in
    let tears = between item_cmp (tear_for up) (items_of r before) (items_of r after) in
    let resv_tears = between upstream_cmp (tear_for up) (upstream_of r before) (upstream_of r after) in
    let sends = between item_cmp (send_for item_cmp due) (items_of r after) (items_of r before) in
    let resv_sends = between upstream_cmp (send_for upstream_cmp upstream_due) (upstream_of r after) (upstream_of r before) in
    all-append P (told ++ tears ++ resv_tears ++ sends) resv_sends
    (all-append P (told ++ tears ++ resv_tears) sends
    (all-append P (told ++ tears) resv_tears
    (all-append P told tears (all-filter P (λ output. is_up up output.link) errors of_errors) (all-weaker IsTear P of_tears tears (tears-are item_cmp up (items_of r after) (items_of r before))))
    (all-weaker IsTear P of_tears resv_tears (tears-are upstream_cmp up (upstream_of r after) (upstream_of r before))))
    (sends-hold item_cmp P due (items_of r before) (items_of r after) of_items))
    (sends-hold upstream_cmp P upstream_due (upstream_of r before) (upstream_of r after) of_resvs)

-- A tear is no PathErr,
pub tear_no_err : (output : Output) → says is_tear output ≡ true → says is_path_err output ≡ false
tear_no_err output = by (content_of output.frame)
  where
    by : (o : Option Content) → option_map_or is_tear o false ≡ true → option_map_or is_path_err o false ≡ false
    by None is = refl
    by (Some (contents.Path p)) is = refl
    by (Some (contents.Resv v)) is = refl
    by (Some (contents.PathErr e)) is = absurd (let f = is in cc)
    by (Some (contents.ResvErr e)) is = refl
    by (Some (contents.PathTear t)) is = refl
    by (Some (contents.ResvTear t)) is = refl

-- nor is what makes state.
pub state_no_err : (output : Output) → says is_state output ≡ true → says is_path_err output ≡ false
state_no_err output = by (content_of output.frame)
  where
    by : (o : Option Content) → option_map_or is_state o false ≡ true → option_map_or is_path_err o false ≡ false
    by None is = refl
    by (Some (contents.Path p)) is = refl
    by (Some (contents.Resv v)) is = refl
    by (Some (contents.PathErr e)) is = absurd (let f = is in cc)
    by (Some (contents.ResvErr e)) is = refl
    by (Some (contents.PathTear t)) is = refl
    by (Some (contents.ResvTear t)) is = refl
