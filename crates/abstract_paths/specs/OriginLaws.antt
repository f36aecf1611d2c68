-- Laws of the origins of a path.
use Rattle.std.specs.Prelude.{◌≡◌, ℕ, ◌+◌, ◌≤◌, not, true, T, List, [], ◌∷◌, filter, length, Option, Some, IfSome}
use Rattle.std.specs.FinMap.Entries.{find, is_sorted}
use Rattle.std.specs.List.{AllByRecursion}
use Rattle.std.specs.declared.cmp.Ordering.TheVariants.{Less}
use Rattle.std.specs.declared.net.ipv4_addr.Ipv4Addr.{Ipv4Addr}
use Rattle.std.proofs.Common.{arith, refl, sym, subst, ◌∙◌}
use Rattle.std.proofs.lemmas.Cmp.{tied_itself}
use Rattle.std.proofs.lemmas.List.Filters.{length-filter_both}
use Rattle.sorted_rows.specs.ListLaws.{all-both, all-filter, all-filter_passes}
use Rattle.sorted_rows.specs.RowsLaws.{all-below, find-all_row, is_sorted-filter, ties}
use Rattle.lsr_facts.specs.Limits.{max_origins}
use Rattle.lsr_facts.specs.OrderLaws.{address_exact, address_total}
use Rattle.lsr_facts.specs.Orders.{address_cmp}
use Rattle.lsr_facts.specs.declared.key.Key.{Key}
use Rattle.lsr_facts.specs.declared.path_fact.Origin.{Origin}
use Rattle.lsr_facts.specs.declared.path_fact.PathFact.{PathFact}
use Rattle.lsr_facts.specs.declared.path_fact.Role.{Role}
use Rattle.lsr_facts.specs.declared.path_fact.Role.TheVariants as roles
use Rattle.lsr_facts.specs.declared.router.Router.{Router}
use Rattle.abstract_paths.specs.Merging.{is_stack, stacks_in}
use Rattle.abstract_paths.specs.RowLaws.{first}
use Rattle.abstract_paths.specs.Soundness.{IsCountAs, IsPath, IsSenderAs}

-- Origins in order that are all one sender's are one at most.
one_origin : (sender : Ipv4Addr) (origins : List (Ipv4Addr × Origin)) → T (is_sorted address_cmp origins) → AllByRecursion (λ o. o.0 ≡ sender) origins → length origins ≤ 1
one_origin sender [] h own = omega arith
one_origin sender (o ∷ []) h own = omega arith
one_origin sender (o ∷ p ∷ os) h own =
    let low = (all-below address_cmp o.0 (p ∷ os) (first _ _ h)).0 in
    absurd (let e = subst (λ a. address_cmp o.0 a ≡ Less) (own.1.0 ∙ sym own.0) low in let t = tied_itself address_total o.0 in cc)

-- an origin whose Paths don't come through a stack is the LSP's own sender's
own_sender : (key : Key) (o : Ipv4Addr × Origin) → IsSenderAs key o → not (is_stack o.1.via) ≡ true → o.0 ≡ key.sender.sender
own_sender key o is hop = sym (address_exact key.sender.sender o.0 (ties _ (is ∙ hop)))

-- Beside those whose Paths come through stacks a path has one origin at most.
pub stacks_but_one : (key : Key) (origins : List (Ipv4Addr × Origin)) → T (is_sorted address_cmp origins) → AllByRecursion (IsSenderAs key) origins → length origins ≤ length (stacks_in origins) + 1
stacks_but_one key origins in_order senders =
    let hops : List (Ipv4Addr × Origin) = filter (λ (o : Ipv4Addr × Origin). not (is_stack o.1.via)) origins in
    let own : AllByRecursion (λ (o : Ipv4Addr × Origin). o.0 ≡ key.sender.sender) hops =
    all-both (IsSenderAs key) (λ o. not (is_stack o.1.via) ≡ true) (λ o. o.0 ≡ key.sender.sender) (own_sender key) hops
    (all-filter (IsSenderAs key) (λ o. not (is_stack o.1.via)) origins senders)
    (all-filter_passes (λ o. not (is_stack o.1.via) ≡ true) (λ o. not (is_stack o.1.via)) (λ o hop. hop) origins) in
    omega (
      arith,
      one_origin key.sender.sender hops (is_sorted-filter address_cmp (λ o. not (is_stack o.1.via)) origins in_order) own,
      length-filter_both (λ (o : Ipv4Addr × Origin). is_stack o.1.via) (λ o. not (is_stack o.1.via)) (λ o. refl) origins,
    )

-- as many as there may be by a role are at most four
count_few : (role : Role) (n : ℕ) → IsCountAs role n → n ≤ max_origins
count_few roles.Tail n counts = counts.1
count_few roles.Transit n counts = counts.1
count_few roles.Head n counts = omega (arith, counts)

-- A path has at most four origins.
pub few_origins : (r : Router) (moment : ℕ) (path : Key × PathFact) → IsPath r moment path → length path.1.origins ≤ max_origins
few_origins r moment path is = count_few path.1.role (length path.1.origins) is.origins.count

-- The origin that is found under a sender comes over a link where that is the LSP's own, and through a stack where not.
pub sender_as : (key : Key) (sender : Ipv4Addr) (o : Origin) (origins : List (Ipv4Addr × Origin)) → AllByRecursion (IsSenderAs key) origins → find address_cmp sender origins ≡ Some o → IsSenderAs key (sender, o)
sender_as key sender o origins senders found = subst (λ (known : Option Origin). IfSome known (λ v. IsSenderAs key (sender, v))) found (find-all_row address_cmp address_exact (IsSenderAs key) sender origins senders)
