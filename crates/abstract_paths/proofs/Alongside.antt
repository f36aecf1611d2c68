-- What the paths of tunnels that are signalled, what commands, and what comes through stacks leave as it was: all other paths,
-- the moment and the links.
use Rattle.std.specs.Prelude.{◌≡◌, ℕ, ◌+◌, ◌||◌, not, Bool, true, false, List, [], ◌∷◌, Option, Some, None, Result, Ok, Err, is_some, fold, option_to_list, T}
use Rattle.std.specs.FinMap.Entries.{find, is_sorted}
use Rattle.std.specs.List.{AllByRecursion}
use Rattle.std.specs.Option.{option_map_or}
use Rattle.std.specs.Ordering.{is_eq, nat_cmp}
use Rattle.std.proofs.Common.{refl, ap, sym, ◌∙◌}
use Rattle.std.proofs.lemmas.Bool.{and_parts, both_ways, cond_both, or_parts}
use Rattle.std.proofs.lemmas.Cmp.{nat_cmp_total}
use Rattle.std.specs.declared.net.ipv4_addr.Ipv4Addr.{Ipv4Addr}
use Rattle.rsvp_objects.specs.declared.values.ErrorSpec.{ErrorSpec}
use Rattle.sorted_rows.specs.ListLaws.{all-filter, all-weaker}
use Rattle.sorted_rows.specs.RowsLaws.{all-put_row, all_found, find-put_other, find-removed_other}
use Rattle.lsr_facts.specs.Lifetimes.{begins_here}
use Rattle.lsr_facts.specs.OrderLaws.{key_total}
use Rattle.lsr_facts.specs.Orders.{is_one_of, key_cmp}
use Rattle.lsr_facts.specs.Tunnels.{AreTunnels, current_key, head_key, heads_of, is_head, pending_key}
use Rattle.lsr_facts.specs.declared.choice.Choice.{Choice}
use Rattle.lsr_facts.specs.declared.errors.RsvpError.{RsvpError}
use Rattle.lsr_facts.specs.declared.facts.Facts.{Facts}
use Rattle.lsr_facts.specs.declared.key.Key.{Key}
use Rattle.lsr_facts.specs.declared.path_fact.Origin.{Origin}
use Rattle.lsr_facts.specs.declared.path_fact.PathFact.{PathFact}
use Rattle.lsr_facts.specs.declared.router.Router.{Router}
use Rattle.lsr_facts.specs.declared.tunnel.Tunnel.{Tunnel}
use Rattle.lsr_facts.specs.declared.tunnel.TunnelLsp.{TunnelLsp}
use Rattle.lsr_facts.specs.Changes.{begun}
use Rattle.abstract_paths.specs.declared.commands.Command.{Command}
use Rattle.abstract_paths.specs.declared.commands.Command.TheVariants.{AddTunnel, ChangeTunnel, CancelChange, DropTunnel, AddBypass, DropBypass, AddRoute, DropRoute}
use Rattle.rsvp_contents.specs.declared.messages.Path.{Path}
use Rattle.rsvp_contents.specs.declared.messages.PathErr.{PathErr}
use Rattle.rsvp_contents.specs.declared.messages.PathTear.{PathTear}
use Rattle.abstract_paths.proofs.Heads.{apart_back, is_head-current, same_keys}
use Rattle.abstract_paths.proofs.Merging.{joined-beside, stack_path_by, stack_tear_by}
use Rattle.abstract_paths.specs.Changes.{with_tunnel}
use Rattle.abstract_paths.specs.Commands.{commanded, tunnel_by, with_cancelled, with_change, with_dropped}
use Rattle.abstract_paths.specs.Heads.{head_hop, head_path, is_full, noted, signalled, tried, with_head, with_head_by, with_noted}
use Rattle.abstract_paths.specs.Merging.{is_beside, stack_path_arrival, stack_tear_arrival, with_stack}
use Rattle.abstract_paths.specs.Outcomes.{lsp}
use Rattle.abstract_paths.specs.Paths.{key_of}
use Rattle.abstract_paths.specs.Places.{place_of}
use Rattle.abstract_paths.specs.Tears.{left_with, noted_of, origins_without}

-- The facts are the same but for paths.
abbrev pub IsSameButPaths : Facts → Facts → Type 0
IsSameButPaths before after = after ≡ record before { paths = after.paths }

-- The facts are of the same moment, with the same links.
pub record IsSameTime (before after : Facts) : Type 0 where
  pub cold : after.cold ≡ before.cold
  pub moment : after.moment ≡ before.moment
  pub up : after.up ≡ before.up
  pub sent : after.sent ≡ before.sent

same_facts : (s : Facts) → IsSameTime s s
same_facts s = record { cold = refl; moment = refl; up = refl; sent = refl }

module _ (r : Router) where
  by_way-same : (tunnel : ℕ × Tunnel) (lsp : TunnelLsp) (s : Facts) (way : Result Choice RsvpError) → IsSameButPaths s (with_head_by r tunnel lsp s way)
  by_way-same tunnel lsp s (Ok way) = refl
  by_way-same tunnel lsp s (Err e) = refl

  -- A tunnel's LSP is signalled.
  pub with_head-same : (tunnel : ℕ × Tunnel) (lsp : TunnelLsp) (s : Facts) → IsSameButPaths s (with_head r tunnel lsp s)
  unfolding with_head
  with_head-same tunnel lsp s = by_way-same tunnel lsp s (head_hop (place_of r s) lsp.route tunnel.1.endpoint)

  tried-same : (s : Facts) (tunnel : ℕ × Tunnel) → IsSameButPaths s (tried r s tunnel)
  tried-same s tunnel =
      cond_both (is_full s || is_some (find key_cmp (current_key r tunnel) s.paths)) s _ (IsSameButPaths s) (λ not_now. refl) (λ room. with_head-same tunnel tunnel.1.current s)

  all_tried-same : (tunnels : List (ℕ × Tunnel)) (s : Facts) → IsSameButPaths s (fold (tried r) s tunnels)
  all_tried-same [] s = refl
  all_tried-same (tunnel ∷ tunnels) s =
      let after = fold (tried r) (tried r s tunnel) tunnels in
      all_tried-same tunnels (tried r s tunnel) ∙ ap (λ (x : Facts). record x { paths = after.paths }) (tried-same s tunnel)

  -- All tunnels are tried.
  pub signalled-same : (s : Facts) → IsSameButPaths s (signalled r s)
  unfolding signalled
  signalled-same s = all_tried-same s.tunnels s

  module _ (P : Key × PathFact → Type 0) (heads : (key : Key) (tunnel : Tunnel) (lsp : TunnelLsp) (way : Choice) → P (key, head_path tunnel lsp way)) where
    by_way-all : (tunnel : ℕ × Tunnel) (lsp : TunnelLsp) (s : Facts) (way : Result Choice RsvpError) → AllByRecursion P s.paths → AllByRecursion P (with_head_by r tunnel lsp s way).paths
    by_way-all tunnel lsp s (Err e) are = are
    by_way-all tunnel lsp s (Ok way) are =
        let key = head_key r tunnel.0 tunnel.1.endpoint lsp.id in
        let fact = head_path tunnel.1 lsp way in
        all-put_row key_cmp P key fact (λ k tied. heads k tunnel.1 lsp way) (heads key tunnel.1 lsp way) s.paths are

    -- What holds of each path, and of each that a tunnel's LSP gets, holds of each once a tunnel's LSP is signalled,
    pub with_head-all : (tunnel : ℕ × Tunnel) (lsp : TunnelLsp) (s : Facts) → AllByRecursion P s.paths → AllByRecursion P (with_head r tunnel lsp s).paths
    unfolding with_head
    with_head-all tunnel lsp s are = by_way-all tunnel lsp s (head_hop (place_of r s) lsp.route tunnel.1.endpoint) are

    tried-all : (s : Facts) (tunnel : ℕ × Tunnel) → AllByRecursion P s.paths → AllByRecursion P (tried r s tunnel).paths
    tried-all s tunnel are =
        cond_both (is_full s || is_some (find key_cmp (current_key r tunnel) s.paths)) s _ (λ x. AllByRecursion P x.paths) (λ not_now. are) (λ room. with_head-all tunnel tunnel.1.current s are)

    all_tried-all : (tunnels : List (ℕ × Tunnel)) (s : Facts) → AllByRecursion P s.paths → AllByRecursion P (fold (tried r) s tunnels).paths
    all_tried-all [] s are = are
    all_tried-all (tunnel ∷ tunnels) s are = all_tried-all tunnels (tried r s tunnel) (tried-all s tunnel are)

    -- once all are tried,
    pub signalled-all : (s : Facts) → AllByRecursion P s.paths → AllByRecursion P (signalled r s).paths
    unfolding signalled
    signalled-all s are = all_tried-all s.tunnels s are

    change-all : (number : ℕ) (tunnel : Tunnel) (lsp : Option TunnelLsp) (s : Facts) → AllByRecursion P s.paths → AllByRecursion P (option_map_or (λ l. with_head r (number, tunnel) l s) lsp s).paths
    change-all number tunnel None s are = are
    change-all number tunnel (Some lsp) s are = with_head-all (number, tunnel) lsp s are

    -- and after a command.
    pub commanded-all : (s : Facts) (c : Command) → AllByRecursion P s.paths → AllByRecursion P (commanded r s c).paths
    commanded-all s (AddTunnel t) are = with_head-all (t.number, tunnel_by t) (tunnel_by t).current s are
    commanded-all s (ChangeTunnel c) are = by (find nat_cmp c.number s.tunnels)
      where
        by : (known : Option Tunnel) → AllByRecursion P (option_map_or (λ t. with_change r c.number (begun c.route c.tspec t) s) known s).paths
        by None = are
        by (Some t) = with_head-all (c.number, begun c.route c.tspec t) _ s are
    commanded-all s (CancelChange number) are = by (find nat_cmp number s.tunnels)
      where
        by : (known : Option Tunnel) → AllByRecursion P (option_map_or (λ t. with_cancelled r number t s) known s).paths
        by None = are
        by (Some t) = all-filter P (λ path. not (is_one_of (option_to_list (pending_key r (number, t))) path.0)) s.paths are
    commanded-all s (DropTunnel number) are = by (find nat_cmp number s.tunnels)
      where
        by : (known : Option Tunnel) → AllByRecursion P (option_map_or (λ t. with_dropped r number t s) known s).paths
        by None = are
        by (Some t) = all-filter P (λ path. not (is_one_of (heads_of r (number, t)) path.0)) s.paths are
    commanded-all s (AddBypass b) are = are
    commanded-all s (DropBypass number) are = are
    commanded-all s (AddRoute prefix link) are = are
    commanded-all s (DropRoute prefix) are = are

  -- No path is another once a tunnel's LSP is signalled, but that LSP's.
  with_head-other : (key : Key) (tunnel : ℕ × Tunnel) (lsp : TunnelLsp) (s : Facts) → is_eq (key_cmp key (head_key r tunnel.0 tunnel.1.endpoint lsp.id)) ≡ false → find key_cmp key (with_head r tunnel lsp s).paths ≡ find key_cmp key s.paths
  unfolding with_head
  with_head-other key tunnel lsp s apart = by (head_hop (place_of r s) lsp.route tunnel.1.endpoint)
    where
      by : (way : Result Choice RsvpError) → find key_cmp key (with_head_by r tunnel lsp s way).paths ≡ find key_cmp key s.paths
      by (Ok way) = find-put_other key_cmp key_total key (head_key r tunnel.0 tunnel.1.endpoint lsp.id) (head_path tunnel.1 lsp way) s.paths apart
      by (Err e) = refl

  module _ (key : Key) where
    -- the LSP isn't the one that carries the tunnel's traffic
    abbrev IsApart : ℕ × Tunnel → Type 0
    IsApart tunnel = is_eq (key_cmp key (current_key r tunnel)) ≡ false

    all_tried-other : (tunnels : List (ℕ × Tunnel)) (s : Facts) → AllByRecursion IsApart tunnels → find key_cmp key (fold (tried r) s tunnels).paths ≡ find key_cmp key s.paths
    all_tried-other [] s apart = refl
    all_tried-other (tunnel ∷ tunnels) s apart =
        all_tried-other tunnels (tried r s tunnel) apart.1
        ∙ cond_both (is_full s || is_some (find key_cmp (current_key r tunnel) s.paths)) s (with_head r tunnel tunnel.1.current s) (λ x. find key_cmp key x.paths ≡ find key_cmp key s.paths) (λ not_now. refl)
        (λ room. with_head-other key tunnel tunnel.1.current s apart.0)

    -- The path of an LSP that is no tunnel's is the same once all tunnels are tried.
    pub signalled-other : (s : Facts) → AreTunnels r s.tunnels → is_head r s.tunnels key ≡ false → find key_cmp key (signalled r s).paths ≡ find key_cmp key s.paths
    unfolding signalled
    signalled-other s are other =
        all_tried-other s.tunnels s
        (all-weaker (λ tunnel. find nat_cmp tunnel.0 s.tunnels ≡ Some tunnel.1) IsApart (λ tunnel found. apart tunnel found (is_eq (key_cmp key (current_key r tunnel))) refl) s.tunnels
        (all_found nat_cmp nat_cmp_total s.tunnels are.in_order))
      where
        apart : (tunnel : ℕ × Tunnel) → find nat_cmp tunnel.0 s.tunnels ≡ Some tunnel.1 → (tie : Bool) → is_eq (key_cmp key (current_key r tunnel)) ≡ tie → tie ≡ false
        apart tunnel found true is =
            absurd (let e : true ≡ false = sym (is_head-current r s.tunnels tunnel.0 tunnel.1 found) ∙ ap (is_head r s.tunnels) (sym (same_keys key (current_key r tunnel) is)) ∙ other in cc)
        apart tunnel found false is = refl

    module _ (fact : PathFact) where
      tried-stays : (s : Facts) (tunnel : ℕ × Tunnel) → find key_cmp key s.paths ≡ Some fact → find key_cmp key (tried r s tunnel).paths ≡ Some fact
      tried-stays s tunnel known =
          let current = current_key r tunnel in
          cond_both (is_full s || is_some (find key_cmp current s.paths)) s (with_head r tunnel tunnel.1.current s) (λ x. find key_cmp key x.paths ≡ Some fact) (λ not_now. known)
          (λ room. by (or_parts (is_full s) (is_some (find key_cmp current s.paths)) room).1 (is_eq (key_cmp key current)) refl)
        where
          by : is_some (find key_cmp (current_key r tunnel) s.paths) ≡ false → (tie : Bool) → is_eq (key_cmp key (current_key r tunnel)) ≡ tie → find key_cmp key (with_head r tunnel tunnel.1.current s).paths ≡ Some fact
          by none true is =
              absurd (let e : true ≡ false = sym (ap is_some known) ∙ ap (λ k. is_some (find key_cmp k s.paths)) (same_keys key (current_key r tunnel) is) ∙ none in cc)
          by none false is = with_head-other key tunnel tunnel.1.current s is ∙ known

      all_tried-stay : (tunnels : List (ℕ × Tunnel)) (s : Facts) → find key_cmp key s.paths ≡ Some fact → find key_cmp key (fold (tried r) s tunnels).paths ≡ Some fact
      all_tried-stay [] s known = known
      all_tried-stay (tunnel ∷ tunnels) s known = all_tried-stay tunnels (tried r s tunnel) (tried-stays s tunnel known)

      -- A path that is known stays as it is while tunnels are tried.
      pub signalled-stay : (s : Facts) → find key_cmp key s.paths ≡ Some fact → find key_cmp key (signalled r s).paths ≡ Some fact
      unfolding signalled
      signalled-stay s known = all_tried-stay s.tunnels s known

  -- the facts with a tunnel's LSP signalled are of the same time
  with_head-time : (tunnel : ℕ × Tunnel) (lsp : TunnelLsp) (s : Facts) → IsSameTime s (with_head r tunnel lsp s)
  with_head-time tunnel lsp s =
      let same = with_head-same tunnel lsp s in
      record { cold = ap (λ (x : Facts). x.cold) same; moment = ap (λ (x : Facts). x.moment) same; up = ap (λ (x : Facts). x.up) same; sent = ap (λ (x : Facts). x.sent) same }

  -- A command is of no time.
  pub commanded-time : (s : Facts) (c : Command) → IsSameTime s (commanded r s c)
  commanded-time s (AddTunnel t) = let was = with_head-time (t.number, tunnel_by t) (tunnel_by t).current s in record { cold = was.cold; moment = was.moment; up = was.up; sent = was.sent }
  commanded-time s (ChangeTunnel c) = by (find nat_cmp c.number s.tunnels)
    where
      by : (known : Option Tunnel) → IsSameTime s (option_map_or (λ t. with_change r c.number (begun c.route c.tspec t) s) known s)
      by None = same_facts s
      by (Some t) =
          let was = with_head-time (c.number, begun c.route c.tspec t) (record { id = t.last + 1; route = c.route; tspec = c.tspec }) s in
          record { cold = was.cold; moment = was.moment; up = was.up; sent = was.sent }
  commanded-time s (CancelChange number) = by (find nat_cmp number s.tunnels)
    where
      by : (known : Option Tunnel) → IsSameTime s (option_map_or (λ t. with_cancelled r number t s) known s)
      by None = same_facts s
      by (Some t) = record { cold = refl; moment = refl; up = refl; sent = refl }
  commanded-time s (DropTunnel number) = by (find nat_cmp number s.tunnels)
    where
      by : (known : Option Tunnel) → IsSameTime s (option_map_or (λ t. with_dropped r number t s) known s)
      by None = same_facts s
      by (Some t) = record { cold = refl; moment = refl; up = refl; sent = refl }
  commanded-time s (AddBypass b) = record { cold = refl; moment = refl; up = refl; sent = refl }
  commanded-time s (DropBypass number) = record { cold = refl; moment = refl; up = refl; sent = refl }
  commanded-time s (AddRoute prefix link) = record { cold = refl; moment = refl; up = refl; sent = refl }
  commanded-time s (DropRoute prefix) = record { cold = refl; moment = refl; up = refl; sent = refl }

-- The facts are the same but for tunnels.
abbrev pub IsSameButTunnels : Facts → Facts → Type 0
IsSameButTunnels before after = after ≡ record before { tunnels = after.tunnels }

-- An error is noted.
pub with_noted-same : (e : ErrorSpec) (number : ℕ) (s : Facts) → IsSameButTunnels s (with_noted e number s)
with_noted-same e number s = by (find nat_cmp number s.tunnels)
  where
    by : (known : Option Tunnel) → IsSameButTunnels s (option_map_or (λ t. with_tunnel number (noted e t) s) known s)
    by None = refl
    by (Some t) = refl

-- And so it is where a PathErr is noted or goes on.
pub noted_of-same : (e : PathErr) (fact : PathFact) (s : Facts) → IsSameButTunnels s (noted_of e fact s)
noted_of-same e fact s = cond_both (begins_here fact.role) (with_noted e.error e.session.tunnel s) s (IsSameButTunnels s) (λ begins. with_noted-same e.error e.session.tunnel s) (λ other. refl)

-- A path that is left with some of its origins, or goes with them, changes paths alone,
pub left_with-same : (key : Key) (fact : PathFact) (origins : List (Ipv4Addr × Origin)) (s : Facts) → IsSameButPaths s (left_with key fact origins s)
left_with-same key fact [] s = refl
left_with-same key fact (o ∷ os) s = refl

-- and no other one.
pub left_with-other : (q key : Key) (fact : PathFact) (origins : List (Ipv4Addr × Origin)) (s : Facts) → is_eq (key_cmp q key) ≡ false → find key_cmp q (left_with key fact origins s).paths ≡ find key_cmp q s.paths
left_with-other q key fact [] s apart = find-removed_other key_cmp key_total q key s.paths (apart_back q key apart)
left_with-other q key fact (o ∷ os) s apart = find-put_other key_cmp key_total q key (record fact { origins = o ∷ os }) s.paths apart

-- two paths are of different LSPs, where a message is beside one of them alone
beside_apart : (message q key : Key) → is_beside message q ≡ false → is_beside message key ≡ true → is_eq (key_cmp q key) ≡ false
beside_apart message q key other beside = by (is_eq (key_cmp q key)) refl
  where
    by : (tie : Bool) → is_eq (key_cmp q key) ≡ tie → tie ≡ false
    by true tied = absurd (both_ways (is_beside message q) other (ap (is_beside message) (same_keys q key tied) ∙ beside))
    by false apart = refl

-- A Path that comes through a stack changes paths alone, and of these none but those of its session and LSP ID.
pub stack_path-same : (s : Facts) (p : Path) → IsSameButPaths s (stack_path_arrival s p).after
stack_path-same s p = stack_path_by (λ o. IsSameButPaths s o.after) s p refl (λ path only room. refl)

pub stack_path-other : (s : Facts) (p : Path) (q : Key) → is_beside (key_of p) q ≡ false → find key_cmp q (stack_path_arrival s p).after.paths ≡ find key_cmp q s.paths
stack_path-other s p q other =
    stack_path_by (λ o. find key_cmp q o.after.paths ≡ find key_cmp q s.paths) s p refl
    (λ path only room. find-put_other key_cmp key_total q path.0 (with_stack s.moment p path.1) s.paths (beside_apart (key_of p) q path.0 other (joined-beside s.paths p path only)))

-- So does a PathTear.
pub stack_tear-same : (s : Facts) (t : PathTear) → T (is_sorted key_cmp s.paths) → IsSameButPaths s (stack_tear_arrival s t).after
stack_tear-same s t in_order = stack_tear_by (λ o. IsSameButPaths s o.after) s t in_order refl (λ path found came. left_with-same path.0 path.1 (origins_without t.sender.sender path.1) s)

pub stack_tear-other : (s : Facts) (t : PathTear) (q : Key) → T (is_sorted key_cmp s.paths) → is_beside (lsp t.session t.sender) q ≡ false → find key_cmp q (stack_tear_arrival s t).after.paths ≡ find key_cmp q s.paths
stack_tear-other s t q in_order other =
    stack_tear_by (λ o. find key_cmp q o.after.paths ≡ find key_cmp q s.paths) s t in_order refl
    (λ path found came.
    left_with-other q path.0 path.1 (origins_without t.sender.sender path.1) s (beside_apart (lsp t.session t.sender) q path.0 other (and_parts (is_beside (lsp t.session t.sender) path.0) _ came).0))
