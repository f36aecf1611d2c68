-- The words of the laws on local repair.
use Rattle.std.specs.Prelude.{◌≡◌, ℕ, Bool, false, Option, Some, None}
use Rattle.std.specs.FinMap.Entries.{find}
use Rattle.std.specs.List.{Contains}
use Rattle.std.specs.Option.{option_map_or}
use Rattle.std.specs.declared.net.ipv4_addr.Ipv4Addr.{Ipv4Addr}
use Rattle.rsvp_contents.specs.Picking.{content_in}
use Rattle.rsvp_contents.specs.declared.messages.Content.{Content}
use Rattle.rsvp_contents.specs.declared.messages.Content.TheVariants as contents
use Rattle.lsr_facts.specs.Errors.{locally_repaired}
use Rattle.lsr_facts.specs.Orders.{key_cmp}
use Rattle.lsr_facts.specs.declared.key.Key.{Key}
use Rattle.lsr_facts.specs.declared.path_fact.PathFact.{PathFact}
use Rattle.lsr_facts.specs.declared.repair.Repair.{Repair}
use Rattle.lsr_facts.specs.declared.repair.Selected.{Selected}
use Rattle.lsr_facts.specs.declared.resv_fact.ResvFact.{ResvFact}
use Rattle.lsr_facts.specs.declared.router.Router.{Router}
use Rattle.abstract_paths.specs.declared.events.Output.{Output}
use Rattle.abstract_paths.specs.declared.ways.ArrivalWay.{ArrivalWay}
use Rattle.abstract_paths.specs.declared.ways.ArrivalWay.TheVariants as ways
use Rattle.abstract_paths.specs.declared.ways.Arrive.{Arrive}
use Rattle.abstract_paths.specs.Outcomes.{found_here, told_upstream}
use Rattle.abstract_paths.specs.Places.{place_of}
use Rattle.abstract_router.specs.Lsps.{around_of}
use Rattle.abstract_router.specs.Protecting.{selected}
use Rattle.abstract_router.specs.Returning.{ends_at}
use Rattle.abstract_router.specs.States.{State}

-- the bypass that is selected for an LSP with this reservation, by what a state knows: its bypasses that are up, and what the
-- LSP is promised of them
abbrev pub bypass_for : Router → State → Key → PathFact → ResvFact → Option Selected
bypass_for r s key path resv = selected (around_of r s) key path (find key_cmp key s.assignments) resv

-- the router that a Resv or a ResvTear says it comes from (RSVP_HOP: RFC 2205, A.2), where it comes in a Routed frame
abbrev pub sender_of : Content → Option Ipv4Addr
sender_of (contents.Resv v) = Some v.hop.address
sender_of (contents.ResvTear t) = Some t.hop.address
sender_of content = None

abbrev pub routed_from : ArrivalWay → Content → Option Ipv4Addr
routed_from ways.Routed content = sender_of content
routed_from way content = None

-- A message is from the end of the bypass that an LSP is repaired over: a Resv or a ResvTear in a Routed frame, from that
-- router.
abbrev pub is_from_end : Router → State → Arrive → Key × Repair → Bool
is_from_end r s a repair = option_map_or (λ hop. ends_at r s hop repair) (routed_from a.way (content_in a.reading)) false

-- It tells an origin of an LSP, with error 25/3, that the LSP was reserved on this link and is repaired now (RFC 4090, 6.5).
pub record TellsOfRepair (r : Router) (before after : State) (link : ℕ) (output : Output) : Type 0 where
  pub key : Key
  pub resv : ResvFact
  pub path : PathFact
  pub repair : Repair
  pub reserved : find key_cmp key before.resvs ≡ Some resv
  pub on : resv.link ≡ link
  pub known : find key_cmp key before.facts.paths ≡ Some path
  pub repaired : find key_cmp key after.repairs ≡ Some repair
  pub told : Contains (told_upstream (place_of r after.facts) key path (Some path.tspec) (found_here r locally_repaired)) output
