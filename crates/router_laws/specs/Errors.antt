-- The words of the laws on errors.
use Rattle.std.specs.Prelude.{◌≡◌, ◌&&◌, ◌⊎◌, ℕ, Bool, true, false, [], ◌∷◌, Some}
use Rattle.std.specs.FinMap.Entries.{find}
use Rattle.std.specs.List.{Contains}
use Rattle.std.specs.Ordering.{is_eq}
use Rattle.rsvp_contents.specs.declared.descriptors.ErrorDescriptor.{ErrorDescriptor}
use Rattle.rsvp_contents.specs.declared.descriptors.FlowDescriptor.{FlowDescriptor}
use Rattle.rsvp_contents.specs.declared.messages.Resv.{Resv}
use Rattle.rsvp_contents.specs.declared.messages.ResvErr.{ResvErr}
use Rattle.lsr_facts.specs.Orders.{key_cmp}
use Rattle.lsr_facts.specs.Reservations.{style_of}
use Rattle.lsr_facts.specs.declared.key.Key.{Key}
use Rattle.lsr_facts.specs.declared.path_fact.PathFact.{PathFact}
use Rattle.lsr_facts.specs.declared.repair.Repair.{Repair}
use Rattle.lsr_facts.specs.declared.resv_fact.ResvFact.{ResvFact}
use Rattle.lsr_facts.specs.declared.resv_fact.ResvStyle.{ResvStyle}
use Rattle.lsr_facts.specs.declared.router.Router.{Router}
use Rattle.abstract_paths.specs.declared.events.Output.{Output}
use Rattle.abstract_paths.specs.declared.ways.ArrivalWay.{ArrivalWay}
use Rattle.abstract_paths.specs.declared.ways.ArrivalWay.TheVariants as ways
use Rattle.abstract_paths.specs.declared.ways.Arrive.{Arrive}
use Rattle.abstract_paths.specs.Merging.{came_through}
use Rattle.abstract_paths.specs.Outcomes.{lsp}
use Rattle.abstract_router.specs.Lsps.{around_of}
use Rattle.abstract_router.specs.Outcomes.{told_downstream}
use Rattle.abstract_router.specs.Reserving.{key_in, resv_by}
use Rattle.abstract_router.specs.States.{State}
use Rattle.abstract_router.specs.Tearing.{is_from_origin}
use Rattle.abstract_router.specs.Through.{err_through}

-- A descriptor of a ResvErr names the LSP of a path: of one from a neighbour that the path came from, by the LSP's own sender; of
-- one through a stack of labels, by that of an origin whose Paths come so (RFC 4090, 6.4.3). In a Routed frame none does.
abbrev pub names_lsp : ArrivalWay → ℕ → ResvErr → ErrorDescriptor → Key × PathFact → Bool
names_lsp ways.Hop link e d path = is_eq (key_cmp (lsp e.session d.filter) path.0) && is_from_origin link e path.1
names_lsp ways.Stack link e d path = came_through (lsp e.session d.filter) path
names_lsp ways.Routed link e d path = false

-- The ResvErr that arrived is for an LSP, by this descriptor.
pub record IsErrFor (s : State) (arrived : Arrive) (e : ResvErr) (d : ErrorDescriptor) (key : Key) : Type 0 where
  pub among : Contains e.descriptors d
  pub path : PathFact
  pub known : find key_cmp key s.facts.paths ≡ Some path
  pub names : names_lsp arrived.way arrived.link e d (key, path) ≡ true

-- It goes on for that LSP, under the LSP's own sender, with session, error and style as they came: over the link of the LSP's
-- reservation, or through the bypass that it is repaired over.
abbrev pub GoesOnFor : Router → State → ResvErr → ErrorDescriptor → Key → Output → Type 0
GoesOnFor r s e d key output =
    ((resv : ResvFact) × (find key_cmp key s.resvs ≡ Some resv) × (told_downstream r resv.link e.session e.error e.style (record d { filter = key.sender } ∷ []) ≡ Some output))
    ⊎ ((repair : Repair) × (find key_cmp key s.repairs ≡ Some repair) × (err_through (around_of r s) repair e (record d { filter = key.sender }) ≡ Some output))

-- It goes on for an LSP that it is for.
pub record GoesOn (r : Router) (s : State) (arrived : Arrive) (e : ResvErr) (output : Output) : Type 0 where
  pub descriptor : ErrorDescriptor
  pub key : Key
  pub is_for : IsErrFor s arrived e descriptor key
  pub told : GoesOnFor r s e descriptor key output

-- A descriptor of a Resv that comes over a link asks for this reservation of an LSP.
pub record IsAskedBy (s : State) (link : ℕ) (v : Resv) (key : Key) (resv : ResvFact) : Type 0 where
  pub style : ResvStyle
  pub of_style : style_of v.style ≡ Some style
  pub descriptor : FlowDescriptor
  pub among : Contains v.descriptors descriptor
  pub own : key_in v descriptor ≡ key
  pub same : resv ≡ resv_by s.facts.moment link style v descriptor
