-- What goes through a bypass: frames of repaired LSPs, and messages about them (RFC 4090, 3.2 and 6.4.3).
use Rattle.std.specs.Prelude.{ℕ, ◌==◌, not, if◌then◌else◌, List, [], ◌∷◌, filter, Option, None}
use Rattle.std.specs.FinMap.Entries.{find}
use Rattle.std.specs.Option.{option_and_then, option_map}
use Rattle.std.specs.Ordering.{nat_cmp}
use Rattle.rsvp_contents.specs.declared.messages.Content.{Content}
use Rattle.rsvp_contents.specs.declared.messages.Content.TheVariants as contents
use Rattle.rsvp_contents.specs.declared.messages.Path.{Path}
use Rattle.rsvp_contents.specs.declared.messages.ResvErr.{ResvErr}
use Rattle.rsvp_contents.specs.declared.descriptors.ErrorDescriptor.{ErrorDescriptor}
use Rattle.rsvp_objects.specs.Raw.{Raw}
use Rattle.rsvp_objects.specs.declared.values.ErrorSpec.{ErrorSpec}
use Rattle.rsvp_objects.specs.declared.values.Hop.{Hop}
use Rattle.rsvp_objects.specs.declared.values.Session.{Session}
use Rattle.rsvp_objects.specs.declared.values.Style.{Style}
use Rattle.rsvp_objects.specs.declared.values.Template.{Template}
use Rattle.label_stacks.specs.declared.entry.StackEntry.{StackEntry}
use Rattle.link_frames.specs.declared.frame.Frame.TheVariants as frames
use Rattle.link_frames.specs.declared.payload.Payload.TheVariants as payloads
use Rattle.lsr_facts.specs.Routers.{link_at}
use Rattle.lsr_facts.specs.declared.key.Key.{Key}
use Rattle.lsr_facts.specs.declared.path_fact.PathFact.{PathFact}
use Rattle.lsr_facts.specs.declared.router.Link.{Link}
use Rattle.lsr_facts.specs.declared.router.Router.{Router}
use Rattle.lsr_facts.specs.declared.repair.BypassTunnel.{BypassTunnel}
use Rattle.lsr_facts.specs.declared.repair.Over.{Over}
use Rattle.lsr_facts.specs.declared.repair.Repair.{Repair}
use Rattle.abstract_paths.specs.declared.events.Output.{Output}
use Rattle.forwarding_table.specs.Labels.{implicit_null}
use Rattle.abstract_paths.specs.BackupRoutes.{route_after}
use Rattle.abstract_paths.specs.Onward.{path_onward}
use Rattle.abstract_router.specs.BypassTunnels.{over_at}
use Rattle.abstract_router.specs.Lsps.{Around}

-- the stack of a message through a bypass: one entry, and none where implicit null was given (RFC 3032, 2.1 and 2.4.1)
abbrev pub stack_under : ℕ → List StackEntry
stack_under label = if label == implicit_null then [] else record { label = label; class = 0; ttl = 255 } ∷ []

-- a message through a bypass that runs over this
abbrev pub labelled_by : Over → Content → Output
labelled_by over content = record { link = over.link; frame = frames.Labelled (stack_under over.label) (payloads.Message content) }

-- a message about a repaired LSP, where its bypass is up
abbrev pub through : Around → Repair → Content → Option Output
through a repair content = option_map (λ over. labelled_by over content) (over_at a.bypass_tunnels repair.bypass)

-- The LSP as the bypass's end is told of it: its sender is this router's address on the link that is protected (RFC 4090,
-- 6.4.3: sender template specific).
abbrev pub head_through : Template → Link → Template
head_through sender link = record sender { sender = link.address }

-- this router as the bypass's end sees it: its id, and the link that is protected as the interface
abbrev pub hop_through : Router → Repair → Hop
hop_through r repair = record { address = r.id; interface = repair.resv.link }

-- What goes on unread through a bypass: all but objects of class 205, FAST_REROUTE, of any C-Type (RFC 4090, 4.1).
abbrev pub passing_through : List Raw → List Raw
passing_through passing = filter (λ o. not (o.class == 205)) passing

-- The Path of a repaired LSP: from another sender and another hop, on from the bypass's end, with no FAST_REROUTE; all
-- else is as in the Path that went over the link (RFC 4090, 6.4.3 and 6.4.4).
abbrev pub backup_path : Router → Key → PathFact → Repair → BypassTunnel → Link → Path
backup_path r key path repair bypass_tunnel link = record (path_onward r key path link) {
  hop = hop_through r repair;
  route = option_map (route_after key.session.endpoint bypass_tunnel.ends_at repair.is_nnhop) path.rest;
  fast_reroute = None;
  passing = passing_through path.passing;
  sender = head_through key.sender link;
}

-- it goes through this bypass, where that is up
abbrev pub backup_over : Router → Key → PathFact → Repair → BypassTunnel → Option Output
backup_over r key path repair bypass_tunnel =
    option_and_then (λ link. option_map (λ over. labelled_by over (contents.Path (backup_path r key path repair bypass_tunnel link))) bypass_tunnel.over)
    (link_at r repair.resv.link)

-- and so through the bypass of its number
abbrev pub backup_of : Around → Key → PathFact → Repair → Option Output
backup_of a key path repair = option_and_then (backup_over a.place.router key path repair) (find nat_cmp repair.bypass a.bypass_tunnels)

-- a ResvErr for a repaired LSP, as it goes through the bypass
abbrev pub told_through : Around → Repair → Session → ErrorSpec → Style → List ErrorDescriptor → Option Output
told_through a repair session error style descriptors =
    through a repair (contents.ResvErr (record { session = session; hop = hop_through a.place.router repair; error = error; style = style; descriptors = descriptors }))

-- One that came from upstream goes on so, under the sender that the bypass's end knows (RFC 4090, 6.4.3).
abbrev pub err_through : Around → Repair → ResvErr → ErrorDescriptor → Option Output
err_through a repair e d =
    option_and_then (λ link. told_through a repair e.session e.error e.style (record d { filter = head_through d.filter link } ∷ []))
    (link_at a.place.router repair.resv.link)
