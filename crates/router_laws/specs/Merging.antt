-- The words of the law on Paths through labels.
use Rattle.std.specs.Prelude.{◌≡◌, ℕ, List, [], ◌∷◌, map, Option, Some, None}
use Rattle.std.specs.declared.net.ipv4_addr.Ipv4Addr.{Ipv4Addr}
use Rattle.rsvp_objects.specs.declared.values.Session.{Session}
use Rattle.rsvp_objects.specs.declared.values.Template.{Template}
use Rattle.rsvp_contents.specs.declared.messages.Content.{Content}
use Rattle.rsvp_contents.specs.declared.messages.Content.TheVariants as contents
use Rattle.rsvp_contents.specs.declared.messages.Path.{Path}
use Rattle.abstract_paths.specs.Frame.TheVariants as frames
use Rattle.abstract_paths.specs.declared.events.Output.{Output}

-- the session of a Resv or a ResvTear, and the senders that its filters name (RFC 2205, 3.1.4 and 3.1.6)
abbrev pub named_by : Content → Option (Session × List Template)
named_by (contents.Resv v) = Some (v.session, map (λ d. d.filter) v.descriptors)
named_by (contents.ResvTear t) = Some (t.session, t.filters)
named_by content = None

-- It is for the head of a bypass that sent this Path: a Resv or a ResvTear in a Routed frame that names the Path's sender, and
-- nobody else (RFC 4090, 6.4.3).
pub record IsForHead (p : Path) (output : Output) : Type 0 where
  pub to : Ipv4Addr
  pub limit : ℕ
  pub content : Content
  pub framed : output.frame ≡ frames.Routed to limit content
  pub names : named_by content ≡ Some (p.session, p.sender ∷ [])
