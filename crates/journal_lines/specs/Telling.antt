-- Which events a line of `lsr step` tells, from their own fields.
use Rattle.std.specs.Prelude.{ℕ, Bool, true, false, not, ◌&&◌, ◌==◌, List, is_none, nat_eq}
use Rattle.std.specs.List.{list_all}
use Rattle.std.specs.Cmp.Lexicographic.{pointwise}
use Rattle.rsvp_bodies.specs.RateWords.{tspec_with}
use Rattle.rsvp_bodies.specs.Traffic.{rate_word}
use Rattle.rsvp_bodies.specs.declared.step.Step.{Step}
use Rattle.rsvp_bodies.specs.declared.step.Step.TheVariants as steps
use Rattle.lsr_facts.specs.declared.router.Router.{Router}
use Rattle.abstract_paths.specs.Places.{is_own}
use Rattle.abstract_paths.specs.declared.commands.Command.{Command}
use Rattle.abstract_paths.specs.declared.commands.Command.TheVariants as commands
use Rattle.event_fields.specs.declared.unread.UnreadEvent.{UnreadEvent}
use Rattle.event_fields.specs.declared.unread.UnreadEvent.TheVariants as unread
use Rattle.journal_lines.specs.Words.{is_word}

-- The number of a link: no link is 0.
abbrev pub is_link : ℕ → Bool
is_link link = not (link == 0)

-- a step that a word writes: a prefix
abbrev pub is_prefix : Step → Bool
is_prefix (steps.Ipv4 loose prefix) = true
is_prefix (steps.Other bytes) = false

-- The traffic is that which a line asks for by this rate.
abbrev pub is_rate_alone : List ℕ → Bool
is_rate_alone tspec = pointwise nat_eq tspec (tspec_with (rate_word tspec))

-- A tunnel that lines ask for has no protection and no affinities, and a name that is a word; its traffic is told by a rate, its route by prefixes.
abbrev pub tells_command : Command → Bool
tells_command (commands.AddTunnel t) =
    is_none t.fast_reroute && (is_none t.attr.affinities && (is_word t.attr.name && (is_rate_alone t.tspec && list_all is_prefix t.route)))
tells_command (commands.ChangeTunnel c) = is_rate_alone c.tspec && list_all is_prefix c.route
tells_command (commands.CancelChange number) = true
tells_command (commands.DropTunnel number) = true
tells_command (commands.AddBypass b) = is_link b.link
tells_command (commands.DropBypass number) = true
tells_command (commands.AddRoute prefix link) = is_link link
tells_command (commands.DropRoute prefix) = true

-- No line tells of link 0, of an object that a message's type doesn't know, or of a message that is passed on to this router itself.
abbrev pub tells_event : Router → UnreadEvent → Bool
tells_event r (unread.Arrive a) = is_link a.link && is_none a.unknown
tells_event r (unread.Relay m) = is_link m.link && not (is_own r m.to)
tells_event r (unread.Tick moment) = true
tells_event r (unread.LinkUp link) = is_link link
tells_event r (unread.LinkDown link) = is_link link
tells_event r unread.Restart = true
tells_event r unread.Start = true
tells_event r (unread.Command c) = tells_command c
