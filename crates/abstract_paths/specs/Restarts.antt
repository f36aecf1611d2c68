-- How a router is opened, and what a restart and a start do.
use Rattle.std.specs.Prelude.{ℕ, true, false, List, [], map}
use Rattle.rsvp_bodies.specs.declared.prefix.Prefix.{Prefix}
use Rattle.lsr_facts.specs.declared.bypass.Bypass.{Bypass}
use Rattle.lsr_facts.specs.declared.facts.Facts.{Facts}
use Rattle.lsr_facts.specs.declared.reply.Reply.TheVariants as replies
use Rattle.lsr_facts.specs.declared.router.Router.{Router}
use Rattle.lsr_facts.specs.declared.tunnel.Tunnel.{Tunnel}
use Rattle.lsr_facts.specs.Changes.{cancelled}
use Rattle.abstract_paths.specs.Outcomes.{PathOutcome, silent}

-- A router as it is opened: running, at moment 0, its links, static routes, tunnels and bypasses as configured, no path,
-- nothing sent.
abbrev pub opening_facts : Router → List (Prefix × ℕ) → List (ℕ × Tunnel) → List (ℕ × Bypass) → Facts
opening_facts r routes tunnels bypasses = record {
  cold = false;
  moment = 0;
  up = map (λ l. (l.0, l.1.up)) r.links;
  routes = routes;
  tunnels = tunnels;
  bypasses = bypasses;
  paths = [];
  sent = [];
}

-- Start makes a cold router run; a running one stays as it is.
abbrev pub started : Facts → PathOutcome
started s = silent replies.Done (record s { cold = false })

-- what a restart leaves of tunnels: all of them, but changes that aren't over are given up
abbrev pub all_cancelled : List (ℕ × Tunnel) → List (ℕ × Tunnel)
all_cancelled = map (λ tunnel. (tunnel.0, cancelled tunnel.1))

-- A restart: what messages set up is lost, and the router is cold. Links, static routes, tunnels, bypasses and the moment
-- stay. No tear goes out for what is lost.
abbrev pub restarted : Facts → PathOutcome
restarted s = silent replies.Done (record s { cold = true; tunnels = all_cancelled s.tunnels; paths = []; sent = [] })
