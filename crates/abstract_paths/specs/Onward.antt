-- The Path that a router sends on (RFC 2205, 3.1.3; RFC 3209, 4.3.4 and 4.4.3).
use Rattle.std.specs.Option.{option_and_then}
use Rattle.rsvp_contents.specs.declared.messages.Path.{Path}
use Rattle.lsr_facts.specs.declared.key.Key.{Key}
use Rattle.lsr_facts.specs.declared.path_fact.PathFact.{PathFact}
use Rattle.lsr_facts.specs.declared.router.Link.{Link}
use Rattle.lsr_facts.specs.declared.router.Router.{Router}
use Rattle.abstract_paths.specs.Paths.{grown}

-- The Path that goes on by the link: this router is its hop, its route is what is left, its record has grown;
-- all else is as it came (RFC 2205, 3.1.3; RFC 3209, 4.3.4 and 4.4.3).
abbrev pub path_onward : Router → Key → PathFact → Link → Path
path_onward r key fact link = record {
  session = key.session;
  hop = record { address = link.address; interface = fact.out_link };
  time = record { refresh_ms = r.refresh_ms };
  route = fact.rest;
  label_request = fact.label_request;
  attr = fact.attr;
  fast_reroute = fact.fast_reroute;
  passing = fact.passing;
  sender = key.sender;
  tspec = fact.tspec;
  recorded = option_and_then (grown r) fact.recorded;
}
