-- What LSPs want sent are messages.
use Rattle.std.specs.Prelude.{◌≡◌, IsTrue, length}
use Rattle.rsvp_contents.specs.Fitting.{HasRoom, are_passed_by, fits_path, has_adspec_last}
use Rattle.rsvp_contents.specs.Limits.{is_short_passing}
use Rattle.rsvp_contents.specs.declared.messages.Content.TheVariants as contents
use Rattle.lsr_facts.specs.declared.key.Key.{Key}
use Rattle.lsr_facts.specs.declared.path_fact.PathFact.{PathFact}
use Rattle.lsr_facts.specs.declared.router.Link.{Link}
use Rattle.lsr_facts.specs.declared.router.Router.{Router}
use Rattle.lsr_facts.specs.declared.repair.BypassTunnel.{BypassTunnel}
use Rattle.lsr_facts.specs.declared.repair.Repair.{Repair}
use Rattle.abstract_paths.specs.Onward.{path_onward}
use Rattle.abstract_router.specs.Through.{backup_path}
use Rattle.abstract_router.specs.Upstreams.{Reserved}

-- The Path that goes on of a path fits a message, over any link: its parts do, and its Tspec leaves room for them.
abbrev pub CanGoOn : Router → Key → PathFact → Type 0
CanGoOn r key fact =
    (link : Link) → IsTrue (fits_path (path_onward r key fact link)) × HasRoom (contents.Path (path_onward r key fact link))

-- and so does the Path that goes through a bypass
abbrev pub CanGoThrough : Router → Key → PathFact → Repair → BypassTunnel → Type 0
CanGoThrough r key fact repair bypass_tunnel =
    (link : Link) → IsTrue (fits_path (backup_path r key fact repair bypass_tunnel link)) × HasRoom (contents.Path (backup_path r key fact repair bypass_tunnel link))

-- What is said of an LSP fits a Resv, type 2: the FLOWSPEC is a whole token bucket, and what is passed on is short.
pub record IsFitting (a : Reserved) : Type 0 where
  pub flowspec : length a.flowspec ≡ 32
  pub passing : IsTrue (is_short_passing a.passing)
  pub passed_on : IsTrue (are_passed_by 2 a.passing)
  pub adspec_last : IsTrue (has_adspec_last a.passing)
