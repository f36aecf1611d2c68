-- Which outcomes are silent: what a Path does is so exactly where its LSP begins here.
use Rattle.std.specs.Prelude.{◌≡◌, ◌&&◌, ◌==◌, ℕ, true, false, if◌then◌else◌, length, nat_le, not, is_none, Option, Result, Ok, Err}
use Rattle.std.specs.FinMap.Entries.{find}
use Rattle.std.proofs.Common.{refl, ◌∙◌}
use Rattle.std.proofs.lemmas.Bool.{cond_both}
use Rattle.rsvp_contents.specs.declared.messages.Path.{Path}
use Rattle.rsvp_bodies.specs.TokenBuckets.{token_rate}
use Rattle.lsr_facts.specs.Errors.{bad_tspec, routing_loop, unsupported_l3pid}
use Rattle.lsr_facts.specs.Limits.{max_lsps}
use Rattle.lsr_facts.specs.Orders.{key_cmp}
use Rattle.lsr_facts.specs.Tunnels.{is_head}
use Rattle.lsr_facts.specs.declared.choice.Choice.{Choice}
use Rattle.lsr_facts.specs.declared.errors.RsvpError.{RsvpError}
use Rattle.lsr_facts.specs.declared.facts.Facts.{Facts}
use Rattle.lsr_facts.specs.declared.path_fact.PathFact.{PathFact}
use Rattle.lsr_facts.specs.declared.refusal.Refusal.TheVariants.{NoMatch}
use Rattle.lsr_facts.specs.declared.router.Router.{Router}
use Rattle.abstract_paths.specs.Outcomes.{PathOutcome, refused}
use Rattle.abstract_paths.specs.Paths.{failed, has_loop, key_of, path_arrival, path_on_its_way, way_for}
use Rattle.abstract_paths.specs.Places.{place_of}

-- the outcome isn't silent
abbrev Speaks : PathOutcome → Type 0
Speaks o = o.is_silent ≡ false

-- a Path is answered whose way is asked for
way_speaks : (r : Router) (s : Facts) (known : Option PathFact) (link : ℕ) (p : Path) (way : Result Choice RsvpError) → Speaks (path_on_its_way r s known link p way)
unfolding path_on_its_way
way_speaks r s known link p (Err e) = refl
way_speaks r s known link p (Ok way) = cond_both (is_none known && nat_le max_lsps (length s.paths)) _ _ Speaks (λ full. refl) (λ room. refl)

-- what a Path does whose LSP doesn't begin here
abbrev from_elsewhere : Router → Facts → ℕ → Path → PathOutcome
from_elsewhere r s link p =
    let known = find key_cmp (key_of p) s.paths in
    if not (p.label_request.l3pid == 0x0800) then failed r s link p unsupported_l3pid
    else if is_none (token_rate 1 p.tspec) then failed r s link p bad_tspec
    else if has_loop r p.recorded then failed r s link p routing_loop
    else path_on_its_way r s known link p (way_for (place_of r s) known p)

-- It is taken, or its error is told.
elsewhere_speaks : (r : Router) (s : Facts) (link : ℕ) (p : Path) → Speaks (from_elsewhere r s link p)
elsewhere_speaks r s link p =
    cond_both (not (p.label_request.l3pid == 0x0800)) _ _ Speaks (λ other. refl)
    (λ carries.
    cond_both (is_none (token_rate 1 p.tspec)) _ _ Speaks (λ none. refl)
    (λ rate.
    cond_both (has_loop r p.recorded) _ _ Speaks (λ loops. refl)
    (λ straight. way_speaks r s (find key_cmp (key_of p) s.paths) link p (way_for (place_of r s) (find key_cmp (key_of p) s.paths) p))))

-- What a Path does is silent exactly where its LSP begins here: it is refused then.
pub path_silence : (r : Router) (s : Facts) (link : ℕ) (p : Path) → (path_arrival r s link p).is_silent ≡ is_head r s.tunnels (key_of p)
unfolding path_arrival
path_silence r s link p =
    elim (is_head r s.tunnels (key_of p)) as (λ b. (if b then refused s NoMatch else from_elsewhere r s link p).is_silent ≡ b) [ true ↦ refl | false ↦ elsewhere_speaks r s link p ]

-- So it isn't where the LSP comes from a neighbour.
pub path_speaks : (r : Router) (s : Facts) (link : ℕ) (p : Path) → is_head r s.tunnels (key_of p) ≡ false → (path_arrival r s link p).is_silent ≡ false
path_speaks r s link p elsewhere = path_silence r s link p ∙ elsewhere
