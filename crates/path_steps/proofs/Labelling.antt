-- When a Path isn't silent that may need a label.
use Rattle.std.specs.Prelude.{◌≡◌, ◌&&◌, ℕ, false, not, is_none}
use Rattle.std.specs.FinMap.Entries.{find}
use Rattle.std.proofs.Common.{refl}
use Rattle.std.proofs.lemmas.Bool.{cond_both}
use Rattle.rsvp_contents.specs.declared.messages.Path.{Path}
use Rattle.lsr_facts.specs.Orders.{key_cmp}
use Rattle.lsr_facts.specs.Tunnels.{is_head}
use Rattle.lsr_facts.specs.declared.router.Router.{Router}
use Rattle.abstract_paths.specs.Paths.{key_of, path_arrival}
use Rattle.abstract_router.specs.Arrivals.{is_done, labelled_path_arrival}
use Rattle.abstract_router.specs.Labels.{has_free_label}
use Rattle.abstract_router.specs.Outcomes.{Outcome}
use Rattle.abstract_router.specs.States.{State}
use Rattle.path_steps.specs.SilenceLaws.{path_speaks}

-- What a Path does isn't silent where its LSP comes from a neighbour.
pub labelled_path_speaks : (r : Router) (s : State) (link : ℕ) (p : Path) → is_head r s.facts.tunnels (key_of p) ≡ false → (labelled_path_arrival r s link p).is_silent ≡ false
unfolding labelled_path_arrival
labelled_path_speaks r s link p elsewhere =
    let o = path_arrival r s.facts link p in
    cond_both (is_done o.reply && is_none (find key_cmp (key_of p) s.facts.paths) && not (has_free_label r s.labels s.resting)) _ _ (λ (o : Outcome). o.is_silent ≡ false) (λ none. refl)
    (λ some. path_speaks r s.facts link p elsewhere)
