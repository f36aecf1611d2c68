-- An entry goes over the link of a reservation that stands, or over that of a bypass that is up.
use Rattle.std.proofs.Common.{◌≡◌, ℕ, true, sym, subst, inl, inr, Option}
use Rattle.lsr_facts.specs.declared.key.Key.{Key}
use Rattle.lsr_facts.specs.declared.path_fact.PathFact.{PathFact}
use Rattle.lsr_facts.specs.declared.router.Router.{Router}
use Rattle.lsr_facts.specs.Tunnels.{current_key}
use Rattle.forwarding_table.specs.declared.action.Action.TheVariants.{PushHead, Swap, SwapPush}
use Rattle.abstract_paths.specs.Places.{is_up}
use Rattle.abstract_router.specs.States.{State}
use Rattle.abstract_router.specs.Tables.{IsActionOf, IsPushOf}
use Rattle.router_soundness.proofs.Entries.{entry_stands, tunnel_entry_stands}
use Rattle.router_soundness.proofs.laws.frames_leave_over_links_that_are_up.Goals as goal

module _ (r : Router) (s : State) (key : Key) (link : ℕ) where
  -- a link that is one that is up
  up_as : (other : ℕ) → link ≡ other → is_up s.facts.up other ≡ true → is_up s.facts.up link ≡ true
  up_as other same up = subst (λ l. is_up s.facts.up l ≡ true) (sym same) up

  -- an action that swaps
  swap_up : (path : PathFact) (out : ℕ) → IsActionOf r s key path (Swap out link) → is_up s.facts.up link ≡ true
  swap_up path out (inl ends) = absurd (let e = ends.1 in cc)
  swap_up path out (inr (inl goes)) = up_as goes.0.resv.link (let e = goes.1 in cc) goes.0.up
  swap_up path out (inr (inr through)) = absurd (let e = through.1 in cc)

  -- one that goes on through a bypass
  through_up : (path : PathFact) (inner outer : ℕ) → IsActionOf r s key path (SwapPush inner outer link) → is_up s.facts.up link ≡ true
  through_up path inner outer (inl ends) = absurd (let e = ends.1 in cc)
  through_up path inner outer (inr (inl goes)) = absurd (let e = goes.1 in cc)
  through_up path inner outer (inr (inr through)) = up_as through.0.over.link (let e = through.1 in cc) through.0.up

  -- one of a tunnel's head
  head_up : (inner : Option ℕ) (label : ℕ) → IsPushOf r s key (PushHead inner label link) → is_up s.facts.up link ≡ true
  head_up inner label (inl goes) = up_as goes.0.resv.link (let e = goes.1 in cc) goes.0.up
  head_up inner label (inr through) = up_as through.0.over.link (let e = through.1 in cc) through.0.up

pub returns-clause-swapped : goal.returns-clause-swapped
returns-clause-swapped c = λ r s label out link sound found. let entry = entry_stands r s label (Swap out link) sound found in swap_up r s entry.key link entry.path out entry.stands

pub returns-clause-bypassed : goal.returns-clause-bypassed
returns-clause-bypassed c = λ r s label inner outer link sound found. let entry = entry_stands r s label (SwapPush inner outer link) sound found in through_up r s entry.key link entry.path inner outer entry.stands

pub returns-clause-of_heads : goal.returns-clause-of_heads
returns-clause-of_heads c = λ r s number inner label link sound found.
    let entry = tunnel_entry_stands r s number (PushHead inner label link) sound found in head_up r s (current_key r (number, entry.tunnel)) link inner label entry.stands
