-- What is refused of events that change paths, links and time is silent, and leaves what is known.
use Rattle.std.specs.Prelude.{◌≡◌, ◌&&◌, ℕ, Bool, not, ◌==◌, nat_le, nat_lt, ◌^◌, true, [], ◌∷◌, length, Option, Some, None, is_none, find as find_first, Result, Ok, Err}
use Rattle.std.specs.FinMap.Entries.{find}
use Rattle.std.specs.Option.{option_map_or}
use Rattle.std.proofs.Common.{refl}
use Rattle.std.proofs.lemmas.Bool.{cond_both}
use Rattle.rsvp_contents.specs.declared.messages.Path.{Path}
use Rattle.rsvp_contents.specs.declared.messages.PathErr.{PathErr}
use Rattle.rsvp_contents.specs.declared.messages.PathTear.{PathTear}
use Rattle.rsvp_bodies.specs.TokenBuckets.{token_rate}
use Rattle.lsr_facts.specs.Orders.{key_cmp}
use Rattle.lsr_facts.specs.Routers.{link_at}
use Rattle.lsr_facts.specs.Tunnels.{is_head}
use Rattle.lsr_facts.specs.declared.choice.Choice.{Choice}
use Rattle.lsr_facts.specs.declared.errors.RsvpError.{RsvpError}
use Rattle.lsr_facts.specs.declared.facts.Facts.{Facts}
use Rattle.lsr_facts.specs.declared.key.Key.{Key}
use Rattle.lsr_facts.specs.declared.path_fact.PathFact.{PathFact}
use Rattle.lsr_facts.specs.declared.refusal.Refusal.{Refusal}
use Rattle.lsr_facts.specs.declared.refusal.Refusal.TheVariants.{BadMoment, Late, LinkDown, NoMatch, NoMerge, UnknownLink}
use Rattle.lsr_facts.specs.declared.reply.Reply.TheVariants as replies
use Rattle.lsr_facts.specs.declared.router.Router.{Router}
use Rattle.abstract_paths.specs.declared.commands.Command.{Command}
use Rattle.abstract_paths.specs.declared.ways.Relay.{Relay}
use Rattle.abstract_paths.proofs.Merging.{stack_path_by}
use Rattle.abstract_paths.specs.Commands.{command, commanded, refusal_of}
use Rattle.abstract_paths.specs.Links.{link_change}
use Rattle.abstract_paths.specs.Merging.{came_through, stack_path_arrival, stack_path_failed, stack_tear_arrival}
use Rattle.abstract_paths.specs.Outcomes.{PathOutcome, done, lsp, refused}
use Rattle.abstract_paths.specs.Paths.{has_loop, key_of, path_arrival, path_on_its_way, way_for}
use Rattle.abstract_paths.specs.Places.{is_up, place_of}
use Rattle.abstract_paths.specs.Relays.{relay, relayed_by}
use Rattle.abstract_paths.specs.Routing.{route_to}
use Rattle.abstract_paths.specs.Tears.{is_torn_by, leaves_by, left_with, origins_without, path_err_passed_on, path_err_arrival, path_tear_arrival, torn}
use Rattle.abstract_paths.specs.Time.{tick}

-- An outcome that is refused is silent, and leaves the facts as they were.
abbrev pub RefusesSilently : Facts → PathOutcome → Type 0
RefusesSilently s o = (refusal : Refusal) → o.reply ≡ replies.Refused refusal → (o.is_silent ≡ true) × (o.after ≡ s)

module _ (r : Router) (s : Facts) where
  refuses : (refusal : Refusal) → RefusesSilently s (refused s refusal)
  refuses refusal = λ other is. (refl, refl)

  path_refuses : (link : ℕ) (p : Path) (way : Result Choice RsvpError) → RefusesSilently s (path_on_its_way r s (find key_cmp (key_of p) s.paths) link p way)
  unfolding path_on_its_way
  path_refuses link p (Err e) = λ refusal is. cc
  path_refuses link p (Ok way) =
      cond_both (is_none (find key_cmp (key_of p) s.paths) && nat_le 1024 (length s.paths)) _ _ (RefusesSilently s) (λ full refusal is. cc) (λ room refusal is. cc)

  torn_refuses : (link : ℕ) (t : PathTear) (known : Option PathFact) → RefusesSilently s (torn s link t known)
  torn_refuses link t None = refuses NoMatch
  torn_refuses link t (Some fact) = cond_both (is_torn_by link t fact) _ (refused s NoMatch) (RefusesSilently s) (λ matches refusal is. cc) (λ other. refuses NoMatch)

  err_refuses : (link : ℕ) (e : PathErr) (known : Option PathFact) → RefusesSilently s (path_err_passed_on r s link e known)
  err_refuses link e None = refuses NoMatch
  err_refuses link e (Some fact) = cond_both (leaves_by link fact) _ (refused s NoMatch) (RefusesSilently s) (λ leaves refusal is. cc) (λ other. refuses NoMatch)

  -- a Path is refused of an LSP that begins here alone
  pub path_arrival-refuses : (link : ℕ) (p : Path) → RefusesSilently s (path_arrival r s link p)
  unfolding path_arrival
  path_arrival-refuses link p =
      cond_both (is_head r s.tunnels (key_of p)) _ _ (RefusesSilently s) (λ head. refuses NoMatch)
      (λ elsewhere.
      cond_both (not (p.label_request.l3pid == 0x0800)) _ _ (RefusesSilently s) (λ other refusal is. cc)
      (λ carries.
      cond_both (is_none (token_rate 1 p.tspec)) _ _ (RefusesSilently s) (λ none refusal is. cc)
      (λ rate.
      cond_both (has_loop r p.recorded) _ _ (RefusesSilently s) (λ loops refusal is. cc)
      (λ straight. path_refuses link p (way_for (place_of r s) (find key_cmp (key_of p) s.paths) p)))))

  pub path_err-refuses : (link : ℕ) (e : PathErr) → RefusesSilently s (path_err_arrival r s link e)
  unfolding path_err_arrival
  path_err-refuses link e = err_refuses link e (find key_cmp (lsp e.session e.sender) s.paths)

  pub path_tear-refuses : (link : ℕ) (t : PathTear) → RefusesSilently s (path_tear_arrival s link t)
  unfolding path_tear_arrival
  path_tear-refuses link t = torn_refuses link t (find key_cmp (lsp t.session t.sender) s.paths)

  -- a Path that comes through a stack is refused where it doesn't join one path
  pub stack_path-refuses : (p : Path) → RefusesSilently s (stack_path_arrival s p)
  stack_path-refuses p = stack_path_by (RefusesSilently s) s p (refuses NoMerge) (λ path only room refusal is. cc)

  pub stack_path_failed-refuses : (p : Path) (e : RsvpError) → RefusesSilently s (stack_path_failed r s p e)
  stack_path_failed-refuses p e = λ refusal is. cc

  pub stack_tear-refuses : (t : PathTear) → RefusesSilently s (stack_tear_arrival s t)
  unfolding stack_tear_arrival
  stack_tear-refuses t = by (find_first (came_through (lsp t.session t.sender)) s.paths)
    where
      by : (o : Option (Key × PathFact)) → RefusesSilently s (option_map_or (λ path. done [] (left_with path.0 path.1 (origins_without t.sender.sender path.1) s)) o (refused s NoMatch))
      by None = refuses NoMatch
      by (Some path) = λ refusal is. cc

  relay_refuses : (m : Relay) (way : Option ℕ) → RefusesSilently s (option_map_or (λ link. done (relayed_by m link ∷ []) s) way (refused s NoMatch))
  relay_refuses m None = refuses NoMatch
  relay_refuses m (Some link) = λ refusal is. cc

  pub relay-refuses : (m : Relay) → RefusesSilently s (relay r s m)
  unfolding relay
  relay-refuses m =
      cond_both (is_none (link_at r m.link)) (refused s UnknownLink) _ (RefusesSilently s) (λ none. refuses UnknownLink)
      (λ there. cond_both (not (is_up s.up m.link)) (refused s LinkDown) _ (RefusesSilently s) (λ down. refuses LinkDown) (λ up. relay_refuses m (route_to (place_of r s) m.to)))

  pub tick-refuses : (n : ℕ) → RefusesSilently s (tick r s n)
  unfolding tick
  tick-refuses n =
      cond_both (nat_lt (2 ^ 62) n) (refused s BadMoment) _ (RefusesSilently s) (λ above. refuses BadMoment)
      (λ most. cond_both (nat_lt n s.moment) (refused s Late) _ (RefusesSilently s) (λ below. refuses Late) (λ later refusal is. cc))

  pub link_change-refuses : (number : ℕ) (up : Bool) → RefusesSilently s (link_change r s number up)
  unfolding link_change
  link_change-refuses number up = cond_both (is_none (link_at r number)) (refused s UnknownLink) _ (RefusesSilently s) (λ none. refuses UnknownLink) (λ there refusal is. cc)

  pub command-refuses : (c : Command) → RefusesSilently s (command r s c)
  unfolding command
  command-refuses c = by (refusal_of r s c)
    where
      by : (refusal : Option Refusal) → RefusesSilently s (option_map_or (refused s) refusal (done [] (commanded r s c)))
      by None = λ refusal is. cc
      by (Some refusal) = refuses refusal
