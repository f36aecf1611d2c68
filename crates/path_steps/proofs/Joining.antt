-- What a Path does that comes through a stack, by the one path that it may join.
use Rattle.std.specs.Prelude.{◌≡◌, true, if◌then◌else◌, List, [], ◌∷◌, filter, length, nat_le, Some}
use Rattle.std.specs.Option.{option_map_or}
use Rattle.std.proofs.Common.{refl, ap, sym, ◌∙◌}
use Rattle.rsvp_contents.specs.declared.messages.Path.{Path}
use Rattle.lsr_facts.specs.declared.facts.Facts.{Facts}
use Rattle.lsr_facts.specs.declared.key.Key.{Key}
use Rattle.lsr_facts.specs.declared.path_fact.PathFact.{PathFact}
use Rattle.lsr_facts.specs.declared.refusal.Refusal.TheVariants.{NoMerge}
use Rattle.abstract_paths.specs.Changes.{with_path}
use Rattle.abstract_paths.specs.Merging.{joined, joined_one, may_join, other_stacks, stack_path_arrival, with_stack}
use Rattle.abstract_paths.specs.Outcomes.{done, refused}
use Rattle.abstract_paths.specs.Paths.{key_of}
use Rattle.abstract_router.specs.Returning.{the_one}

-- The Path joins the one path, if it is one.
joined_the_one : (s : Facts) (p : Path) (paths : List (Key × PathFact)) → joined_one s p paths ≡ option_map_or (joined s p) (the_one paths) (refused s NoMerge)
joined_the_one s p [] = refl
joined_the_one s p (path ∷ []) = refl
joined_the_one s p (path ∷ other ∷ paths) = refl

-- It is refused where that has no room for its origin.
pub refused_full : (s : Facts) (p : Path) (path : Key × PathFact) → Some path ≡ the_one (filter (may_join (key_of p)) s.paths) → nat_le 3 (length (other_stacks p.sender.sender path.1)) ≡ true → stack_path_arrival s p ≡ refused s NoMerge
unfolding stack_path_arrival
refused_full s p path one full =
    joined_the_one s p (filter (may_join (key_of p)) s.paths)
    ∙ ap (λ o. option_map_or (joined s p) o (refused s NoMerge)) (sym one)
    ∙ ap (λ b. if b then refused s NoMerge else done [] (with_path path.0 (with_stack s.moment p path.1) s)) full
