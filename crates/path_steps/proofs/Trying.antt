-- Tunnels that are tried, one after the other.
use Rattle.std.specs.Prelude.{◌≡◌, ◌+◌, ◌<◌, ℕ, suc, false, cond, T, List, [], ◌∷◌, length, is_some}
use Rattle.std.specs.FinMap.Entries.{find, is_sorted, length-put, put}
use Rattle.std.specs.List.{AllByRecursion}
use Rattle.std.proofs.Common.{arith, get_or, sym, ap, subst, zero, ◌∙◌}
use Rattle.std.proofs.lemmas.Bool.{or_parts}
use Rattle.lsr_facts.specs.OrderLaws.{key_total}
use Rattle.lsr_facts.specs.Orders.{key_cmp}
use Rattle.lsr_facts.specs.Tunnels.{current_key}
use Rattle.lsr_facts.specs.declared.facts.Facts.{Facts}
use Rattle.lsr_facts.specs.declared.key.Key.{Key}
use Rattle.lsr_facts.specs.declared.path_fact.PathFact.{PathFact}
use Rattle.lsr_facts.specs.declared.router.Router.{Router}
use Rattle.lsr_facts.specs.declared.tunnel.Tunnel.{Tunnel}
use Rattle.abstract_paths.specs.Heads.{is_full}
use Rattle.path_steps.specs.Signalling.{is_passed_over}

-- A tunnel has no path that isn't passed over.
pub has_no_path : (r : Router) (s : Facts) (t : ℕ × Tunnel) → is_passed_over r s t ≡ false → is_some (find key_cmp (current_key r t) s.paths) ≡ false
has_no_path r s t is = (or_parts (is_full s) (is_some (find key_cmp (current_key r t) s.paths)) is).1

-- A path that is put under a new key is one more.
pub one_path_more : (key : Key) (fact : PathFact) (paths : List (Key × PathFact)) → T (is_sorted key_cmp paths) → is_some (find key_cmp key paths) ≡ false → length (put key_cmp key fact paths) ≡ length paths + 1
one_path_more key fact paths h new = length-put key_cmp key_total key fact paths h ∙ ap (λ b. cond b (length paths) (length paths + 1)) new

-- What holds of each holds of the one at a place.
pub each_at : {A : Type 0} (P : A → Type 0) (xs : List A) (i : ℕ) (x : A) → AllByRecursion P xs → i < length xs → x ≡ get_or xs i x → P x
each_at P [] i x each within is = absurd (omega (arith, within))
each_at P (first ∷ xs) zero x each within is = subst P (sym is) each.0
each_at P (first ∷ xs) (suc i) x each within is = each_at P xs i x each.1 (omega (arith, within)) is
