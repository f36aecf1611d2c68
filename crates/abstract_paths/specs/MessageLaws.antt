-- Laws of messages: what a router sends is always a message, so that only memory can be wanting for it.
use Rattle.std.specs.Prelude.{◌≡◌, ℕ, ◌≤◌, Bool, true, false, if◌then◌else◌, IsTrue, List, ◌∷◌, length, Option, Some, None, is_some, IfSome, option_and_then}
use Rattle.std.specs.Option.{option_map_or}
use Rattle.std.proofs.Common.{refl, arith}
use Rattle.std.proofs.lemmas.Bool.{and_from}
use Rattle.rsvp_bodies.specs.Rates.{rate_of}
use Rattle.rsvp_bodies.specs.TokenBuckets.{has_shape, rate_word_of, token_rate}
use Rattle.rsvp_bodies.proofs.Shapes.{has_shape-whole}
use Rattle.rsvp_bodies.specs.declared.trace.Trace.{Trace}
use Rattle.rsvp_bodies.specs.declared.trace.Trace.TheVariants.{Ipv4}
use Rattle.rsvp_contents.specs.Fitting.{HasRoom, are_passed_on, fits_path, has_adspec_last}
use Rattle.rsvp_contents.specs.Limits.{is_short_passing, is_short_record, is_short_route}
use Rattle.rsvp_contents.specs.declared.messages.Content.TheVariants as contents
use Rattle.lsr_facts.specs.declared.key.Key.{Key}
use Rattle.lsr_facts.specs.declared.path_fact.PathFact.{PathFact}
use Rattle.lsr_facts.specs.declared.router.Link.{Link}
use Rattle.lsr_facts.specs.declared.router.Router.{Router}
use Rattle.abstract_paths.specs.Paths.{grown}
use Rattle.abstract_paths.specs.Soundness.{IsWithinLimits}
use Rattle.abstract_paths.specs.Onward.{path_onward}

-- a Tspec that leaves room for all else that a PathErr says, where there is one
abbrev pub LeavesRoom : Option (List ℕ) → Type 0
LeavesRoom tspec = IfSome tspec (λ bytes. length bytes ≤ 4044)

-- a word that was there
word-shaped : (shape : Bool) (word : ℕ) → IsTrue (is_some (option_and_then rate_of (if shape then Some word else None))) → shape ≡ true
word-shaped true word h = refl
word-shaped false word h = absurd cc

-- A Tspec with a rate has the bytes of a token bucket.
pub tspec-whole : (tspec : List ℕ) → IsTrue (is_some (token_rate 1 tspec)) → length tspec ≡ 32
unfolding token_rate rate_word_of
tspec-whole tspec h = has_shape-whole 1 tspec (word-shaped (has_shape 1 tspec) _ h)

-- so that it leaves room
pub rated_leaves_room : (tspec : List ℕ) → IsTrue (is_some (token_rate 1 tspec)) → LeavesRoom (Some tspec)
rated_leaves_room tspec h = omega (arith, tspec-whole tspec h)

-- what is kept of a record that may be too long is short
kept-short : (entries : List Trace) (short : Bool) → is_short_record entries ≡ short → IsTrue (option_map_or is_short_record (if short then Some entries else None) true)
kept-short entries true same = same
kept-short entries false same = refl

-- so is the record that a path goes on with
grown-short : (r : Router) (recorded : Option (List Trace)) → IsTrue (option_map_or is_short_record (option_and_then (grown r) recorded) true)
unfolding grown
grown-short r None = refl
grown-short r (Some entries) = kept-short (Ipv4 (record { address = r.id; length = 32 }) 0 ∷ entries) _ refl

-- The parts of the Path fit that a path wants downstream, where the path is within the limits.
pub onward_fits : (r : Router) (key : Key) (fact : PathFact) (link : Link) → IsWithinLimits fact → IsTrue (fits_path (path_onward r key fact link))
onward_fits r key fact link is =
    and_from (option_map_or is_short_route fact.rest true) _ is.rest
    (and_from (option_map_or is_short_record (option_and_then (grown r) fact.recorded) true) _ (grown-short r fact.recorded)
    (and_from (is_short_passing fact.passing) _ is.passing
    (and_from (are_passed_on fact.passing) _ is.passed_on (and_from (has_adspec_last fact.passing) _ is.adspec_last is.one_fast_reroute))))

-- And its Tspec leaves room for all else that it says, where that is a whole token bucket.
pub onward_has_room : (r : Router) (key : Key) (fact : PathFact) (link : Link) → length fact.tspec ≡ 32 → HasRoom (contents.Path (path_onward r key fact link))
onward_has_room r key fact link whole = omega (arith, whole)
