-- Frames that a wire is given, and how its history goes on.
use Rattle.std.proofs.Common.{◌≡◌, ◌+◌, ◌-◌, ◌<◌, ◌++◌, ◌∷◌, ◌^◌, ℕ, List, [], Option, Some, None, Result, drop, length, map, slice_index_or, take, ap, arith, refl, sym, ◌∙◌}
use Rattle.std.proofs.lemmas.List.{append-nil, append_assoc, map-append, take-append-drop, take_all, take_more}
use Rattle.std.proofs.lemmas.List.Sums.{sum_by-append}
use Rattle.journal_bytes.specs.declared.entry.WrittenFrame.{WrittenFrame}
use Rattle.interface_workers.specs.Wires.{AreSent, Arrival, Sending, WireHistory, after, fault_of, faults_in, known_with, loss_of, lost_in, sending_of}

-- nothing more is known
known_none : {X : Type 0} (known : Option (List X)) → known_with known [] ≡ known
known_none None = refl
known_none (Some known) = ap Some (append-nil known)

-- what is known, and twice more
known_twice : {X : Type 0} (known : Option (List X)) (xs ys : List X) → known_with (known_with known xs) ys ≡ known_with known (xs ++ ys)
known_twice None xs ys = refl
known_twice (Some known) xs ys = ap Some (append_assoc known xs ys)

abbrev history_of : ℕ → Option (List Arrival) → Option (List Sending) → WireHistory
history_of failed answered given = record { failed = failed; answered = answered; given = given }

-- histories of the same parts
same_history : (failed failed' : ℕ) (answered answered' : Option (List Arrival)) (given given' : Option (List Sending)) → failed ≡ failed' → answered ≡ answered' → given ≡ given'
    → history_of failed answered given ≡ history_of failed' answered' given'
same_history failed failed' answered answered' given given' f a g =
    ap (λ (n : ℕ). history_of n answered given) f ∙ ap (λ (x : Option (List Arrival)). history_of failed' x given) a
    ∙ ap (λ (y : Option (List Sending)). history_of failed' answered' y) g

-- where nothing happened, the history is as it was
pub after_none : (h : WireHistory) → after h [] [] ≡ h
after_none h = same_history (h.failed + (0 + 0)) h.failed (known_with h.answered []) h.answered (known_with h.given []) h.given (omega arith) (known_none h.answered) (known_none h.given)

-- what happened, and more
pub after_twice : (h : WireHistory) (arrivals more : List Arrival) (sendings others : List Sending) → after (after h arrivals sendings) more others ≡ after h (arrivals ++ more) (sendings ++ others)
after_twice h arrivals more sendings others =
    same_history (h.failed + (faults_in arrivals + lost_in sendings) + (faults_in more + lost_in others)) (h.failed + (faults_in (arrivals ++ more) + lost_in (sendings ++ others)))
    (known_with (known_with h.answered arrivals) more) (known_with h.answered (arrivals ++ more)) (known_with (known_with h.given sendings) others) (known_with h.given (sendings ++ others))
    (omega (arith, sum_by-append fault_of arrivals more, sum_by-append loss_of sendings others))
    (known_twice h.answered arrivals more) (known_twice h.given sendings others)

-- a frame of these parts
abbrev pub framed : ℕ → List ℕ → WrittenFrame
framed link bytes = record { link = link; bytes = bytes }

abbrev pub frame_of : Sending → WrittenFrame
frame_of sending = sending.frame

-- The first so many frames were given to a wire, and nothing else happened on it.
abbrev pub AreFirst : List WrittenFrame → ℕ → WireHistory → WireHistory → Type 0
AreFirst frames i h now = (sendings : List Sending) × (take i frames ≡ map frame_of sendings) × (now ≡ after h [] sendings)

-- no frames are sent, and nothing happened
pub none_sent : (h now : WireHistory) → now ≡ h → AreSent [] [] h now
none_sent h now same = record {
  given = record { rest = []; order = refl; whole = λ _. refl };
  history = same ∙ sym (after_none h);
}

-- a wire that has failed as often as can be counted is given no more
no_more : (failed : ℕ) (rest : List WrittenFrame) → failed ≡ 2 ^ 64 - 1 → failed < 2 ^ 64 - 1 → rest ≡ []
no_more failed rest most low = absurd (omega (arith, most, low))

-- frames that it isn't given
pub sent_not : (frames : List WrittenFrame) (h now : WireHistory) → now ≡ h → now.failed ≡ 2 ^ 64 - 1 → AreSent frames [] h now
sent_not frames h now same most = record {
  given = record { rest = frames; order = refl; whole = no_more now.failed frames most };
  history = same ∙ sym (after_none h);
}

-- one frame that it is given
pub sent_one : {X E : Type 0} (link : ℕ) (bytes written : List ℕ) (answer : Result X E) (h now : WireHistory) → written ≡ bytes → now ≡ after h [] (sending_of link written answer ∷ [])
    → AreSent ((record { link = link; bytes = bytes }) ∷ []) (sending_of link written answer ∷ []) h now
sent_one link bytes written answer h now same history = record {
  given = record { rest = []; order = ap (λ (b : List ℕ). framed link b ∷ []) (sym same); whole = λ _. refl };
  history = history;
}

-- the first frames that it is given, and one more
pub sent_more : {X E : Type 0} (frames : List WrittenFrame) (i : ℕ) (frame : WrittenFrame) (bytes : List ℕ) (answer : Result X E) (sendings : List Sending) (h mid now : WireHistory) → i < length frames
    → frame ≡ slice_index_or frames i frame → bytes ≡ frame.bytes → take i frames ≡ map frame_of sendings → mid ≡ after h [] sendings → now ≡ after mid [] (sending_of frame.link bytes answer ∷ [])
    → AreFirst frames (i + 1) h now
sent_more frames i frame bytes answer sendings h mid now low is same first before history = (
  sendings ++ sending_of frame.link bytes answer ∷ [],
  take_more frames i frame low ∙ ap (λ (f : WrittenFrame). take i frames ++ f ∷ []) (sym is) ∙ ap (λ (fs : List WrittenFrame). fs ++ frame ∷ []) first
      ∙ ap (λ (b : List ℕ). map frame_of sendings ++ framed frame.link b ∷ []) (sym same) ∙ sym (map-append frame_of sendings (sending_of frame.link bytes answer ∷ [])),
  history ∙ ap (λ (x : WireHistory). after x [] (sending_of frame.link bytes answer ∷ [])) before ∙ after_twice h [] [] sendings (sending_of frame.link bytes answer ∷ []),
)

-- the first frames that it is given, where it takes no more
pub sent_first : (frames : List WrittenFrame) (i : ℕ) (h now : WireHistory) → now.failed ≡ 2 ^ 64 - 1 → AreFirst frames i h now → (sendings : List Sending) × AreSent frames sendings h now
sent_first frames i h now most first = (
  first.0,
  record {
    given = record {
      rest = drop i frames;
      order = sym (take-append-drop i frames) ∙ ap (λ (fs : List WrittenFrame). fs ++ drop i frames) first.1;
      whole = no_more now.failed (drop i frames) most;
    };
    history = first.2;
  },
)

-- and all of them
pub sent_all : (frames : List WrittenFrame) (i : ℕ) (h now : WireHistory) → i ≡ length frames → AreFirst frames i h now → (sendings : List Sending) × AreSent frames sendings h now
sent_all frames i h now all first = (
  first.0,
  record {
    given = record {
      rest = [];
      order = sym (take_all i frames (omega (arith, all))) ∙ first.1 ∙ sym (append-nil (map frame_of first.0));
      whole = λ _. refl;
    };
    history = first.2;
  },
)
