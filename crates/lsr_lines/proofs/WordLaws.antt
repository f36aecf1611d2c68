-- How a line is cut into words, and what some of them say.
use Rattle.std.proofs.Common.{◌≡◌, ◌≢◌, ◌<◌, ◌≤◌, ◌*◌, ◌^◌, ℕ, suc, List, [], ◌∷◌, ◌++◌, true, Option, Some, None, refl, sym, ap, subst, ◌∙◌, arith, get_or, length, ne_eqb, Bor, append_assoc, append-nil, length-append, codes, is_some}
use Rattle.std.proofs.lemmas.Bool.{true≢false}
use Rattle.std.specs.List.{flat_map, onto_first}
use Rattle.std.specs.Char.{digit_value}
use Rattle.std.specs.Net.Grammar.{IsIpv4Text}
use Rattle.std.specs.declared.net.ipv4_addr.Ipv4Addr.{Ipv4Addr}
use Rattle.std.specs.Str.Parse.{IsNumeral, digits_value, without_leading_plus}
use Rattle.std.proofs.lemmas.Int.Digits.{digits_value-lt}
use Rattle.std.proofs.lemmas.List.Splits.{slice_split-cons_no, length-slice_split}
use Rattle.std.proofs.lemmas.Str.Parse.{without_leading_plus_none}
use Rattle.rsvp_bodies.specs.Steps.{step_bytes}
use Rattle.rsvp_bodies.specs.declared.prefix.Prefix.{Prefix}
use Rattle.rsvp_bodies.specs.declared.step.Step.{Step}
use Rattle.rsvp_bodies.specs.declared.step.Step.TheVariants.{Ipv4, Other}
use Rattle.rsvp_bodies.specs.declared.attr.Attr.{Attr}
use Rattle.rsvp_bodies.specs.RateWords.{IsRateText, tspec_with}
use Rattle.rsvp_bodies.specs.RouteWords.{IsStepText}
use Rattle.abstract_paths.specs.declared.tunnels.NewTunnel.{NewTunnel}
use Rattle.lsr_lines.specs.Commands.{is_space, words_of, words_left, IsFlagsText, AreSteps, SaysAttr, SaysCapacity, SaysCommand, SaysRoute, SaysStatic, SaysTunnel}
use Rattle.lsr_lines.specs.Numbers.{NamesUpTo}
use Rattle.abstract_paths.specs.declared.commands.Command.{Command}
use Rattle.abstract_paths.specs.declared.commands.Command.TheVariants as commands

-- a byte that is no space goes onto the first word
word_more : (b : ℕ) (rest : List ℕ) → b ≢ 32 → words_of (b ∷ rest) ≡ onto_first b (words_of rest)
word_more b rest h = slice_split-cons_no is_space b rest (ne_eqb b 32 h)

-- the first word ends at the first space
pub words_cut : (text word rest : List ℕ) → text ≡ word ++ (32 ∷ rest) → ((i : ℕ) → i < length word → get_or word i 0 ≢ 32) → words_of text ≡ word ∷ words_of rest
words_cut text word rest e h = ap words_of e ∙ go word h
  where
    go : (word : List ℕ) → ((i : ℕ) → i < length word → get_or word i 0 ≢ 32) → words_of (word ++ (32 ∷ rest)) ≡ word ∷ words_of rest
    go [] h = refl
    go (b ∷ word) h = word_more b (word ++ (32 ∷ rest)) (h 0 (omega arith)) ∙ ap (onto_first b) (go word (λ i l. h (suc i) (omega arith)))

-- a text without a space is one word
pub words_whole : (text : List ℕ) → ((i : ℕ) → i < length text → get_or text i 0 ≢ 32) → words_of text ≡ text ∷ []
words_whole [] h = refl
words_whole (b ∷ text) h = word_more b text (h 0 (omega arith)) ∙ ap (onto_first b) (words_whole text (λ i l. h (suc i) (omega arith)))

-- a numeral begins with a digit, and so with no sign
no_plus : (radix : ℕ) (text : List ℕ) → radix ≤ 36 → IsNumeral radix text → get_or text 0 0 ≢ 43
no_plus radix [] low h = absurd (omega (arith, h.0))
no_plus radix (c ∷ cs) low h = λ e. omega (arith, h.1.0, ap digit_value e)

-- two digits write a number of 8 bits
pub flags_parse : (text : List ℕ) (flags : ℕ) → IsFlagsText text flags → IsNumeral 16 (without_leading_plus text) × (digits_value 16 (without_leading_plus text) < 2 ^ 8)
flags_parse text flags h =
    let same = without_leading_plus_none text (no_plus 16 text (omega arith) h.hexadecimal) in
    let low : digits_value 16 text < 2 ^ 8 = subst (λ n. digits_value 16 text < 16 ^ n) h.two (digits_value-lt 16 text h.hexadecimal.1) in
    subst (λ t. IsNumeral 16 t × (digits_value 16 t < 2 ^ 8)) (sym same) (h.hexadecimal, low)

-- the words so far write the steps so far
pub record AreRead (all left : List (List ℕ)) (steps : List Step) : Type 0 where
  pub done : List (List ℕ)
  pub parts : all ≡ done ++ left
  pub written : AreSteps done steps

pub same_count : (words : List (List ℕ)) (steps : List Step) → AreSteps words steps → length words ≡ length steps
same_count [] [] h = refl
same_count [] (step ∷ steps) h = elim h [ ]
same_count (word ∷ words) [] h = elim h [ ]
same_count (word ∷ words) (step ∷ steps) h = ap suc (same_count words steps h.1)

one_more : (words : List (List ℕ)) (steps : List Step) (word : List ℕ) (step : Step) → AreSteps words steps → IsStepText word step → AreSteps (words ++ (word ∷ [])) (steps ++ (step ∷ []))
one_more [] [] word step h says = (says, tt)
one_more [] (s ∷ steps) word step h says = elim h [ ]
one_more (w ∷ words) [] word step h says = elim h [ ]
one_more (w ∷ words) (s ∷ steps) word step h says = (h.0, one_more words steps word step h.1 says)

pub read_none : (all : List (List ℕ)) → AreRead all all []
read_none all = record { done = []; parts = refl; written = tt }

pub read_more : (all left rest : List (List ℕ)) (steps : List Step) (word : List ℕ) (step : Step) → left ≡ word ∷ rest → AreRead all left steps → IsStepText word step → AreRead all rest (steps ++ (step ∷ []))
read_more all left rest steps word step e h says = record {
  done = h.done ++ (word ∷ []);
  parts = h.parts ∙ ap (λ l. h.done ++ l) e ∙ sym (append_assoc h.done (word ∷ []) rest);
  written = one_more h.done steps word step h.written says;
}

pub read_all : (all left : List (List ℕ)) (steps : List Step) → left ≡ [] → AreRead all left steps → AreSteps all steps
read_all all left steps e h = subst (λ words. AreSteps words steps) (sym (h.parts ∙ ap (λ l. h.done ++ l) e ∙ append-nil h.done)) h.written

-- where words write steps each of them does
step_in : (front rest : List (List ℕ)) (word : List ℕ) (steps : List Step) → AreSteps (front ++ (word ∷ rest)) steps → (step : Step) × IsStepText word step
step_in [] rest word (step ∷ steps) h = (step, h.0)
step_in [] rest word [] h = elim h [ ]
step_in (w ∷ front) rest word [] h = elim h [ ]
step_in (w ∷ front) rest word (step ∷ steps) h = step_in front rest word steps h.1

pub step_next : (all left rest : List (List ℕ)) (steps others : List Step) (word : List ℕ) → left ≡ word ∷ rest → AreRead all left steps → AreSteps all others → (step : Step) × IsStepText word step
step_next all left rest steps others word e h are = step_in h.done rest word others (subst (λ words. AreSteps words others) (h.parts ∙ ap (λ l. h.done ++ l) e) are)

-- one word more is one step more
pub too_many : (all left rest : List (List ℕ)) (steps others : List Step) (word : List ℕ) → left ≡ word ∷ rest → AreRead all left steps → AreSteps all others → length steps < length others
too_many all left rest steps others word e h are =
    omega (arith, same_count all others are, same_count h.done steps h.written, ap length (h.parts ∙ ap (λ l. h.done ++ l) e), length-append h.done (word ∷ rest))

-- each step that a word writes has eight bytes
pub bytes_of_steps : (words : List (List ℕ)) (steps : List Step) → AreSteps words steps → length (flat_map step_bytes steps) ≡ 8 * length steps
bytes_of_steps [] [] h = refl
bytes_of_steps [] (step ∷ steps) h = elim h [ ]
bytes_of_steps (word ∷ words) [] h = elim h [ ]
bytes_of_steps (word ∷ words) (Ipv4 loose prefix ∷ steps) h =
    let octets : length prefix.address.octets ≡ 4 = ap length h.0.2.0.value in
    omega (arith, octets, length-append (prefix.address.octets ++ (prefix.length ∷ 0 ∷ [])) (flat_map step_bytes steps), length-append prefix.address.octets (prefix.length ∷ 0 ∷ []), bytes_of_steps words steps h.1)
bytes_of_steps (word ∷ words) (Other bytes ∷ steps) h = absurd h.0

-- words that write its parts say a tunnel
pub tunnel_said : (number endpoint rate setup hold flags name : List ℕ) (steps : List (List ℕ)) (n : ℕ) (e : Ipv4Addr) (r : ℕ)
    → NamesUpTo 65535 number n → IsIpv4Text endpoint e → IsRateText rate r → ((attr : Attr) × SaysAttr setup hold flags name attr) → ((route : List Step) × SaysRoute steps route)
    → (t : NewTunnel) × SaysTunnel (number ∷ endpoint ∷ rate ∷ setup ∷ hold ∷ flags ∷ name ∷ steps) t
tunnel_said number endpoint rate setup hold flags name steps n e r names at asks attr route = (
  record { number = n; endpoint = e; route = route.0; tspec = tspec_with r; whole = refl; attr = attr.0; fast_reroute = None },
  (names, at, (r, asks, refl), attr.1, route.1, refl),
)

-- a text has a word
pub words_some : (text : List ℕ) → 1 ≤ length (words_of text)
words_some text = omega (arith, length-slice_split is_space text)

pub more_words : (left : Option (Bor (List ℕ))) → true ≡ is_some left → 1 ≤ length (words_left left)
more_words None e = absurd (true≢false e)
more_words (Some text) e = words_some text.now

-- words of which there are some, and not one alone, say no capacity
more_than_one : (words : List (List ℕ)) (capacity : ℕ) → 1 ≤ length words → length words ≢ 1 → ¬ SaysCapacity words capacity
more_than_one [] capacity some other h = absurd (omega (arith, some))
more_than_one (digits ∷ []) capacity some other h = absurd (other refl)
more_than_one (digits ∷ word ∷ words) capacity some other h = h

pub no_capacity : (left : Option (Bor (List ℕ))) (capacity : ℕ) → is_some left ≡ true → length (words_left left) ≢ 1 → ¬ SaysCapacity (words_left left) capacity
no_capacity None capacity e other h = absurd (true≢false (sym e))
no_capacity (Some text) capacity e other h = more_than_one (words_of text.now) capacity (words_some text.now) other h

-- a line that begins with `route` is about nothing else
pub no_static : (word : List ℕ) (others : List (List ℕ)) → word ≡ codes "route" → ((route : Prefix × ℕ) → ¬ SaysStatic others route.0 route.1) → (command : Command) → ¬ SaysCommand (word ∷ others) command
no_static word others e none (commands.AddTunnel t) h = grind arith
no_static word others e none (commands.ChangeTunnel c) h = grind arith
no_static word others e none (commands.CancelChange number) h = grind arith
no_static word others e none (commands.DropTunnel number) h = grind arith
no_static word others e none (commands.AddBypass b) h = grind arith
no_static word others e none (commands.DropBypass number) h = grind arith
no_static word others e none (commands.AddRoute prefix link) h = none (prefix, link) h.1
no_static word others e none (commands.DropRoute prefix) h = grind arith
