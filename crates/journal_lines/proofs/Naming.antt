-- Names that are words, and the lines that ask for tunnels.
use Rattle.std.proofs.Common.{◌≡◌, ◌==◌, ◌&&◌, ◌++◌, [], ◌∷◌, not, ℕ, List, Bool, true, false, length, ap, refl, sym, ◌∙◌, append_assoc}
use Rattle.std.specs.Prelude.{codes, flat_map}
use Rattle.std.specs.Fmt.{decimal}
use Rattle.std.specs.List.{list_all}
use Rattle.std.specs.Str.{IsUtf8, is_utf8}
use Rattle.std.proofs.lemmas.Str.{IsUtf8-from_is_utf8, is_utf8-from_IsUtf8}
use Rattle.hex.specs.Hex.{encode_lower}
use Rattle.rsvp_bodies.specs.declared.step.Step.{Step}
use Rattle.abstract_paths.specs.declared.commands.Command.{Command}
use Rattle.abstract_paths.specs.declared.commands.Command.TheVariants as commands
use Rattle.abstract_paths.specs.declared.tunnels.NewTunnel.{NewTunnel}
use Rattle.abstract_paths.specs.declared.tunnels.TunnelChange.{TunnelChange}
use Rattle.object_text.specs.Words.{address_text}
use Rattle.lsr_text.specs.Routes.{step_words}
use Rattle.journal_lines.specs.Words.{change_words, command_words, is_letter, is_word, name_word, rate_word, tunnel_words}

false_by : (b : Bool) → (b ≡ true → ⊥) → b ≡ false
false_by true none = absurd (none refl)
false_by false none = refl

-- some letters in UTF-8 are a word
pub word_by : (name : List ℕ) (empty letters : Bool) → empty ≡ (length name == 0) → empty ≡ false → letters ≡ list_all is_letter name → letters ≡ true → IsUtf8 name → is_word name ≡ true
word_by name empty letters e none l all utf8 = λ i. not ((sym e ∙ none) i) && ((sym l ∙ all) i && (is_utf8-from_IsUtf8 name utf8) i)

-- and some that aren't UTF-8 are none
pub no_word_by : (name : List ℕ) (empty letters : Bool) → empty ≡ (length name == 0) → empty ≡ false → letters ≡ list_all is_letter name → letters ≡ true → (IsUtf8 name → ⊥) → is_word name ≡ false
no_word_by name empty letters e none l all no_utf8 =
    λ i. not ((sym e ∙ none) i) && ((sym l ∙ all) i && (false_by (is_utf8 name) (λ is. no_utf8 (IsUtf8-from_is_utf8 name is))) i)

regroup : (o a b c d e f g h i j k l m n s : List ℕ)
    → (((o ++ (a ++ (b ++ (c ++ (d ++ (e ++ (f ++ g))))))) ++ (h ++ (i ++ (j ++ (k ++ (l ++ m)))))) ++ n) ++ s
    ≡ o ++ (a ++ (b ++ (c ++ (d ++ (e ++ (f ++ (g ++ (h ++ (i ++ (j ++ (k ++ (l ++ (m ++ (n ++ s))))))))))))))
regroup o a b c d e f g h i j k l m n s = simp append_assoc

-- the demand of a tunnel, its numbers, its name and its route are the words that ask for it
pub tunnel_told : (t : NewTunnel) (rate flags old asked written named new : List ℕ) (route : List Step) → rate ≡ rate_word t.tspec → flags ≡ encode_lower (t.attr.flags ∷ [])
    → asked ≡ old ++ (codes "tunnel " ++ (decimal t.number ++ (codes " " ++ (address_text t.endpoint ++ (codes " " ++ (rate ++ codes " "))))))
    → written ≡ asked ++ (decimal t.attr.setup ++ (codes " " ++ (decimal t.attr.hold ++ (codes " " ++ (flags ++ codes " ")))))
    → named ≡ written ++ name_word t.attr.name → route ≡ t.route → new ≡ named ++ flat_map step_words route → new ≡ old ++ tunnel_words t
tunnel_told t rate flags old asked written named new route rate_is flags_is demand numbers name same steps =
    let demanded = demand ∙ ap (λ (r : List ℕ). old ++ (codes "tunnel " ++ (decimal t.number ++ (codes " " ++ (address_text t.endpoint ++ (codes " " ++ (r ++ codes " "))))))) rate_is in
    let numbered = numbers ∙ (ap (λ (f : List ℕ). asked ++ (decimal t.attr.setup ++ (codes " " ++ (decimal t.attr.hold ++ (codes " " ++ (f ++ codes " ")))))) flags_is
    ∙ ap (λ (l : List ℕ). l ++ (decimal t.attr.setup ++ (codes " " ++ (decimal t.attr.hold ++ (codes " " ++ (encode_lower (t.attr.flags ∷ []) ++ codes " ")))))) demanded) in
    steps ∙ (ap (λ (r : List Step). named ++ flat_map step_words r) same ∙ (ap (λ (l : List ℕ). l ++ flat_map step_words t.route) (name ∙ ap (λ (l : List ℕ). l ++ name_word t.attr.name) numbered)
    ∙ regroup old (codes "tunnel ") (decimal t.number) (codes " ") (address_text t.endpoint) (codes " ") (rate_word t.tspec) (codes " ") (decimal t.attr.setup) (codes " ") (decimal t.attr.hold) (codes " ")
    (encode_lower (t.attr.flags ∷ [])) (codes " ") (name_word t.attr.name) (flat_map step_words t.route)))

behind : (o a b c d s : List ℕ) → (o ++ (a ++ (b ++ (c ++ d)))) ++ s ≡ o ++ (a ++ (b ++ (c ++ (d ++ s))))
behind o a b c d s = simp append_assoc

-- and those of a tunnel that is changed, with its route
pub change_told : (command : Command) (change : TunnelChange) (old written new : List ℕ) (route : List Step) → command ≡ commands.ChangeTunnel change
    → written ≡ old ++ (codes "change " ++ (decimal change.number ++ (codes " " ++ rate_word change.tspec))) → route ≡ change.route
    → new ≡ written ++ flat_map step_words route → new ≡ old ++ command_words command
change_told command change old written new route is head same steps =
    let told : new ≡ old ++ change_words change =
    steps ∙ (ap (λ (r : List Step). written ++ flat_map step_words r) same ∙ (ap (λ (l : List ℕ). l ++ flat_map step_words change.route) head
    ∙ behind old (codes "change ") (decimal change.number) (codes " ") (rate_word change.tspec) (flat_map step_words change.route))) in
    told ∙ ap (λ (c : Command). old ++ command_words c) (sym is)
