-- Which capacities of bypasses the records of tunnels have room for.
use Rattle.std.proofs.Common.{◌≡◌, ℕ, zero, suc, ◌^◌, ◌<◌, ◌≤◌, ◌+◌, ◌++◌, ◌&&◌, nat_le, true, false, arith, List, [], ◌∷◌, length, get_or, take, Option, Some, None, refl, sym, ap, subst, ◌∙◌}
use Rattle.std.proofs.lemmas.Bool.{false≢true, and_parts, leb-true, le-leb}
use Rattle.std.proofs.lemmas.List.{take_all, take_more}
use Rattle.std.specs.Prelude.{IfSome, IsSomeAnd, MatchOption}
use Rattle.std.specs.List.{AllByRecursion}
use Rattle.std.specs.Option.{option_map_or}
use Rattle.toml.specs.Data.{Data, get}
use Rattle.rsvp_bodies.specs.RateWords.{tspec_with}
use Rattle.rsvp_bodies.specs.Traffic.{rate_asked}
use Rattle.sorted_rows.specs.ListLaws.{all-append}
use Rattle.lsr_facts.specs.Bypasses.{carries}
use Rattle.lsr_facts.specs.declared.tunnel.Tunnel.{Tunnel}
use Rattle.lsr_facts.specs.declared.tunnel.TunnelLsp.{TunnelLsp}
use Rattle.lsr_config.specs.Keys.{key_name}
use Rattle.lsr_config.specs.Values.{IsDefinedRateText, SaysEach, SaysRate, SaysTspec, SaysWhole}
use Rattle.lsr_config.specs.Rules.{Has, HasCapacity, HasNumber, HasRoom, HaveRoom, Holds, carried}
use Rattle.lsr_config.specs.Documents.{SaysTunnel}
use Rattle.lsr_config.specs.declared.key.Key.{Key}
use Rattle.lsr_config.specs.declared.key.Key.TheVariants as key
use Rattle.lsr_config.proofs.Finding.{same_whole}
use Rattle.lsr_config.proofs.Telling.{one_number, same_text, some_weaker}

-- ---- tunnels that records say

pub has_some : (P : Data → Type 0) (Q : Type 0) (o : Option Data) → ((d : Data) → P d → Q) → IsSomeAnd o P → Q
has_some P Q None from h = absurd h
has_some P Q (Some d) from h = from d h

tspec_length : (rate : ℕ) → length (tspec_with rate) ≡ 32
tspec_length rate = refl

pub tspec_fits : (key : Key) (d : Data) (tspec : List ℕ) → Has key d (λ v. SaysTspec v tspec) → length tspec ≡ 32
tspec_fits key d tspec h = has_some (λ v. SaysTspec v tspec) (length tspec ≡ 32) (get (key_name key) d) (λ v says. ap length says.2 ∙ tspec_length says.0) h

-- traffic is written in 32 bytes, that of the tunnel's LSP and of the one that is to take its place
abbrev pub IsWhole : ℕ × Tunnel → Type 0
IsWhole row = (length row.1.current.tspec ≡ 32) × IfSome row.1.pending (λ (lsp : TunnelLsp). length lsp.tspec ≡ 32)

never_pending : (d : Data) (row : ℕ × Tunnel) → SaysTunnel d row → row.1.pending ≡ None
never_pending d row says = ap (λ (t : Tunnel). t.pending) says.first

all_whole : (ds : List Data) (rows : List (ℕ × Tunnel)) → SaysEach SaysTunnel ds rows → AllByRecursion IsWhole rows
all_whole [] [] says = tt
all_whole [] (row ∷ rows) says = absurd says
all_whole (d ∷ ds) [] says = absurd says
all_whole (d ∷ ds) (row ∷ rows) says =
    ((tspec_fits key.Rate d row.1.current.tspec says.0.tspec, subst (λ o. IfSome o (λ (lsp : TunnelLsp). length lsp.tspec ≡ 32)) (sym (never_pending d row says.0)) tt), all_whole ds rows says.1)

all_at : {A : Type 0} (P : A → Type 0) (xs : List A) (i : ℕ) (x : A) → i < length xs → x ≡ get_or xs i x → AllByRecursion P xs → P x
all_at P [] i x within is h = absurd (omega (arith, within))
all_at P (y ∷ xs) zero x within is h = subst P (sym is) h.0
all_at P (y ∷ xs) (suc i) x within is h = all_at P xs i x (omega (arith, within)) is h.1

pub whole_at : (rows : List (ℕ × Tunnel)) (i : ℕ) (row : ℕ × Tunnel) → (ds : List Data) × SaysEach SaysTunnel ds rows → i < length rows → row ≡ get_or rows i row → IsWhole row
whole_at rows i row says within is = all_at IsWhole rows i row within is (all_whole says.0 rows says.1)

-- ---- capacities of bypasses

-- traffic that a value says is one
one_rate : (text : List ℕ) (a b : ℕ) → IsDefinedRateText text a → IsDefinedRateText text b → a ≡ b
one_rate text a b p q = sym p.0.value ∙ q.0.value

one_tspec : (d : Data) (a b : List ℕ) → SaysTspec d a → SaysTspec d b → a ≡ b
unfolding SaysRate
one_tspec d a b p q = p.2 ∙ ap tspec_with (same_text IsDefinedRateText one_rate d p.0 q.0 p.1 q.1) ∙ sym q.2

-- the capacity of a bypass is one
either_one : {A : Type 0} (Says : Data → A → Type 0) → ((d : Data) (a b : A) → Says d a → Says d b → a ≡ b) → (o : Option Data) (none a b : A) → MatchOption o (a ≡ none) (λ v. Says v a) → MatchOption o (b ≡ none) (λ v. Says v b) → a ≡ b
either_one Says unique None none a b p q = p ∙ sym q
either_one Says unique (Some d) none a b p q = unique d a b p q

one_capacity : (d : Data) (m n : ℕ) → HasCapacity d m → HasCapacity d n → m ≡ n
one_capacity d m n p q = either_one (SaysWhole 0 (2 ^ 50)) (same_whole 0 (2 ^ 50)) (get (key_name key.Capacity) d) 0 m n p q

-- a tunnel carries what its record has room for, and nothing else
room_said : (capacity : ℕ) (d : Data) (row : ℕ × Tunnel) → SaysTunnel d row → carries capacity row.1 ≡ true → HasRoom capacity d
room_said capacity d row says e =
    let tspec = row.1.current.tspec in
    let fits : capacity ≤ rate_asked tspec = leb-true capacity (rate_asked tspec) (and_parts (nat_le capacity (rate_asked tspec)) (option_map_or (λ (lsp : TunnelLsp). nat_le capacity (rate_asked lsp.tspec)) row.1.pending true) e).0 in
    some_weaker (get (key_name key.Rate) d) (λ v. SaysTspec v tspec) (λ v. (t : List ℕ) × SaysTspec v t × (capacity ≤ rate_asked t)) (λ v said. (tspec, said, fits)) says.tspec

room_fits : (capacity : ℕ) (o : Option Data) (tspec : List ℕ) → IsSomeAnd o (λ v. SaysTspec v tspec) → IsSomeAnd o (λ v. (t : List ℕ) × SaysTspec v t × (capacity ≤ rate_asked t)) → capacity ≤ rate_asked tspec
room_fits capacity None tspec says room = absurd says
room_fits capacity (Some v) tspec says room = subst (λ t. capacity ≤ rate_asked t) (one_tspec v room.0 tspec room.1 says) room.2

room_carried : (capacity : ℕ) (d : Data) (row : ℕ × Tunnel) → SaysTunnel d row → HasRoom capacity d → carries capacity row.1 ≡ true
room_carried capacity d row says room =
    let fits = room_fits capacity (get (key_name key.Rate) d) row.1.current.tspec says.tspec room in
    rw (never_pending d row says, le-leb capacity (rate_asked row.1.current.tspec) fits) refl

-- each of the tunnels with this number carries so much
abbrev pub CarryAll : ℕ → ℕ → List (ℕ × Tunnel) → Type 0
CarryAll n capacity rows = AllByRecursion (λ row. row.0 ≡ n → carries capacity row.1 ≡ true) rows

pub room_in_all : (n capacity : ℕ) (ds : List Data) (rows : List (ℕ × Tunnel)) → SaysEach SaysTunnel ds rows → HaveRoom n capacity ds → CarryAll n capacity rows
room_in_all n capacity [] [] says room = tt
room_in_all n capacity [] (row ∷ rows) says room = absurd says
room_in_all n capacity (d ∷ ds) [] says room = absurd says
room_in_all n capacity (d ∷ ds) (row ∷ rows) says room =
    ((λ is. room_carried capacity d row says.0 (room.0 (subst (HasNumber 0 key.Number d) is says.0.number))), room_in_all n capacity ds rows says.1 room.1)

all_in_room : (n capacity : ℕ) (ds : List Data) (rows : List (ℕ × Tunnel)) → SaysEach SaysTunnel ds rows → CarryAll n capacity rows → HaveRoom n capacity ds
all_in_room n capacity [] [] says carry = tt
all_in_room n capacity [] (row ∷ rows) says carry = absurd says
all_in_room n capacity (d ∷ ds) [] says carry = absurd says
all_in_room n capacity (d ∷ ds) (row ∷ rows) says carry =
    ((λ has. room_said capacity d row says.0 (carry.0 (one_number 0 key.Number d row.0 n says.0.number has))), all_in_room n capacity ds rows says.1 carry.1)

-- one tunnel more was looked at
pub carry_more : (n capacity : ℕ) (rows : List (ℕ × Tunnel)) (i : ℕ) (row : ℕ × Tunnel) → i < length rows → row ≡ get_or rows i row → CarryAll n capacity (take i rows) → (row.0 ≡ n → carries capacity row.1 ≡ true)
    → CarryAll n capacity (take (i + 1) rows)
carry_more n capacity rows i row within is so_far here =
    subst (CarryAll n capacity) (sym (take_more rows i row within))
    (all-append (λ (r : ℕ × Tunnel). r.0 ≡ n → carries capacity r.1 ≡ true) (take i rows) (get_or rows i row ∷ []) so_far (subst (λ (r : ℕ × Tunnel). r.0 ≡ n → carries capacity r.1 ≡ true) is here, tt))

-- all were looked at
pub capacity_fits : (n capacity : ℕ) (bypass : Data) (others : List Data) (rows : List (ℕ × Tunnel)) (i : ℕ) → HasNumber 0 key.Tunnel bypass n → HasCapacity bypass capacity → SaysEach SaysTunnel others rows
    → length rows ≤ i → CarryAll n capacity (take i rows) → Holds (carried others bypass)
unfolding Holds
capacity_fits n capacity bypass others rows i names has says whole carry =
    let all : CarryAll n capacity rows = subst (CarryAll n capacity) (take_all i rows whole) carry in
    λ m other names_m has_other. subst (λ k. HaveRoom k other others) (one_number 0 key.Tunnel bypass n m names names_m)
    (subst (λ c. HaveRoom n c others) (one_capacity bypass capacity other has has_other) (all_in_room n capacity others rows says all))

-- a tunnel with this number doesn't carry so much
pub capacity_exceeds : (n capacity : ℕ) (bypass : Data) (others : List Data) (rows : List (ℕ × Tunnel)) (i : ℕ) (row : ℕ × Tunnel) → HasNumber 0 key.Tunnel bypass n → HasCapacity bypass capacity → SaysEach SaysTunnel others rows
    → i < length rows → row ≡ get_or rows i row → row.0 ≡ n → carries capacity row.1 ≡ false → ¬ (Holds (carried others bypass))
unfolding Holds
capacity_exceeds n capacity bypass others rows i row names has says within is same exceeds holds =
    let all : CarryAll n capacity rows = room_in_all n capacity others rows says (holds n capacity names has) in
    false≢true (sym exceeds ∙ all_at (λ (r : ℕ × Tunnel). r.0 ≡ n → carries capacity r.1 ≡ true) rows i row within is all same)
