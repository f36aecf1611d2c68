-- What is written is read again as the same value, object by object.
use Rattle.std.proofs.Common.{◌≡◌, ◌<◌, ◌^◌, ℕ, List, [], ◌∷◌, ◌++◌, length, ap, arith}
use Rattle.std.specs.Net.Addr.{ipv4_octets}
use Rattle.std.specs.declared.net.Ipv4Addr.{Ipv4Addr}
use Rattle.byteorder.specs.Endian.{big_number, big_bytes}
use Rattle.byteorder.specs.Numbers.{big_number-reads_back}
use Rattle.rsvp_objects.specs.declared.values.Session.{Session}
use Rattle.rsvp_objects.specs.declared.values.Hop.{Hop}
use Rattle.rsvp_objects.specs.declared.values.ErrorSpec.{ErrorSpec}
use Rattle.rsvp_objects.specs.declared.values.Template.{Template}
use Rattle.rsvp_objects.specs.declared.values.FastReroute.{FastReroute}
use Rattle.rsvp_objects.specs.Ranges.{IsAddress, IsSession, IsHop, IsErrorSpec, IsTemplate, IsFastReroute}
use Rattle.rsvp_objects.specs.Values.{session_at, session_body, hop_at, hop_body, error_spec_at, error_spec_body, template_at, template_body, fast_reroute_at, fast_reroute_body}

-- the address a.b.c.d
abbrev dotted : ℕ → ℕ → ℕ → ℕ → Ipv4Addr
dotted a b c d = record { octets = a ∷ b ∷ c ∷ d ∷ [] }

-- what holds of each dotted address holds of each address
by_octets : (P : Ipv4Addr → Type 0) → ((a b c d : ℕ) → P (dotted a b c d)) → (octets : List ℕ) → length octets ≡ 4 → P (record { octets = octets })
by_octets P each [] h = absurd (omega arith)
by_octets P each (a ∷ []) h = absurd (omega arith)
by_octets P each (a ∷ b ∷ []) h = absurd (omega arith)
by_octets P each (a ∷ b ∷ c ∷ []) h = absurd (omega arith)
by_octets P each (a ∷ b ∷ c ∷ d ∷ []) h = each a b c d
by_octets P each (a ∷ b ∷ c ∷ d ∷ e ∷ more) h = absurd (omega arith)

by_address : (P : Ipv4Addr → Type 0) → ((a b c d : ℕ) → P (dotted a b c d)) → (address : Ipv4Addr) → IsAddress address → P address
by_address P each address h = by_octets P each (ipv4_octets address) h

session_dotted : (a b c d e f g h tunnel : ℕ) → tunnel < 2 ^ 16 →
    let s : Session = record { endpoint = dotted a b c d; tunnel = tunnel; extended = dotted e f g h } in session_at (session_body s) ≡ s
session_dotted a b c d e f g h tunnel fits =
    ap (λ (n : ℕ). record { endpoint = dotted a b c d; tunnel = n; extended = dotted e f g h })
    (big_number-reads_back 2 tunnel (e ∷ f ∷ g ∷ h ∷ []) fits)

pub session_again : (s : Session) → IsSession s → session_at (session_body s) ≡ s
session_again s h =
    by_address (λ (endpoint : Ipv4Addr). session_at (session_body (record { endpoint = endpoint; tunnel = s.tunnel; extended = s.extended })) ≡ record { endpoint = endpoint; tunnel = s.tunnel; extended = s.extended })
    (λ a b c d. by_address (λ (extended : Ipv4Addr). session_at (session_body (record { endpoint = dotted a b c d; tunnel = s.tunnel; extended = extended })) ≡ record { endpoint = dotted a b c d; tunnel = s.tunnel; extended = extended })
    (λ e f g i. session_dotted a b c d e f g i s.tunnel h.tunnel) s.extended h.extended)
    s.endpoint h.endpoint

pub hop_again : (x : Hop) → IsHop x → hop_at (hop_body x) ≡ x
hop_again x h =
    by_address (λ (address : Ipv4Addr). hop_at (hop_body (record { address = address; interface = x.interface })) ≡ record { address = address; interface = x.interface })
    (λ a b c d. ap (λ (n : ℕ). record { address = dotted a b c d; interface = n }) (big_number-reads_back 4 x.interface [] h.interface))
    x.address h.address

pub error_spec_again : (x : ErrorSpec) → IsErrorSpec x → error_spec_at (error_spec_body x) ≡ x
error_spec_again x h =
    by_address (λ (node : Ipv4Addr). error_spec_at (error_spec_body (record { node = node; flags = x.flags; code = x.code; value = x.value })) ≡ record { node = node; flags = x.flags; code = x.code; value = x.value })
    (λ a b c d. ap (λ (n : ℕ). record { node = dotted a b c d; flags = x.flags; code = x.code; value = n }) (big_number-reads_back 2 x.value [] h.value))
    x.node h.node

pub template_again : (x : Template) → IsTemplate x → template_at (template_body x) ≡ x
template_again x h =
    by_address (λ (sender : Ipv4Addr). template_at (template_body (record { sender = sender; lsp = x.lsp })) ≡ record { sender = sender; lsp = x.lsp })
    (λ a b c d. ap (λ (n : ℕ). record { sender = dotted a b c d; lsp = n }) (big_number-reads_back 2 x.lsp [] h.lsp))
    x.sender h.sender

-- a word is read as the number that it was written for, whatever stands behind it
pub word_again : (n : ℕ) (rest : List ℕ) → n < 2 ^ 32 → big_number 4 (big_bytes 4 n ++ rest) ≡ n
word_again n rest fits = big_number-reads_back 4 n rest fits

-- a function of four numbers at equal numbers
four_words : {X : Type 0} (f : ℕ → ℕ → ℕ → ℕ → X) {a a' b b' c c' d d' : ℕ} → a ≡ a' → b ≡ b' → c ≡ c' → d ≡ d' → f a b c d ≡ f a' b' c' d'
four_words f p q r s = cc

pub fast_reroute_again : (x : FastReroute) → IsFastReroute x → fast_reroute_at (fast_reroute_body x) ≡ x
fast_reroute_again x h =
    let exclude = word_again x.affinities.exclude_any (big_bytes 4 x.affinities.include_all) h.affinities.exclude_any in
    let include = word_again x.affinities.include_any (big_bytes 4 x.affinities.exclude_any ++ big_bytes 4 x.affinities.include_all) h.affinities.include_any in
    let all = word_again x.affinities.include_all [] h.affinities.include_all in
    let rate = word_again x.bandwidth (big_bytes 4 x.affinities.include_any ++ (big_bytes 4 x.affinities.exclude_any ++ big_bytes 4 x.affinities.include_all)) h.bandwidth in
    let with_words : ℕ → ℕ → ℕ → ℕ → FastReroute = λ b e i a. record { setup = x.setup; hold = x.hold; hop_limit = x.hop_limit; flags = x.flags; bandwidth = b; affinities = record { exclude_any = e; include_any = i; include_all = a } } in
    four_words with_words rate exclude include all
