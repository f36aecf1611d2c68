-- A text says one configuration.
use Rattle.std.proofs.Common.{◌≡◌, ◌^◌, ◌++◌, ◌∷◌, ◌<◌, ◌∙◌, ℕ, suc, zero, Bool, true, false, List, [], length, get_or, drop, take, codes, append_assoc, Option, Some, None, Ok, refl, sym, ap, subst, arith}
use Rattle.std.specs.Prelude.{IsSomeAnd, MatchOption, pos}
use Rattle.std.specs.Fmt.{decimal}
use Rattle.std.specs.List.{before_first, position_or_len}
use Rattle.std.specs.Net.Grammar.{IsIpv4Text}
use Rattle.std.specs.Ordering.{nat_cmp}
use Rattle.std.specs.Option.{unwrap_or}
use Rattle.std.specs.Str.Parse.{AllDigits, digits_value}
use Rattle.std.specs.declared.cmp.Ordering.{Ordering}
use Rattle.std.specs.declared.net.ipv4_addr.Ipv4Addr.{Ipv4Addr}
use Rattle.std.proofs.NetLemmas.Theorems.{IsIpv4Text_unique}
use Rattle.std.proofs.lemmas.Fmt.{decimal_nonempty, digits_decimal}
use Rattle.std.proofs.lemmas.Str.Parse.{IsNumeralModel, not_in_digits, numerals_by_value, tells_digits}
use Rattle.toml.specs.Data.{Data, string, integer, boolean, table, Members, get}
use Rattle.toml.specs.Parse.{parse_document}
use Rattle.rsvp_bodies.specs.RateWords.{tspec_with}
use Rattle.rsvp_bodies.specs.RouteWords.{is_slash, IsPrefixText, IsStepText}
use Rattle.rsvp_bodies.specs.declared.prefix.Prefix.{Prefix}
use Rattle.rsvp_bodies.specs.declared.step.Step.{Step}
use Rattle.rsvp_bodies.specs.declared.step.Step.TheVariants.{Ipv4, Other}
use Rattle.lsr_facts.specs.Orders.{prefix_cmp}
use Rattle.lsr_facts.specs.Routers.{masked}
use Rattle.lsr_config.specs.Configs.{Setup}
use Rattle.lsr_config.specs.Documents.{Says, SaysAttributes, SaysBypass, SaysLink, SaysRoute, SaysTable, SaysTunnel, array_elements, in_order, new_tunnel, records}
use Rattle.lsr_config.specs.Keys.{key_name}
use Rattle.lsr_config.specs.Reading.{IsRead}
use Rattle.lsr_config.specs.Values.{IsDefinedRateText, IsMaskedPrefixText, IsNameText, IsShortStepText, SaysAddress, SaysEach, SaysFlag, SaysLabels, SaysName, SaysPrefix, SaysRate, SaysStep, SaysSteps, SaysText, SaysTspec, SaysWhole, elements}
use Rattle.lsr_config.specs.declared.key.Key.{Key}
use Rattle.lsr_config.specs.declared.key.Key.TheVariants as key

-- ---- of any kind of values

-- a value says one thing
abbrev IsOneSaid : {A : Type 0} → (Data → A → Type 0) → Type 0
IsOneSaid {A} Says = (d : Data) (a b : A) → Says d a → Says d b → a ≡ b

module _ {A : Type 0} (Says : Data → A → Type 0) (one : IsOneSaid Says) where
  -- the value of a key
  one_has : (found : Option Data) (a b : A) → IsSomeAnd found (λ v. Says v a) → IsSomeAnd found (λ v. Says v b) → a ≡ b
  one_has None a b p q = absurd p
  one_has (Some d) a b p q = one d a b p q

  -- or what holds where there is none
  one_has_or : (default : A) (found : Option Data) (a b : A) → MatchOption found (a ≡ default) (λ v. Says v a) → MatchOption found (b ≡ default) (λ v. Says v b) → a ≡ b
  one_has_or default None a b p q = p ∙ sym q
  one_has_or default (Some d) a b p q = one d a b p q

  -- values, one after the other
  one_each : (ds : List Data) (xs ys : List A) → SaysEach Says ds xs → SaysEach Says ds ys → xs ≡ ys
  one_each [] [] [] p q = refl
  one_each [] [] (y ∷ ys) p q = absurd q
  one_each [] (x ∷ xs) ys p q = absurd p
  one_each (d ∷ ds) [] ys p q = absurd p
  one_each (d ∷ ds) (x ∷ xs) [] p q = absurd q
  one_each (d ∷ ds) (x ∷ xs) (y ∷ ys) p q = λ i. one d x y p.0 q.0 i ∷ one_each ds xs ys p.1 q.1 i

-- rows in the order of their keys
one_table : {K V : Type 0} (cmp : K → K → Ordering) (Says : Data → K × V → Type 0) → IsOneSaid Says → (ds : List Data) (a b : List (K × V)) → SaysTable cmp Says ds a → SaysTable cmp Says ds b → a ≡ b
one_table cmp Says one ds a b p q = p.2 ∙ (ap (in_order cmp) (one_each Says one ds p.0 q.0 p.1 q.1) ∙ sym q.2)

abbrev text_in : Data → List ℕ
text_in (string text) = text
text_in _ = []

-- a text, where it spells one thing
one_text : {A : Type 0} (Spells : List ℕ → A → Type 0) → ((text : List ℕ) (a b : A) → Spells text a → Spells text b → a ≡ b) → IsOneSaid (SaysText Spells)
one_text {A} Spells one d a b p q = let P : List ℕ → Type 0 = λ text. Spells text a in one q.0 a b (subst P (ap text_in (sym p.1 ∙ q.1)) p.2) q.2

-- ---- of each kind

one_address : IsOneSaid SaysAddress
unfolding SaysAddress
one_address = one_text IsIpv4Text IsIpv4Text_unique

abbrev number_in : Data → ℕ
number_in (integer (pos n)) = n
number_in _ = 0

one_whole : (least most : ℕ) → IsOneSaid (SaysWhole least most)
unfolding SaysWhole
one_whole least most d a b p q = ap number_in (sym p.0 ∙ q.0)

abbrev flag_in : Data → Bool
flag_in (boolean b) = b
flag_in _ = false

one_flag : IsOneSaid SaysFlag
unfolding SaysFlag
one_flag d a b p q = ap flag_in (sym p ∙ q)

-- the elements of an array
abbrev elements_in : Data → List Data
elements_in d = array_elements (Some d)

one_labels : IsOneSaid SaysLabels
unfolding SaysLabels
one_labels d a b p q =
    let same : p.0 ∷ p.1 ∷ [] ≡ q.0 ∷ q.1 ∷ [] = ap elements_in (sym p.2 ∙ q.2) in
    let P : Data → Type 0 = λ v. SaysWhole 16 1048575 v a.first in
    let Q : Data → Type 0 = λ v. SaysWhole 16 1048575 v a.last in
    let first = one_whole 16 1048575 q.0 a.first b.first (subst P (ap (λ (ds : List Data). get_or ds 0 d) same) p.3) q.3 in
    let last = one_whole 16 1048575 q.1 a.last b.last (subst Q (ap (λ (ds : List Data). get_or ds 1 d) same) p.4) q.4 in
    λ i. record { first = first i; last = last i }

one_prefix_text : (text : List ℕ) (a b : Prefix) → IsPrefixText text a → IsPrefixText text b → a ≡ b
one_prefix_text text a b p q =
    let address = IsIpv4Text_unique (before_first is_slash text) a.address b.address p.0 q.0 in
    let bits = sym p.1.1 ∙ q.1.1 in
    λ i. record { address = address i; length = bits i }

-- a prefix without the bits past its length
abbrev in_bits : Prefix → Prefix
in_bits p = record { address = masked p.address p.length; length = p.length }

one_prefix : IsOneSaid SaysPrefix
unfolding SaysPrefix
one_prefix = one_text IsMaskedPrefixText (λ text a b p q. p.3 ∙ (ap in_bits (one_prefix_text text p.0 q.0 p.1 q.1) ∙ sym q.3))

-- ---- steps: no strict one begins with a tilde

own : IsNumeralModel (AllDigits 10) (digits_value 10)
own = numerals_by_value _ tells_digits

first_of : (xs ys text : List ℕ) → text ≡ xs ++ ys → 0 < length xs → get_or text 0 0 ≡ get_or xs 0 0
first_of [] ys text e some = absurd (omega (arith, some))
first_of (x ∷ xs) ys text e some = ap (λ (t : List ℕ). get_or t 0 0) e

no_tilde : (text : List ℕ) (address : Ipv4Addr) → get_or text 0 0 ≡ 126 → IsIpv4Text text address → ⊥
no_tilde text address tilde h =
    let fits : h.a < 2 ^ 64 = omega (arith, h.fit.0) in
    let some = decimal_nonempty h.a fits in
    let first = first_of (decimal h.a) (codes "." ++ (decimal h.b ++ (codes "." ++ (decimal h.c ++ (codes "." ++ decimal h.d))))) text (simp append_assoc at h.spelled) some in
    not_in_digits own (decimal h.a) 126 (digits_decimal own h.a fits) (λ r. omega (arith, r)) 0 some (sym first ∙ tilde)

first_taken : (n x : ℕ) (xs : List ℕ) → 0 < n → get_or (take n (x ∷ xs)) 0 0 ≡ x
first_taken zero x xs some = absurd (omega (arith, some))
first_taken (suc n) x xs some = refl

tilde_kept : (rest : List ℕ) → get_or (before_first is_slash (126 ∷ rest)) 0 0 ≡ 126
tilde_kept rest = first_taken (position_or_len is_slash (126 ∷ rest)) 126 rest (omega arith)

not_both : (text loose strict : List ℕ) (prefix : Prefix) → text ≡ 126 ∷ loose → text ≡ strict → IsPrefixText strict prefix → ⊥
not_both text loose strict prefix tilde same is =
    let P : List ℕ → Type 0 = λ t. IsIpv4Text (before_first is_slash t) prefix.address in
    no_tilde (before_first is_slash (126 ∷ loose)) prefix.address (tilde_kept loose) (subst P (sym same ∙ tilde) is.0)

same_prefix : (s t : List ℕ) (a b : Prefix) → s ≡ t → IsPrefixText s a → IsPrefixText t b → a ≡ b
same_prefix s t a b same p q = let P : List ℕ → Type 0 = λ w. IsPrefixText w a in one_prefix_text t a b (subst P same p) q

one_step_text : (text : List ℕ) (a b : Step) → IsStepText text a → IsStepText text b → a ≡ b
one_step_text text (Ipv4 true a) (Ipv4 true b) p q = ap (Ipv4 true) (same_prefix p.0 q.0 a b (ap (drop 1) (sym p.1 ∙ q.1)) p.2 q.2)
one_step_text text (Ipv4 false a) (Ipv4 false b) p q = ap (Ipv4 false) (same_prefix p.0 q.0 a b (sym p.1 ∙ q.1) p.2 q.2)
one_step_text text (Ipv4 true a) (Ipv4 false b) p q = absurd (not_both text p.0 q.0 b p.1 q.1 q.2)
one_step_text text (Ipv4 false a) (Ipv4 true b) p q = absurd (not_both text q.0 p.0 a q.1 p.1 p.2)
one_step_text text (Other bytes) b p q = absurd p
one_step_text text (Ipv4 loose a) (Other bytes) p q = absurd q

one_step : IsOneSaid SaysStep
unfolding SaysStep
one_step = one_text IsShortStepText (λ text a b p q. one_step_text text a b p.0 q.0)

one_steps : IsOneSaid SaysSteps
unfolding SaysSteps
one_steps d a b p q =
    let P : List Data → Type 0 = λ ds. SaysEach SaysStep ds a in
    one_each SaysStep one_step (elements q.0) a b (subst P (ap elements_in (sym p.1 ∙ q.1)) p.2) q.2

one_rate : IsOneSaid SaysRate
unfolding SaysRate
one_rate = one_text IsDefinedRateText (λ text a b p q. sym p.0.value ∙ q.0.value)

one_tspec : IsOneSaid SaysTspec
one_tspec d a b p q = p.2 ∙ (ap tspec_with (one_rate d p.0 q.0 p.1 q.1) ∙ sym q.2)

one_name : IsOneSaid SaysName
unfolding SaysName
one_name = one_text IsNameText (λ text a b p q. sym p.0 ∙ q.0)

-- ---- of records

one_number : (first : ℕ) (under : Key) (d : Data) (a b : ℕ) → IsSomeAnd (get (key_name under) d) (λ v. SaysWhole first 65535 v a) → IsSomeAnd (get (key_name under) d) (λ v. SaysWhole first 65535 v b) → a ≡ b
one_number first under d a b p q = one_has (SaysWhole first 65535) (one_whole first 65535) (get (key_name under) d) a b p q

one_address_of : (under : Key) (d : Data) (a b : Ipv4Addr) → IsSomeAnd (get (key_name under) d) (λ v. SaysAddress v a) → IsSomeAnd (get (key_name under) d) (λ v. SaysAddress v b) → a ≡ b
one_address_of under d a b p q = one_has SaysAddress one_address (get (key_name under) d) a b p q

one_link : IsOneSaid SaysLink
one_link d a b p q =
    let number = one_number 1 key.Number d a.0 b.0 p.number q.number in
    let address = one_address_of key.Address d a.1.address b.1.address p.address q.address in
    let peer = one_address_of key.Peer d a.1.peer b.1.peer p.peer q.peer in
    let peer_router = one_address_of key.PeerRouter d a.1.peer_router b.1.peer_router p.peer_router q.peer_router in
    let limit = one_has (SaysWhole 0 (2 ^ 50)) (one_whole 0 (2 ^ 50)) (get (key_name key.Limit) d) a.1.limit b.1.limit p.limit q.limit in
    let up = one_has_or SaysFlag one_flag true (get (key_name key.Up) d) a.1.up b.1.up p.up q.up in
    λ i. (number i, record { address = address i; peer = peer i; peer_router = peer_router i; limit = limit i; up = up i })

one_route : IsOneSaid SaysRoute
one_route d a b p q =
    let prefix = one_has SaysPrefix one_prefix (get (key_name key.Prefix) d) a.0 b.0 p.prefix q.prefix in
    let link = one_number 1 key.Link d a.1 b.1 p.link q.link in
    λ i. (prefix i, link i)

one_attributes : IsOneSaid SaysAttributes
one_attributes d a b p q =
    let affinities = p.affinities ∙ sym q.affinities in
    let setup = one_has (SaysWhole 0 7) (one_whole 0 7) (get (key_name key.Setup) d) a.setup b.setup p.setup q.setup in
    let hold = one_has (SaysWhole 0 7) (one_whole 0 7) (get (key_name key.Hold) d) a.hold b.hold p.hold q.hold in
    let flags = one_has (SaysWhole 0 255) (one_whole 0 255) (get (key_name key.Flags) d) a.flags b.flags p.flags q.flags in
    let name = one_has SaysName one_name (get (key_name key.Name) d) a.name b.name p.name q.name in
    λ i. record { affinities = affinities i; setup = setup i; hold = hold i; flags = flags i; name = name i }

one_tunnel : IsOneSaid SaysTunnel
one_tunnel d a b p q =
    let number = one_number 0 key.Number d a.0 b.0 p.number q.number in
    let endpoint = one_address_of key.Endpoint d a.1.endpoint b.1.endpoint p.endpoint q.endpoint in
    let route = one_has SaysSteps one_steps (get (key_name key.Route) d) a.1.current.route b.1.current.route p.route q.route in
    let tspec = one_has SaysTspec one_tspec (get (key_name key.Rate) d) a.1.current.tspec b.1.current.tspec p.tspec q.tspec in
    let attr = one_attributes d a.1.attr b.1.attr p.attr q.attr in
    let tunnel : a.1 ≡ b.1 = p.first ∙ ((λ i. new_tunnel (endpoint i) (attr i) (route i) (tspec i)) ∙ sym q.first) in
    λ i. (number i, tunnel i)

one_bypass : IsOneSaid SaysBypass
one_bypass d a b p q =
    let number = one_number 0 key.Number d a.0 b.0 p.number q.number in
    let tunnel = one_number 0 key.Tunnel d a.1.tunnel b.1.tunnel p.tunnel q.tunnel in
    let link = one_number 1 key.Link d a.1.link b.1.link p.link q.link in
    let capacity = one_has_or (SaysWhole 0 (2 ^ 50)) (one_whole 0 (2 ^ 50)) 0 (get (key_name key.Capacity) d) a.1.capacity b.1.capacity p.capacity q.capacity in
    λ i. (number i, record { tunnel = tunnel i; link = link i; capacity = capacity i })

-- ---- of documents

one_router : (document : Data) (a b : Setup) → Says document a → Says document b → a.router ≡ b.router
one_router document a b p q =
    let id = one_address_of key.Router document a.router.id b.router.id p.id q.id in
    let refresh = one_has_or (SaysWhole 1 4294967295) (one_whole 1 4294967295) 30000 (get (key_name key.RefreshMs) document) a.router.refresh_ms b.router.refresh_ms p.refresh_ms q.refresh_ms in
    let labels = one_has SaysLabels one_labels (get (key_name key.Labels) document) a.router.labels b.router.labels p.labels q.labels in
    let rest = one_has_or (SaysWhole 0 4294967295) (one_whole 0 4294967295) 0 (get (key_name key.LabelRestMs) document) a.router.label_rest_ms b.router.label_rest_ms p.label_rest q.label_rest in
    let links = one_table nat_cmp SaysLink one_link (records key.Link document) a.router.links b.router.links p.links q.links in
    λ i. record { id = id i; refresh_ms = refresh i; labels = labels i; label_rest_ms = rest i; links = links i }

says_one : IsOneSaid Says
says_one document a b p q =
    let router = one_router document a b p q in
    let routes = one_table prefix_cmp SaysRoute one_route (records key.Route document) a.routes b.routes p.routes q.routes in
    let tunnels = one_table nat_cmp SaysTunnel one_tunnel (records key.Tunnel document) a.tunnels b.tunnels p.tunnels q.tunnels in
    let bypasses = one_table nat_cmp SaysBypass one_bypass (records key.Bypass document) a.bypasses b.bypasses p.bypasses q.bypasses in
    λ i. record { router = router i; routes = routes i; tunnels = tunnels i; bypasses = bypasses i }

pub same_members : (text : List ℕ) (a b : Members) → parse_document text ≡ Some a → parse_document text ≡ Some b → a ≡ b
same_members text a b p q = ap (λ (v : Option Members). unwrap_or v a) (sym p ∙ q)

-- a text says one configuration
pub one_config : (text : List ℕ) (c d : Setup) → IsRead text (Ok c) → IsRead text (Ok d) → c ≡ d
one_config text c d p q =
    let P : Members → Type 0 = λ m. Says (table m) c in
    says_one (table q.0) c d (subst P (same_members text p.0 q.0 p.1 q.1) p.2.1) q.2.1
