-- What the rows so far tell of the records that were read: which numbers, addresses and prefixes they have.
use Rattle.std.proofs.Common.{◌≡◌, ℕ, Bool, true, false, not, ◌&&◌, ◌||◌, ◌==◌, List, [], ◌∷◌, Option, Some, None, ◌↔◌, inl, inr, refl, sym, ap, subst, ◌∙◌, Decides}
use Rattle.std.proofs.lemmas.Bool.{false≢true, and_parts, eqb-true, eq-eqb}
use Rattle.std.proofs.lemmas.Slice.Eq.{bytes_eq-Decides}
use Rattle.std.specs.Prelude.{IsSomeAnd, IsTrue, bytes_eq}
use Rattle.std.specs.List.{AllByRecursion, list_any}
use Rattle.std.specs.Net.Addr.{ipv4_octets}
use Rattle.std.specs.Net.Grammar.{IsIpv4Text}
use Rattle.std.proofs.NetLemmas.Theorems.{IsIpv4Text_unique}
use Rattle.std.specs.declared.net.ipv4_addr.Ipv4Addr.{Ipv4Addr}
use Rattle.toml.specs.Data.{Data, as_str, get}
use Rattle.rsvp_bodies.specs.declared.prefix.Prefix.{Prefix}
use Rattle.lsr_facts.specs.Routers.{masked}
use Rattle.lsr_facts.specs.declared.bypass.Bypass.{Bypass}
use Rattle.lsr_facts.specs.declared.router.Link.{Link}
use Rattle.lsr_facts.specs.declared.tunnel.Tunnel.{Tunnel}
use Rattle.rsvp_bodies.specs.declared.step.Step.{Step}
use Rattle.rsvp_bodies.specs.declared.attr.Attr.{Attr}
use Rattle.rsvp_bodies.specs.RateWords.{tspec_with}
use Rattle.lsr_config.specs.Keys.{key_name}
use Rattle.rsvp_bodies.specs.RouteWords.{IsPrefixText}
use Rattle.lsr_config.specs.Values.{SaysText, SaysAddress, SaysEach, SaysWhole, SaysPrefix, SaysRate, SaysSteps, SaysTspec, IsMaskedPrefixText}
use Rattle.lsr_config.specs.Rules.{Has, HasAddress, HasNumber, HasPrefix, IsFree, SomeOf, Holds, new_number, new_prefix, known_number}
use Rattle.lsr_config.specs.Documents.{new_tunnel, SaysAttributes, SaysBypass, SaysLink, SaysRoute, SaysTunnel}
use Rattle.lsr_config.specs.declared.key.Key.{Key}
use Rattle.lsr_config.specs.declared.key.Key.TheVariants as key
use Rattle.lsr_config.proofs.Finding.{same_whole}
use Rattle.lsr_config.proofs.Judging.{says_weaker}

-- ---- a value says one thing

pub same_text : {A : Type 0} (Spells : List ℕ → A → Type 0) → ((text : List ℕ) (a b : A) → Spells text a → Spells text b → a ≡ b) → (d : Data) (a b : A) → SaysText Spells d a → SaysText Spells d b → a ≡ b
same_text Spells unique d a b p q =
    let first : as_str d ≡ Some p.0 = ap as_str p.1 in
    let second : as_str d ≡ Some q.0 = ap as_str q.1 in
    let same : q.0 ≡ p.0 = cc in
    unique p.0 a b p.2 (subst (λ t. Spells t b) same q.2)

same_address : (d : Data) (a b : Ipv4Addr) → SaysAddress d a → SaysAddress d b → a ≡ b
unfolding SaysAddress
same_address = same_text IsIpv4Text IsIpv4Text_unique

prefix_parts : (p q : Prefix) → p.address ≡ q.address → p.length ≡ q.length → p ≡ q
prefix_parts p q a l = λ i. record { address = a i; length = l i }

same_written : (text : List ℕ) (p q : Prefix) → IsPrefixText text p → IsPrefixText text q → p ≡ q
same_written text p q h k = prefix_parts p q (IsIpv4Text_unique _ p.address q.address h.0 k.0) (sym h.1.1 ∙ k.1.1)

same_prefix_text : (text : List ℕ) (p q : Prefix) → IsMaskedPrefixText text p → IsMaskedPrefixText text q → p ≡ q
same_prefix_text text p q h k =
    h.3 ∙ ap (λ (w : Prefix). record { address = masked w.address w.length; length = w.length }) (same_written text h.0 k.0 h.1 k.1) ∙ sym k.3

same_prefix : (d : Data) (p q : Prefix) → SaysPrefix d p → SaysPrefix d q → p ≡ q
unfolding SaysPrefix
same_prefix = same_text IsMaskedPrefixText same_prefix_text

has_one : {A : Type 0} (Says : Data → A → Type 0) → ((d : Data) (a b : A) → Says d a → Says d b → a ≡ b) → (o : Option Data) (a b : A) → IsSomeAnd o (λ v. Says v a) → IsSomeAnd o (λ v. Says v b) → a ≡ b
has_one Says unique None a b p q = absurd p
has_one Says unique (Some d) a b p q = unique d a b p q

pub one_number : (first : ℕ) (key : Key) (d : Data) (m n : ℕ) → HasNumber first key d m → HasNumber first key d n → m ≡ n
one_number first key d m n p q = has_one (SaysWhole first 65535) (same_whole first 65535) (get (key_name key) d) m n p q

pub one_address : (key : Key) (d : Data) (a b : Ipv4Addr) → HasAddress key d a → HasAddress key d b → a ≡ b
one_address key d a b p q = has_one SaysAddress same_address (get (key_name key) d) a b p q

pub one_prefix : (key : Key) (d : Data) (a b : Prefix) → HasPrefix key d a → HasPrefix key d b → a ≡ b
one_prefix key d a b p q = has_one SaysPrefix same_prefix (get (key_name key) d) a b p q

-- ---- rows beside the records that say them

pub some_not_none : {A : Type 0} (P : A → Type 0) (xs : List A) → SomeOf P xs → AllByRecursion (λ x. ¬ P x) xs → ⊥
some_not_none P [] h none = absurd h
some_not_none P (x ∷ xs) (inl h) none = none.0 h
some_not_none P (x ∷ xs) (inr h) none = some_not_none P xs h none.1

module _ {R X : Type 0} (Reads : Data → R → Type 0) (Tells : Data → X → Type 0) (part : R → X) (test : R → Bool) (x : X)
    (tells : (d : Data) (r : R) → Reads d r → Tells d (part r)) (one : (d : Data) (a b : X) → Tells d a → Tells d b → a ≡ b) (decides : (r : R) → Decides (test r) (part r ≡ x)) where
  told : (ds : List Data) (rows : List R) → SaysEach Reads ds rows → list_any test rows ≡ true → SomeOf (λ d. Tells d x) ds
  told [] [] h e = absurd (false≢true e)
  told [] (r ∷ rows) h e = absurd h
  told (d ∷ ds) [] h e = absurd h
  told (d ∷ ds) (r ∷ rows) h e =
      elim (test r) as (λ b. test r ≡ b → (b || list_any test rows) ≡ true → SomeOf (λ y. Tells y x) (d ∷ ds)) [
        | true ↦ λ t _. inl (subst (Tells d) ((decides r).0 t) (tells d r h.0))
        | false ↦ λ _ more. inr (told ds rows h.1 more)
      ] refl e

  untold : (ds : List Data) (rows : List R) → SaysEach Reads ds rows → list_any test rows ≡ false → AllByRecursion (λ d. ¬ (Tells d x)) ds
  untold [] [] h e = tt
  untold [] (r ∷ rows) h e = absurd h
  untold (d ∷ ds) [] h e = absurd h
  untold (d ∷ ds) (r ∷ rows) h e =
      elim (test r) as (λ b. test r ≡ b → (b || list_any test rows) ≡ false → AllByRecursion (λ y. ¬ (Tells y x)) (d ∷ ds)) [
        | true ↦ λ _ no. absurd (false≢true (sym no))
        | false ↦ λ t more. ((λ says. false≢true (sym t ∙ (decides r).1 (one d (part r) x (tells d r h.0) says))), untold ds rows h.1 more)
      ] refl e

pub address_tells : (a b : Ipv4Addr) → Decides (bytes_eq (ipv4_octets a) (ipv4_octets b)) (a ≡ b)
address_tells a b =
    let octets = bytes_eq-Decides (ipv4_octets a) (ipv4_octets b) in
    ((λ t. ap (λ (o : List ℕ). record { octets = o }) (octets.0 t)), (λ e. octets.1 (ap ipv4_octets e)))

prefix_tells : (a b : Prefix) → Decides (bytes_eq (ipv4_octets a.address) (ipv4_octets b.address) && (a.length == b.length)) (a ≡ b)
prefix_tells a b =
    let address = address_tells a.address b.address in (
      (λ t.
          let parts = and_parts (bytes_eq (ipv4_octets a.address) (ipv4_octets b.address)) (a.length == b.length) t in
          prefix_parts a b (address.0 parts.0) (eqb-true a.length b.length parts.1)),
      (λ e. rw (address.1 (ap (λ (p : Prefix). p.address) e)) (eq-eqb a.length b.length (ap (λ (p : Prefix). p.length) e))),
    )

pub some_weaker : (o : Option Data) (P Q : Data → Type 0) → ((v : Data) → P v → Q v) → IsSomeAnd o P → IsSomeAnd o Q
some_weaker None P Q from h = absurd h
some_weaker (Some v) P Q from h = from v h

-- ---- numbers

number_decides : {V : Type 0} (n : ℕ) (row : ℕ × V) → Decides (row.0 == n) (row.0 ≡ n)
number_decides n row = (eqb-true row.0 n, eq-eqb row.0 n)

-- the records have the numbers of the rows
abbrev pub AreNumbered : {V : Type 0} → ℕ → List Data → List (ℕ × V) → Type 0
AreNumbered {V} first ds rows = SaysEach (λ d (row : ℕ × V). HasNumber first key.Number d row.0) ds rows

pub number_told : {V : Type 0} (first n : ℕ) (ds : List Data) (rows : List (ℕ × V)) → AreNumbered first ds rows → list_any (λ row. row.0 == n) rows ≡ true → SomeOf (λ d. HasNumber first key.Number d n) ds
number_told {V} first n = told (λ d (row : ℕ × V). HasNumber first key.Number d row.0) (HasNumber first key.Number) (λ row. row.0) (λ row. row.0 == n) n (λ d row says. says) (one_number first key.Number) (number_decides n)

pub number_untold : {V : Type 0} (first n : ℕ) (ds : List Data) (rows : List (ℕ × V)) → AreNumbered first ds rows → list_any (λ row. row.0 == n) rows ≡ false → AllByRecursion (λ d. ¬ HasNumber first key.Number d n) ds
number_untold {V} first n = untold (λ d (row : ℕ × V). HasNumber first key.Number d row.0) (HasNumber first key.Number) (λ row. row.0) (λ row. row.0 == n) n (λ d row says. says) (one_number first key.Number) (number_decides n)

pub number_is_new : {V : Type 0} (first n : ℕ) (d : Data) (before : List Data) (rows : List (ℕ × V)) → HasNumber first key.Number d n → AreNumbered first before rows → list_any (λ row. row.0 == n) rows ≡ false → Holds (new_number first before d)
unfolding Holds
number_is_new first n d before rows has says e =
    λ m other. subst (λ k. AllByRecursion (λ x. ¬ HasNumber first key.Number x k) before) (one_number first key.Number d n m has other) (number_untold first n before rows says e)

pub number_is_repeated : {V : Type 0} (first n : ℕ) (d : Data) (before : List Data) (rows : List (ℕ × V)) → HasNumber first key.Number d n → AreNumbered first before rows → list_any (λ row. row.0 == n) rows ≡ true → ¬ (Holds (new_number first before d))
unfolding Holds
number_is_repeated first n d before rows has says e holds = some_not_none (λ x. HasNumber first key.Number x n) before (number_told first n before rows says e) (holds n has)

pub number_is_known : {V : Type 0} (first n : ℕ) (under : Key) (d : Data) (others : List Data) (rows : List (ℕ × V)) → HasNumber first under d n → AreNumbered first others rows → list_any (λ row. row.0 == n) rows ≡ true → Holds (known_number first under others d)
unfolding Holds
number_is_known first n under d others rows has says e =
    λ m other. subst (λ k. SomeOf (λ x. HasNumber first key.Number x k) others) (one_number first under d n m has other) (number_told first n others rows says e)

pub number_is_unknown : {V : Type 0} (first n : ℕ) (under : Key) (d : Data) (others : List Data) (rows : List (ℕ × V)) → HasNumber first under d n → AreNumbered first others rows → list_any (λ row. row.0 == n) rows ≡ false → ¬ (Holds (known_number first under others d))
unfolding Holds
number_is_unknown first n under d others rows has says e holds = some_not_none (λ x. HasNumber first key.Number x n) others (holds n has) (number_untold first n others rows says e)

-- a number that one of the records has is one of their rows'
pub row_of_number : {V : Type 0} (first n : ℕ) (ds : List Data) (rows : List (ℕ × V)) → AreNumbered first ds rows → SomeOf (λ d. HasNumber first key.Number d n) ds → SomeOf (λ row. row.0 ≡ n) rows
row_of_number first n [] rows says h = absurd h
row_of_number first n (d ∷ ds) [] says h = absurd says
row_of_number first n (d ∷ ds) (row ∷ rows) says (inl h) = inl (one_number first key.Number d row.0 n says.0 h)
row_of_number first n (d ∷ ds) (row ∷ rows) says (inr h) = inr (row_of_number first n ds rows says.1 h)

pub links_numbered : (links : List Data) (rows : List (ℕ × Link)) → SaysEach SaysLink links rows → AreNumbered 1 links rows
links_numbered = says_weaker SaysLink (λ d row. HasNumber 1 key.Number d row.0) (λ d row says. says.number)

pub tunnels_numbered : (tunnels : List Data) (rows : List (ℕ × Tunnel)) → SaysEach SaysTunnel tunnels rows → AreNumbered 0 tunnels rows
tunnels_numbered = says_weaker SaysTunnel (λ d row. HasNumber 0 key.Number d row.0) (λ d row says. says.number)

pub bypasses_numbered : (bypasses : List Data) (rows : List (ℕ × Bypass)) → SaysEach SaysBypass bypasses rows → AreNumbered 0 bypasses rows
bypasses_numbered = says_weaker SaysBypass (λ d row. HasNumber 0 key.Number d row.0) (λ d row says. says.number)

-- ---- tunnels

-- a record says the tunnel that is made of what it says
pub new_said : (d : Data) (n : ℕ) (endpoint : Ipv4Addr) (attr : Attr) (route : List Step) (rate : ℕ) (tunnel : Tunnel) → HasNumber 0 key.Number d n → HasAddress key.Endpoint d endpoint → SaysAttributes d attr
    → Has key.Route d (λ v. SaysSteps v route) → Has key.Rate d (λ v. SaysRate v rate) → tunnel ≡ new_tunnel endpoint attr route (tspec_with rate) → SaysTunnel d (n, tunnel)
new_said d n endpoint attr route rate tunnel has ends asks leads carries is =
    subst (λ t. SaysTunnel d (n, t)) (sym is)
    (record {
      number = has;
      endpoint = ends;
      route = leads;
      tspec = some_weaker (get (key_name key.Rate) d) (λ v. SaysRate v rate) (λ v. SaysTspec v (tspec_with rate)) (λ v says. (rate, says, refl)) carries;
      attr = asks;
      first = refl;
    })

-- ---- addresses of the router and of its links

abbrev pub is_linked : Ipv4Addr → ℕ × Link → Bool
is_linked a row = bytes_eq (ipv4_octets row.1.address) (ipv4_octets a)

pub address_is_free : (a router : Ipv4Addr) (document : Data) (links : List Data) (rows : List (ℕ × Link)) → HasAddress key.Router document router → SaysEach SaysLink links rows
    → bytes_eq (ipv4_octets a) (ipv4_octets router) ≡ false → list_any (is_linked a) rows ≡ false → IsFree document links a
address_is_free a router document links rows its says apart e = (
  (λ taken. false≢true (sym apart ∙ (address_tells a router).1 (one_address key.Router document a router taken its))),
  untold SaysLink (HasAddress key.Address) (λ row. row.1.address) (is_linked a) a (λ d row h. h.address) (one_address key.Address) (λ row. address_tells row.1.address a) links rows says e,
)

pub address_is_routers : (a router : Ipv4Addr) (document : Data) (links : List Data) → HasAddress key.Router document router → bytes_eq (ipv4_octets a) (ipv4_octets router) ≡ true → ¬ (IsFree document links a)
address_is_routers a router document links its same free = free.0 (subst (HasAddress key.Router document) (sym ((address_tells a router).0 same)) its)

pub address_is_links : (a : Ipv4Addr) (document : Data) (links : List Data) (rows : List (ℕ × Link)) → SaysEach SaysLink links rows → list_any (is_linked a) rows ≡ true → ¬ (IsFree document links a)
address_is_links a document links rows says e free =
    some_not_none (λ d. HasAddress key.Address d a) links
    (told SaysLink (HasAddress key.Address) (λ row. row.1.address) (is_linked a) a (λ d row h. h.address) (one_address key.Address) (λ row. address_tells row.1.address a) links rows says e)
    free.1

pub free_tells : (a router : Ipv4Addr) (document : Data) (links : List Data) (rows : List (ℕ × Link)) → HasAddress key.Router document router → SaysEach SaysLink links rows
    → bytes_eq (ipv4_octets a) (ipv4_octets router) ≡ false → IsTrue (not (list_any (is_linked a) rows)) ↔ IsFree document links a
free_tells a router document links rows its says apart =
    elim (list_any (is_linked a) rows) as (λ b. list_any (is_linked a) rows ≡ b → IsTrue (not b) ↔ IsFree document links a) [
      | true ↦ λ e. ((λ no. absurd (false≢true no)), (λ free. absurd (address_is_links a document links rows says e free)))
      | false ↦ λ e. ((λ _. address_is_free a router document links rows its says apart e), (λ _. refl))
    ] refl

-- what is free under one address that a key has is so under each
pub free_under : (key : Key) (a : Ipv4Addr) (document d : Data) (links : List Data) → HasAddress key d a → IsFree document links a → (b : Ipv4Addr) → HasAddress key d b → IsFree document links b
free_under key a document d links has free b other = subst (IsFree document links) (one_address key d a b has other) free

-- ---- prefixes of routes

abbrev pub is_prefix : Prefix → Prefix × ℕ → Bool
is_prefix p row = bytes_eq (ipv4_octets row.0.address) (ipv4_octets p.address) && (row.0.length == p.length)

pub prefix_is_new : (p : Prefix) (route : Data) (before : List Data) (rows : List (Prefix × ℕ)) → HasPrefix key.Prefix route p → SaysEach SaysRoute before rows → list_any (is_prefix p) rows ≡ false → Holds (new_prefix before route)
unfolding Holds
prefix_is_new p route before rows has says e =
    λ q other. subst (λ x. AllByRecursion (λ d. ¬ HasPrefix key.Prefix d x) before) (one_prefix key.Prefix route p q has other)
    (untold SaysRoute (HasPrefix key.Prefix) (λ row. row.0) (is_prefix p) p (λ d row h. h.prefix) (one_prefix key.Prefix) (λ row. prefix_tells row.0 p) before rows says e)

pub prefix_is_repeated : (p : Prefix) (route : Data) (before : List Data) (rows : List (Prefix × ℕ)) → HasPrefix key.Prefix route p → SaysEach SaysRoute before rows → list_any (is_prefix p) rows ≡ true → ¬ (Holds (new_prefix before route))
unfolding Holds
prefix_is_repeated p route before rows has says e holds =
    some_not_none (λ d. HasPrefix key.Prefix d p) before
    (told SaysRoute (HasPrefix key.Prefix) (λ row. row.0) (is_prefix p) p (λ d row h. h.prefix) (one_prefix key.Prefix) (λ row. prefix_tells row.0 p) before rows says e)
    (holds p has)
