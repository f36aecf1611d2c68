-- The rules that a document has to keep to be a configuration, and the fault of each.
use Rattle.std.specs.Prelude.{◌≡◌, ◌⊎◌, ℕ, ◌^◌, ◌<◌, ◌≤◌, Bool, List, [], ◌∷◌, length, IsSome, IfSome, IsSomeAnd, MatchOption}
use Rattle.std.specs.List.{AllByRecursion}
use Rattle.std.specs.declared.net.ipv4_addr.Ipv4Addr.{Ipv4Addr}
use Rattle.std.specs.declared.net.socket_addr.SocketAddr.{SocketAddr}
use Rattle.toml.specs.Data.{Data, get}
use Rattle.rsvp_bodies.specs.declared.prefix.Prefix.{Prefix}
use Rattle.rsvp_bodies.specs.declared.step.Step.{Step}
use Rattle.rsvp_bodies.specs.Traffic.{rate_asked}
use Rattle.lsr_facts.specs.declared.router.LabelRange.{LabelRange}
use Rattle.lsr_config.specs.Keys.{key_name}
use Rattle.lsr_config.specs.Values.{SaysAddress, SaysSocket, SaysWhole, SaysFlag, SaysLabels, SaysPrefix, SaysTables, SaysSteps, SaysRate, SaysTspec, SaysName}
use Rattle.lsr_config.specs.declared.key.Key.{Key}
use Rattle.lsr_config.specs.declared.key.Key.TheVariants as key
use Rattle.lsr_config.specs.declared.fault.ConfigFault.{ConfigFault}
use Rattle.lsr_config.specs.declared.fault.ConfigFault.TheVariants as fault

-- the kinds of values: addresses, socket addresses, whole numbers from the least to the most, truth values,
-- ranges of labels, prefixes, arrays of tables, arrays of steps, rates, and names
pub data Kind : Type 0 where
  an_address : Kind
  a_socket : Kind
  a_whole : ℕ → ℕ → Kind
  a_flag : Kind
  some_labels : Kind
  a_prefix : Kind
  some_tables : Kind
  some_steps : Kind
  a_rate : Kind
  a_name : Kind

-- the value is of the kind
unfoldable pub IsOfKind : Kind → Data → Type 0
IsOfKind an_address d = (a : Ipv4Addr) × SaysAddress d a
IsOfKind a_socket d = (a : SocketAddr) × SaysSocket d a
IsOfKind (a_whole least most) d = (n : ℕ) × SaysWhole least most d n
IsOfKind a_flag d = (b : Bool) × SaysFlag d b
IsOfKind some_labels d = (labels : LabelRange) × SaysLabels d labels
IsOfKind a_prefix d = (p : Prefix) × SaysPrefix d p
IsOfKind some_tables d = (tables : List Data) × SaysTables d tables
IsOfKind some_steps d = (steps : List Step) × SaysSteps d steps
IsOfKind a_rate d = (rate : ℕ) × SaysRate d rate
IsOfKind a_name d = (name : List ℕ) × SaysName d name

-- the table has a value under the key, of which the fact holds
abbrev pub Has : Key → Data → (Data → Type 0) → Type 0
Has key d P = IsSomeAnd (get (key_name key) d) P

-- the value under the key is said so, or where there is none the default holds
abbrev pub HasOr : Key → Data → Type 0 → (Data → Type 0) → Type 0
HasOr key d default P = MatchOption (get (key_name key) d) default P

-- the table gives the key this address
abbrev pub HasAddress : Key → Data → Ipv4Addr → Type 0
HasAddress key d a = Has key d (λ v. SaysAddress v a)

-- the table gives the key this number of 16 bits, one of those that count from the first
abbrev pub HasNumber : ℕ → Key → Data → ℕ → Type 0
HasNumber first key d n = Has key d (λ v. SaysWhole first 65535 v n)

-- the table gives the key this prefix
abbrev pub HasPrefix : Key → Data → Prefix → Type 0
HasPrefix key d p = Has key d (λ v. SaysPrefix v p)

-- the record of a bypass gives this capacity, in bytes per second: 0 where it gives none
abbrev pub HasCapacity : Data → ℕ → Type 0
HasCapacity d n = HasOr key.Capacity d (n ≡ 0) (λ v. SaysWhole 0 (2 ^ 50) v n)

-- the record of a tunnel gives traffic of so much bandwidth or more
abbrev pub HasRoom : ℕ → Data → Type 0
HasRoom capacity d = Has key.Rate d (λ v. (tspec : List ℕ) × SaysTspec v tspec × (capacity ≤ rate_asked tspec))

-- each of the tunnels that has this number has traffic of so much bandwidth or more
abbrev pub HaveRoom : ℕ → ℕ → List Data → Type 0
HaveRoom n capacity tunnels = AllByRecursion (λ tunnel. HasNumber 0 key.Number tunnel n → HasRoom capacity tunnel) tunnels

-- the fact holds of some element
abbrev pub SomeOf : {A : Type 0} → (A → Type 0) → List A → Type 0
SomeOf P [] = ⊥
SomeOf P (x ∷ xs) = P x ⊎ SomeOf P xs

-- neither the router of the document nor one of these links has the address
abbrev pub IsFree : Data → List Data → Ipv4Addr → Type 0
IsFree document links a = (¬ HasAddress key.Router document a) × AllByRecursion (λ link. ¬ HasAddress key.Address link a) links

-- What a document has to keep. A record is named with the records before it in its table.
pub data Rule : Type 0 where
  -- the table has the key
  given : Key → Data → Rule
  -- the value of the key, if there is one, is of its kind
  fitting : Kind → Key → Data → Rule
  -- no record before has the number of this one, of those that count from the first
  new_number : ℕ → List Data → Data → Rule
  -- neither the router of the document nor a link before has the address of this link
  new_address : Data → List Data → Data → Rule
  -- no route before has the prefix of this one
  new_prefix : List Data → Data → Rule
  -- neither the router of the document nor one of the links has the address at which this tunnel ends
  elsewhere : Data → List Data → Data → Rule
  -- one of the other records has the number that this one gives the key, of those that count from the first
  known_number : ℕ → Key → List Data → Data → Rule
  -- the traffic of the tunnel, of these, in which this bypass runs is of no less bandwidth than the bypass has for repairs
  carried : List Data → Data → Rule
  -- fewer records stand before one of this table than the table may have
  few : Key → ℕ → List Data → Rule
  -- the name is that of one of the keys
  known : List Key → List ℕ → Rule

-- the rule is kept
unfoldable pub Holds : Rule → Type 0
Holds (given key d) = IsSome (get (key_name key) d)
Holds (fitting kind key d) = IfSome (get (key_name key) d) (IsOfKind kind)
Holds (new_number first before d) =
    (n : ℕ) → HasNumber first key.Number d n → AllByRecursion (λ other. ¬ HasNumber first key.Number other n) before
Holds (new_address document before link) = (a : Ipv4Addr) → HasAddress key.Address link a → IsFree document before a
Holds (new_prefix before route) =
    (p : Prefix) → HasPrefix key.Prefix route p → AllByRecursion (λ other. ¬ HasPrefix key.Prefix other p) before
Holds (elsewhere document links tunnel) = (a : Ipv4Addr) → HasAddress key.Endpoint tunnel a → IsFree document links a
Holds (known_number first under others d) =
    (n : ℕ) → HasNumber first under d n → SomeOf (λ other. HasNumber first key.Number other n) others
Holds (carried tunnels bypass) = (n capacity : ℕ) → HasNumber 0 key.Tunnel bypass n → HasCapacity bypass capacity → HaveRoom n capacity tunnels
Holds (few key most before) = length before < most
Holds (known keys name) = SomeOf (λ key. key_name key ≡ name) keys

-- the fault of a document that breaks the rule
unfoldable pub fault_of : Rule → ConfigFault
fault_of (given key d) = fault.Missing key
fault_of (fitting kind key d) = fault.BadValue key
fault_of (new_number first before d) = fault.Repeated key.Number
fault_of (new_address document before link) = fault.Repeated key.Address
fault_of (new_prefix before route) = fault.Repeated key.Prefix
fault_of (elsewhere document links tunnel) = fault.BadValue key.Endpoint
fault_of (known_number first under others d) = fault.UnknownName under
fault_of (carried tunnels bypass) = fault.BadValue key.Capacity
fault_of (few key most before) = fault.TooMany key
fault_of (known keys name) = fault.UnknownKey name

-- The first of the rules that isn't kept has this fault.
unfoldable pub FirstBroken : List Rule → ConfigFault → Type 0
FirstBroken [] f = ⊥
FirstBroken (rule ∷ rules) f = ((¬ Holds rule) × (f ≡ fault_of rule)) ⊎ (Holds rule × FirstBroken rules f)
