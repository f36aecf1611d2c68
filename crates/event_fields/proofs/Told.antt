-- From fields to events.
use Rattle.std.proofs.Common.{◌≡◌, ◌<◌, ℕ, List, Bool, true, false, length, Option, Some, None, Result, Ok, Err, refl, sym, ap, subst, ◌∙◌, arith}
use Rattle.std.proofs.Props.{props}
use Rattle.field_bytes.specs.declared.fault.ReadFault.{ReadFault}
use Rattle.field_bytes.specs.declared.fault.ReadFault.TheVariants as faults
use Rattle.rsvp_contents.specs.Picking.{content_in}
use Rattle.rsvp_contents.specs.Spelling.{ReadsMessage, SpellsReading}
use Rattle.rsvp_contents.specs.declared.dropped.Dropped.{Dropped}
use Rattle.rsvp_contents.specs.declared.dropped.Dropped.TheVariants as drops
use Rattle.rsvp_contents.specs.declared.messages.Content.{Content}
use Rattle.rsvp_contents.specs.declared.message.Reading.{Reading}
use Rattle.rsvp_contents.specs.declared.message.Reading.TheVariants as readings
use Rattle.rsvp_contents.proofs.Readings.{one_reading_lem}
use Rattle.abstract_paths.specs.Events.{IsEvent}
use Rattle.abstract_paths.specs.Ways.{takes}
use Rattle.abstract_paths.specs.declared.commands.Command.{Command}
use Rattle.abstract_paths.specs.declared.events.Event.{Event}
use Rattle.abstract_paths.specs.declared.events.Event.TheVariants as events
use Rattle.abstract_paths.specs.declared.ways.ArrivalWay.{ArrivalWay}
use Rattle.abstract_paths.specs.declared.ways.Arrive.{Arrive}
use Rattle.abstract_paths.specs.declared.ways.Relay.{Relay}
use Rattle.event_fields.specs.declared.unread.UnreadArrive.{UnreadArrive}
use Rattle.event_fields.specs.declared.unread.UnreadRelay.{UnreadRelay}
use Rattle.event_fields.specs.declared.unread.UnreadEvent.{UnreadEvent}
use Rattle.event_fields.specs.declared.unread.UnreadEvent.TheVariants as unread
use Rattle.event_fields.specs.Spelled.{IsArriveRead, IsReadAs, IsReadBy, IsRelayRead, ReadsWhole, fault_of, reading_of, unknown_of}

-- bytes that were dropped, or read with an object that their type doesn't know, spell no message whole
pub dropped_whole : (bytes : List ℕ) (dropped : Dropped) → ReadsMessage bytes (Err dropped) → ReadsWhole bytes (Err (fault_of dropped))
dropped_whole bytes drops.NoMemory reads = tt
dropped_whole bytes _ reads = λ content s. reads.only (readings.Whole content) s

is_whole : Reading → Bool
is_whole (readings.Whole content) = true
is_whole (readings.Unknown content class ctype) = false

pub unknown_whole : (bytes : List ℕ) (content : Content) (class ctype : ℕ) → ReadsMessage bytes (Ok (readings.Unknown content class ctype)) → ReadsWhole bytes (Err faults.Format)
unfolding is_whole
unknown_whole bytes content class ctype reads = λ other s.
    let e : readings.Unknown content class ctype ≡ readings.Whole other = reads.only (readings.Whole other) s in
    let h : false ≡ true = ap is_whole e in cc

-- what is read is made of the content and the object that its type doesn't know
reading_again : (reading : Reading) → reading_of (content_in reading) (unknown_of reading) ≡ reading
reading_again (readings.Whole content) = refl
reading_again (readings.Unknown content class ctype) = refl

content_again : (content : Content) (unknown : Option (ℕ × ℕ)) → content_in (reading_of content unknown) ≡ content
content_again content None = refl
content_again content (Some kind) = refl

unknown_again : (content : Content) (unknown : Option (ℕ × ℕ)) → unknown_of (reading_of content unknown) ≡ unknown
unknown_again content None = refl
unknown_again content (Some kind) = refl

one_content : (bytes : List ℕ) (a b : Content) → SpellsReading bytes (readings.Whole a) → SpellsReading bytes (readings.Whole b) → a ≡ b
one_content bytes a b s t = ap content_in (one_reading_lem bytes (readings.Whole a) (readings.Whole b) s t)

-- where its bytes spell no message whole, no message for this router has these fields
pub arrive_unread : (u : UnreadArrive) (fault : ReadFault) → ReadsWhole u.message (Err fault) → IsReadBy (unread.Arrive u) (Err fault)
arrive_unread u faults.Memory none = tt
arrive_unread u faults.Format none = no_arrive where
  no_arrive : (event : Event) → IsEvent event → IsReadAs (unread.Arrive u) event → ⊥
  no_arrive (events.Arrive a) _ is = none (content_in a.reading) is.message
  no_arrive _ _ is = is

-- what is read of a message for this router with these fields
is_reading : (u : UnreadArrive) (content : Content) (a : Arrive) → SpellsReading u.message (readings.Whole content) → IsArriveRead u a → reading_of content u.unknown ≡ a.reading
is_reading u content a s is =
    (λ i. reading_of (one_content u.message content (content_in a.reading) s is.message i) (is.unknown i)) ∙ reading_again a.reading

-- nor where its way doesn't take what they spell
pub arrive_refused : (u : UnreadArrive) (content : Content) → SpellsReading u.message (readings.Whole content) → takes u.way (reading_of content u.unknown) ≡ false → IsReadBy (unread.Arrive u) (Err faults.Format)
arrive_refused u content s refused = no_arrive where
  no_arrive : (event : Event) → IsEvent event → IsReadAs (unread.Arrive u) event → ⊥
  no_arrive (events.Arrive a) _ is =
      let taken : true ≡ false = sym a.taken ∙ (sym (λ i. takes (is.way i) (is_reading u content a s is i)) ∙ refused) in cc
  no_arrive _ _ is = is

-- and where it does, this one has
pub arrive_read : (u : UnreadArrive) (content : Content) (reading : Reading) (taken : takes u.way reading ≡ true) → SpellsReading u.message (readings.Whole content) → reading ≡ reading_of content u.unknown →
    IsArriveRead u (record { link = u.link; way = u.way; reading = reading; taken = taken })
arrive_read u content reading taken s same =
    let P : Content → Type 0 = λ c. SpellsReading u.message (readings.Whole c) in
    record {
      link = refl;
      way = refl;
      message = subst P (sym (content_again content u.unknown) ∙ sym (ap content_in same)) s;
      unknown = sym (unknown_again content u.unknown) ∙ sym (ap unknown_of same);
    }

-- the same, of bytes that are its
pub arrive_unread_at : (u : UnreadArrive) (bytes : List ℕ) (fault : ReadFault) → bytes ≡ u.message → ReadsWhole bytes (Err fault) → IsReadBy (unread.Arrive u) (Err fault)
arrive_unread_at u bytes fault same none =
    let P : List ℕ → Type 0 = λ v. ReadsWhole v (Err fault) in
    arrive_unread u fault (subst P same none)

pub arrive_refused_at : (u : UnreadArrive) (bytes : List ℕ) (content : Content) (reading : Reading) → bytes ≡ u.message → SpellsReading bytes (readings.Whole content) → reading ≡ reading_of content u.unknown →
    takes u.way reading ≡ false → IsReadBy (unread.Arrive u) (Err faults.Format)
arrive_refused_at u bytes content reading same s is refused =
    let P : List ℕ → Type 0 = λ v. SpellsReading v (readings.Whole content) in
    arrive_refused u content (subst P same s) (sym (ap (takes u.way) is) ∙ refused)

pub arrive_read_at : (u : UnreadArrive) (bytes : List ℕ) (content : Content) (reading : Reading) (taken : takes u.way reading ≡ true) → bytes ≡ u.message → SpellsReading bytes (readings.Whole content) → reading ≡ reading_of content u.unknown →
    IsArriveRead u (record { link = u.link; way = u.way; reading = reading; taken = taken })
arrive_read_at u bytes content reading taken same s is =
    let P : List ℕ → Type 0 = λ v. SpellsReading v (readings.Whole content) in
    arrive_read u content reading taken (subst P same s) is

-- no message for another router that can be is longer than 4,096 bytes
pub relay_refused : (u : UnreadRelay) → 4096 < length u.message → IsReadBy (unread.Relay u) (Err faults.Format)
relay_refused u long = no_relay where
  no_relay : (event : Event) → IsEvent event → IsReadAs (unread.Relay u) event → ⊥
  no_relay (events.Relay r) can is =
      let same : length u.message ≡ length r.message = ap length is.message in
      absurd (omega (arith, can.message))
  no_relay _ _ is = is

-- ---- one event

-- messages for this router that are alike are the same
same_arrive : (a b : Arrive) → a.link ≡ b.link → a.way ≡ b.way → a.reading ≡ b.reading → a ≡ b
same_arrive a b link way reading =
    let P : ArrivalWay × (Reading × ℕ) → Type 0 = λ v. (taken : takes v.0 v.1.0 ≡ true) → a ≡ record { link = v.1.1; way = v.0; reading = v.1.0; taken = taken } in
    let one : (s t : takes a.way a.reading ≡ true) → s ≡ t = hlevel props in
    let here : P (a.way, (a.reading, a.link)) = λ taken i. record { link = a.link; way = a.way; reading = a.reading; taken = one a.taken taken i } in
    subst P (λ i. (way i, (reading i, link i))) here b.taken

one_arrive : (u : UnreadArrive) (a b : Arrive) → IsArriveRead u a → IsArriveRead u b → a ≡ b
one_arrive u a b x y =
    let content = one_content u.message (content_in a.reading) (content_in b.reading) x.message y.message in
    let reading : a.reading ≡ b.reading =
    sym (reading_again a.reading) ∙ ((λ i. reading_of (content i) ((sym x.unknown ∙ y.unknown) i)) ∙ reading_again b.reading) in
    same_arrive a b (sym x.link ∙ y.link) (sym x.way ∙ y.way) reading

one_relay : (u : UnreadRelay) (a b : Relay) → IsRelayRead u a → IsRelayRead u b → a ≡ b
one_relay u a b x y i = record {
  link = (sym x.link ∙ y.link) i;
  to = (sym x.to ∙ y.to) i;
  limit = (sym x.limit ∙ y.limit) i;
  message = (sym x.message ∙ y.message) i;
}

-- the event of each kind of fields
is_arrive : (u : UnreadArrive) (event : Event) → IsReadAs (unread.Arrive u) event → (a : Arrive) × (event ≡ events.Arrive a) × IsArriveRead u a
is_arrive u (events.Arrive a) is = (a, refl, is)
is_arrive u _ is = absurd is

is_relay : (u : UnreadRelay) (event : Event) → IsReadAs (unread.Relay u) event → (r : Relay) × (event ≡ events.Relay r) × IsRelayRead u r
is_relay u (events.Relay r) is = (r, refl, is)
is_relay u _ is = absurd is

is_tick : (n : ℕ) (event : Event) → IsReadAs (unread.Tick n) event → event ≡ events.Tick n
is_tick n (events.Tick m) is = ap events.Tick (sym is)
is_tick n _ is = absurd is

is_link_up : (n : ℕ) (event : Event) → IsReadAs (unread.LinkUp n) event → event ≡ events.LinkUp n
is_link_up n (events.LinkUp m) is = ap events.LinkUp (sym is)
is_link_up n _ is = absurd is

is_link_down : (n : ℕ) (event : Event) → IsReadAs (unread.LinkDown n) event → event ≡ events.LinkDown n
is_link_down n (events.LinkDown m) is = ap events.LinkDown (sym is)
is_link_down n _ is = absurd is

is_restart : (event : Event) → IsReadAs unread.Restart event → event ≡ events.Restart
is_restart events.Restart is = refl
is_restart _ is = absurd is

is_start : (event : Event) → IsReadAs unread.Start event → event ≡ events.Start
is_start events.Start is = refl
is_start _ is = absurd is

is_command : (c : Command) (event : Event) → IsReadAs (unread.Command c) event → event ≡ events.Command c
is_command c (events.Command d) is = ap events.Command (sym is)
is_command c _ is = absurd is

-- no fields tell two events
pub one_read : (u : UnreadEvent) (a b : Event) → IsReadAs u a → IsReadAs u b → a ≡ b
one_read (unread.Arrive u) a b x y =
    let p = is_arrive u a x in
    let q = is_arrive u b y in
    p.1 ∙ (ap events.Arrive (one_arrive u p.0 q.0 p.2 q.2) ∙ sym q.1)
one_read (unread.Relay u) a b x y =
    let p = is_relay u a x in
    let q = is_relay u b y in
    p.1 ∙ (ap events.Relay (one_relay u p.0 q.0 p.2 q.2) ∙ sym q.1)
one_read (unread.Tick n) a b x y = is_tick n a x ∙ sym (is_tick n b y)
one_read (unread.LinkUp n) a b x y = is_link_up n a x ∙ sym (is_link_up n b y)
one_read (unread.LinkDown n) a b x y = is_link_down n a x ∙ sym (is_link_down n b y)
one_read unread.Restart a b x y = is_restart a x ∙ sym (is_restart b y)
one_read unread.Start a b x y = is_start a x ∙ sym (is_start b y)
one_read (unread.Command c) a b x y = is_command c a x ∙ sym (is_command c b y)
