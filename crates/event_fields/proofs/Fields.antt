-- From events to their fields.
use Rattle.std.proofs.Common.{◌≡◌, ◌<◌, ◌≤◌, ◌++◌, ◌∷◌, [], ℕ, List, length, Option, Some, None, Result, Ok, Err, refl, sym, ap, subst, ◌∙◌, ◌^◌, ◌==◌, Bool, T, true, false, eqb→eq, arith, lit<}
use Rattle.std.proofs.lemmas.List.{append-nil}
use Rattle.byteorder.specs.Endian.{big_bytes}
use Rattle.field_bytes.specs.CaseLaws.{BothFit, both_tag, no_tag}
use Rattle.field_bytes.specs.Making.{MadeFits}
use Rattle.field_bytes.specs.OptionLaws.{OptionFits, option_bytes}
use Rattle.field_bytes.specs.PairLaws.{PairFits}
use Rattle.field_bytes.specs.Spelling.{Answers, IsCountable, IsOne}
use Rattle.field_bytes.specs.declared.fault.ReadFault.{ReadFault}
use Rattle.field_bytes.specs.declared.fault.ReadFault.TheVariants as faults
use Rattle.rsvp_contents.specs.Picking.{content_in}
use Rattle.rsvp_contents.specs.Spelling.{SpellsReading}
use Rattle.rsvp_contents.specs.Written.{message_bytes}
use Rattle.rsvp_contents.specs.declared.message.Reading.{Reading}
use Rattle.rsvp_contents.specs.declared.message.Reading.TheVariants as readings
use Rattle.rsvp_messages.proofs.Written.{header_short}
use Rattle.abstract_paths.specs.Events.{IsEvent, IsUnknown}
use Rattle.abstract_paths.specs.declared.events.Event.{Event}
use Rattle.abstract_paths.specs.declared.events.Event.TheVariants as events
use Rattle.abstract_paths.specs.declared.ways.ArrivalWay.{ArrivalWay}
use Rattle.abstract_paths.specs.declared.ways.ArrivalWay.TheVariants as ways
use Rattle.abstract_paths.specs.declared.ways.Arrive.{Arrive}
use Rattle.journal_bytes.specs.Events.{IsWrittenAgain, counted_bytes, event_bytes, unknown_bytes, way_number}
use Rattle.event_fields.specs.Unread.{arrive_parts, kind_bytes, relay_parts, unread_bytes, unread_parts}
use Rattle.event_fields.specs.declared.unread.UnreadArrive.{UnreadArrive}
use Rattle.event_fields.specs.declared.unread.UnreadRelay.{UnreadRelay}
use Rattle.event_fields.specs.declared.unread.UnreadEvent.{UnreadEvent}
use Rattle.event_fields.specs.declared.unread.UnreadEvent.TheVariants as unread
use Rattle.event_fields.specs.Spelled.{AreOfEvent, IsReadAs, IsReadBy, ReadsEvent, SpellsArrive, SpellsEvent, unknown_of}
use Rattle.event_fields.specs.EventLaws.{KindFits, UnreadFits, WayFits}
use Rattle.event_fields.specs.Fitting.{command_fits}
use Rattle.event_fields.proofs.Told.{one_read}

-- ---- fields that fit

way_fits : (way : ArrivalWay) → WayFits way
way_fits ways.Hop = (tt, lit< tt)
way_fits ways.Stack = (tt, lit< tt)
way_fits ways.Routed = (tt, lit< tt)

unknown_fits : (reading : Reading) → IsUnknown reading → OptionFits KindFits (unknown_of reading)
unknown_fits (readings.Whole content) is = tt
unknown_fits (readings.Unknown content class ctype) is = is

unknown_spelled : (reading : Reading) → unknown_bytes reading ≡ option_bytes kind_bytes (unknown_of reading)
unknown_spelled (readings.Whole content) = refl
unknown_spelled (readings.Unknown content class ctype) = refl

-- ---- the fields of an event

-- the bytes are those of fields that are the event's
pub record HasFields (bytes : List ℕ) (event : Event) : Type 0 where
  pub fields : UnreadEvent
  pub fit : UnreadFits fields
  pub spelled : bytes ≡ unread_bytes fields
  pub told : IsReadAs fields event

abbrev unread_arrive : Arrive → List ℕ → UnreadArrive
unread_arrive a message = record { link = a.link; way = a.way; message = message; unknown = unknown_of a.reading }

arrive_fields : (bytes : List ℕ) (a : Arrive) → IsEvent (events.Arrive a) → SpellsArrive bytes a → HasFields bytes (events.Arrive a)
arrive_fields bytes a can s =
    let short : length s.message ≤ 4096 = header_short s.message s.spelled.1.header in
    let count : length s.message < 2 ^ 32 = omega (arith, short) in
    record {
      fields = unread.Arrive (unread_arrive a s.message);
      fit = (tt, (lit< tt, (lit< tt, (lit< tt, (tt, (can.link, (way_fits a.way, (count, unknown_fits a.reading can.unknown))))))));
      spelled = s.parts ∙ ap (λ (v : List ℕ). 1 ∷ (big_bytes 2 a.link ++ (way_number a.way ∷ (counted_bytes s.message ++ v)))) (unknown_spelled a.reading);
      told = record { link = refl; way = refl; message = s.spelled; unknown = refl };
    }

has_fields : (bytes : List ℕ) (event : Event) → IsEvent event → AreOfEvent bytes event → HasFields bytes event
has_fields bytes (events.Arrive a) can s = arrive_fields bytes a can s
has_fields bytes (events.Relay r) can s = record {
  fields = unread.Relay (record { link = r.link; to = r.to; limit = r.limit; message = r.message });
  fit = (tt, (lit< tt, (lit< tt, (tt, (can.link, (can.to, (can.limit, omega (arith, can.message))))))));
  spelled = s;
  told = record { link = refl; to = refl; limit = refl; message = refl };
}
has_fields bytes (events.Tick n) can s = record { fields = unread.Tick n; fit = (tt, (lit< tt, (lit< tt, can))); spelled = s; told = refl }
has_fields bytes (events.LinkUp n) can s = record { fields = unread.LinkUp n; fit = (tt, (lit< tt, can)); spelled = s; told = refl }
has_fields bytes (events.LinkDown n) can s = record { fields = unread.LinkDown n; fit = (tt, (lit< tt, (lit< tt, can))); spelled = s; told = refl }
has_fields bytes (events.Command c) can s = record { fields = unread.Command c; fit = (tt, command_fits c can); spelled = s; told = refl }
has_fields bytes events.Restart can s = record { fields = unread.Restart; fit = (tt, (lit< tt, tt)); spelled = s; told = tt }
has_fields bytes events.Start can s = record { fields = unread.Start; fit = (tt, (lit< tt, tt)); spelled = s; told = tt }

pub fields_of : (bytes : List ℕ) (event : Event) → SpellsEvent bytes event → HasFields bytes event
fields_of bytes event s = has_fields bytes event s.possible s.spelled

-- and bytes of such fields spell it
told_spelled : (u : UnreadEvent) (event : Event) → IsReadAs u event → (bytes : List ℕ) → bytes ≡ unread_bytes u → AreOfEvent bytes event
told_spelled (unread.Arrive u) (events.Arrive a) is bytes e = record {
  message = u.message;
  spelled = is.message;
  parts = e ∙ ((λ i. 1 ∷ (big_bytes 2 (is.link i) ++ (way_number (is.way i) ∷ (counted_bytes u.message ++ option_bytes kind_bytes (is.unknown i)))))
      ∙ ap (λ (v : List ℕ). 1 ∷ (big_bytes 2 a.link ++ (way_number a.way ∷ (counted_bytes u.message ++ v)))) (sym (unknown_spelled a.reading)));
}
told_spelled (unread.Relay u) (events.Relay r) is bytes e =
    e ∙ (λ i. event_bytes (events.Relay (record { link = is.link i; to = is.to i; limit = is.limit i; message = is.message i })))
told_spelled (unread.Tick n) (events.Tick m) is bytes e = e ∙ (λ i. event_bytes (events.Tick (is i)))
told_spelled (unread.LinkUp n) (events.LinkUp m) is bytes e = e ∙ (λ i. event_bytes (events.LinkUp (is i)))
told_spelled (unread.LinkDown n) (events.LinkDown m) is bytes e = e ∙ (λ i. event_bytes (events.LinkDown (is i)))
told_spelled (unread.Command c) (events.Command d) is bytes e = e ∙ (λ i. event_bytes (events.Command (is i)))
told_spelled unread.Restart events.Restart is bytes e = e
told_spelled unread.Start events.Start is bytes e = e
told_spelled _ _ is bytes e = absurd is

-- ---- what a reader answers

-- where no fields are spelled no event is
pub fields_unread : (bytes : List ℕ) (fault : ReadFault) → Answers UnreadFits unread_bytes bytes (Err fault) → ReadsEvent bytes (Err fault)
fields_unread bytes faults.Memory none = tt
fields_unread bytes faults.Format none = λ event s.
    let f = fields_of bytes event s in
    none f.fields [] f.fit (f.spelled ∙ sym (append-nil (unread_bytes f.fields)))

-- an event's fields are those at the head of its bytes, and nothing stands behind them
same_fields : (bytes rest : List ℕ) (u : UnreadEvent) (event : Event) → IsOne UnreadFits unread_bytes → UnreadFits u → bytes ≡ unread_bytes u ++ rest →
    (f : HasFields bytes event) → (u ≡ f.fields) × (rest ≡ [])
same_fields bytes rest u event one fit e f = one u f.fields rest [] fit f.fit (sym e ∙ (f.spelled ∙ sym (append-nil (unread_bytes f.fields))))

pub bytes_behind : (bytes rest : List ℕ) (u : UnreadEvent) → IsOne UnreadFits unread_bytes → UnreadFits u → bytes ≡ unread_bytes u ++ rest → 0 < length rest → ReadsEvent bytes (Err faults.Format)
bytes_behind bytes rest u one fit e some = λ event s.
    let same = (same_fields bytes rest u event one fit e (fields_of bytes event s)).1 in
    let none : length rest ≡ 0 = ap length same in
    absurd (omega (arith, none, some))

-- what the fields are read as is what the bytes are
pub reads_event : (bytes : List ℕ) (u : UnreadEvent) → IsOne UnreadFits unread_bytes → UnreadFits u → bytes ≡ unread_bytes u → (result : Result Event ReadFault) → IsReadBy u result → ReadsEvent bytes result
reads_event bytes u one fit e (Ok event) is = record { possible = is.0; spelled = told_spelled u event is.1 bytes e }
reads_event bytes u one fit e (Err faults.Memory) is = tt
reads_event bytes u one fit e (Err faults.Format) none = λ event s.
    let f = fields_of bytes event s in
    let same = (same_fields bytes [] u event one fit (e ∙ sym (append-nil (unread_bytes u))) f).0 in
    let P : UnreadEvent → Type 0 = λ v. IsReadAs v event in
    none event s.possible (subst P (sym same) f.told)

-- ---- laws

pub one_event_of : IsOne UnreadFits unread_bytes → (bytes : List ℕ) (a b : Event) → SpellsEvent bytes a → SpellsEvent bytes b → a ≡ b
one_event_of one bytes a b s t =
    let f = fields_of bytes a s in
    let g = fields_of bytes b t in
    let same = (same_fields bytes [] f.fields b one f.fit (f.spelled ∙ sym (append-nil (unread_bytes f.fields))) g).0 in
    let P : UnreadEvent → Type 0 = λ v. IsReadAs v b in
    one_read f.fields a b f.told (subst P (sym same) g.told)

pub written_event : (event : Event) → IsWrittenAgain event → AreOfEvent (event_bytes event) event
written_event (events.Arrive a) again = record { message = message_bytes (content_in a.reading); spelled = again; parts = refl }
written_event (events.Relay r) again = refl
written_event (events.Tick n) again = refl
written_event (events.LinkUp n) again = refl
written_event (events.LinkDown n) again = refl
written_event (events.Command c) again = refl
written_event events.Restart again = refl
written_event events.Start again = refl

-- ---- what is left behind the fields

pub some_left : (rest : List ℕ) → (length rest == 0) ≡ false → 0 < length rest
some_left [] e = cc
some_left (x ∷ xs) e = omega arith

pub none_left : (rest : List ℕ) → (length rest == 0) ≡ true → rest ≡ []
none_left [] e = refl
none_left (x ∷ xs) e =
    let P : Bool → Type 0 = λ b. T b in
    let h : length (x ∷ xs) ≡ 0 = eqb→eq (length (x ∷ xs)) 0 (subst P (sym e) tt) in
    absurd (omega (arith, h))
