-- What no request changes: the router, and what it knew as the session began.
use Rattle.std.proofs.Common.{◌≡◌, ℕ, List, Option, Some, None, Result, Ok, Err, refl, ap}
use Rattle.abstract_paths.specs.declared.events.Event.{Event}
use Rattle.datagrams.specs.declared.datagram.Datagram.{Datagram}
use Rattle.datagrams.specs.declared.datagram.Datagram.TheVariants as kinds
use Rattle.lsr_facts.specs.declared.refusal.Refusal.{Refusal}
use Rattle.lsr_lines.specs.declared.lines.Request.{Request}
use Rattle.lsr_lines.specs.declared.lines.Request.TheVariants as requests
use Rattle.run_journal.specs.Journals.{IsAnswered, Journal}
use Rattle.run_journal.specs.declared.mark.Mark.{Mark}
use Rattle.run_journal.specs.declared.receipt.Receipt.{Receipt}
use Rattle.lsr_journal.specs.Recorded.{PrintsDatagram, PrintsEvent, PrintsRead, PrintsRequest, RecordedState, Records}

-- the router and the base are the same
abbrev pub IsSameBase : RecordedState → RecordedState → Type 0
IsSameBase before after = (after.journal.router ≡ before.journal.router) × (after.journal.base ≡ before.journal.base)

answered : (old new : Journal) (m : Mark) (event : Event) (answer : Result Receipt Refusal) → IsAnswered old m event answer new → (new.router ≡ old.router) × (new.base ≡ old.base)
answered old new m event (Ok receipt) a = (a.1.entered.router, a.1.entered.base)
answered old new m event (Err refusal) a = (ap (λ (j : Journal). j.router) a.0, ap (λ (j : Journal). j.base) a.0)

event_kept : (before : RecordedState) (event : Event) (printed : List ℕ) (after : RecordedState) → PrintsEvent before event printed after → IsSameBase before after
event_kept before event printed after p = answered before.journal after.journal before.mark event p.answer p.answered

same : (before after : RecordedState) → after ≡ before → IsSameBase before after
same before after e = (ap (λ (s : RecordedState). s.journal.router) e, ap (λ (s : RecordedState). s.journal.base) e)

read_kept : (before : RecordedState) (what : Result Datagram Refusal) (printed : List ℕ) (after : RecordedState) → PrintsRead before what printed after → IsSameBase before after
read_kept before (Ok (kinds.Event event)) printed after p = event_kept before event printed after p
read_kept before (Ok (kinds.Passed passed)) printed after p = same before after p.1
read_kept before (Err refusal) printed after p = (ap (λ (s : RecordedState). s.journal.router) p.1, ap (λ (s : RecordedState). s.journal.base) p.1)

datagram_kept : (before : RecordedState) (link : ℕ) (bytes printed : List ℕ) (after : RecordedState) → PrintsDatagram before link bytes printed after → IsSameBase before after
datagram_kept before link bytes printed after p = read_kept (record before { reader = p.0 }) p.1 printed after p.3

request_kept : (before : RecordedState) (request : Request) (printed : List ℕ) (after : RecordedState) → PrintsRequest before request printed after → IsSameBase before after
request_kept before (requests.Receive arrival) printed after p = datagram_kept before arrival.link _ printed after p
request_kept before (requests.Frame arrival) printed after p = datagram_kept before arrival.link _ printed after p
request_kept before (requests.Tick moment) printed after p = event_kept before _ printed after p
request_kept before (requests.LinkUp link) printed after p = event_kept before _ printed after p
request_kept before (requests.LinkDown link) printed after p = event_kept before _ printed after p
request_kept before requests.Restart printed after p = event_kept before _ printed after p
request_kept before requests.Start printed after p = event_kept before _ printed after p
request_kept before (requests.Command command) printed after p = event_kept before _ printed after p
request_kept before requests.Recent printed after p = same before after p.1
request_kept before (requests.Show shown) printed after p = absurd p

pub records_kept : (before : RecordedState) (request : Request) (printed : Option (List ℕ)) (after : RecordedState) → Records before request printed after → IsSameBase before after
records_kept before request (Some printed) after p = request_kept before request printed after p
records_kept before request None after p = same before after p.1
