-- What has a spelling: numbers within their widths, lists that can be counted, tables whose keys rise.
use Rattle.std.specs.Prelude.{ℕ, Bool, List}
use Rattle.std.specs.Ordering.{nat_cmp}
use Rattle.field_bytes.specs.CaseLaws.{BothFit, no_tag}
use Rattle.field_bytes.specs.Making.{MadeFits}
use Rattle.field_bytes.specs.PairLaws.{PairFits}
use Rattle.field_bytes.specs.Spelling.{IsCountable, ListFits}
use Rattle.field_bytes.specs.TextLaws.{IsText}
use Rattle.rsvp_bodies.specs.declared.prefix.Prefix.{Prefix}
use Rattle.lsr_facts.specs.Orders.{key_cmp, prefix_cmp}
use Rattle.lsr_facts.specs.Refusals.{number_of}
use Rattle.lsr_facts.specs.declared.assignment.Assignment.{Assignment}
use Rattle.lsr_facts.specs.declared.bypass.Bypass.{Bypass}
use Rattle.lsr_facts.specs.declared.key.Key.{Key}
use Rattle.lsr_facts.specs.declared.path_fact.PathFact.{PathFact}
use Rattle.lsr_facts.specs.declared.refusal.Refusal.{Refusal}
use Rattle.lsr_facts.specs.declared.repair.Repair.{Repair}
use Rattle.lsr_facts.specs.declared.reply.Reply.{Reply}
use Rattle.lsr_facts.specs.declared.resv_fact.ResvFact.{ResvFact}
use Rattle.lsr_facts.specs.declared.state.State.{State}
use Rattle.lsr_facts.specs.declared.tunnel.Tunnel.{Tunnel}
use Rattle.journal_bytes.specs.declared.entry.Entry.{Entry}
use Rattle.journal_bytes.specs.declared.entry.WrittenFrame.{WrittenFrame}
use Rattle.event_fields.specs.EventLaws.{NothingFits, UnreadFits}
use Rattle.event_fields.specs.Fitting.{IsByte, IsLong, IsShort, IsWord, PrefixFits}
use Rattle.event_fields.specs.Unread.{unread_bytes}
use Rattle.fact_fields.specs.Fitting.{AssignmentFits, BypassFits, IsAny, KeyFits, PathFits, PlainBypassFits, RepairFits, ResvFits, SentFits, TableFits, TunnelFits}
use Rattle.journal_files.specs.Entries.{OutcomeOf, entry_parts, frame_parts}
use Rattle.journal_files.specs.FirstFormat.{FitsFirst}
use Rattle.journal_files.specs.Replies.{IsNamed, reply_parts}
use Rattle.journal_files.specs.Formats.{Stored}
use Rattle.journal_files.specs.Rows.{IsEmpty, absent_parts}
use Rattle.journal_files.specs.States.{label_state_parts, link_state_parts, lsp_state_parts, node_state_parts, state_parts}
use Rattle.journal_files.specs.declared.formats.FileFormat.{FileFormat}
use Rattle.journal_files.specs.declared.formats.FileFormat.TheVariants as formats
use Rattle.journal_files.specs.declared.states.LabelState.{LabelState}
use Rattle.journal_files.specs.declared.states.LinkState.{LinkState}
use Rattle.journal_files.specs.declared.states.LspState.{LspState}
use Rattle.journal_files.specs.declared.states.NodeState.{NodeState}

-- ---- entries

abbrev pub FrameFits : WrittenFrame → Type 0
FrameFits = MadeFits IsAny frame_parts (PairFits IsShort (λ (bytes : List ℕ). IsCountable bytes))

abbrev pub LabelRowFits : Key × ℕ → Type 0
LabelRowFits = PairFits KeyFits IsWord

abbrev pub RefusalFits : Refusal → Type 0
RefusalFits = MadeFits IsNamed number_of IsByte

abbrev pub ReplyFits : Reply → Type 0
ReplyFits = MadeFits IsAny reply_parts (BothFit 1 no_tag NothingFits (BothFit 1 no_tag (PairFits IsByte IsShort) RefusalFits))

-- the bytes are those of an event
abbrev pub EventTextFits : List ℕ → Type 0
EventTextFits = IsText UnreadFits unread_bytes

abbrev pub OutcomeFits : OutcomeOf → Type 0
OutcomeFits = PairFits (ListFits LabelRowFits) (PairFits ReplyFits (ListFits FrameFits))

abbrev pub EntryFits : (List ℕ → Type 0) → Entry → Type 0
EntryFits EventFits = MadeFits IsAny entry_parts (PairFits IsShort (PairFits EventFits OutcomeFits))

-- ---- tables

-- what a format doesn't have is empty
abbrev pub AbsentFits : {K V : Type 0} → List (K × V) → Type 0
AbsentFits = MadeFits IsEmpty absent_parts NothingFits

abbrev pub UpFits : List (ℕ × Bool) → Type 0
UpFits = TableFits nat_cmp (PairFits IsShort (λ (is_up : Bool). Unit {0}))

abbrev pub RoutesFit : List (Prefix × ℕ) → Type 0
RoutesFit = TableFits prefix_cmp (PairFits PrefixFits IsShort)

abbrev pub TunnelRowFits : ℕ × Tunnel → Type 0
TunnelRowFits = PairFits IsShort TunnelFits

abbrev pub TunnelsFit : List (ℕ × Tunnel) → Type 0
TunnelsFit = TableFits nat_cmp TunnelRowFits

abbrev pub BypassesFit : (Bypass → Type 0) → List (ℕ × Bypass) → Type 0
BypassesFit Fits = TableFits nat_cmp (PairFits IsShort Fits)

abbrev pub PathsFit : List (Key × PathFact) → Type 0
PathsFit = TableFits key_cmp (PairFits KeyFits PathFits)

abbrev pub ResvsFit : List (Key × ResvFact) → Type 0
ResvsFit = TableFits key_cmp (PairFits KeyFits ResvFits)

abbrev pub RepairsFit : List (Key × Repair) → Type 0
RepairsFit = TableFits key_cmp (PairFits KeyFits RepairFits)

abbrev pub PromisesFit : List (Key × Assignment) → Type 0
PromisesFit = TableFits key_cmp (PairFits KeyFits AssignmentFits)

abbrev pub LabelsFit : List (Key × ℕ) → Type 0
LabelsFit = TableFits key_cmp LabelRowFits

abbrev pub RestingFit : List (ℕ × ℕ) → Type 0
RestingFit = TableFits nat_cmp (PairFits IsWord IsLong)

-- ---- what a router knows

abbrev pub LinkStateFits : LinkState → Type 0
LinkStateFits = MadeFits IsAny link_state_parts (PairFits (λ (is_cold : Bool). Unit {0}) (PairFits IsLong UpFits))

abbrev pub NodeStateFits : (Bypass → Type 0) → NodeState → Type 0
NodeStateFits Bypasses = MadeFits IsAny node_state_parts (PairFits RoutesFit (PairFits TunnelsFit (BypassesFit Bypasses)))

abbrev pub LspStateFits : (List (Key × Assignment) → Type 0) → LspState → Type 0
LspStateFits Promises = MadeFits IsAny lsp_state_parts (PairFits PathsFit (PairFits ResvsFit (PairFits RepairsFit Promises)))

abbrev pub LabelStateFits : (List (ℕ × ℕ) → Type 0) → LabelState → Type 0
LabelStateFits Resting = MadeFits IsAny label_state_parts (PairFits LabelsFit (PairFits Resting SentFits))

abbrev pub StateFits : (Bypass → Type 0) → (List (Key × Assignment) → Type 0) → (List (ℕ × ℕ) → Type 0) → State → Type 0
StateFits Bypasses Promises Resting =
    MadeFits IsAny state_parts (PairFits LinkStateFits (PairFits (NodeStateFits Bypasses) (PairFits (LspStateFits Promises) (LabelStateFits Resting))))

-- ---- what a file has

-- What a format can have of a router: the first no capacity, no promise and no label that rests, the second no label that rests.
abbrev pub BaseFits : FileFormat → State → Type 0
BaseFits formats.First = StateFits PlainBypassFits AbsentFits AbsentFits
BaseFits formats.Second = StateFits BypassFits PromisesFit AbsentFits
BaseFits formats.Third = StateFits BypassFits PromisesFit RestingFit

-- and of an event: in the first a command for a bypass has no capacity
abbrev pub TextFits : FileFormat → List ℕ → Type 0
TextFits formats.First = FitsFirst EventTextFits
TextFits formats.Second = EventTextFits
TextFits formats.Third = EventTextFits

-- what a format can have
abbrev pub FormatFits : FileFormat → Stored → Type 0
FormatFits format = PairFits (λ (text : List ℕ). IsCountable text) (PairFits (BaseFits format) (ListFits (EntryFits (TextFits format))))
