-- No bytes begin with two values of a kind.
use Rattle.std.specs.Prelude.{◌≡◌, ◌++◌, ◌∷◌, [], ℕ, Bool, List, refl}
use Rattle.std.specs.Ordering.{nat_cmp}
use Rattle.field_bytes.specs.CaseLaws.{BothFit, IsOneCase, both_fields, both_tag, choice_bytes, no_tag, one_both, one_choice, one_only}
use Rattle.field_bytes.specs.ListLaws.{one_list, one_octets}
use Rattle.field_bytes.specs.Making.{one_made}
use Rattle.field_bytes.specs.NumberLaws.{one_byte, one_flag, one_long, one_nothing, one_short, one_word}
use Rattle.field_bytes.specs.PairLaws.{PairFits, one_pair, pair_bytes}
use Rattle.field_bytes.specs.Spelling.{IsOne, ListFits, list_bytes, octet_bytes}
use Rattle.field_bytes.specs.TextLaws.{one_text}
use Rattle.field_bytes.specs.declared.cases.OneOf.{OneOf}
use Rattle.rsvp_bodies.specs.declared.prefix.Prefix.{Prefix}
use Rattle.lsr_facts.specs.Orders.{key_cmp, prefix_cmp}
use Rattle.lsr_facts.specs.Refusals.{number_of}
use Rattle.lsr_facts.specs.declared.assignment.Assignment.{Assignment}
use Rattle.lsr_facts.specs.declared.bypass.Bypass.{Bypass}
use Rattle.lsr_facts.specs.declared.key.Key.{Key}
use Rattle.lsr_facts.specs.declared.refusal.Refusal.{Refusal}
use Rattle.lsr_facts.specs.declared.reply.Reply.{Reply}
use Rattle.lsr_facts.specs.declared.reply.Reply.TheVariants as replies
use Rattle.journal_bytes.specs.Events.{counted_bytes, prefix_bytes}
use Rattle.event_fields.specs.EventLaws.{NothingFits, UnreadFits, one_unread}
use Rattle.event_fields.specs.Fitting.{IsByte, IsLong, IsShort, IsWord, PrefixFits}
use Rattle.event_fields.specs.Laws.{Counts, byte_bytes, flag_bytes, long_bytes, one_prefix, short_bytes, word_bytes}
use Rattle.event_fields.specs.Unread.{unread_bytes}
use Rattle.fact_fields.specs.FieldLaws.{one_assignment, one_key, one_sent, one_tunnel}
use Rattle.fact_fields.specs.Fitting.{AssignmentFits, IsAny, KeyFits, PathFits, RepairFits, ResvFits, SentFits, TunnelFits}
use Rattle.fact_fields.specs.Keys.{key_bytes}
use Rattle.fact_fields.specs.Laws.{one_path, one_repair, one_resv, one_table}
use Rattle.fact_fields.specs.Paths.{path_bytes}
use Rattle.fact_fields.specs.Resvs.{assignment_bytes, repair_bytes, resv_bytes}
use Rattle.fact_fields.specs.Sent.{sent_bytes}
use Rattle.fact_fields.specs.Tunnels.{tunnel_bytes}
use Rattle.journal_files.specs.Entries.{EntryOf, OutcomeOf, entry_bytes, entry_parts, entry_told, frame_bytes, frame_parts, frame_told, label_bytes}
use Rattle.journal_files.specs.Fitting.{BypassesFit, EntryFits, EventTextFits, FrameFits, LabelRowFits, LabelStateFits, LabelsFit, LinkStateFits, LspStateFits, NodeStateFits, OutcomeFits, PathsFit, PromisesFit, RefusalFits, RepairsFit, ReplyFits, RestingFit, ResvsFit, RoutesFit, StateFits, TunnelRowFits, TunnelsFit, UpFits}
use Rattle.journal_files.specs.Formats.{same_text}
use Rattle.journal_files.specs.Replies.{IsNamed, refusal_bytes, refusal_told, reply_bytes, reply_parts, reply_told}
use Rattle.journal_files.specs.Rows.{bypass_row_bytes, path_row_bytes, promise_row_bytes, repair_row_bytes, resting_row_bytes, resv_row_bytes, route_row_bytes, tunnel_row_bytes, up_bytes}
use Rattle.journal_files.specs.States.{LabelsOf, LspsOf, NodeOf, StateOf, label_state_bytes, label_state_parts, label_state_told, link_state_bytes, link_state_parts, link_state_told, lsp_state_bytes, lsp_state_parts, lsp_state_told, node_state_bytes, node_state_parts, node_state_told, state_bytes, state_parts, state_told}

-- ---- tables

pub one_up : IsOne UpFits (list_bytes up_bytes)
one_up = one_table nat_cmp (PairFits IsShort IsAny) up_bytes (one_pair IsShort IsAny short_bytes flag_bytes one_short one_flag)

pub one_routes : IsOne RoutesFit (list_bytes route_row_bytes)
one_routes = one_table prefix_cmp (PairFits PrefixFits IsShort) route_row_bytes (one_pair PrefixFits IsShort prefix_bytes short_bytes one_prefix one_short)

pub one_tunnels : IsOne TunnelsFit (list_bytes tunnel_row_bytes)
one_tunnels = one_table nat_cmp TunnelRowFits tunnel_row_bytes (one_pair IsShort TunnelFits short_bytes tunnel_bytes one_short one_tunnel)

pub one_bypasses : (Fits : Bypass → Type 0) (spelling : Bypass → List ℕ) → IsOne Fits spelling → IsOne (BypassesFit Fits) (list_bytes (bypass_row_bytes spelling))
one_bypasses Fits spelling own = one_table nat_cmp (PairFits IsShort Fits) (bypass_row_bytes spelling) (one_pair IsShort Fits short_bytes spelling one_short own)

pub one_paths : IsOne PathsFit (list_bytes path_row_bytes)
one_paths = one_table key_cmp (PairFits KeyFits PathFits) path_row_bytes (one_pair KeyFits PathFits key_bytes path_bytes one_key one_path)

pub one_resvs : IsOne ResvsFit (list_bytes resv_row_bytes)
one_resvs = one_table key_cmp (PairFits KeyFits ResvFits) resv_row_bytes (one_pair KeyFits ResvFits key_bytes resv_bytes one_key one_resv)

pub one_repairs : IsOne RepairsFit (list_bytes repair_row_bytes)
one_repairs = one_table key_cmp (PairFits KeyFits RepairFits) repair_row_bytes (one_pair KeyFits RepairFits key_bytes repair_bytes one_key one_repair)

pub one_promises : IsOne PromisesFit (list_bytes promise_row_bytes)
one_promises = one_table key_cmp (PairFits KeyFits AssignmentFits) promise_row_bytes (one_pair KeyFits AssignmentFits key_bytes assignment_bytes one_key one_assignment)

pub one_labels : IsOne LabelsFit (list_bytes label_bytes)
one_labels = one_table key_cmp LabelRowFits label_bytes (one_pair KeyFits IsWord key_bytes word_bytes one_key one_word)

pub one_resting : IsOne RestingFit (list_bytes resting_row_bytes)
one_resting = one_table nat_cmp (PairFits IsWord IsLong) resting_row_bytes (one_pair IsWord IsLong word_bytes long_bytes one_word one_long)

-- ---- what a router knows

abbrev pub LinkPartsFit : Bool × (ℕ × List (ℕ × Bool)) → Type 0
LinkPartsFit = PairFits IsAny (PairFits IsLong UpFits)

abbrev pub link_part_bytes : Bool × (ℕ × List (ℕ × Bool)) → List ℕ
link_part_bytes = pair_bytes flag_bytes (pair_bytes long_bytes (list_bytes up_bytes))

pub one_link_state : IsOne LinkStateFits link_state_bytes
one_link_state = one_made IsAny link_state_parts link_state_bytes LinkPartsFit link_part_bytes link_state_told (λ l. refl)
    (one_pair IsAny (PairFits IsLong UpFits) flag_bytes (pair_bytes long_bytes (list_bytes up_bytes)) one_flag (one_pair IsLong UpFits long_bytes (list_bytes up_bytes) one_long one_up))

module _ (Fits : Bypass → Type 0) (spelling : Bypass → List ℕ) where
  abbrev pub NodePartsFit : NodeOf → Type 0
  NodePartsFit = PairFits RoutesFit (PairFits TunnelsFit (BypassesFit Fits))

  abbrev pub node_part_bytes : NodeOf → List ℕ
  node_part_bytes = pair_bytes (list_bytes route_row_bytes) (pair_bytes (list_bytes tunnel_row_bytes) (list_bytes (bypass_row_bytes spelling)))

  pub one_node_state : IsOne Fits spelling → IsOne (NodeStateFits Fits) (node_state_bytes spelling)
  one_node_state own = one_made IsAny node_state_parts (node_state_bytes spelling) NodePartsFit node_part_bytes node_state_told (λ n. refl)
      (one_pair RoutesFit (PairFits TunnelsFit (BypassesFit Fits)) (list_bytes route_row_bytes) (pair_bytes (list_bytes tunnel_row_bytes) (list_bytes (bypass_row_bytes spelling))) one_routes
      (one_pair TunnelsFit (BypassesFit Fits) (list_bytes tunnel_row_bytes) (list_bytes (bypass_row_bytes spelling)) one_tunnels (one_bypasses Fits spelling own)))

module _ (Fits : List (Key × Assignment) → Type 0) (spelling : List (Key × Assignment) → List ℕ) where
  abbrev pub LspPartsFit : LspsOf → Type 0
  LspPartsFit = PairFits PathsFit (PairFits ResvsFit (PairFits RepairsFit Fits))

  abbrev pub lsp_part_bytes : LspsOf → List ℕ
  lsp_part_bytes = pair_bytes (list_bytes path_row_bytes) (pair_bytes (list_bytes resv_row_bytes) (pair_bytes (list_bytes repair_row_bytes) spelling))

  pub one_lsp_state : IsOne Fits spelling → IsOne (LspStateFits Fits) (lsp_state_bytes spelling)
  one_lsp_state own = one_made IsAny lsp_state_parts (lsp_state_bytes spelling) LspPartsFit lsp_part_bytes lsp_state_told (λ l. refl)
      (one_pair PathsFit (PairFits ResvsFit (PairFits RepairsFit Fits)) (list_bytes path_row_bytes) (pair_bytes (list_bytes resv_row_bytes) (pair_bytes (list_bytes repair_row_bytes) spelling)) one_paths
      (one_pair ResvsFit (PairFits RepairsFit Fits) (list_bytes resv_row_bytes) (pair_bytes (list_bytes repair_row_bytes) spelling) one_resvs
      (one_pair RepairsFit Fits (list_bytes repair_row_bytes) spelling one_repairs own)))

module _ (Fits : List (ℕ × ℕ) → Type 0) (spelling : List (ℕ × ℕ) → List ℕ) where
  abbrev pub LabelPartsFit : LabelsOf → Type 0
  LabelPartsFit = PairFits LabelsFit (PairFits Fits SentFits)

  abbrev pub label_part_bytes : LabelsOf → List ℕ
  label_part_bytes = pair_bytes (list_bytes label_bytes) (pair_bytes spelling sent_bytes)

  pub one_label_state : IsOne Fits spelling → IsOne (LabelStateFits Fits) (label_state_bytes spelling)
  one_label_state own = one_made IsAny label_state_parts (label_state_bytes spelling) LabelPartsFit label_part_bytes label_state_told (λ l. refl)
      (one_pair LabelsFit (PairFits Fits SentFits) (list_bytes label_bytes) (pair_bytes spelling sent_bytes) one_labels (one_pair Fits SentFits spelling sent_bytes own one_sent))

module _ (Bypasses : Bypass → Type 0) (bypass_bytes : Bypass → List ℕ) (Promises : List (Key × Assignment) → Type 0) (promise_bytes : List (Key × Assignment) → List ℕ)
    (Resting : List (ℕ × ℕ) → Type 0) (resting_bytes : List (ℕ × ℕ) → List ℕ) where
  abbrev pub StatePartsFit : StateOf → Type 0
  StatePartsFit = PairFits LinkStateFits (PairFits (NodeStateFits Bypasses) (PairFits (LspStateFits Promises) (LabelStateFits Resting)))

  abbrev pub state_part_bytes : StateOf → List ℕ
  state_part_bytes = pair_bytes link_state_bytes (pair_bytes (node_state_bytes bypass_bytes) (pair_bytes (lsp_state_bytes promise_bytes) (label_state_bytes resting_bytes)))

  pub one_state : IsOne Bypasses bypass_bytes → IsOne Promises promise_bytes → IsOne Resting resting_bytes → IsOne (StateFits Bypasses Promises Resting) (state_bytes bypass_bytes promise_bytes resting_bytes)
  one_state a b c = one_made IsAny state_parts (state_bytes bypass_bytes promise_bytes resting_bytes) StatePartsFit state_part_bytes state_told (λ s. refl)
      (one_pair LinkStateFits (PairFits (NodeStateFits Bypasses) (PairFits (LspStateFits Promises) (LabelStateFits Resting))) link_state_bytes
      (pair_bytes (node_state_bytes bypass_bytes) (pair_bytes (lsp_state_bytes promise_bytes) (label_state_bytes resting_bytes))) one_link_state
      (one_pair (NodeStateFits Bypasses) (PairFits (LspStateFits Promises) (LabelStateFits Resting)) (node_state_bytes bypass_bytes) (pair_bytes (lsp_state_bytes promise_bytes) (label_state_bytes resting_bytes))
      (one_node_state Bypasses bypass_bytes a)
      (one_pair (LspStateFits Promises) (LabelStateFits Resting) (lsp_state_bytes promise_bytes) (label_state_bytes resting_bytes) (one_lsp_state Promises promise_bytes b) (one_label_state Resting resting_bytes c))))

-- ---- entries

pub one_frame : IsOne FrameFits frame_bytes
one_frame = one_made IsAny frame_parts frame_bytes (PairFits IsShort Counts) (pair_bytes short_bytes octet_bytes) frame_told (λ f. refl) (one_pair IsShort Counts short_bytes octet_bytes one_short one_octets)

pub one_label : IsOne LabelRowFits label_bytes
one_label = one_pair KeyFits IsWord key_bytes word_bytes one_key one_word

one_refusal : IsOne RefusalFits refusal_bytes
one_refusal = one_made IsNamed number_of refusal_bytes IsByte byte_bytes refusal_told (λ r. refl) one_byte

abbrev error_bytes : ℕ × ℕ → List ℕ
error_bytes x = pair_bytes byte_bytes short_bytes x

abbrev nothing_bytes : Unit {0} → List ℕ
nothing_bytes x = []

abbrev RefusedOf : Type 0
RefusedOf = OneOf (ℕ × ℕ) Refusal

abbrev RefusedFits : RefusedOf → Type 0
RefusedFits = BothFit 1 no_tag (PairFits IsByte IsShort) RefusalFits

abbrev refused_tag : RefusedOf → ℕ
refused_tag x = both_tag 1 no_tag no_tag x

abbrev refused_fields : RefusedOf → List ℕ
refused_fields x = both_fields error_bytes refusal_bytes x

one_refused : IsOneCase RefusedFits refused_tag refused_fields
one_refused = one_both 1 (PairFits IsByte IsShort) RefusalFits no_tag no_tag error_bytes refusal_bytes
    (one_only (PairFits IsByte IsShort) error_bytes (one_pair IsByte IsShort byte_bytes short_bytes one_byte one_short)) (one_only RefusalFits refusal_bytes one_refusal)

abbrev pub reply_tag : OneOf (Unit {0}) RefusedOf → ℕ
reply_tag x = both_tag 1 no_tag refused_tag x

abbrev pub reply_fields : OneOf (Unit {0}) RefusedOf → List ℕ
reply_fields x = both_fields nothing_bytes refused_fields x

abbrev pub ReplyPartsFit : OneOf (Unit {0}) RefusedOf → Type 0
ReplyPartsFit = BothFit 1 no_tag NothingFits RefusedFits

pub reply_spelled : (reply : Reply) → reply_bytes reply ≡ choice_bytes 0 reply_tag reply_fields (reply_parts reply)
reply_spelled replies.Done = refl
reply_spelled (replies.Error e) = refl
reply_spelled (replies.Refused why) = refl

pub one_reply : IsOne ReplyFits reply_bytes
one_reply = one_made IsAny reply_parts reply_bytes ReplyPartsFit (choice_bytes 0 reply_tag reply_fields) reply_told reply_spelled
    (one_choice 0 ReplyPartsFit reply_tag reply_fields (one_both 1 NothingFits RefusedFits no_tag refused_tag nothing_bytes refused_fields (one_only NothingFits nothing_bytes one_nothing) one_refused))

abbrev outcome_part_bytes : OutcomeOf → List ℕ
outcome_part_bytes x = pair_bytes (list_bytes label_bytes) (pair_bytes reply_bytes (list_bytes frame_bytes)) x

one_outcome : IsOne OutcomeFits outcome_part_bytes
one_outcome = one_pair (ListFits LabelRowFits) (PairFits ReplyFits (ListFits FrameFits)) (list_bytes label_bytes) (pair_bytes reply_bytes (list_bytes frame_bytes)) (one_list LabelRowFits label_bytes one_label)
    (one_pair ReplyFits (ListFits FrameFits) reply_bytes (list_bytes frame_bytes) one_reply (one_list FrameFits frame_bytes one_frame))

module _ (Fits : List ℕ → Type 0) (spelling : List ℕ → List ℕ) where
  abbrev pub EntryPartsFit : EntryOf → Type 0
  EntryPartsFit = PairFits IsShort (PairFits Fits OutcomeFits)

  abbrev pub entry_part_bytes : EntryOf → List ℕ
  entry_part_bytes = pair_bytes short_bytes (pair_bytes spelling outcome_part_bytes)

  pub one_entry : IsOne Fits spelling → IsOne (EntryFits Fits) (entry_bytes spelling)
  one_entry own = one_made IsAny entry_parts (entry_bytes spelling) EntryPartsFit entry_part_bytes entry_told (λ e. refl)
      (one_pair IsShort (PairFits Fits OutcomeFits) short_bytes (pair_bytes spelling outcome_part_bytes) one_short (one_pair Fits OutcomeFits spelling outcome_part_bytes own one_outcome))

-- the bytes of events, as they stand
pub one_event_text : IsOne EventTextFits same_text
one_event_text = one_text UnreadFits unread_bytes one_unread
