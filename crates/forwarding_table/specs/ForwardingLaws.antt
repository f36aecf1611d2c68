-- What holds of whatever is delivered or sent.
use Rattle.std.specs.Prelude.{◌≡◌, ◌==◌, ◌<◌, ◌≤◌, ◌^◌, ◌&&◌, ◌||◌, ℕ, nat_le, nat_lt, true, false, cond, All, IfSome, List, [], ◌∷◌, flat_map, length, Option, Some, None}
use Rattle.std.specs.List.{AllByRecursion}
use Rattle.std.proofs.Common.{refl, ap, ◌∙◌, inl, inr, arith}
use Rattle.std.proofs.lemmas.Bool.{eqb-true, leb-true, leb-false, ltb-false, and_parts, or_cases}
use Rattle.std.proofs.lemmas.List.Elements.{All-append, All-cons, All-head, All-nil, All-tail}
use Rattle.sorted_rows.specs.ListLaws.{all-always, all-weaker}
use Rattle.label_stacks.specs.declared.entry.StackEntry.{StackEntry}
use Rattle.label_stacks.specs.Entries.{IsEntry}
use Rattle.label_stacks.specs.Stacks.{IsStack}
use Rattle.forwarding_table.specs.declared.action.Action.{Action}
use Rattle.forwarding_table.specs.declared.action.Action.TheVariants.{Swap, SwapPush, Pop, PushHead}
use Rattle.forwarding_table.specs.declared.forwarding.Fault.TheVariants.{HopLimit, TooLong}
use Rattle.forwarding_table.specs.declared.forwarding.Forwarding.TheVariants.{Deliver, Send, Drop}
use Rattle.forwarding_table.specs.Actions.{WritesLabels}
use Rattle.forwarding_table.specs.Forwarding.{IsSent, action_at, entry_for, forward_by, forward_of, passed_on, relabelled, written_for}
use Rattle.forwarding_table.specs.Labels.{IsLabel, explicit_null, implicit_null}

-- a label fits its field
pub label_fits : (label : ℕ) → IsLabel label → label < 2 ^ 20
label_fits label is =
    elim (or_cases ((label == explicit_null) || (label == implicit_null)) (nat_le 16 label && nat_le label 1048575) is) as (λ _. label < 2 ^ 20) [
      | inl null ↦ elim (or_cases (label == explicit_null) (label == implicit_null) null) as (λ _. label < 2 ^ 20) [
        | inl e ↦ omega (arith, eqb-true label explicit_null e)
        | inr e ↦ omega (arith, eqb-true label implicit_null e)
      ]
      | inr both ↦ omega (arith, leb-true label 1048575 (and_parts (nat_le 16 label) (nat_le label 1048575) both).1)
    ]

-- what holds of each part of a list holds of the whole
all-flat_map : {X A : Type 0} (P : A → Type 0) (f : X → List A) (xs : List X) → AllByRecursion (λ x. All P (f x)) xs → All P (flat_map f xs)
all-flat_map P f [] h = All-nil P
all-flat_map P f (x ∷ xs) h = All-append P (f x) (flat_map f xs) h.0 (all-flat_map P f xs h.1)

-- what holds of a label's entry holds of whatever is written for it
all-written_for : (P : StackEntry → Type 0) (last : StackEntry) (label : ℕ) → P (entry_for last label) → All P (written_for last label)
all-written_for P last label now =
    elim (label == implicit_null) as (λ t. All P (cond t [] (entry_for last label ∷ []))) [ true ↦ All-nil P | false ↦ All-cons P (entry_for last label) [] now (All-nil P) ]

-- and of whatever is written for all labels
pub all-written : (P : StackEntry → Type 0) (last : StackEntry) (labels : List ℕ) → AllByRecursion (λ label. P (entry_for last label)) labels → All P (flat_map (written_for last) labels)
all-written P last labels h =
    all-flat_map P (written_for last) labels (all-weaker (λ label. P (entry_for last label)) (λ label. All P (written_for last label)) (λ label now. all-written_for P last label now) labels h)

-- a label's entry fits its fields
pub entry_for-fits : (last : StackEntry) (label : ℕ) → IsEntry last → IsLabel label → IsEntry (entry_for last label)
entry_for-fits last label fits is = record {
  label = label_fits label is;
  class = fits.class;
  ttl = omega (arith, fits.ttl);
}

-- and so do the entries with labels in place of one
pub relabelled-fits : (labels : List ℕ) (last : StackEntry) (below : List StackEntry) → AllByRecursion IsLabel labels → IsEntry last → All IsEntry below → All IsEntry (relabelled labels last below)
relabelled-fits labels last below are fits rest =
    All-append IsEntry (flat_map (written_for last) labels) below (all-written IsEntry last labels (all-weaker IsLabel (λ label. IsEntry (entry_for last label)) (λ label is. entry_for-fits last label fits is) labels are)) rest

-- when a stack is passed on, and as what
passed_on-sent : (labels : List ℕ) (other : ℕ) (last : StackEntry) (below : List StackEntry) (link : ℕ) (out : List StackEntry) → passed_on labels other last below ≡ Send link out → (1 < last.ttl) × (length out ≤ 8) × (out ≡ relabelled labels last below)
passed_on-sent labels other last below link out sent =
    let entries = relabelled labels last below in
    elim (nat_le last.ttl 1) as (λ t. nat_le last.ttl 1 ≡ t → cond t (Drop HopLimit) (cond (nat_lt 8 (length (relabelled labels last below))) (Drop TooLong) (Send other (relabelled labels last below))) ≡ Send link out → (1 < last.ttl) × (length out ≤ 8) × (out ≡ relabelled labels last below)) [
      | true ↦ λ low goes. cc
      | false ↦ λ high goes.
          elim (nat_lt 8 (length entries)) as (λ t. nat_lt 8 (length (relabelled labels last below)) ≡ t → cond t (Drop TooLong) (Send other (relabelled labels last below)) ≡ Send link out → (1 < last.ttl) × (length out ≤ 8) × (out ≡ relabelled labels last below)) [
            | true ↦ λ long sends. cc
            | false ↦ λ fits sends.
                let same : out ≡ relabelled labels last below = cc in
                (omega (arith, leb-false last.ttl 1 high), rw same (omega (arith, ltb-false 8 (length entries) fits)), same)
          ] refl goes
    ] refl sent

-- it isn't delivered
passed_on-undelivered : (labels : List ℕ) (other : ℕ) (last : StackEntry) (below : List StackEntry) → passed_on labels other last below ≡ Deliver → ⊥
passed_on-undelivered labels other last below is =
    elim (nat_le last.ttl 1) as (λ t. cond t (Drop HopLimit) (cond (nat_lt 8 (length (relabelled labels last below))) (Drop TooLong) (Send other (relabelled labels last below))) ≡ Deliver → ⊥) [
      | true ↦ λ e. cc
      | false ↦ elim (nat_lt 8 (length (relabelled labels last below))) as (λ t. cond t (Drop TooLong) (Send other (relabelled labels last below)) ≡ Deliver → ⊥) [ true ↦ λ e. cc | false ↦ λ e. cc ]
    ] is

module _ (look : ℕ → Option Action) where
  -- a stack is sent as it is when one more entry on top of it is popped
  popped_first : (top : StackEntry) (below out : List StackEntry) → action_at look top ≡ Some Pop → IsSent look below out → IsSent look (top ∷ below) out
  popped_first top below out is sent = record {
    popped = top ∷ sent.popped;
    last = sent.last;
    below = sent.below;
    written = sent.written;
    came = ap (λ rest. top ∷ rest) sent.came;
    all_popped = All-cons (λ entry. action_at look entry ≡ Some Pop) top sent.popped is sent.all_popped;
    goes = sent.goes;
    lower = sent.lower;
    same_class = sent.same_class;
    few = sent.few;
  }

  -- an entry in whose place others are passed on is the last that is looked at
  passed_on-is_sent : (labels : List ℕ) (other : ℕ) (top : StackEntry) (below : List StackEntry) (link : ℕ) (out : List StackEntry) → passed_on labels other top below ≡ Send link out → IsSent look (top ∷ below) out
  passed_on-is_sent labels other top below link out sent =
      let facts = passed_on-sent labels other top below link out sent in
      let more : 1 < top.ttl = facts.0 in
      record {
        popped = [];
        last = top;
        below = below;
        written = flat_map (written_for top) labels;
        came = refl;
        all_popped = All-nil (λ entry. action_at look entry ≡ Some Pop);
        goes = facts.2;
        lower = all-written (λ entry. entry.ttl < top.ttl) top labels (all-always (λ label. (entry_for top label).ttl < top.ttl) (λ label. omega arith) labels);
        same_class = all-written (λ entry. entry.class ≡ top.class) top labels (all-always (λ label. (entry_for top label).class ≡ top.class) (λ label. refl) labels);
        few = facts.1;
      }

  sent_by : (action : Option Action) (top : StackEntry) (below : List StackEntry) (link : ℕ) (out : List StackEntry) → action_at look top ≡ action → (forward_of look below ≡ Send link out → IsSent look below out) → forward_by action top below (forward_of look below) ≡ Send link out → IsSent look (top ∷ below) out
  sent_by None top below link out is rest sent = cc
  sent_by (Some (Swap label other)) top below link out is rest sent = passed_on-is_sent (label ∷ []) other top below link out sent
  sent_by (Some (SwapPush inner outer other)) top below link out is rest sent = passed_on-is_sent (outer ∷ inner ∷ []) other top below link out sent
  sent_by (Some Pop) top below link out is rest sent = popped_first top below out is (rest sent)
  sent_by (Some (PushHead inner label other)) top below link out is rest sent = cc

  -- What is sent stands as `IsSent` says.
  pub forward_of-is_sent : (stack : List StackEntry) (link : ℕ) (out : List StackEntry) → forward_of look stack ≡ Send link out → IsSent look stack out
  forward_of-is_sent [] link out sent = cc
  forward_of-is_sent (top ∷ below) link out sent = sent_by (action_at look top) top below link out refl (forward_of-is_sent below link out) sent

  delivered_by : (action : Option Action) (top : StackEntry) (below : List StackEntry) → action_at look top ≡ action → (forward_of look below ≡ Deliver → All (λ entry. action_at look entry ≡ Some Pop) below) → forward_by action top below (forward_of look below) ≡ Deliver → All (λ entry. action_at look entry ≡ Some Pop) (top ∷ below)
  delivered_by None top below is rest delivered = cc
  delivered_by (Some (Swap label other)) top below is rest delivered = absurd (passed_on-undelivered (label ∷ []) other top below delivered)
  delivered_by (Some (SwapPush inner outer other)) top below is rest delivered = absurd (passed_on-undelivered (outer ∷ inner ∷ []) other top below delivered)
  delivered_by (Some Pop) top below is rest delivered = All-cons (λ entry. action_at look entry ≡ Some Pop) top below is (rest delivered)
  delivered_by (Some (PushHead inner label other)) top below is rest delivered = cc

  -- Of a stack that is delivered each entry is popped.
  pub delivered-popped : (stack : List StackEntry) → forward_of look stack ≡ Deliver → All (λ entry. action_at look entry ≡ Some Pop) stack
  delivered-popped [] delivered = All-nil (λ entry. action_at look entry ≡ Some Pop)
  delivered-popped (top ∷ below) delivered = delivered_by (action_at look top) top below refl (delivered-popped below) delivered

  -- And the other way round.
  pub popped-delivered : (stack : List StackEntry) → All (λ entry. action_at look entry ≡ Some Pop) stack → forward_of look stack ≡ Deliver
  popped-delivered [] all = refl
  popped-delivered (top ∷ below) all =
      ap (λ action. forward_by action top below (forward_of look below)) (All-head (λ entry. action_at look entry ≡ Some Pop) top below all)
      ∙ popped-delivered below (All-tail (λ entry. action_at look entry ≡ Some Pop) top below all)

  module _ (writes : (label : ℕ) → IfSome (look label) WritesLabels) where
    action_at-writes : (entry : StackEntry) → IfSome (action_at look entry) WritesLabels
    action_at-writes entry =
        elim (entry.label == explicit_null) as (λ t. IfSome (cond t (Some Pop) (look entry.label)) WritesLabels) [ true ↦ tt | false ↦ writes entry.label ]

    fits_by : (action : Option Action) (top : StackEntry) (below : List StackEntry) (link : ℕ) (out : List StackEntry) → IfSome action WritesLabels → IsEntry top → All IsEntry below → (forward_of look below ≡ Send link out → All IsEntry out) → forward_by action top below (forward_of look below) ≡ Send link out → All IsEntry out
    fits_by None top below link out are first others rest sent = cc
    fits_by (Some (Swap label other)) top below link out are first others rest sent =
        rw (passed_on-sent (label ∷ []) other top below link out sent).2 (relabelled-fits (label ∷ []) top below (are, tt) first others)
    fits_by (Some (SwapPush inner outer other)) top below link out are first others rest sent =
        rw (passed_on-sent (outer ∷ inner ∷ []) other top below link out sent).2 (relabelled-fits (outer ∷ inner ∷ []) top below (are.1, (are.0, tt)) first others)
    fits_by (Some Pop) top below link out are first others rest sent = rest sent
    fits_by (Some (PushHead inner label other)) top below link out are first others rest sent = cc

    entries_fit : (stack : List StackEntry) (link : ℕ) (out : List StackEntry) → All IsEntry stack → forward_of look stack ≡ Send link out → All IsEntry out
    entries_fit [] link out all sent = cc
    entries_fit (top ∷ below) link out all sent =
        fits_by (action_at look top) top below link out (action_at-writes top) (All-head IsEntry top below all) (All-tail IsEntry top below all) (entries_fit below link out (All-tail IsEntry top below all)) sent

    -- Where the actions write labels, what is sent is a stack again.
    pub forward_of-is_stack : (stack : List StackEntry) (link : ℕ) (out : List StackEntry) → IsStack stack → forward_of look stack ≡ Send link out → IsStack out
    forward_of-is_stack stack link out is sent = record {
      few = (forward_of-is_sent stack link out sent).few;
      entries = entries_fit stack link out is.entries sent;
    }
