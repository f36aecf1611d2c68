-- The steps that keep the rule of a published table.
use Rattle.std.proofs.Common.{◌≡◌, ◌≢◌, ⊎_elim, ℕ, ◌+◌, ◌-◌, ◌^◌, ◌<◌, ◌≤◌, Bool, true, false, cond, leb, List, [], ◌∷◌, ◌++◌, Option, None, length, fold, refl, ap, subst, sym, ◌∙◌, arith}
use mathlib.Core.Option.{some, some-ne-none}
use lib.ListN.{get_elem?}
use Rattle.std.specs.FinMap.Entries.{find}
use Rattle.std.specs.List.{All}
use Rattle.std.specs.Ordering.{nat_cmp}
use Rattle.std.specs.Result.{IsOk, MatchResult}
use Rattle.std.specs.declared.result.Result.{Result}
use Rattle.std.specs.declared.result.Result.TheVariants.{Err, Ok}
use Rattle.std.proofs.Math.Nat.{mod-eq_of_lt}
use Rattle.std.proofs.lemmas.Bool.{false≢true, leb-true, leb-false}
use Rattle.std.proofs.lemmas.List.{append-nil, append_assoc, length-append, length-replicate}
use Rattle.std.proofs.lemmas.List.Elements.{All-append, All-cons, All-head, All-nil, All-tail}
use Rattle.atomic_table.proofs.Lists.{at_set, at_snoc}
use Rattle.left_right.specs.Register.{Admits, TurnsAt}
use Rattle.forwarding_table.specs.declared.action.Action.{Action}
use Rattle.sorted_rows.specs.Edits.{over}
use Rattle.lookup_plane.specs.Changes.{IsChangeOf, StartsWith, after_rows, look, look_tunnel}
use Rattle.lookup_plane.specs.ChangesLaws.{after_rows-writes, find-none, look_added, look_none, look_tunnel_added, look_tunnel_none, starts_more, starts_same, starts_whole}
use Rattle.lookup_plane.specs.Published.{Adds, HasSlots, IsPublished, IsWriting, Looks, Shows, content}
use Rattle.lookup_plane.specs.Slots.{absorbed, emptied, opening, slot_at, written}
use Rattle.lookup_plane.specs.declared.change.TableChange.{TableChange}
use Rattle.lookup_plane.specs.declared.rule.View.{View}
use Rattle.lookup_plane.specs.declared.slots.PublishedTable.{PublishedTable}
use Rattle.lookup_plane.specs.declared.slots.Slots.{Slots}
use Rattle.lookup_plane.proofs.Writes.{length-emptied, length-written, slot_at-empty, slot_at-emptied, slot_at-outside, slot_at-written}

module _ (first number : ℕ) (cleared : Bool) (rows : List (ℕ × Option Action)) (slots : List (Option Action)) (was : Option Action) (is : slot_at first slots number ≡ was) where
  -- a number with a slot has what the rows say, or what it had
  absorbed_within : first ≤ number → number - first < length slots → slot_at first (written first rows (emptied cleared slots)) number ≡ after_rows cleared rows number was
  absorbed_within from within =
      slot_at-written first number rows (emptied cleared slots) from (rw (length-emptied cleared slots) within)
      ∙ ap (over (find nat_cmp number rows)) (slot_at-emptied first number cleared slots from within ∙ ap (cond cleared None) is)

  nothing : (t : Bool) → was ≡ None → cond t None was ≡ None
  nothing true none = refl
  nothing false none = none

  -- one without a slot has nothing, where no row has it
  absorbed_outside : (first ≤ number → length slots ≤ number - first) → find nat_cmp number rows ≡ None → slot_at first (written first rows (emptied cleared slots)) number ≡ after_rows cleared rows number was
  absorbed_outside past none =
      let long : length (written first rows (emptied cleared slots)) ≡ length slots = length-written first rows (emptied cleared slots) ∙ length-emptied cleared slots in
      let before : was ≡ None = sym is ∙ slot_at-outside first number slots past in
      slot_at-outside first number (written first rows (emptied cleared slots)) (λ from. rw long (past from))
      ∙ sym (ap (λ found. over found (cond cleared None was)) none ∙ nothing cleared before)

  -- so each number has what it has after the change
  pub slot_absorbed : ((first ≤ number → length slots ≤ number - first) → find nat_cmp number rows ≡ None) → slot_at first (written first rows (emptied cleared slots)) number ≡ after_rows cleared rows number was
  slot_absorbed missing =
      elim (leb first number) as (λ t. leb first number ≡ t → slot_at first (written first rows (emptied cleared slots)) number ≡ after_rows cleared rows number was) [
        | false ↦ λ below. let past : first ≤ number → length slots ≤ number - first = λ from. absurd (omega (arith, from, leb-false first number below)) in absorbed_outside past (missing past)
        | true ↦ λ from.
            elim (leb (length slots) (number - first)) as (λ t. leb (length slots) (number - first) ≡ t → slot_at first (written first rows (emptied cleared slots)) number ≡ after_rows cleared rows number was) [
              | true ↦ λ past. let beyond : first ≤ number → length slots ≤ number - first = λ _. leb-true (length slots) (number - first) past in absorbed_outside beyond (missing beyond)
              | false ↦ λ within. absorbed_within (leb-true first number from) (leb-false (length slots) (number - first) within)
            ] refl
      ] refl

module _ (first last : ℕ) where
  -- slots stay where they are
  pub has_absorbed : (s : PublishedTable) (change : TableChange) → HasSlots first last s → HasSlots first last (absorbed s change)
  has_absorbed s change has = record {
    first = has.first;
    labels = rw (length-written s.first_label change.labels (emptied change.cleared s.labels) ∙ length-emptied change.cleared s.labels) has.labels;
    tunnels = length-written 0 change.tunnels (emptied change.cleared s.tunnels) ∙ length-emptied change.cleared s.tunnels ∙ has.tunnels;
  }

  -- what slots show after a change
  pub shows_absorbed : (s : PublishedTable) (changes : List TableChange) (change : TableChange) → HasSlots first last s → IsChangeOf first last change → length changes + 1 < 2 ^ 64 → Shows s changes → Shows (absorbed s change) (changes ++ change ∷ [])
  shows_absorbed s changes change has is few shows = record {
    labels = λ label.
        slot_absorbed s.first_label label change.cleared change.labels s.labels (look changes label) (shows.labels label)
        (λ past. find-none (λ n. (first ≤ n) × (n ≤ last)) label change.labels is.range (λ within. absurd (omega (arith, within.0, within.1, has.first, has.labels, past (omega (arith, within.0, has.first))))))
        ∙ sym (look_added changes change label);
    tunnels = λ number small.
        slot_absorbed 0 number change.cleared change.tunnels s.tunnels (look_tunnel changes number) (shows.tunnels number small)
        (λ past. absurd (omega (arith, small, has.tunnels, past (omega arith))))
        ∙ sym (look_tunnel_added changes change number);
    counted = mod-eq_of_lt (rw shows.counted few) ∙ omega (arith, shows.counted, length-append changes (change ∷ []));
    writes = λ label. rw (look_added changes change label) (after_rows-writes change.cleared change.labels label (look changes label) is.labels (shows.writes label));
  }

  -- and after many
  pub shows_folded : (s : PublishedTable) (seen pending : List TableChange) → HasSlots first last s → All (IsChangeOf first last) pending → length seen + length pending < 2 ^ 64 → Shows s seen → Shows (fold absorbed s pending) (seen ++ pending) × HasSlots first last (fold absorbed s pending)
  shows_folded s seen [] has are few shows = (rw (append-nil seen) shows, has)
  shows_folded s seen (change ∷ pending) has are few shows =
      let is = All-head (IsChangeOf first last) change pending are in
      let rest = shows_folded (absorbed s change) (seen ++ change ∷ []) pending (has_absorbed s change has) (All-tail (IsChangeOf first last) change pending are)
      (omega (arith, few, length-append seen (change ∷ []))) (shows_absorbed s seen change has is (omega (arith, few)) shows) in
      (subst (Shows (fold absorbed (absorbed s change) pending)) (append_assoc seen (change ∷ []) pending) rest.0, rest.1)

  -- The writer has seen all: what it publishes is added to the one list.
  pub adds : (seat : ℕ) (v : View) (x next : Slots) (pending : List TableChange) → HasSlots first last (content x) → All (IsChangeOf first last) pending → length v.seen + length pending < 2 ^ 64 → Shows (content x) v.seen
      → content next ≡ fold absorbed (content x) pending → TurnsAt IsPublished seat v x next (λ v x y w. Adds pending v y w)
  adds seat v x next pending has are few shows is views kept at =
      let whole : kept.changes ≡ v.seen = starts_whole kept.changes v.seen (kept.seen seat v at) (sym shows.counted ∙ kept.shows.counted) in
      let shown : Shows (content next) (v.seen ++ pending) = rw is (shows_folded (content x) v.seen pending has are few shows).0 in
      let w : View = record { seen = v.seen ++ pending } in (
        w,
        record {
          changes = v.seen ++ pending;
          shows = shown;
          seen = λ j u e.
              ⊎_elim (λ (t : (j ≡ seat) × (w ≡ u)). subst (λ z. StartsWith (v.seen ++ pending) z.seen) t.1 (starts_same (v.seen ++ pending)))
              (λ (t : (j ≢ seat) × (get_elem? views j ≡ some u)). subst (λ all. StartsWith (all ++ pending) u.seen) whole (starts_more kept.changes pending u.seen (kept.seen j u t.1)))
              (at_set views seat j w u e);
        },
        record { added = refl; shows = shown },
      )

-- Whoever looks sees the one list.
pub looks : (seat : ℕ) (v : View) (x : Slots) → TurnsAt IsPublished seat v x x (λ v x y w. Looks v x w)
looks seat v x views kept at =
    let w : View = record { seen = kept.changes } in (
      w,
      record {
        changes = kept.changes;
        shows = kept.shows;
        seen = λ j u e.
            ⊎_elim (λ (t : (j ≡ seat) × (w ≡ u)). subst (λ z. StartsWith kept.changes z.seen) t.1 (starts_same kept.changes))
            (λ (t : (j ≢ seat) × (get_elem? views j ≡ some u)). kept.seen j u t.1)
            (at_set views seat j w u e);
      },
      record { later = kept.seen seat v at; shows = kept.shows },
    )

-- Whoever comes has seen nothing.
pub admits : Admits IsPublished (record { seen = [] })
admits x views kept = record {
  changes = kept.changes;
  shows = kept.shows;
  seen = λ j u e.
      ⊎_elim (λ (t : get_elem? views j ≡ some u). kept.seen j u t) (λ (t : record { seen = [] } ≡ u). subst (λ (z : View). StartsWith kept.changes z.seen) t (kept.changes, refl))
      (at_snoc views (record { seen = [] }) u j e);
}

-- what slots show when a table is opened
pub shows_opening : (first labels : ℕ) → Shows (opening first labels) []
shows_opening first labels = record {
  labels = λ label. slot_at-empty first label labels ∙ sym (look_none label);
  tunnels = λ number small. slot_at-empty 0 number (2 ^ 16) ∙ sym (look_tunnel_none number);
  counted = refl;
  writes = λ label. rw (look_none label) tt;
}

-- what an answer that is sure tells
pub ok_part : {A E : Type 0} (P Q : Type 0) (r : Result A E) → IsOk r → MatchResult r (λ _. P) (λ _. Q) → P
ok_part P Q (Ok _) ok part = part
ok_part P Q (Err _) ok part = absurd (false≢true ok)

-- When a table is opened, the rule holds of the writer alone.
pub opens : (x : Slots) (first labels : ℕ) → content x ≡ opening first labels → IsPublished x (record { seen = [] } ∷ [])
opens x first labels is = record {
  changes = [];
  shows = subst (λ s. Shows s []) (sym is) (shows_opening first labels);
  seen = λ j u e.
      ⊎_elim (λ (t : get_elem? [] j ≡ some u). absurd (some-ne-none u (sym t))) (λ (t : record { seen = [] } ≡ u). subst (λ (z : View). StartsWith [] z.seen) t (starts_same []))
      (at_snoc [] (record { seen = [] }) u j e);
}

-- And the writer has a slot for each label.
pub writes_opening : (x : Slots) (first last : ℕ) → first ≤ last → content x ≡ opening first (last - first + 1) → IsWriting first last x [] []
writes_opening x first last from is = record {
  shows = subst (λ s. Shows s []) (sym is) (shows_opening first (last - first + 1));
  slots = subst (HasSlots first last) (sym is) (record {
    first = refl;
    labels = omega (arith, from, length-replicate {A = Option Action} (last - first + 1) None);
    tunnels = length-replicate {A = Option Action} (2 ^ 16) None;
  });
  pending = All-nil (IsChangeOf first last);
}

-- what the writer has after an append
pub writes_appended : (first last : ℕ) (x : Slots) (seen before after : List TableChange) (change : TableChange) {A : Type 0} (r : Result A TableChange) → IsWriting first last x seen before → IsChangeOf first last change
    → MatchResult r (λ _. after ≡ before ++ change ∷ []) (λ back. (back ≡ change) × (after ≡ before)) → IsWriting first last x seen after
writes_appended first last x seen before after change (Ok _) writing is then = record {
  shows = writing.shows;
  slots = writing.slots;
  pending = rw then (All-append (IsChangeOf first last) before (change ∷ []) writing.pending (All-cons (IsChangeOf first last) change [] is (All-nil (IsChangeOf first last))));
}
writes_appended first last x seen before after change (Err _) writing is then = record { shows = writing.shows; slots = writing.slots; pending = rw then.1 writing.pending }
