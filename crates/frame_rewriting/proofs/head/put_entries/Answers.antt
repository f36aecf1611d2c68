-- One entry more is written, in front of those below it.
use Rattle.std.proofs.Common.{◌≡◌, ◌≤◌, ◌+◌, ◌-◌, ◌∷◌, ◌++◌, ℕ, List, length, drop, take, get_or, ap, sym, ◌∙◌, arith}
use Rattle.std.proofs.lemmas.List.{drop_more, get_or-take, length-drop, length-take-le, take-take}
use Rattle.byteorder.specs.Endian.{big_bytes}
use Rattle.label_stacks.specs.declared.entry.StackEntry.{StackEntry}
use Rattle.label_stacks.specs.Entries.{word_of}
use Rattle.label_stacks.specs.Stacks.{bottom_above, stack_bytes}
use Rattle.frame_rewriting.proofs.head.put_entries.Goals as goal

-- the bytes of the entry with so many below it stand before theirs
bytes_more : (entries rest : List StackEntry) (m n below : ℕ) (d : StackEntry) → m + 1 ≡ n → below + n ≡ length entries → rest ≡ take n entries →
    big_bytes 4 (word_of (get_or rest m d) (bottom_above below)) ++ stack_bytes (drop n entries) ≡ stack_bytes (drop m entries)
bytes_more entries rest m n below d one all part =
    let first : get_or rest m d ≡ get_or entries m d = ap (λ (r : List StackEntry). get_or r m d) part ∙ get_or-take n entries m d (omega arith) in
    let others : drop m entries ≡ get_or entries m d ∷ drop n entries = drop_more entries m d (omega arith) ∙ ap (λ (k : ℕ). get_or entries m d ∷ drop k entries) one in
    let left : below ≡ length (drop n entries) = omega (arith, length-drop n entries) in
    ap (λ (e : StackEntry). big_bytes 4 (word_of e (bottom_above below)) ++ stack_bytes (drop n entries)) first
    ∙ ap (λ (k : ℕ). big_bytes 4 (word_of (get_or entries m d) (bottom_above k)) ++ stack_bytes (drop n entries)) left
    ∙ sym (ap stack_bytes others)

-- so they do in the buffer
written_more : (entries rest : List StackEntry) (m n below start word : ℕ) (before after behind : List ℕ) (d : StackEntry) → m + 1 ≡ n → below + n ≡ length entries → rest ≡ take n entries →
    4 ≤ start → word ≡ word_of (get_or rest m d) (bottom_above below) → drop start before ≡ stack_bytes (drop n entries) ++ behind →
    drop (start - 4) after ≡ big_bytes 4 word ++ drop (start - 4 + 4) before → drop (start - 4) after ≡ stack_bytes (drop m entries) ++ behind
written_more entries rest m n below start word before after behind d one all part room says was now =
    let same : start - 4 + 4 ≡ start = omega arith in
    now
    ∙ ap (λ (k : ℕ). big_bytes 4 word ++ drop k before) same
    ∙ ap (λ (b : List ℕ). big_bytes 4 word ++ b) was
    ∙ ap (λ (x : ℕ). big_bytes 4 x ++ stack_bytes (drop n entries) ++ behind) says
    ∙ ap (λ (b : List ℕ). b ++ behind) (bytes_more entries rest m n below d one all part)

pub loop-rest-preserved : goal.loop-rest-preserved
loop-rest-preserved c =
    let entries = c.args.entries.now in
    let rest = c.loop-rest.rest.now in
    let n = length rest in
    let m = length rest - 1 in
    let some : 1 ≤ n = c.in-len1-up.len_at_least in
    let d : StackEntry = record { label = 0; class = 0; ttl = 0 } in
    let part = c.loop-rest.invariant.0 in
    let size : length (take m rest) ≡ m = length-take-le m rest (omega arith) in
    rw size (
      ap (λ (r : List StackEntry). take m r) part ∙ take-take m n entries (omega arith),
      omega arith,
      omega arith,
      written_more entries rest m n c.loop-rest.below c.loop-rest.start c.word_above.result c.loop-rest.buffer c.put_word.new.buffer (drop c.args.end c.args.buffer.now) d (omega arith) (omega arith) part (omega arith) c.word_above.ensures c.loop-rest.invariant.3 c.put_word.ensures,
      λ k e h. rw (get_or-take m rest k e h) (c.loop-rest.invariant.4 k e (omega arith)),
    )
