-- The kind and the count stand before the entries.
use Rattle.std.proofs.Common.{◌≡◌, ◌≤◌, ◌+◌, ◌-◌, ◌∷◌, ◌++◌, ℕ, List, length, drop, set, get_or, ap, ◌∙◌, arith}
use Rattle.std.proofs.lemmas.List.{drop_more, drop-set, drop-set-add}
use Rattle.label_stacks.specs.Stacks.{stack_bytes}
use Rattle.frame_rewriting.proofs.head.put_head.Goals as goal

two_written : (bytes rest : List ℕ) (at kind count : ℕ) → 2 ≤ at → at ≤ length bytes → drop at bytes ≡ rest →
    drop (at - 2) (set (set bytes (at - 2) kind) (at - 2 + 1) count) ≡ kind ∷ count ∷ rest
two_written bytes rest at kind count room inside is =
    let first : drop (at - 2) (set bytes (at - 2) kind) ≡ kind ∷ drop (at - 2 + 1) bytes = drop-set bytes (at - 2) kind (omega arith) in
    let second : drop (at - 2 + 1) bytes ≡ get_or bytes (at - 2 + 1) 0 ∷ drop (at - 2 + 1 + 1) bytes = drop_more bytes (at - 2 + 1) 0 (omega arith) in
    let last : at - 2 + 1 + 1 ≡ at = omega arith in
    drop-set-add (at - 2) (set bytes (at - 2) kind) 1 count
    ∙ ap (λ (b : List ℕ). set b 1 count) (first ∙ ap (λ (b : List ℕ). kind ∷ b) second)
    ∙ ap (λ (b : List ℕ). kind ∷ count ∷ b) (ap (λ (n : ℕ). drop n bytes) last ∙ is)

pub returns-clause-head : goal.returns-clause-head
returns-clause-head c =
    let entries = c.as_slice-entries.result.now in
    let few : length entries ≤ 8 = rw c.as_slice-entries.ensures.entries c.as_slice-entries.ensures.fits.few in
    let written : drop (c.put_entries-start.result - 2) (set (set c.put_entries-start.new.buffer (c.put_entries-start.result - 2) 2) (c.put_entries-start.result - 2 + 1) (length entries)) ≡ 2 ∷ length entries ∷ (stack_bytes entries ++ drop c.args.end c.args.buffer.now) =
    two_written c.put_entries-start.new.buffer (stack_bytes entries ++ drop c.args.end c.args.buffer.now) c.put_entries-start.result 2 (length entries) (omega arith) (omega arith) c.put_entries-start.ensures.entries in
    cc
