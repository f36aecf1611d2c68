-- What is sent is the stack that was read, and what stands behind it the payload that came.
use Rattle.std.proofs.Common.{◌≡◌, ◌+◌, ◌*◌, ◌++◌, ◌∷◌, ℕ, List, length, drop, ap, sym, ◌∙◌, arith}
use Rattle.std.proofs.lemmas.List.{drop-drop}
use Rattle.label_stacks.specs.declared.entry.StackEntry.{StackEntry}
use Rattle.label_stacks.specs.Stacks.{stack_bytes, stack_of, words_at}
use Rattle.link_frames.specs.Frames.{count_of, payload_part}
use Rattle.forwarding_table.specs.declared.forwarding.Forwarding.{Forwarding}
use Rattle.forwarding_table.specs.declared.forwarding.Forwarding.TheVariants.{Send}
use Rattle.frame_rewriting.specs.Rewriting.{GoesOn, IsLabelled}
use Rattle.frame_rewriting.proofs.rewriting.rewrite.Goals as goal

goes : (forward : List StackEntry → Forwarding) (bytes body : List ℕ) (count link : ℕ) (came out : List StackEntry) → IsLabelled bytes → count ≡ count_of bytes → body ≡ drop 2 bytes →
    came ≡ stack_of (words_at count body) → Send link out ≡ forward came → GoesOn forward bytes link out
goes forward bytes body count link came out is counted behind read sent = record {
  labelled = is;
  sent = ap forward (sym (read ∙ ap stack_of (ap (λ (n : ℕ). words_at n body) counted ∙ ap (λ (b : List ℕ). words_at (count_of bytes) b) behind))) ∙ sym sent;
}

payload_stays : (buffer : List ℕ) (count end : ℕ) → count ≡ count_of (drop 32 buffer) → end ≡ 34 + 4 * count → drop end buffer ≡ payload_part (drop 32 buffer)
payload_stays buffer count end counted is =
    let far : end ≡ 32 + (2 + 4 * count_of (drop 32 buffer)) = omega (arith, counted, is) in
    ap (λ (n : ℕ). drop n buffer) far
    ∙ sym (drop-drop (4 * count_of (drop 32 buffer)) 2 (drop 32 buffer) ∙ drop-drop (2 + 4 * count_of (drop 32 buffer)) 32 buffer)

pub returns-in-Send-clause-rewritten : goal.returns-in-Send-clause-rewritten
returns-in-Send-clause-rewritten g c =
    let buffer = c.args.buffer.now in
    let count = c.in_ok-count.count in
    let is = rw c.split_at.ensures.back at c.in_ok-count.ensures.labelled in
    let counted = rw c.split_at.ensures.back at c.in_ok-count.ensures.count in
    let behind = rw c.split_at.ensures.back at c.split_at-2.ensures.back in
    record {
      stack = c.in-Send.stack;
      goes_on = goes (g.F.Forwards.forwarded c.args.labels.now) (drop 32 buffer) c.split_at-2.result.1.now count c.in-Send.link c.stack_of-stack.result c.in-Send.stack is counted behind c.stack_of-stack.ensures c.in-Send.ensures;
      inside = omega (arith, c.in_ok-count.ensures.whole);
      leaves = c.put_head-start.ensures.head ∙ ap (λ (b : List ℕ). 2 ∷ length c.in-Send.stack ∷ (stack_bytes c.in-Send.stack ++ b)) (payload_stays buffer count (34 + 4 * count) counted (omega arith));
    }
