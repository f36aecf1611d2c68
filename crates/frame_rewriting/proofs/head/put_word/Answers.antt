-- The four bytes stand in their place, and what follows them is as it was.
use Rattle.std.proofs.Common.{◌≡◌, ◌≤◌, ◌+◌, ◌-◌, ◌++◌, ℕ, List, [], length, take, drop, ap, ◌∙◌, arith}
use Rattle.std.proofs.lemmas.List.{append-nil, drop-drop, drop_all, drop_at, length-drop, length-take-le, take_rest}
use Rattle.byteorder.specs.Endian.{big_bytes}
use Rattle.frame_rewriting.proofs.head.put_word.Goals as goal

word_written : (bytes front part : List ℕ) (at : ℕ) → at ≤ length bytes → part ≡ front ++ drop 4 (take (length bytes - at) (drop at bytes)) →
    drop at (take at bytes ++ (part ++ drop (length bytes - at) (drop at bytes))) ≡ front ++ drop (at + 4) bytes
word_written bytes front part at inside is =
    let none : drop (length bytes - at) (drop at bytes) ≡ [] = drop_all (length bytes - at) (drop at bytes) (omega (arith, length-drop at bytes)) in
    let rest : drop 4 (take (length bytes - at) (drop at bytes)) ≡ drop (at + 4) bytes = ap (λ (b : List ℕ). drop 4 b) (take_rest bytes at) ∙ drop-drop 4 at bytes in
    drop_at (take at bytes) (part ++ drop (length bytes - at) (drop at bytes)) at (length-take-le at bytes inside)
    ∙ ap (λ (b : List ℕ). part ++ b) none
    ∙ (append-nil part ∙ is ∙ ap (λ (b : List ℕ). front ++ b) rest)

pub returns : goal.returns
returns c = word_written c.args.buffer.now (big_bytes 4 c.args.word) c.write_u32.new.buf c.args.at (omega arith) c.write_u32.ensures
