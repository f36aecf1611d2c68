-- The two bytes stand in their place, and what follows them is as it was.
use Rattle.std.proofs.Common.{◌≡◌, ◌+◌, ◌-◌, ◌++◌, ℕ, List, [], length, take, drop, ap, ◌∙◌, arith}
use Rattle.std.proofs.lemmas.List.{append-nil, drop-drop, drop_all, length-drop, take_rest}
use Rattle.byteorder.specs.Endian.{big_bytes}
use Rattle.rsvp_messages.proofs.header_writing.put_word.Goals as goal

word_written : (bytes front part : List ℕ) (at : ℕ) → part ≡ front ++ drop 2 (take (length bytes - at) (drop at bytes)) →
    take at bytes ++ (part ++ drop (length bytes - at) (drop at bytes)) ≡ take at bytes ++ (front ++ drop (at + 2) bytes)
word_written bytes front part at is =
    let none : drop (length bytes - at) (drop at bytes) ≡ [] = drop_all (length bytes - at) (drop at bytes) (omega (arith, length-drop at bytes)) in
    let rest : drop 2 (take (length bytes - at) (drop at bytes)) ≡ drop (at + 2) bytes = ap (λ (b : List ℕ). drop 2 b) (take_rest bytes at) ∙ drop-drop 2 at bytes in
    ap (λ (b : List ℕ). take at bytes ++ (part ++ b)) none
    ∙ ap (λ (b : List ℕ). take at bytes ++ b) (append-nil part ∙ is ∙ ap (λ (b : List ℕ). front ++ b) rest)

pub returns : goal.returns
returns c = word_written c.args.message.now (big_bytes 2 c.args.word) c.write_u16.new.buf c.args.at c.write_u16.ensures
