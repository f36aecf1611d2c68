-- What came stands in the buffer after the room for more labels.
use Rattle.std.proofs.Common.{◌≡◌, ◌≢◌, ◌≤◌, ◌+◌, ◌∷◌, ◌++◌, ℕ, List, [], Ok, ap, drop, length, subst, sym, take, ◌∙◌}
use Rattle.std.proofs.lemmas.List.{drop-take, drop_at, length-take-le, take-append-le}
use borrow.Rule.Slice.PartMut.{post_of, put_mid}
use Rattle.lsr_facts.specs.declared.router.Router.{Router}
use Rattle.link_frames.specs.Frames.{kind_of}
use Rattle.interface_workers.specs.Turns.{IsTaken}
use Rattle.interface_workers.specs.Wires.{after, arrival_of}
use Rattle.interface_workers.specs.Wires.Arrival.{Came}
use Rattle.interface_workers.proofs.worker.Station.receive.Goals as goal

-- what was written from a place on stands there
came_at : (room k len : ℕ) (buffer came : List ℕ) → room ≤ length buffer → len ≤ length came → drop room (take (room + len) (put_mid room k buffer came)) ≡ take len came
came_at room k len buffer came wide fits =
    drop-take room len (put_mid room k buffer came)
    ∙ ap (take len) (drop_at (take room buffer) (came ++ post_of room k buffer) room (length-take-le room buffer wide))
    ∙ take-append-le len came (post_of room k buffer) fits

pub returns-in-Ok-Some-clause-took : goal.returns-in-Ok-Some-clause-took
returns-in-Ok-Some-clause-took g c =
    let took = c.read_next.ensures.took in
    let len = c.in-Ok-Some.len in
    let came = c.receive.new.buffer in
    let bytes = came_at 32 _ len c.args.buffer.now came c.requires.room (rw c.in-Ok-Some.field-0-is at c.in-Ok-Some.ensures.length) in (
      Came (take len came),
      took.0,
      took.1,
      subst (λ (r : Router). IsTaken r c.read_next.result.1.seen c.args.link (Came (take len came)) took.0) c.router-router.ensures.configured
          (subst (λ (b : List ℕ). IsTaken c.router-router.result.now c.read_next.result.1.seen c.args.link (Came b) took.0) bytes took.2),
      c.receive.ensures.history ∙ ap (λ answer. after (g.W.Wire.history c.args.wire.now) (arrival_of answer came ∷ []) []) (c.in-Ok-Some.is ∙ ap Ok c.in-Ok-Some.field-0-is),
      λ plain. c.read_next.ensures.unlabelled (subst (λ (b : List ℕ). kind_of b ≢ 2) (sym bytes) plain),
    )
