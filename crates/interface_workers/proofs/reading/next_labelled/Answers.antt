-- A frame that goes on is rewritten as it leaves; any other is read.
use Rattle.std.proofs.Common.{◌≡◌, ℕ, List, ap, drop, refl, subst, sym, ◌∙◌}
use Rattle.forwarding_table.specs.Forwarding.{forward_of}
use Rattle.frame_rewriting.specs.Passing.{passed_over}
use Rattle.frame_rewriting.specs.Rewriting.{sent_frame}
use Rattle.frame_rewriting.specs.RewritingLaws.{goes_on-passed, sent_frame-bytes}
use Rattle.lookup_plane.specs.Changes.{Learnt, look}
use Rattle.lookup_plane.specs.declared.change.TableChange.{TableChange}
use Rattle.datagrams.specs.Datagrams.{IsDatagram}
use Rattle.interface_workers.specs.Next.{StandsFor}
use Rattle.interface_workers.specs.declared.next.Next.{Next}
use Rattle.interface_workers.specs.declared.worker.Taken.TheVariants as takes
use Rattle.interface_workers.proofs.Slicing.{rest_of}
use Rattle.interface_workers.proofs.reading.next_labelled.Goals.{in-Some, in-None}
use Rattle.interface_workers.proofs.reading.next_labelled.Goals as goal

pub returns-clause-took : goal.returns-clause-took
returns-clause-took g c =
    let bytes = drop 32 c.args.buffer.now in
    let left : c.as_lookups.result.now.seen ≡ c.leave.result.seen = ap (λ (l : Learnt). l.seen) c.as_lookups.ensures ∙ sym c.leave.ensures.0 in
    elim c.match-rewrite.branch [
      | in-Some w ↦
          let is = w.in-Some.ensures.rewritten in
          let out = w.in-Some.sent.link in
          let answer = passed_over out (sent_frame is.stack bytes) in (
            takes.Came answer,
            subst (λ (n : Next). StandsFor n (takes.Came answer)) (sym w.next-is) (sent_frame is.stack bytes, refl, rest_of w.in-Some.sent.start c.rewrite.new.buffer ∙ is.leaves ∙ sym (sent_frame-bytes is.stack bytes is.goes_on.labelled)),
            subst (λ (seen : List TableChange). IsDatagram c.args.router.now (forward_of (look seen)) c.args.link bytes answer) left
                (goes_on-passed c.args.router.now (forward_of (look c.as_lookups.result.now.seen)) c.args.link out bytes is.stack is.goes_on),
          )
      | in-None w ↦
          let answer = w.read_datagram.result in (
            takes.Came answer,
            subst (λ (n : Next). StandsFor n (takes.Came answer)) (sym w.next-is) refl,
            subst (λ (seen : List TableChange). IsDatagram c.args.router.now (forward_of (look seen)) c.args.link bytes answer) left
                (subst (λ (b : List ℕ). IsDatagram c.args.router.now (forward_of (look c.as_lookups.result.now.seen)) c.args.link (drop 32 b) answer) w.in-None.ensures.same (subst (λ (b : List ℕ). IsDatagram c.args.router.now (forward_of (look c.as_lookups.result.now.seen)) c.args.link b answer) (rest_of 32 c.rewrite.new.buffer) w.read_datagram.ensures)),
          )
    ]
