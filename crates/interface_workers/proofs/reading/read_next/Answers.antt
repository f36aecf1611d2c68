-- What is no labelled frame is the same, whatever the reader sees.
use Rattle.std.proofs.Common.{ℕ, List, Ok, drop, refl, subst, sym}
use Rattle.lsr_facts.specs.declared.router.Router.{Router}
use Rattle.forwarding_table.specs.Forwarding.{forward_of}
use Rattle.datagrams.specs.declared.datagram.Datagram.TheVariants as datagrams
use Rattle.datagrams.specs.Datagrams.{IsDatagram}
use Rattle.lookup_plane.specs.Changes.{look}
use Rattle.interface_workers.specs.declared.worker.Taken.TheVariants as takes
use Rattle.interface_workers.proofs.Slicing.{rest_of}
use Rattle.interface_workers.proofs.reading.read_next.Goals as goal

pub returns-in-Some-clause-took : goal.returns-in-Some-clause-took
returns-in-Some-clause-took g c =
    let forward = forward_of (look c.args.reader.seen) in
    let answer = Ok (datagrams.Event c.in-Some.event) in (
      takes.Came answer,
      refl,
      subst (λ (r : Router). IsDatagram r forward c.args.link (drop 32 c.args.buffer.now) answer) (sym c.requires.router)
          (subst (λ (b : List ℕ). IsDatagram g.L.CoreName.config.router forward c.args.link b answer) (rest_of 32 c.args.buffer.now) (c.in-Some.ensures forward)),
    )

pub returns-in-Some-read_unlabelled-clause-took : goal.returns-in-Some-read_unlabelled-clause-took
returns-in-Some-read_unlabelled-clause-took g c =
    let forward = forward_of (look c.args.reader.seen) in
    let answer = c.in-Some-read_unlabelled.answer in
    (takes.Came answer, refl, subst (λ (b : List ℕ). IsDatagram c.args.router.now forward c.args.link b answer) (rest_of 32 c.args.buffer.now) (c.in-Some-read_unlabelled.ensures.answer forward))
