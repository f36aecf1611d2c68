-- What is served stands for what was taken.
use Rattle.std.proofs.Common.{◌≡◌, List, refl, subst, sym}
use Rattle.lsr_config.specs.Configs.{Setup}
use Rattle.shared_core.specs.Below.journal.Journals.{Stretch}
use Rattle.shared_core.specs.Below.journal.declared.mark.Mark.{Mark}
use Rattle.shared_core.specs.Below.journal.declared.receipt.Receipt.{Receipt}
use Rattle.interface_workers.specs.Next.{StandsFor}
use Rattle.interface_workers.specs.Turns.{HasSent, IsFullAgainFor, IsServed}
use Rattle.interface_workers.specs.Wires.{WireHistory}
use Rattle.worker_tallies.specs.declared.handled.Handled.{Handled}
use Rattle.interface_workers.specs.declared.next.Next.{Next}
use Rattle.interface_workers.specs.declared.worker.Taken.{Taken}
use Rattle.interface_workers.proofs.worker.Station.serve_next.Goals as goal

-- what is taken is served where the same is
same_served : (c : Setup) (m : Mark) (taken own : Taken) (handled : Handled) (before now : List Receipt) (h after : WireHistory) → taken ≡ own → HasSent (IsServed c m own handled before now) h after
    → HasSent (IsServed c m taken handled before now) h after
same_served c m taken own handled before now h after same = subst (λ (t : Taken). HasSent (IsServed c m t handled before now) h after) (sym same)

-- and is refused as full where the same is
same_full : (taken own : Taken) (handled : Handled) (before now : List Stretch) → taken ≡ own → IsFullAgainFor own handled before now → IsFullAgainFor taken handled before now
same_full taken own handled before now same = subst (λ (t : Taken). IsFullAgainFor t handled before now) (sym same)

pub returns-in-Taken-clause-served : goal.returns-in-Taken-clause-served
returns-in-Taken-clause-served g c = λ taken stands.
    let own = subst (λ (n : Next). StandsFor n taken) (sym (rw c.in-Taken.is at c.next.view_is)) stands in
    same_served g.L.CoreName.config c.args.port.now.mark taken _ c.serve_taken.result c.args.work.now.receipts.items c.serve_taken.new.work.receipts.items (g.W.Wire.history c.args.wire.now) (g.W.Wire.history c.serve_taken.new.wire)
    own c.serve_taken.ensures.served

pub returns-in-Early-clause-served : goal.returns-in-Early-clause-served
returns-in-Early-clause-served g c = λ taken stands.
    let own = subst (λ (n : Next). StandsFor n taken) (sym (rw c.in-Early.is at c.next.view_is)) stands in
    let served = c.serve_arrived-handled in
    same_served g.L.CoreName.config c.args.port.now.mark taken _ served.result c.args.work.now.receipts.items served.new.work.receipts.items (g.W.Wire.history c.args.wire.now) (g.W.Wire.history served.new.wire)
    own served.ensures.served

pub returns-in-Rewritten-clause-served : goal.returns-in-Rewritten-clause-served
returns-in-Rewritten-clause-served g c = λ taken stands.
    let own = subst (λ (n : Next). StandsFor n taken) (sym (rw c.in-Rewritten.is at c.next.view_is)) stands in
    let sent = c.send_on.ensures own.0 own.2 in
    same_served g.L.CoreName.config c.args.port.now.mark taken _ c.send_on.result c.args.work.now.receipts.items c.args.work.now.receipts.items (g.W.Wire.history c.args.wire.now) (g.W.Wire.history c.send_on.new.wire)
    own.1 (record { frames = sent.frames; sendings = sent.sendings; is = (refl, sent.is); sent = sent.sent })

pub returns-in-Taken-clause-full : goal.returns-in-Taken-clause-full
returns-in-Taken-clause-full g c = λ taken stands.
    let own = subst (λ (n : Next). StandsFor n taken) (sym (rw c.in-Taken.is at c.next.view_is)) stands in
    same_full taken _ c.serve_taken.result c.args.work.now.segments.items c.serve_taken.new.work.segments.items own c.serve_taken.ensures.full

pub returns-in-Early-clause-full : goal.returns-in-Early-clause-full
returns-in-Early-clause-full g c = λ taken stands event is. c.serve_arrived-handled.ensures.full
