-- Readers with their core's name have seen and learnt what they had before.
use Rattle.std.proofs.Common.{◌≡◌, All, List, subst, sym}
use Rattle.lookup_plane.specs.Changes.{Reader, new_reader}
use Rattle.shared_core.proofs.booked.Booked.open.Goals as goal

pub returns-clause-own : goal.returns-clause-own
returns-clause-own g c =
    subst (λ (all : List Reader). All (λ (reader : Reader). reader ≡ new_reader c.in_ok-locked.locked.table) all) (sym c.in_ok-readers.ensures) c.in_ok-locked.ensures.readers.1
