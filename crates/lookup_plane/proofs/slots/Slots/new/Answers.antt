use Rattle.lookup_plane.proofs.slots.Slots.new.Goals as goal

pub returns : goal.returns
returns c = λ i. record { first_label = c.args.first_label; labels = c.in_ok-no_actions.ensures i; tunnels = c.in_ok-new.ensures i; count = 0 }
