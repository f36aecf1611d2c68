-- Of each LSP that isn't touched the same is known.
use Rattle.router_laws.proofs.KeptBypasses.{runs_still}
use Rattle.router_laws.proofs.Touching.{left-message}
use Rattle.router_laws.proofs.reservations.a_message_touches_its_own_lsps.Goals as goal

pub returns-clause-others : goal.returns-clause-others
returns-clause-others c =
    λ r before after made arrived key is step event apart.
    let left = left-message r before after made arrived is step event in
    (left.paths key apart, left.resvs key apart, left.labels key apart, left.repairs key apart)

pub returns-clause-links : goal.returns-clause-links
returns-clause-links c = λ r before after made arrived is step event. (left-message r before after made arrived is step event).up

pub returns-clause-bypasses : goal.returns-clause-bypasses
returns-clause-bypasses c = λ r before after made arrived number bypass tunnel is step event known runs apart.
    runs_still r before after made arrived is step event number (record { bypass = bypass; tunnel = tunnel; known = known; runs = runs }) apart
