-- Both parts together.
use Rattle.plain_soundness.proofs.standing.is_standing.Goals as goal

pub returns-then-has_surroundings : goal.returns-then-has_surroundings
returns-then-has_surroundings c =
    let first = c.has_surroundings.ensures.0 c.if-has_surroundings.true in (
      λ passes.
          let second = c.has_paths.ensures.0 passes in
          record {
            moment = first.moment;
            links = first.links;
            routes = first.routes;
            tunnels = first.tunnels;
            bypasses = first.bypasses;
            paths = second.paths;
            heads = second.heads;
            pending = second.pending;
            cold = second.cold;
          },
      λ is. c.has_paths.ensures.1 (record { paths = is.paths; heads = is.heads; pending = is.pending; cold = is.cold }),
    )

pub returns-else-has_surroundings : goal.returns-else-has_surroundings
returns-else-has_surroundings c = (
  λ passes. absurd (let e = passes in let fails = c.if-has_surroundings.false in cc),
  λ is. c.has_surroundings.ensures.1 (record { moment = is.moment; links = is.links; routes = is.routes; tunnels = is.tunnels; bypasses = is.bypasses }),
)
