use Rattle.rsvp_bodies.proofs.Texts.{rate_parses}
use Rattle.rsvp_bodies.proofs.rate_words.read_rate.Goals as goal

pub returns-in-Err : goal.returns-in-Err
returns-in-Err c = λ rate says. c.in-Err.ensures.value (rate_parses c.args.text.now rate says)
