use Rattle.std.proofs.Common.{◌≡◌, ◌<◌, ◌^◌, Some, rules, subst, sym}
use Rattle.rsvp_bodies.specs.TokenBuckets.{rate_word_of}
use Rattle.rsvp_bodies.specs.RateWords.{tspec_with}
use Rattle.rsvp_bodies.proofs.Tspecs.{rate_kept}
use Rattle.rsvp_bodies.proofs.rate_words.tspec_of.Goals as goal

pub returns-clause-rate : goal.returns-clause-rate
returns-clause-rate c =
    let fits : c.args.rate < 2 ^ 32 = search rules in
    let bytes : c.from_body.result ≡ tspec_with c.args.rate = search rules in
    subst (λ t. rate_word_of 1 t ≡ Some c.args.rate) (sym bytes) (rate_kept c.args.rate fits)
