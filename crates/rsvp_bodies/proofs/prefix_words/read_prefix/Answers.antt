use Rattle.std.proofs.Common.{Some, sym, subst, lit<}
use Rattle.std.proofs.lemmas.Str.Pattern.{split_once_first}
use Rattle.std.specs.Net.Grammar.{IsIpv4Text}
use Rattle.rsvp_bodies.proofs.prefix_words.read_prefix.Goals as goal

pub returns-in_default : goal.returns-in_default
returns-in_default c = λ prefix says.
    let parts = split_once_first 47 c.args.text.now (Some (c.in_ok-address.address, c.in_ok-address.digits)) c.in_ok-address.ensures.cases (lit< tt) in
    c.in_default.ensures.value prefix.address (subst (λ text. IsIpv4Text text prefix.address) (sym parts.1) says.0)
