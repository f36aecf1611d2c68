-- What `parse` takes without a sign is what spells a number of turns.
use Rattle.std.proofs.Common.{arith, sym, Ok, false}
use Rattle.std.specs.declared.num.ParseIntError.{ParseIntError}
use Rattle.std.proofs.lemmas.Str.Pattern.{starts_char}
use Rattle.lsr_serve.proofs.Digits.{digits_parsed, no_turns}
use Rattle.lsr_serve.proofs.turns.spelled_turns.Goals as goal

pub returns : goal.returns
returns c =
    let plain = (starts_char 43 c.args.digits.now false c.if-starts_with.ensures.cases (omega arith) (omega arith)).1 in
    let value = digits_parsed {E = ParseIntError} 32 c.args.digits.now (Ok c.in-Ok.turns) (λ e. let t = plain e in cc) c.in-Ok.ensures.value.0 in
    record { decimal = value.0.0; value = sym value.1; low = omega (arith, c.if-turns-eq0.false); high = c.if-turns-gt-MAX_TURNS.false }

pub returns-in_default : goal.returns-in_default
returns-in_default c = λ turns names.
    let plain = (starts_char 43 c.args.digits.now false c.if-starts_with.ensures.cases (omega arith) (omega arith)).1 in
    no_turns c.args.digits.now c.in_default.field-0 turns (λ e. let t = plain e in cc) c.in_default.ensures.value.0 names
