-- What `parse` takes without a sign is what names a number.
use Rattle.std.proofs.Common.{arith, sym, Ok, false}
use Rattle.std.specs.declared.num.ParseIntError.{ParseIntError}
use Rattle.std.proofs.lemmas.Str.Pattern.{starts_char}
use Rattle.lsr_lines.proofs.LineLaws.{digits_parsed, no_number}
use Rattle.lsr_lines.proofs.numbers.read_up_to.Goals as goal

pub returns : goal.returns
returns c =
    let plain = (starts_char 43 c.args.digits.now false c.if-starts_with.ensures.cases (omega arith) (omega arith)).1 in
    let value = digits_parsed {E = ParseIntError} 16 c.args.digits.now (Ok c.in-Ok.number) (λ e. let t = plain e in cc) c.in-Ok.ensures.value.0 in
    record { some = value.0.1; decimal = value.0.0; value = sym value.1; high = c.if-number-most.false }

pub returns-in_default : goal.returns-in_default
returns-in_default c = λ number names.
    let plain = (starts_char 43 c.args.digits.now false c.if-starts_with.ensures.cases (omega arith) (omega arith)).1 in
    no_number c.args.digits.now c.in_default.field-0 c.args.most number (omega (arith, c.ranges.most)) (λ e. let t = plain e in cc) c.in_default.ensures.value.0 names

pub returns-then-number-most : goal.returns-then-number-most
returns-then-number-most c = λ number names.
    let plain = (starts_char 43 c.args.digits.now false c.if-starts_with.ensures.cases (omega arith) (omega arith)).1 in
    let value = digits_parsed {E = ParseIntError} 16 c.args.digits.now (Ok c.in-Ok.number) (λ e. let t = plain e in cc) c.in-Ok.ensures.value.0 in
    omega (arith, names.value, names.high, value.1, c.if-number-most.true)
