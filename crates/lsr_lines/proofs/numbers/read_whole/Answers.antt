-- What `parse` takes without a sign is what names a number of 64 bits.
use Rattle.std.proofs.Common.{arith, sym, Ok, false}
use Rattle.std.specs.declared.num.ParseIntError.{ParseIntError}
use Rattle.std.proofs.lemmas.Str.Pattern.{starts_char}
use Rattle.lsr_lines.proofs.LineLaws.{digits_parsed, no_whole}
use Rattle.lsr_lines.proofs.numbers.read_whole.Goals as goal

pub returns-in-Ok : goal.returns-in-Ok
returns-in-Ok c =
    let plain = (starts_char 43 c.args.digits.now false c.if-starts_with.ensures.cases (omega arith) (omega arith)).1 in
    let value = digits_parsed {E = ParseIntError} 64 c.args.digits.now (Ok c.in-Ok.number) (λ e. let t = plain e in cc) c.in-Ok.ensures.value.0 in
    record { some = value.0.1; decimal = value.0.0; value = sym value.1; high = omega (arith, value.0.2, value.1) }

pub returns-in-Err : goal.returns-in-Err
returns-in-Err c = λ number names.
    let plain = (starts_char 43 c.args.digits.now false c.if-starts_with.ensures.cases (omega arith) (omega arith)).1 in
    no_whole c.args.digits.now c.in-Err.field-0 number (λ e. let t = plain e in cc) c.in-Err.ensures.value.0 names
