-- The next text says a configuration, or gives no router.
use Rattle.std.proofs.Common.{ℕ, List, arith, map, string_bytes, subst, sym}
use Rattle.lsr_runs.specs.Playing.{IsFirstSaidFault}
use Rattle.lsr_runs.specs.declared.playing.NamedText.{NamedText}
use Rattle.lsr_runs.proofs.Worlds.{pushed, said_next, said_stops}
use Rattle.lsr_runs.proofs.playing.configure.Goals as goal

pub returns-in-Err-clause-stop : goal.returns-in-Err-clause-stop
returns-in-Err-clause-stop c =
    let name_of = λ (named : NamedText). named.name.now in
    let said_of = λ (named : NamedText). string_bytes named.text in
    let stops = c.in-Err.ensures.stop in
    let first = said_stops name_of said_of c.args.texts.now c.loop-named.named-index c.named-item.result c.loop-named.configs.items c.in-Err.stop.ending c.loop-named.invariant (omega arith) (sym c.named-item.is) stops.1 in
    subst (λ (name : List ℕ). IsFirstSaidFault (map name_of c.args.texts.now) (map said_of c.args.texts.now) name c.in-Err.stop.ending) (sym stops.0) first

pub loop-named-preserved : goal.loop-named-preserved
loop-named-preserved c =
    said_next (λ (named : NamedText). string_bytes named.text) c.args.texts.now c.loop-named.named-index c.named-item.result c.loop-named.configs.items c.in-Ok.config c.push.new.self.items c.loop-named.invariant (omega arith) (sym c.named-item.is) c.in-Ok.ensures.said
    (pushed _ _ _ _ _ c.push.ensures.items c.is_err.ensures.negation c.if-is_err.false)
