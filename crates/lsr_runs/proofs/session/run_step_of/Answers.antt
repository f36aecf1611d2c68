-- A file that isn't opened is unread.
use Rattle.std.proofs.Common.{ℕ, List, [], Bor, Option, sym, subst}
use Rattle.std.proofs.KnownBytes.{Appends-nil}
use Rattle.std.specs.Option.{option_map}
use Rattle.std.specs.Io.KnownBytes.{Appends}
use Rattle.lsr_runs.specs.Endings.{ending_text}
use Rattle.lsr_runs.specs.Sessions.{name_of}
use Rattle.lsr_runs.specs.declared.endings.RunEnding.TheVariants as endings
use Rattle.lsr_runs.specs.declared.endings.Source.TheVariants as sources
use Rattle.lsr_runs.proofs.Sessions.{unopened}
use Rattle.lsr_runs.proofs.session.run_step_of.Goals as goal

pub returns-in_ok-tell_ending-in-Err : goal.returns-in_ok-tell_ending-in-Err
returns-in_ok-tell_ending-in-Err g c =
    let ending = endings.Unread sources.Config c.in-Err.fault in
    let told = subst (λ (file : Option (Bor (List ℕ))). Appends (g.E.Write.contents c.args.error.now) (g.E.Write.contents c.tell_ending.new.error) (ending_text (name_of (option_map (λ f. f.now) file)) ending)) (sym c.in-Some.is) c.in_ok-tell_ending-in-Err.ensures in (
      ending,
      [],
      c.status_of.ensures,
      unopened (g.F.FilesByName.opens c.args.files.now) (g.F.FilesByName.fails c.args.files.now) g.F.File.ByteStream.stream c.args.echo c.args.file c.in-Some.name (g.R.ByteStream.stream c.args.input.now) c.in-Err.fault c.in-Some.is c.in-Err.ensures.fault,
      Appends-nil _,
      told,
    )
