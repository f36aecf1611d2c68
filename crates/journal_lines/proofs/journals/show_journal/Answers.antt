-- The format, and what is shown after it.
use Rattle.std.proofs.Common.{◌++◌, ℕ, inl, refl, subst}
use Rattle.std.specs.Prelude.{codes}
use Rattle.std.specs.Fmt.{decimal}
use Rattle.std.specs.Io.KnownBytes.{Appends}
use Rattle.journal_lines.specs.Journals.{ShowsBody, ShowsJournal, format_line}
use Rattle.journal_lines.proofs.Showing.{shown_after}
use Rattle.journal_lines.proofs.journals.show_journal.Goals as goal

pub returns : goal.returns
returns g c =
    let told = subst (λ (n : ℕ). Appends (g.W.Write.contents c.args.output.now) (g.W.Write.contents c.write.new.self) (codes "journal of format " ++ (decimal n ++ codes "\n"))) c.format_number-number.ensures c.in_ok-write.ensures.bytes in
    shown_after (ShowsBody c.in-Some.format c.in-Some.body.now) (ShowsJournal c.args.bytes.now) c.show_body.result (format_line c.in-Some.format) _ _ _ told
    (λ more broken shown. inl (c.in-Some.format, c.in-Some.body.now, more, c.in-Some.ensures, shown, refl)) c.show_body.ensures
