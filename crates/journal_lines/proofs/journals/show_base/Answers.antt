-- What the router knew, and what is shown after it.
use Rattle.std.proofs.Common.{◌≡◌, [], List, ℕ, inl, inr, refl, subst}
use Rattle.std.specs.Io.KnownBytes.{Appends}
use Rattle.std.proofs.KnownBytes.{Appends-nil}
use Rattle.journal_files.specs.Fitting.{BaseFits}
use Rattle.journal_files.specs.Formats.{base_bytes}
use Rattle.journal_lines.specs.Journals.{ShowsBase, ShowsCount, base_lines}
use Rattle.journal_lines.proofs.Showing.{found_at, none_at, shown_after}
use Rattle.journal_lines.proofs.journals.show_base.Goals as goal

pub returns-in_default : goal.returns-in_default
returns-in_default g c =
    ([], inr (none_at (BaseFits c.args.format) (base_bytes c.args.format) c.args.bytes.now c.read_base.result _ c.read_base.ensures c.in_ok-base.ensures c.in_default.not-Some, refl, c.breaks.ensures), Appends-nil _)

pub returns : goal.returns
returns g c =
    let lines : c.as_bytes.result.now ≡ base_lines c.args.router.now c.in-Some.base = cc (c.as_bytes.ensures.value, c.in_ok-lines.ensures) in
    let told = subst (λ (text : List ℕ). Appends (g.W.Write.contents c.args.output.now) (g.W.Write.contents c.write_all.new.self) text) lines c.in_ok-write_all.ensures.bytes in
    shown_after (ShowsCount c.args.router.now c.args.format c.in-Some.rest.now) (ShowsBase c.args.router.now c.args.format c.args.bytes.now) c.show_entries.result
    (base_lines c.args.router.now c.in-Some.base) _ _ _ told
    (λ more broken shown. inl (c.in-Some.base, c.in-Some.rest.now, more, found_at (BaseFits c.args.format) (base_bytes c.args.format) c.args.bytes.now c.read_base.result _ c.in-Some.base c.in-Some.rest c.read_base.ensures c.in_ok-base.ensures c.in-Some.is, shown, refl))
    c.show_entries.ensures
