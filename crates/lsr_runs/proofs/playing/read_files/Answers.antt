-- The next file is read too.
use Rattle.std.proofs.Common.{rules, string_bytes}
use Rattle.lsr_runs.specs.declared.playing.NamedText.{NamedText}
use Rattle.lsr_runs.proofs.Worlds.{pushed, reads_pushed}
use Rattle.lsr_runs.proofs.playing.read_files.Goals as goal

pub next_file-requires-text-text : goal.next_file-requires-text-text
next_file-requires-text-text g c = λ _. c.loop-name.invariant.utf8

pub loop-name-preserved : goal.loop-name-preserved
loop-name-preserved g c =
    reads_pushed (g.F.FilesByName.opens c.args.files.now) g.F.File.ByteStream.stream c.args.text.now c.loop-name.rest.now (λ (named : NamedText). named.name.now) (λ (named : NamedText). string_bytes named.text) c.loop-name.texts.items c.in-Ok.named c.push.new.self.items
    c.in-Some.name.now c.in-Some.others.now c.loop-name.invariant (pushed _ _ _ _ _ c.push.ensures.items c.is_err.ensures.negation c.if-is_err.false) c.in-Some.ensures.files c.in-Ok.ensures.named c.in-Ok.ensures.text (search rules)
