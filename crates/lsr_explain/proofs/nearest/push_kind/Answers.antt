-- One more line is looked at.
use Rattle.std.proofs.Common.{rules, ap}
use Rattle.lsr_explain.specs.Nearest.{near_lines}
use Rattle.lsr_explain.proofs.Nearness.{pushed_all, pushed_more}
use Rattle.lsr_explain.proofs.TopicLaws.{none_by}
use Rattle.lsr_explain.proofs.nearest.push_kind.Goals as goal

pub loop-line-preserved : goal.loop-line-preserved
loop-line-preserved c =
    record {
      parts = pushed_more c.args.kind c.args.word.now c.loop-line.near.items c.push_line.new.near.items c.loop-line.rest.now c.in-Some.line.now c.in-Some.behind.now _ c.loop-line.invariant.parts
          (ap (near_lines c.args.kind c.args.word.now) c.in-Some.ensures.line) c.in_ok-push_line.ensures;
      utf8 = search rules;
    }

pub returns : goal.returns
returns c =
    pushed_all c.args.kind c.args.word.now c.loop-line.rest.now c.loop-line.near.items _ c.loop-line.invariant.parts (c.next_line.ensures.end.0 (none_by c.next_line.result c.in_default.not-Some))
