use Rattle.std.proofs.Common.{sym, ap, ◌∙◌, arith, length}
use Rattle.wblock_calls.proofs.WordLemmas.{at_some, at_none}
use Rattle.wblock_calls.proofs.LineLemmas.{each_more, bad_line, no_lines}
use Rattle.wblock_calls.proofs.reader.read_calls.Goals as goal

pub returns-in_default-clause-refused : goal.returns-in_default-clause-refused
returns-in_default-clause-refused c = absurd (no_lines c.args.text.now c.in_ok-lines.lines.items c.in_ok-lines.ensures (ap length (sym c.as_slice.ensures.value) ∙ c.in_default.ensures.cases))

pub returns-in_default-2-clause-refused : goal.returns-in_default-2-clause-refused
returns-in_default-2-clause-refused c = bad_line c.args.text.now c.in_ok-lines.lines.items c.in-Some.ended.now c.in-Some.last.now _ c.loop-at.at c.loop-at.calls.items c.in_ok-lines.ensures (sym c.as_slice.ensures.value ∙ c.in-Some.ensures.cases.0) c.loop-at-test.true c.loop-at.invariant.spelled (at_none _ _ _ c.in_default-2.is c.in_ok-call.ensures)

pub loop-at-preserved : goal.loop-at-preserved
loop-at-preserved c = record {
  within = omega (arith, c.loop-at-test.true);
  spelled = each_more c.in-Some.ended.now c.loop-at.at _ c.loop-at.calls.items _ c.in-Some-2.call c.loop-at-test.true c.loop-at.invariant.spelled (at_some _ _ _ _ c.in-Some-2.is c.in_ok-call.ensures) c.in_ok-push.ensures.items;
}
