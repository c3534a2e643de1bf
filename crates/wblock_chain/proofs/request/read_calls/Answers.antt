use Rattle.std.proofs.Common.{refl, subst, sym, ◌∙◌}
use Rattle.wblock_io.specs.Lines.{IsNextLine}
use Rattle.wblock_io.specs.declared.lines.NextLine.{NextLine}
use Rattle.wblock_chain.specs.Requests.{IsCallsRead}
use Rattle.wblock_chain.specs.declared.request.CallsRead.{CallsRead}
use Rattle.wblock_chain.proofs.Reading.{all_read, kept_line, long_read, never_ended, none_read, not_empty, was_empty}
use Rattle.wblock_chain.proofs.request.read_calls.Goals as goal

pub loop-init : goal.loop-init
loop-init g c = record { read = λ t. none_read c.new-text.result.items (g.L.Lines.coming c.args.lines.now) c.new-text.ensures.items; calm = refl }

pub returns-in-End-clause-read : goal.returns-in-End-clause-read
returns-in-End-clause-read g c = λ t.
    let mid = g.L.Lines.coming c.loop.lines in
    let new = g.L.Lines.coming c.next_line.new.self in
    let found = subst (λ (n : NextLine). IsNextLine mid n new) c.in-End.is (c.in_ok-next_line.ensures.next t) in
    never_ended c.loop.fits c.loop.text.items (g.L.Lines.coming c.args.lines.now) mid new (c.loop.invariant.read t) found.0 found.1

pub loop-preserved-in-TooLong : goal.loop-preserved-in-TooLong
loop-preserved-in-TooLong g c = record {
  read = λ t.
      let mid = g.L.Lines.coming c.loop.lines in
      let new = g.L.Lines.coming c.next_line.new.self in
      let found = subst (λ (n : NextLine). IsNextLine mid n new) c.in-TooLong.is (c.in_ok-next_line.ensures.next t) in
      long_read c.loop.fits c.loop.text.items found.0 (g.L.Lines.coming c.args.lines.now) mid new (c.loop.invariant.read t) found.1 found.2;
  calm = c.in_ok-next_line.ensures.calm ∙ c.loop.invariant.calm;
}

pub returns-then-is_empty-clause-read : goal.returns-then-is_empty-clause-read
returns-then-is_empty-clause-read g c = λ t.
    let old = g.L.Lines.coming c.args.lines.now in
    let mid = g.L.Lines.coming c.loop.lines in
    let new = g.L.Lines.coming c.next_line.new.self in
    let found = subst (λ (n : NextLine). IsNextLine mid n new) c.in-Line.is (c.in_ok-next_line.ensures.next t) in
    subst (λ (r : CallsRead). IsCallsRead old r new) (sym c.calls_read.ensures)
    (all_read c.loop.fits c.loop.text c.in-Line.line.items old mid new (c.loop.invariant.read t) found.0 (was_empty c.is_empty.result c.in-Line.line c.is_empty.ensures c.if-is_empty.true))

pub loop-preserved : goal.loop-preserved
loop-preserved g c = record {
  read = λ t.
      let old = g.L.Lines.coming c.args.lines.now in
      let mid = g.L.Lines.coming c.loop.lines in
      let new = g.L.Lines.coming c.next_line.new.self in
      let found = subst (λ (n : NextLine). IsNextLine mid n new) c.in-Line.is (c.in_ok-next_line.ensures.next t) in
      kept_line c.loop.fits c.loop.text.items c.keep_line.new.text.items c.as_slice.result.now c.in-Line.line old mid new (c.loop.invariant.read t) found.0 (not_empty c.is_empty.result c.in-Line.line c.is_empty.ensures c.if-is_empty.false) found.1 c.as_slice.ensures.value c.in-Ok.ensures;
  calm = c.in_ok-next_line.ensures.calm ∙ c.loop.invariant.calm;
}
