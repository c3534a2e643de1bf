use Rattle.std.proofs.Common.{[], ◌∷◌, codes, ◌∙◌}
use Rattle.wblock_line.specs.Answers.{file_line, sentence_line}
use Rattle.wblock_line.proofs.Saying.{cut_first, joined, said_behind}
use Rattle.wblock_line.proofs.perform.tell_file.Goals as goal

pub returns-in-Err-clause-said : goal.returns-in-Err-clause-said
returns-in-Err-clause-said g c = λ t. record {
  why = c.args.why.now;
  said = cut_first (g.E.Sink.told c.args.err.now) (g.E.Sink.told c.put_line.new.err) (file_line c.args.name.now) (sentence_line c.args.why.now) (g.E.Sink.failures c.args.err.now) (g.E.Sink.failures c.put_line.new.err) (c.in-Err.ensures.cut_short t) c.in-Err.ensures.counted;
}

pub returns-clause-said : goal.returns-clause-said
returns-clause-said g c = λ t. record {
  why = c.args.why.now;
  said = said_behind (g.E.Sink.told c.args.err.now) (g.E.Sink.told c.put_line.new.err) (g.E.Sink.told c.tell_why.new.err) (file_line c.args.name.now) (sentence_line c.args.why.now) (g.E.Sink.failures c.args.err.now) (g.E.Sink.failures c.put_line.new.err) (g.E.Sink.failures c.tell_why.new.err) (c.in_default.ensures.put t ∙ joined (g.E.Sink.told c.args.err.now) (codes "file ") c.args.name.now (10 ∷ [])) c.in_default.ensures.calm (c.tell_why.ensures t);
}
