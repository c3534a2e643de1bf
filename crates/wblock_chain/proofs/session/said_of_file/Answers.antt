use Rattle.std.proofs.Common.{List, ℕ, [], ◌++◌, append-nil, ap, sym, ◌∙◌}
use Rattle.std.proofs.lemmas.Result.{IfOk-weaker}
use Rattle.wblock_line.specs.Answers.{file_line}
use Rattle.wblock_chain.proofs.Answering.{sentence_is}
use Rattle.wblock_chain.proofs.session.said_of_file.Goals as goal

pub returns-then-is_empty : goal.returns-then-is_empty
returns-then-is_empty c = IfOk-weaker c.file_line_of.result _ _ (λ said is. ([], is ∙ sym (append-nil (file_line c.args.name.now)))) c.file_line_of.ensures

pub returns : goal.returns
returns c =
    let why = c.words-why.result.now in
    IfOk-weaker c.file_lines_of.result _ _ (λ said is. (why, is ∙ ap (λ (b : List ℕ). file_line c.args.name.now ++ b) (sym (sentence_is c.is_empty.result why c.is_empty.ensures c.if-is_empty.false)))) c.file_lines_of.ensures
