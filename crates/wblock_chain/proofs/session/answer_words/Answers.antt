use Rattle.std.proofs.Common.{option_map, refl, ap, sym, ◌∙◌}
use Rattle.std.proofs.lemmas.Result.{IfOk-weaker}
use Rattle.world.specs.Views.{world_view}
use Rattle.wblock_calls.specs.Words.{texts}
use Rattle.wblock_line.specs.Words.{line_of}
use Rattle.wblock_chain.proofs.Answering.{on_err, words_answered, words_refused}
use Rattle.wblock_chain.proofs.session.answer_words.Goals as goal

pub answer_line-requires-clause-lone : goal.answer_line-requires-clause-lone
answer_line-requires-clause-lone g c κs within = c.requires.lone (line_of c.in-Some.line) (sym (ap (option_map line_of) (sym c.in-Some.is) ∙ c.in_ok-line.ensures))

pub returns-in-Some-clause-answer : goal.returns-in-Some-clause-answer
returns-in-Some-clause-answer g c =
    let is = ap (option_map line_of) (sym c.in-Some.is) ∙ c.in_ok-line.ensures in
    IfOk-weaker c.answer_line.result _ _ (λ a answers t.
    words_answered c.args.name.now (texts c.args.words.now) (line_of c.in-Some.line) (option_map (λ b. b.items) c.args.behind) (g.F.Files.holds c.args.files.now) (g.F.Files.holds c.answer_line.new.files) (world_view c.args.world) a is (answers t)) c.answer_line.ensures.answer

pub returns-in-None-clause-answer : goal.returns-in-None-clause-answer
returns-in-None-clause-answer g c =
    let none = ap (option_map line_of) (sym c.in-None.is) ∙ c.in_ok-line.ensures in
    IfOk-weaker c.refuse_line.result _ _ (λ a reply t. words_refused c.args.name.now (texts c.args.words.now) (option_map (λ b. b.items) c.args.behind) (g.F.Files.holds c.args.files.now) (world_view c.args.world) a reply none) c.refuse_line.ensures

pub returns-in-None-clause-kept : goal.returns-in-None-clause-kept
returns-in-None-clause-kept g c = on_err c.refuse_line.result _ (λ t. refl)
