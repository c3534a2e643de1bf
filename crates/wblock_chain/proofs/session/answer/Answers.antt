use Rattle.std.proofs.Common.{List, ℕ, None, IfOk, IsTrue, option_map, refl, inl, inr, subst, sym}
use Rattle.std.proofs.lemmas.Result.{IfOk-weaker}
use Rattle.world.specs.Views.{world_view}
use Rattle.wblock_chain.specs.Answered.{AnswersText}
use Rattle.wblock_chain.specs.Requests.{AreAsked}
use Rattle.wblock_chain.proofs.Answering.{asks_nothing, on_err}
use Rattle.wblock_chain.proofs.session.answer.Goals as goal

pub answer_text-requires-clause-asked : goal.answer_text-requires-clause-asked
answer_text-requires-clause-asked g c κs within = subst (λ (line : List ℕ). AreAsked line (option_map (λ b. b.items) c.in-Text.behind)) (sym c.as_str.ensures.value) (rw c.in-Text.is at c.requires)

pub returns-in-Text-clause-answer : goal.returns-in-Text-clause-answer
returns-in-Text-clause-answer g c =
    let behind = option_map (λ b. b.items) c.in-Text.behind in
    rw c.in-Text.is
    (subst (λ (line : List ℕ). IfOk c.answer_text.result (λ a. IsTrue g.F.Files.tells → AnswersText c.args.name.now line behind (g.F.Files.holds c.args.files.now) (g.F.Files.holds c.answer_text.new.files) (world_view c.args.world) a)) c.as_str.ensures.value c.answer_text.ensures.answer)

pub returns-in-TooLong-clause-answer : goal.returns-in-TooLong-clause-answer
returns-in-TooLong-clause-answer g c = rw c.in-TooLong.is (IfOk-weaker c.refuse_line.result _ _ (λ a reply t line calls long. asks_nothing c.args.name.now line calls (g.F.Files.holds c.args.files.now) (g.F.Files.holds c.args.files.now) (world_view c.args.world) a refl reply (inl long)) c.refuse_line.ensures)

pub returns-in-TooLong-clause-kept : goal.returns-in-TooLong-clause-kept
returns-in-TooLong-clause-kept g c = on_err c.refuse_line.result _ (λ t. refl)

pub returns-in-NotUtf8-clause-answer : goal.returns-in-NotUtf8-clause-answer
returns-in-NotUtf8-clause-answer g c = rw c.in-NotUtf8.is (IfOk-weaker c.refuse_line-in-NotUtf8.result _ _ (λ a reply t line never. asks_nothing c.args.name.now line None (g.F.Files.holds c.args.files.now) (g.F.Files.holds c.args.files.now) (world_view c.args.world) a refl reply (inr (λ asked asks. never asks.utf8))) c.refuse_line-in-NotUtf8.ensures)

pub returns-in-NotUtf8-clause-kept : goal.returns-in-NotUtf8-clause-kept
returns-in-NotUtf8-clause-kept g c = on_err c.refuse_line-in-NotUtf8.result _ (λ t. refl)
