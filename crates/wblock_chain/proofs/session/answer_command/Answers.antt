use Rattle.std.proofs.Common.{option_map, refl}
use Rattle.std.proofs.lemmas.Result.{IfOk-weaker}
use Rattle.world.specs.Views.{world_view}
use Rattle.wblock_chain.proofs.Answering.{answers_digest, answers_quit, answers_save, on_err}
use Rattle.wblock_chain.proofs.session.answer_command.Goals as goal

pub returns-in-Save-clause-answer : goal.returns-in-Save-clause-answer
returns-in-Save-clause-answer g c = rw c.in-Save.is (IfOk-weaker c.answer_save.result _ _ (λ a is t. answers_save c.args.name.now c.in-Save.file (option_map (λ b. b.items) c.args.behind) (g.F.Files.holds c.args.files.now) (g.F.Files.holds c.answer_save.new.files) (world_view c.args.world) a (is t)) c.answer_save.ensures.saved)

pub returns-in-Digest-clause-answer : goal.returns-in-Digest-clause-answer
returns-in-Digest-clause-answer g c = rw c.in-Digest.is (IfOk-weaker c.answer_digest.result _ _ (λ a moves t. answers_digest c.args.name.now (option_map (λ b. b.items) c.args.behind) (g.F.Files.holds c.args.files.now) (g.F.Files.holds c.args.files.now) (world_view c.args.world) a refl moves) c.answer_digest.ensures)

pub returns-in-Quit-clause-answer : goal.returns-in-Quit-clause-answer
returns-in-Quit-clause-answer g c = rw c.in-Quit.is (IfOk-weaker c.answer_quit.result _ _ (λ a quits t. answers_quit c.args.name.now (option_map (λ b. b.items) c.args.behind) (g.F.Files.holds c.args.files.now) (g.F.Files.holds c.args.files.now) (world_view c.args.world) a refl quits) c.answer_quit.ensures)

pub returns-in-Single-clause-answer : goal.returns-in-Single-clause-answer
returns-in-Single-clause-answer g c = rw c.in-Single.is c.answer_single.ensures.answer

pub returns-in-Digest-clause-kept : goal.returns-in-Digest-clause-kept
returns-in-Digest-clause-kept g c = on_err c.answer_digest.result _ (λ t. refl)

pub returns-in-Quit-clause-kept : goal.returns-in-Quit-clause-kept
returns-in-Quit-clause-kept g c = on_err c.answer_quit.result _ (λ t. refl)
