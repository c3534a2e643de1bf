use Rattle.std.proofs.Common.{option_map, ◌∙◌}
use Rattle.std.proofs.lemmas.Result.{IfOk-weaker, on_err_weaker}
use Rattle.world.specs.Views.{world_view}
use Rattle.wblock_chain.proofs.Answering.{answers_failed, answers_linked, answers_made, on_err}
use Rattle.wblock_chain.proofs.Planning.{fits_one}
use Rattle.wblock_chain.proofs.session.answer_single.Goals as goal

pub settle_transition-requires : goal.settle_transition-requires
settle_transition-requires g c = fits_one c.args.command c.in-Ok-Made.transition (rw c.in-Ok-Made.field-0-is at c.in-Ok-Made.ensures.beside)

pub settle_contracts-requires : goal.settle_contracts-requires
settle_contracts-requires g c = rw c.in-Ok-Linked.field-0-is at c.in-Ok-Linked.ensures.fits

pub returns-in-Ok-Made-clause-answer : goal.returns-in-Ok-Made-clause-answer
returns-in-Ok-Made-clause-answer g c = IfOk-weaker c.settle_transition.result _ _ (λ a settles t.
    answers_made c.args.name.now c.args.command (option_map (λ b. b.items) c.args.behind) (g.F.Files.holds c.args.files.now) (g.F.Files.holds c.plan_of.new.files) (g.F.Files.holds c.settle_transition.new.files) (world_view c.args.world) c.in-Ok-Made.transition a c.requires.over
    (rw c.in-Ok-Made.field-0-is at (c.in-Ok-Made.ensures.plan t)) (rw c.in-Ok-Made.field-0-is at c.in-Ok-Made.ensures.beside) (rw c.in-Ok-Made.field-0-is at c.in-Ok-Made.ensures.noted) (c.in-Ok-Made.ensures.kept t) (settles t)) c.settle_transition.ensures.settles

pub returns-in-Ok-Linked-clause-answer : goal.returns-in-Ok-Linked-clause-answer
returns-in-Ok-Linked-clause-answer g c = IfOk-weaker c.settle_contracts.result _ _ (λ a ext t.
    answers_linked c.args.name.now c.args.command (option_map (λ b. b.items) c.args.behind) (g.F.Files.holds c.args.files.now) (g.F.Files.holds c.plan_of.new.files) (world_view c.args.world) c.in-Ok-Linked.contracts c.in-Ok-Linked.json a c.requires.over
    (rw c.in-Ok-Linked.field-0-is at (c.in-Ok-Linked.ensures.plan t)) (c.in-Ok-Linked.ensures.kept t) ext) c.settle_contracts.ensures

pub returns-in-Err-File-clause-answer : goal.returns-in-Err-File-clause-answer
returns-in-Err-File-clause-answer g c = IfOk-weaker c.failed.result _ _ (λ a reply t.
    answers_failed c.args.name.now c.args.command (option_map (λ b. b.items) c.args.behind) (g.F.Files.holds c.args.files.now) (g.F.Files.holds c.plan_of.new.files) (world_view c.args.world) c.in-Err-File.file.now a ((rw c.in-Err-File.field-0-is at c.in-Err-File.ensures.reads) t) (c.in-Err-File.ensures.kept t) reply) c.failed.ensures

pub returns-in-Ok-Made-clause-kept : goal.returns-in-Ok-Made-clause-kept
returns-in-Ok-Made-clause-kept g c = on_err_weaker c.settle_transition.result (λ kept t. kept t ∙ c.in-Ok-Made.ensures.kept t) c.settle_transition.ensures.kept

pub returns-in-Ok-Linked-clause-kept : goal.returns-in-Ok-Linked-clause-kept
returns-in-Ok-Linked-clause-kept g c = on_err c.settle_contracts.result _ c.in-Ok-Linked.ensures.kept

pub returns-in-Err-File-clause-kept : goal.returns-in-Err-File-clause-kept
returns-in-Err-File-clause-kept g c = on_err c.failed.result _ c.in-Err-File.ensures.kept
