use Rattle.std.proofs.Common.{option_map, refl}
use Rattle.std.proofs.lemmas.Result.{IfOk-weaker}
use Rattle.world.specs.Views.{world_view}
use Rattle.wblock_line.specs.Words.{line_of}
use Rattle.wblock_commands.proofs.Lines.{if_none, if_some}
use Rattle.wblock_chain.proofs.Answering.{line_answered, line_refused, on_err}
use Rattle.wblock_chain.proofs.session.answer_line.Goals as goal

pub answer_command-requires-clause-few : goal.answer_command-requires-clause-few
answer_command-requires-clause-few g c κs within = rw c.in-Some.is at c.in_ok-command.ensures.few

pub answer_command-requires-clause-over : goal.answer_command-requires-clause-over
answer_command-requires-clause-over g c κs within = rw c.in-Some.is at c.in_ok-command.ensures.over

pub answer_command-requires-clause-lone : goal.answer_command-requires-clause-lone
answer_command-requires-clause-lone g c κs within = c.requires.lone c.in-Some.command (if_some c.in_ok-command.field-0 _ _ c.in-Some.command c.in-Some.is c.in_ok-command.ensures.asked)

pub returns-in-Some-clause-answer : goal.returns-in-Some-clause-answer
returns-in-Some-clause-answer g c =
    let asks = if_some c.in_ok-command.field-0 _ _ c.in-Some.command c.in-Some.is c.in_ok-command.ensures.asked in
    let behind = option_map (λ b. b.items) c.args.behind in
    IfOk-weaker c.answer_command.result _ _ (λ a answers t. line_answered c.args.name.now (line_of c.args.line.now) c.in-Some.command behind (g.F.Files.holds c.args.files.now) (g.F.Files.holds c.answer_command.new.files) (world_view c.args.world) a asks (answers t)) c.answer_command.ensures.answer

pub returns-in-None-clause-answer : goal.returns-in-None-clause-answer
returns-in-None-clause-answer g c =
    let none = if_none c.in_ok-command.field-0 _ _ c.in-None.is c.in_ok-command.ensures.asked in
    IfOk-weaker c.refuse_line.result _ _ (λ a reply t. line_refused c.args.name.now (line_of c.args.line.now) (option_map (λ b. b.items) c.args.behind) (g.F.Files.holds c.args.files.now) (world_view c.args.world) a reply none) c.refuse_line.ensures

pub returns-in-None-clause-kept : goal.returns-in-None-clause-kept
returns-in-None-clause-kept g c = on_err c.refuse_line.result _ (λ t. refl)
