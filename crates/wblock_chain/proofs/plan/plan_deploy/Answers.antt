use Rattle.std.proofs.Common.{◌≡◌, ◌+◌, ◌≤◌, List, ℕ, None, IsTrue, length, map, subst}
use Rattle.std.proofs.lemmas.Result.{err_from_is_err_and}
use Rattle.world.specs.Views.{world_view}
use Rattle.wblock_calls.specs.Words.{texts}
use Rattle.wblock_line.specs.Answers.{IsOfFile}
use Rattle.wblock_line.specs.declared.answer.Fault.{Fault}
use Rattle.wblock_line.specs.declared.answer.Fault.TheVariants.{File, NoMemory}
use Rattle.wblock_modules.specs.Deploys.{IsNextModule, IsReadBehind}
use Rattle.wblock_commands.specs.Does.{Reads}
use Rattle.wblock_commands.specs.declared.command.Command.TheVariants.{Deploy}
use Rattle.wblock_chain.specs.Sessions.{standing}
use Rattle.wblock_chain.proofs.Planning.{linked, no_modules, reads_module}
use Rattle.wblock_chain.proofs.plan.plan_deploy.Goals as goal

pub returns-in-Refused-clause-plan : goal.returns-in-Refused-clause-plan
returns-in-Refused-clause-plan g c = λ t.
    let w = world_view c.args.world.now in
    let files = g.F.Files.holds c.args.files.now in
    no_modules c.args._name.now w files c.args.task c.in-Refused.line c.in-Refused.why c.is_spelled.ensures c.requires.over (subst (IsReadBehind c.args.task.json files w (texts c.args.task.modules.now)) c.in-Refused.is (c.in_ok-line.ensures.read t))

pub returns-in-Linked-clause-plan : goal.returns-in-Linked-clause-plan
returns-in-Linked-clause-plan g c = λ t.
    let w = world_view c.args.world.now in
    let files = g.F.Files.holds c.args.files.now in
    linked c.args._name.now w files c.args.task c.in-Linked.contracts c.is_spelled.ensures c.requires.over (subst (IsReadBehind c.args.task.json files w (texts c.args.task.modules.now)) c.in-Linked.is (c.in_ok-line.ensures.read t))

-- what is true of a file's name follows from two things that are
of_file_both : (P Q R : List ℕ → Type 0) (f : Fault) → ((name : List ℕ) → P name → Q name → R name) → IsOfFile P f → IsOfFile Q f → IsOfFile R f
of_file_both P Q R (File name cause) both p q = both name.now p q
of_file_both P Q R NoMemory both p q = tt

pub returns-in_err-line-clause-reads : goal.returns-in_err-line-clause-reads
returns-in_err-line-clause-reads g c =
    let w = world_view c.args.world.now in
    let files = g.F.Files.holds c.args.files.now in
    let p = err_from_is_err_and c.from_residual.result c.from_residual.ensures.1 in
    rw (p.1, p.2) (of_file_both (λ file. length w.contracts + length c.args.task.modules.now ≤ 1024) (λ file. IsTrue g.F.Files.tells → IsNextModule files (texts c.args.task.modules.now) file)
    (λ file. IsTrue g.F.Files.tells → Reads (Deploy c.args.task) (standing c.args._name.now w None None files) file) c.in_err-line.field-0.0
    (λ file fits next t. reads_module c.args._name.now w files c.args.task file c.is_spelled.ensures c.requires.over fits (next t)) c.in_err-line.ensures.room c.in_err-line.ensures.next)
