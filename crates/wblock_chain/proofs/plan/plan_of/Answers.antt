use Rattle.std.proofs.Common.{List, ℕ, None, Option, option_map, subst, sym, IsTrue}
use Rattle.std.proofs.lemmas.Result.{IfErr-weaker, IfOk-weaker}
use Rattle.world.specs.Views.{world_view}
use Rattle.wblock_line.specs.FaultLaws.{of_file_weaker}
use Rattle.wblock_commands.specs.Does.{Reads}
use Rattle.wblock_commands.specs.declared.command.Command.TheVariants.{Call, Deploy}
use Rattle.wblock_chain.specs.Plans.{IsPlan}
use Rattle.wblock_chain.specs.Sessions.{standing}
use Rattle.wblock_chain.proofs.Planning.{none_other}
use Rattle.wblock_chain.proofs.Standing.{at_world}
use Rattle.wblock_chain.proofs.plan.plan_of.Goals as goal

pub returns-in-Call-clause-plan : goal.returns-in-Call-clause-plan
returns-in-Call-clause-plan g c =
    let w = world_view c.args.world.now in
    let behind = option_map (λ b. b.items) c.args.behind in
    let files = g.F.Files.holds c.args.files.now in
    rw c.in-Call.is (IfOk-weaker c.plan_call.result _ _ (λ p is t. is (standing c.args._name.now w behind None files) (at_world c.args._name.now w behind None files c.in-Call.task.world.now (rw c.in-Call.is at c.requires.over))) c.plan_call.ensures.plan)

pub returns-in-Deploy-clause-plan : goal.returns-in-Deploy-clause-plan
returns-in-Deploy-clause-plan g c =
    let w = world_view c.args.world.now in
    let files = g.F.Files.holds c.args.files.now in
    rw c.in-Deploy.is (IfOk-weaker c.plan_deploy.result _ _ (λ p is t. subst (λ (b : Option (List ℕ)). IsPlan (Deploy c.in-Deploy.task) (standing c.args._name.now w b None files) w p) (sym (rw c.in-Deploy.is at c.requires.lone)) (is t)) c.plan_deploy.ensures.plan)

pub returns-in-Deploy-clause-reads : goal.returns-in-Deploy-clause-reads
returns-in-Deploy-clause-reads g c =
    let w = world_view c.args.world.now in
    let files = g.F.Files.holds c.args.files.now in
    rw c.in-Deploy.is
    (IfErr-weaker c.plan_deploy.result _ _ (λ f is.
    of_file_weaker (λ file. IsTrue g.F.Files.tells → Reads (Deploy c.in-Deploy.task) (standing c.args._name.now w None None files) file) _ f
    (λ file reads t. subst (λ (b : Option (List ℕ)). Reads (Deploy c.in-Deploy.task) (standing c.args._name.now w b None files) file) (sym (rw c.in-Deploy.is at c.requires.lone)) (reads t)) is) c.plan_deploy.ensures.reads)

pub unreachable-requires : goal.unreachable-requires
unreachable-requires g c = none_other c.args._name.now c.args.command c.requires.over c.in_default.not-Mine c.in_default.not-Validate c.in_default.not-Call c.in_default.not-Deploy
