use Rattle.std.proofs.Common.{◌≡◌, ◌+◌, ◌≤◌, IsTrue, length, map, arith}
use Rattle.std.proofs.lemmas.Result.{IfErr-weaker, IfOk-weaker}
use Rattle.world.specs.Views.{world_view}
use Rattle.wblock_line.specs.FaultLaws.{of_file_weaker}
use Rattle.wblock_modules.specs.Deploys.{IsNextModule}
use Rattle.wblock_modules.proofs.Behind.{read_behind, read_fits}
use Rattle.wblock_modules.proofs.deploy.read_modules_behind.Goals as goal

pub returns-clause-fits : goal.returns-clause-fits
returns-clause-fits g c = IfOk-weaker c.read_modules.result _ _ (λ m count. read_fits (world_view c.args.base.now) (length c.args.names.now) m (omega (arith, c.count_of-contracts.ensures.count, c.if-is_crowded.false)) count) c.read_modules.ensures.count

pub returns-clause-read : goal.returns-clause-read
returns-clause-read g c =
    IfOk-weaker c.read_modules.result _ _ (λ m read t. read_behind c.args.json (g.F.Files.holds c.args.files.now) (world_view c.args.base.now) c.args.names.now m (omega (arith, c.count_of-contracts.ensures.count, c.if-is_crowded.false)) (read t))
    c.read_modules.ensures.read

pub returns-clause-room : goal.returns-clause-room
returns-clause-room g c =
    let base = world_view c.args.base.now in
    let holds = g.F.Files.holds c.args.files.now in
    let names = map (λ w. w.now) c.args.names.now in
    IfErr-weaker c.read_modules.result _ _ (λ f next. of_file_weaker (λ name. IsTrue g.F.Files.tells → IsNextModule holds names name) (λ name. length base.contracts + length c.args.names.now ≤ 1024) f
    (λ name is. omega (arith, c.count_of-contracts.ensures.count, c.if-is_crowded.false)) next) c.read_modules.ensures.next
