use Rattle.std.proofs.Common.{◌≡◌, List, ap, subst, ◌∙◌, map}
use Rattle.spec_ledger.specs.declared.Version.TheVariants.{Two}
use Rattle.spec_execution.specs.Exec.{Executes}
use Rattle.spec_ledger.specs.declared.Lock.{Lock}
use Rattle.spec_ledger.specs.declared.Mode.{Mode}
use Rattle.spec_ledger.specs.Cells.{AreCells, Cells}
use Rattle.spec_block.specs.Worlds.{Contract}
use Rattle.spec_block.specs.Serial.{setting_of}
use Rattle.interp.specs.Callee.{setting_view}
use Rattle.lock_profile.specs.Groups.{pairs}
use Rattle.world.specs.Views.{world_view}
use Rattle.serial.proofs.Untouched.{untouched}
use Rattle.embed.specs.Given.{change_at}
use Rattle.embed.proofs.calling.effects_of.Goals as goal

pub returns : goal.returns
returns c =
    let world = world_view c.args.world.now in
    let call = c.args.call.now in
    let receipt = c.in_ok-executed.executed.receipt in
    let touched = c.in_ok-executed.executed.touched in
    let later = c.execute.new.cells.cells in
    let same : c.in_ok-later.later.cells ≡ world.cells = c.in_ok-later.ensures.cells ∙ c.cells-before.ensures in
    let executes : Executes (setting_of Two world) call world.cells later receipt touched =
    subst (λ (cs : List Contract). Executes (record { contracts = cs; version = Two }) call world.cells later receipt touched) c.contracts.ensures.contracts
    (subst (λ (cells : Cells). Executes (setting_view Two c.contracts.result.now) call cells later receipt touched) same c.in_ok-executed.ensures.executed) in
    let are : AreCells world.cells = subst AreCells c.cells-before.ensures c.use_invariant.ensures.cells in
    let law = c.an_execution_has_a_read_write_set.ensures in
    record {
      touched = touched;
      later = later;
      executed = executes;
      changes_are =
          c.in_ok-changes.ensures ∙ (ap (λ (cells : Cells). map (change_at cells later) (pairs c.lock_modes.result.now)) c.cells-before.ensures ∙ ap (λ (held : List (Lock × Mode)). map (change_at world.cells later) held) c.lock_modes.ensures);
      others = λ lock none. untouched world.cells later touched lock (law.left (setting_of Two world) call world.cells later receipt touched are executes) (law.kept world.cells later world.cells touched lock) none;
    }
