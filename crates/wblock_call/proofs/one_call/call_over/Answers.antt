use Rattle.std.proofs.Common.{rules, ◌≡◌, List, ap, string_bytes, subst, ◌∙◌}
use Rattle.spec_ledger.specs.declared.Version.TheVariants.{Two}
use Rattle.spec_execution.specs.Exec.{Executes}
use Rattle.spec_ledger.specs.Cells.{AreCells, Cells}
use Rattle.spec_block.specs.Worlds.{Contract}
use Rattle.spec_block.specs.Serial.{setting_of}
use Rattle.interp.specs.Callee.{setting_view}
use Rattle.world.specs.Views.{world_view}
use Rattle.serial.proofs.Untouched.{untouched}
use Rattle.wblock_call.specs.Calling.{TellsEffects}
use Rattle.wblock_call.proofs.one_call.call_over.Goals as goal

pub returns : goal.returns
returns c =
    let world = world_view c.args.world.now in
    let call = c.args.call.now in
    let receipt = c.in_ok-executed.executed.receipt in
    let touched = c.in_ok-executed.executed.touched in
    let later = c.execute.new.cells.cells in
    let same : c.in_ok-later.later.cells ≡ world.cells = c.in_ok-later.ensures.cells ∙ c.cells-before.ensures in
    let executes : Executes (setting_of Two world) call world.cells later receipt touched =
    subst (λ (cs : List Contract). Executes (record { contracts = cs; version = Two }) call world.cells later receipt touched) c.contracts.ensures.contracts
    (subst (λ (cells : Cells). Executes (setting_view Two c.contracts.result.now) call cells later receipt touched) same c.in_ok-executed.ensures.executed) in
    let are : AreCells world.cells = subst AreCells c.cells-before.ensures c.use_invariant.ensures.cells in
    let law = c.an_execution_has_a_read_write_set.ensures in
    record {
      ran = record { receipt = receipt; touched = touched };
      later = later;
      executed = executes;
      told = record {
        status_is = search rules;
        writes = search rules;
        text_is = subst (λ (cells : Cells). TellsEffects c.args.style.json c.args.style.signed (record { receipt = receipt; touched = touched }) cells later (string_bytes c.in_ok-text.text)) c.cells-before.ensures c.in_ok-text.ensures;
      };
      others = λ lock none. untouched world.cells later touched lock (law.left (setting_of Two world) call world.cells later receipt touched are executes) (law.kept world.cells later world.cells touched lock) none;
    }
