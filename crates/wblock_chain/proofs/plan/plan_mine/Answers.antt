use Rattle.std.proofs.Common.{◌≡◌, ◌≤◌, List, ℕ, [], None, inl, option_map, string_bytes, subst, vec_len, IsTrue, arith}
use Rattle.std.proofs.lemmas.Result.{IfOk-weaker, err_from_is_err_and}
use Rattle.spec_block.specs.Worlds.{Call}
use Rattle.world.specs.Views.{world_view}
use Rattle.wblock_calls.specs.Texts.{SpellsCalls}
use Rattle.wblock_line.specs.Inputs.{TellsNoCalls}
use Rattle.wblock_line.specs.Upshots.{IsRefusalWith}
use Rattle.wblock_chain.specs.Plans.{FitsBeside, FitsWorld, IsNoted, IsPlan}
use Rattle.wblock_line.specs.FaultLaws.{of_file_weaker}
use Rattle.wblock_line.specs.Transitions.{WritesBeside, leaving, note_in}
use Rattle.wblock_blocks.specs.Mines.{MinesOver}
use Rattle.wblock_commands.specs.Does.{Reads}
use Rattle.wblock_commands.specs.declared.command.Command.TheVariants.{Mine}
use Rattle.wblock_commands.proofs.Noting.{is_note}
use Rattle.wblock_chain.specs.Sessions.{standing}
use Rattle.wblock_chain.proofs.Planning.{as_planned, fits, mined, no_calls_to_mine, reads_calls}
use Rattle.wblock_chain.proofs.plan.plan_mine.Goals as goal

pub returns-in-Ok-clause-plan : goal.returns-in-Ok-clause-plan
returns-in-Ok-clause-plan g c = λ t.
    let w = world_view c.args.world.now in
    let text = c.in_ok-text.text.items in
    let calls = c.in-Ok-Ok.calls.items in
    let read : SpellsCalls text calls = subst (λ (b : List ℕ). SpellsCalls b calls) c.as_slice.ensures.value (rw c.in-Ok-Ok.field-0-is at c.in-Ok-Ok.ensures.judged) in
    let few : vec_len c.in-Ok-Ok.calls ≤ 65535 = rw c.in-Ok-Ok.field-0-is at c.in-Ok-Ok.ensures.few in
    let count = c.in-Ok-Ok.calls.ok.0 in
    mined c.args._name.now w (option_map (λ b. b.items) c.args.behind) (g.F.Files.holds c.args.files.now) c.args.task text calls (leaving c.in-Ok.transition) c.is_spelled.ensures c.requires.over (c.in_ok-text.ensures.text t) read (omega (arith, few, count))
    (subst (λ (cs : List Call). MinesOver w cs c.args.task (leaving c.in-Ok.transition)) c.as_slice-in-Ok-Ok.ensures.value c.in-Ok.ensures.mines)

pub returns-in-Ok-clause-beside : goal.returns-in-Ok-clause-beside
returns-in-Ok-clause-beside g c = fits (Mine c.args.task) c.in-Ok.transition 1 (omega arith) c.in-Ok.ensures.beside

pub returns-in-Ok-clause-noted : goal.returns-in-Ok-clause-noted
returns-in-Ok-clause-noted g c = is_note (leaving c.in-Ok.transition) (note_in c.in-Ok.transition) c.in-Ok.ensures.notes

pub returns-in_err-text-clause-reads : goal.returns-in_err-text-clause-reads
returns-in_err-text-clause-reads g c =
    let w = world_view c.args.world.now in
    let behind = option_map (λ b. b.items) c.args.behind in
    let files = g.F.Files.holds c.args.files.now in
    let p = err_from_is_err_and c.from_residual.result c.from_residual.ensures.1 in
    rw (p.1, p.2) (of_file_weaker (λ file. file ≡ c.args.task.calls.now) (λ file. IsTrue g.F.Files.tells → Reads (Mine c.args.task) (standing c.args._name.now w behind None files) file) c.in_err-text.field-0.0
    (λ file same t. reads_calls c.args._name.now w behind files c.args.task.world.now c.args.task.calls.now file c.is_spelled.ensures c.requires.over.0 same) c.in_err-text.ensures.named)

pub returns-in-Ok-Err-clause-plan : goal.returns-in-Ok-Err-clause-plan
returns-in-Ok-Err-clause-plan g c =
    let w = world_view c.args.world.now in
    let behind = option_map (λ b. b.items) c.args.behind in
    let files = g.F.Files.holds c.args.files.now in
    let text = c.in_ok-text.text.items in
    let line = string_bytes c.in-Ok-Err.line in
    let why : TellsNoCalls text line = subst (λ (b : List ℕ). TellsNoCalls b line) c.as_slice.ensures.value (rw c.in-Ok-Err.field-0-is at c.in-Ok-Err.ensures.judged) in
    IfOk-weaker c.refused.result _ _ (λ p told t.
    as_planned (λ tr. IsRefusalWith c.args.task.json line (leaving tr)) (IsPlan (Mine c.args.task) (standing c.args._name.now w behind None files) w) p
    (λ tr is. no_calls_to_mine c.args._name.now w behind files c.args.task text line (leaving tr) c.is_spelled.ensures c.requires.over (c.in_ok-text.ensures.text t) why is) told) c.refused.ensures.told

pub returns-in-Ok-Err-clause-beside : goal.returns-in-Ok-Err-clause-beside
returns-in-Ok-Err-clause-beside g c = IfOk-weaker c.refused.result _ _ (λ p is. as_planned (WritesBeside 0) (FitsBeside (Mine c.args.task)) p (λ tr none. fits (Mine c.args.task) tr 0 (omega arith) none) is) c.refused.ensures.beside

pub returns-in-Ok-Err-clause-noted : goal.returns-in-Ok-Err-clause-noted
returns-in-Ok-Err-clause-noted g c = IfOk-weaker c.refused.result _ _ (λ p is. as_planned (λ tr. note_in tr ≡ []) IsNoted p (λ tr none. inl none) is) c.refused.ensures.note

pub returns-in-Ok-Err-clause-fits : goal.returns-in-Ok-Err-clause-fits
returns-in-Ok-Err-clause-fits g c = IfOk-weaker c.refused.result _ _ (λ p is. as_planned (WritesBeside 0) (FitsWorld (world_view c.args.world.now)) p (λ tr none. tt) is) c.refused.ensures.beside
