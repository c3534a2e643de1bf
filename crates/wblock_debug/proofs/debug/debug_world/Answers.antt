use Rattle.std.proofs.Common.{◌≡◌, IsTrue, List, Some, length, slice_get, string_bytes, refl, ap, sym, subst, inl, inr, ◌∙◌}
use Rattle.std.proofs.lemmas.Option.{slice_get_read, slice_get_past}
use Rattle.std.proofs.lemmas.Result.{err_from_is_err_and}
use Rattle.spec_block.specs.Worlds.{Call}
use Rattle.world.specs.Views.{world_view}
use Rattle.wblock_line.specs.Inputs.{HoldsWorld, HoldsCalls, Gives, IsNextInput}
use Rattle.wblock_io.specs.Holding.{Holding}
use Rattle.wblock_line.specs.FaultLaws.{of_file_weaker}
use Rattle.wblock_debug.specs.Debugs.{TellsListed, IsBlockName, IsNextRead}
use Rattle.wblock_debug.proofs.debug.debug_world.Goals as goal

pub returns-in-Refused-clause-answers : goal.returns-in-Refused-clause-answers
returns-in-Refused-clause-answers g c = λ t. inl (record {
  line = string_bytes c.in-Refused.line;
  why = subst (λ inputs. Gives (g.F.Files.holds c.args.files.now) c.args.task.now.world.now c.args.task.now.calls.now inputs) c.in-Refused.is (c.in_ok-world.ensures.gives t);
  told = c.in_ok-refused-in-Refused.ensures.told;
})

pub returns-in_default-clause-answers : goal.returns-in_default-clause-answers
returns-in_default-clause-answers g c = λ t.
    let holds = g.F.Files.holds c.args.files.now in
    let world = world_view c.in-Read.world in
    let calls = c.in-Read.calls.items in
    let task = c.args.task.now in
    let held : HoldsWorld holds task.world.now world × HoldsCalls holds task.calls.now calls =
    subst (λ inputs. Gives holds task.world.now task.calls.now inputs) c.in-Read.is (c.in_ok-world.ensures.gives t) in
    let lent = c.as_slice-list.result.now in
    let item = c.in_default.ensures.lookup in
    record {
      world = world;
      held_world = held.0;
      calls = calls;
      held_calls = held.1;
      none = ap (λ cs. slice_get cs task.call) (sym c.as_slice-list.ensures.value) ∙ slice_get_past lent task.call item.3;
    }

pub debug_listed-requires-clause-listed : goal.debug_listed-requires-clause-listed
debug_listed-requires-clause-listed g c =
    let lent = c.as_slice-list.result.now in
    let item = c.in-Some.ensures.lookup in
    λ lifetimes lives. slice_get_read lent (length lent) c.args.task.now.call c.in-Some.call.now refl item.3.0 item.1

pub returns-in-Ok-clause-answers : goal.returns-in-Ok-clause-answers
returns-in-Ok-clause-answers g c = λ t.
    let holds = g.F.Files.holds c.args.files.now in
    let world = world_view c.in-Read.world in
    let calls = c.in-Read.calls.items in
    let task = c.args.task.now in
    let held : HoldsWorld holds task.world.now world × HoldsCalls holds task.calls.now calls =
    subst (λ inputs. Gives holds task.world.now task.calls.now inputs) c.in-Read.is (c.in_ok-world.ensures.gives t) in
    let lent = c.as_slice-list.result.now in
    let item = c.in-Some.ensures.lookup in
    let found : slice_get lent task.call ≡ Some c.in-Some.call.now = slice_get_read lent (length lent) task.call c.in-Some.call.now refl item.3.0 item.1 in
    inr (record {
      world = world;
      held_world = held.0;
      calls = calls;
      held_calls = held.1;
      call = c.in-Some.call.now;
      listed = ap (λ cs. slice_get cs task.call) (sym c.as_slice-list.ensures.value) ∙ found;
      tells = subst (λ (h : Holding). TellsListed h world calls c.in-Some.call.now task task.block c.in-Ok.answer) (c.in_ok-world.ensures.kept t)
          (subst (λ (cs : List Call). TellsListed (g.F.Files.holds c.read_inputs.new.files) world cs c.in-Some.call.now task task.block c.in-Ok.answer) c.as_slice-list.ensures.value (c.in-Ok.ensures.answers t));
    })

pub returns-in_err-world-clause-next : goal.returns-in_err-world-clause-next
returns-in_err-world-clause-next g c =
    let holds = g.F.Files.holds c.args.files.now in
    let task = c.args.task.now in
    let p = err_from_is_err_and c.from_residual.result c.from_residual.ensures.1 in
    rw (p.1, p.2) (of_file_weaker (λ name. IsTrue g.F.Files.tells → IsNextInput holds task.world.now task.calls.now name) (λ name. IsTrue g.F.Files.tells → IsNextRead holds task name) c.in_err-world.field-0.0
    (λ name next t. inl (next t)) c.in_err-world.ensures.next)

pub returns-clause-next : goal.returns-clause-next
returns-clause-next g c =
    let holds = g.F.Files.holds c.args.files.now in
    let world = world_view c.in-Read.world in
    let calls = c.in-Read.calls.items in
    let task = c.args.task.now in
    let lent = c.as_slice-list.result.now in
    let item = c.in-Some.ensures.lookup in
    let found : slice_get lent task.call ≡ Some c.in-Some.call.now = slice_get_read lent (length lent) task.call c.in-Some.call.now refl item.3.0 item.1 in
    of_file_weaker (IsBlockName task.block) (λ name. IsTrue g.F.Files.tells → IsNextRead holds task name) c.in-Err.fault (λ name is t.
    let held : HoldsWorld holds task.world.now world × HoldsCalls holds task.calls.now calls =
    subst (λ inputs. Gives holds task.world.now task.calls.now inputs) c.in-Read.is (c.in_ok-world.ensures.gives t) in
    inr (record {
      world = world;
      held_world = held.0;
      calls = calls;
      held_calls = held.1;
      call = c.in-Some.call.now;
      listed = ap (λ cs. slice_get cs task.call) (sym c.as_slice-list.ensures.value) ∙ found;
      is = is;
    })) c.in-Err.ensures.next
