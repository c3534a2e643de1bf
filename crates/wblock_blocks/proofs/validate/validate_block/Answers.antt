use Rattle.std.proofs.Common.{◌≡◌, IsTrue, Some, inl, inr, string_bytes, subst}
use Rattle.std.proofs.lemmas.Result.{IfOk-weaker, err_from_is_err_and}
use Rattle.wblock_line.specs.Answers.{upshot_of}
use Rattle.wblock_line.specs.Upshots.{of_answer}
use Rattle.wblock_line.specs.Inputs.{HoldsWorld, HoldsCalls, Gives, IsNextInput}
use Rattle.wblock_blocks.specs.Validates.{IsNextFile, ValidatesOver}
use Rattle.wblock_line.specs.FaultLaws.{of_file_weaker}
use Rattle.world.specs.Views.{world_view}
use Rattle.wblock_blocks.proofs.validate.validate_block.Goals as goal

pub returns-in-Refused-clause-answers : goal.returns-in-Refused-clause-answers
returns-in-Refused-clause-answers g c = IfOk-weaker c.refuse.result _ _ (λ a told t. inl (record {
  line = string_bytes c.in-Refused.line;
  why = subst (λ inputs. Gives (g.F.Files.holds c.args.files.now) c.args.task.world.now c.args.task.calls.now inputs) c.in-Refused.is (c.in_ok-world.ensures.gives t);
  told = of_answer c.args.task.json (string_bytes c.in-Refused.line) a told;
})) c.refuse.ensures.told

pub returns-in-Ok-clause-answers : goal.returns-in-Ok-clause-answers
returns-in-Ok-clause-answers g c = λ t.
    let holds = g.F.Files.holds c.args.files.now in
    let world = world_view c.in-Read.world in
    let bytes = c.in_ok-bytes.bytes.items in
    let held : HoldsWorld holds c.args.task.world.now world × HoldsCalls holds c.args.task.calls.now c.in-Read.calls.items =
    subst (λ inputs. Gives holds c.args.task.world.now c.args.task.calls.now inputs) c.in-Read.is (c.in_ok-world.ensures.gives t) in inr (record {
      world = world;
      held_world = held.0;
      calls = c.in-Read.calls.items;
      held_calls = held.1;
      bytes = bytes;
      held_block = subst (λ h. h c.args.task.block.now ≡ Some bytes) (c.in_ok-world.ensures.kept t) (c.in_ok-bytes.ensures.bytes t);
      validates =
          subst (λ calls. ValidatesOver world calls bytes c.args.task (upshot_of c.in-Ok.answer)) c.deref.ensures.value
          (subst (λ b. ValidatesOver world c.deref.result.now b c.args.task (upshot_of c.in-Ok.answer)) c.deref-2.ensures.value c.in-Ok.ensures);
    })

pub returns-in_err-world-clause-next : goal.returns-in_err-world-clause-next
returns-in_err-world-clause-next g c =
    let holds = g.F.Files.holds c.args.files.now in
    let p = err_from_is_err_and c.from_residual.result c.from_residual.ensures.1 in
    rw (p.1, p.2) (of_file_weaker (λ name. IsTrue g.F.Files.tells → IsNextInput holds c.args.task.world.now c.args.task.calls.now name) (λ name. IsTrue g.F.Files.tells → IsNextFile holds c.args.task name) c.in_err-world.field-0.0
    (λ name next t. inl (next t)) c.in_err-world.ensures.next)

pub returns-in_err-bytes-clause-next : goal.returns-in_err-bytes-clause-next
returns-in_err-bytes-clause-next g c =
    let holds = g.F.Files.holds c.args.files.now in
    let world = world_view c.in-Read.world in
    let p = err_from_is_err_and c.from_residual-in_err-bytes.result c.from_residual-in_err-bytes.ensures.1 in
    rw (p.1, p.2) (of_file_weaker (λ other. other ≡ c.args.task.block.now) (λ name. IsTrue g.F.Files.tells → IsNextFile holds c.args.task name) c.in_err-bytes.field-0.0 (λ name same t.
    let held : HoldsWorld holds c.args.task.world.now world × HoldsCalls holds c.args.task.calls.now c.in-Read.calls.items =
    subst (λ inputs. Gives holds c.args.task.world.now c.args.task.calls.now inputs) c.in-Read.is (c.in_ok-world.ensures.gives t) in inr (
      record {
        world = world;
        held_world = held.0;
        calls = c.in-Read.calls.items;
        held_calls = held.1;
      },
      same,
    )) c.in_err-bytes.ensures.named)
