use Rattle.std.proofs.Common.{◌≡◌, IsTrue, Some, inl, inr, subst, string_bytes}
use Rattle.std.proofs.lemmas.Result.{err_from_is_err_and}
use Rattle.world.specs.Views.{world_view}
use Rattle.wblock_line.specs.Inputs.{GivesWorld, TellsNoCalls, IsNextInput}
use Rattle.wblock_line.specs.FaultLaws.{of_file_weaker}
use Rattle.wblock_line.proofs.inputs.read_inputs.Goals as goal

pub returns-in-Ok-Err-clause-gives : goal.returns-in-Ok-Err-clause-gives
returns-in-Ok-Err-clause-gives g c = λ t. inr (
  world_view c.in-Read.world,
  subst (λ found. GivesWorld (g.F.Files.holds c.args.files.now) c.args.world.now found) c.in-Read.is (c.in_ok-world.ensures.gives t),
  record {
    bytes = c.in_ok-text.text.items;
    held = subst (λ h. h c.args.calls.now ≡ Some c.in_ok-text.text.items) (c.in_ok-world.ensures.kept t) (c.in_ok-text.ensures.bytes t);
    is = subst (λ b. TellsNoCalls b (string_bytes c.in-Ok-Err.line)) c.as_slice.ensures.value (rw c.in-Ok-Err.field-0-is at c.in-Ok-Err.ensures.judged);
  },
)

pub returns-in_err-world-clause-next : goal.returns-in_err-world-clause-next
returns-in_err-world-clause-next g c =
    let holds = g.F.Files.holds c.args.files.now in
    let p = err_from_is_err_and c.from_residual.result c.from_residual.ensures.1 in
    rw (p.1, p.2) (of_file_weaker (λ other. other ≡ c.args.world.now) (λ name. IsTrue g.F.Files.tells → IsNextInput holds c.args.world.now c.args.calls.now name) c.in_err-world.field-0.0 (λ name same t. inl same) c.in_err-world.ensures.named)

pub returns-in_err-text-clause-next : goal.returns-in_err-text-clause-next
returns-in_err-text-clause-next g c =
    let holds = g.F.Files.holds c.args.files.now in
    let p = err_from_is_err_and c.from_residual-in_err-text.result c.from_residual-in_err-text.ensures.1 in
    rw (p.1, p.2) (of_file_weaker (λ other. other ≡ c.args.calls.now) (λ name. IsTrue g.F.Files.tells → IsNextInput holds c.args.world.now c.args.calls.now name) c.in_err-text.field-0.0 (λ name same t. inr (
      world_view c.in-Read.world,
      subst (λ found. GivesWorld holds c.args.world.now found) c.in-Read.is (c.in_ok-world.ensures.gives t),
      same,
    )) c.in_err-text.ensures.named)
