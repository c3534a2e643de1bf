use Rattle.std.proofs.Common.{rules, ◌≡◌, IsTrue, map, slice_index_or, Some, subst, ◌∙◌, arith}
use Rattle.std.proofs.lemmas.Result.{err_from_is_err_and}
use Rattle.module_tree.specs.Modules.{module_view}
use Rattle.link.specs.Parts.{tree_of, hosts_of}
use Rattle.wblock_line.specs.Modules.{IsContractOf}
use Rattle.wblock_modules.proofs.Reading.{none, held_next, is_next}
use Rattle.wblock_modules.specs.Deploys.{IsNextModule}
use Rattle.wblock_line.specs.FaultLaws.{of_file_weaker}
use Rattle.wblock_modules.proofs.deploy.read_modules.Goals as goal

pub loop-number-preserved : goal.loop-number-preserved
loop-number-preserved g c =
    let inv = c.loop-number.invariant in
    let d = c.in-Ok.contract in (
      omega (arith, c.loop-number-test.true),
      search rules,
      c.in_ok-bytes.ensures.calm ∙ inv.2,
      (λ t. c.in_ok-bytes.ensures.kept t ∙ inv.3 t),
      λ t.
          held_next (g.F.Files.holds c.args.files.now) c.args.names.now c.loop-number.number c.loop-number.contracts.items c.push.new.self.items d c.loop-number-test.true (inv.4 t)
          (record {
            bytes = c.in_ok-bytes.bytes.items;
            held = subst (λ h. h (slice_index_or c.args.names.now c.loop-number.number none).now ≡ Some c.in_ok-bytes.bytes.items) (inv.3 t) (c.in_ok-bytes.ensures.bytes t);
            is = subst (λ b. IsContractOf b (module_view (tree_of d)) (hosts_of d)) c.as_slice.ensures.value c.in-Ok.ensures.contract;
          }) c.in-Ok-push.ensures.items,
    )

pub returns-in_err-bytes-clause-next : goal.returns-in_err-bytes-clause-next
returns-in_err-bytes-clause-next g c =
    let holds = g.F.Files.holds c.args.files.now in
    let p = err_from_is_err_and c.from_residual.result c.from_residual.ensures.1 in
    rw (p.1, p.2) (of_file_weaker (λ other. other ≡ (slice_index_or c.args.names.now c.loop-number.number none).now) (λ name. IsTrue g.F.Files.tells → IsNextModule holds (map (λ w. w.now) c.args.names.now) name) c.in_err-bytes.field-0.0
    (λ name same t. is_next holds c.args.names.now c.loop-number.number c.loop-number.contracts.items name c.loop-number-test.true (c.loop-number.invariant.4 t) same) c.in_err-bytes.ensures.named)
