use Rattle.std.proofs.Common.{◌≡◌, ◌<◌, ◌++◌, length, get_or, arith, rules, ap, ◌∙◌, sym}
use Rattle.std.proofs.lemmas.Result.{on_ok_weaker}
use Rattle.std.proofs.lemmas.List.{take_all}
use Rattle.spec_modules.specs.Shortest.{instr_bytes, run_bytes}
use Rattle.module_tree.specs.View.{instr_view}
use Rattle.encoder.proofs.Runs.{run_more, front_on, view_run, if_spelled}
use Rattle.encoder.proofs.instrs.+put.Goals as goal

pub put_instr-returns-in_ok-put_instrs-in-If-2-clause-bytes : goal.put_instr-returns-in_ok-put_instrs-in-If-2-clause-bytes
put_instr-returns-in_ok-put_instrs-in-If-2-clause-bytes g t c =
    let w = c.in-If in
    let some : 0 < length w.else_body.items = search rules in
    on_ok_weaker c.put_byte-in-If-4.result
    (if_spelled c.args.instr.now w.field-0 w.result_type w.then_body w.else_body c.result_code-in-If.result c.args.out.now.items
    c.put_byte-in-If.new.out.items c.put_byte-in-If-2.new.out.items c.put_instrs-in-If.new.out.items c.put_byte-in-If-3.new.out.items c.put_instrs-in-If-2.new.out.items c.put_byte-in-If-4.new.out.items
    w.is some c.result_code-in-If.ensures
    c.in_ok-put_byte-in-If.ensures.bytes c.in_ok-put_byte-in-If-2.ensures.bytes c.in_ok-put_instrs-in-If.ensures.bytes c.in_ok-put_byte-in-If-3.ensures.bytes c.in_ok-put_instrs-in-If-2.ensures.bytes)
    c.put_byte-in-If-4.ensures.bytes

pub put_instrs-loop-instr-preserved : goal.put_instrs-loop-instr-preserved
put_instrs-loop-instr-preserved g t c =
    let body = c.args.body.now.items in
    let x = c.instr-item.result in
    let i = c.loop-instr.instr-index in
    let lt : i < length body = omega arith in
    let at : x ≡ get_or body i x = search rules in
    run_more (λ y. instr_bytes (instr_view y)) body x i lt at _ _ _ c.loop-instr.invariant (search rules)

pub put_instrs-returns-in_err-put_instr-clause-front : goal.put_instrs-returns-in_err-put_instr-clause-front
put_instrs-returns-in_err-put_instr-clause-front g t c = front_on _ _ _ _ c.loop-instr.invariant c.put_instr.ensures.front

pub put_instrs-returns-clause-bytes : goal.put_instrs-returns-clause-bytes
put_instrs-returns-clause-bytes g t c =
    let body = c.args.body.now.items in
    c.loop-instr.invariant ∙ ap (λ l. c.args.out.now.items ++ run_bytes (λ i. instr_bytes (instr_view i)) l) (take_all c.loop-instr.instr-index body (omega arith)) ∙ ap (λ l. c.args.out.now.items ++ l) (sym (view_run body))
