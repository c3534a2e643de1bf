use Rattle.std.proofs.Common.{◌≡◌, length, get_or, refl, ap, ◌∙◌, arith, rules}
use Rattle.module_tree.specs.View.{instr_view}
use Rattle.module_tree.proofs.OneInstr.{not_one, lone_at, view_Plain, view_BrTable, view_Block, view_Loop, view_If}
use Rattle.module_tree.proofs.lone.lone_plain.Goals as goal

pub returns-then-len-ne1 : goal.returns-then-len-ne1
returns-then-len-ne1 g c =
    let is = c.args.expression.now.items in
    let n : c.len.result ≡ length is = search rules in
    not_one is (λ e. c.if-len-ne1.true (n ∙ e))

pub returns-in-Plain : goal.returns-in-Plain
returns-in-Plain g c =
    let is = c.args.expression.now.items in
    let x = c.index.result.now in
    let n : c.len.result ≡ length is = search rules in
    let one : length is ≡ 1 = omega (arith, n, c.if-len-ne1.false) in
    let at : x ≡ get_or is 0 x = search rules in
    lone_at is x _ _ one at (ap instr_view c.in-Plain.is ∙ view_Plain _ c.in-Plain.field-0 c.in-Plain.op) refl

pub returns-in-BrTable : goal.returns-in-BrTable
returns-in-BrTable g c =
    let is = c.args.expression.now.items in
    let x = c.index.result.now in
    let n : c.len.result ≡ length is = search rules in
    let one : length is ≡ 1 = omega (arith, n, c.if-len-ne1.false) in
    let at : x ≡ get_or is 0 x = search rules in
    lone_at is x _ _ one at (ap instr_view c.in-BrTable.is ∙ view_BrTable c.in-BrTable.field-0 c.in-BrTable.field-1 c.in-BrTable.field-2) refl

pub returns-in-Block : goal.returns-in-Block
returns-in-Block g c =
    let is = c.args.expression.now.items in
    let x = c.index.result.now in
    let n : c.len.result ≡ length is = search rules in
    let one : length is ≡ 1 = omega (arith, n, c.if-len-ne1.false) in
    let at : x ≡ get_or is 0 x = search rules in
    lone_at is x _ _ one at (ap instr_view c.in-Block.is ∙ view_Block c.in-Block.field-0 c.in-Block.field-1 c.in-Block.field-2) refl

pub returns-in-Loop : goal.returns-in-Loop
returns-in-Loop g c =
    let is = c.args.expression.now.items in
    let x = c.index.result.now in
    let n : c.len.result ≡ length is = search rules in
    let one : length is ≡ 1 = omega (arith, n, c.if-len-ne1.false) in
    let at : x ≡ get_or is 0 x = search rules in
    lone_at is x _ _ one at (ap instr_view c.in-Loop.is ∙ view_Loop c.in-Loop.field-0 c.in-Loop.field-1 c.in-Loop.field-2) refl

pub returns-in-If : goal.returns-in-If
returns-in-If g c =
    let is = c.args.expression.now.items in
    let x = c.index.result.now in
    let n : c.len.result ≡ length is = search rules in
    let one : length is ≡ 1 = omega (arith, n, c.if-len-ne1.false) in
    let at : x ≡ get_or is 0 x = search rules in
    lone_at is x _ _ one at (ap instr_view c.in-If.is ∙ view_If c.in-If.field-0 c.in-If.field-1 c.in-If.field-2 c.in-If.field-3) refl
