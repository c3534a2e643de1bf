use Rattle.std.proofs.Common.{ℕ, refl, sym, ap, subst, ◌∙◌, ◌∷◌, List, length}
use Rattle.spec_modules.specs.Syntax as syntax
use Rattle.spec_execution.specs.Reduction.{arity}
use Rattle.module_tree.specs.declared.instr.Instr.{Instr}
use Rattle.module_tree.specs.View.{instrs_view}
use Rattle.laws_reduction.specs.Meaning.{Item, Block, Loop}
use Rattle.interp_state.specs.Callee.{contract_of, base_of}
use Rattle.instance.specs.States.{based}
use Rattle.interp_state.specs.Steps.{AreNumbered}
use Rattle.interp_state.specs.Views.{view, items_of, opens_of}
use Rattle.interp_state.specs.ViewLaws.{item_of_first}
use Rattle.interp_state.specs.Numbering.{block_item, loop_item, block_body, loop_body, items_numbered, are_numbered_all}
use Rattle.interp_steps.proofs.Controlling.{block_one, loop_one, opened}
use Rattle.interp_steps.proofs.Holding.{full_some}
use Rattle.interp_steps.proofs.straight_line.enter_label.Goals as goal

pub open_in_room-requires-clause-body_numbered : goal.open_in_room-requires-clause-body_numbered
open_in_room-requires-clause-body_numbered g c =
    let counted = block_body g.row.A.Denot c.in-Block.at c.in-Block.result c.in-Block.body c.first.result.0.now c.in-Block.is (subst (λ (is : List (Instr g.row.A.Denot)). AreNumbered is) c.first.ensures c.requires.counted.code).0 in
    subst (λ (is : List (Instr g.row.A.Denot)). AreNumbered is) (sym c.deref.ensures.value) (are_numbered_all _ c.in-Block.body.items counted)

pub open_in_room-requires-in-Loop-clause-body_numbered : goal.open_in_room-requires-in-Loop-clause-body_numbered
open_in_room-requires-in-Loop-clause-body_numbered g c =
    let counted = loop_body g.row.A.Denot c.in-Loop.at c.in-Loop.field-1 c.in-Loop.body c.first.result.0.now c.in-Loop.is (subst (λ (is : List (Instr g.row.A.Denot)). AreNumbered is) c.first.ensures c.requires.counted.code).0 in
    subst (λ (is : List (Instr g.row.A.Denot)). AreNumbered is) (sym c.deref-in-Loop.ensures.value) (are_numbered_all _ c.in-Loop.body.items counted)

pub returns-in-Block-clause-entered : goal.returns-in-Block-clause-entered
returns-in-Block-clause-entered g c is_so =
    let k = contract_of c.args.lent.now in
    let b = base_of c.args.lent.now in
    let p = c.args.parts.now in
    let q = c.open_in_room.new.parts in
    let i = c.first.result.0.now in
    let rest = c.first.result.1.now in
    let is = items_of rest in
    let n = c.in-Block.at in
    let v = view b p in
    let o = c.requires.ordered b in
    let here = item_of_first p i rest _ c.first.ensures (block_item g.row.A.Denot n c.in-Block.result c.in-Block.body i c.in-Block.is) in
    let counted = block_body g.row.A.Denot n c.in-Block.result c.in-Block.body i c.in-Block.is (subst (λ (is : List (Instr g.row.A.Denot)). AreNumbered is) c.first.ensures c.requires.counted.code).0 in
    let safe = c.requires.safe (full_some p.code.now i rest c.first.ensures) in
    let h = c.open_in_room.ensures.opened is_so in
    let js = items_of c.in-Block.body.items in
    opened k v safe o n is Block (arity c.in-Block.result) is js p.stack.items o.stands refl tt
    (block_one k v safe o n is c.in-Block.result (instrs_view c.in-Block.body.items) js (items_numbered _ c.in-Block.body.items counted) here)
    (view b q) (ap (based b) h.instance) (h.entries ∙ ap (λ (m : ℕ). record { scope = Block; ordinal = n; arity = m; height = length p.stack.items; from = is } ∷ opens_of p.entries.items) c.arity.ensures) h.stack h.locals (ap items_of (h.code ∙ c.deref.ensures.value))

pub returns-in-Loop-clause-entered : goal.returns-in-Loop-clause-entered
returns-in-Loop-clause-entered g c is_so =
    let k = contract_of c.args.lent.now in
    let b = base_of c.args.lent.now in
    let p = c.args.parts.now in
    let q = c.open_in_room-in-Loop.new.parts in
    let i = c.first.result.0.now in
    let rest = c.first.result.1.now in
    let is = items_of rest in
    let n = c.in-Loop.at in
    let v = view b p in
    let o = c.requires.ordered b in
    let body = instrs_view c.in-Loop.body.items in
    let here = item_of_first p i rest _ c.first.ensures (loop_item g.row.A.Denot n c.in-Loop.field-1 c.in-Loop.body i c.in-Loop.is) in
    let counted = loop_body g.row.A.Denot n c.in-Loop.field-1 c.in-Loop.body i c.in-Loop.is (subst (λ (is : List (Instr g.row.A.Denot)). AreNumbered is) c.first.ensures c.requires.counted.code).0 in
    let safe = c.requires.safe (full_some p.code.now i rest c.first.ensures) in
    let h = c.open_in_room-in-Loop.ensures.opened is_so in
    let js = items_of c.in-Loop.body.items in
    let from : List Item = record { ordinal = n; instr = syntax.Loop c.in-Loop.field-1 body } ∷ is in
    opened k v safe o n is Loop 0 from js p.stack.items o.stands refl refl
    (loop_one k v safe o n is c.in-Loop.field-1 body js (items_numbered _ c.in-Loop.body.items counted) here)
    (view b q) (ap (based b) h.instance) (h.entries ∙ ap (λ (x : List Item). record { scope = Loop; ordinal = n; arity = 0; height = length p.stack.items; from = x } ∷ opens_of p.entries.items) here) h.stack h.locals (ap items_of (h.code ∙ c.deref-in-Loop.ensures.value))
