use Rattle.std.proofs.Common.{ℕ, refl, sym, ap, subst, ◌∙◌, ◌∷◌, List, length, Bor}
use Rattle.spec_execution.specs.Reduction.{arity}
use Rattle.module_tree.specs.declared.instr.Instr.{Instr}
use Rattle.module_tree.specs.View.{instrs_view}
use Rattle.laws_reduction.specs.Meaning.{Block}
use Rattle.interp_state.specs.Callee.{contract_of, base_of}
use Rattle.instance.specs.States.{based}
use Rattle.interp_state.specs.Steps.{AreNumbered}
use Rattle.interp_state.specs.Views.{view, items_of, opens_of}
use Rattle.interp_state.specs.ViewLaws.{item_of_first}
use Rattle.interp_state.specs.Numbering.{if_item, if_bodies, items_numbered, are_numbered_all}
use Rattle.interp_steps.specs.StraightLine.{holding}
use Rattle.interp_steps.proofs.Controlling.{popped, if_choice, if_met, if_unmet, opened}
use Rattle.interp_steps.proofs.Holding.{full_some}
use Rattle.interp_steps.proofs.straight_line.enter_if.Goals as goal
use Rattle.interp_steps.proofs.straight_line.enter_if.Goals.{then-bits-eq0, else-bits-eq0}

pub open_in_room-requires-clause-body_numbered : goal.open_in_room-requires-clause-body_numbered
open_in_room-requires-clause-body_numbered g c =
    let counted = if_bodies g.row.A.Denot c.in-If.at c.in-If.result c.in-If.met c.in-If.unmet c.first.result.0.now c.in-If.is (subst (λ (is : List (Instr g.row.A.Denot)). AreNumbered is) c.first.ensures c.requires.counted.code).0 in
    elim c.if-bits-eq0.branch [
      | then-bits-eq0 w ↦ subst (λ (is : List (Instr g.row.A.Denot)). AreNumbered is) (sym (ap (λ (x : Bor (List (Instr g.row.A.Denot))). x.now) w.body-is ∙ w.deref-body.ensures.value)) (are_numbered_all _ c.in-If.unmet.items counted.1)
      | else-bits-eq0 w ↦ subst (λ (is : List (Instr g.row.A.Denot)). AreNumbered is) (sym (ap (λ (x : Bor (List (Instr g.row.A.Denot))). x.now) w.body-is ∙ w.deref-body-else-bits-eq0.ensures.value)) (are_numbered_all _ c.in-If.met.items counted.0)
    ]

pub returns-after-bits-eq0-clause-entered : goal.returns-after-bits-eq0-clause-entered
returns-after-bits-eq0-clause-entered g c is_so =
    let k = contract_of c.args.lent.now in
    let b = base_of c.args.lent.now in
    let p = c.args.parts.now in
    let q = c.open_in_room.new.parts in
    let i = c.first.result.0.now in
    let rest = c.first.result.1.now in
    let is = items_of rest in
    let n = c.in-If.at in
    let v = holding b p c.args.held in
    let o = c.requires.ordered in
    let met = instrs_view c.in-If.met.items in
    let unmet = instrs_view c.in-If.unmet.items in
    let here = item_of_first p i rest _ c.first.ensures (if_item g.row.A.Denot n c.in-If.result c.in-If.met c.in-If.unmet i c.in-If.is) in
    let counted = if_bodies g.row.A.Denot n c.in-If.result c.in-If.met c.in-If.unmet i c.in-If.is (subst (λ (is : List (Instr g.row.A.Denot)). AreNumbered is) c.first.ensures c.requires.counted.code).0 in
    let safe = c.requires.safe (full_some p.code.now i rest c.first.ensures) in
    let fits = popped v o (if_choice k v safe o n is c.in-If.result met unmet here) p.stack.items c.args.held refl in
    let h = c.open_in_room.ensures.opened is_so in
    let entries = h.entries ∙ ap (λ (m : ℕ). record { scope = Block; ordinal = n; arity = m; height = length p.stack.items; from = is } ∷ opens_of p.entries.items) c.arity.ensures in
    elim c.if-bits-eq0.branch [
      | then-bits-eq0 w ↦
          let js = items_of c.in-If.unmet.items in
          opened k v safe o n is Block (arity c.in-If.result) is js p.stack.items fits.1 refl tt
          (if_unmet k v safe o n is c.in-If.result met unmet here p.stack.items c.args.held refl fits.0 fits.1 js (sym c.bits.ensures ∙ w.if-bits-eq0.true) (items_numbered _ c.in-If.unmet.items counted.1))
          (view b q) (ap (based b) h.instance) entries h.stack h.locals (ap items_of (h.code ∙ ap (λ (x : Bor (List (Instr g.row.A.Denot))). x.now) w.body-is ∙ w.deref-body.ensures.value))
      | else-bits-eq0 w ↦
          let js = items_of c.in-If.met.items in
          opened k v safe o n is Block (arity c.in-If.result) is js p.stack.items fits.1 refl tt
          (if_met k v safe o n is c.in-If.result met unmet here p.stack.items c.args.held refl fits.0 fits.1 js (λ e. w.if-bits-eq0.false (c.bits.ensures ∙ e)) (items_numbered _ c.in-If.met.items counted.0))
          (view b q) (ap (based b) h.instance) entries h.stack h.locals (ap items_of (h.code ∙ ap (λ (x : Bor (List (Instr g.row.A.Denot))). x.now) w.body-is ∙ w.deref-body-else-bits-eq0.ensures.value))
    ]
