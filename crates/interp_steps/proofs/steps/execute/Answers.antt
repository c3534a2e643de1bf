use Rattle.std.proofs.Common.{◌≡◌, ℕ, refl, sym, ap, ◌∙◌, subst, arith, ◌∷◌, List, length, slice_get, drop}
use Rattle.std.specs.Prelude.{unwrap_or}
use Rattle.spec_modules.specs.Syntax as syntax
use Rattle.spec_modules.specs.Operators.{bits_of}
use Rattle.spec_execution.specs.Reduction.{arity}
use Rattle.module_tree.specs.declared.instr.Instr.{Instr}
use Rattle.module_tree.specs.View.{instrs_view}
use Rattle.interp_state.specs.declared.parts.Parts.{Parts}
use Rattle.interp_state.specs.declared.parts.Kind.TheVariants as kind
use Rattle.interp_state.specs.declared.plain.After.{After}
use Rattle.laws_reduction.specs.Branches.{IsTarget}
use Rattle.laws_reduction.specs.Meaning.{Item, Block, Loop}
use Rattle.interp_state.specs.Callee.{contract_of}
use Rattle.interp_steps.specs.Steps.{LeadsTo}
use Rattle.interp_state.specs.Steps.{AreNumbered, HasOpened}
use Rattle.instance.specs.States.{based}
use Rattle.interp_state.specs.Views.{view, items_of, opens_of}
use Rattle.interp_steps.proofs.Acting.{if_ok}
use Rattle.interp_state.specs.ViewLaws.{item_of_first}
use Rattle.interp_state.specs.Numbering.{table_item, block_item, loop_item, if_item, block_body, loop_body, if_bodies, items_numbered, are_numbered_all}
use Rattle.interp_steps.proofs.Controlling.{popped, table_choice, table_one, free_target, free_charged, block_one, loop_one, if_choice, if_met, if_unmet, opened}
use Rattle.interp_steps.proofs.steps.execute.Goals as goal

pub pop_top-choice-requires : goal.pop_top-choice-requires
pop_top-choice-requires g c =
    let p = c.args.parts.now in
    let r = c.requires.ready in
    let n = c.in-BrTable.field-0 in
    let ls = c.in-BrTable.labels in
    let rest = c.first.result.1.now in
    let is = items_of rest in
    let here = item_of_first p c.first.result.0.now rest _ c.first.ensures (table_item g.row.A.Denot n ls c.in-BrTable.fallback c.first.result.0.now c.in-BrTable.is) in
    let top = table_choice (contract_of c.args.lent.now) (view r.base p) r.safe (r.ordered r.base) n is ls.items c.in-BrTable.fallback here in
    omega (arith, top.0, p.stack.ok.0)

pub branch-parts-requires-clause-target : goal.branch-parts-requires-clause-target
branch-parts-requires-clause-target g c =
    let p = c.args.parts.now in
    let r = c.requires.ready in
    let n = c.in-BrTable.field-0 in
    let ls = c.in-BrTable.labels in
    let rest = c.first.result.1.now in
    let is = items_of rest in
    let here = item_of_first p c.first.result.0.now rest _ c.first.ensures (table_item g.row.A.Denot n ls c.in-BrTable.fallback c.first.result.0.now c.in-BrTable.is) in
    let top = table_choice (contract_of c.args.lent.now) (view r.base p) r.safe (r.ordered r.base) n is ls.items c.in-BrTable.fallback here in
    let kept = c.pop_top-choice.new.stack.items in
    let a = c.pop_top-choice.result in
    let fits = popped (view r.base p) (r.ordered r.base) top kept a c.pop_top-choice.ensures.items in
    let label = unwrap_or (slice_get ls.items (bits_of a)) c.in-BrTable.fallback in
    let label_is : c.chosen_label.result ≡ label = c.chosen_label.ensures ∙ ap (λ xs. unwrap_or (slice_get xs (bits_of a)) c.in-BrTable.fallback) c.deref.ensures.value in
    subst (λ l. IsTarget (opens_of p.entries.items) kept (drop l (opens_of p.entries.items))) (sym label_is)
    (free_target (contract_of c.args.lent.now) (view r.base p) r.safe (r.ordered r.base) n is kept fits.1 label
    (table_one (contract_of c.args.lent.now) (view r.base p) r.safe (r.ordered r.base) n is ls.items c.in-BrTable.fallback here kept a c.pop_top-choice.ensures.items fits.0 fits.1))

pub returns-in-BrTable-clause-led : goal.returns-in-BrTable-clause-led
returns-in-BrTable-clause-led g c b safe suits =
    let k = contract_of c.args.lent.now in
    let p = c.args.parts.now in
    let r = c.requires.ready in
    let n = c.in-BrTable.field-0 in
    let ls = c.in-BrTable.labels in
    let rest = c.first.result.1.now in
    let is = items_of rest in
    let here = item_of_first p c.first.result.0.now rest _ c.first.ensures (table_item g.row.A.Denot n ls c.in-BrTable.fallback c.first.result.0.now c.in-BrTable.is) in
    let top = table_choice (contract_of c.args.lent.now) (view r.base p) r.safe (r.ordered r.base) n is ls.items c.in-BrTable.fallback here in
    let kept = c.pop_top-choice.new.stack.items in
    let a = c.pop_top-choice.result in
    let fits = popped (view r.base p) (r.ordered r.base) top kept a c.pop_top-choice.ensures.items in
    let label = unwrap_or (slice_get ls.items (bits_of a)) c.in-BrTable.fallback in
    let label_is : c.chosen_label.result ≡ label = c.chosen_label.ensures ∙ ap (λ xs. unwrap_or (slice_get xs (bits_of a)) c.in-BrTable.fallback) c.deref.ensures.value in
    let j = c.branch-parts.ensures.jumps b in
    free_charged k (view b p) safe (r.ordered b) n is kept fits.1 label
    (table_one k (view b p) safe (r.ordered b) n is ls.items c.in-BrTable.fallback here kept a c.pop_top-choice.ensures.items fits.0 fits.1)
    _ (record { entry = j.entry; there = ap (λ l. drop l (opens_of p.entries.items)) (sym label_is) ∙ j.there; base = j.base; stack = j.stack; locals = j.locals; code = j.code })

pub open-requires-clause-body_numbered : goal.open-requires-clause-body_numbered
open-requires-clause-body_numbered g c =
    let p = c.args.parts.now in
    let i = c.first.result.0.now in
    let rest = c.first.result.1.now in
    let counted = block_body g.row.A.Denot c.in-Block.at c.in-Block.result c.in-Block.body i c.in-Block.is (subst (λ (is : List (Instr g.row.A.Denot)). AreNumbered is) c.first.ensures c.requires.counted.code).0 in
    subst (λ (is : List (Instr g.row.A.Denot)). AreNumbered is) (sym c.deref-in-Block.ensures.value) (are_numbered_all _ c.in-Block.body.items counted)

pub returns-in-Block-clause-led : goal.returns-in-Block-clause-led
returns-in-Block-clause-led g c =
    let p = c.args.parts.now in
    let i = c.first.result.0.now in
    let rest = c.first.result.1.now in
    let counted = block_body g.row.A.Denot c.in-Block.at c.in-Block.result c.in-Block.body i c.in-Block.is (subst (λ (is : List (Instr g.row.A.Denot)). AreNumbered is) c.first.ensures c.requires.counted.code).0 in
    let r = c.requires.ready in
    let n = c.in-Block.at in
    let is = items_of rest in
    let js = items_of c.in-Block.body.items in
    let here = item_of_first p i rest _ c.first.ensures (block_item g.row.A.Denot n c.in-Block.result c.in-Block.body i c.in-Block.is) in
    let body = instrs_view c.in-Block.body.items in
    let js_are = items_numbered _ c.in-Block.body.items counted in
    let q = c.open.new.parts in
    if_ok c.open.result (λ a. HasOpened p kind.Block n c.arity.result rest c.deref-in-Block.result.now a q) (λ a. LeadsTo c.args.lent.now p a q)
    (λ a h. subst (λ (x : After). LeadsTo c.args.lent.now p x q) (sym h.ran) (λ b safe suits.
    let k = contract_of c.args.lent.now in
    opened k (view b p) safe (r.ordered b) n is Block (arity c.in-Block.result) is js p.stack.items (r.ordered b).stands refl tt
    (block_one k (view b p) safe (r.ordered b) n is c.in-Block.result body js js_are here)
    (view b q) (ap (based b) h.instance) (h.entries ∙ ap (λ (m : ℕ). record { scope = Block; ordinal = n; arity = m; height = length p.stack.items; from = is } ∷ opens_of p.entries.items) c.arity.ensures) h.stack h.locals (ap items_of (h.code ∙ c.deref-in-Block.ensures.value))))
    c.open.ensures.opened

pub open-requires-in-Loop-clause-body_numbered : goal.open-requires-in-Loop-clause-body_numbered
open-requires-in-Loop-clause-body_numbered g c =
    let p = c.args.parts.now in
    let i = c.first.result.0.now in
    let rest = c.first.result.1.now in
    let counted = loop_body g.row.A.Denot c.in-Loop.at c.in-Loop.field-1 c.in-Loop.body i c.in-Loop.is (subst (λ (is : List (Instr g.row.A.Denot)). AreNumbered is) c.first.ensures c.requires.counted.code).0 in
    subst (λ (is : List (Instr g.row.A.Denot)). AreNumbered is) (sym c.deref-in-Loop.ensures.value) (are_numbered_all _ c.in-Loop.body.items counted)

pub returns-in-Loop-clause-led : goal.returns-in-Loop-clause-led
returns-in-Loop-clause-led g c =
    let p = c.args.parts.now in
    let i = c.first.result.0.now in
    let rest = c.first.result.1.now in
    let counted = loop_body g.row.A.Denot c.in-Loop.at c.in-Loop.field-1 c.in-Loop.body i c.in-Loop.is (subst (λ (is : List (Instr g.row.A.Denot)). AreNumbered is) c.first.ensures c.requires.counted.code).0 in
    let r = c.requires.ready in
    let n = c.in-Loop.at in
    let is = items_of rest in
    let js = items_of c.in-Loop.body.items in
    let here = item_of_first p i rest _ c.first.ensures (loop_item g.row.A.Denot n c.in-Loop.field-1 c.in-Loop.body i c.in-Loop.is) in
    let body = instrs_view c.in-Loop.body.items in
    let js_are = items_numbered _ c.in-Loop.body.items counted in
    let q = c.open-in-Loop.new.parts in
    let from : List Item = record { ordinal = n; instr = syntax.Loop c.in-Loop.field-1 body } ∷ is in
    if_ok c.open-in-Loop.result (λ a. HasOpened p kind.Loop n 0 p.code.now c.deref-in-Loop.result.now a q) (λ a. LeadsTo c.args.lent.now p a q)
    (λ a h. subst (λ (x : After). LeadsTo c.args.lent.now p x q) (sym h.ran) (λ b safe suits.
    let k = contract_of c.args.lent.now in
    opened k (view b p) safe (r.ordered b) n is Loop 0 from js p.stack.items (r.ordered b).stands refl refl
    (loop_one k (view b p) safe (r.ordered b) n is c.in-Loop.field-1 body js js_are here)
    (view b q) (ap (based b) h.instance) (h.entries ∙ ap (λ (x : List Item). record { scope = Loop; ordinal = n; arity = 0; height = length p.stack.items; from = x } ∷ opens_of p.entries.items) here) h.stack h.locals (ap items_of (h.code ∙ c.deref-in-Loop.ensures.value))))
    c.open-in-Loop.ensures.opened

pub pop_top-choice-requires-in-If : goal.pop_top-choice-requires-in-If
pop_top-choice-requires-in-If g c =
    let p = c.args.parts.now in
    let r = c.requires.ready in
    let i = c.first.result.0.now in
    let rest = c.first.result.1.now in
    let is = items_of rest in
    let n = c.in-If.at in
    let met = instrs_view c.in-If.met.items in
    let unmet = instrs_view c.in-If.unmet.items in
    let here = item_of_first p i rest _ c.first.ensures (if_item g.row.A.Denot n c.in-If.result c.in-If.met c.in-If.unmet i c.in-If.is) in
    let top = if_choice (contract_of c.args.lent.now) (view r.base p) r.safe (r.ordered r.base) n is c.in-If.result met unmet here in
    omega (arith, top.0, p.stack.ok.0)

pub open-requires-then-bits-eq0-clause-body_numbered : goal.open-requires-then-bits-eq0-clause-body_numbered
open-requires-then-bits-eq0-clause-body_numbered g c =
    let p = c.args.parts.now in
    let i = c.first.result.0.now in
    let rest = c.first.result.1.now in
    let counted = if_bodies g.row.A.Denot c.in-If.at c.in-If.result c.in-If.met c.in-If.unmet i c.in-If.is (subst (λ (is : List (Instr g.row.A.Denot)). AreNumbered is) c.first.ensures c.requires.counted.code).0 in
    subst (λ (is : List (Instr g.row.A.Denot)). AreNumbered is) (sym c.deref-then-bits-eq0.ensures.value) (are_numbered_all _ c.in-If.unmet.items counted.1)

pub returns-then-bits-eq0-clause-led : goal.returns-then-bits-eq0-clause-led
returns-then-bits-eq0-clause-led g c =
    let p = c.args.parts.now in
    let r = c.requires.ready in
    let i = c.first.result.0.now in
    let rest = c.first.result.1.now in
    let is = items_of rest in
    let n = c.in-If.at in
    let met = instrs_view c.in-If.met.items in
    let unmet = instrs_view c.in-If.unmet.items in
    let here = item_of_first p i rest _ c.first.ensures (if_item g.row.A.Denot n c.in-If.result c.in-If.met c.in-If.unmet i c.in-If.is) in
    let counted = if_bodies g.row.A.Denot n c.in-If.result c.in-If.met c.in-If.unmet i c.in-If.is (subst (λ (is : List (Instr g.row.A.Denot)). AreNumbered is) c.first.ensures c.requires.counted.code).0 in
    let js = items_of c.in-If.unmet.items in
    let js_are = items_numbered _ c.in-If.unmet.items counted.1 in
    let kept = c.pop_top-choice-in-If.new.stack.items in
    let a = c.pop_top-choice-in-If.result in
    let popped_parts : Parts g.row.A.Denot = record { code = p.code; entries = p.entries; depth = p.depth; stack = c.pop_top-choice-in-If.new.stack; locals = p.locals; instance = p.instance; spare = p.spare } in
    let q = c.open-then-bits-eq0.new.parts in
    if_ok c.open-then-bits-eq0.result (λ x. HasOpened popped_parts kind.Block n c.arity-count.result rest c.deref-then-bits-eq0.result.now x q) (λ x. LeadsTo c.args.lent.now p x q)
    (λ x h. subst (λ (y : After). LeadsTo c.args.lent.now p y q) (sym h.ran) (λ b safe suits.
    let k = contract_of c.args.lent.now in
    let top = if_choice k (view b p) safe (r.ordered b) n is c.in-If.result met unmet here in
    let fits = popped (view b p) (r.ordered b) top kept a c.pop_top-choice-in-If.ensures.items in
    opened k (view b p) safe (r.ordered b) n is Block (arity c.in-If.result) is js kept fits.1 refl tt
    (if_unmet k (view b p) safe (r.ordered b) n is c.in-If.result met unmet here kept a c.pop_top-choice-in-If.ensures.items fits.0 fits.1 js (sym c.bits.ensures ∙ c.if-bits-eq0.true) js_are)
    (view b q) (ap (based b) h.instance) (h.entries ∙ ap (λ (m : ℕ). record { scope = Block; ordinal = n; arity = m; height = length kept; from = is } ∷ opens_of p.entries.items) c.arity-count.ensures) h.stack h.locals (ap items_of (h.code ∙ c.deref-then-bits-eq0.ensures.value))))
    c.open-then-bits-eq0.ensures.opened

pub open-requires-else-bits-eq0-clause-body_numbered : goal.open-requires-else-bits-eq0-clause-body_numbered
open-requires-else-bits-eq0-clause-body_numbered g c =
    let p = c.args.parts.now in
    let i = c.first.result.0.now in
    let rest = c.first.result.1.now in
    let counted = if_bodies g.row.A.Denot c.in-If.at c.in-If.result c.in-If.met c.in-If.unmet i c.in-If.is (subst (λ (is : List (Instr g.row.A.Denot)). AreNumbered is) c.first.ensures c.requires.counted.code).0 in
    subst (λ (is : List (Instr g.row.A.Denot)). AreNumbered is) (sym c.deref-else-bits-eq0.ensures.value) (are_numbered_all _ c.in-If.met.items counted.0)

pub returns-else-bits-eq0-clause-led : goal.returns-else-bits-eq0-clause-led
returns-else-bits-eq0-clause-led g c =
    let p = c.args.parts.now in
    let r = c.requires.ready in
    let i = c.first.result.0.now in
    let rest = c.first.result.1.now in
    let is = items_of rest in
    let n = c.in-If.at in
    let met = instrs_view c.in-If.met.items in
    let unmet = instrs_view c.in-If.unmet.items in
    let here = item_of_first p i rest _ c.first.ensures (if_item g.row.A.Denot n c.in-If.result c.in-If.met c.in-If.unmet i c.in-If.is) in
    let counted = if_bodies g.row.A.Denot n c.in-If.result c.in-If.met c.in-If.unmet i c.in-If.is (subst (λ (is : List (Instr g.row.A.Denot)). AreNumbered is) c.first.ensures c.requires.counted.code).0 in
    let js = items_of c.in-If.met.items in
    let js_are = items_numbered _ c.in-If.met.items counted.0 in
    let kept = c.pop_top-choice-in-If.new.stack.items in
    let a = c.pop_top-choice-in-If.result in
    let popped_parts : Parts g.row.A.Denot = record { code = p.code; entries = p.entries; depth = p.depth; stack = c.pop_top-choice-in-If.new.stack; locals = p.locals; instance = p.instance; spare = p.spare } in
    let q = c.open-else-bits-eq0.new.parts in
    if_ok c.open-else-bits-eq0.result (λ x. HasOpened popped_parts kind.Block n c.arity-count.result rest c.deref-else-bits-eq0.result.now x q) (λ x. LeadsTo c.args.lent.now p x q)
    (λ x h. subst (λ (y : After). LeadsTo c.args.lent.now p y q) (sym h.ran) (λ b safe suits.
    let k = contract_of c.args.lent.now in
    let top = if_choice k (view b p) safe (r.ordered b) n is c.in-If.result met unmet here in
    let fits = popped (view b p) (r.ordered b) top kept a c.pop_top-choice-in-If.ensures.items in
    opened k (view b p) safe (r.ordered b) n is Block (arity c.in-If.result) is js kept fits.1 refl tt
    (if_met k (view b p) safe (r.ordered b) n is c.in-If.result met unmet here kept a c.pop_top-choice-in-If.ensures.items fits.0 fits.1 js (λ e. c.if-bits-eq0.false (c.bits.ensures ∙ e)) js_are)
    (view b q) (ap (based b) h.instance) (h.entries ∙ ap (λ (m : ℕ). record { scope = Block; ordinal = n; arity = m; height = length kept; from = is } ∷ opens_of p.entries.items) c.arity-count.ensures) h.stack h.locals (ap items_of (h.code ∙ c.deref-else-bits-eq0.ensures.value))))
    c.open-else-bits-eq0.ensures.opened
