use Rattle.std.proofs.Common.{◌≡◌, ◌≤◌, ◌<◌, ℕ, zero, suc, nat_eq, ◌+◌, ◌-◌, true, false, refl, sym, ap, subst, ◌∙◌, arith, ◌∷◌, List, drop}
use Rattle.wtypes.specs.declared.Value.{Value}
use Rattle.module_tree.specs.declared.instr.Instr.{Instr}
use Rattle.laws_reduction.specs.Meaning.{Item, View, IsOrdered}
use Rattle.laws_reduction.specs.Charging.{mk}
use Rattle.interp_state.specs.Callee.{contract_of, base_of}
use Rattle.interp_state.specs.TopmostValues.{Pushes, IsReadyToPush, pushes}
use Rattle.instance.specs.States.{based}
use Rattle.interp_state.specs.declared.parts.Parts.{Parts}
use Rattle.interp_state.specs.Steps.{IsOrderedParts}
use Rattle.interp_state.specs.Views.{view, items_of, opens_of}
use Rattle.interp_state.specs.Numbering.{plain_item}
use Rattle.interp_steps.specs.StraightLine.{Walks, none, IsSafeFor, IsFirst, PushesNext}
use Rattle.wtypes.specs.declared.PlainInstr.{PlainInstr}
use Rattle.spec_modules.specs.Syntax.{Plain}
use Rattle.interp_state.specs.ViewLaws.{ordered_any}
use Rattle.interp_steps.proofs.Controlling.{br_target, br_charged}
use Rattle.interp_steps.proofs.Repeating.{each_drop, branched_walks, branched_some}
use Rattle.interp_steps.proofs.Walking.{walks_join, walks_once, walks_ordered, safe_now, safe_after}
use Rattle.interp_steps.proofs.Holding.{first_some, items_some, first_push, pushed_first}
use Rattle.interp_steps.proofs.straight_line.begin.Goals as goal

first_item : {x y : Item} {xs ys : List Item} → x ∷ xs ≡ y ∷ ys → x ≡ y
first_item e = cc (e)

operator : {o p : PlainInstr} → Plain o ≡ Plain p → o ≡ p
operator e = cc (e)

-- none that pushes is to come, where the one that stands first does not
pushes_not : {A : Type 0} (code : List (Instr A)) (op : PlainInstr) (rest : List (Instr A)) → IsFirst code op rest → pushes op ≡ false → PushesNext code → ⊥
pushes_not {A} code op rest f other next =
    let there : items_of code ≡ record { ordinal = next.ordinal; instr = Plain next.op } ∷ items_of next.rest =
    ap (items_of {A = A}) next.here ∙ ap (λ (x : Item). x ∷ items_of next.rest) (plain_item A next.ordinal next.op) in
    let same : Plain op ≡ Plain next.op = ap (λ (x : Item). x.instr) (first_item (sym f.here ∙ there)) in
    let clash : true ≡ false = sym next.pushing ∙ (ap pushes (sym (operator same)) ∙ other) in
    absurd (cc (clash))

-- a number of turns that is not 0
some_made : (n : ℕ) → nat_eq n 0 ≡ false → 0 < n
some_made zero e = let clash : true ≡ false = e in absurd (cc (clash))
some_made (suc n) e = omega arith

pub returns-then-len-capacity-clause-walked : goal.returns-then-len-capacity-clause-walked
returns-then-len-capacity-clause-walked g c = none _

pub enter_label-requires-clause-safe : goal.enter_label-requires-clause-safe
enter_label-requires-clause-safe g c ne = c.requires.safe 0 _ c.requires.some (none _) (items_some c.args.parts.now.code.now ne)

pub returns-then-enter_label-clause-walked : goal.returns-then-enter_label-clause-walked
returns-then-enter_label-clause-walked g c =
    walks_once _ _ _ (items_some c.args.parts.now.code.now (c.enter_label.ensures.some c.if-enter_label.true)) (c.enter_label.ensures.entered c.if-enter_label.true)

pub returns-in_default-clause-walked : goal.returns-in_default-clause-walked
returns-in_default-clause-walked g c =
    let v : View = view (base_of c.args.lent.now) c.args.parts.now in
    subst (λ (q : Parts g.row.A.Denot). Walks (contract_of c.args.lent.now) v 0 (view (base_of c.args.lent.now) q)) (sym (c.enter_label.ensures.same c.if-enter_label.false)) (none v)

pub returns-in_default-clause-ordered : goal.returns-in_default-clause-ordered
returns-in_default-clause-ordered g c = subst (λ (q : Parts g.row.A.Denot). IsOrderedParts q) (sym (c.enter_label.ensures.same c.if-enter_label.false)) c.requires.ordered

pub returns-then-not-takes_top-clause-walked : goal.returns-then-not-takes_top-clause-walked
returns-then-not-takes_top-clause-walked g c = none _

pub returns-then-is_empty-clause-walked : goal.returns-then-is_empty-clause-walked
returns-then-is_empty-clause-walked g c = none _

pub go_to-requires-clause-target : goal.go_to-requires-clause-target
go_to-requires-clause-target g c =
    let k = contract_of c.args.lent.now in
    let p = c.args.parts.now in
    let f = c.in-Some.ensures.first in
    let some = items_some p.code.now (first_some p.code.now c.in-Some.op.now c.in-Some.rest.now f) in
    let v = view (base_of c.args.lent.now) p in
    let safe = safe_now k v c.args.most c.requires.safe c.requires.some some in
    let is = items_of c.in-Some.rest.now in
    let here = f.here ∙ ap (λ (o : PlainInstr). record { ordinal = f.ordinal; instr = Plain o } ∷ is) c.in-Br.is in
    br_target k v safe (c.requires.ordered (base_of c.args.lent.now)) f.ordinal is c.in-Br.label here

pub returns-in-Br-clause-walked : goal.returns-in-Br-clause-walked
returns-in-Br-clause-walked g c =
    let k = contract_of c.args.lent.now in
    let b = base_of c.args.lent.now in
    let p = c.args.parts.now in
    let f = c.in-Some.ensures.first in
    let some = items_some p.code.now (first_some p.code.now c.in-Some.op.now c.in-Some.rest.now f) in
    let v = view b p in
    let safe = safe_now k v c.args.most c.requires.safe c.requires.some some in
    let is = items_of c.in-Some.rest.now in
    let here = f.here ∙ ap (λ (o : PlainInstr). record { ordinal = f.ordinal; instr = Plain o } ∷ is) c.in-Br.is in
    let ordered = c.requires.ordered b in
    let label = c.in-Br.label in
    branched_walks k b p (drop label (opens_of p.entries.items)) v some (each_drop label (opens_of p.entries.items) ordered.each) (br_target k v safe ordered f.ordinal is label here)
    (br_charged k v safe ordered f.ordinal is label here) c.args.most c.requires.safe c.go_to.result c.go_to.new.parts c.go_to.ensures.branched c.go_to.ensures.within

pub returns-in-Br-clause-ordered : goal.returns-in-Br-clause-ordered
returns-in-Br-clause-ordered g c =
    let k = contract_of c.args.lent.now in
    let b = base_of c.args.lent.now in
    let p = c.args.parts.now in
    let f = c.in-Some.ensures.first in
    let some = items_some p.code.now (first_some p.code.now c.in-Some.op.now c.in-Some.rest.now f) in
    let v = view b p in
    let safe = safe_now k v c.args.most c.requires.safe c.requires.some some in
    let is = items_of c.in-Some.rest.now in
    let here = f.here ∙ ap (λ (o : PlainInstr). record { ordinal = f.ordinal; instr = Plain o } ∷ is) c.in-Br.is in
    let ordered = c.requires.ordered b in
    let label = c.in-Br.label in
    let target = drop label (opens_of p.entries.items) in
    let walked = branched_walks k b p target v some (each_drop label (opens_of p.entries.items) ordered.each) (br_target k v safe ordered f.ordinal is label here)
    (br_charged k v safe ordered f.ordinal is label here) c.args.most c.requires.safe c.go_to.result c.go_to.new.parts c.go_to.ensures.branched c.go_to.ensures.within in
    ordered_any b c.go_to.new.parts (walks_ordered k v (view b c.go_to.new.parts) c.go_to.result walked (branched_some p c.go_to.new.parts target c.go_to.result c.go_to.ensures.branched))

pub pushed_value-requires : goal.pushed_value-requires
pushed_value-requires g c =
    let k = contract_of c.args.lent.now in
    let p = c.args.parts.now in
    let f = c.in-Some.ensures.first in
    let some = items_some p.code.now (first_some p.code.now c.in-Some.op.now c.in-Some.rest.now f) in
    let v = view (base_of c.args.lent.now) p in
    let safe = c.requires.safe 0 v c.requires.some (none v) some in
    subst (λ (ls : List Value). IsReadyToPush c.in-Some.op.now ls) (sym c.deref.ensures.value)
    (first_push c.args.lent.now p p.code.now safe (c.requires.ordered (base_of c.args.lent.now)) c.in-Some.op.now c.in-Some.rest.now f)

pub hold-made-requires-clause-ordered : goal.hold-made-requires-clause-ordered
hold-made-requires-clause-ordered g c =
    let p = c.args.parts.now in
    let f = c.in-Some.ensures.first in
    let some = items_some p.code.now (first_some p.code.now c.in-Some.op.now c.in-Some.rest.now f) in
    let v = view (base_of c.args.lent.now) p in
    let safe = c.requires.safe 0 v c.requires.some (none v) some in
    let h = subst (λ (ls : List Value). Pushes c.in-Some.op.now ls c.in-Some-pushed_value.value) c.deref.ensures.value c.in-Some-pushed_value.ensures.pushed in
    (pushed_first c.args.lent.now p p.code.now safe (c.requires.ordered (base_of c.args.lent.now)) c.in-Some.op.now c.in-Some.rest.now f c.in-Some-pushed_value.value h).ordered

pub hold-made-requires-clause-safe : goal.hold-made-requires-clause-safe
hold-made-requires-clause-safe g c =
    let k = contract_of c.args.lent.now in
    let p = c.args.parts.now in
    let f = c.in-Some.ensures.first in
    let some = items_some p.code.now (first_some p.code.now c.in-Some.op.now c.in-Some.rest.now f) in
    let v = view (base_of c.args.lent.now) p in
    let safe = c.requires.safe 0 v c.requires.some (none v) some in
    let h = subst (λ (ls : List Value). Pushes c.in-Some.op.now ls c.in-Some-pushed_value.value) c.deref.ensures.value c.in-Some-pushed_value.ensures.pushed in
    let first = pushed_first c.args.lent.now p p.code.now safe (c.requires.ordered (base_of c.args.lent.now)) c.in-Some.op.now c.in-Some.rest.now f c.in-Some-pushed_value.value h in
    let le : 1 + (c.args.most - 1) ≤ c.args.most = let lt = c.requires.some in omega (arith, lt) in
    safe_after k v _ c.args.most 1 (c.args.most - 1) c.requires.safe (walks_once k v _ some first) le

pub returns-in-Some-pushed_value-clause-walked : goal.returns-in-Some-pushed_value-clause-walked
returns-in-Some-pushed_value-clause-walked g c =
    let k = contract_of c.args.lent.now in
    let p = c.args.parts.now in
    let f = c.in-Some.ensures.first in
    let some = items_some p.code.now (first_some p.code.now c.in-Some.op.now c.in-Some.rest.now f) in
    let v = view (base_of c.args.lent.now) p in
    let safe = c.requires.safe 0 v c.requires.some (none v) some in
    let h = subst (λ (ls : List Value). Pushes c.in-Some.op.now ls c.in-Some-pushed_value.value) c.deref.ensures.value c.in-Some-pushed_value.ensures.pushed in
    let first = pushed_first c.args.lent.now p p.code.now safe (c.requires.ordered (base_of c.args.lent.now)) c.in-Some.op.now c.in-Some.rest.now f c.in-Some-pushed_value.value h in
    walks_join k v _ _ 1 c.hold-made.result.0 (walks_once k v _ some first) c.hold-made.ensures.walked

pub hold-made-requires-in-None-clause-ordered : goal.hold-made-requires-in-None-clause-ordered
hold-made-requires-in-None-clause-ordered g c =
    let p = c.args.parts.now in
    subst (λ (s : List Value). IsOrdered (mk (based (base_of c.args.lent.now) p.instance) (opens_of p.entries.items) s p.locals.items (items_of p.code.now))) c.pop_top-value.ensures.items (c.requires.ordered (base_of c.args.lent.now))

pub hold-made-requires-in-None-clause-safe : goal.hold-made-requires-in-None-clause-safe
hold-made-requires-in-None-clause-safe g c =
    let p = c.args.parts.now in
    subst (λ (s : List Value). IsSafeFor (contract_of c.args.lent.now) (mk (based (base_of c.args.lent.now) p.instance) (opens_of p.entries.items) s p.locals.items (items_of p.code.now)) c.args.most) c.pop_top-value.ensures.items c.requires.safe

pub returns-then-not-takes_top-clause-moves : goal.returns-then-not-takes_top-clause-moves
returns-then-not-takes_top-clause-moves g c room next = absurd (pushes_not c.args.parts.now.code.now c.in-Some.op.now c.in-Some.rest.now c.in-Some.ensures.first (c.in-None.ensures.other refl) next)

pub returns-then-is_empty-clause-moves : goal.returns-then-is_empty-clause-moves
returns-then-is_empty-clause-moves g c room next = absurd (pushes_not c.args.parts.now.code.now c.in-Some.op.now c.in-Some.rest.now c.in-Some.ensures.first (c.in-None.ensures.other refl) next)

pub returns-then-ends-clause-ends : goal.returns-then-ends-clause-ends
returns-then-ends-clause-ends g c goes_on =
    let clash : true ≡ false = sym c.if-ends.true ∙ goes_on in
    absurd (cc (clash))

pub returns-then-ends-clause-moves : goal.returns-then-ends-clause-moves
returns-then-ends-clause-moves g c room next = absurd (pushes_not c.args.parts.now.code.now c.in-Some.op.now c.in-Some.rest.now c.in-Some.ensures.first (c.in-None.ensures.other refl) next)

pub returns-else-ends-clause-ends : goal.returns-else-ends-clause-ends
returns-else-ends-clause-ends g c = some_made c.hold-made-in-None.result.0

pub returns-else-ends-clause-moves : goal.returns-else-ends-clause-moves
returns-else-ends-clause-moves g c room next = absurd (pushes_not c.args.parts.now.code.now c.in-Some.op.now c.in-Some.rest.now c.in-Some.ensures.first (c.in-None.ensures.other refl) next)
