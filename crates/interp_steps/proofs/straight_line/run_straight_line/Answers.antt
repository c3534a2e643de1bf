use Rattle.std.proofs.Common.{◌≡◌, ◌+◌, ◌-◌, ◌≤◌, ◌<◌, ℕ, zero, suc, vec_len, vec_capacity, refl, sym, ap, subst, ◌∙◌, arith}
use Rattle.laws_reduction.specs.Meaning.{View}
use Rattle.interp_state.specs.Callee.{contract_of, base_of}
use Rattle.interp_state.specs.declared.parts.Parts.{Parts}
use Rattle.interp_state.specs.Steps.{IsOrderedParts}
use Rattle.interp_state.specs.Views.{view, items_of}
use Rattle.interp_steps.specs.StraightLine.{Walks, none, PushesNext}
use Rattle.interp_steps.proofs.Walking.{walks_join, walks_settled, safe_after, nothing_left}
use Rattle.interp_steps.proofs.Holding.{items_some}
use Rattle.interp_steps.proofs.straight_line.run_straight_line.Goals as goal
use Rattle.interp_steps.proofs.straight_line.run_straight_line.Goals.{then-is_empty, else-is_empty}

some_turn : (n : ℕ) → (n ≡ 0 → ⊥) → 0 < n
some_turn zero h = absurd (h refl)
some_turn (suc n) h = omega arith

pub straight_line-init : goal.straight_line-init
straight_line-init g c = record { walked = none _; ordered = c.requires.ordered; counted = c.requires.counted; max = refl; within = omega arith; unmoved = λ z. refl }

pub begin-more-requires-clause-ordered : goal.begin-more-requires-clause-ordered
begin-more-requires-clause-ordered g c = elim c.if-is_empty.branch [
  | then-is_empty w ↦ subst (λ (q : Parts g.row.A.Denot). IsOrderedParts q) (sym w.parts-is) (λ b. (w.settle.ensures.settles (contract_of c.args.lent.now) b).ordered)
  | else-is_empty w ↦ subst (λ (q : Parts g.row.A.Denot). IsOrderedParts q) (sym w.parts-is) c.straight_line.invariant.ordered
]

pub begin-more-requires-clause-safe : goal.begin-more-requires-clause-safe
begin-more-requires-clause-safe g c =
    let k = contract_of c.args.lent.now in
    let b = base_of c.args.lent.now in
    let v : View = view b c.args.parts.now in
    let come : Walks k v c.straight_line.made (view b c.if-is_empty.parts) = elim c.if-is_empty.branch [
      | then-is_empty w ↦ subst (λ (q : Parts g.row.A.Denot). Walks k v c.straight_line.made (view b q)) (sym w.parts-is)
          (walks_settled k v _ _ c.straight_line.made c.straight_line.invariant.walked (items_some c.args.parts.now.code.now c.requires.some) (ap items_of (nothing_left c.straight_line.parts.code.now (sym c.is_empty.ensures ∙ w.if-is_empty.true))) (w.settle.ensures.settles k b))
      | else-is_empty w ↦ subst (λ (q : Parts g.row.A.Denot). Walks k v c.straight_line.made (view b q)) (sym w.parts-is) c.straight_line.invariant.walked
    ] in
    let le : c.straight_line.made + (c.args.most - c.straight_line.made) ≤ c.args.most = let h = c.straight_line.invariant.within in omega (arith, h) in
    safe_after k v _ c.args.most c.straight_line.made (c.args.most - c.straight_line.made) c.requires.safe come le

pub straight_line-preserved : goal.straight_line-preserved
straight_line-preserved g c =
    let k = contract_of c.args.lent.now in
    let b = base_of c.args.lent.now in
    let v : View = view b c.args.parts.now in
    let come : Walks k v c.straight_line.made (view b c.if-is_empty.parts) = elim c.if-is_empty.branch [
      | then-is_empty w ↦ subst (λ (q : Parts g.row.A.Denot). Walks k v c.straight_line.made (view b q)) (sym w.parts-is)
          (walks_settled k v _ _ c.straight_line.made c.straight_line.invariant.walked (items_some c.args.parts.now.code.now c.requires.some) (ap items_of (nothing_left c.straight_line.parts.code.now (sym c.is_empty.ensures ∙ w.if-is_empty.true))) (w.settle.ensures.settles k b))
      | else-is_empty w ↦ subst (λ (q : Parts g.row.A.Denot). Walks k v c.straight_line.made (view b q)) (sym w.parts-is) c.straight_line.invariant.walked
    ] in
    let max : c.if-is_empty.parts.instance.memory.max ≡ c.args.parts.now.instance.memory.max = elim c.if-is_empty.branch [
      | then-is_empty w ↦ ap (λ (q : Parts g.row.A.Denot). q.instance.memory.max) w.parts-is ∙ (ap (λ i. i.memory.max) w.settle.ensures.instance ∙ c.straight_line.invariant.max)
      | else-is_empty w ↦ ap (λ (q : Parts g.row.A.Denot). q.instance.memory.max) w.parts-is ∙ c.straight_line.invariant.max
    ] in
    let e = c.begin-more.ensures in
    let le = e.within in
    record { walked = walks_join k v _ _ c.straight_line.made c.begin-more.result.0 come e.walked; ordered = e.ordered; counted = e.counted; max = e.max ∙ max; within = let h = c.straight_line-test.true in omega (arith, le, h); unmoved = let some = e.ends c.if-ends.false in λ z. absurd (omega (arith, z, some)) }

pub returns-then-ends-clause-walked : goal.returns-then-ends-clause-walked
returns-then-ends-clause-walked g c =
    let k = contract_of c.args.lent.now in
    let b = base_of c.args.lent.now in
    let v : View = view b c.args.parts.now in
    let come : Walks k v c.straight_line.made (view b c.if-is_empty.parts) = elim c.if-is_empty.branch [
      | then-is_empty w ↦ subst (λ (q : Parts g.row.A.Denot). Walks k v c.straight_line.made (view b q)) (sym w.parts-is)
          (walks_settled k v _ _ c.straight_line.made c.straight_line.invariant.walked (items_some c.args.parts.now.code.now c.requires.some) (ap items_of (nothing_left c.straight_line.parts.code.now (sym c.is_empty.ensures ∙ w.if-is_empty.true))) (w.settle.ensures.settles k b))
      | else-is_empty w ↦ subst (λ (q : Parts g.row.A.Denot). Walks k v c.straight_line.made (view b q)) (sym w.parts-is) c.straight_line.invariant.walked
    ] in
    walks_join k v _ _ c.straight_line.made c.begin-more.result.0 come c.begin-more.ensures.walked

pub returns-then-ends-clause-moves : goal.returns-then-ends-clause-moves
returns-then-ends-clause-moves g c most room next =
    some_turn (c.straight_line.made + c.begin-more.result.0)
    (λ z.
    let same : c.straight_line.parts ≡ c.args.parts.now = c.straight_line.invariant.unmoved (omega (arith, z)) in
    let still : c.if-is_empty.parts ≡ c.args.parts.now = elim c.if-is_empty.branch [
      | then-is_empty w ↦ absurd (c.requires.some (ap (λ (q : Parts g.row.A.Denot). q.code.now) (sym same) ∙ nothing_left c.straight_line.parts.code.now (sym c.is_empty.ensures ∙ w.if-is_empty.true)))
      | else-is_empty w ↦ w.parts-is ∙ same
    ] in
    let turn = c.begin-more.ensures.moves (subst (λ (q : Parts g.row.A.Denot). vec_len q.stack < vec_capacity q.stack) (sym still) room) (subst (λ (q : Parts g.row.A.Denot). PushesNext q.code.now) (sym still) next) in
    omega (arith, turn, z))
