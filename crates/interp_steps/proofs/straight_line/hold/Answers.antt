use Rattle.std.proofs.Common.{◌≡◌, ◌≢◌, ◌≤◌, ◌+◌, ◌-◌, ℕ, refl, sym, subst, ◌∙◌, arith, [], ◌∷◌, ◌++◌, List}
use Rattle.wtypes.specs.declared.Value.{Value}
use Rattle.laws_reduction.specs.Meaning.{Charged}
use Rattle.laws_reduction.specs.Charging.{mk}
use Rattle.interp_state.specs.Callee.{contract_of, base_of}
use Rattle.interp_state.specs.TopmostValues.{Pushes, IsReadyToPush}
use Rattle.instance.specs.States.{based}
use Rattle.interp_state.specs.Views.{view, items_of, opens_of}
use Rattle.interp_steps.specs.StraightLine.{Walks, none, one_more, IsSafeFor, with_top, holding}
use Rattle.interp_steps.proofs.Acting.{counted_rest}
use Rattle.interp_steps.proofs.Holding.{first_some, items_some, may_push, pushed_over, pushed_onto}
use Rattle.interp_steps.proofs.Walking.{walks_join, walks_ordered, safe_after}
use Rattle.interp_state.specs.ViewLaws.{ordered_any}
use Rattle.interp_steps.proofs.straight_line.hold.Goals as goal

pub held-init : goal.held-init
held-init g c = record { walked = none _; room = c.requires.room; ordered = c.requires.ordered; counted = c.requires.counted; max = refl; within = omega arith }

pub pushed_value-requires : goal.pushed_value-requires
pushed_value-requires g c =
    let p = c.held.parts in
    let f = c.in-Some.ensures.first in
    let some = items_some p.code.now (first_some p.code.now c.in-Some.op.now c.in-Some.rest.now f) in
    let safe = c.requires.safe c.held.made _ c.held-test.true c.held.invariant.walked some in
    subst (λ (ls : List Value). IsReadyToPush c.in-Some.op.now ls) (sym c.deref.ensures.value) (may_push c.args.lent.now p (c.held.held ∷ []) p.code.now safe c.held.invariant.ordered c.in-Some.op.now c.in-Some.rest.now f)

pub change_held-requires-clause-safe : goal.change_held-requires-clause-safe
change_held-requires-clause-safe g c =
    let p = c.held.parts in
    c.requires.safe c.held.made _ c.held-test.true c.held.invariant.walked (items_some p.code.now (first_some p.code.now c.in-Some.op.now c.in-Some.rest.now c.in-Some.ensures.first))

pub join_next-requires-clause-ordered : goal.join_next-requires-clause-ordered
join_next-requires-clause-ordered g c =
    let p = c.held.parts in
    let f = c.in-Some.ensures.first in
    let some = items_some p.code.now (first_some p.code.now c.in-Some.op.now c.in-Some.rest.now f) in
    let safe = c.requires.safe c.held.made _ c.held-test.true c.held.invariant.walked some in
    let h = subst (λ (ls : List Value). Pushes c.in-Some.op.now ls c.in-Some-pushed_value.second) c.deref.ensures.value c.in-Some-pushed_value.ensures.pushed in
    (pushed_over c.args.lent.now p c.held.held p.code.now safe c.held.invariant.ordered c.in-Some.op.now c.in-Some.rest.now f c.in-Some-pushed_value.second h).ordered

pub join_next-requires-clause-safe : goal.join_next-requires-clause-safe
join_next-requires-clause-safe g c lt ne =
    let p = c.held.parts in
    let f = c.in-Some.ensures.first in
    let some = items_some p.code.now (first_some p.code.now c.in-Some.op.now c.in-Some.rest.now f) in
    let safe = c.requires.safe c.held.made _ c.held-test.true c.held.invariant.walked some in
    let h = subst (λ (ls : List Value). Pushes c.in-Some.op.now ls c.in-Some-pushed_value.second) c.deref.ensures.value c.in-Some-pushed_value.ensures.pushed in
    let over = pushed_over c.args.lent.now p c.held.held p.code.now safe c.held.invariant.ordered c.in-Some.op.now c.in-Some.rest.now f c.in-Some-pushed_value.second h in
    c.requires.safe (c.held.made + 1) _ (omega (arith, lt)) (one_more _ _ _ _ c.held.invariant.walked some over) (items_some c.in-Some.rest.now ne)

pub held-preserved-in-Some-join_next : goal.held-preserved-in-Some-join_next
held-preserved-in-Some-join_next g c =
    let p = c.held.parts in
    let f = c.in-Some.ensures.first in
    let some = items_some p.code.now (first_some p.code.now c.in-Some.op.now c.in-Some.rest.now f) in
    let safe = c.requires.safe c.held.made _ c.held-test.true c.held.invariant.walked some in
    let h = subst (λ (ls : List Value). Pushes c.in-Some.op.now ls c.in-Some-pushed_value.second) c.deref.ensures.value c.in-Some-pushed_value.ensures.pushed in
    let over = pushed_over c.args.lent.now p c.held.held p.code.now safe c.held.invariant.ordered c.in-Some.op.now c.in-Some.rest.now f c.in-Some-pushed_value.second h in
    let j = c.in-Some-join_next.ensures in
    let lt = j.two.0 in
    let two : (c.held.made + 1) + 1 ≡ c.held.made + 2 = omega arith in
    record {
      walked = subst (λ (n : ℕ). Walks (contract_of c.args.lent.now) (holding (base_of c.args.lent.now) c.args.parts.now c.args.first) n (with_top (base_of c.args.lent.now) p (c.in-Some-join_next.value ∷ []) c.in-Some-join_next.behind.now)) two
          (one_more _ _ _ _ (one_more _ _ _ _ c.held.invariant.walked some over) (items_some c.in-Some.rest.now j.two.1) j.joins);
      room = c.held.invariant.room;
      ordered = j.joins.ordered;
      counted = counted_rest p _ refl refl (j.numbered (f.numbered c.held.invariant.counted.code)) c.held.invariant.counted;
      max = c.held.invariant.max;
      within = omega (arith, lt);
    }

pub held-preserved-in-None-join_next : goal.held-preserved-in-None-join_next
held-preserved-in-None-join_next g c =
    let p = c.held.parts in
    let f = c.in-Some.ensures.first in
    let some = items_some p.code.now (first_some p.code.now c.in-Some.op.now c.in-Some.rest.now f) in
    let safe = c.requires.safe c.held.made _ c.held-test.true c.held.invariant.walked some in
    let h = subst (λ (ls : List Value). Pushes c.in-Some.op.now ls c.in-Some-pushed_value.second) c.deref.ensures.value c.in-Some-pushed_value.ensures.pushed in
    let onto = subst (λ (s : List Value). Charged (contract_of c.args.lent.now) (holding (base_of c.args.lent.now) p c.held.held) (mk (based (base_of c.args.lent.now) p.instance) (opens_of p.entries.items) (s ++ c.in-Some-pushed_value.second ∷ []) p.locals.items (items_of c.in-Some.rest.now)))
    (sym c.push_reserved.ensures.items) (pushed_onto c.args.lent.now p c.held.held p.code.now safe c.held.invariant.ordered c.in-Some.op.now c.in-Some.rest.now f c.in-Some-pushed_value.second h) in
    record {
      walked = one_more _ _ _ _ c.held.invariant.walked some onto;
      room = omega (arith, c.push_reserved.ensures.len, c.push_reserved.ensures.capacity, c.len.ensures, c.capacity.ensures, c.if-len-capacity.false);
      ordered = onto.ordered;
      counted = counted_rest p _ refl refl (f.numbered c.held.invariant.counted.code) c.held.invariant.counted;
      max = c.held.invariant.max;
      within = omega (arith, c.held-test.true);
    }

pub held-preserved : goal.held-preserved
held-preserved g c =
    let p = c.held.parts in
    let some = items_some p.code.now (first_some p.code.now c.in-Some.op.now c.in-Some.rest.now c.in-Some.ensures.first) in
    let e = c.in-Some-change_held.ensures in
    record {
      walked = one_more _ _ _ _ c.held.invariant.walked some e.changed;
      room = e.room;
      ordered = e.changed.ordered;
      counted = e.counted;
      max = e.max ∙ c.held.invariant.max;
      within = omega (arith, c.held-test.true);
    }

pub let_go-gone-requires-clause-safe : goal.let_go-gone-requires-clause-safe
let_go-gone-requires-clause-safe g c =
    let p = c.held.parts in
    let k = contract_of c.args.lent.now in
    let le : c.held.made + (c.args.most - c.held.made) ≤ c.args.most = let lt = c.held-test.true in omega (arith, lt) in
    let safe = safe_after k _ (holding (base_of c.args.lent.now) p c.held.held) c.args.most c.held.made (c.args.most - c.held.made) c.requires.safe c.held.invariant.walked le in
    subst (λ q. IsSafeFor k (holding (base_of c.args.lent.now) q c.held.held) (c.args.most - c.held.made)) (sym (c.in-None-change_held.ensures.same refl)) safe

pub returns-then-gone-gt0-clause-walked : goal.returns-then-gone-gt0-clause-walked
returns-then-gone-gt0-clause-walked g c =
    let p = c.held.parts in
    let k = contract_of c.args.lent.now in
    let gone = c.let_go-gone.result in
    let some : gone ≢ 0 = let lt = c.if-gone-gt0.true in λ e. omega (arith, lt, e) in
    let went = subst (λ q. Walks k (holding (base_of c.args.lent.now) q c.held.held) gone (view (base_of c.args.lent.now) c.let_go-gone.new.parts)) (c.in-None-change_held.ensures.same refl) (c.let_go-gone.ensures.went some) in
    walks_join k _ _ _ c.held.made gone c.held.invariant.walked went

pub returns-then-gone-gt0-clause-ordered : goal.returns-then-gone-gt0-clause-ordered
returns-then-gone-gt0-clause-ordered g c =
    let gone = c.let_go-gone.result in
    let some : gone ≢ 0 = let lt = c.if-gone-gt0.true in λ e. omega (arith, lt, e) in
    ordered_any (base_of c.args.lent.now) c.let_go-gone.new.parts (walks_ordered (contract_of c.args.lent.now) _ _ gone (c.let_go-gone.ensures.went some) c.if-gone-gt0.true)

pub enter_if-requires-clause-safe : goal.enter_if-requires-clause-safe
enter_if-requires-clause-safe g c ne = c.requires.safe c.held.made _ c.held-test.true c.held.invariant.walked (items_some c.held.parts.code.now ne)

pub returns-then-enter_if-clause-walked : goal.returns-then-enter_if-clause-walked
returns-then-enter_if-clause-walked g c =
    one_more _ _ _ _ c.held.invariant.walked (items_some c.held.parts.code.now (c.enter_if.ensures.some c.if-enter_if.true)) (c.enter_if.ensures.entered c.if-enter_if.true)
