use Rattle.std.proofs.Common.{◌+◌, ◌-◌, ◌≤◌, ap, ◌∙◌, refl, sym, subst, arith, ℕ}
use Rattle.interp_state.specs.Callee.{contract_of, base_of}
use Rattle.laws_reduction.specs.Meaning.{View}
use Rattle.interp_state.specs.Views.{view, items_of}
use Rattle.interp_state.specs.Waiting.{tail_of}
use Rattle.interp_state.specs.ViewLaws.{items_nil, last_of}
use Rattle.interp_steps.specs.StraightLine.{IsSafeFor}
use Rattle.interp.specs.Machine.{progress}
use Rattle.interp.specs.Run.{seen, args_of, IsKept}
use Rattle.interp.specs.Turns.{AreSteps, none}
use Rattle.interp.proofs.Striding.{HasCome, walked_on, safe_for, unmoved}
use Rattle.interp.proofs.running.run_straight_line_on.Given as given
use Rattle.interp.proofs.running.run_straight_line_on.Goals as goal
use Rattle.interp.proofs.running.run_straight_line_on.Goals.{After-settle_all}

pub run_straight_line-made-requires-clause-safe : goal.run_straight_line-made-requires-clause-safe
run_straight_line-made-requires-clause-safe g c =
    let r = c.args.run.now in
    subst (λ (fuel : ℕ). IsSafeFor (contract_of r.lent) (view (base_of r.lent) r.parts) (fuel - r.used)) (sym c.fuel.ensures) (safe_for (seen r) c.requires.kept.machine c.requires.running)

pub returns-then-made-eq0-clause-steps : goal.returns-then-made-eq0-clause-steps
returns-then-made-eq0-clause-steps g c =
    let r = c.args.run.now in
    subst (λ (v : View). AreSteps (progress (seen r)) (progress (record (seen r) { view = v }))) (sym (unmoved _ _ _ _ c.run_straight_line-made.ensures.walked c.if-made-eq0.true)) (none _)

-- the code is the same in the words of the definitions
pub returns-then-made-eq0-clause-some : goal.returns-then-made-eq0-clause-some
returns-then-made-eq0-clause-some g c = λ h e. c.requires.some (items_nil c.args.run.now.parts.code.now (ap (λ (v : View). v.code) (sym (unmoved _ _ _ _ c.run_straight_line-made.ensures.walked c.if-made-eq0.true)) ∙ ap items_of e))

-- the run behind the turns that were made
made_on : (g : given.Over) (c : After-settle_all g) → HasCome (seen c.args.run.now) (seen (record c.args.run.now { used = c.args.run.now.used + c.run_straight_line-made.result; parts = c.settle_all.new.parts; waiting = c.settle_all.new.waiting }))
made_on g c =
    let r = c.args.run.now in
    let k = c.requires.kept in
    let b = base_of r.lent in
    let args = args_of r.call.now.args r.argument in
    let made = c.run_straight_line-made in
    let q = c.settle_all.new.parts in
    let x = c.settle_all.new.waiting in
    let settled = c.settle_all.ensures in
    let come = settled.comes (seen r).contract args b k.waits in
    let some = c.if-made-eq0.false in
    let within : r.used + made.result ≤ r.call.now.fuel = (let most = made.ensures.within in let fuel = c.fuel.ensures in omega (arith, most, fuel, some)) in
    walked_on (seen r) k.machine c.requires.running _ _ _ made.ensures.walked refl some within (view b q) (tail_of args x) come.frees come.ordered (λ e. settled.ready (items_nil q.code.now e)) (last_of args q x settled.last)

kept_on : (g : given.Over) (c : After-settle_all g) → IsKept (record c.args.run.now { used = c.args.run.now.used + c.run_straight_line-made.result; parts = c.settle_all.new.parts; waiting = c.settle_all.new.waiting })
kept_on g c =
    let r = c.args.run.now in
    let k = c.requires.kept in
    let settled = c.settle_all.ensures in
    record {
      machine = (made_on g c).machine;
      counted = settled.counted;
      suits = ap (λ i. i.memory.max) settled.instance ∙ (c.run_straight_line-made.ensures.max ∙ k.suits);
      waits = (settled.comes (seen r).contract (args_of r.call.now.args r.argument) (base_of r.lent) k.waits).waits;
      place = settled.place;
      around = k.around;
      entered = k.entered;
      room = k.room;
    }

pub returns-then-is_empty-clause-kept : goal.returns-then-is_empty-clause-kept
returns-then-is_empty-clause-kept g c = kept_on g (goal.at.returns-then-is_empty-clause-kept g c).After-settle_all

pub returns-then-is_empty-clause-steps : goal.returns-then-is_empty-clause-steps
returns-then-is_empty-clause-steps g c = (made_on g (goal.at.returns-then-is_empty-clause-steps g c).After-settle_all).steps

pub returns-else-is_empty-clause-kept : goal.returns-else-is_empty-clause-kept
returns-else-is_empty-clause-kept g c = kept_on g (goal.at.returns-else-is_empty-clause-kept g c).After-settle_all

pub returns-else-is_empty-clause-steps : goal.returns-else-is_empty-clause-steps
returns-else-is_empty-clause-steps g c = (made_on g (goal.at.returns-else-is_empty-clause-steps g c).After-settle_all).steps
