use Rattle.std.proofs.Common.{refl, sym, ◌∙◌, subst, arith, List}
use Rattle.std.specs.BTreeMap.{get}
use Rattle.spec_ledger.specs.declared.Entry.{Entry}
use Rattle.lock_profile.specs.Turns.{IsProfile}
use Rattle.lock_profile.specs.LockTurns.{turn_cmp}
use Rattle.figures.specs.Turns.{IsPast}
use Rattle.spec_block.specs.Worlds.{profiles_in}
use Rattle.figures.proofs.Tops.{all_forward, back, lists_long, position_there, sums_more, tops_more}
use Rattle.figures.proofs.sums.sums_of.Goals as goal

pub returns-then-goes_back-clause-forward : goal.returns-then-goes_back-clause-forward
returns-then-goes_back-clause-forward c = (
  λ no. absurd (cc no),
  λ forward.
      let profiles = profiles_in c.args.positions.now in
      let n = c.loop-at.at in
      let es = c.entries-entries.result.now in
      let there = position_there c.args.positions.now n c.index-positions-at.result es c.loop-at-test.true c.index-positions-at.is (c.entries-entries.ensures ∙ c.profile-profile.ensures) in
      let profile : IsProfile es = subst (λ (xs : List Entry). IsProfile xs) (sym c.entries-entries.ensures) c.use_invariant.ensures in
      absurd (back profiles c.args.weights.now n es there profile c.loop-at.list.items (get turn_cmp c.loop-at.sums) c.loop-at.invariant.1 (c.goes_back.ensures.0 c.if-goes_back.true) forward),
)

pub loop-at-preserved : goal.loop-at-preserved
loop-at-preserved c =
    let profiles = profiles_in c.args.positions.now in
    let n = c.loop-at.at in
    let es = c.entries-entries.result.now in
    let top = get turn_cmp c.loop-at.sums in
    let there = position_there c.args.positions.now n c.index-positions-at.result es c.loop-at-test.true c.index-positions-at.is (c.entries-entries.ensures ∙ c.profile-profile.ensures) in
    let profile : IsProfile es = subst (λ (xs : List Entry). IsProfile xs) (sym c.entries-entries.ensures) c.use_invariant.ensures in
    let not_past : ¬ IsPast top es = λ past. let yes = c.goes_back.ensures.1 past in let no = c.if-goes_back.false in cc (yes, no) in (
      sums_more profiles c.args.weights.now n es there profile c.loop-at.list.items top c.loop-at.invariant.1 c.loop-at.invariant.0 c.best_before.result c.best_before.ensures c.weight_at-weight.result c.push.new.self.items
          c.in_ok-push.ensures.items c.weight_at-weight.ensures.is c.weight_at-weight.ensures.small not_past,
      tops_more profiles c.args.weights.now n es there profile c.loop-at.list.items top c.loop-at.invariant.1 c.loop-at.invariant.0 c.best_before.result c.best_before.ensures c.weight_at-weight.result c.push.new.self.items
          c.in_ok-push.ensures.items (get turn_cmp c.raise.new.sums) c.in_ok-raise.ensures,
    )

pub returns-clause-forward : goal.returns-clause-forward
returns-clause-forward c = (
  λ _. all_forward (profiles_in c.args.positions.now) c.args.weights.now c.loop-at.list.items c.loop-at.at (let size = lists_long c.args.positions.now in let end = c.loop-at-test.false in omega (arith, size, end)) c.loop-at.invariant.0,
  λ _. refl,
)

pub returns-clause-sums : goal.returns-clause-sums
returns-clause-sums c = λ i lt.
    let forward = all_forward (profiles_in c.args.positions.now) c.args.weights.now c.loop-at.list.items c.loop-at.at (let size = lists_long c.args.positions.now in let end = c.loop-at-test.false in omega (arith, size, end)) c.loop-at.invariant.0 in
    c.loop-at.invariant.0.heavy forward i (let end = c.loop-at-test.false in let size = lists_long c.args.positions.now in omega (arith, lt, end, size))
