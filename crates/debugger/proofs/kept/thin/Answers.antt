use Rattle.std.proofs.Common.{suc, ◌<◌, ◌++◌, length, take, drop, ap, ◌∙◌, arith}
use Rattle.std.proofs.lemmas.List.Elements.{All-same, All-append, All-take, All-drop}
use Rattle.debugger.specs.Keeping.{IsOfRun, last_turns}
use Rattle.debugger.proofs.Spacing.{halved_next, halved_last, halved_all}
use Rattle.debugger.proofs.kept.thin.Goals as goal

pub loop-index-preserved : goal.loop-index-preserved
loop-index-preserved g c =
    let here = c.args.here.now in
    let xs = c.loop-index.cursors.items in
    let i = c.loop-index.index in
    let so_far = c.loop-index.invariant in
    let o = c.loop-index.cursors.ok.0 in
    let below : suc i < length xs = omega (arith, o, so_far.left, c.requires.full, c.loop-index-test.true) in
    record {
      all = All-same (IsOfRun here) c.remove.new.self.items (take i xs ++ drop (suc i) xs) c.remove.ensures.items
          (All-append (IsOfRun here) (take i xs) (drop (suc i) xs) (All-take (IsOfRun here) i xs so_far.all) (All-drop (IsOfRun here) (suc i) xs so_far.all));
      left = omega (arith, c.remove.ensures.len, so_far.left);
      last = ap (last_turns 0) c.remove.ensures.items ∙ halved_last 0 i xs below ∙ so_far.last;
      halved = λ d spaced. halved_next d i xs c.remove.new.self.items (so_far.halved d spaced) below c.remove.ensures.items;
    }

pub returns-clause-spaced : goal.returns-clause-spaced
returns-clause-spaced g c =
    let left = c.loop-index.cursors in
    let o = left.ok.0 in
    λ d spaced. halved_all d 0 c.loop-index.index left.items (c.loop-index.invariant.halved d spaced)
    (omega (arith, o, c.loop-index.invariant.left, c.requires.full, c.loop-index-test.false, c.loop-index.auto.index-end))
