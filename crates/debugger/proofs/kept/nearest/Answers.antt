use Rattle.std.proofs.Common.{◌≡◌, ℕ, suc, ◌+◌, ◌≤◌, List, [], ◌∷◌, length, drop, sym, ap, ◌∙◌, subst, arith, drop-cons, drop_of_length-le}
use Rattle.debugger.specs.declared.cursor.Cursor.{Cursor}
use Rattle.debugger.specs.Keeping.{IsOfRun}
use Rattle.debugger.proofs.Spacing.{AreRest, rest_more, nearest_before, nearest_last}
use Rattle.debugger.proofs.kept.nearest.Goals as goal

pub loop-cursor-preserved : goal.loop-cursor-preserved
loop-cursor-preserved g c =
    let here = c.args.here.now in
    let others = c.args.others.now in
    let i = c.loop-cursor.cursor-index in
    let next = c.cursor-item.result in
    record {
      earlier = record { of_run = subst (IsOfRun here) (sym c.cursor-item.is) (c.requires.others i _ c.loop-cursor-test.true); before = omega (arith, c.used.ensures, c.if-used-turns.false) };
      rest = subst (λ (j : ℕ). AreRest c.args.first.now next others (drop j others)) (let e : suc i ≡ i + 1 = omega arith in e)
          (rest_more c.args.first.now c.loop-cursor.best.now next others (drop (suc i) others)
          (subst (AreRest c.args.first.now c.loop-cursor.best.now others) (drop-cons others i next c.loop-cursor-test.true ∙ ap (λ (y : Cursor _). y ∷ drop (suc i) others) (sym c.cursor-item.is)) c.loop-cursor.invariant.rest));
    }

pub returns-then-used-turns-clause-near : goal.returns-then-used-turns-clause-near
returns-then-used-turns-clause-near g c =
    let others = c.args.others.now in
    let i = c.loop-cursor.cursor-index in
    let next = c.cursor-item.result in
    nearest_before c.args.first.now c.loop-cursor.best.now next others (drop (suc i) others) c.args.turns
    (subst (AreRest c.args.first.now c.loop-cursor.best.now others) (drop-cons others i next c.loop-cursor-test.true ∙ ap (λ (y : Cursor _). y ∷ drop (suc i) others) (sym c.cursor-item.is)) c.loop-cursor.invariant.rest)
    (omega (arith, c.used.ensures, c.if-used-turns.true))

pub returns-clause-near : goal.returns-clause-near
returns-clause-near g c =
    let others = c.args.others.now in
    let i = c.loop-cursor.cursor-index in
    nearest_last c.args.first.now c.loop-cursor.best.now others (drop i others) c.args.turns c.loop-cursor.invariant.rest (ended others i c.loop-cursor-test.false)
  where
    ended : {X : Type 0} (xs : List X) (i : ℕ) → length xs ≤ i → drop i xs ≡ []
    ended xs i past = drop_of_length-le xs past
