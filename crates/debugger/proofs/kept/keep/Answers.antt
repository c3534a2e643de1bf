use Rattle.std.proofs.Common.{◌≡◌, refl, sym, ap, ◌∙◌, arith}
use Rattle.debugger.specs.Keeping.{next_turns}
use Rattle.debugger.proofs.Keeping.{copy_of_run}
use Rattle.debugger.proofs.Spacing.{kept_same, kept_more, kept_half}
use Rattle.debugger.proofs.kept.keep.Goals as goal

pub returns-in_err-push-clause-kept : goal.returns-in_err-push-clause-kept
returns-in_err-push-clause-kept g c = kept_same c.args.here.now c.args.kept.now c.requires.kept _ c.in_err-push.ensures.items refl refl

pub returns-in_ok-push-clause-kept : goal.returns-in_ok-push-clause-kept
returns-in_ok-push-clause-kept g c =
    let next = c.in_ok-copy.field-0 in
    let o = c.push.new.self.ok.0 in
    let same : next.machine.used ≡ c.args.cursor.now.machine.used = ap (λ p. p.used) c.in_ok-copy.ensures.machine in
    let due : next.machine.used ≡ next_turns c.args.kept.now = omega (arith, same, c.used-turns.ensures, c.requires.reached, c.if-turns-kept.false, c.if-turns-kept-2.false) in
    kept_more c.args.here.now c.args.kept.now c.requires.kept _ next (copy_of_run c.args.here.now c.args.cursor.now next c.requires.cursor c.in_ok-copy.ensures) due
    c.in_ok-push.ensures.items (c.used-turns.ensures ∙ sym same) refl (omega (arith, o, c.in_ok-push.ensures.len, c.len.ensures, c.if-len-lt-MOST_KEPT.true))

pub returns-else-len-lt-MOST_KEPT-clause-kept : goal.returns-else-len-lt-MOST_KEPT-clause-kept
returns-else-len-lt-MOST_KEPT-clause-kept g c =
    let before = c.args.kept.now.cursors.ok.0 in
    let after = c.thin.new.cursors.ok.0 in
    kept_half c.args.here.now c.args.kept.now c.requires.kept _ (omega (arith, before, c.requires.kept.few, c.len.ensures, c.if-len-lt-MOST_KEPT.false))
    c.thin.ensures.all (omega (arith, after, c.thin.ensures.half)) c.thin.ensures.last c.thin.ensures.spaced refl (omega arith)
