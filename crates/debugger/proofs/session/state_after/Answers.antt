use Rattle.std.proofs.Common.{◌≡◌, ◌-◌, ap, subst, arith}
use Rattle.std.specs.Prelude.{◌⊎◌, IsSome}
use Rattle.interp.specs.MachineViews.{ending}
use Rattle.debugger.proofs.Keeping.{leads_to}
use Rattle.debugger.proofs.session.state_after.Goals as goal

pub returns-clause-turns : goal.returns-clause-turns
returns-clause-turns g c =
    let end = c.make_turns.new.cursor in
    let made = c.in_ok-again.ensures in
    leads_to c.args.here.now c.args.earlier.now c.in_ok-cursor.cursor end c.args.turns c.in_ok-again.again c.requires.here c.requires.earlier.of_run c.requires.earlier.before c.requires.before c.in_ok-cursor.ensures made.at made.same made.made
    (omega (arith, made.most, c.used.ensures))
    (subst (λ n. (c.in_ok-again.again ≡ c.args.turns - n) ⊎ IsSome (ending end.machine)) c.used.ensures made.all)

pub returns-clause-again : goal.returns-clause-again
returns-clause-again g c =
    let end = c.make_turns.new.cursor in
    let made = c.in_ok-again.ensures in
    let first : c.in_ok-cursor.cursor.machine.used ≡ c.args.earlier.now.machine.used = ap (λ p. p.used) c.in_ok-cursor.ensures.machine in
    let there : end.machine.used ≡ c.args.turns =
    leads_to c.args.here.now c.args.earlier.now c.in_ok-cursor.cursor end c.args.turns c.in_ok-again.again c.requires.here c.requires.earlier.of_run c.requires.earlier.before c.requires.before c.in_ok-cursor.ensures made.at made.same made.made
    (omega (arith, made.most, c.used.ensures))
    (subst (λ n. (c.in_ok-again.again ≡ c.args.turns - n) ⊎ IsSome (ending end.machine)) c.used.ensures made.all) in
    omega (arith, first, made.made, there)
