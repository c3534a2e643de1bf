use Rattle.std.proofs.Common.{sym, ◌∙◌, ap, subst}
use Rattle.std.specs.Prelude.{IsSome}
use Rattle.spec_ledger.specs.Modes.{join_held}
use Rattle.serial.proofs.Places.{found_there, later_there, mode_there, mode_absent}
use Rattle.serial.proofs.touches.ask.Goals as goal

pub returns-in-Some-clause-mode : goal.returns-in-Some-clause-mode
returns-in-Some-clause-mode g c = c.join_to.ensures ∙ ap (join_held c.args.mode) (mode_there c.args.touches.now c.args.lock c.in-Some.touch.now c.in-Some.ensures.value)

pub returns-in-Some-clause-found : goal.returns-in-Some-clause-found
returns-in-Some-clause-found g c = λ _. found_there c.args.touches.now c.args.lock c.in-Some.touch.now c.in-Some.ensures.value

pub returns-in-Some-clause-later : goal.returns-in-Some-clause-later
returns-in-Some-clause-later g c = λ _. later_there c.args.touches.now c.args.lock c.in-Some.touch.now c.in-Some.ensures.value

pub returns-in-Some-clause-cell : goal.returns-in-Some-clause-cell
returns-in-Some-clause-cell g c = λ none. absurd (let no = mode_there c.args.touches.now c.args.lock c.in-Some.touch.now c.in-Some.ensures.value ∙ none in cc)

pub returns-in-Some-clause-read : goal.returns-in-Some-clause-read
returns-in-Some-clause-read g c = λ none. absurd (let no = mode_there c.args.touches.now c.args.lock c.in-Some.touch.now c.in-Some.ensures.value ∙ none in cc)

pub returns-in-Some-clause-first : goal.returns-in-Some-clause-first
returns-in-Some-clause-first g c = λ none. absurd (let no = mode_there c.args.touches.now c.args.lock c.in-Some.touch.now c.in-Some.ensures.value ∙ none in cc)

pub returns-in-None-clause-mode : goal.returns-in-None-clause-mode
returns-in-None-clause-mode g c = ap (join_held c.args.mode) (mode_absent c.args.touches.now c.args.lock c.in-None.ensures.value)

pub returns-in-None-clause-found : goal.returns-in-None-clause-found
returns-in-None-clause-found g c = λ there. absurd (let no = subst IsSome (sym (mode_absent c.args.touches.now c.args.lock c.in-None.ensures.value)) there in cc)

pub returns-in-None-clause-later : goal.returns-in-None-clause-later
returns-in-None-clause-later g c = λ there. absurd (let no = subst IsSome (sym (mode_absent c.args.touches.now c.args.lock c.in-None.ensures.value)) there in cc)
