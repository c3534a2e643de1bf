use Rattle.std.proofs.Common.{◌≡◌, ◌∙◌, sym, ap, ap₂, arith, length, drop, refl, false}
use Rattle.interp_state.specs.Views.{opens_of}
use Rattle.laws_reduction.specs.Meaning.{height}
use Rattle.laws_reduction.specs.Branches.{in_call}
use Rattle.interp.specs.Run.{seen}
use Rattle.interp.specs.MachineViews.{leaves_stack, is_fallen}
use Rattle.interp.proofs.Outlook.{left_within, stack_left, shows_stack, shows_no_stack, shows_trapped}
use Rattle.interp.proofs.readers.stack_of_call.Goals as goal

pub returns-then-is_fallen : goal.returns-then-is_fallen
returns-then-is_fallen g c o = shows_trapped (seen c.args.run.now) c.requires.machine (sym c.is_fallen.ensures ∙ c.if-is_fallen.true)

pub returns-then-leaves_stack : goal.returns-then-leaves_stack
returns-then-leaves_stack g c o =
    let r = c.args.run.now in
    let goes : is_fallen r.status ≡ false = sym c.is_fallen.ensures ∙ c.if-is_fallen.false in
    let leaves = ap leaves_stack (sym (c.ending_of_run.ensures o)) ∙ sym c.leaves_stack.ensures ∙ c.if-leaves_stack.true in
    let at : c.height_of_call.result ≡ height (in_call (opens_of r.parts.entries.items)) = c.height_of_call.ensures ∙ ap (λ es. height (in_call (opens_of es))) c.deref-then-leaves_stack.ensures.value in
    c.above.ensures (omega (arith, at, left_within (seen r) c.requires.machine (stack_left (seen r) c.requires.machine r.status o goes refl leaves), c.deref.ensures.len, ap length c.deref.ensures.value))
    ∙ ap₂ drop at c.deref.ensures.value
    ∙ shows_stack (seen r) c.requires.machine r.status o goes refl leaves

pub returns-else-leaves_stack : goal.returns-else-leaves_stack
returns-else-leaves_stack g c o =
    let r = c.args.run.now in
    shows_no_stack (seen r) c.requires.machine r.status o refl (ap leaves_stack (sym (c.ending_of_run.ensures o)) ∙ sym c.leaves_stack.ensures ∙ c.if-leaves_stack.false)
