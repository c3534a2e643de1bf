use Rattle.std.proofs.Common.{subst, sym, List, take, ◌≡◌}
use Rattle.interp_state.specs.Views.{opens_of}
use Rattle.laws_reduction.specs.Meaning.{Open}
use Rattle.laws_reduction.specs.Branches.{IsTarget, in_call}
use Rattle.interp_state.specs.Branches.{Jumps}
use Rattle.interp_state.proofs.branches.leave_call.Goals as goal

pub jump-requires-clause-target : goal.jump-requires-clause-target
jump-requires-clause-target g c =
    let es = c.args.parts.now.entries in
    let same = subst (λ xs. opens_of (take c.up_to_call-left.result xs) ≡ in_call (opens_of xs)) c.deref.ensures.value c.up_to_call-left.ensures.is in
    subst (λ (t : List Open). IsTarget (opens_of es.items) c.args.parts.now.stack.items t) (sym same) c.requires.target

pub returns-clause-jumps : goal.returns-clause-jumps
returns-clause-jumps g c =
    let same = subst (λ xs. opens_of (take c.up_to_call-left.result xs) ≡ in_call (opens_of xs)) c.deref.ensures.value c.up_to_call-left.ensures.is in
    subst (λ (t : List Open). Jumps c.args.parts.now t c.jump.new.parts) same c.jump.ensures.jumps
