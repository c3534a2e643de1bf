use Rattle.std.proofs.Common.{sym, ap, ◌∙◌, slice_get}
use Rattle.spec_execution.specs.Configuration.{State}
use Rattle.interp.proofs.OuterLevel.{state_kept, state_inner}
use Rattle.interp.proofs.readers.outer_instance.Goals as goal

pub returns-in-Some-clause-globals : goal.returns-in-Some-clause-globals
returns-in-Some-clause-globals g c = ap (λ (s : State). s.globals) (sym (state_kept c.args.run.now c.in-Some.level.now (c.in-Some.ensures.value ∙ ap (λ xs. slice_get xs 0) c.deref.ensures.value)))

pub returns-in-Some-clause-memory : goal.returns-in-Some-clause-memory
returns-in-Some-clause-memory g c = ap (λ (s : State). s.memory) (sym (state_kept c.args.run.now c.in-Some.level.now (c.in-Some.ensures.value ∙ ap (λ xs. slice_get xs 0) c.deref.ensures.value)))

pub returns-clause-globals : goal.returns-clause-globals
returns-clause-globals g c = ap (λ (s : State). s.globals) (sym (state_inner c.args.run.now (c.in_default.ensures.value ∙ ap (λ xs. slice_get xs 0) c.deref.ensures.value)))

pub returns-clause-memory : goal.returns-clause-memory
returns-clause-memory g c = ap (λ (s : State). s.memory) (sym (state_inner c.args.run.now (c.in_default.ensures.value ∙ ap (λ xs. slice_get xs 0) c.deref.ensures.value)))
