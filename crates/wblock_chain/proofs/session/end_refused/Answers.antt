use Rattle.std.proofs.Common.{List, ℕ, [], ◌++◌, ◌≡◌, inl, inr, ap, subst, ◌∙◌}
use Rattle.wblock_line.specs.Answers.{memory_line}
use Rattle.wblock_line.specs.declared.perform.Status.TheVariants as status
use Rattle.wblock_chain.specs.Sessions.{IsToldInPart}
use Rattle.wblock_chain.proofs.session.end_refused.Goals as goal

pub returns-in-Ok-clause-refused : goal.returns-in-Ok-clause-refused
returns-in-Ok-clause-refused g c = λ r t.
    let is = c.as_slice.ensures.value ∙ c.in-Ok.ensures.1 in
    (c.in-Ok.ensures.0, c.tell_refused.ensures.refused r t ∙ ap (λ (b : List ℕ). g.O.Sink.told c.args.out.now ++ b) is)

pub returns-in-Ok-clause-told : goal.returns-in-Ok-clause-told
returns-in-Ok-clause-told g c = λ never t.
    let is = c.as_slice.ensures.value ∙ c.in-Ok.ensures.1 in
    (c.args.line.now, c.in-Ok.ensures.0, status.Refused, subst (λ (b : List ℕ). IsToldInPart b (g.O.Sink.told c.args.out.now) (g.O.Sink.told c.tell_refused.new.out)) is (c.tell_refused.ensures.told never t))

pub returns-in-Err-clause-told : goal.returns-in-Err-clause-told
returns-in-Err-clause-told g c = λ never t. ([], memory_line, status.Memory, c.end_for_memory.ensures.told t)
