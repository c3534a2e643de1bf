use Rattle.std.proofs.Common.{List, ℕ, [], inl, inr, sym, subst, ◌∙◌}
use Rattle.wblock_line.specs.declared.perform.Status.{Status}
use Rattle.wblock_line.specs.declared.perform.Status.TheVariants as status
use Rattle.wblock_chain.specs.Replies.{reply}
use Rattle.wblock_chain.specs.Sessions.{IsToldInPart}
use Rattle.wblock_chain.proofs.Running.{told_of_memory}
use Rattle.wblock_chain.proofs.session.end_for_file.Goals as goal

pub returns-in-Ok-clause-told : goal.returns-in-Ok-clause-told
returns-in-Ok-clause-told g c = λ t.
    let before = g.O.Sink.told c.args.out.now in
    let after = g.O.Sink.told c.put_in_part.new.out in
    let is = c.as_slice.ensures.value ∙ c.in-Ok.ensures.1 in (
      c.in-Ok.ensures.0,
      subst (λ (s : Status). IsToldInPart (reply [] c.in-Ok.ensures.0 s) before after) (sym c.tell_fault.ensures.status) (subst (λ (b : List ℕ). IsToldInPart b before after) is (c.put_in_part.ensures t)),
    )

pub returns-in-Err-clause-told : goal.returns-in-Err-clause-told
returns-in-Err-clause-told g c = λ t. told_of_memory c.end_for_memory.result (g.O.Sink.told c.args.out.now) (g.O.Sink.told c.end_for_memory.new.out) c.end_for_memory.ensures.status (c.end_for_memory.ensures.told t)
