use Rattle.wblock_chain.proofs.session.tell_refused.Goals as goal

pub returns-in-Err-clause-told : goal.returns-in-Err-clause-told
returns-in-Err-clause-told g c = λ never t. let cut = c.in-Err.ensures.cut_short t in (cut.count, cut.told)
