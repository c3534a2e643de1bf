use Rattle.wblock_contents.proofs.defined.amounts_text_of.Goals as goal

pub returns : goal.returns
returns c = c.in_ok-text.ensures.ok
