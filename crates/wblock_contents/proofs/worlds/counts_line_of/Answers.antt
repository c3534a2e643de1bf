use Rattle.wblock_contents.proofs.worlds.counts_line_of.Goals as goal

pub returns : goal.returns
returns c = c.in_ok-line.ensures.ok
