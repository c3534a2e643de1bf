use Rattle.laws_blocks.proofs.Accepted.{figures, forward, have_turns}
use Rattle.laws_blocks.proofs.accepted_blocks_have_waves.Goals as goal

pub returns : goal.returns
returns c =
    let one = c.one_block_a_spelling.ensures.one in
    let exactly = c.accepts_exactly_the_published.ensures.exactly in
    let published = c.paths_join.ensures.published in
    record { turns = have_turns one exactly published; forward = forward one exactly published; figures = figures one exactly published }
