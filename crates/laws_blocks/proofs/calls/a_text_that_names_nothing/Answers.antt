use Rattle.laws_blocks.proofs.Text.{one_token, names_nothing}
use Rattle.laws_blocks.proofs.calls.a_text_that_names_nothing.Goals as goal

pub returns : goal.returns
returns c = record { lexes = one_token; names_nothing = names_nothing }
