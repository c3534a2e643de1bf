use Rattle.laws_blocks.proofs.States.{after_two, after_three, after_a_reply, after_a_trap, no_fourth}
use Rattle.laws_blocks.proofs.calls.states_of_calls.Goals as goal

pub returns : goal.returns
returns c = record { after_two = after_two; after_three = after_three; after_a_reply = after_a_reply; after_a_trap = after_a_trap; no_fourth = no_fourth }
