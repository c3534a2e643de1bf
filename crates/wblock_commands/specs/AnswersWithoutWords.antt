-- What is answered where there are no words.
use Rattle.wblock_line.specs.declared.answer.Answer.{Answer}
use Rattle.wblock_commands.specs.Answers.{IsAnswer}
use Rattle.wblock_commands.specs.declared.stored.TheConstants.{MODULE, CALLS}

-- the two stored calls of the stored contract are run
abbrev pub ShowsStored : Answer → Type 0
ShowsStored answer = IsAnswer MODULE CALLS.now answer
