-- A law of faults.
use Rattle.std.specs.Prelude.{ℕ, List}
use Rattle.wblock_line.specs.declared.answer.Fault.{Fault}
use Rattle.wblock_line.specs.declared.answer.Fault.TheVariants.{File, NoMemory}
use Rattle.wblock_line.specs.Answers.{IsOfFile}

-- what is true of a file's name is still true where it says less
pub of_file_weaker : (P Q : List ℕ → Type 0) (f : Fault) → ((name : List ℕ) → P name → Q name) → IsOfFile P f → IsOfFile Q f
of_file_weaker P Q (File name cause) weaker is = weaker name.now is
of_file_weaker P Q NoMemory weaker is = tt
