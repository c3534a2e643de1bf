use Rattle.std.proofs.Common.{List, ℕ, length}
use Rattle.wblock_words.specs.Parts.{HasNameSection}
use Rattle.wblock_words.proofs.Sections.{Ahead}
use Rattle.wblock_words.proofs.function_names.name_section.Given as goal

abbrev pub invariant-loop-rest : goal.invariant-loop-rest
invariant-loop-rest l = record {
  ahead : (payload : List ℕ) → HasNameSection l.bytes payload → Ahead l.rest payload;
  found : (payload : List ℕ) → Ahead l.rest payload → HasNameSection l.bytes payload;
}

abbrev pub decreases-loop-rest : goal.decreases-loop-rest
decreases-loop-rest l = length l.rest
