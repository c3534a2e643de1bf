use Rattle.std.proofs.Common.{◌≡◌, ℕ, ◌≤◌, length}
use Rattle.wblock_words.specs.Names.{Rises, name_among, names_in}
use Rattle.wblock_words.proofs.function_names.names_from.Given as goal

abbrev pub invariant-loop-rest : goal.invariant-loop-rest
invariant-loop-rest l = record {
  rises : Rises (names_in l.rest);
  same : (later : ℕ) → l.number ≤ later → name_among (names_in l.rest) later ≡ name_among (names_in l.names) later;
}

abbrev pub decreases-loop-rest : goal.decreases-loop-rest
decreases-loop-rest l = length l.rest
