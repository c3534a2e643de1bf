use Rattle.std.proofs.Common.{◌≡◌, ◌≤◌, ◌<◌, ℕ, All, vec_len}
use Rattle.memory.specs.Pieces.{byte_in, IsPiece, IsMade}
use Rattle.std.specs.Prelude.{option_copied}
use Rattle.memory.specs.Start.{begins}
use Rattle.memory.proofs.make_all.Given as goal

abbrev pub invariant-loop-index : goal.invariant-loop-index
invariant-loop-index g l = record {
  whole : All IsPiece l.pieces.items;
  len : vec_len l.pieces ≡ vec_len l.initial.pieces;
  same : (at : ℕ) → byte_in l.pieces.items (begins (option_copied l.start)) at ≡ byte_in l.initial.pieces.items (begins (option_copied l.start)) at;
  made : (k : ℕ) → l.first ≤ k → k < l.index → IsMade l.pieces.items k;
}
