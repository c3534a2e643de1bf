use Rattle.std.proofs.Common.{◌≡◌, ◌≤◌, ℕ, All, vec_len}
use Rattle.std.specs.Prelude.{vec_capacity}
use Rattle.memory.specs.Pieces.{own_in, IsPiece}
use Rattle.memory.proofs.lengthen.Given as goal

abbrev pub invariant-loop : goal.invariant-loop
invariant-loop g l = record {
  whole : All IsPiece l.pieces.items;
  len : vec_len l.pieces ≡ l.counter;
  room : l.count ≤ vec_capacity l.pieces;
  same : (at : ℕ) → own_in l.pieces.items at ≡ own_in l.initial.pieces.items at;
}
