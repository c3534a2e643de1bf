use Rattle.std.proofs.Common.{◌≡◌, ◌≤◌, ◌-◌, ℕ, All, vec_len, length, take}
use Rattle.memory.specs.Pieces.{IsPiece, IsMade, IsPut}
use Rattle.memory.proofs.put_all.Given as goal

abbrev pub invariant-loop-done : goal.invariant-loop-done
invariant-loop-done g l = record {
  whole : All IsPiece l.pieces.items;
  len : vec_len l.pieces ≡ vec_len l.initial.pieces;
  made : (k : ℕ) → IsMade l.initial.pieces.items k → IsMade l.pieces.items k;
  within : l.done ≤ length l.bytes;
  put : IsPut l.initial.pieces.items l.at (take l.done l.bytes) l.pieces.items;
}

abbrev pub decreases-loop-done : goal.decreases-loop-done
decreases-loop-done g l = length l.bytes - l.done
