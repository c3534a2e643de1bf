use Rattle.std.proofs.Common.{◌≡◌, ◌++◌, [], ◌∷◌, take, length}
use Rattle.std.specs.Int.{w32, to_le_bytes}
use Rattle.std.specs.List.{flat_map}
use Rattle.spec_block.specs.Bytes.{call_bytes}
use Rattle.block.proofs.calls.append_calls.Given as goal

abbrev pub invariant-loop-call : goal.invariant-loop-call
invariant-loop-call g l = l.out.items ≡ l.fn.out.items ++ ((0x57 ∷ 0x42 ∷ 0x43 ∷ 0x4C ∷ []) ++ to_le_bytes w32 1 ++ (to_le_bytes w32 (length l.calls) ++ flat_map call_bytes (take l.call-index l.calls)))
