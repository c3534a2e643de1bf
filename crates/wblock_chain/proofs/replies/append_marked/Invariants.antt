use Rattle.std.proofs.Common.{◌≡◌, ◌++◌, true, drop}
use Rattle.wblock_chain.specs.Replies.{marked}
use Rattle.wblock_chain.proofs.replies.append_marked.Given as goal

abbrev pub invariant-loop-byte : goal.invariant-loop-byte
invariant-loop-byte l = l.out.items ++ marked l.starts (drop l.byte-index l.said) ≡ l.fn.out.items ++ marked true l.said
