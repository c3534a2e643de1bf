use Rattle.std.proofs.Common.{◌≡◌, drop}
use Rattle.text_resolve.specs.Types.{same_types}
use Rattle.text_resolve.proofs.types.same_list.Given as goal

abbrev pub invariant-loop-i : goal.invariant-loop-i
invariant-loop-i l = same_types (drop l.i l.a) (drop l.i l.b) ≡ same_types l.a l.b
