use Rattle.std.proofs.Common.{◌≡◌, ℕ, ◌+◌}
use Rattle.std.specs.Prelude.{All, vec_len}
use Rattle.debugger.specs.Keeping.{IsOfRun, AreSpaced, last_turns}
use Rattle.debugger.proofs.Spacing.{AreHalved}
use Rattle.debugger.proofs.kept.thin.Given as goal

abbrev pub invariant-loop-index : goal.invariant-loop-index
invariant-loop-index g l = record {
  all : All (IsOfRun l.here) l.cursors.items;
  left : vec_len l.cursors + l.index ≡ vec_len l.fn.cursors;
  last : last_turns 0 l.cursors.items ≡ last_turns 0 l.fn.cursors.items;
  halved : (d : ℕ) → AreSpaced d 0 l.fn.cursors.items → AreHalved d 0 l.index l.cursors.items;
}
