use Rattle.std.proofs.Common.{◌-◌, ◌≡◌, ◌<◌, ◌≤◌, ℕ, Some, length, slice_get}
use Rattle.link.specs.declared.table.Filled.{Filled}
use Rattle.link.proofs.table.search.Given as goal

-- those before are below the element, and those from there on are above it
abbrev pub invariant-loop-low : goal.invariant-loop-low
invariant-loop-low l = record {
  order : l.low ≤ l.high;
  there : l.high ≤ length l.filled;
  before : (k : ℕ) (f : Filled) → k < l.low → slice_get l.filled k ≡ Some f → f.element < l.element;
  behind : (k : ℕ) (f : Filled) → l.high ≤ k → slice_get l.filled k ≡ Some f → l.element < f.element;
}

abbrev pub decreases-loop-low : goal.decreases-loop-low
decreases-loop-low l = l.high - l.low
