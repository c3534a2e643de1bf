use Rattle.std.proofs.Common.{◌≡◌, ℕ, ◌≤◌, length}
use Rattle.laws_modules.specs.ReadingModules.{skip_at, skip}
use Rattle.loader.proofs.sections.skip_customs.Given as goal

abbrev pub invariant-loop-first : goal.invariant-loop-first
invariant-loop-first l = (n : ℕ) × (length l.rest ≤ n) × (length l.rest ≤ length l.bytes) × (skip l.bytes ≡ skip_at n l.rest)

abbrev pub decreases-loop-first : goal.decreases-loop-first
decreases-loop-first l = length l.rest
