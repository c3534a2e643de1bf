use Rattle.std.proofs.Common.{◌≡◌, ◌≤◌, ◌<◌, ◌*◌, ◌-◌, ℕ}
use Rattle.std.specs.Prelude.{None}
use Rattle.std.specs.Option.{option_or}
use Rattle.spec_modules.specs.Profile.{page_size, page_limit}
use Rattle.memory.specs.Runs.{IsNext}
use Rattle.memory.specs.Start.{stands}
use Rattle.memory.proofs.start.Start.over.Given as goal

abbrev pub invariant-loop-at : goal.invariant-loop-at
invariant-loop-at g l = record {
  limit : l.at ≤ page_size * page_limit;
  upper : IsNext l.self.runs.items l.upper_index l.at;
  lower : IsNext l.below.runs.items l.lower_index l.at;
  front : (k : ℕ) → k < l.at → stands l.both k ≡ option_or (stands l.self k) (stands l.below k);
  free : (k : ℕ) → l.at ≤ k → stands l.both k ≡ None;
}

abbrev pub decreases-loop-at : goal.decreases-loop-at
decreases-loop-at g l = page_size * page_limit - l.at
