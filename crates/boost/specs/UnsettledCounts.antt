-- The unsettled changes of live attempts.
use Rattle.std.specs.Prelude.{List, [], ◌∷◌}
use Rattle.spec_ledger.specs.Book.{Attempt}
use Rattle.storage.specs.Counts.{Counts, opened_all}

-- the counts after the changes of live attempts
abbrev pub live_counts : List Attempt → Counts → Counts
live_counts [] counts = counts
live_counts (a ∷ rest) counts = live_counts rest (opened_all a.inverses counts)
