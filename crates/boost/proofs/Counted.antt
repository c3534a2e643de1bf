-- The counts of live attempts.
use Rattle.std.proofs.Common.{◌≡◌, List, [], ◌∷◌, ◌++◌, refl, sym, ◌∙◌, ap}
use Rattle.spec_ledger.specs.declared.Inverse.{Inverse}
use Rattle.spec_ledger.specs.Book.{Attempt}
use Rattle.storage.specs.Counts.{Counts, opened_all, AreCounts}
use Rattle.storage.proofs.Counted.{opened_all_comm, AreCounts-opened_all}
use Rattle.boost.specs.UnsettledCounts.{live_counts}

pub AreCounts-live : (rest : List Attempt) (m : Counts) → AreCounts m → AreCounts (live_counts rest m)
AreCounts-live [] m are = are
AreCounts-live (a ∷ rest) m are = AreCounts-live rest (opened_all a.inverses m) (AreCounts-opened_all a.inverses m are)

live_counts_late : (is : List Inverse) (rest : List Attempt) (m : Counts) → live_counts rest (opened_all is m) ≡ opened_all is (live_counts rest m)
live_counts_late is [] m = refl
live_counts_late is (a ∷ rest) m = ap (live_counts rest) (opened_all_comm a.inverses is m) ∙ live_counts_late is rest (opened_all a.inverses m)

pub live_counts-append : (p q : List Attempt) (m : Counts) → live_counts (p ++ q) m ≡ live_counts q (live_counts p m)
live_counts-append [] q m = refl
live_counts-append (a ∷ p) q m = live_counts-append p q (opened_all a.inverses m)

-- the counts with one attempt taken out
pub live_counts_out : (p : List Attempt) (a : Attempt) (q : List Attempt) (m : Counts) → live_counts (p ++ a ∷ q) m ≡ opened_all a.inverses (live_counts (p ++ q) m)
live_counts_out p a q m =
    live_counts-append p (a ∷ q) m ∙ live_counts_late a.inverses q (live_counts p m) ∙ ap (opened_all a.inverses) (sym (live_counts-append p q m))
