-- Worked examples that compute: what a view may answer, what was found by it, and accesses at locks, at key 7 of contract 0.
use Rattle.std.proofs.Common.{◌≡◌, ℕ, Option, Some, None, [], ◌∷◌, map, refl, sym, ◌∙◌, ap, arith}
use Rattle.std.specs.FinMap.{empty, entries, entries-from_sorted, from_sorted, get, get-empty}
use Rattle.spec_ledger.specs.declared.Lock.{Lock}
use Rattle.spec_ledger.specs.declared.CellKey.{CellKey}
use Rattle.spec_ledger.specs.Cells.{lock_cmp, map_at, counter_at}
use Rattle.spec_ledger.specs.Modes.{Modes}
use Rattle.spec_execution.specs.declared.footprints.Access.TheVariants.{Read, Added, Replaced}
use Rattle.spec_execution.specs.ReadWriteSets.{access_at}
use Rattle.serial.specs.FoundCells.{IsFoundBy}
use Rattle.serial.specs.Touches.{AreAccessesAt, IsCellAt}

abbrev none : Modes
none = from_sorted []

abbrev seven : CellKey
seven = record { contract = 0; key = 7 }

-- a map may hold 0, a counter is not there with it, and either may be absent
zero_in_a_map : IsCellAt (map_at seven) (Some 0)
zero_in_a_map = λ no. cc

no_zero_in_a_counter : IsCellAt (counter_at seven) (Some 0) → ⊥
no_zero_in_a_counter there = (there refl).not_zero refl

nothing_in_a_counter : IsCellAt (counter_at seven) None
nothing_in_a_counter = λ _. record { fits = omega arith; not_zero = λ no. cc }

-- a view of no cells answers that nothing is there: so it is found, whatever is left, and an addition says nothing of it
abbrev of_no_cells : Lock → Option ℕ → Type 0
of_no_cells lock found = found ≡ get (empty {R = lock_cmp}) lock

nothing_was_found : IsFoundBy of_no_cells (Read (map_at seven) None)
nothing_was_found = sym (get-empty lock_cmp (map_at seven))

no_number_was_found : IsFoundBy of_no_cells (Replaced (map_at seven) (Some 3) None) → ⊥
no_number_was_found found = let no : ◌≡◌ {A = Option ℕ} (Some 3) None = found ∙ get-empty lock_cmp (map_at seven) in absurd (cc)

an_addition_found_nothing : IsFoundBy of_no_cells (Added seven 3)
an_addition_found_nothing = tt

-- a call that asked for no lock has no access
none_asked : entries none ≡ []
none_asked = entries-from_sorted lock_cmp [] tt

no_lock : AreAccessesAt none []
no_lock = record { found = empty; later = empty; are = ap (map (access_at empty empty)) (sym none_asked) }

no_needless_access : AreAccessesAt none (Read (map_at seven) None ∷ []) → ⊥
no_needless_access told = let no : Read (map_at seven) None ∷ [] ≡ [] = told.are ∙ ap (map (access_at told.found told.later)) none_asked in absurd (cc)
