-- A reader behind an adder, in its time.
use Rattle.std.proofs.Common.{ℕ, zero, suc, ◌+◌, ◌<◌, ◌≤◌, List, [], ◌∷◌, slice_index, refl, arith}
use Rattle.std.proofs.lemmas.Option.{slice_get_within}
use Rattle.spec_ledger.specs.declared.Kind.TheVariants.{Counter}
use Rattle.spec_ledger.specs.declared.Mode.TheVariants.{Read, Add as Adding}
use Rattle.spec_block.specs.Schedule.{AreApart}
use Rattle.laws_blocks.specs.Timetables.{IsTimetable, adds_then_reads, at_counter, at_once, one_by_one}

abbrev fuels : List ℕ
fuels = 3 ∷ 5 ∷ []

apart : AreApart adds_then_reads 0 1
apart = record {
  lock = record { contract = 0; kind = Counter; key = 7 };
  first = Adding;
  second = Read;
  first_turn = 0;
  second_turn = 1;
  holds_first = record { profile = at_counter Adding 0; there = refl; held = refl };
  holds_second = record { profile = at_counter Read 1; there = refl; held = refl };
  not_together = refl;
}

behind : (i j : ℕ) → i < j → j < 2 → one_by_one i + slice_index fuels i ≤ one_by_one j
behind zero zero lt below = absurd (omega (arith, lt))
behind zero (suc zero) lt below = omega arith
behind (suc i) zero lt below = absurd (omega (arith, lt))
behind (suc i) (suc zero) lt below = absurd (omega (arith, lt))
behind i (suc (suc j)) lt below = absurd (omega (arith, below))

within : (i : ℕ) → i < 2 → one_by_one i + slice_index fuels i ≤ 8
within zero lt = omega arith
within (suc zero) lt = omega arith
within (suc (suc i)) lt = absurd (omega (arith, lt))

pub waits : IsTimetable adds_then_reads fuels one_by_one 8
waits = record { waits = λ i j lt a. behind i j lt (slice_get_within adds_then_reads j a.holds_second.profile a.holds_second.there); done = within }

pub not_sooner : IsTimetable adds_then_reads fuels one_by_one 7 → ⊥
not_sooner t = let late : 8 ≤ 7 = t.done 1 (omega arith) in omega (arith, late)

pub not_at_once : IsTimetable adds_then_reads fuels at_once 5 → ⊥
not_at_once t = let late : 3 ≤ 0 = t.waits 0 1 (omega arith) apart in omega (arith, late)
