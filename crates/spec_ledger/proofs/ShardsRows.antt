-- Worked examples that compute: two shards, a call that puts at key 7 and gets at key 8, and one that adds at key 7.
use Rattle.std.proofs.Common.{◌≡◌, ℕ, Some, None, pos, List, [], ◌∷◌, length, refl, sym, ◌∙◌, ap, arith}
use Rattle.std.specs.FinMap.{get-empty, get-insert, insert, empty}
use Rattle.spec_ledger.specs.declared.Kind.TheVariants.{Map, Counter}
use Rattle.spec_ledger.specs.declared.Lock.{Lock}
use Rattle.spec_ledger.specs.declared.CellKey.{CellKey}
use Rattle.spec_ledger.specs.declared.Op.TheVariants.{Get, Put, Add}
use Rattle.spec_ledger.specs.declared.Reply.TheVariants.{Nothing, I64}
use Rattle.spec_ledger.specs.declared.TraceStep.{TraceStep}
use Rattle.spec_ledger.specs.declared.TraceStep.TheVariants.{Did}
use Rattle.spec_ledger.specs.declared.Outcome.TheVariants.{Returned}
use Rattle.spec_ledger.specs.Cells.{lock_cmp}
use Rattle.spec_ledger.proofs.Maps.{lock_cmp_total}
use Rattle.spec_ledger.specs.Modes.{touched}
use Rattle.spec_ledger.specs.Book.{CommittedCall}
use Rattle.spec_ledger.specs.Shards.{shard_of, entries_in, AreCellsOf}

abbrev seven : CellKey
seven = record { contract = 0; key = 7 }

abbrev eight : CellKey
eight = record { contract = 0; key = 8 }

abbrev put_at_seven : TraceStep
put_at_seven = Did (Put seven 5) Nothing

abbrev get_at_eight : TraceStep
get_at_eight = Did (Get eight) (I64 (pos 0))

abbrev add_at_seven : TraceStep
add_at_seven = Did (Add seven 1) Nothing

abbrev entry : ℕ → List TraceStep → CommittedCall
entry call trace = record { call = call; trace = trace; outcome = Returned None; modes = touched trace }

abbrev journal : List CommittedCall
journal = entry 3 (put_at_seven ∷ get_at_eight ∷ []) ∷ entry 1 (add_at_seven ∷ []) ∷ []

-- key 8 lies in the first shard, key 7 in the second, a counter as a map's cell; the sum of contract and key is taken modulo 2^64
of_eight : shard_of 2 (record { contract = 0; kind = Map; key = 8 }) ≡ 0
of_eight = refl

of_seven : shard_of 2 (record { contract = 0; kind = Map; key = 7 }) ≡ 1
of_seven = refl

of_a_counter : shard_of 2 (record { contract = 0; kind = Counter; key = 7 }) ≡ 1
of_a_counter = refl

past_the_end : shard_of 16 (record { contract = 3; kind = Map; key = 18446744073709551615 }) ≡ 2
past_the_end = refl

-- the first shard sees the first call alone, with its get; the second sees both, with put and add
in_the_first : entries_in (shard_of 2) 0 journal ≡ entry 3 (get_at_eight ∷ []) ∷ []
in_the_first = refl

in_the_second : entries_in (shard_of 2) 1 journal ≡ entry 3 (put_at_seven ∷ []) ∷ entry 1 (add_at_seven ∷ []) ∷ []
in_the_second = refl

-- a call that does not touch a shard is no entry of it
untouched : ¬ (entries_in (shard_of 2) 0 journal ≡ entry 3 (get_at_eight ∷ []) ∷ entry 1 [] ∷ [])
untouched same = let counts : 1 ≡ 2 = ap length same in absurd (omega (arith, counts))

-- a shard has its own cells: without the cell at key 7 it is not the second of two
abbrev at_seven : Lock
at_seven = record { contract = 0; kind = Map; key = 7 }

missing : ¬ (AreCellsOf (shard_of 2) 1 (insert empty at_seven 5) empty)
missing same = let lacks : None ≡ Some 5 = sym (get-empty lock_cmp at_seven) ∙ same at_seven refl ∙ get-insert lock_cmp_total empty at_seven 5 at_seven in absurd (cc lacks)
