-- Worked examples that compute: accesses of the cells at key 7 of contract 0, a map's and a counter's, and a call of a contract that is not there.
use Rattle.std.proofs.Common.{◌≡◌, ℕ, Some, None, List, [], ◌∷◌, refl, sym, ◌∙◌, ap, arith}
use Rattle.std.proofs.lemmas.List.Elements.{All-nil, All-cons, All-head}
use Rattle.std.specs.FinMap.{get, get-empty, empty}
use Rattle.spec_ledger.specs.declared.Kind.TheVariants.{Map, Counter}
use Rattle.spec_ledger.specs.declared.Lock.{Lock}
use Rattle.spec_ledger.specs.declared.CellKey.{CellKey}
use Rattle.spec_ledger.specs.declared.Mode.TheVariants.{Read as Reading, Add as Adding, Excl}
use Rattle.spec_ledger.specs.declared.Op.TheVariants.{Add}
use Rattle.spec_ledger.specs.declared.Outcome.{Outcome}
use Rattle.spec_ledger.specs.declared.Outcome.TheVariants.{Rejected}
use Rattle.spec_ledger.specs.declared.Receipt.{Receipt}
use Rattle.spec_ledger.specs.declared.TraceStep.{TraceStep}
use Rattle.spec_ledger.specs.declared.Version.TheVariants.{Two}
use Rattle.spec_ledger.specs.Cells.{Cells, lock_cmp, map_at, counter_at, set_at, cell_after}
use Rattle.spec_ledger.specs.Modes.{Modes}
use Rattle.spec_ledger.proofs.Maps.{lock_cmp_total, get-set_at}
use Rattle.spec_ledger.proofs.Ops.{AreCells-empty}
use Rattle.spec_execution.specs.Configuration.{Setting}
use Rattle.spec_execution.specs.Run.{ContractCall, Refused, Opens}
use Rattle.spec_execution.specs.Levels.{RunsWith, refused, ran}
use Rattle.spec_execution.specs.declared.footprints.Access.TheVariants.{Read, Added, Replaced}
use Rattle.spec_execution.specs.ReadWriteSets.{Agrees, left, all_left, LeavesACell, IsReadWriteSet, use_of, access_by, access_at}

abbrev seven : CellKey
seven = record { contract = 0; key = 7 }

-- the cell of a map, and the counter
abbrev cell : Lock
cell = map_at seven

abbrev sum : Lock
sum = counter_at seven

-- cells that hold 5 in the map
abbrev with_five : Cells
with_five = set_at empty cell (Some 5)

five_there : get with_five cell ≡ Some 5
five_there = get-set_at lock_cmp_total empty cell (Some 5) cell

-- ---- cells agree with what a call found

found : Agrees with_five (Read cell (Some 5))
found = five_there

found_before : Agrees with_five (Replaced cell (Some 5) None)
found_before = five_there

-- none does not agree with 5, and 5 not with none
lacks : ¬ (Agrees empty (Read cell (Some 5)))
lacks is = let same : None ≡ Some 5 = sym (get-empty lock_cmp cell) ∙ is in absurd (cc same)

has_more : ¬ (Agrees with_five (Replaced cell None (Some 5)))
has_more is = let same : Some 5 ≡ None = sym five_there ∙ is in absurd (cc same)

-- what a counter holds that was only added to does not matter
any_sum : (cells : Cells) → Agrees cells (Added seven 5)
any_sum cells = tt

-- ---- what is left

nothing_changed : (cells : Cells) → left (Read cell (Some 5)) cells ≡ cells
nothing_changed cells = refl

replaced : get (left (Replaced cell (Some 5) (Some 6)) with_five) cell ≡ Some 6
replaced = get-set_at lock_cmp_total with_five cell (Some 6) cell

removed : get (left (Replaced cell (Some 5) None) with_five) cell ≡ None
removed = get-set_at lock_cmp_total with_five cell None cell

-- other cells stay
beside : get (left (Replaced sum None (Some 6)) with_five) cell ≡ Some 5
beside = get-set_at lock_cmp_total with_five sum (Some 6) cell ∙ five_there

added : get (left (Added seven 5) empty) sum ≡ Some 5
added = get-set_at lock_cmp_total empty sum (cell_after (Add seven 5) (get empty sum)) sum ∙ ap (cell_after (Add seven 5)) (get-empty lock_cmp sum)

-- a sum is no number that is written: 5 and then 3 leave 8, and not 3
both_added : get (all_left (Added seven 5 ∷ Added seven 3 ∷ []) empty) sum ≡ Some 8
both_added = get-set_at lock_cmp_total (left (Added seven 5) empty) sum (cell_after (Add seven 3) (get (left (Added seven 5) empty) sum)) sum ∙ ap (cell_after (Add seven 3)) added

not_written : ¬ (get (all_left (Added seven 5 ∷ Added seven 3 ∷ []) empty) sum ≡ Some 3)
not_written is = let same : Some 8 ≡ Some 3 = sym both_added ∙ is in absurd (cc same)

-- 5 and -5 leave no counter
sum_is_gone : get (all_left (Added seven 5 ∷ Added seven 18446744073709551611 ∷ []) empty) sum ≡ None
sum_is_gone = get-set_at lock_cmp_total (left (Added seven 5) empty) sum (cell_after (Add seven 18446744073709551611) (get (left (Added seven 5) empty) sum)) sum ∙ ap (cell_after (Add seven 18446744073709551611)) added

-- ---- no counter is left at 0

leaves_five : LeavesACell (Replaced sum None (Some 5))
leaves_five is_counter same = cc

leaves_none : LeavesACell (Replaced sum (Some 5) None)
leaves_none is_counter same = cc

-- the cell of a map may hold 0
leaves_zero_in_a_map : LeavesACell (Replaced cell None (Some 0))
leaves_zero_in_a_map is_counter = cc

leaves_zero : ¬ (LeavesACell (Replaced sum None (Some 0)))
leaves_zero leaves = leaves refl refl

-- ---- how a cell was used

counter_added_to : use_of Counter Adding ≡ Adding
counter_added_to = refl

map_held_to_add : use_of Map Adding ≡ Excl
map_held_to_add = refl

counter_read : use_of Counter Reading ≡ Reading
counter_read = refl

not_only_read : ¬ (use_of Counter Excl ≡ Reading)
not_only_read is = cc

-- ---- what was done with a cell that held the one and holds the other

only_read : access_by Reading cell (Some 5) (Some 5) ≡ Read cell (Some 5)
only_read = refl

grown_by_three : access_by Adding sum (Some 5) (Some 8) ≡ Added seven 3
grown_by_three = refl

-- a counter that is gone was lessened by what it held
grown_by_less : access_by Adding sum (Some 5) None ≡ Added seven 18446744073709551611
grown_by_less = refl

written_anew : access_by Excl sum (Some 5) (Some 8) ≡ Replaced sum (Some 5) (Some 8)
written_anew = refl

not_the_last_sum : ¬ (access_by Adding sum (Some 5) (Some 8) ≡ Added seven 8)
not_the_last_sum is = cc

put_by_one_alone : access_at empty with_five (cell, Excl) ≡ Replaced cell None (Some 5)
put_by_one_alone = ap (λ c. Replaced cell c (get with_five cell)) (get-empty lock_cmp cell) ∙ ap (Replaced cell None) five_there

-- ---- read-write sets: a call of a contract that is not there

abbrev no_contracts : Setting
no_contracts = record { contracts = []; version = Two }

abbrev call : ContractCall
call = record { contract = 0; entry = []; args = []; fuel = 100 }

abbrev rejected : ℕ → Receipt
rejected code = record { outcome = Rejected code; used = 0; asks = 0 }

-- it is rejected over any cells, and does nothing with them
of_a_rejected_call : IsReadWriteSet no_contracts call [] (rejected 6) empty
of_a_rejected_call = record {
  cells = All-nil LeavesACell;
  executes = λ cells are all. record { trace = []; run = refused 6 refl; asks = refl; replies = tt; later_is = refl; locks_are = refl };
}

-- no counter is left at 0
not_at_zero : (receipt : Receipt) (locks : Modes) → ¬ (IsReadWriteSet no_contracts call (Replaced sum None (Some 0) ∷ []) receipt locks)
not_at_zero receipt locks f = leaves_zero (All-head LeavesACell (Replaced sum None (Some 0)) [] f.cells)

-- it leaves nothing
leaves_no_sum : ¬ (IsReadWriteSet no_contracts call (Added seven 5 ∷ []) (rejected 6) empty)
leaves_no_sum f =
    let e = f.executes empty AreCells-empty (All-cons (Agrees empty) (Added seven 5) [] tt (All-nil (Agrees empty))) in
    let same : Some 5 ≡ None = sym added ∙ ap (λ m. get m sum) e.later_is ∙ get-empty lock_cmp sum in
    absurd (cc same)

never_starts : (trace : List TraceStep) (outcome : Outcome) (used : ℕ) → RunsWith no_contracts call trace outcome used → outcome ≡ Rejected 6
never_starts trace outcome used (refused code e) = let same : Refused 6 ≡ Refused code = e in cc
never_starts trace outcome used (ran c func t o n e run) = let same : Refused 6 ≡ Opens c func = e in absurd (cc same)

abbrev code_of : Outcome → ℕ
code_of (Rejected code) = code
code_of outcome = 0

-- it has no other cause
no_other_cause : ¬ (IsReadWriteSet no_contracts call [] (rejected 1) empty)
no_other_cause f =
    let e = f.executes empty AreCells-empty (All-nil (Agrees empty)) in
    let same : 1 ≡ 6 = ap code_of (never_starts e.trace (Rejected 1) 0 e.run) in
    absurd (omega (arith, same))
