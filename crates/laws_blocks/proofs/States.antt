-- Worked rows of states after turns.
use Rattle.std.proofs.Common.{◌≡◌, ℕ, suc, ◌<◌, List, [], ◌∷◌, Some, refl, arith, pos}
use Rattle.wtypes.specs.declared.ValType.TheVariants as type
use Rattle.wtypes.specs.declared.Value.TheVariants.{I64}
use Rattle.wtypes.specs.declared.BinOp.TheVariants.{Add}
use Rattle.wtypes.specs.declared.TrapCode.TheVariants as trap
use Rattle.wtypes.specs.declared.PlainInstr.TheVariants.{Unreachable, LocalGet, Const, Binary, Call}
use Rattle.spec_modules.specs.Syntax.{Plain, nothing}
use Rattle.spec_ledger.specs.declared.Op.TheVariants as op
use Rattle.spec_ledger.specs.declared.Reply.TheVariants as reply
use Rattle.spec_ledger.specs.declared.TraceStep.{TraceStep}
use Rattle.spec_ledger.specs.declared.TraceStep.TheVariants.{Did}
use Rattle.spec_ledger.specs.declared.Outcome.TheVariants.{Returned, Trapped}
use Rattle.spec_ledger.specs.Cells.{Cells}
use Rattle.spec_execution.specs.Configuration.{Setting, Seq, End, Val, Code, Label, Frame, Invoke, Running, Trap}
use Rattle.spec_execution.specs.Reduction.{reduce, execute, execute_plain, replied}
use Rattle.spec_execution.specs.Run.{to_add}
use Rattle.spec_execution.specs.Levels.{Levels, On, alone, move, first_level}
use Rattle.spec_execution.specs.CallStates.{none, one_more, Rests, to_come, ended, not_asked, asked, IsTurn, Turned, opened, turned, IsState}
use Rattle.laws_blocks.specs.CallsWorked.{adds_seven, gives_up, counts, only, at_0, call_with, on_five, on_key_nine, nine, bare, in_run, before_the_sum, after_the_sum, before_the_total}

-- a turn of one charged move alone
quietly : (setting : Setting) (a b : Levels) → move setting a ≡ On 1 [] b → Rests setting b → IsTurn setting a [] b
quietly setting a b e rest = record { charged = b; one = e; reply = []; replied = b; answer = not_asked b; marks = []; free = none b; at_rest = rest; steps_are = refl }

-- what stands alone, inside the one function
abbrev summing : Seq → Levels
summing q = alone (at_0 adds_seven) (in_run 0 5 q)

abbrev counting : Seq → Levels
counting q = alone (at_0 counts) (in_run 2 9 q)

-- ---- the sum

abbrev sum_code : Seq
sum_code = Code 0 (Plain (LocalGet 0)) (Code 1 (Plain (Const (I64 (pos 7)))) (Code 2 (Plain (Binary (Add type.I64))) End))

abbrev sum_1 : Seq
sum_1 = Val (I64 (pos 5)) (Code 1 (Plain (Const (I64 (pos 7)))) (Code 2 (Plain (Binary (Add type.I64))) End))

abbrev sum_start : Levels
sum_start = first_level (at_0 adds_seven) 0 (I64 (pos 5) ∷ [])

abbrev sum_two_at : Levels
sum_two_at = alone (at_0 adds_seven) before_the_sum

abbrev sum_end : Levels
sum_end = alone (at_0 adds_seven) after_the_sum

sum_opened : Turned (only adds_seven) sum_start 3 0 [] (summing sum_code)
unfolding reduce execute execute_plain
sum_opened =
    opened (summing sum_code) [] (one_more sum_start (summing sum_code) (summing sum_code) [] [] refl (none (summing sum_code)))
    (to_come (summing sum_code) refl)

sum_two : Turned (only adds_seven) sum_start 3 2 [] sum_two_at
unfolding reduce execute execute_plain
sum_two =
    turned 1 [] [] (summing sum_1) sum_two_at
    (turned 0 [] [] (summing sum_code) (summing sum_1) sum_opened (omega arith) (quietly (only adds_seven) (summing sum_code) (summing sum_1) refl (to_come (summing sum_1) refl)))
    (omega arith) (quietly (only adds_seven) (summing sum_1) sum_two_at refl (to_come sum_two_at refl))

abbrev summed : Levels
summed = summing (Val (I64 (pos 12)) End)

abbrev label_ended : Levels
label_ended = alone (at_0 adds_seven) (Running bare (Frame 0 1 (I64 (pos 5) ∷ []) (Val (I64 (pos 12)) End) End))

sum_three : Turned (only adds_seven) sum_start 3 3 [] sum_end
unfolding reduce execute execute_plain
sum_three =
    turned 2 [] [] sum_two_at sum_end sum_two (omega arith) (record {
      charged = summed;
      one = refl;
      reply = [];
      replied = summed;
      answer = not_asked summed;
      marks = [];
      free = one_more summed label_ended sum_end [] [] refl (one_more label_ended sum_end sum_end [] [] refl (none sum_end));
      at_rest = ended sum_end (Returned (Some (I64 (pos 12)))) refl;
      steps_are = refl;
    })

pub after_two : (cells : Cells) → IsState (only adds_seven) (on_five 3) cells 2 sum_two_at
after_two cells = record { contract = at_0 adds_seven; func = 0; starts = refl; trace = []; turns = sum_two; replies = tt }

pub after_three : (cells : Cells) → IsState (only adds_seven) (on_five 3) cells 3 sum_end
after_three cells = record { contract = at_0 adds_seven; func = 0; starts = refl; trace = []; turns = sum_three; replies = tt }

-- ---- the counter

abbrev count_rest : Seq
count_rest = Code 3 (Plain (LocalGet 0)) (Code 4 (Plain (Call 1)) End)

abbrev count_code : Seq
count_code = Code 0 (Plain (LocalGet 0)) (Code 1 (Plain (Const (I64 (pos 5)))) (Code 2 (Plain (Call 0)) count_rest))

abbrev count_1 : Seq
count_1 = Val (I64 (pos 9)) (Code 1 (Plain (Const (I64 (pos 5)))) (Code 2 (Plain (Call 0)) count_rest))

abbrev count_2 : Seq
count_2 = Val (I64 (pos 9)) (Val (I64 (pos 5)) (Code 2 (Plain (Call 0)) count_rest))

abbrev count_asks : Seq
count_asks = Val (I64 (pos 9)) (Val (I64 (pos 5)) (Invoke 0 count_rest))

abbrev count_start : Levels
count_start = first_level (at_0 counts) 2 (I64 (pos 9) ∷ [])

abbrev total_to_come : Levels
total_to_come = alone (at_0 counts) before_the_total

abbrev added : List TraceStep
added = Did (op.Add nine 5) reply.Nothing ∷ []

count_three : Turned (only counts) count_start 5 3 added total_to_come
unfolding reduce execute execute_plain
count_three =
    turned 2 [] added (counting count_2) total_to_come
    (turned 1 [] [] (counting count_1) (counting count_2)
    (turned 0 [] [] (counting count_code) (counting count_1)
    (opened (counting count_code) [] (one_more count_start (counting count_code) (counting count_code) [] [] refl (none (counting count_code))) (to_come (counting count_code) refl))
    (omega arith) (quietly (only counts) (counting count_code) (counting count_1) refl (to_come (counting count_1) refl)))
    (omega arith) (quietly (only counts) (counting count_1) (counting count_2) refl (to_come (counting count_2) refl)))
    (omega arith) (record {
      charged = counting count_asks;
      one = refl;
      reply = added;
      replied = total_to_come;
      answer = asked (counting count_asks) (op.Add nine 5) (λ r. counting (replied r count_rest)) reply.Nothing refl (to_add nine 5);
      marks = [];
      free = none total_to_come;
      at_rest = to_come total_to_come refl;
      steps_are = refl;
    })

pub after_a_reply : (cells : Cells) → IsState (only counts) (on_key_nine 5) cells 3 total_to_come
after_a_reply cells = record { contract = at_0 counts; func = 2; starts = refl; trace = added; turns = count_three; replies = (refl, tt) }

-- ---- the trap

abbrev trap_start : Levels
trap_start = first_level (at_0 gives_up) 0 []

abbrev trap_to_come : Levels
trap_to_come = alone (at_0 gives_up) (Running bare (Frame 0 0 [] (Label 0 0 nothing (Code 0 (Plain Unreachable) End) End) End))

abbrev trapped : Levels
trapped = alone (at_0 gives_up) (Trap bare trap.Unreachable)

trap_one : Turned (only gives_up) trap_start 100 1 [] trapped
unfolding reduce execute execute_plain
trap_one =
    turned 0 [] [] trap_to_come trapped
    (opened trap_to_come [] (one_more trap_start trap_to_come trap_to_come [] [] refl (none trap_to_come)) (to_come trap_to_come refl))
    (omega arith) (quietly (only gives_up) trap_to_come trapped refl (ended trapped (Trapped trap.Unreachable) refl))

pub after_a_trap : (cells : Cells) → IsState (only gives_up) (call_with 100 []) cells 1 trapped
after_a_trap cells = record { contract = at_0 gives_up; func = 0; starts = refl; trace = []; turns = trap_one; replies = tt }

-- ---- what is no state

-- every turn is below the limit
below : (setting : Setting) (start : Levels) (limit k : ℕ) (trace : List TraceStep) (a : Levels) → Turned setting start limit (suc k) trace a → k < limit
below setting start limit k trace a (turned n t steps x y before lt turn) = lt

pub no_fourth : (cells : Cells) (config : Levels) → IsState (only adds_seven) (on_five 3) cells 4 config → ⊥
no_fourth cells config s = omega (arith, below (only adds_seven) (first_level s.contract s.func (on_five 3).args) 3 3 s.trace config s.turns)
