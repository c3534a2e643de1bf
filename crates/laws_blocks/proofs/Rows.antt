-- Worked rows that compute.
use Rattle.std.proofs.Common.{◌≡◌, ℕ, ◌+◌, Bool, true, false, cond, List, [], ◌∷◌, Option, Some, None, refl, sym, ap, ◌∙◌, subst, arith, pos}
use Rattle.std.proofs.lemmas.Int.{ints}
use Rattle.std.specs.Prelude.{FitsSigned}
use Rattle.std.specs.Int.{w64}
use Rattle.std.specs.Ordering.{eq_by_cmp}
use Rattle.std.specs.Cmp.{IsTotalOrder, on_total, then_total, nat_cmp_total}
use Rattle.std.specs.FinMap.{get, empty, get-empty, get-insert, get-remove}
use Rattle.wtypes.specs.declared.TrapCode.TheVariants.{Unreachable}
use Rattle.wtypes.specs.declared.Value.TheVariants as value
use Rattle.spec_ledger.specs.declared.Lock.{Lock}
use Rattle.spec_ledger.specs.declared.Op.{Op}
use Rattle.spec_ledger.specs.declared.Op.TheVariants.{Get, Has, Put, Del, Add, Total}
use Rattle.spec_ledger.specs.declared.Reply.{Reply}
use Rattle.spec_ledger.specs.declared.Reply.TheVariants as reply
use Rattle.spec_ledger.specs.declared.TraceStep.{TraceStep}
use Rattle.spec_ledger.specs.declared.Outcome.{Outcome}
use Rattle.spec_ledger.specs.declared.Receipt.{Receipt}
use Rattle.spec_ledger.specs.declared.Outcome.TheVariants.{Returned, Trapped, OutOfFuel, Rejected}
use Rattle.spec_ledger.specs.Cells.{Cells, lock_cmp, rank, lock_of, cell_after, reply_of, set_at, cells_after}
use Rattle.spec_ledger.specs.Book.{after, GetsReplies, has_returned}
use Rattle.spec_ledger.specs.Modes.{Modes, touched}
use Rattle.spec_execution.specs.Configuration.{Setting}
use Rattle.spec_execution.specs.Reduction.{reduce, execute, execute_plain}
use Rattle.spec_execution.specs.Run.{IsReply, to_get, to_has, to_put, to_del, to_add, to_total, ContractCall}
use Rattle.spec_execution.specs.Levels.{RunsWith, asks_in}
use Rattle.spec_execution.specs.Exec.{Executes}
use Rattle.spec_execution.specs.Serial.{Serial}
use Rattle.spec_execution.specs.Unique.{ExecutesOneWay}
use Rattle.spec_execution.specs.Walk.{walk}
use Rattle.laws_blocks.specs.CallsWorked.{adds_seven, gives_up, counts, keeps, only, call_with, on_five, on_key_nine, nine, returned, adds_and_reads, puts_and_deletes, counted, alone_with}
use Rattle.laws_blocks.proofs.Computing.{is_run}

-- ---- a host of fixed replies

abbrev pub says : ℕ → List TraceStep → Op → Reply
says n trace (Get p) = reply.I64 (pos 5)
says n trace (Has p) = reply.I32 (pos 1)
says n trace (Put p v) = reply.Nothing
says n trace (Del p) = reply.I32 (pos 1)
says n trace (Add p v) = reply.Nothing
says n trace (Total p) = reply.I64 (pos n)

pub says_fit : (n : ℕ) → FitsSigned w64 (pos n) → (trace : List TraceStep) (op : Op) → IsReply op (says n trace op)
says_fit n fit trace (Get p) = to_get p (pos 5) (omega (arith, ints))
says_fit n fit trace (Has p) = to_has p (pos 1) (omega (arith, ints))
says_fit n fit trace (Put p v) = to_put p v
says_fit n fit trace (Del p) = to_del p (pos 1) (omega (arith, ints))
says_fit n fit trace (Add p v) = to_add p v
says_fit n fit trace (Total p) = to_total p (pos n) fit

pub five_fits : FitsSigned w64 (pos 5)
five_fits = omega (arith, ints)

ten_fits : FitsSigned w64 (pos 10)
ten_fits = omega (arith, ints)

-- ---- runs

pub adds_run : RunsWith (only adds_seven) (on_five 3) [] (returned 12) 3
unfolding walk reduce execute execute_plain
adds_run = is_run (says 5) (says_fit 5 five_fits) 20 (only adds_seven) (on_five 3) (record { trace = []; outcome = returned 12; fuel = 3 }) refl

pub adds_with_2 : RunsWith (only adds_seven) (on_five 2) [] OutOfFuel 2
unfolding walk reduce execute execute_plain
adds_with_2 = is_run (says 5) (says_fit 5 five_fits) 20 (only adds_seven) (on_five 2) (record { trace = []; outcome = OutOfFuel; fuel = 2 }) refl

pub trap_run : RunsWith (only gives_up) (call_with 100 []) [] (Trapped Unreachable) 1
unfolding walk reduce execute execute_plain
trap_run = is_run (says 5) (says_fit 5 five_fits) 20 (only gives_up) (call_with 100 []) (record { trace = []; outcome = Trapped Unreachable; fuel = 1 }) refl

pub refused_run : RunsWith (only adds_seven) (call_with 100 []) [] (Rejected 3) 0
refused_run = is_run (says 5) (says_fit 5 five_fits) 0 (only adds_seven) (call_with 100 []) (record { trace = []; outcome = Rejected 3; fuel = 0 }) refl

pub keeps_run : RunsWith (only keeps) (on_key_nine 11) (puts_and_deletes 5) (returned 5) 11
unfolding walk reduce execute execute_plain
keeps_run = is_run (says 5) (says_fit 5 five_fits) 40 (only keeps) (on_key_nine 11) (record { trace = puts_and_deletes 5; outcome = returned 5; fuel = 11 }) refl

counts_to_5 : RunsWith (only counts) (on_key_nine 5) (adds_and_reads 5) (returned 5) 5
unfolding walk reduce execute execute_plain
counts_to_5 = is_run (says 5) (says_fit 5 five_fits) 30 (only counts) (on_key_nine 5) (record { trace = adds_and_reads 5; outcome = returned 5; fuel = 5 }) refl

counts_to_10 : RunsWith (only counts) (on_key_nine 5) (adds_and_reads 10) (returned 10) 5
unfolding walk reduce execute execute_plain
counts_to_10 = is_run (says 10) (says_fit 10 ten_fits) 30 (only counts) (on_key_nine 5) (record { trace = adds_and_reads 10; outcome = returned 10; fuel = 5 }) refl

-- ---- cells

lock_total : IsTotalOrder lock_cmp
lock_total = then_total (on_total (λ l. l.contract) nat_cmp_total) (then_total (on_total (λ l. rank l.kind) nat_cmp_total) (on_total (λ l. l.key) nat_cmp_total))

-- what is set at a lock is there
is_set : (cells : Cells) (lock : Lock) (x : Option ℕ) → eq_by_cmp lock_cmp lock lock ≡ true → get (set_at cells lock x) lock ≡ x
is_set cells lock None e = get-remove lock_total cells lock lock ∙ ap (λ b. cond b None (get cells lock)) e
is_set cells lock (Some v) e = get-insert lock_total cells lock v lock ∙ ap (λ b. cond b (Some v) (get cells lock)) e

-- the cell of an operation after it
is_done : (op : Op) (cells : Cells) (x : Option ℕ) → eq_by_cmp lock_cmp (lock_of op) (lock_of op) ≡ true → get cells (lock_of op) ≡ x → get (cells_after op cells) (lock_of op) ≡ cell_after op x
is_done op cells x e here = is_set cells (lock_of op) (cell_after op (get cells (lock_of op))) e ∙ ap (cell_after op) here

keeps_replies : (cells : Cells) → GetsReplies (puts_and_deletes 5) cells
keeps_replies cells =
    let put = cells_after (Put nine 5) cells in
    let found = cells_after (Has nine) put in
    let got = cells_after (Get nine) found in
    let a : get put (lock_of (Put nine 5)) ≡ Some 5 = is_set cells (lock_of (Put nine 5)) (Some 5) refl in
    let b : get found (lock_of (Put nine 5)) ≡ Some 5 = is_done (Has nine) put (Some 5) refl a in
    let d : get got (lock_of (Put nine 5)) ≡ Some 5 = is_done (Get nine) found (Some 5) refl b in
    (refl, (sym (ap (reply_of (Has nine)) a), (sym (ap (reply_of (Get nine)) b), (sym (ap (reply_of (Del nine)) d), tt))))

-- the counter holds this and 5 more
counts_replies : (cells : Cells) (x : Option ℕ) (total : ℕ) → get cells (lock_of (Add nine 5)) ≡ x → reply_of (Total nine) (cell_after (Add nine 5) x) ≡ reply.I64 (pos total) → GetsReplies (adds_and_reads total) cells
counts_replies cells x total here e = (refl, (sym (ap (reply_of (Total nine)) (is_done (Add nine 5) cells x refl here) ∙ e), tt))

counter_after : (cells : Cells) (x : Option ℕ) (total : ℕ) → get cells (lock_of (Add nine 5)) ≡ x → get (after (adds_and_reads total) cells) (lock_of (Add nine 5)) ≡ cell_after (Add nine 5) x
counter_after cells x total here = is_done (Total nine) (cells_after (Add nine 5) cells) (cell_after (Add nine 5) x) refl (is_done (Add nine 5) cells x refl here)

-- ---- executions

silent : (setting : Setting) (call : ContractCall) (o : Outcome) (f : ℕ) (cells : Cells) → RunsWith setting call [] o f → Executes setting call cells cells (alone_with o f) empty
silent setting call o f cells run = record { trace = []; run = run; asks = refl; replies = tt; later_is = as_they_were (has_returned o); locks_are = refl }
  where
    as_they_were : (b : Bool) → cells ≡ cond b cells cells
    as_they_were true = refl
    as_they_were false = refl

pub keeps_executes : (cells : Cells) → Executes (only keeps) (on_key_nine 11) cells (after (puts_and_deletes 5) cells) (alone_with (returned 5) 11) (touched (puts_and_deletes 5))
keeps_executes cells = record { trace = puts_and_deletes 5; run = keeps_run; asks = refl; replies = keeps_replies cells; later_is = refl; locks_are = refl }

counter_empty : let cells : Cells = empty in get cells (lock_of (Add nine 5)) ≡ None
counter_empty = get-empty lock_cmp (lock_of (Add nine 5))

pub first_executes : Executes (only counts) (on_key_nine 5) empty (after (adds_and_reads 5) empty) (alone_with (returned 5) 5) (touched (adds_and_reads 5))
first_executes = record { trace = adds_and_reads 5; run = counts_to_5; asks = refl; replies = counts_replies empty None 5 counter_empty refl; later_is = refl; locks_are = refl }

abbrev after_one : Cells
after_one = after (adds_and_reads 5) empty

second_executes : Executes (only counts) (on_key_nine 5) after_one (after (adds_and_reads 10) after_one) (alone_with (returned 10) 5) (touched (adds_and_reads 10))
second_executes = record { trace = adds_and_reads 10; run = counts_to_10; asks = refl; replies = counts_replies after_one (Some 5) 10 (counter_after empty None 5 counter_empty) refl; later_is = refl; locks_are = refl }

pub two_serial : Serial (only counts) (on_key_nine 5 ∷ on_key_nine 5 ∷ []) (0 ∷ 1 ∷ []) empty (counted 5 ∷ counted 10 ∷ []) (after (adds_and_reads 10) after_one)
two_serial = (on_key_nine 5, after_one, refl, first_executes, (on_key_nine 5, after (adds_and_reads 10) after_one, refl, second_executes, refl))

-- ---- what does not hold

-- the number that a call returned
abbrev number_in : Outcome → ℕ
number_in (Returned (Some (value.I64 (pos n)))) = n
number_in _ = 0

abbrev has_ended : Outcome → ℕ
has_ended (Returned v) = 1
has_ended (Trapped t) = 2
has_ended OutOfFuel = 3
has_ended (Rejected n) = 4 + n

abbrev number_got : Reply → ℕ
number_got (reply.I64 (pos n)) = n
number_got _ = 0

module _ (one_way : ExecutesOneWay) where
  -- another run with the same trace has the same end
  same_end : (setting : Setting) (call : ContractCall) (cells later : Cells) (r : Receipt) (o' : Outcome) (f' : ℕ) (m : Modes) (trace : List TraceStep) → GetsReplies trace cells → Executes setting call cells later r m → RunsWith setting call trace o' f' → (r.outcome ≡ o') × (r.used ≡ f')
  same_end setting call cells later r o' f' m trace replies e run =
      let other : Receipt = record { outcome = o'; used = f'; asks = asks_in trace } in
      let same = one_way setting call cells later (cond (has_returned o') (after trace cells) cells) r other m (touched trace) e (record { trace = trace; run = run; asks = refl; replies = replies; later_is = refl; locks_are = refl }) in
      (ap (λ (r : Receipt). r.outcome) same.1, ap (λ (r : Receipt). r.used) same.1)

  pub not_13 : RunsWith (only adds_seven) (on_five 3) [] (returned 13) 3 → ⊥
  not_13 run = omega (arith, ap number_in (same_end _ _ empty _ _ _ _ _ [] tt (silent _ _ _ _ empty adds_run) run).0)

  pub not_by_2 : RunsWith (only adds_seven) (on_five 3) [] (returned 12) 2 → ⊥
  not_by_2 run = omega (arith, (same_end _ _ empty _ _ _ _ _ [] tt (silent _ _ _ _ empty adds_run) run).1)

  pub not_within_2 : RunsWith (only adds_seven) (on_five 2) [] (returned 12) 3 → ⊥
  not_within_2 run = omega (arith, (same_end _ _ empty _ _ _ _ _ [] tt (silent _ _ _ _ empty adds_with_2) run).1)

  pub only_12 : (cells later : Cells) (r : Receipt) (m : Modes) → Executes (only adds_seven) (on_five 3) cells later r m → (later ≡ cells) × (r ≡ alone_with (returned 12) 3)
  only_12 cells later r m e = let same = one_way _ _ cells _ _ _ _ _ _ e (silent _ _ _ _ cells adds_run) in (same.0, same.1)

  pub no_free_trap : RunsWith (only gives_up) (call_with 100 []) [] (Trapped Unreachable) 0 → ⊥
  no_free_trap run = omega (arith, (same_end _ _ empty _ _ _ _ _ [] tt (silent _ _ _ _ empty trap_run) run).1)

  pub no_return : RunsWith (only gives_up) (call_with 100 []) [] (returned 0) 1 → ⊥
  no_return run = omega (arith, ap has_ended (same_end _ _ empty _ _ _ _ _ [] tt (silent _ _ _ _ empty trap_run) run).0)

  pub not_number_4 : RunsWith (only adds_seven) (call_with 100 []) [] (Rejected 4) 0 → ⊥
  not_number_4 run = omega (arith, ap has_ended (same_end _ _ empty _ _ _ _ _ [] tt (silent _ _ _ _ empty refused_run) run).0)

  pub not_by_10 : RunsWith (only keeps) (on_key_nine 11) (puts_and_deletes 5) (returned 5) 10 → ⊥
  not_by_10 run = omega (arith, (same_end _ _ empty _ _ _ _ _ (puts_and_deletes 5) (keeps_replies empty) (keeps_executes empty) run).1)

  pub not_6 : (cells : Cells) → GetsReplies (puts_and_deletes 6) cells → ⊥
  not_6 cells g = let h = keeps_replies cells in omega (arith, ap number_got (g.1.1.0 ∙ sym (h.1.1.0)))

  pub not_5_again : (last : Cells) → Serial (only counts) (on_key_nine 5 ∷ on_key_nine 5 ∷ []) (0 ∷ 1 ∷ []) empty (counted 5 ∷ counted 5 ∷ []) last → ⊥
  not_5_again last h =
      let one : h.0 ≡ on_key_nine 5 = (let e : Some (on_key_nine 5) ≡ Some (h.0) = h.2 in cc) in
      let two : h.4.0 ≡ on_key_nine 5 = (let e : Some (on_key_nine 5) ≡ Some (h.4.0) = h.4.2 in cc) in
      let cells = (one_way (only counts) (on_key_nine 5) empty h.1 after_one _ _ _ _ (subst (λ (k : ContractCall). Executes (only counts) k empty h.1 (alone_with (returned 5) 5) (touched (adds_and_reads 5))) one h.3) first_executes).0 in
      let again : Executes (only counts) (on_key_nine 5) after_one h.4.1 (alone_with (returned 5) 5) (touched (adds_and_reads 5)) = subst (λ (x : Cells). Executes (only counts) (on_key_nine 5) x h.4.1 (alone_with (returned 5) 5) (touched (adds_and_reads 5))) cells
      (subst (λ (k : ContractCall). Executes (only counts) k h.1 h.4.1 (alone_with (returned 5) 5) (touched (adds_and_reads 5))) two h.4.3) in
      omega (arith, ap (λ (r : Receipt). number_in r.outcome) (one_way (only counts) (on_key_nine 5) after_one _ _ (alone_with (returned 5) 5) (alone_with (returned 10) 5) _ _ again second_executes).1)

  pub not_one_call : (last : Cells) → Serial (only counts) (on_key_nine 5 ∷ on_key_nine 5 ∷ []) (0 ∷ 1 ∷ []) empty (counted 5 ∷ []) last → ⊥
  not_one_call last h = h.4

pub adds_executes : (cells : Cells) → Executes (only adds_seven) (on_five 3) cells cells (alone_with (returned 12) 3) empty
adds_executes cells = silent _ _ _ _ cells adds_run

pub trap_executes : (cells : Cells) → Executes (only gives_up) (call_with 100 []) cells cells (alone_with (Trapped Unreachable) 1) empty
trap_executes cells = silent _ _ _ _ cells trap_run

pub refused_executes : (cells : Cells) → Executes (only adds_seven) (call_with 100 []) cells cells (alone_with (Rejected 3) 0) empty
refused_executes cells = silent _ _ _ _ cells refused_run
