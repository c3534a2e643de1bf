-- The rows of a table of locks beside live attempts.
use Rattle.std.proofs.Common.{◌≡◌, ◌≢◌, ℕ, zero, suc, ◌+◌, ◌<◌, true, false, cond, Some, List, [], ◌∷◌, ◌++◌, length, take, drop, get_or, set, replicate, refl, sym, ◌∙◌, ap, subst, arith}
use Rattle.std.proofs.lemmas.List.{set-set, set_comm, set-get_or, get_or-set_same, get_or-set_other, get_or-replicate, length-set, length-replicate, take-set, drop-set-lt}
use Rattle.std.specs.FinMap.{get, empty, get-insert, get-empty, same_map}
use Rattle.std.specs.List.{AllByRecursion}
use Rattle.std.specs.Ordering.{eq_by_cmp}
use Rattle.spec_ledger.specs.declared.Lock.{Lock}
use Rattle.spec_ledger.specs.declared.Mode.{Mode}
use Rattle.spec_ledger.specs.declared.TraceStep.{TraceStep}
use Rattle.spec_ledger.specs.declared.TraceStep.TheVariants.{Did}
use Rattle.spec_ledger.specs.declared.Op.{Op}
use Rattle.spec_ledger.specs.declared.Reply.{Reply}
use Rattle.spec_ledger.specs.Cells.{lock_cmp, lock_of}
use Rattle.spec_ledger.specs.Modes.{Modes, mode_of, mode_at, join_held, may_share, touched, ops_of, touched_by}
use Rattle.spec_ledger.specs.Book.{Attempt, AreSideBySide, AreAllSideBySide}
use Rattle.spec_ledger.specs.Events.{HasNoAttempt}
use Rattle.spec_ledger.proofs.Maps.{is_key, lock_cmp_total, lock_cmp-IsAntisymmetric}
use Rattle.spec_ledger.proofs.Traces.{All-weaken, get-touched_by, ops_of-append, mode_at-push}
use Rattle.spec_ledger.proofs.Kept.{All-with, All-without}
use Rattle.abstract_locks.specs.Table.{AllShare, asked, others}
use Rattle.abstract_locks.proofs.Rows.{split_row}
use Rattle.boost.specs.BookInvariant.{rows_with}

-- ---- rows

pub rows_with-append : (p q : List Attempt) (rows : List Modes) → rows_with (p ++ q) rows ≡ rows_with q (rows_with p rows)
rows_with-append [] q rows = refl
rows_with-append (a ∷ p) q rows = rows_with-append p q (set rows a.call a.modes)

pub length-rows_with : (xs : List Attempt) (rows : List Modes) → length (rows_with xs rows) ≡ length rows
length-rows_with [] rows = refl
length-rows_with (a ∷ xs) rows = length-rows_with xs (set rows a.call a.modes) ∙ length-set rows a.call a.modes

-- the row of a call that none of these is of
rows_late : (k : ℕ) (m : Modes) (xs : List Attempt) (rows : List Modes) → HasNoAttempt k xs → rows_with xs (set rows k m) ≡ set (rows_with xs rows) k m
rows_late k m [] rows h = refl
rows_late k m (a ∷ xs) rows h = ap (rows_with xs) (set_comm rows k a.call m a.modes (λ e. h.0 (sym e))) ∙ rows_late k m xs (set rows a.call a.modes) h.1

pub idle_row : (k : ℕ) (xs : List Attempt) (rows : List Modes) (d : Modes) → HasNoAttempt k xs → get_or (rows_with xs rows) k d ≡ get_or rows k d
idle_row k [] rows d h = refl
idle_row k (a ∷ xs) rows d h = idle_row k xs (set rows a.call a.modes) d h.1 ∙ get_or-set_other rows a.call k a.modes d (λ e. h.0 (sym e))

-- with one attempt taken out
pub rows_out : (p : List Attempt) (a : Attempt) (q : List Attempt) (rows : List Modes) → HasNoAttempt a.call q → rows_with (p ++ a ∷ q) rows ≡ set (rows_with (p ++ q) rows) a.call a.modes
rows_out p a q rows h =
    rows_with-append p (a ∷ q) rows ∙ rows_late a.call a.modes q (rows_with p rows) h ∙ ap (λ x. set x a.call a.modes) (sym (rows_with-append p q rows))

-- a row written and emptied
pub emptied : (rows : List Modes) (k : ℕ) (m : Modes) → get_or rows k empty ≡ empty → set (set rows k m) k empty ≡ rows
emptied rows k m is = set-set rows k m empty ∙ ap (set rows k) (sym is) ∙ set-get_or rows k empty

pub empty_row : (k n : ℕ) (xs : List Attempt) → k < n → HasNoAttempt k xs → get_or (rows_with xs (replicate n empty)) k empty ≡ empty
empty_row k n xs below h = idle_row k xs (replicate n empty) empty h ∙ get_or-replicate n k empty empty below

pub no_other : (a : Attempt) (rest : List Attempt) → AllByRecursion (AreSideBySide a) rest → HasNoAttempt a.call rest
no_other a rest h = All-weaken (AreSideBySide a) (λ b. b.call ≢ a.call) (λ b k e. k.0 (sym e)) rest h

-- ---- all rows and all attempts

abbrev pub AreBelow : ℕ → List Attempt → Type 0
AreBelow n xs = AllByRecursion (λ a. a.call < n) xs

module _ (P : Modes → Type 0) where
  All-set : (rows : List Modes) (k : ℕ) (m : Modes) → AllByRecursion P rows → P m → AllByRecursion P (set rows k m)
  All-set [] k m h here = h
  All-set (x ∷ rows) zero m h here = (here, h.1)
  All-set (x ∷ rows) (suc k) m h here = (h.0, All-set rows k m h.1 here)

  All-row : (rows : List Modes) (k : ℕ) (d : Modes) → k < length rows → AllByRecursion P rows → P (get_or rows k d)
  All-row [] k d below h = absurd (omega (arith, below))
  All-row (x ∷ rows) zero d below h = h.0
  All-row (x ∷ rows) (suc k) d below h = All-row rows k d (omega (arith, below)) h.1

  All-replicate : (n : ℕ) (m : Modes) → P m → AllByRecursion P (replicate n m)
  All-replicate zero m h = tt
  All-replicate (suc n) m h = (h, All-replicate n m h)

  rows_of_modes : (xs : List Attempt) (rows : List Modes) → AllByRecursion P rows → AllByRecursion (λ a. P a.modes) xs → AllByRecursion P (rows_with xs rows)
  rows_of_modes [] rows h k = h
  rows_of_modes (a ∷ xs) rows h k = rows_of_modes xs (set rows a.call a.modes) (All-set rows a.call a.modes h k.0) k.1

  module _ (n : ℕ) (none : P empty) where
    modes_of_rows : (xs : List Attempt) → AreBelow n xs → AreAllSideBySide xs → AllByRecursion P (rows_with xs (replicate n empty)) → AllByRecursion (λ a. P a.modes) xs
    modes_of_rows [] known apart h = tt
    modes_of_rows (a ∷ xs) known apart h =
        let alone : HasNoAttempt a.call xs = no_other a xs apart.0 in
        let wide : length (rows_with xs (replicate n empty)) ≡ n = length-rows_with xs (replicate n empty) ∙ length-replicate n empty in
        let wider : length (set (rows_with xs (replicate n empty)) a.call a.modes) ≡ n = length-set (rows_with xs (replicate n empty)) a.call a.modes ∙ wide in
        let all : AllByRecursion P (set (rows_with xs (replicate n empty)) a.call a.modes) = subst (AllByRecursion P) (rows_late a.call a.modes xs (replicate n empty) alone) h in (
          subst P (get_or-set_same (rows_with xs (replicate n empty)) a.call a.modes empty (omega (arith, wide, known.0)))
              (All-row (set (rows_with xs (replicate n empty)) a.call a.modes) a.call empty (omega (arith, wider, known.0)) all),
          modes_of_rows xs known.1 apart.1
              (subst (AllByRecursion P) (emptied (rows_with xs (replicate n empty)) a.call a.modes (empty_row a.call n xs known.0 alone))
              (All-set (set (rows_with xs (replicate n empty)) a.call a.modes) a.call empty all none)),
        )

    -- an idle row left out
    other_modes : (k : ℕ) (xs : List Attempt) → k < n → HasNoAttempt k xs → AreBelow n xs → AreAllSideBySide xs
        → AllByRecursion P (others (rows_with xs (replicate n empty)) k) → AllByRecursion (λ a. P a.modes) xs
    other_modes k xs below idle known apart h =
        let wide : length (rows_with xs (replicate n empty)) ≡ n = length-rows_with xs (replicate n empty) ∙ length-replicate n empty in
        modes_of_rows xs known apart
        (subst (AllByRecursion P) (sym (split_row (rows_with xs (replicate n empty)) k (omega (arith, wide, below))))
        (All-with P (take k (rows_with xs (replicate n empty))) (get_or (rows_with xs (replicate n empty)) k empty) (drop (k + 1) (rows_with xs (replicate n empty))) h
        (subst P (sym (empty_row k n xs below idle)) none)))

    other_rows : (k : ℕ) (xs : List Attempt) → k < n → AllByRecursion (λ a. P a.modes) xs → AllByRecursion P (others (rows_with xs (replicate n empty)) k)
    other_rows k xs below h =
        let wide : length (rows_with xs (replicate n empty)) ≡ n = length-rows_with xs (replicate n empty) ∙ length-replicate n empty in
        All-without P (take k (rows_with xs (replicate n empty))) (get_or (rows_with xs (replicate n empty)) k empty) (drop (k + 1) (rows_with xs (replicate n empty)))
        (subst (AllByRecursion P) (split_row (rows_with xs (replicate n empty)) k (omega (arith, wide, below))) (rows_of_modes xs (replicate n empty) (All-replicate n empty none) h))

-- ---- a call's row among the others

abbrev Shares : Modes → Lock → Mode → Modes → Type 0
Shares held lock mode m = may_share (Some (join_held mode (get held lock))) (get m lock) ≡ true

none_shares : (held : Modes) (lock : Lock) (mode : Mode) → Shares held lock mode empty
none_shares held lock mode = ap (may_share (Some (join_held mode (get held lock)))) (get-empty {X = Mode} lock_cmp lock)

module _ (n : ℕ) (a : Attempt) (xs : List Attempt) (below : a.call < n) (known : AreBelow n xs) (idle : HasNoAttempt a.call xs) (apart : AreAllSideBySide xs)
    (rows : List Modes) (rows_is : rows ≡ set (rows_with xs (replicate n empty)) a.call a.modes) (lock : Lock) (mode : Mode) where
  wide_rows : length (rows_with xs (replicate n empty)) ≡ n
  wide_rows = length-rows_with xs (replicate n empty) ∙ length-replicate n empty

  pub own_row : get_or rows a.call empty ≡ a.modes
  own_row = ap (λ x. get_or x a.call empty) rows_is ∙ get_or-set_same (rows_with xs (replicate n empty)) a.call a.modes empty (let w = wide_rows in omega (arith, w, below))

  other_are : others rows a.call ≡ others (rows_with xs (replicate n empty)) a.call
  other_are =
      ap (λ x. others x a.call) rows_is
      ∙ (λ i. take-set (rows_with xs (replicate n empty)) a.call a.modes i ++ drop-set-lt (a.call + 1) (rows_with xs (replicate n empty)) a.call a.modes (omega arith) i)

  abbrev All : Modes × List Modes → Type 0
  All (held, ms) = AllByRecursion (Shares held lock mode) ms

  pub share_to : AllShare (get_or rows a.call empty) lock mode (others rows a.call) → AllByRecursion (λ c. Shares a.modes lock mode c.modes) xs
  share_to h =
      let path : ◌≡◌ {A = Modes × List Modes} (get_or rows a.call empty, others rows a.call) (a.modes, others (rows_with xs (replicate n empty)) a.call) = λ i. (own_row i, other_are i) in
      other_modes (Shares a.modes lock mode) n (none_shares a.modes lock mode) a.call xs below idle known apart (subst All path h)

  pub share_from : AllByRecursion (λ c. Shares a.modes lock mode c.modes) xs → AllShare (get_or rows a.call empty) lock mode (others rows a.call)
  share_from h =
      let path : ◌≡◌ {A = Modes × List Modes} (a.modes, others (rows_with xs (replicate n empty)) a.call) (get_or rows a.call empty, others rows a.call) = λ i. (sym own_row i, sym other_are i) in
      subst All path (other_rows (Shares a.modes lock mode) n (none_shares a.modes lock mode) a.call xs below h)

-- the modes after one more operation
pub touched-push : (t : List TraceStep) (op : Op) (r : Reply) → touched (t ++ Did op r ∷ []) ≡ asked (touched t) (lock_of op) (mode_of op)
touched-push t op r = ap touched_by (ops_of-append t (Did op r ∷ [])) ∙ touched_by-push (ops_of t) op
  where
    touched_by-push : (t : List Op) (s : Op) → touched_by (t ++ s ∷ []) ≡ asked (touched_by t) (lock_of s) (mode_of s)
    touched_by-push t s = same_map lock_cmp_total lock_cmp-IsAntisymmetric _ _ (λ q.
        get-touched_by (t ++ s ∷ []) q
        ∙ mode_at-push t s q
        ∙ elim (eq_by_cmp lock_cmp q (lock_of s)) as (λ b. eq_by_cmp lock_cmp q (lock_of s) ≡ b → cond b (Some (join_held (mode_of s) (mode_at q t))) (mode_at q t) ≡ cond b (Some (join_held (mode_of s) (get (touched_by t) (lock_of s)))) (get (touched_by t) q)) [
          | true ↦ λ e. ap (λ x. Some (join_held (mode_of s) x)) (sym (get-touched_by t q) ∙ ap (get (touched_by t)) (is_key lock_cmp_total lock_cmp-IsAntisymmetric q (lock_of s) e))
          | false ↦ λ _. sym (get-touched_by t q)
        ] refl
        ∙ sym (get-insert lock_cmp_total (touched_by t) (lock_of s) (join_held (mode_of s) (get (touched_by t) (lock_of s))) q))
