-- The locks of a trace, step by step, and as a list in the order of locks.
use Rattle.std.proofs.Common.{◌≡◌, ℕ, ◌+◌, ◌<◌, Bool, true, false, cond, ◌&&◌, T, Some, List, [], ◌∷◌, ◌++◌, map, length, take, get_or, refl, sym, ◌∙◌, ap, subst, append_assoc}
use Rattle.std.proofs.lemmas.List.{take_more, map-append, append-nil}
use Rattle.std.specs.declared.cmp.Ordering.TheVariants.{Less}
use Rattle.std.specs.Ordering.{eq_by_cmp, is_lt}
use Rattle.std.specs.List.{AllByRecursion}
use Rattle.std.specs.List.Sorted.{IsStrictlySortedBy}
use Rattle.std.specs.FinMap.{empty, get, entries, get-insert, get-entries, get-from_entries, same_map, is_sorted, find}
use Rattle.std.specs.FinMap.Entries.{below_all}
use Rattle.spec_ledger.specs.declared.Lock.{Lock}
use Rattle.spec_ledger.specs.declared.Mode.{Mode}
use Rattle.spec_ledger.specs.declared.TraceStep.{TraceStep}
use Rattle.spec_ledger.specs.Cells.{lock_cmp, lock_of}
use Rattle.spec_ledger.specs.declared.TraceStep.TheVariants.{Did, Opened, Kept, Dropped}
use Rattle.spec_ledger.specs.declared.Op.{Op}
use Rattle.spec_ledger.specs.declared.Reply.{Reply}
use Rattle.spec_ledger.specs.Modes.{Modes, mode_of, join_held, mode_at, ops_of, touched_by, touched}
use Rattle.spec_ledger.proofs.Maps.{is_key, lock_cmp_total, lock_cmp-IsAntisymmetric}
use Rattle.spec_ledger.proofs.Traces.{get-touched_by, mode_at-push, ops_of-append}
use Rattle.serial.specs.Asking.{ask_of, asks, asks_with, modes_in, asked, asked_all}

-- ---- one step more

touched_by-push : (t : List Op) (s : Op) → touched_by (t ++ s ∷ []) ≡ asked (touched_by t) s
touched_by-push t s = same_map lock_cmp_total lock_cmp-IsAntisymmetric _ _ (λ q.
    get-touched_by (t ++ s ∷ []) q ∙ mode_at-push t s q
    ∙ elim (eq_by_cmp lock_cmp q (lock_of s)) as (λ b. eq_by_cmp lock_cmp q (lock_of s) ≡ b
    → cond b (Some (join_held (mode_of s) (mode_at q t))) (mode_at q t) ≡ cond b (Some (join_held (mode_of s) (get (touched_by t) (lock_of s)))) (get (touched_by t) q)) [
      | true ↦ λ e. ap (λ x. Some (join_held (mode_of s) x)) (sym (get-touched_by t q) ∙ ap (get (touched_by t)) (is_key lock_cmp_total lock_cmp-IsAntisymmetric q (lock_of s) e))
      | false ↦ λ _. sym (get-touched_by t q)
    ] refl
    ∙ sym (get-insert lock_cmp_total (touched_by t) (lock_of s) (join_held (mode_of s) (get (touched_by t) (lock_of s))) q))

pub touched-push : (t : List TraceStep) (op : Op) (r : Reply) → touched (t ++ Did op r ∷ []) ≡ asked (touched t) op
touched-push t op r = ap touched_by (ops_of-append t (Did op r ∷ [])) ∙ touched_by-push (ops_of t) op

-- all operations of a trace ask as its locks tell
asked_on : (t u : List Op) → asked_all (touched_by t) (map ask_of u) ≡ touched_by (t ++ u)
asked_on t [] = ap touched_by (sym (append-nil t))
asked_on t (s ∷ u) =
    ap (λ m. asked_all m (map ask_of u)) (sym (touched_by-push t s)) ∙ asked_on (t ++ s ∷ []) u ∙ ap touched_by (append_assoc t (s ∷ []) u)

pub asks_are : (t : List TraceStep) → asked_all empty (asks t) ≡ touched t
asks_are t = asked_on [] (ops_of t)

asks_step : (t : List TraceStep) (s : TraceStep) → asks (t ++ s ∷ []) ≡ asks_with (asks t) s
asks_step t (Did op r) = ap (map ask_of) (ops_of-append t (Did op r ∷ [])) ∙ map-append ask_of (ops_of t) (op ∷ [])
asks_step t Opened = ap (map ask_of) (ops_of-append t (Opened ∷ []) ∙ append-nil (ops_of t))
asks_step t Kept = ap (map ask_of) (ops_of-append t (Kept ∷ []) ∙ append-nil (ops_of t))
asks_step t Dropped = ap (map ask_of) (ops_of-append t (Dropped ∷ []) ∙ append-nil (ops_of t))

pub asks_more : (t : List TraceStep) (i : ℕ) (d : TraceStep) (known next : List (Lock × Mode)) → i < length t → known ≡ asks (take i t) → next ≡ asks_with known (get_or t i d) → next ≡ asks (take (i + 1) t)
asks_more t i d known next below e f =
    f ∙ ap (λ es. asks_with es (get_or t i d)) e ∙ sym (ap asks (take_more t i d below) ∙ asks_step (take i t) (get_or t i d))

-- ---- the list of a map

both : (a b : Bool) → T a → T b → T (a && b)
both true b p q = q
both false b p q = p

below_keys : (k : Lock) (es : List (Lock × Mode)) → AllByRecursion (λ l. lock_cmp k l ≡ Less) (map (λ e. e.0) es) → T (below_all lock_cmp k es)
below_keys k [] h = tt
below_keys k (e ∷ es) h = both (is_lt (lock_cmp k e.0)) (below_all lock_cmp k es) (subst (λ o. T (is_lt o)) (sym h.0) tt) (below_keys k es h.1)

sorted_keys : (es : List (Lock × Mode)) → IsStrictlySortedBy lock_cmp (map (λ e. e.0) es) → T (is_sorted lock_cmp es)
unfolding IsStrictlySortedBy
sorted_keys [] h = tt
sorted_keys (e ∷ es) h = both (below_all lock_cmp e.0 es) (is_sorted lock_cmp es) (below_keys e.0 es h.0) (sorted_keys es h.1)

pub is_true : (b : Bool) → T b → b ≡ true
is_true true h = refl
is_true false h = absurd h

pub in_order : (es : List (Lock × Mode)) → IsStrictlySortedBy lock_cmp (map (λ e. e.0) es) → is_sorted lock_cmp es ≡ true
in_order es h = is_true _ (sorted_keys es h)

pub listed_is : (es : List (Lock × Mode)) (m : Modes) → entries m ≡ es → m ≡ modes_in es
listed_is es m is = same_map lock_cmp_total lock_cmp-IsAntisymmetric _ _ (λ q. get-entries m q ∙ ap (find lock_cmp q) is ∙ sym (get-from_entries lock_cmp_total es q))
