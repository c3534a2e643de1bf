-- A trace over two stores of cells that are alike at the locks that it asks for.
use Rattle.std.proofs.Common.{◌≡◌, ℕ, true, false, cond, Option, List, [], ◌∷◌, refl, sym, ◌∙◌, subst}
use Rattle.std.specs.List.{AllByRecursion}
use Rattle.std.specs.Ordering.{eq_by_cmp}
use Rattle.std.specs.FinMap.{get}
use Rattle.spec_ledger.specs.declared.Lock.{Lock}
use Rattle.spec_ledger.specs.declared.Op.{Op}
use Rattle.spec_ledger.specs.declared.TraceStep.{TraceStep}
use Rattle.spec_ledger.specs.declared.TraceStep.TheVariants.{Did, Opened, Kept, Dropped}
use Rattle.spec_ledger.specs.Cells.{Cells, lock_cmp, lock_of, cell_after, cells_after, reply_of}
use Rattle.spec_ledger.specs.Modes.{ops_of}
use Rattle.spec_ledger.specs.Book.{Marked, unmarked, kept_at, dropped_at, stepped, folded, after, GetsReplies, GetsRepliesFrom}
use Rattle.spec_ledger.proofs.Maps.{get-update, is_key, lock_cmp_total, lock_cmp-IsAntisymmetric}

get-after : (op : Op) (m : Cells) (q : Lock) → get (cells_after op m) q ≡ cond (eq_by_cmp lock_cmp q (lock_of op)) (cell_after op (get m q)) (get m q)
get-after op m q = get-update lock_cmp_total lock_cmp-IsAntisymmetric m (lock_of op) (cell_after op) q

-- R says at each lock how what one store holds there is like what the other holds
module _ (R : Lock → Option ℕ → Option ℕ → Type 0) where
  abbrev pub AreAlike : Cells → Cells → Type 0
  AreAlike m n = (q : Lock) → R q (get m q) (get n q)

  -- an operation keeps cells alike at its lock, and answers the same over both
  pub record Keeps (op : Op) : Type 0 where
    pub cell : (a b : Option ℕ) → R (lock_of op) a b → R (lock_of op) (cell_after op a) (cell_after op b)
    pub reply : (a b : Option ℕ) → R (lock_of op) a b → reply_of op a ≡ reply_of op b

  after_one : (op : Op) (m n : Cells) → Keeps op → AreAlike m n → AreAlike (cells_after op m) (cells_after op n)
  after_one op m n keeps alike q =
      subst (λ x. R q x (get (cells_after op n) q)) (sym (get-after op m q))
      (subst (λ y. R q (cond (eq_by_cmp lock_cmp q (lock_of op)) (cell_after op (get m q)) (get m q)) y) (sym (get-after op n q))
      (elim (eq_by_cmp lock_cmp q (lock_of op)) as (λ b. eq_by_cmp lock_cmp q (lock_of op) ≡ b → R q (cond b (cell_after op (get m q)) (get m q)) (cond b (cell_after op (get n q)) (get n q))) [
        | true ↦ λ e.
            let same = is_key lock_cmp_total lock_cmp-IsAntisymmetric q (lock_of op) e in
            subst (λ l. R l (cell_after op (get m q)) (cell_after op (get n q))) (sym same)
            (keeps.cell (get m q) (get n q) (subst (λ l. R l (get m q) (get n q)) same (alike q)))
        | false ↦ λ _. alike q
      ] refl))

  abbrev AreAllAlike : List Cells → List Cells → Type 0
  AreAllAlike [] [] = Unit {0}
  AreAllAlike [] (n ∷ ns) = ⊥
  AreAllAlike (m ∷ ms) [] = ⊥
  AreAllAlike (m ∷ ms) (n ∷ ns) = AreAlike m n × AreAllAlike ms ns

  abbrev AreMarkedAlike : Marked Cells → Marked Cells → Type 0
  AreMarkedAlike p q = AreAlike p.now q.now × AreAllAlike p.marks q.marks

  kept_alike : (m n : Cells) (ms ns : List Cells) → AreAlike m n → AreAllAlike ms ns → AreMarkedAlike (kept_at m ms) (kept_at n ns)
  kept_alike m n [] [] same all = (same, tt)
  kept_alike m n [] (o ∷ ns) same all = absurd all
  kept_alike m n (o ∷ ms) [] same all = absurd all
  kept_alike m n (o ∷ ms) (p ∷ ns) same all = (same, all.1)

  dropped_alike : (m n : Cells) (ms ns : List Cells) → AreAlike m n → AreAllAlike ms ns → AreMarkedAlike (dropped_at m ms) (dropped_at n ns)
  dropped_alike m n [] [] same all = (same, tt)
  dropped_alike m n [] (o ∷ ns) same all = absurd all
  dropped_alike m n (o ∷ ms) [] same all = absurd all
  dropped_alike m n (o ∷ ms) (p ∷ ns) same all = all

  folded_alike : (t : List TraceStep) (p q : Marked Cells) → AllByRecursion Keeps (ops_of t) → AreMarkedAlike p q → AreMarkedAlike (folded cells_after t p) (folded cells_after t q)
  folded_alike [] p q keeps same = same
  folded_alike (Did op r ∷ t) p q keeps same = folded_alike t (stepped cells_after (Did op r) p) (stepped cells_after (Did op r) q) keeps.1 (after_one op p.now q.now keeps.0 same.0, same.1)
  folded_alike (Opened ∷ t) p q keeps same = folded_alike t (stepped cells_after Opened p) (stepped cells_after Opened q) keeps (same.0, same)
  folded_alike (Kept ∷ t) p q keeps same = folded_alike t (stepped cells_after Kept p) (stepped cells_after Kept q) keeps (kept_alike p.now q.now p.marks q.marks same.0 same.1)
  folded_alike (Dropped ∷ t) p q keeps same = folded_alike t (stepped cells_after Dropped p) (stepped cells_after Dropped q) keeps (dropped_alike p.now q.now p.marks q.marks same.0 same.1)

  pub after_alike : (t : List TraceStep) (m n : Cells) → AllByRecursion Keeps (ops_of t) → AreAlike m n → AreAlike (after t m) (after t n)
  after_alike t m n keeps same = (folded_alike t (unmarked m) (unmarked n) keeps (same, tt)).0

  replies_from : (t : List TraceStep) (p q : Marked Cells) → AllByRecursion Keeps (ops_of t) → AreMarkedAlike p q → GetsRepliesFrom t p → GetsRepliesFrom t q
  replies_from [] p q keeps same g = tt
  replies_from (Did op r ∷ t) p q keeps same g = (
    g.0 ∙ keeps.0.reply (get p.now (lock_of op)) (get q.now (lock_of op)) (same.0 (lock_of op)),
    replies_from t (stepped cells_after (Did op r) p) (stepped cells_after (Did op r) q) keeps.1 (after_one op p.now q.now keeps.0 same.0, same.1) g.1,
  )
  replies_from (Opened ∷ t) p q keeps same g = replies_from t (stepped cells_after Opened p) (stepped cells_after Opened q) keeps (same.0, same) g
  replies_from (Kept ∷ t) p q keeps same g = replies_from t (stepped cells_after Kept p) (stepped cells_after Kept q) keeps (kept_alike p.now q.now p.marks q.marks same.0 same.1) g
  replies_from (Dropped ∷ t) p q keeps same g = replies_from t (stepped cells_after Dropped p) (stepped cells_after Dropped q) keeps (dropped_alike p.now q.now p.marks q.marks same.0 same.1) g

  pub replies_alike : (t : List TraceStep) (m n : Cells) → AllByRecursion Keeps (ops_of t) → AreAlike m n → GetsReplies t m → GetsReplies t n
  replies_alike t m n keeps same g = replies_from t (unmarked m) (unmarked n) keeps (same, tt) g
