-- Traces and entries by their parts.
use Rattle.std.proofs.Common.{◌≡◌, inl, inr, ℕ, ◌<◌, true, false, cond, List, [], ◌∷◌, refl, sym, ◌∙◌, ap, subst}
use Rattle.std.proofs.lemmas.Bool.Decides.{eqb_tells}
use Rattle.std.specs.Prelude.{◌==◌, if◌then◌else◌}
use Rattle.std.specs.List.{AllByRecursion}
use Rattle.std.specs.Ordering.{eq_by_cmp}
use Rattle.std.specs.FinMap.{get}
use Rattle.spec_ledger.specs.declared.Lock.{Lock}
use Rattle.spec_ledger.specs.declared.Op.{Op}
use Rattle.spec_ledger.specs.declared.Reply.{Reply}
use Rattle.spec_ledger.specs.declared.TraceStep.{TraceStep}
use Rattle.spec_ledger.specs.declared.TraceStep.TheVariants.{Did, Opened, Kept, Dropped}
use Rattle.spec_ledger.specs.Cells.{Cells, lock_cmp, lock_of, cell_after, cells_after, reply_of, reply_to}
use Rattle.spec_ledger.specs.Modes.{ops_of}
use Rattle.spec_ledger.specs.Book.{Marked, unmarked, kept_at, dropped_at, stepped, folded, CommittedCall, after, GetsReplies, GetsRepliesFrom, standing, ops_after, has_returned, settled_by, settled, IsDefined}
use Rattle.spec_ledger.proofs.Maps.{get-update, is_key, lock_cmp_total, lock_cmp-IsAntisymmetric}
use Rattle.spec_ledger.proofs.Traces.{All-standing, after-standing}
use Rattle.spec_ledger.specs.Shards.{IsHome, part, with_trace, if_touched, before_others, entries_in, AreCellsOf}

get-after : (op : Op) (m : Cells) (q : Lock) → get (cells_after op m) q ≡ cond (eq_by_cmp lock_cmp q (lock_of op)) (cell_after op (get m q)) (get m q)
get-after op m q = get-update lock_cmp_total lock_cmp-IsAntisymmetric m (lock_of op) (cell_after op) q

module _ (home : Lock → ℕ) where
  -- an operation at a lock of the shard, and one at another
  inside : (i : ℕ) (op : Op) (m own : Cells) → AreCellsOf home i m own → AreCellsOf home i (cells_after op m) (cells_after op own)
  inside i op m own same lock here = get-after op own lock ∙ ap (λ c. cond (eq_by_cmp lock_cmp lock (lock_of op)) (cell_after op c) c) (same lock here) ∙ sym (get-after op m lock)

  outside : (i : ℕ) (op : Op) (m own : Cells) → ¬ (home (lock_of op) ≡ i) → AreCellsOf home i m own → AreCellsOf home i (cells_after op m) own
  outside i op m own away same lock here =
      same lock here
      ∙ sym (get-after op m lock
      ∙ elim (eq_by_cmp lock_cmp lock (lock_of op)) as (λ b. eq_by_cmp lock_cmp lock (lock_of op) ≡ b → cond b (cell_after op (get m lock)) (get m lock) ≡ get m lock) [
        | true ↦ λ e. absurd (away (ap home (sym (is_key lock_cmp_total lock_cmp-IsAntisymmetric lock (lock_of op) e)) ∙ here))
        | false ↦ λ _. refl
      ] refl)

  -- what stands at a point, and what stood at each mark
  abbrev AreAllOf : ℕ → List Cells → List Cells → Type 0
  AreAllOf i [] [] = Unit {0}
  AreAllOf i [] (n ∷ ns) = ⊥
  AreAllOf i (m ∷ ms) [] = ⊥
  AreAllOf i (m ∷ ms) (n ∷ ns) = AreCellsOf home i m n × AreAllOf i ms ns

  abbrev AreMarkedOf : ℕ → Marked Cells → Marked Cells → Type 0
  AreMarkedOf i p q = AreCellsOf home i p.now q.now × AreAllOf i p.marks q.marks

  kept_in : (i : ℕ) (m n : Cells) (ms ns : List Cells) → AreCellsOf home i m n → AreAllOf i ms ns → AreMarkedOf i (kept_at m ms) (kept_at n ns)
  kept_in i m n [] [] same all = (same, tt)
  kept_in i m n [] (o ∷ ns) same all = absurd all
  kept_in i m n (o ∷ ms) [] same all = absurd all
  kept_in i m n (o ∷ ms) (p ∷ ns) same all = (same, all.1)

  dropped_in : (i : ℕ) (m n : Cells) (ms ns : List Cells) → AreCellsOf home i m n → AreAllOf i ms ns → AreMarkedOf i (dropped_at m ms) (dropped_at n ns)
  dropped_in i m n [] [] same all = (same, tt)
  dropped_in i m n [] (o ∷ ns) same all = absurd all
  dropped_in i m n (o ∷ ms) [] same all = absurd all
  dropped_in i m n (o ∷ ms) (p ∷ ns) same all = all

  -- what a trace leaves, by the shard's part of it
  folded_in : (i : ℕ) (t : List TraceStep) (p q : Marked Cells) → AreMarkedOf i p q → AreMarkedOf i (folded cells_after t p) (folded cells_after (part home i t) q)
  folded_in i [] p q same = same
  folded_in i (Did op r ∷ t) p q same =
      elim (eqb_tells (home (lock_of op)) i) [
        | inl here ↦ subst (λ b. AreMarkedOf i (folded cells_after t (stepped cells_after (Did op r) p)) (folded cells_after (if b then Did op r ∷ part home i t else part home i t) q)) (sym here.0)
            (folded_in i t (stepped cells_after (Did op r) p) (stepped cells_after (Did op r) q) (inside i op p.now q.now same.0, same.1))
        | inr away ↦ subst (λ b. AreMarkedOf i (folded cells_after t (stepped cells_after (Did op r) p)) (folded cells_after (if b then Did op r ∷ part home i t else part home i t) q)) (sym away.0)
            (folded_in i t (stepped cells_after (Did op r) p) q (outside i op p.now q.now away.1 same.0, same.1))
      ]
  folded_in i (Opened ∷ t) p q same = folded_in i t (stepped cells_after Opened p) (stepped cells_after Opened q) (same.0, same)
  folded_in i (Kept ∷ t) p q same = folded_in i t (stepped cells_after Kept p) (stepped cells_after Kept q) (kept_in i p.now q.now p.marks q.marks same.0 same.1)
  folded_in i (Dropped ∷ t) p q same = folded_in i t (stepped cells_after Dropped p) (stepped cells_after Dropped q) (dropped_in i p.now q.now p.marks q.marks same.0 same.1)

  step_in : (i : ℕ) (s : TraceStep) (p q : Marked Cells) → AreMarkedOf i p q → AreMarkedOf i (stepped cells_after s p) (folded cells_after (part home i (s ∷ [])) q)
  step_in i s p q same = folded_in i (s ∷ []) p q same

  -- the cells after a trace, by the shard's part of it
  pub trace_in : (i : ℕ) (t : List TraceStep) (m own : Cells) → AreCellsOf home i m own → AreCellsOf home i (after t m) (after (part home i t) own)
  trace_in i t m own same = (folded_in i t (unmarked m) (unmarked own) (same, tt)).0

  -- the rest of a part's replies, after its first step, if the step is the shard's
  rest : (j : ℕ) (s : TraceStep) (t : List TraceStep) (own : Marked Cells) → GetsRepliesFrom (part home j (s ∷ t)) own → GetsRepliesFrom (part home j t) (folded cells_after (part home j (s ∷ [])) own)
  rest j (Did op r) t own =
      elim (home (lock_of op) == j) as (λ b. GetsRepliesFrom (if b then Did op r ∷ part home j t else part home j t) own → GetsRepliesFrom (part home j t) (folded cells_after (if b then Did op r ∷ [] else []) own)) [
        | true ↦ λ g. g.1
        | false ↦ λ g. g
      ]
  rest j Opened t own = λ g. g
  rest j Kept t own = λ g. g
  rest j Dropped t own = λ g. g

  -- the reply of the shard's own first operation
  first : (i : ℕ) (op : Op) (r : Reply) (t : List TraceStep) (own : Marked Cells) → home (lock_of op) ≡ i → GetsRepliesFrom (part home i (Did op r ∷ t)) own → r ≡ reply_to op own.now
  first i op r t own here =
      elim (eqb_tells (home (lock_of op)) i) [
        | inl is ↦ subst (λ b. GetsRepliesFrom (if b then Did op r ∷ part home i t else part home i t) own → r ≡ reply_to op own.now) (sym is.0) (λ g. g.0)
        | inr away ↦ absurd (away.1 here)
      ]

  module _ (shards : ℕ) (each : IsHome home shards) where
    abbrev AreOfEach : Marked Cells → (ℕ → Marked Cells) → Type 0
    AreOfEach p own = (i : ℕ) → i < shards → AreMarkedOf i p (own i)

    abbrev next_own : TraceStep → (ℕ → Marked Cells) → ℕ → Marked Cells
    next_own s own j = folded cells_after (part home j (s ∷ [])) (own j)

    abbrev AreToldEach : List TraceStep → (ℕ → Marked Cells) → Type 0
    AreToldEach t own = (i : ℕ) → i < shards → GetsRepliesFrom (part home i t) (own i)

    same_next : (s : TraceStep) (p : Marked Cells) (own : ℕ → Marked Cells) → AreOfEach p own → AreOfEach (stepped cells_after s p) (next_own s own)
    same_next s p own same j b = step_in j s p (own j) (same j b)

    told_next : (s : TraceStep) (t : List TraceStep) (own : ℕ → Marked Cells) → AreToldEach (s ∷ t) own → AreToldEach t (next_own s own)
    told_next s t own g j b = rest j s t (own j) (g j b)

    replies_from : (t : List TraceStep) (p : Marked Cells) (own : ℕ → Marked Cells) → AreOfEach p own → AreToldEach t own → GetsRepliesFrom t p
    replies_from [] p own same g = tt
    replies_from (Did op r ∷ t) p own same g =
        let i = home (lock_of op) in
        let below = each (lock_of op) in (
          first i op r t (own i) refl (g i below) ∙ ap (reply_of op) ((same i below).0 (lock_of op) refl),
          replies_from t (stepped cells_after (Did op r) p) (next_own (Did op r) own) (same_next (Did op r) p own same) (told_next (Did op r) t own g),
        )
    replies_from (Opened ∷ t) p own same g = replies_from t (stepped cells_after Opened p) (next_own Opened own) (same_next Opened p own same) (told_next Opened t own g)
    replies_from (Kept ∷ t) p own same g = replies_from t (stepped cells_after Kept p) (next_own Kept own) (same_next Kept p own same) (told_next Kept t own g)
    replies_from (Dropped ∷ t) p own same g = replies_from t (stepped cells_after Dropped p) (next_own Dropped own) (same_next Dropped p own same) (told_next Dropped t own g)

    -- a trace gets its replies where each part does
    pub replies_in : (t : List TraceStep) (m : Cells) (own : ℕ → Cells) → ((i : ℕ) → i < shards → AreCellsOf home i m (own i)) → ((i : ℕ) → i < shards → GetsReplies (part home i t) (own i)) → GetsReplies t m
    replies_in t m own same g = replies_from t (unmarked m) (λ i. unmarked (own i)) (λ i b. (same i b, tt)) g

  -- ---- entries

  pub entry_left : (i : ℕ) (e : CommittedCall) (m own : Cells) → AreCellsOf home i m own → AreCellsOf home i (settled_by e m) (settled_by (with_trace e (part home i e.trace)) own)
  entry_left i e m own same =
      elim (has_returned e.outcome) as (λ b. AreCellsOf home i (cond b (after e.trace m) m) (cond b (after (part home i e.trace) own) own)) [
        | true ↦ trace_in i e.trace m own same
        | false ↦ same
      ]

  -- a trace without operations leaves cells as they are, and gets its replies
  nothing_stands : (ops : List Op) → AllByRecursion (λ (op : Op). ⊥) ops → ops ≡ []
  nothing_stands [] none = refl
  nothing_stands (op ∷ ops) none = absurd none.0

  nothing_done : (t : List TraceStep) (own : Cells) → ops_of t ≡ [] → after t own ≡ own
  nothing_done t own none =
      after-standing t own ∙ ap (λ ops. ops_after ops own) (nothing_stands (standing t) (All-standing (λ (op : Op). ⊥) t (subst (λ ops. AllByRecursion (λ (op : Op). ⊥) ops) (sym none) tt)))

  nothing_told : (t : List TraceStep) (p : Marked Cells) → ops_of t ≡ [] → GetsRepliesFrom t p
  nothing_told [] p none = tt
  nothing_told (Did op r ∷ t) p none = absurd (cc none)
  nothing_told (Opened ∷ t) p none = nothing_told t (stepped cells_after Opened p) none
  nothing_told (Kept ∷ t) p none = nothing_told t (stepped cells_after Kept p) none
  nothing_told (Dropped ∷ t) p none = nothing_told t (stepped cells_after Dropped p) none

  -- an entry without an operation of the shard leaves its cells as they are
  nothing_left : (e : CommittedCall) (t : List TraceStep) (own : Cells) → ops_of t ≡ [] → settled_by (with_trace e t) own ≡ own
  nothing_left e t own none = elim (has_returned e.outcome) as (λ b. cond b (after t own) own ≡ own) [ true ↦ nothing_done t own none | false ↦ refl ]

  left_by : (e : CommittedCall) (t : List TraceStep) (es : List CommittedCall) (own : Cells) (ops : List Op) → ops_of t ≡ ops → settled own (if_touched ops (with_trace e t) es) ≡ settled (settled_by (with_trace e t) own) es
  left_by e t es own [] is = sym (ap (λ c. settled c es) (nothing_left e t own is))
  left_by e t es own (op ∷ ops) is = refl

  left_before : (e : CommittedCall) (t : List TraceStep) (es : List CommittedCall) (own : Cells) → settled own (before_others e t es) ≡ settled (settled_by (with_trace e t) own) es
  left_before e t es own = left_by e t es own (ops_of t) refl

  pub cells_in : (journal : List CommittedCall) (i : ℕ) (m own : Cells) → AreCellsOf home i m own → AreCellsOf home i (settled m journal) (settled own (entries_in home i journal))
  cells_in [] i m own same = same
  cells_in (e ∷ es) i m own same =
      subst (λ c. AreCellsOf home i (settled (settled_by e m) es) c) (sym (left_before e (part home i e.trace) (entries_in home i es) own))
      (cells_in es i (settled_by e m) (settled_by (with_trace e (part home i e.trace)) own) (entry_left i e m own same))

  defined_by : (e : CommittedCall) (t : List TraceStep) (es : List CommittedCall) (own : Cells) (ops : List Op) → ops_of t ≡ ops → IsDefined own (if_touched ops (with_trace e t) es) → GetsReplies t own × IsDefined (settled_by (with_trace e t) own) es
  defined_by e t es own [] is d = (nothing_told t (unmarked own) is, subst (λ c. IsDefined c es) (sym (nothing_left e t own is)) d)
  defined_by e t es own (op ∷ ops) is d = d

  defined_before : (e : CommittedCall) (t : List TraceStep) (es : List CommittedCall) (own : Cells) → IsDefined own (before_others e t es) → GetsReplies t own × IsDefined (settled_by (with_trace e t) own) es
  defined_before e t es own d = defined_by e t es own (ops_of t) refl d

  pub defined_in : (shards : ℕ) → IsHome home shards → (journal : List CommittedCall) (m : Cells) (own : ℕ → Cells) → ((i : ℕ) → i < shards → AreCellsOf home i m (own i))
      → ((i : ℕ) → i < shards → IsDefined (own i) (entries_in home i journal)) → IsDefined m journal
  defined_in shards each [] m own same d = tt
  defined_in shards each (e ∷ es) m own same d = (
    replies_in shards each e.trace m own same (λ i b. (defined_before e (part home i e.trace) (entries_in home i es) (own i) (d i b)).0),
    defined_in shards each es (settled_by e m) (λ i. settled_by (with_trace e (part home i e.trace)) (own i)) (λ i b. entry_left i e m (own i) (same i b)) (λ i b. (defined_before e (part home i e.trace) (entries_in home i es) (own i) (d i b)).1),
  )
