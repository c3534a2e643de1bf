-- A lock that a trace has not asked for may hold anything where it starts.
use Rattle.std.proofs.Common.{◌≡◌, ◌≢◌, ℕ, true, false, cond, Option, Some, None, List, [], ◌∷◌, refl, sym, ◌∙◌, ap, subst}
use Rattle.std.specs.List.{AllByRecursion}
use Rattle.std.specs.Ordering.{eq_by_cmp}
use Rattle.std.specs.FinMap.{get}
use Rattle.spec_ledger.specs.declared.Inverse.{Inverse}
use Rattle.spec_ledger.specs.declared.Lock.{Lock}
use Rattle.spec_ledger.specs.declared.Op.{Op}
use Rattle.spec_ledger.specs.declared.TraceStep.{TraceStep}
use Rattle.spec_ledger.specs.Cells.{Cells, AreCells, IsCounter, lock_cmp, lock_of, counter_at, cell_after, cells_after, reply_of, inverse_of, inverse_to, set_at}
use Rattle.spec_ledger.specs.Modes.{mode_of, ops_of, touched}
use Rattle.spec_ledger.specs.Book.{Marked, unmarked, after, standing, GetsReplies, inverses_of}
use Rattle.spec_ledger.proofs.Maps.{get-set_at, is_key, update_comm, lock_cmp_total, lock_cmp-IsAntisymmetric}
use Rattle.spec_ledger.proofs.Traces.{All-weaken, All-standing, Holds, all_hold, get-touched_by, folded-natural}
use Rattle.spec_execution.proofs.Likeness.{Keeps, replies_alike}
use Rattle.serial.specs.Playing.{AreDoneInLevels}
use Rattle.serial.specs.Touches.{IsCellAt, with_changes}
use Rattle.serial.proofs.Places.{get_elsewhere}

-- cells with one more, of its type
pub AreCells-met : (m n : Cells) (l : Lock) (v : Option ℕ) → n ≡ set_at m l v → IsCellAt l v → AreCells m → AreCells n
AreCells-met m n l v e here are = record {
  counters = λ p. subst (λ (x : Option ℕ). IsCounter x) (sym (ap (λ (x : Cells). get x (counter_at p)) e ∙ get-set_at lock_cmp_total m l v (counter_at p)))
      (elim (eq_by_cmp lock_cmp (counter_at p) l) as (λ b. eq_by_cmp lock_cmp (counter_at p) l ≡ b → IsCounter (cond b v (get m (counter_at p)))) [
        | true ↦ λ is. here (sym (ap (λ (x : Lock). x.kind) (is_key lock_cmp_total lock_cmp-IsAntisymmetric (counter_at p) l is)))
        | false ↦ λ _. are.counters p
      ] refl);
}

module _ (l : Lock) (v : Option ℕ) where
  abbrev Apart : Op → Type 0
  Apart op = lock_of op ≢ l

  apart_one : (t : List TraceStep) → get (touched t) l ≡ None → (s : Op) → Holds (lock_of s) (mode_of s) (ops_of t) → Apart s
  apart_one t none s h e =
      let there : get (touched t) (lock_of s) ≡ Some h.held = get-touched_by (ops_of t) (lock_of s) ∙ h.is in
      let no : None ≡ Some h.held = sym none ∙ sym (ap (get (touched t)) e) ∙ there in
      cc

  all_apart : (t : List TraceStep) → get (touched t) l ≡ None → AllByRecursion Apart (ops_of t)
  all_apart t none = All-weaken (λ s. Holds (lock_of s) (mode_of s) (ops_of t)) Apart (apart_one t none) (ops_of t) (all_hold (ops_of t))

  abbrev met_at : Cells → Cells
  met_at m = set_at m l v

  -- an operation elsewhere
  after_met : (s : Op) → Apart s → (m : Cells) → met_at (cells_after s m) ≡ cells_after s (met_at m)
  after_met s apart m = sym (update_comm lock_cmp_total lock_cmp-IsAntisymmetric m (lock_of s) l (cell_after s) (λ _. v) (λ e c. absurd (apart e)))

  pub cells_met : (t : List TraceStep) → get (touched t) l ≡ None → (m : Cells) → met_at (after t m) ≡ after t (met_at m)
  cells_met t none m =
      ap (λ (p : Marked Cells). p.now)
      (folded-natural met_at cells_after cells_after t (All-weaken Apart _ after_met (ops_of t) (all_apart t none)) (unmarked m))

  inverses_apart : (ops : List Op) → AllByRecursion Apart ops → (m : Cells) → inverses_of ops (met_at m) ≡ inverses_of ops m
  inverses_apart [] all m = refl
  inverses_apart (s ∷ ops) all m =
      let one : inverse_to s (met_at m) ≡ inverse_to s m = ap (inverse_of s) (get_elsewhere m l v (lock_of s) all.0) in
      let rest = ap (inverses_of ops) (sym (after_met s all.0 m)) ∙ inverses_apart ops all.1 (cells_after s m) in
      λ i. one i ∷ rest i

  pub inverses_met : (t : List TraceStep) → get (touched t) l ≡ None → (m : Cells) → inverses_of (standing t) (met_at m) ≡ inverses_of (standing t) m
  inverses_met t none m = inverses_apart (standing t) (All-standing Apart t (all_apart t none)) m

  abbrev Alike : Lock → Option ℕ → Option ℕ → Type 0
  Alike q a b = q ≢ l → a ≡ b

  keeps_one : (s : Op) → Apart s → Keeps Alike s
  keeps_one s apart = record {
    cell = λ a b alike other. ap (cell_after s) (alike other);
    reply = λ a b alike. ap (reply_of s) (alike apart);
  }

  pub replies_met : (t : List TraceStep) → get (touched t) l ≡ None → (m : Cells) → GetsReplies t m → GetsReplies t (met_at m)
  replies_met t none m g =
      replies_alike Alike t m (met_at m) (All-weaken Apart (Keeps Alike) keeps_one (ops_of t) (all_apart t none)) (λ q other. sym (get_elsewhere m l v q other)) g

  -- the cell at the lock is found to be that
  pub met : (t : List TraceStep) (first now other next : Cells) (is : List Inverse) (ms : List ℕ) → get (touched t) l ≡ None → IsCellAt l v → other ≡ met_at first → next ≡ met_at now
      → AreDoneInLevels (with_changes first []) t (with_changes now is) is ms → AreDoneInLevels (with_changes other []) t (with_changes next is) is ms
  met t first now other next is ms none here e f d = record {
    settled = refl;
    are = AreCells-met first other l v e here d.are;
    done = record {
      replies = subst (GetsReplies t) (sym e) (replies_met t none first d.done.replies);
      cells = f ∙ ap met_at d.done.cells ∙ cells_met t none first ∙ ap (after t) (sym e);
      inverses_are = d.done.inverses_are ∙ sym (inverses_met t none first) ∙ ap (inverses_of (standing t)) (sym e);
      unsettled = refl;
    };
    marks_are = d.marks_are;
  }
