-- A trace that is done again, step by step.
use Rattle.std.proofs.Common.{◌≡◌, ℕ, zero, suc, ◌+◌, ◌<◌, List, [], ◌∷◌, ◌++◌, length, take, get_or, refl, sym, ◌∙◌, ap, subst, arith}
use Rattle.std.proofs.lemmas.List.{take_more}
use Rattle.spec_ledger.specs.declared.Inverse.{Inverse}
use Rattle.spec_ledger.specs.declared.Op.{Op}
use Rattle.spec_ledger.specs.declared.Reply.{Reply}
use Rattle.spec_ledger.specs.declared.TraceStep.{TraceStep}
use Rattle.spec_ledger.specs.declared.TraceStep.TheVariants.{Did, Opened, Kept, Dropped}
use Rattle.spec_ledger.specs.Cells.{Cells, cells_after, reply_to, inverse_to}
use Rattle.spec_ledger.specs.Book.{Marked, unmarked, stepped, folded, after, GetsReplies, GetsRepliesFrom}
use Rattle.storage.specs.Counts.{Store, opened}
use Rattle.serial.specs.Playing.{AreSomeDone, AreDoneInLevels}
use Rattle.serial.proofs.Doing.{done_more}
use Rattle.serial.proofs.Levels.{did_one}

-- ---- replies of a trace that gets its replies

replies_from : (t : List TraceStep) (i : ℕ) (d : TraceStep) (p : Marked Cells) → i < length t → GetsRepliesFrom t p → (u : List TraceStep) × GetsRepliesFrom (get_or t i d ∷ u) (folded cells_after (take i t) p)
replies_from [] i d p below g = absurd (omega (arith, below))
replies_from (s ∷ t) zero d p below g = (t, g)
replies_from (Did op r ∷ t) (suc i) d p below g = replies_from t i d (stepped cells_after (Did op r) p) (omega (arith, below)) g.1
replies_from (Opened ∷ t) (suc i) d p below g = replies_from t i d (stepped cells_after Opened p) (omega (arith, below)) g
replies_from (Kept ∷ t) (suc i) d p below g = replies_from t i d (stepped cells_after Kept p) (omega (arith, below)) g
replies_from (Dropped ∷ t) (suc i) d p below g = replies_from t i d (stepped cells_after Dropped p) (omega (arith, below)) g

reply_at : (t : List TraceStep) (i : ℕ) (d : TraceStep) (op : Op) (r : Reply) (m : Cells) → i < length t → get_or t i d ≡ Did op r → GetsReplies t m → r ≡ reply_to op (after (take i t) m)
reply_at t i d op r m below is g =
    let rest = replies_from t i d (unmarked m) below g in
    (subst (λ s. GetsRepliesFrom (s ∷ rest.0) (folded cells_after (take i t) (unmarked m))) is rest.1).0

-- ---- one step more of a trace

module _ (t : List TraceStep) (i : ℕ) (d s : TraceStep) (below : i < length t) (is : get_or t i d ≡ s) where
  pub one_more : take (i + 1) t ≡ take i t ++ s ∷ []
  one_more = take_more t i d below ∙ ap (λ x. take i t ++ x ∷ []) is

-- an operation
module _ (start now next : Store) (t : List TraceStep) (i : ℕ) (d : TraceStep) (is js : List Inverse) (ms : List ℕ) (op : Op) (r again : Reply) (below : i < length t) (here : get_or t i d ≡ Did op r)
    (d_one : AreDoneInLevels start (take i t) now is ms) (reply : again ≡ reply_to op now.cells) (cells : next.cells ≡ cells_after op now.cells)
    (unsettled : next.unsettled ≡ opened (inverse_to op now.cells) now.unsettled) (inverses : js ≡ is ++ inverse_to op now.cells ∷ []) where
  pub again_more : again ≡ r → AreDoneInLevels start (take (i + 1) t) next js ms
  again_more same = did_one start now next (take i t) (take (i + 1) t) is js ms op r d_one (one_more t i d (Did op r) below here) (sym same ∙ reply) cells unsettled inverses

  pub again_other : AreSomeDone start next js
  again_other = record {
    trace = take i t ++ Did op again ∷ [];
    done = done_more start now next (take i t) (take i t ++ Did op again ∷ []) is js op again d_one.done refl reply cells unsettled inverses;
  }

  pub not_again : (again ≡ r → ⊥) → GetsReplies t start.cells → ⊥
  not_again apart gets = apart (reply ∙ ap (reply_to op) d_one.done.cells ∙ sym (reply_at t i d op r start.cells below here gets))
