-- One operation more.
use Rattle.std.proofs.Common.{◌≡◌, List, [], ◌∷◌, ◌++◌, refl, sym, ◌∙◌, ap, subst}
use Rattle.spec_ledger.specs.declared.Inverse.{Inverse}
use Rattle.spec_ledger.specs.declared.Op.{Op}
use Rattle.spec_ledger.specs.declared.Reply.{Reply}
use Rattle.spec_ledger.specs.declared.TraceStep.{TraceStep}
use Rattle.spec_ledger.specs.declared.TraceStep.TheVariants.{Did}
use Rattle.spec_ledger.specs.Cells.{cells_after, reply_to, inverse_to}
use Rattle.spec_ledger.specs.Book.{after, standing, GetsReplies, inverses_of}
use Rattle.spec_ledger.proofs.Traces.{after-push, GetsReplies-push, standing-push, after-standing, inverses_of-append}
use Rattle.storage.specs.Counts.{Store, opened}
use Rattle.storage.specs.Counts.{opened_all}
use Rattle.storage.proofs.Counted.{opened_all-push}
use Rattle.serial.specs.Playing.{AreDone}

pub done_none : (start : Store) → AreDone start [] start []
done_none start = record { replies = tt; cells = refl; inverses_are = refl; unsettled = refl }

module _ (start now next : Store) (t u : List TraceStep) (is js : List Inverse) (op : Op) (r : Reply) (d : AreDone start t now is)
    (trace : u ≡ t ++ Did op r ∷ []) (reply : r ≡ reply_to op now.cells)
    (cells : next.cells ≡ cells_after op now.cells) (unsettled : next.unsettled ≡ opened (inverse_to op now.cells) now.unsettled)
    (inverses : js ≡ is ++ inverse_to op now.cells ∷ []) where
  pub done_more : AreDone start u next js
  done_more = record {
    replies = subst (λ x. GetsReplies x start.cells) (sym trace) (GetsReplies-push t op r start.cells d.replies (reply ∙ ap (reply_to op) d.cells));
    cells = cells ∙ ap (cells_after op) d.cells ∙ sym (ap (λ x. after x start.cells) trace ∙ after-push t op r start.cells);
    inverses_are = inverses ∙ (λ k. d.inverses_are k ++ inverse_to op ((d.cells ∙ after-standing t start.cells) k) ∷ [])
        ∙ sym (ap (λ x. inverses_of (standing x) start.cells) trace ∙ ap (λ ops. inverses_of ops start.cells) (standing-push t op r)
        ∙ inverses_of-append (standing t) (op ∷ []) start.cells);
    unsettled = unsettled ∙ ap (opened (inverse_to op now.cells)) d.unsettled
        ∙ sym (ap (λ x. opened_all x start.unsettled) inverses ∙ opened_all-push is (inverse_to op now.cells) start.unsettled);
  }
