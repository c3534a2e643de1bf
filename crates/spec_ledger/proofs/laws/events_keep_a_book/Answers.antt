use Rattle.std.proofs.Common.{subst, sym}
use Rattle.spec_ledger.specs.Book.{IsKept}
use Rattle.spec_ledger.proofs.Kept.{IsKept-begin, IsKept-op, IsKept-undo, IsKept-commit, IsKept-enter, IsKept-leave}
use Rattle.spec_ledger.proofs.laws.events_keep_a_book.Goals as goal

pub returns : goal.returns
returns c = record {
  begun = λ old new call number kept e. subst (λ b. IsKept b) (sym e.new_is) (IsKept-begin old call kept e.known e.not_live e.not_committed);
  operated = λ old new call number op reply kept e. subst (λ b. IsKept b) (sym e.new_is) (IsKept-op old e.before e.attempt e.later kept e.found.among op e.granted);
  undone = λ old new call number kept e. subst (λ b. IsKept b) (sym e.new_is) (IsKept-undo old e.before e.attempt e.later kept e.found.among);
  entered = λ old new call number kept e. subst (λ b. IsKept b) (sym e.new_is) (IsKept-enter old e.before e.attempt e.later kept e.found.among);
  left = λ old new call number keep kept e. subst (λ b. IsKept b) (sym e.new_is) (IsKept-leave old e.before e.attempt e.later kept e.found.among e.stood e.outer e.entered keep);
  committed = λ old new call number trace outcome position kept e. subst (λ b. IsKept b) (sym e.new_is) (IsKept-commit old e.before e.attempt e.later kept e.found.among outcome);
}
