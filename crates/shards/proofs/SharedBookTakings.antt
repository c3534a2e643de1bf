-- What holds of the book at hand holds of the book that was found under the lock.
use Rattle.std.proofs.Common.{◌≡◌, IfErr, IfOk, OnOk, inl, inr, sym, subst}
use Rattle.std.specs.Prelude.{◌↔◌, ◌⊎◌, ℕ}
use Rattle.std.proofs.lemmas.Result.{IfOk-weaker}
use Rattle.std.specs.declared.result.Result.{Result}
use Rattle.std.specs.declared.result.Result.TheVariants.{Ok, Err}
use Rattle.spec_ledger.specs.Book.{Content}
use Rattle.spec_ledger.specs.Events.{IsStale, UndoDone}
use Rattle.shards.specs.SharedBookTaking.{IsLawful, HoldsOfTheBook, Happened}

-- `seen` is the book as it was looked at, `old` the same book as the event found it
pub holds_of : (fact : Content → Type 0) (seen old : Content) → old ≡ seen → IsLawful seen → fact old → HoldsOfTheBook fact
holds_of fact seen old same lawful holds = record { book = old; lawful = subst IsLawful (sym same) lawful; holds = holds }

pub happened : {T E : Type 0} (event : T → Content → Content → Type 0) (r : Result T E) (seen old new : Content) → old ≡ seen → IsLawful seen
    → IfOk r (λ x. event x old new) → IfOk r (λ x. Happened (event x))
happened event r seen old new same lawful done =
    IfOk-weaker r (λ x. event x old new) (λ x. Happened (event x)) (λ x h. holds_of (λ b. (after : Content) × event x b after) seen old same lawful (new, h)) done

pub passed : {T E : Type 0} (event : Content → Content → Type 0) (r : Result T E) (seen old new : Content) → old ≡ seen → IsLawful seen
    → OnOk r (event old new) → OnOk r (Happened event)
passed event (Ok x) seen old new same lawful done = holds_of (λ b. (after : Content) × event b after) seen old same lawful (new, done)
passed event (Err e) seen old new same lawful done = tt

pub refused : {T E : Type 0} (why : E → Type 0) (fact : Content → Type 0) (r : Result T E) (seen old : Content) → old ≡ seen → IsLawful seen
    → IfErr r (λ e. why e ↔ fact old) → IfErr r (λ e. why e → HoldsOfTheBook fact)
refused why fact (Ok x) seen old same lawful h = tt
refused why fact (Err e) seen old same lawful h = λ is. holds_of fact seen old same lawful (h.0 is)

pub undone : (call number : ℕ) (seen old new : Content) → old ≡ seen → IsLawful seen
    → IsStale old call number ⊎ UndoDone old new call number → HoldsOfTheBook (λ b. IsStale b call number ⊎ ((after : Content) × UndoDone b after call number))
undone call number seen old new same lawful (inl stale) = holds_of (λ b. IsStale b call number ⊎ ((after : Content) × UndoDone b after call number)) seen old same lawful (inl stale)
undone call number seen old new same lawful (inr done) = holds_of (λ b. IsStale b call number ⊎ ((after : Content) × UndoDone b after call number)) seen old same lawful (inr (new, done))
