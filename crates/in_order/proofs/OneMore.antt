-- Calls that are done one after another.
use mir.Val.{bool_byte}
use Rattle.std.proofs.Common.{◌≡◌, ◌+◌, ◌<◌, ◌≤◌, ℕ, Bool, true, false, List, [], ◌∷◌, ◌++◌, Some, All, length, get_or, slice_get, take, sym, ap, subst, ◌∙◌, arith}
use Rattle.std.specs.FinMap.{empty}
use Rattle.std.proofs.lemmas.List.Elements.{All-get_or}
use Rattle.std.proofs.lemmas.Option.{slice_get-get_or}
use Rattle.spec_ledger.specs.Cells.{Cells}
use Rattle.spec_ledger.specs.Modes.{Modes}
use Rattle.spec_ledger.specs.declared.Receipt.{Receipt}
use Rattle.spec_execution.specs.Configuration.{Setting}
use Rattle.spec_execution.specs.Exec.{Executes}
use Rattle.spec_execution.specs.Run.{ContractCall}
use Rattle.spec_execution.specs.Serial.{Serial}
use Rattle.serial.specs.Positions.{results_of}
use Rattle.serial.proofs.Orders.{length_more, serial_more}
use Rattle.in_order.specs.declared.OrderProgress.{OrderProgress}
use Rattle.in_order.specs.Progress.{IsRan}

no_call : ContractCall
no_call = record { contract = 0; entry = []; args = []; fuel = 0 }

pub byte_le : (b : Bool) → bool_byte b ≤ 1
byte_le true = omega arith
byte_le false = omega arith

module _ {A : Type 0} (setting : Setting) (calls : List ContractCall) (order : List ℕ) (cells : Cells) where
  pub ran_none : (f : OrderProgress A) → f.receipts.items ≡ [] → f.touched.items ≡ [] → f.cells.cells ≡ cells → f.cells.unsettled ≡ empty → f.ahead ≡ 0 → IsRan setting calls order cells f
  ran_none f rs ms same settled none =
      record {
        serial = subst (λ (x : List Receipt × (List Modes × Cells)). Serial setting calls (take (length x.0) order) cells (results_of x.0 x.1.0) x.1.1) (sym (λ k. (rs k, (ms k, same k)))) (λ k. cells);
        touched = ap length ms ∙ sym (ap length rs);
        within = let e = ap (λ (l : List Receipt). length l) rs in omega (arith, e);
        settled = settled;
        ahead = omega (arith, none);
      }

  pub ran_more : (f next : OrderProgress A) (r : Receipt) (m : Modes) (i d : ℕ) → All (λ n. n < length calls) order → IsRan setting calls order cells f → length f.receipts.items ≡ i → i < length order
      → next.receipts.items ≡ f.receipts.items ++ r ∷ [] → next.touched.items ≡ f.touched.items ++ m ∷ []
      → ((call : ContractCall) → slice_get calls (get_or order i d) ≡ Some call → Executes setting call f.cells.cells next.cells.cells r m)
      → next.cells.unsettled ≡ empty → next.ahead ≤ f.ahead + 1 → IsRan setting calls order cells next
  ran_more f next r m i d known is place more rs ms does settled ahead =
      let number = get_or order i d in
      let call = get_or calls number no_call in
      let at = slice_get-get_or calls number no_call (All-get_or (λ n. n < length calls) order i d more known) in
      let many = length_more f.receipts.items next.receipts.items r i rs place in
      let before = subst (λ n. Serial setting calls (take n order) cells (results_of f.receipts.items f.touched.items) f.cells.cells) place is.serial in
      let serial = serial_more setting calls order i d cells f.cells.cells next.cells.cells f.receipts.items next.receipts.items f.touched.items next.touched.items r m call more before (sym is.touched) rs ms at (does call at) in
      record {
        serial = subst (λ n. Serial setting calls (take n order) cells (results_of next.receipts.items next.touched.items) next.cells.cells) (sym many) serial;
        touched = length_more f.touched.items next.touched.items m i ms (is.touched ∙ place) ∙ sym many;
        within = omega (arith, many, more);
        settled = settled;
        ahead = let was = is.ahead in omega (arith, many, place, was, ahead);
      }
