-- The numbers of the calls, and the receipts at their places.
use Rattle.std.proofs.Common.{◌≡◌, ℕ, ◌+◌, ◌<◌, List, [], ◌∷◌, length, slice_index_or, refl, ap, sym, subst, ◌∙◌, arith, zero, suc}
use Rattle.std.specs.FinMap.{empty}
use Rattle.spec_ledger.specs.declared.Version.TheVariants.{Two}
use Rattle.spec_ledger.specs.declared.Receipt.{Receipt}
use Rattle.spec_ledger.specs.Modes.{Modes}
use Rattle.spec_ledger.specs.Cells.{Cells}
use Rattle.spec_execution.specs.Configuration.{Setting, Deployed}
use Rattle.spec_execution.specs.Run.{ContractCall}
use Rattle.spec_execution.specs.Serial.{Serial}
use Rattle.serial.specs.Positions.{results_of}
use Rattle.wblock_commands.specs.Runs.{numbers_from, receipts_of, told_of, Shows}

-- each number is below the number of the calls
pub numbers_below : (n : ℕ) (calls : List ContractCall) (k d : ℕ) → k < length (numbers_from n calls) → slice_index_or (numbers_from n calls) k d < n + length calls
numbers_below n [] k d b = absurd (omega (arith, b))
numbers_below n (c ∷ cs) zero d b = omega arith
numbers_below n (c ∷ cs) (suc k) d b = let h = numbers_below (n + 1) cs k d (omega (arith, b)) in omega (arith, h)

pub numbers_count : (n : ℕ) (calls : List ContractCall) → length (numbers_from n calls) ≡ length calls
numbers_count n [] = refl
numbers_count n (c ∷ cs) = let h = numbers_count (n + 1) cs in omega (arith, h)

pub receipts_again : (receipts : List Receipt) (touched : List Modes) → length receipts ≡ length touched → receipts_of (results_of receipts touched) ≡ receipts
receipts_again [] ms e = refl
receipts_again (r ∷ rs) [] e = absurd (omega (arith, e))
receipts_again (r ∷ rs) (m ∷ ms) e = ap (λ l. r ∷ l) (receipts_again rs ms (omega (arith, e)))

-- the calls ran in rising number over empty cells, and the text tells their receipts
pub shown : (contract : Deployed) (calls : List ContractCall) (lent : Setting) (order : List ℕ) (cells last : Cells) (receipts : List Receipt) (touched : List Modes) (text : List ℕ)
    → lent ≡ record { contracts = contract ∷ []; version = Two } → order ≡ numbers_from 0 calls → cells ≡ empty → Serial lent calls order cells (results_of receipts touched) last
    → length receipts ≡ length order → length touched ≡ length order → text ≡ told_of receipts → Shows contract calls text
shown contract calls lent order cells last receipts touched text l o e s n m t =
    let s1 = subst (λ x. Serial x calls order cells (results_of receipts touched) last) l s in
    let s2 = subst (λ x. Serial (record { contracts = contract ∷ []; version = Two }) calls x cells (results_of receipts touched) last) o s1 in
    record {
      ran = results_of receipts touched;
      last = last;
      serial = subst (λ x. Serial (record { contracts = contract ∷ []; version = Two }) calls (numbers_from 0 calls) x (results_of receipts touched) last) e s2;
      text_is = t ∙ ap told_of (sym (receipts_again receipts touched (n ∙ sym m)));
    }
