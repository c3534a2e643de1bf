-- Bytes have one verdict.
use Rattle.std.proofs.Common.{◌≡◌, ℕ, List, refl, sym, ap, subst, ◌∙◌, ⊎_elim, arith}
use Rattle.std.proofs.lemmas.Bool.{cases_lt}
use Rattle.spec_block.specs.Worlds.{Call, World, Block, order_of, profiles_of}
use Rattle.spec_block.proofs.Given.{RunsAreUnique}
use Rattle.spec_execution.specs.Serial.{CallResult}
use Rattle.spec_block.specs.Blocks.{world_after}
use Rattle.spec_block.specs.Verdicts.{Verdict, Malformed, WrongWorld, WrongCalls, BadOrder, OverBudget, RoomLeft, BadTurns, Deviates, WrongEnd, Accept, place, IsLeast, IsBadNumber, HasRoom, HasOtherTurns, IsOther, HoldsOf, Holds, IsVerdictOf}
use Rattle.spec_block.proofs.OneToOne.{one_block}
use Rattle.spec_block.proofs.Runs.{serial_once}

one_least : (P : ℕ → Type 0) (m n : ℕ) → IsLeast P m → IsLeast P n → m ≡ n
one_least P m n a b =
    ⊎_elim (λ lt. absurd (b.none_before m lt a.holds))
    (λ ge. ⊎_elim (λ gt. absurd (a.none_before n gt b.holds)) (λ le. omega (arith, ge, le)) (cases_lt n m))
    (cases_lt m n)

module _ (unique : RunsAreUnique) (world : World) (calls : List Call) (fuel : ℕ) (bytes : List ℕ) where
  same : (v w : Verdict) → place v ≡ place w → Holds world calls fuel bytes v → Holds world calls fuel bytes w → v ≡ w
  same Malformed Malformed e a b = refl
  same Malformed WrongWorld e a b = absurd (omega (arith, e))
  same Malformed WrongCalls e a b = absurd (omega (arith, e))
  same Malformed (BadOrder n) e a b = absurd (omega (arith, e))
  same Malformed OverBudget e a b = absurd (omega (arith, e))
  same Malformed (RoomLeft n) e a b = absurd (omega (arith, e))
  same Malformed (BadTurns n) e a b = absurd (omega (arith, e))
  same Malformed (Deviates n) e a b = absurd (omega (arith, e))
  same Malformed WrongEnd e a b = absurd (omega (arith, e))
  same Malformed (Accept n) e a b = absurd (omega (arith, e))
  same WrongWorld Malformed e a b = absurd (omega (arith, e))
  same WrongWorld WrongWorld e a b = refl
  same WrongWorld WrongCalls e a b = absurd (omega (arith, e))
  same WrongWorld (BadOrder n) e a b = absurd (omega (arith, e))
  same WrongWorld OverBudget e a b = absurd (omega (arith, e))
  same WrongWorld (RoomLeft n) e a b = absurd (omega (arith, e))
  same WrongWorld (BadTurns n) e a b = absurd (omega (arith, e))
  same WrongWorld (Deviates n) e a b = absurd (omega (arith, e))
  same WrongWorld WrongEnd e a b = absurd (omega (arith, e))
  same WrongWorld (Accept n) e a b = absurd (omega (arith, e))
  same WrongCalls Malformed e a b = absurd (omega (arith, e))
  same WrongCalls WrongWorld e a b = absurd (omega (arith, e))
  same WrongCalls WrongCalls e a b = refl
  same WrongCalls (BadOrder n) e a b = absurd (omega (arith, e))
  same WrongCalls OverBudget e a b = absurd (omega (arith, e))
  same WrongCalls (RoomLeft n) e a b = absurd (omega (arith, e))
  same WrongCalls (BadTurns n) e a b = absurd (omega (arith, e))
  same WrongCalls (Deviates n) e a b = absurd (omega (arith, e))
  same WrongCalls WrongEnd e a b = absurd (omega (arith, e))
  same WrongCalls (Accept n) e a b = absurd (omega (arith, e))
  same (BadOrder m) Malformed e a b = absurd (omega (arith, e))
  same (BadOrder m) WrongWorld e a b = absurd (omega (arith, e))
  same (BadOrder m) WrongCalls e a b = absurd (omega (arith, e))
  same (BadOrder m) (BadOrder n) e a b = ap BadOrder (one_least (IsBadNumber calls (order_of b.0)) m n (subst (λ (c : Block). IsLeast (IsBadNumber calls (order_of c)) m) (one_block bytes a.0 b.0 a.1 b.1) a.2) b.2)
  same (BadOrder m) OverBudget e a b = absurd (omega (arith, e))
  same (BadOrder m) (RoomLeft n) e a b = absurd (omega (arith, e))
  same (BadOrder m) (BadTurns n) e a b = absurd (omega (arith, e))
  same (BadOrder m) (Deviates n) e a b = absurd (omega (arith, e))
  same (BadOrder m) WrongEnd e a b = absurd (omega (arith, e))
  same (BadOrder m) (Accept n) e a b = absurd (omega (arith, e))
  same OverBudget Malformed e a b = absurd (omega (arith, e))
  same OverBudget WrongWorld e a b = absurd (omega (arith, e))
  same OverBudget WrongCalls e a b = absurd (omega (arith, e))
  same OverBudget (BadOrder n) e a b = absurd (omega (arith, e))
  same OverBudget OverBudget e a b = refl
  same OverBudget (RoomLeft n) e a b = absurd (omega (arith, e))
  same OverBudget (BadTurns n) e a b = absurd (omega (arith, e))
  same OverBudget (Deviates n) e a b = absurd (omega (arith, e))
  same OverBudget WrongEnd e a b = absurd (omega (arith, e))
  same OverBudget (Accept n) e a b = absurd (omega (arith, e))
  same (RoomLeft m) Malformed e a b = absurd (omega (arith, e))
  same (RoomLeft m) WrongWorld e a b = absurd (omega (arith, e))
  same (RoomLeft m) WrongCalls e a b = absurd (omega (arith, e))
  same (RoomLeft m) (BadOrder n) e a b = absurd (omega (arith, e))
  same (RoomLeft m) OverBudget e a b = absurd (omega (arith, e))
  same (RoomLeft m) (RoomLeft n) e a b = ap RoomLeft (one_least (HasRoom calls fuel (order_of b.0)) m n (subst (λ (c : Block). IsLeast (HasRoom calls fuel (order_of c)) m) (one_block bytes a.0 b.0 a.1 b.1) a.2) b.2)
  same (RoomLeft m) (BadTurns n) e a b = absurd (omega (arith, e))
  same (RoomLeft m) (Deviates n) e a b = absurd (omega (arith, e))
  same (RoomLeft m) WrongEnd e a b = absurd (omega (arith, e))
  same (RoomLeft m) (Accept n) e a b = absurd (omega (arith, e))
  same (BadTurns m) Malformed e a b = absurd (omega (arith, e))
  same (BadTurns m) WrongWorld e a b = absurd (omega (arith, e))
  same (BadTurns m) WrongCalls e a b = absurd (omega (arith, e))
  same (BadTurns m) (BadOrder n) e a b = absurd (omega (arith, e))
  same (BadTurns m) OverBudget e a b = absurd (omega (arith, e))
  same (BadTurns m) (RoomLeft n) e a b = absurd (omega (arith, e))
  same (BadTurns m) (BadTurns n) e a b = ap BadTurns (one_least (HasOtherTurns (profiles_of b.0)) m n (subst (λ (c : Block). IsLeast (HasOtherTurns (profiles_of c)) m) (one_block bytes a.0 b.0 a.1 b.1) a.2) b.2)
  same (BadTurns m) (Deviates n) e a b = absurd (omega (arith, e))
  same (BadTurns m) WrongEnd e a b = absurd (omega (arith, e))
  same (BadTurns m) (Accept n) e a b = absurd (omega (arith, e))
  same (Deviates m) Malformed e a b = absurd (omega (arith, e))
  same (Deviates m) WrongWorld e a b = absurd (omega (arith, e))
  same (Deviates m) WrongCalls e a b = absurd (omega (arith, e))
  same (Deviates m) (BadOrder n) e a b = absurd (omega (arith, e))
  same (Deviates m) OverBudget e a b = absurd (omega (arith, e))
  same (Deviates m) (RoomLeft n) e a b = absurd (omega (arith, e))
  same (Deviates m) (BadTurns n) e a b = absurd (omega (arith, e))
  same (Deviates m) (Deviates n) e a b =
      let block = one_block bytes a.0 b.0 a.1 b.1 in
      let h = subst (λ (c : Block). HoldsOf world calls fuel c (Deviates m)) block a.2 in
      let k = b.2 in
      let run = serial_once unique b.0.version world calls (order_of b.0) world.cells h.0 k.0 h.1 k.1 h.2 k.2 in
      ap Deviates (one_least (IsOther (b.0).positions k.0) m n (subst (λ (r : List CallResult). IsLeast (IsOther (b.0).positions r) m) run.0 h.3) k.3)
  same (Deviates m) WrongEnd e a b = absurd (omega (arith, e))
  same (Deviates m) (Accept n) e a b = absurd (omega (arith, e))
  same WrongEnd Malformed e a b = absurd (omega (arith, e))
  same WrongEnd WrongWorld e a b = absurd (omega (arith, e))
  same WrongEnd WrongCalls e a b = absurd (omega (arith, e))
  same WrongEnd (BadOrder n) e a b = absurd (omega (arith, e))
  same WrongEnd OverBudget e a b = absurd (omega (arith, e))
  same WrongEnd (RoomLeft n) e a b = absurd (omega (arith, e))
  same WrongEnd (BadTurns n) e a b = absurd (omega (arith, e))
  same WrongEnd (Deviates n) e a b = absurd (omega (arith, e))
  same WrongEnd WrongEnd e a b = refl
  same WrongEnd (Accept n) e a b = absurd (omega (arith, e))
  same (Accept m) Malformed e a b = absurd (omega (arith, e))
  same (Accept m) WrongWorld e a b = absurd (omega (arith, e))
  same (Accept m) WrongCalls e a b = absurd (omega (arith, e))
  same (Accept m) (BadOrder n) e a b = absurd (omega (arith, e))
  same (Accept m) OverBudget e a b = absurd (omega (arith, e))
  same (Accept m) (RoomLeft n) e a b = absurd (omega (arith, e))
  same (Accept m) (BadTurns n) e a b = absurd (omega (arith, e))
  same (Accept m) (Deviates n) e a b = absurd (omega (arith, e))
  same (Accept m) WrongEnd e a b = absurd (omega (arith, e))
  same (Accept m) (Accept n) e a b =
      let block = one_block bytes a.0 b.0 a.1 b.1 in
      let h = subst (λ (c : Block). HoldsOf world calls fuel c (Accept m)) block a.2 in
      let k = b.2 in
      let run = serial_once unique b.0.version world calls (order_of b.0) world.cells h.0 k.0 h.1 k.1 h.2 k.2 in
      ap Accept (h.3 ∙ (ap (world_after world) run.1 ∙ sym k.3))

  pub one : (v w : Verdict) → IsVerdictOf world calls fuel bytes v → IsVerdictOf world calls fuel bytes w → v ≡ w
  one v w a b =
      ⊎_elim (λ lt. absurd (b.none_before v lt a.holds))
      (λ ge. ⊎_elim (λ gt. absurd (a.none_before w gt b.holds)) (λ le. same v w (omega (arith, ge, le)) a.holds b.holds) (cases_lt (place w) (place v)))
      (cases_lt (place v) (place w))

pub one_verdict : RunsAreUnique → (world : World) (calls : List Call) (fuel : ℕ) (bytes : List ℕ) (v w : Verdict) → IsVerdictOf world calls fuel bytes v → IsVerdictOf world calls fuel bytes w → v ≡ w
one_verdict unique world calls fuel bytes v w a b = one unique world calls fuel bytes v w a b
