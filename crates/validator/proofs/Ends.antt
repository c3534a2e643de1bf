-- The last two reasons, and acceptance.
use Rattle.std.proofs.Common.{◌≡◌, ◌⊎◌, ℕ, ◌<◌, ◌≤◌, Bool, IsTrue, List, false, true, refl, subst, ⊎_elim, arith, ◌≢◌}
use Rattle.std.specs.Prelude.{not}
use Rattle.sha2.specs.Sha256.{sha256}
use Rattle.spec_ledger.specs.declared.Receipt.{Receipt}
use Rattle.spec_ledger.specs.declared.Version.{Version}
use Rattle.spec_ledger.specs.Cells.{Cells}
use Rattle.spec_ledger.specs.Modes.{Modes}
use Rattle.serial.specs.Positions.{results_of}
use Rattle.spec_execution.specs.Serial.{CallResult}
use Rattle.spec_block.specs.Worlds.{Call, World, Block, Position, order_of}
use Rattle.spec_block.specs.Bytes.{world_bytes}
use Rattle.spec_block.specs.Blocks.{fuel_of, world_after}
use Rattle.spec_block.specs.Serial.{Serial}
use Rattle.spec_block.specs.Verdicts.{Malformed, WrongWorld, WrongCalls, BadOrder, OverBudget, RoomLeft, BadTurns, Deviates, WrongEnd, Accept, IsLeast, IsOther, RunOf, HoldsOf}
use Rattle.block_judge.specs.Judging.{IsFirstFrom, NoneFrom}

module _ (one : (version : Version) (world : World) (calls : List Call) (order : List ℕ) (cells : Cells) (rs ss : List CallResult) (l m : Cells) → Serial version world calls order cells rs l → Serial version world calls order cells ss m → (rs ≡ ss) × (l ≡ m))
    (world : World) (b : Block) (ran : List CallResult) (last : Cells) (calls : List Call) (fuel : ℕ) (run : RunOf world calls b ran last) where
  pub deviates : (p : ℕ) → IsLeast (IsOther b.positions ran) p → IsFirstFrom (HoldsOf world calls fuel b) 8 (Deviates p)
  deviates p least = record { holds = (ran, last, run, least); within = omega arith; none_before = λ v from before. absurd (omega (arith, from, before)) }

  module _ (alike : (p : ℕ) → ¬ (IsOther b.positions ran p)) where
    none_deviates : (n : ℕ) → n ≤ 10 → (9 < n → ¬ (HoldsOf world calls fuel b WrongEnd)) → NoneFrom (HoldsOf world calls fuel b) 8 n
    none_deviates n le end Malformed from before h = absurd (omega (arith, from))
    none_deviates n le end WrongWorld from before h = absurd (omega (arith, from))
    none_deviates n le end WrongCalls from before h = absurd (omega (arith, from))
    none_deviates n le end (BadOrder p) from before h = absurd (omega (arith, from))
    none_deviates n le end OverBudget from before h = absurd (omega (arith, from))
    none_deviates n le end (RoomLeft c) from before h = absurd (omega (arith, from))
    none_deviates n le end (BadTurns p) from before h = absurd (omega (arith, from))
    none_deviates n le end (Deviates p) from before h = alike p (subst (λ (rs : List CallResult). IsOther b.positions rs p) (one b.version world calls (order_of b) world.cells h.0 ran h.1 last h.2 run).0 (h.3).holds)
    none_deviates n le end WrongEnd from before h = end before h
    none_deviates n le end (Accept w) from before h = absurd (omega (arith, before, le))

    pub wrong_end : (b.fuel ≢ fuel_of ran) ⊎ (b.after ≢ sha256 (world_bytes (world_after world last))) → IsFirstFrom (HoldsOf world calls fuel b) 8 WrongEnd
    wrong_end other = record { holds = (ran, last, run, other); within = omega arith; none_before = none_deviates 9 (omega arith) (λ no. absurd (omega (arith, no))) }

    module _ (total : b.fuel ≡ fuel_of ran) (after : b.after ≡ sha256 (world_bytes (world_after world last))) where
      right_end : ¬ (HoldsOf world calls fuel b WrongEnd)
      right_end h =
          let same = one b.version world calls (order_of b) world.cells ran h.0 last h.1 run h.2 in
          ⊎_elim (λ ne. ne (subst (λ (rs : List CallResult). b.fuel ≡ fuel_of rs) same.0 total))
          (λ ne. ne (subst (λ (c : Cells). b.after ≡ sha256 (world_bytes (world_after world c))) same.1 after)) h.3

      pub accepted : (next : World) → next ≡ world_after world last → IsFirstFrom (HoldsOf world calls fuel b) 8 (Accept next)
      accepted next is = record { holds = (ran, last, run, is); within = omega arith; none_before = none_deviates 10 (omega arith) (λ _. right_end) }

-- what was found of the lists that were lent
pub shown : (P : List Position → List CallResult → Type 0) (xs ys : List Position) (rs ss : List Receipt) (ms ns : List Modes) → xs ≡ ys → rs ≡ ss → ms ≡ ns → P xs (results_of rs ms) → P ys (results_of ss ns)
shown P xs ys rs ss ms ns a b c p = subst (λ (t : List Position × (List Receipt × List Modes)). P t.0 (results_of t.1.0 t.1.1)) (λ k. (a k, (b k, c k))) p

-- a condition that is turned about
pub is_so : (b : Bool) → not b ≡ false → IsTrue b
is_so true h = refl
is_so false h = absurd (cc)

pub is_not_so : (b : Bool) → not b ≡ true → ¬ (IsTrue b)
is_not_so true h so = absurd (cc)
is_not_so false h so = absurd (cc)
