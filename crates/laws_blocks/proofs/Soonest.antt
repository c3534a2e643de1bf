-- Where each position starts as soon as it may, all have ended when the longest chain has.
use Rattle.std.proofs.Common.{◌≡◌, ℕ, ◌+◌, ◌-◌, ◌<◌, ◌≤◌, List, Option, Some, IfSome, slice_index, subst, arith}
use Rattle.spec_ledger.specs.declared.Entry.{Entry}
use Rattle.spec_block.specs.Schedule.{HaveTurns, IsEdge, IsPath, here, along}
use Rattle.spec_block.specs.Verdicts.{IsLeast}
use Rattle.spec_block.specs.Worlds.{Block, profiles_of}
use Rattle.spec_block.proofs.Paths.{paths_join}
use Rattle.figures.specs.Chains.{fuels_of, IsChain}
use Rattle.figures.specs.Figures.{AreChains, AreFigures}
use Rattle.figures.specs.declared.figures.Chains.{Chains}
use Rattle.figures.specs.declared.figures.Figures.{Figures}
use Rattle.laws_blocks.specs.Timetables.{CanEnd, IsTimetable}
use Rattle.laws_blocks.proofs.Turns.{forward}
use Rattle.laws_blocks.proofs.Heaviest.{heaviest}
use Rattle.laws_blocks.proofs.Times.{no_sooner}

module _ (profiles : List (List Entry)) (fuels : List ℕ) (have : HaveTurns profiles) where
  -- when a position ends
  abbrev end_of : ℕ → ℕ
  end_of i = (heaviest profiles fuels (forward profiles have) i).0

  own : (i : ℕ) → slice_index fuels i ≤ end_of i
  own i = (heaviest profiles fuels (forward profiles have) i).1.most 0 i (here i)

  step : (i j : ℕ) → IsEdge profiles i j → end_of i + slice_index fuels j ≤ end_of j
  step i j e =
      let a = (heaviest profiles fuels (forward profiles have) i).1 in
      let is = a.reached in
      let most = (heaviest profiles fuels (forward profiles have) j).1.most (a.edges + 1) a.from (along a.edges a.from i j a.path e) in
      omega (arith, is, most)

  climbs : (n i j : ℕ) → IsPath profiles n i j → end_of i ≤ end_of j
  climbs _ _ _ (here i) = omega arith
  climbs _ _ _ (along n i j k p e) = let rest = climbs n i j p in let last = step j k e in omega (arith, rest, last)

  behind : (n i j : ℕ) → IsPath profiles n i j → 0 < n → end_of i + slice_index fuels j ≤ end_of j
  behind _ _ _ (here i) lt = absurd (omega (arith, lt))
  behind _ _ _ (along n i j k p e) lt = let rest = climbs n i j p in let last = step j k e in omega (arith, rest, last)

  soonest : (fuel : ℕ) → IsChain profiles fuels fuel → IsTimetable profiles fuels (λ i. end_of i - slice_index fuels i) fuel
  soonest fuel chain = record {
    waits = λ i j lt apart.
        let path = paths_join profiles have i j lt apart in
        let later = behind (path.0 + 1) i j path.1 (omega arith) in
        let a = own i in
        let b = own j in
        omega (arith, later, a, b);
    done = λ i lt.
        let h = (heaviest profiles fuels (forward profiles have) i).1 in
        let is = h.reached in
        let most = chain.most h.edges h.from i h.path in
        let a = own i in
        omega (arith, is, most, a);
  }

pub least : (block : Block) (fuel : ℕ) → HaveTurns (profiles_of block) → IsChain (profiles_of block) (fuels_of block.positions) fuel → IsLeast (CanEnd (profiles_of block) (fuels_of block.positions)) fuel
least block fuel have chain = record {
  holds = (_, soonest (profiles_of block) (fuels_of block.positions) have fuel chain);
  none_before = λ m less can. let le = no_sooner block fuel can.0 m have chain can.1 in omega (arith, less, le);
}

pub least_of_figures : (block : Block) → HaveTurns (profiles_of block) → (f : Figures) → AreFigures block f → (chains : Chains) → f.chains ≡ Some chains
    → IsLeast (CanEnd (profiles_of block) (fuels_of block.positions)) chains.chain_fuel
least_of_figures block have f are chains is =
    let their : AreChains (profiles_of block) (fuels_of block.positions) chains = subst (λ (o : Option Chains). IfSome o (AreChains (profiles_of block) (fuels_of block.positions))) is are.chains in
    least block chains.chain_fuel have their.fuel
