-- A path takes at least what its positions weigh together.
use Rattle.std.proofs.Common.{◌≡◌, inl, inr, ℕ, ◌+◌, ◌≤◌, List, length, slice_index, sym, ◌∙◌, arith}
use Rattle.std.proofs.lemmas.Bool.{cases_lt}
use Rattle.std.proofs.lemmas.List.{get_or_past, length-map}
use Rattle.std.proofs.lemmas.Option.{slice_get_within}
use Rattle.spec_ledger.specs.declared.Entry.{Entry}
use Rattle.spec_block.specs.Worlds.{Block, Position, profiles_of}
use Rattle.spec_block.specs.Schedule.{HaveTurns, IsPath, here, along}
use Rattle.figures.specs.Chains.{path_weight, IsChain, fuels_of}
use Rattle.laws_blocks.specs.Timetables.{IsTimetable}
use Rattle.laws_blocks.proofs.Turns.{forward}
use Rattle.laws_blocks.proofs.Apart.{edge_apart}

module _ (profiles : List (List Entry)) (fuels : List ℕ) where
  -- past the positions there is no fuel
  outside : (n i j : ℕ) → length fuels ≡ length profiles → (p : IsPath profiles n i j) → length profiles ≤ j → path_weight profiles fuels n i j p ≡ 0
  outside _ _ _ size (here i) past = get_or_past fuels i 0 (omega (arith, size, past))
  outside _ _ _ size (along n i j k p e) past = absurd (let within = slice_get_within profiles k e.holds_second.profile e.holds_second.there in omega (arith, within, past))

  module _ (have : HaveTurns profiles) (starts : ℕ → ℕ) (ended : ℕ) (table : IsTimetable profiles fuels starts ended) where
    path_takes : (n i j : ℕ) (p : IsPath profiles n i j) → path_weight profiles fuels n i j p ≤ starts j + slice_index fuels j
    path_takes _ _ _ (here i) = omega arith
    path_takes _ _ _ (along n i j k p e) =
        let rest = path_takes n i j p in
        let later = table.waits j k (forward profiles have j k e) (edge_apart profiles have j k e) in
        omega (arith, rest, later)

    chain_takes : (fuel : ℕ) → length fuels ≡ length profiles → IsChain profiles fuels fuel → fuel ≤ ended
    chain_takes fuel size chain =
        let is = chain.reached in
        elim (cases_lt chain.to (length profiles)) [
          | inl lt ↦
              let takes = path_takes chain.edges chain.from chain.to chain.path in
              let done = table.done chain.to lt in
              omega (arith, is, takes, done)
          | inr past ↦ let none = outside chain.edges chain.from chain.to size chain.path past in omega (arith, is, none)
        ]

pub no_sooner : (block : Block) (fuel : ℕ) (starts : ℕ → ℕ) (ended : ℕ) → HaveTurns (profiles_of block) → IsChain (profiles_of block) (fuels_of block.positions) fuel → IsTimetable (profiles_of block) (fuels_of block.positions) starts ended
    → fuel ≤ ended
no_sooner block fuel starts ended have chain table =
    let size : length (fuels_of block.positions) ≡ length (profiles_of block) = length-map block.positions (λ (p : Position). p.receipt.used) ∙ sym (length-map block.positions (λ (p : Position). p.profile)) in
    chain_takes (profiles_of block) (fuels_of block.positions) have starts ended table fuel size chain
