-- The block of an order is one, given that the order has one serial run.
use Rattle.std.proofs.Common.{◌≡◌, ℕ, List, sym, ap, subst, ◌∙◌}
use Rattle.spec_ledger.specs.declared.Version.{Version}
use Rattle.spec_ledger.specs.Cells.{Cells}
use Rattle.spec_execution.specs.Serial.{CallResult}
use Rattle.spec_block.specs.Worlds.{Block, Call, World, order_of}
use Rattle.spec_block.specs.Serial.{Serial}
use Rattle.spec_block.specs.Blocks.{IsBlockOf, all_touched, block_of, world_after}
use Rattle.spec_block.specs.Headline.{Headline}
use Rattle.spec_block.proofs.Positions.{order_again}
use Rattle.spec_block.proofs.Runs.{as_many}

abbrev pub OneRun : Type 0
OneRun = (version : Version) (world : World) (calls : List Call) (order : List ℕ) (cells : Cells) (rs ss : List CallResult) (l m : Cells)
    → Serial version world calls order cells rs l → Serial version world calls order cells ss m → (rs ≡ ss) × (l ≡ m)

module _ (world : World) (calls : List Call) where
  -- a block tells of the order that it is of
  order_is : (order : List ℕ) (block : Block) → IsBlockOf world calls order block → order_of block ≡ order
  order_is order block of_order =
      ap order_of of_order.is ∙ order_again (all_touched of_order.ran) 0 order of_order.ran (as_many block.version world calls order world.cells of_order.ran of_order.last of_order.serial)

  module _ (one : OneRun) (order other : List ℕ) (b c : Block) (version : b.version ≡ c.version) (same : order_of b ≡ order_of c) (of_b : IsBlockOf world calls order b) (of_c : IsBlockOf world calls other c) where
    orders : order ≡ other
    orders = sym (order_is order b of_b) ∙ same ∙ order_is other c of_c

    moved : Serial b.version world calls order world.cells of_c.ran of_c.last
    moved =
        subst (λ (v : Version). Serial v world calls order world.cells of_c.ran of_c.last) (sym version)
        (subst (λ (o : List ℕ). Serial c.version world calls o world.cells of_c.ran of_c.last) (sym orders) of_c.serial)

    runs : (of_b.ran ≡ of_c.ran) × (of_b.last ≡ of_c.last)
    runs = one b.version world calls order world.cells of_b.ran of_c.ran of_b.last of_c.last of_b.serial moved

    same_block : b ≡ c
    same_block = of_b.is ∙ (λ i. block_of (version i) world calls (orders i) (runs.0 i) (runs.1 i)) ∙ sym of_c.is

    same_cells : of_b.last ≡ of_c.last
    same_cells = runs.1

module _ (one : OneRun) (world : World) (calls : List Call) (fuel : ℕ) (b c : Block) (after_b after_c : World) (version : b.version ≡ c.version) (same : order_of b ≡ order_of c)
    (first : Headline world calls fuel b after_b) (second : Headline world calls fuel c after_c) where
  pub one_block : b ≡ c
  one_block = same_block world calls one first.order second.order b c version same first.of_order second.of_order

  pub one_next : after_b ≡ after_c
  one_next = first.storage ∙ ap (world_after world) (same_cells world calls one first.order second.order b c version same first.of_order second.of_order) ∙ sym second.storage
