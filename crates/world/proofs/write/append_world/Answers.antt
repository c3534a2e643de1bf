use Rattle.std.proofs.Common.{ℕ, List, ◌++◌, [], ◌∷◌, refl, ap, ◌∙◌}
use Rattle.std.specs.Int.{w32, to_le_bytes}
use Rattle.spec_block.specs.Worlds.{Contract}
use Rattle.spec_ledger.specs.Cells.{Cells}
use Rattle.spec_block.specs.Bytes.{counted, contract_bytes, cells_bytes, is_map, is_counter}
use Rattle.world.specs.Views.{world_view}
use Rattle.world.proofs.WorldBytes.{then}
use Rattle.world.proofs.write.append_world.Goals as goal

pub returns : goal.returns
returns g c =
    let w = world_view c.args.world.now in
    let out = c.args.out.now.items in
    let one = c.append_u32.new.out.items in
    let two = c.append_u32-2.new.out.items in
    let three = c.append_contracts.new.out.items in
    let four = c.append_storage.new.out.items in
    let magic : List ℕ = 0x57 ∷ 0x42 ∷ 0x57 ∷ 0x44 ∷ [] in
    let version : List ℕ = to_le_bytes w32 1 in
    let contracts : List ℕ = counted contract_bytes w.contracts in
    let maps : List ℕ = cells_bytes is_map w.cells in
    let counters : List ℕ = cells_bytes is_counter w.cells in
    then out (three ++ maps) four (magic ++ version ++ contracts ++ maps) counters
    (then out three (three ++ maps) (magic ++ version ++ contracts) maps
    (then out two three (magic ++ version) contracts
    (then out one two magic version c.in_ok-append_u32.ensures.bytes c.in_ok-append_u32-2.ensures.bytes)
    (c.in_ok-append_contracts.ensures ∙ ap (λ (cs : List Contract). two ++ counted contract_bytes cs) c.contracts.ensures.contracts))
    refl)
    (c.in_ok-append_storage.ensures ∙ ap (λ (cells : Cells). three ++ cells_bytes is_map cells ++ cells_bytes is_counter cells) c.cells.ensures)
