use Rattle.std.proofs.Common.{◌≡◌, ℕ, List, ◌++◌, length, ap, ◌∙◌}
use Rattle.std.specs.Int.{w64, to_le_bytes}
use Rattle.std.specs.FinMap.{entries}
use Rattle.std.specs.List.{filter, flat_map}
use Rattle.spec_ledger.specs.declared.Kind.TheVariants.{Map, Counter}
use Rattle.spec_block.specs.Bytes.{cell_bytes, cells_bytes, is_map, is_counter}
use Rattle.world.specs.Views.{is_cell_of}
use Rattle.world.proofs.WorldBytes.{then}
use Rattle.world.proofs.write.append_storage.Goals as goal

pub returns : goal.returns
returns g c =
    let cells = c.args.cells.now.cells in
    let maps = filter (is_cell_of Map) (entries cells) in
    let counters = filter (is_cell_of Counter) (entries cells) in
    let old : List ℕ = c.args.out.now.items in
    let room : List ℕ = c.reserve.new.self.items in
    let one : List ℕ = c.append_u64.new.out.items in
    let two : List ℕ = c.append_cells.new.out.items in
    let three : List ℕ = c.append_u64-2.new.out.items in
    let four : List ℕ = c.append_cells-2.new.out.items in
    let first : one ≡ old ++ to_le_bytes w64 (length maps) =
    c.in_ok-append_u64.ensures.bytes ∙ (ap (λ (l : List ℕ). l ++ to_le_bytes w64 c.counts_of-maps.result.0) c.reserve.ensures.items ∙ ap (λ (n : ℕ). old ++ to_le_bytes w64 n) c.counts_of-maps.ensures.maps) in
    let second : two ≡ old ++ cells_bytes is_map cells = then old one two (to_le_bytes w64 (length maps)) (flat_map cell_bytes maps) first c.in_ok-append_cells.ensures in
    let third : three ≡ two ++ to_le_bytes w64 (length counters) = c.in_ok-append_u64-2.ensures.bytes ∙ ap (λ (n : ℕ). two ++ to_le_bytes w64 n) c.counts_of-maps.ensures.counters in
    let fourth : four ≡ two ++ cells_bytes is_counter cells = then two three four (to_le_bytes w64 (length counters)) (flat_map cell_bytes counters) third c.in_ok-append_cells-2.ensures in
    fourth ∙ ap (λ (l : List ℕ). l ++ cells_bytes is_counter cells) second
