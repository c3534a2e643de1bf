use Rattle.std.proofs.Common.{◌≡◌, ℕ, length, sym, ap, ap₂, ◌∙◌}
use Rattle.std.proofs.lemmas.List.{length-map}
use Rattle.std.specs.FinMap.{entries}
use Rattle.spec_ledger.specs.declared.Kind.TheVariants.{Map, Counter}
use Rattle.world.specs.Views.{contract_view, world_view}
use Rattle.wblock_contents.specs.Lines.{numbered}
use Rattle.wblock_contents.specs.WorldText.{contract_text, cells_text, counts_line, digest_line}
use Rattle.wblock_contents.proofs.Lines.{five}
use Rattle.wblock_contents.proofs.worlds.world_text_of.Goals as goal

pub returns : goal.returns
returns c =
    let w = world_view c.args.world.now in
    let contracts : length c.contracts.result.now ≡ length w.contracts = sym (length-map c.contracts.result.now contract_view) ∙ ap length c.contracts.ensures.contracts in
    let cells : c.len.result ≡ length (entries w.cells) = c.len.ensures ∙ (c.in_ok-cells.cells.ok.0 ∙ ap length (c.in_ok-cells.ensures ∙ ap entries c.cells.ensures)) in
    c.in_ok-text.ensures.ok
    ∙ five
    (c.in_ok-counts.ensures ∙ ap₂ (λ (m n : ℕ). counts_line m n) contracts cells)
    (c.in_ok-digest.ensures ∙ ap digest_line c.requires)
    (c.in_ok-contracts.ensures ∙ ap (numbered contract_text 0) c.contracts-2.ensures.contracts)
    (c.in_ok-maps.ensures ∙ ap (cells_text c.args.signed Map) c.cells-2.ensures)
    (c.in_ok-counters.ensures ∙ ap (cells_text c.args.signed Counter) c.cells-3.ensures)
