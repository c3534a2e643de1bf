use Rattle.std.proofs.Common.{◌≡◌, map, drop}
use Rattle.text_body.specs.Views.{index_of}
use Rattle.text_resolve.specs.Lookup.{stands_at, all_stand_at}
use Rattle.text_resolve.proofs.Lookups.{front}
use Rattle.text_resolve.proofs.indices.indices_in.Given as goal

abbrev pub invariant-loop-index : goal.invariant-loop-index
invariant-loop-index g l =
    let one = stands_at (g.N.Finds.names l.names) in
    all_stand_at one (map index_of l.indices.items) ≡ front l.numbers.items (all_stand_at one (map index_of (drop l.index-index l.indices.items)))
