use Rattle.std.proofs.Common.{◌≡◌, ◌-◌, ◌≤◌, true, map, length}
use Rattle.laws_modules.specs.ReadingExpressions.{items_at}
use Rattle.std.specs.List.{list_all}
use Rattle.expr_reader.proofs.Steps.{front}
use Rattle.loader.proofs.vectors.items_of.Given as goal

abbrev pub invariant-loop-i : goal.invariant-loop-i
invariant-loop-i g l =
    (front (map g.R.Reader.view l.found.items) (items_at (g.R.Reader.reading l.reader) (l.count - l._i) l.rest) ≡ items_at (g.R.Reader.reading l.reader) l.count l.bytes)
    × (length l.rest ≤ length l.bytes) × (list_all g.R.Reader.is_numbered l.found.items ≡ true)
