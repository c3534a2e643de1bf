use Rattle.std.proofs.Common.{◌≡◌, map, drop}
use Rattle.text_body.specs.Views.{text_of}
use Rattle.text_resolve.specs.Lookup.{is_name, find, first_at}
use Rattle.text_resolve.proofs.Lookups.{shifted}
use Rattle.text_resolve.proofs.labels.LabelsFinds.find.Given as goal

abbrev pub invariant-loop-label : goal.invariant-loop-label
invariant-loop-label g l =
    (l.next ≡ l.label-index) × (find l.piece.text.now (map text_of l.self.open.items) ≡ shifted l.next (first_at (is_name l.piece.text.now) (map text_of (drop l.label-index l.self.open.items))))
