use Rattle.std.proofs.Common.{◌≡◌, ℕ, List, map, take}
use Rattle.spec_text.specs.Spaces.{AreDistinct}
use Rattle.text_body.specs.Views.{text_of}
use Rattle.text_resolve.specs.Lookup.{find}
use Rattle.text_resolve.specs.Firsts.{first_of}
use Rattle.text_resolve.proofs.space.firsts_of.Given as goal

abbrev pub invariant-loop-name : goal.invariant-loop-name
invariant-loop-name g l =
    (l.next ≡ l.name-index) × ((id : List ℕ) → first_of l.firsts id ≡ find id (map text_of (take l.name-index l.names.items))) × AreDistinct (map text_of (take l.name-index l.names.items))
