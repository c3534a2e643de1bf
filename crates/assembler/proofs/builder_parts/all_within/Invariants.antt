use Rattle.std.proofs.Common.{◌≡◌, drop}
use Rattle.std.specs.List.{list_all}
use Rattle.assembler.proofs.builder_parts.all_within.Given as goal

abbrev pub invariant-loop-part : goal.invariant-loop-part
invariant-loop-part g l = list_all g.T.Part.fits (drop l.part-index l.parts.items) ≡ list_all g.T.Part.fits l.parts.items
