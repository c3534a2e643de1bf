use Rattle.std.proofs.Common.{◌≡◌, map, take}
use Rattle.interp_state.specs.Views.{open_of}
use Rattle.interp_state.specs.Copies.{codes_of}
use Rattle.interp_state.proofs.copies.copy_entries.Given as goal

abbrev pub invariant-loop-entry : goal.invariant-loop-entry
invariant-loop-entry g l = record { opens : map open_of l.copies.items ≡ map open_of (take l.entry-index l.entries); code : codes_of l.copies.items ≡ codes_of (take l.entry-index l.entries) }
