use Rattle.std.proofs.Common.{◌≡◌, Ok, refl, ap, sym}
use Rattle.records.specs.declared.fault.Fault.{Fault}
use Rattle.records.specs.declared.fault.Fault.TheVariants.{Malformed, TooLarge, NoMemory}
use Rattle.records.specs.Reading.{Fails}
use Rattle.records.proofs.Steps.{ok_is}
use Rattle.std.specs.FinMap.{entries}
use Rattle.spec_block.specs.Bytes.{is_map, is_counter}
use Rattle.world.proofs.Storing.{these, lists_of}
use Rattle.world.proofs.cells.read_cells.Goals as goal

-- a fault of what does not fail is out of memory
only_memory : {X : Type 0} (f : Fault) (x : X) → Fails f (Ok x) → f ≡ NoMemory
only_memory (Malformed left) x h = absurd cc
only_memory TooLarge x h = absurd cc
only_memory NoMemory x h = refl

pub returns-in-Err-clause-only : goal.returns-in-Err-clause-only
returns-in-Err-clause-only g c = λ cells rest are is.
    only_memory c.in-Err.fault ((these is_map (entries cells), these is_counter (entries cells)), rest) (c.in-Err.ensures.only (these is_map (entries cells), these is_counter (entries cells)) rest (lists_of cells are.each are.size) is)

pub returns-in-Ok-store_of-clause-only : goal.returns-in-Ok-store_of-clause-only
returns-in-Ok-store_of-clause-only g c = λ cells rest are is.
    sym (ap (λ x. x.1) (ok_is _ _ (c.in-Ok.ensures.only (these is_map (entries cells), these is_counter (entries cells)) rest (lists_of cells are.each are.size) is)))
