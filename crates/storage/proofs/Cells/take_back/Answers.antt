use Rattle.storage.specs.Slots.{base_of, cells_in}
use Rattle.storage.proofs.Slots.{fewer_yet, AreCells-subtracted, AreCells-restored}
use Rattle.storage.proofs.Cells.take_back.Goals as goal

pub invariant_of-self : goal.invariant_of-self
invariant_of-self g c =
    record {
      below = c.close_slot.ensures.below;
      few = fewer_yet _ _ _ c.close_slot.ensures.few c.self.invariant.few;
      types = c.close_slot.ensures.types c.self.invariant.types;
      are = AreCells-subtracted (cells_in (base_of c.self.inside.base) c.self.inside.slots.entries) (cells_in (base_of c.self.inside.base) c.close_slot.new.slots.entries) c.in-Subtract.place _ c.counter_lock-lock.result c.close_slot.ensures.cells c.counter_lock-lock.ensures c.self.invariant.are;
    }

pub invariant_of-self-in-Restore : goal.invariant_of-self-in-Restore
invariant_of-self-in-Restore g c =
    record {
      below = c.close_slot-in-Restore.ensures.below;
      few = fewer_yet _ _ _ c.close_slot-in-Restore.ensures.few c.self.invariant.few;
      types = c.close_slot-in-Restore.ensures.types c.self.invariant.types;
      are = AreCells-restored (cells_in (base_of c.self.inside.base) c.self.inside.slots.entries) (cells_in (base_of c.self.inside.base) c.close_slot-in-Restore.new.slots.entries) c.in-Restore.place c.map_lock-lock.result _ c.close_slot-in-Restore.ensures.cells c.map_lock-lock.ensures c.self.invariant.are;
    }
