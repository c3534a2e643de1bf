use Rattle.std.proofs.Common.{◌≡◌, ◌∙◌, None, ap, sym}
use Rattle.spec_ledger.specs.Cells.{set_at, AreOfTheirTypes}
use Rattle.storage.specs.Slots.{base_of, cells_in, counts_in}
use Rattle.storage.proofs.Slots.{same_store, on_any_err, fits_set, fewer_yet, none_emptied, types_written, AreCells-set}
use Rattle.storage.proofs.Cells.set.Goals as goal

pub invariant_of-self : goal.invariant_of-self
invariant_of-self g c =
    let base = base_of c.self.inside.base in
    let old = c.self.inside.slots.entries in
    let new = c.drop_slot.new.slots.entries in
    let none : cells_in base new ≡ set_at (cells_in base old) c.args.lock None =
    c.drop_slot.ensures.cells base ∙ ap (set_at (cells_in base old) c.args.lock) (sym (c.is_needless.ensures.cell c.if-is_needless.true) ∙ c.is_needless.ensures.none c.if-is_needless.true) in
    record {
      are = AreCells-set (cells_in base old) (cells_in base new) c.args.lock None none (λ _ no. cc) (λ v no. cc) c.self.invariant.are;
      types = types_written (cells_in base old) (cells_in base new) c.args.lock None none (λ v no. cc) c.self.invariant.types;
      below = none_emptied (counts_in c.self.inside.top old) (counts_in c.self.inside.top new) c.args.lock (c.drop_slot.ensures.counts c.self.inside.top) c.self.invariant.below;
      few = fewer_yet _ _ _ c.drop_slot.ensures.few c.self.invariant.few;
    }

pub returns-then-is_needless-clause-cells : goal.returns-then-is_needless-clause-cells
returns-then-is_needless-clause-cells g c =
    let base = base_of c.self.inside.base in
    c.drop_slot.ensures.cells base
    ∙ ap (set_at (cells_in base c.self.inside.slots.entries) c.args.lock) (sym (c.is_needless.ensures.cell c.if-is_needless.true))
    ∙ ap (λ s. set_at s.cells c.args.lock c.args.cell) c.self.view_is

pub returns-then-is_needless-clause-settled : goal.returns-then-is_needless-clause-settled
returns-then-is_needless-clause-settled g c =
    none_emptied (counts_in c.self.inside.floor c.self.inside.slots.entries) (counts_in c.self.inside.floor c.drop_slot.new.slots.entries) c.args.lock (c.drop_slot.ensures.counts c.self.inside.floor) (ap (λ s. s.unsettled) c.self.view_is ∙ c.requires.settled)

pub returns-in_err-fill_slot-clause-settled : goal.returns-in_err-fill_slot-clause-settled
returns-in_err-fill_slot-clause-settled g c = c.in_err-fill_slot.ensures.counts_at_err c.self.inside.floor ∙ ap (λ s. s.unsettled) c.self.view_is ∙ c.requires.settled

pub returns-in_err-fill_slot-clause-err : goal.returns-in_err-fill_slot-clause-err
returns-in_err-fill_slot-clause-err g c = on_any_err c.from_residual.result (same_store _ _ _ _ c.in_err-fill_slot.ensures.cells_at_err (c.in_err-fill_slot.ensures.counts_at_err c.self.inside.floor) ∙ c.self.view_is)

pub invariant_of-self-2 : goal.invariant_of-self-2
invariant_of-self-2 g c =
    let old = cells_in (base_of c.self.inside.base) c.self.inside.slots.entries in
    let new = cells_in (base_of c.self.inside.base) c.fill_slot.new.slots.entries in
    let types : AreOfTheirTypes new = c.in_ok-fill_slot.ensures.types c.self.invariant.types in
    record {
      are = AreCells-set old new c.args.lock c.args.cell c.in_ok-fill_slot.ensures.cells c.requires.counter (fits_set old new c.args.lock c.args.cell c.in_ok-fill_slot.ensures.cells types) c.self.invariant.are;
      types = types;
      below = c.in_ok-fill_slot.ensures.counts c.self.inside.top ∙ c.self.invariant.below;
      few = c.in_ok-fill_slot.ensures.few c.self.invariant.few;
    }

pub returns-clause-cells : goal.returns-clause-cells
returns-clause-cells g c = c.in_ok-fill_slot.ensures.cells ∙ ap (λ s. set_at s.cells c.args.lock c.args.cell) c.self.view_is

pub returns-clause-settled : goal.returns-clause-settled
returns-clause-settled g c = c.in_ok-fill_slot.ensures.counts c.self.inside.floor ∙ ap (λ s. s.unsettled) c.self.view_is ∙ c.requires.settled
