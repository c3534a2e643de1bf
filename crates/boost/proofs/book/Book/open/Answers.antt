use Rattle.std.proofs.Common.{arith}
use Rattle.boost.proofs.Opening.{IsBook-opened}
use Rattle.boost.proofs.book.Book.open.Goals as goal

pub returns-clause-begun : goal.returns-clause-begun
returns-clause-begun g c = c.in-Ok.ensures.items_if_clones_equal (λ y is. is)

pub invariant_of-result : goal.invariant_of-result
invariant_of-result g c = (
  IsBook-opened _ c.in_ok-cells.cells.unsettled c.in_ok-locks.locks c.in-Ok-vec.standings.items c.args.calls c.use_invariant.ensures.cells c.ranges.calls.fits
      (λ i. record { opening = c.args.opening.cells; now = c.in_ok-cells.ensures.cells i; entries = c.new.ensures.items i; attempts = c.new-2.ensures.items i; begun = c.in-Ok.ensures.items_if_clones_equal (λ y is. is) i })
      c.in_ok-cells.ensures.unsettled c.in_ok-locks.ensures (c.in-Ok-vec.ensures.items_if_clones_equal (λ y is. is)),
  omega (arith, c.new.ensures.len, c.new-2.ensures.len, c.new.ensures.capacity),
)
