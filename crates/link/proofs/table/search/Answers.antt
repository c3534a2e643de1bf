use Rattle.std.proofs.Common.{◌≡◌, ◌+◌, ◌-◌, ◌/◌, ◌<◌, Some, length, slice_index_or, subst, sym, inl, inr, arith}
use Rattle.std.proofs.lemmas.Bool.{cases_lt}
use Rattle.std.proofs.lemmas.Option.{slice_get-get_or}
use Rattle.link.specs.declared.table.Filled.{Filled}
use Rattle.link.specs.Table.{held}
use Rattle.link.proofs.Filling.{found, in_order, nowhere}
use Rattle.link.proofs.table.search.Goals as goal

pub returns-then-there-element : goal.returns-then-there-element
returns-then-there-element c =
    let fs = c.args.filled.now in
    let d : Filled = record { element = 0; func = 0 } in
    let k = c.loop-low.low + (c.loop-low.high - c.loop-low.low) / 2 in
    let f = slice_index_or fs k d in
    let lt : k < length fs = omega (arith, c.loop-low.invariant.there, c.loop-low-test.true) in
    let same : f.element ≡ c.args.element = c.if-there-element.true in
    sym (subst (λ e. held fs e ≡ Some f.func) same (found 0 fs k f c.requires (slice_get-get_or fs k d lt)))

pub loop-low-preserved-then-there-element-2 : goal.loop-low-preserved-then-there-element-2
loop-low-preserved-then-there-element-2 c =
    let fs = c.args.filled.now in
    let d : Filled = record { element = 0; func = 0 } in
    let m = c.loop-low.low + (c.loop-low.high - c.loop-low.low) / 2 in
    let there = slice_index_or fs m d in
    let lt : m < length fs = omega (arith, c.loop-low.invariant.there, c.loop-low-test.true) in
    let less : there.element < c.args.element = c.if-there-element-2.true in
    record {
      order = omega (arith, c.loop-low-test.true);
      there = c.loop-low.invariant.there;
      before = λ k f below is. omega (arith, in_order 0 fs k m f there c.requires is (slice_get-get_or fs m d lt) (omega (arith, below)), less);
      behind = c.loop-low.invariant.behind;
    }

pub loop-low-preserved : goal.loop-low-preserved
loop-low-preserved c =
    let fs = c.args.filled.now in
    let d : Filled = record { element = 0; func = 0 } in
    let m = c.loop-low.low + (c.loop-low.high - c.loop-low.low) / 2 in
    let there = slice_index_or fs m d in
    let lt : m < length fs = omega (arith, c.loop-low.invariant.there, c.loop-low-test.true) in
    let more : c.args.element < there.element = omega (arith, c.if-there-element.false, c.if-there-element-2.false) in
    record {
      order = omega (arith, c.loop-low.invariant.order);
      there = omega (arith, lt);
      before = c.loop-low.invariant.before;
      behind = λ k f above is. omega (arith, in_order 0 fs m k there f c.requires (slice_get-get_or fs m d lt) is above, more);
    }

pub returns : goal.returns
returns c =
    let fs = c.args.filled.now in
    sym (nowhere fs c.args.element (λ k f is same. elim (cases_lt k c.loop-low.low) [
      | inl l ↦ omega (arith, c.loop-low.invariant.before k f l is, same)
      | inr l ↦ omega (arith, c.loop-low.invariant.behind k f (omega (arith, l, c.loop-low-test.false)) is, same)
    ]))
