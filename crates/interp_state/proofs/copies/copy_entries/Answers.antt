use Rattle.interp_state.specs.Views.{open_of}
use Rattle.interp_state.proofs.Copying.{copied_more}
use Rattle.interp_state.proofs.copies.copy_entries.Goals as goal

pub loop-entry-preserved : goal.loop-entry-preserved
loop-entry-preserved g c =
    let copies = c.loop-entry.copies.items in
    let new = c.push.new.self.items in
    let entries = c.args.entries.now in
    record {
      opens = copied_more open_of copies new entries c.in_ok-copy_entry.field-0 c.entry-item.result c.loop-entry.entry-index c.loop-entry-test.true c.in_ok-push.ensures.items c.entry-item.is c.in_ok-copy_entry.ensures.open c.loop-entry.invariant.opens;
      code = copied_more (λ e. e.from.now) copies new entries c.in_ok-copy_entry.field-0 c.entry-item.result c.loop-entry.entry-index c.loop-entry-test.true c.in_ok-push.ensures.items c.entry-item.is c.in_ok-copy_entry.ensures.code c.loop-entry.invariant.code;
    }
