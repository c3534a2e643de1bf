use Rattle.std.proofs.Common.{sym, ◌∙◌}
use Rattle.debugger.proofs.Undoing.{left_none, kept, kept_last, dropped, none_of, on_both}
use Rattle.debugger.proofs.undo.leave.Goals as goal

pub returns-in_default : goal.returns-in_default
returns-in_default g c = λ p h.
    let was = c.args.undo.now in
    left_none was.inverses.items was.marks.items c.pop.new.self.items c.args.cells.now.cells p c.args.keep h was.marks.len was.marks.ok.0 c.in_default.ensures.cases.0 c.in_default.ensures.items

pub returns-then-not-keep : goal.returns-then-not-keep
returns-then-not-keep g c =
    let was = c.args.undo.now in
    let t = c.take_back_to in
    on_both t.result _ _ _ (λ inverses cells p h. dropped was.inverses.items t.new.inverses.items was.marks.items c.pop.new.self.items c.in-Some.mark c.args.cells.now.cells t.new.cells.cells p c.args.keep h c.in-Some.ensures.items c.if-not-keep.true inverses cells)
    t.ensures.inverses t.ensures.cells

pub returns-then-is_empty : goal.returns-then-is_empty
returns-then-is_empty g c = λ p h.
    let was = c.args.undo.now in
    let now = c.args.cells.now.cells in
    let rest = c.pop.new.self in
    kept_last was.inverses.items c.clear.new.self.items was.marks.items rest.items c.in-Some.mark now now p c.args.keep h c.in-Some.ensures.items c.if-not-keep.false (none_of rest.items rest.len rest.ok.0 (sym c.is_empty.ensures ∙ c.if-is_empty.true))

pub returns-else-is_empty : goal.returns-else-is_empty
returns-else-is_empty g c = λ p h.
    let was = c.args.undo.now in
    let now = c.args.cells.now.cells in
    kept was.inverses.items was.inverses.items was.marks.items c.pop.new.self.items c.in-Some.mark now now p c.args.keep h c.in-Some.ensures.items c.if-not-keep.false
