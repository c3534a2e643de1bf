use Rattle.std.proofs.Common.{ℕ, ◌≡◌, ◌%◌, ◌/◌, ◌+◌, ◌++◌, sym, subst, arith, IfOk}
use Rattle.std.specs.Prelude.{slice_get, None, option_copied}
use Rattle.memory.specs.Pieces.{piece_size, byte_of}
use Rattle.memory.specs.Start.{begins}
use Rattle.memory.proofs.Copies.{appended, found_none, found_past, unmade_in, read_unmade}
use Rattle.memory.proofs.read_in_piece.Goals as goal
use Rattle.memory.proofs.read_in_piece.Goals.{in-Some+else-offset-count, in_default}

pub returns-then-offset-count : goal.returns-then-offset-count
returns-then-offset-count g c =
    let item = c.in-Some.ensures.lookup in
    appended c.args.pieces.now.items c.deref.result.now (begins (option_copied c.args.start)) c.args.at c.args.count c.in-Some.piece.now c.deref-then-offset-count.result.now c.args.bytes.now.items c.extend_from_slice.new.self.items
    c.in_ok-extend_from_slice.ensures.items c.deref-then-offset-count.ensures.value c.deref.ensures.value item.3.0 item.1 (omega (arith, c.if-offset-count.true, c.len.ensures)) c.requires.within

pub returns : goal.returns
returns g c =
    let ps = c.args.pieces.now.items in let i = c.args.at / piece_size in let f = begins (option_copied c.args.start) in
    let none : (j : ℕ) → byte_of (slice_get ps i) j ≡ None = elim c.match-get.branch [
      | in-Some+else-offset-count w ↦ let item = w.in-Some.ensures.lookup in
          found_none ps c.deref.result.now i (c.args.at % piece_size + c.args.count) w.in-Some.piece.now c.deref.ensures.value item.3.0 item.1 c.requires.whole (omega (arith, w.if-offset-count.false, w.len.ensures)) c.requires.within
      | in_default w ↦ found_past ps c.deref.result.now i c.deref.ensures.value w.in_default.ensures.lookup.0
    ] in
    subst (λ l. IfOk c.read_first.result (λ _. c.read_first.new.bytes.items ≡ c.args.bytes.now.items ++ l)) (sym (read_unmade ps f c.args.at c.args.count (unmade_in ps c.args.at c.args.count none c.requires.within))) c.read_first.ensures
