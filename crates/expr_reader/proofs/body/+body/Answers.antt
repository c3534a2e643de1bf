use Rattle.std.proofs.Common.{◌≡◌, ◌-◌, ◌∷◌, ◌++◌, [], false, true, length, arith, rules, ap, ◌∙◌}
use Rattle.std.specs.Prelude.{◌==◌, ◌||◌}
use Rattle.std.proofs.lemmas.Result.{err_from_is_err_and}
use Rattle.laws_modules.specs.ReadingExpressions.{one_at, body_at}
use Rattle.module_tree.specs.View.{ordinals}
use Rattle.module_tree.specs.Numbering.{numbered_none, numbered_push, numbered_Block, numbered_Loop, numbered_If}
use Rattle.expr_reader.proofs.Turns.{front_none, body_opens, at_end, at_fault, at_empty, at_more, hand_on, too_deep}
use Rattle.std.proofs.lemmas.Bool.Decides.{nat_tests}
use Rattle.expr_reader.proofs.body.+body.Goals.{body_of-then-first-eq11-via-then-first-eq11, body_of-then-first-eq11-via-else-first-eq11+then-first-eq5}
use Rattle.expr_reader.proofs.body.+body.Goals as goal

pub body_of-loop-first-init : goal.body_of-loop-first-init
body_of-loop-first-init g t c =
    let bytes = c.args.bytes.now in (
      length bytes,
      omega arith,
      omega arith,
      body_opens c.args.depth bytes (λ e. omega (arith, c.requires.deep)) ∙ front_none c.new-found.result.items _ c.new-found.ensures.items,
      numbered_none c.args.ordinal (ordinals c.new-found.result.items) (ap ordinals c.new-found.ensures.items),
      omega arith,
    )

pub body_of-returns-then-first-eq11-clause-value : goal.body_of-returns-then-first-eq11-clause-value
body_of-returns-then-first-eq11-clause-value g t c =
    let l = c.loop-first in
    let b = c.in-Some.first.now in
    let is : l.rest.now ≡ b ∷ c.in-Some.after.now = grind arith in
    let ends : ((b == 0x0B) || (b == 0x05)) ≡ true = elim c.then-first-eq11.branch [
      | body_of-then-first-eq11-via-then-first-eq11 w ↦ grind (arith, nat_tests)
      | body_of-then-first-eq11-via-else-first-eq11+then-first-eq5 w ↦ grind (arith, nat_tests)
    ] in
    at_end (body_at c.args.depth c.args.bytes.now) l.found.items (one_at (c.args.depth - 1)) l.invariant.0 l.rest.now l.invariant.1 l.invariant.3 b c.in-Some.after.now is ends

pub body_of-returns-in_err-instr-clause-value : goal.body_of-returns-in_err-instr-clause-value
body_of-returns-in_err-instr-clause-value g t c =
    let l = c.loop-first in
    let b = c.in-Some.first.now in
    let after = c.in-Some.after.now in
    let one = one_at (c.args.depth - 1) in
    let is : l.rest.now ≡ b ∷ after = grind arith in
    let goes : ((b == 0x0B) || (b == 0x05)) ≡ false = grind (arith, nat_tests) in
    let p = err_from_is_err_and c.from_residual-in_err-instr.result c.from_residual-in_err-instr.ensures.1 in
    rw (p.1, p.2) (hand_on c.in_err-instr.field-0.0 (one b after) (body_at c.args.depth c.args.bytes.now)
    (at_fault (body_at c.args.depth c.args.bytes.now) l.found.items one l.invariant.0 l.rest.now l.invariant.1 l.invariant.3 b after is goes)
    c.in_err-instr.ensures.value)

pub body_of-loop-first-preserved : goal.body_of-loop-first-preserved
body_of-loop-first-preserved g t c =
    let l = c.loop-first in
    let b = c.in-Some.first.now in
    let after = c.in-Some.after.now in
    let rest = c.in_ok-instr.after.now in
    let is : l.rest.now ≡ b ∷ after = grind arith in
    let goes : ((b == 0x0B) || (b == 0x05)) ≡ false = grind (arith, nat_tests) in
    let pushed : c.push.new.self.items ≡ l.found.items ++ c.in_ok-instr.instr ∷ [] = search rules in
    let m = at_more (body_at c.args.depth c.args.bytes.now) l.found.items (one_at (c.args.depth - 1)) l.invariant.0 l.rest.now l.invariant.1 l.invariant.3
    b after rest c.in_ok-instr.instr c.push.new.self.items is goes c.in_ok-instr.ensures.value c.in_ok-instr.ensures.shorter pushed in (
      m.0,
      m.1,
      omega (arith, l.invariant.2, ap length is, c.in_ok-instr.ensures.shorter),
      m.2,
      numbered_push c.args.ordinal l.next c.in_ok-instr.following l.found.items c.push.new.self.items c.in_ok-instr.instr l.invariant.4 c.in_ok-instr.ensures.numbered pushed,
      omega (arith, l.invariant.5, ap length is, c.in_ok-instr.ensures.within),
    )

pub body_of-returns-clause-value : goal.body_of-returns-clause-value
body_of-returns-clause-value g t c =
    let l = c.loop-first in
    at_empty (body_at c.args.depth c.args.bytes.now) l.found.items (one_at (c.args.depth - 1)) l.invariant.0 l.rest.now l.invariant.1 l.invariant.3 c.in_default.ensures.cases

pub instr_of-returns-else-closing-ne11-clause-numbered : goal.instr_of-returns-else-closing-ne11-clause-numbered
instr_of-returns-else-closing-ne11-clause-numbered g t c =
    let b = c.in_ok-body-in-2 in
    numbered_Block c.args.ordinal b.next c.in_ok-kind-in-2.kind b.body b.ensures.numbered

pub instr_of-returns-then-first-le4-clause-value : goal.instr_of-returns-then-first-le4-clause-value
instr_of-returns-then-first-le4-clause-value g t c = too_deep c.args.depth c.args.first c.args.bytes.now (omega arith) (omega arith) (omega arith)

pub instr_of-returns-else-closing-ne11-2-clause-numbered : goal.instr_of-returns-else-closing-ne11-2-clause-numbered
instr_of-returns-else-closing-ne11-2-clause-numbered g t c =
    let b = c.in_ok-body-in-3 in
    numbered_Loop c.args.ordinal b.next c.in_ok-kind-in-3.kind b.body b.ensures.numbered

pub instr_of-returns-else-closing-ne11-3-clause-numbered : goal.instr_of-returns-else-closing-ne11-3-clause-numbered
instr_of-returns-else-closing-ne11-3-clause-numbered g t c =
    let b = c.in_ok-then_body-in-4 in
    let d = c.in_ok-else_body-in-4 in
    numbered_If c.args.ordinal b.next d.next c.in_ok-kind-in-4.kind b.then_body d.else_body b.ensures.numbered d.ensures.numbered

pub instr_of-returns-then-closing-eq11-clause-numbered : goal.instr_of-returns-then-closing-eq11-clause-numbered
instr_of-returns-then-closing-eq11-clause-numbered g t c =
    let b = c.in_ok-then_body-in-4 in
    numbered_If c.args.ordinal b.next b.next c.in_ok-kind-in-4.kind b.then_body c.new-none.result b.ensures.numbered
    (numbered_none b.next (ordinals c.new-none.result.items) (ap ordinals c.new-none.ensures.items))
