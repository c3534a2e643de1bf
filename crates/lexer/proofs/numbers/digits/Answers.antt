use Rattle.std.proofs.Common.{◌+◌, ◌*◌, ◌^◌, ◌≤◌, ℕ, suc, drop, get_or, sym, ap, ◌∙◌, arith, drop-cons}
use Rattle.lexer.specs.Reading.{hex_value}
use Rattle.lexer.specs.Values.{base}
use Rattle.lexer.proofs.Amounts.{no_room}
use Rattle.lexer.proofs.numbers.digits.Goals as goal

pub returns-in_default : goal.returns-in_default
returns-in_default c =
    let l = c.loop-b in
    let text = c.args.text.now in
    let b : ℕ = get_or text l.b-index 0 in
    let over : 2 ^ 64 ≤ base c.args.hexadecimal * l.value + hex_value b = omega (arith, c.in_default.ensures, c.radix-base.ensures, ap (λ r. l.value * r) c.radix-base.ensures) in
    no_room c.args.hexadecimal text (drop l.b-index text) (drop (suc l.b-index) text) l.value b l.invariant (drop-cons text l.b-index 0 c.loop-b-test.true) c.if-b-eq95.false (sym c.is_digit.ensures ∙ c.if-not-is_digit.false) over

pub returns-in_default-checked_add : goal.returns-in_default-checked_add
returns-in_default-checked_add c =
    let l = c.loop-b in
    let text = c.args.text.now in
    let b : ℕ = get_or text l.b-index 0 in
    let over : 2 ^ 64 ≤ base c.args.hexadecimal * l.value + hex_value b = omega (arith, c.in_default-checked_add.ensures, c.in-Some.ensures, c.digit_value.ensures, ap (λ r. l.value * r) c.radix-base.ensures) in
    no_room c.args.hexadecimal text (drop l.b-index text) (drop (suc l.b-index) text) l.value b l.invariant (drop-cons text l.b-index 0 c.loop-b-test.true) c.if-b-eq95.false (sym c.is_digit.ensures ∙ c.if-not-is_digit.false) over
