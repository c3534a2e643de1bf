use Rattle.std.proofs.Common.{◌≡◌, ◌≢◌, ◌+◌, ◌-◌, ◌^◌, refl, sym, ap, ◌∙◌, arith}
use Rattle.text_resolve.specs.Plain.{exponent_from}
use Rattle.text_resolve.proofs.Numbers.{exponent_starts, exponent_here, exponent_on, doubled, exponent_past}
use Rattle.text_resolve.proofs.operators.exponent.Goals as goal

pub loop-e-init : goal.loop-e-init
loop-e-init c = record { power = refl; low = omega arith; so_far = exponent_starts c.args.n }

pub returns-then-power-n : goal.returns-then-power-n
returns-then-power-n c =
    let l = c.loop-e in
    let is : 2 ^ l.e ≡ c.args.n = sym l.invariant.power ∙ c.if-power-n.true in
    sym (l.invariant.so_far ∙ exponent_here (32 - l.e) l.e c.args.n (omega arith) is)

pub loop-e-preserved : goal.loop-e-preserved
loop-e-preserved c =
    let l = c.loop-e in
    let differ : 2 ^ l.e ≢ c.args.n = λ h. c.if-power-n.false (l.invariant.power ∙ h) in
    record {
      power = doubled l.e l.power l.invariant.power;
      low = omega arith;
      so_far = l.invariant.so_far ∙ exponent_on (32 - l.e) l.e c.args.n (omega arith) differ ∙ ap (λ k. exponent_from k (l.e + 1) c.args.n) (let s : (32 - l.e) - 1 ≡ 32 - (l.e + 1) = omega arith in s);
    }

pub returns : goal.returns
returns c =
    let l = c.loop-e in
    sym (l.invariant.so_far ∙ exponent_past (32 - l.e) l.e c.args.n (omega arith))
