use Rattle.std.proofs.Common.{⊎_elim, refl, arith}
use Rattle.foshqarel_c.proofs.buffers.give_both.Goals as goal

pub returns-then-first_out-first-clause-put : goal.returns-then-first_out-first-clause-put
returns-then-first_out-first-clause-put c = record { fits = λ le more. absurd (omega (arith, le, c.if-first_out-first.true)); short = λ less. (refl, refl, refl) }

pub returns-then-second_out-second-clause-put : goal.returns-then-second_out-second-clause-put
returns-then-second_out-second-clause-put c = record { fits = λ more le. absurd (omega (arith, le, c.if-second_out-second.true)); short = λ less. (refl, refl, refl) }

pub returns-clause-put : goal.returns-clause-put
returns-clause-put c = record {
  fits = λ le more. (c.put_front.ensures, c.put_front-2.ensures, refl);
  short = λ less. ⊎_elim (λ lt. absurd (omega (arith, lt, c.if-first_out-first.false))) (λ lt. absurd (omega (arith, lt, c.if-second_out-second.false))) less;
}
