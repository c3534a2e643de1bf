use Rattle.std.proofs.Common.{◌≡◌, drop, None, sym, ap, ◌∙◌, arith, to_z, of_z, w32, w64}
use Rattle.std.proofs.lemmas.Int.{ints}
use Rattle.std.proofs.lemmas.Option.{none-some}
use Rattle.spec_modules.specs.Leb.{signed}
use Rattle.spec_modules.specs.Reading.{signed_at}
use Rattle.spec_modules.specs.NumberLaws.{signed_takes, signed_again}
use Rattle.leb.proofs.Places.{found_at, from_on, no_signed_past}
use Rattle.leb.proofs.read_s32.Goals as goal

pub returns-in-Some-clause-found : goal.returns-in-Some-clause-found
returns-in-Some-clause-found c =
    let bytes = drop c.args.at c.args.bytes.now in
    let b = c.in-Some.ensures.bound in
    let same : to_z w32 (of_z w32 (to_z w64 (of_z w64 c.in-Some.z))) ≡ c.in-Some.z = omega (arith, ints, b.0, b.1) in
    rw same (found_at (signed 32) c.args.bytes.now c.in-Some.rest.now c.args.at c.in-Some.z c.if-at-bytes.false
    (signed_takes 32 bytes c.in-Some.z c.in-Some.rest.now (rw from_on at (sym c.in-Some.ensures.value))) (rw from_on at c.in-Some.ensures.shorter))

pub returns-in-None-clause-none : goal.returns-in-None-clause-none
returns-in-None-clause-none c x a rest s e =
    let none : signed_at 32 (drop c.args.at c.args.bytes.now) ≡ None = rw from_on at (sym c.in-None.ensures.value) in
    none-some (x, rest) (sym none ∙ ap (signed_at 32) e ∙ signed_again 32 a x rest s)

pub returns-then-at-bytes-clause-none : goal.returns-then-at-bytes-clause-none
returns-then-at-bytes-clause-none c z a rest s e = no_signed_past 32 z c.args.bytes.now a rest c.args.at (omega arith) s e
