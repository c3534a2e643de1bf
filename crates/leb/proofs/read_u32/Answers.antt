use Rattle.std.proofs.Common.{◌≡◌, drop, None, sym, ap, ◌∙◌, arith}
use Rattle.std.proofs.lemmas.Option.{none-some}
use Rattle.spec_modules.specs.Leb.{unsigned}
use Rattle.spec_modules.specs.Reading.{unsigned_at}
use Rattle.spec_modules.specs.NumberLaws.{unsigned_takes, unsigned_again}
use Rattle.leb.proofs.Places.{found_at, from_on, no_unsigned_past}
use Rattle.leb.proofs.read_u32.Goals as goal

pub returns-in-Some-clause-found : goal.returns-in-Some-clause-found
returns-in-Some-clause-found c =
    let bytes = drop c.args.at c.args.bytes.now in
    found_at (unsigned 32) c.args.bytes.now c.in-Some.rest.now c.args.at c.in-Some.n c.if-at-bytes.false
    (unsigned_takes 32 bytes c.in-Some.n c.in-Some.rest.now (rw from_on at (sym c.in-Some.ensures.value))) (rw from_on at c.in-Some.ensures.shorter)

pub returns-in-None-clause-none : goal.returns-in-None-clause-none
returns-in-None-clause-none c x a rest s e =
    let none : unsigned_at 32 (drop c.args.at c.args.bytes.now) ≡ None = rw from_on at (sym c.in-None.ensures.value) in
    none-some (x, rest) (sym none ∙ ap (unsigned_at 32) e ∙ unsigned_again 32 a x rest s)

pub returns-then-at-bytes-clause-none : goal.returns-then-at-bytes-clause-none
returns-then-at-bytes-clause-none c n a rest s e = no_unsigned_past 32 n c.args.bytes.now a rest c.args.at (omega arith) s e
