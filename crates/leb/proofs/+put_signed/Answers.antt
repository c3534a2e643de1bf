use Rattle.std.proofs.Common.{◌≡◌, ◌+◌, ◌∷◌, [], ◌++◌, arith, rules}
use Rattle.std.proofs.lemmas.Result.{on_ok_weaker}
use Rattle.leb.specs.Signs.{low_bits}
use Rattle.leb.proofs.Powers.{signed_fewer}
use Rattle.leb.proofs.Bytes.{signed_last, signed_join}
use Rattle.leb.proofs.+put_signed.Goals as goal

pub put_signed-requires : goal.put_signed-requires
put_signed-requires g t c = λ ls longer.
    let s = signed_fewer c.args.more c.args.n c.if-n-lt64.false c.requires in
    (omega (arith, s.0), (longer, s.1))

pub returns-then-n-lt64-clause-bytes : goal.returns-then-n-lt64-clause-bytes
returns-then-n-lt64-clause-bytes g t c = rw (signed_last c.args.is_negative c.args.more c.args.n c.if-n-lt64.true) (search rules)

pub returns-clause-bytes : goal.returns-clause-bytes
returns-clause-bytes g t c =
    let s = signed_fewer c.args.more c.args.n c.if-n-lt64.false c.requires in
    let mid : c.push-2.new.self.items ≡ c.args.out.now.items ++ (low_bits c.args.is_negative c.args.n + 128) ∷ [] = search rules in
    on_ok_weaker c.put_signed.result (signed_join c.args.out.now.items c.push-2.new.self.items c.put_signed.new.out.items c.args.is_negative c.args.more c.args.n s.0 c.if-n-lt64.false mid) c.put_signed.ensures.bytes
