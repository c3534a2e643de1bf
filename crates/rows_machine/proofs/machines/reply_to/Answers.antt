use Rattle.std.proofs.Common.{arith, sym, subst, pos}
use Rattle.std.proofs.lemmas.Int.{ints}
use Rattle.std.specs.Prelude.{FitsSigned}
use Rattle.std.specs.Int.{w32, w64}
use Rattle.spec_ledger.specs.declared.Reply.TheVariants as reply
use Rattle.spec_execution.specs.Run.{IsReply, to_get, to_has, to_put, to_del, to_add, to_total}
use Rattle.rows_machine.proofs.machines.reply_to.Goals as goal

three : FitsSigned w64 (pos 3)
three = omega (arith, ints)

one : FitsSigned w32 (pos 1)
one = omega (arith, ints)

none : FitsSigned w32 (pos 0)
none = omega (arith, ints)

twelve : FitsSigned w64 (pos 12)
twelve = omega (arith, ints)

pub returns-in-Get : goal.returns-in-Get
returns-in-Get c = subst (λ op. IsReply op (reply.I64 (pos 3))) (sym c.in-Get.is) (to_get c.in-Get.field-0 (pos 3) three)

pub returns-in-Has : goal.returns-in-Has
returns-in-Has c = subst (λ op. IsReply op (reply.I32 (pos 1))) (sym c.in-Has.is) (to_has c.in-Has.field-0 (pos 1) one)

pub returns-in-Put : goal.returns-in-Put
returns-in-Put c = subst (λ op. IsReply op reply.Nothing) (sym c.in-Put.is) (to_put c.in-Put.field-0 c.in-Put.field-1)

pub returns-in-Del : goal.returns-in-Del
returns-in-Del c = subst (λ op. IsReply op (reply.I32 (pos 0))) (sym c.in-Del.is) (to_del c.in-Del.field-0 (pos 0) none)

pub returns-in-Add : goal.returns-in-Add
returns-in-Add c = subst (λ op. IsReply op reply.Nothing) (sym c.in-Add.is) (to_add c.in-Add.field-0 c.in-Add.field-1)

pub returns-in-Total : goal.returns-in-Total
returns-in-Total c = subst (λ op. IsReply op (reply.I64 (pos 12))) (sym c.in-Total.is) (to_total c.in-Total.field-0 (pos 12) twelve)
