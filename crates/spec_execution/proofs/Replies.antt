-- A storage operation's reply is one that it may get.
use Rattle.std.proofs.Common.{◌≡◌, ℕ, Bool, true, false, cond, pos, is_some, sym, subst, arith}
use Rattle.std.proofs.lemmas.Int.{ints}
use Rattle.std.specs.Prelude.{FitsSigned}
use Rattle.std.specs.Int.{cast_signed, w32, w64}
use Rattle.std.specs.FinMap.{get}
use Rattle.spec_ledger.specs.declared.Op.{Op}
use Rattle.spec_ledger.specs.declared.Op.TheVariants.{Get, Has, Put, Del, Add, Total}
use Rattle.spec_ledger.specs.declared.Reply.{Reply}
use Rattle.spec_ledger.specs.Cells.{Cells, number, reply_to, map_at, counter_at}
use Rattle.spec_execution.specs.Run.{IsReply, to_get, to_has, to_put, to_del, to_add, to_total}

fits : (n : ℕ) → FitsSigned w64 (cast_signed w64 n)
fits n = omega (arith, ints)

one_or_none : (b : Bool) → FitsSigned w32 (cond b (pos 1) (pos 0))
one_or_none true = omega (arith, ints)
one_or_none false = omega (arith, ints)

pub reply_fits : (op : Op) (cells : Cells) → IsReply op (reply_to op cells)
reply_fits (Get p) cells = to_get p _ (fits (number (get cells (map_at p))))
reply_fits (Has p) cells = to_has p _ (one_or_none (is_some (get cells (map_at p))))
reply_fits (Put p v) cells = to_put p v
reply_fits (Del p) cells = to_del p _ (one_or_none (is_some (get cells (map_at p))))
reply_fits (Add p v) cells = to_add p v
reply_fits (Total p) cells = to_total p _ (fits (number (get cells (counter_at p))))

pub is_reply : (op : Op) (cells : Cells) (r : Reply) → r ≡ reply_to op cells → IsReply op r
is_reply op cells r is = subst (IsReply op) (sym is) (reply_fits op cells)
