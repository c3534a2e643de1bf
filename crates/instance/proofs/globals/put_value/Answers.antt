use Rattle.std.proofs.Common.{sym, arith}
use Rattle.std.proofs.lemmas.List.{set_past}
use Rattle.instance.proofs.globals.put_value.Goals as goal

pub returns-else-x-len : goal.returns-else-x-len
returns-else-x-len g c = sym (set_past c.args.values.now.items c.args.x c.args.value (omega (arith, c.args.values.now.ok.0, c.len.ensures, c.if-x-len.false)))
