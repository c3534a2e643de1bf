-- The value of a constant expression is that of its one instruction.
use Rattle.std.proofs.Common.{◌≡◌, Some, None, refl, sym, ap, ◌∙◌}
use Rattle.wtypes.specs.declared.ValType.TheVariants.{I32}
use Rattle.wtypes.specs.declared.Value.{Value}
use Rattle.wtypes.specs.declared.PlainInstr.{PlainInstr}
use Rattle.wtypes.specs.declared.PlainInstr.TheVariants.{Const}
use Rattle.spec_modules.specs.Syntax as syntax
use Rattle.spec_modules.specs.Operators.{value_of}
use Rattle.spec_execution.specs.Configuration.{constant}
use Rattle.module_tree.specs.Readers.{lone_plain}

lone_is : (is : syntax.Instrs) (op : PlainInstr) → Some op ≡ lone_plain is → is ≡ syntax.seq (syntax.Plain op) syntax.nothing
lone_is syntax.nothing op e = absurd cc
lone_is (syntax.seq (syntax.Plain p) syntax.nothing) op e = let same : p ≡ op = cc in ap (λ q. syntax.seq (syntax.Plain q) syntax.nothing) same
lone_is (syntax.seq (syntax.Plain p) (syntax.seq j is)) op e = absurd cc
lone_is (syntax.seq _ is) op e = absurd cc

pub value_some : (is : syntax.Instrs) (op : PlainInstr) (v : Value) → Some op ≡ lone_plain is → v ≡ constant (syntax.seq (syntax.Plain op) syntax.nothing) → v ≡ constant is
value_some is op v e h = h ∙ sym (ap constant (lone_is is op e))

pub value_none : (is : syntax.Instrs) → None ≡ lone_plain is → value_of I32 0 ≡ constant is
value_none syntax.nothing e = refl
value_none (syntax.seq (syntax.Plain (Const v)) syntax.nothing) e = absurd cc
value_none (syntax.seq (syntax.Plain (Const v)) (syntax.seq j is)) e = refl
value_none _ e = refl
