-- A constant expression is one instruction.
use Rattle.std.proofs.Common.{◌≡◌, Bool, false, List, Option, Some, None, refl, sym, ap, ◌∙◌}
use Rattle.wtypes.specs.declared.ValType.{ValType}
use Rattle.wtypes.specs.declared.PlainInstr.{PlainInstr}
use Rattle.wtypes.specs.declared.PlainInstr.TheVariants.{GlobalGet, Const}
use Rattle.spec_modules.specs.Syntax as syntax
use Rattle.module_tree.specs.Readers.{lone_plain}
use Rattle.typing.specs.Tests.{constant_passes}

lone_is : (is : syntax.Instrs) (op : PlainInstr) → Some op ≡ lone_plain is → is ≡ syntax.seq (syntax.Plain op) syntax.nothing
lone_is syntax.nothing op e = absurd cc
lone_is (syntax.seq (syntax.Plain p) syntax.nothing) op e = let same : p ≡ op = cc in ap (λ q. syntax.seq (syntax.Plain q) syntax.nothing) same
lone_is (syntax.seq (syntax.Plain p) (syntax.seq j is)) op e = absurd cc
lone_is (syntax.seq _ is) op e = absurd cc

module _ (imported : List syntax.GlobalType) (is : syntax.Instrs) (t : ValType) where
  pub constant_some : (op : PlainInstr) (b : Bool) → Some op ≡ lone_plain is → b ≡ constant_passes imported (syntax.seq (syntax.Plain op) syntax.nothing) t → b ≡ constant_passes imported is t
  constant_some op b e h = h ∙ sym (ap (λ s. constant_passes imported s t) (lone_is is op e))

pub constant_none : (imported : List syntax.GlobalType) (is : syntax.Instrs) (t : ValType) → None ≡ lone_plain is → false ≡ constant_passes imported is t
constant_none imported syntax.nothing t e = refl
constant_none imported (syntax.seq (syntax.Plain (Const v)) syntax.nothing) t e = absurd cc
constant_none imported (syntax.seq (syntax.Plain (GlobalGet n)) syntax.nothing) t e = absurd cc
constant_none imported (syntax.seq (syntax.Plain (Const v)) (syntax.seq j is)) t e = refl
constant_none imported (syntax.seq (syntax.Plain (GlobalGet n)) (syntax.seq j is)) t e = refl
constant_none imported _ t e = refl
