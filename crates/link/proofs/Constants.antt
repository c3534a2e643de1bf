-- The number of an offset is that of its one instruction.
use Rattle.std.proofs.Common.{◌≡◌, ℕ, Option, Some, None, refl, sym, ap, ◌∙◌}
use Rattle.wtypes.specs.declared.Value.TheVariants as value
use Rattle.wtypes.specs.declared.PlainInstr.{PlainInstr}
use Rattle.wtypes.specs.declared.PlainInstr.TheVariants.{Const}
use Rattle.spec_modules.specs.Syntax as syntax
use Rattle.spec_typing.specs.Linking.{offset_number}
use Rattle.module_tree.specs.Readers.{lone_plain}

lone_is : (is : syntax.Instrs) (op : PlainInstr) → Some op ≡ lone_plain is → is ≡ syntax.seq (syntax.Plain op) syntax.nothing
lone_is syntax.nothing op e = absurd cc
lone_is (syntax.seq (syntax.Plain p) syntax.nothing) op e = let same : p ≡ op = cc in ap (λ q. syntax.seq (syntax.Plain q) syntax.nothing) same
lone_is (syntax.seq (syntax.Plain p) (syntax.seq j is)) op e = absurd cc
lone_is (syntax.seq _ is) op e = absurd cc

pub number_some : (is : syntax.Instrs) (op : PlainInstr) (n : Option ℕ) → Some op ≡ lone_plain is → n ≡ offset_number (syntax.seq (syntax.Plain op) syntax.nothing) → n ≡ offset_number is
number_some is op n e h = h ∙ sym (ap offset_number (lone_is is op e))

pub number_none : (is : syntax.Instrs) → None ≡ lone_plain is → None ≡ offset_number is
number_none syntax.nothing e = refl
number_none (syntax.seq (syntax.Plain (Const (value.I32 n))) syntax.nothing) e = absurd cc
number_none (syntax.seq (syntax.Plain (Const (value.I32 n))) (syntax.seq j is)) e = refl
number_none _ e = refl
