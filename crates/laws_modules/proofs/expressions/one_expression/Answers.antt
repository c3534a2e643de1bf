use Rattle.std.proofs.Common.{◌≡◌, ℕ, List, [], ◌∷◌, ◌++◌, Some, ap, sym, subst, ◌∙◌, arith}
use Rattle.spec_modules.specs.Syntax.{Instrs}
use Rattle.spec_modules.specs.Profile.{nesting_limit}
use Rattle.spec_modules.specs.Grammar.{expression}
use Rattle.spec_modules.specs.Spells.{ExpressionFits}
use Rattle.laws_modules.specs.Readers.{same_some, fst_is}
use Rattle.laws_modules.specs.ReadingExpressions.{expression_at}
use Rattle.laws_modules.specs.ExpressionLaws.{FitsIn, expression_reads}
use Rattle.laws_modules.proofs.expressions.one_expression.Goals as goal

-- within the limits there are at most so many levels, its own among them
fits : (is : Instrs) → ExpressionFits is → FitsIn 129 is
fits is f = record { depth = omega (arith, f.depth); labels = f.labels }

pub returns : goal.returns
returns c bytes is js f g s t =
    fst_is (is, []) (js, []) (same_some (is, []) (js, []) (sym ((expression_reads 129).again is bytes [] (fits is f) s) ∙ (expression_reads 129).again js bytes [] (fits js g) t))
