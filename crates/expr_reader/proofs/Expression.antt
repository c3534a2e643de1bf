-- What reading one expression says of its spelling.
use Rattle.std.proofs.Common.{◌≡◌, ℕ, ◌+◌, ◌-◌, ◌≤◌, List, ◌++◌, length, take, drop, slice_range, Some, None, sym, ap, subst, ◌∙◌, arith, length-append, length-take, length-drop}
use Rattle.std.proofs.lemmas.List.{take-take}
use Rattle.std.proofs.Math.Seq.{take-append_seam}
use Rattle.std.proofs.lemmas.Option.{none-some}
use Rattle.spec_modules.specs.Syntax.{Instrs}
use Rattle.spec_modules.specs.Grammar.{expression}
use Rattle.spec_modules.specs.Spells.{ExpressionFits}
use Rattle.laws_modules.specs.ReadingExpressions.{expression_at}
use Rattle.laws_modules.specs.ExpressionLaws.{FitsIn, expression_reads}
use Rattle.expr_reader.specs.declared.unread.DecodeFault.{DecodeFault}
use Rattle.expr_reader.specs.declared.unread.DecodeFault.TheVariants as unread
use Rattle.expr_reader.specs.Outcome.{Unless, Fails, refusal_before, NoExpression}

front_is : (xs a rest : List ℕ) (m n : ℕ) → take m xs ≡ a ++ rest → n ≡ length a → n ≤ m → take n xs ≡ a
front_is xs a rest m n e is le =
    sym (take-take n m xs le) ∙ ap (take n) e ∙ ap (λ k. take k (a ++ rest)) is ∙ take-append_seam a rest

pub spelled_at : (bytes rest : List ℕ) (is : Instrs) (at end : ℕ) → at ≤ end → end ≤ length bytes
    → expression_at 129 (slice_range bytes at end) ≡ Some (is, rest) → expression is (slice_range bytes at (end - length rest))
spelled_at bytes rest is at end order within e =
    let f = ((expression_reads 129).takes (slice_range bytes at end) is rest e).0 in
    let a = f.0 in
    let len : length (slice_range bytes at end) ≡ end - at = omega (arith, length-take (end - at) (drop at bytes), length-drop at bytes) in
    let parts : length (slice_range bytes at end) ≡ length a + length rest = ap length f.1 ∙ length-append a rest in
    let next : (end - length rest) - at ≡ length a = omega arith in
    let spelled : slice_range bytes at (end - length rest) ≡ a = front_is (drop at bytes) a rest (end - at) ((end - length rest) - at) f.1 next (omega arith) in
    subst (expression is) (sym spelled) f.2

pub fits_at : (bytes rest : List ℕ) (is : Instrs) → expression_at 129 bytes ≡ Some (is, rest) → ExpressionFits is
fits_at bytes rest is e =
    let t = ((expression_reads 129).takes bytes is rest e).1 in
    record { depth = omega (arith, t.depth); labels = t.labels }

pub nothing_found : (bytes : List ℕ) → expression_at 129 bytes ≡ None → NoExpression bytes
nothing_found bytes e is a rest fits s parts =
    let f : FitsIn 129 is = record { depth = omega (arith, fits.depth); labels = fits.labels } in
    none-some (is, rest) (sym e ∙ ap (expression_at 129) parts ∙ (expression_reads 129).again is a rest f s)

-- and what a refusal says
pub told_before : (bytes : List ℕ) (end : ℕ) (e : DecodeFault) → Fails e (expression_at 129 bytes) → Unless (NoExpression bytes) (refusal_before end e)
told_before bytes end unread.NoMemory fails = tt
told_before bytes end (unread.Malformed left) fails = nothing_found bytes fails
told_before bytes end (unread.Unsupported left) fails = nothing_found bytes fails
told_before bytes end (unread.TooLarge limit) fails = nothing_found bytes fails
