use Rattle.std.proofs.Common.{◌≡◌, ◌&&◌, true, false, nat_le, sym, ap, ◌∙◌}
use Rattle.spec_modules.specs.Shape.{instrs_depth}
use Rattle.spec_modules.specs.Profile.{nesting_limit}
use Rattle.spec_modules.specs.Limits.{expression_fits, instrs_fit}
use Rattle.module_tree.specs.View.{instrs_view}
use Rattle.assembler.proofs.builder_bodies.expression_fits.Goals as goal

pub returns-then-instrs_within : goal.returns-then-instrs_within
unfolding expression_fits
returns-then-instrs_within g c =
    let body = instrs_view c.args.body.now.items in
    let shallow : nat_le (instrs_depth body) nesting_limit ≡ true = sym c.instrs_within.ensures ∙ c.if-instrs_within.true in
    c.instrs_fit.ensures ∙ ap (λ b. b && instrs_fit body) (sym shallow)

pub returns-else-instrs_within : goal.returns-else-instrs_within
unfolding expression_fits
returns-else-instrs_within g c =
    let body = instrs_view c.args.body.now.items in
    let deep : nat_le (instrs_depth body) nesting_limit ≡ false = sym c.instrs_within.ensures ∙ c.if-instrs_within.false in
    c.if-instrs_within.false ∙ ap (λ b. b && instrs_fit body) (sym deep)
