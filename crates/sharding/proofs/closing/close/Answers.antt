use Rattle.std.proofs.Common.{length, refl, subst, sym}
use Rattle.std.proofs.lemmas.Result.{err_from_is_err_and}
use Rattle.spec_ledger.specs.Shards.{shard_of}
use Rattle.sharding.specs.Parts.{AreParts}
use Rattle.sharding.proofs.Together.{has_home, own_cells, same_cells, defined_cells, cells_settled}
use Rattle.sharding.proofs.closing.close.Goals as goal

pub returns-clause-replies : goal.returns-clause-replies
returns-clause-replies g c =
    let are = subst (λ es. AreParts c.args.opening.cells es c.args.parts.now) c.deref.ensures.value (c.are_parts.ensures.parts.0 c.if-not-are_parts.false) in
    let whole = c.are_parts.ensures.whole c.if-not-are_parts.false in
    c.shards_are_one_book.ensures.defined (shard_of (length c.args.parts.now)) (length c.args.parts.now) (has_home (length c.args.parts.now) c.requires.shards.0) c.args.entries.items c.args.opening.cells
    (own_cells c.args.opening.cells c.args.entries.items c.args.parts.now are whole)
    (same_cells c.args.opening.cells c.args.entries.items c.args.parts.now are whole)
    (defined_cells c.args.opening.cells c.args.entries.items c.args.parts.now are whole)

pub returns-clause-cells : goal.returns-clause-cells
returns-clause-cells g c =
    let are = subst (λ es. AreParts c.args.opening.cells es c.args.parts.now) c.deref.ensures.value (c.are_parts.ensures.parts.0 c.if-not-are_parts.false) in
    let whole = c.are_parts.ensures.whole c.if-not-are_parts.false in
    cells_settled c.args.opening.cells c.args.entries.items c.args.parts.now are whole c.requires.shards.0
    (c.shards_are_one_book.ensures.cells (shard_of (length c.args.parts.now)) (length c.args.parts.now) (has_home (length c.args.parts.now) c.requires.shards.0) c.args.entries.items c.args.opening.cells
    (own_cells c.args.opening.cells c.args.entries.items c.args.parts.now are whole)
    (same_cells c.args.opening.cells c.args.entries.items c.args.parts.now are whole))
    c.in_ok-cells.cells.cells c.in_ok-cells.ensures.cells

pub returns-clause-differs : goal.returns-clause-differs
returns-clause-differs g c =
    let are = subst (λ es. AreParts c.args.opening.cells es c.args.parts.now) c.deref.ensures.value (c.are_parts.ensures.parts.0 c.if-not-are_parts.false) in
    (λ e. absurd (cc e), λ isnt. absurd (isnt are))

pub returns-then-not-are_parts-clause-differs : goal.returns-then-not-are_parts-clause-differs
returns-then-not-are_parts-clause-differs g c = (
  λ _ are.
      let yes = c.are_parts.ensures.parts.1 (subst (λ es. AreParts c.args.opening.cells es c.args.parts.now) (sym c.deref.ensures.value) are) in
      let no = c.if-not-are_parts.true in
      absurd (cc (yes, no)),
  λ _. refl,
)

pub returns-in_err-cells-clause-differs : goal.returns-in_err-cells-clause-differs
returns-in_err-cells-clause-differs g c =
    let are = subst (λ es. AreParts c.args.opening.cells es c.args.parts.now) c.deref.ensures.value (c.are_parts.ensures.parts.0 c.if-not-are_parts.false) in
    let p = err_from_is_err_and c.from_residual.result c.from_residual.ensures.1 in
    (λ e. absurd (cc (e, p.1, p.2)), λ isnt. absurd (isnt are))
