use Rattle.std.proofs.Common.{◌≡◌, ◌∙◌, sym, length}
use Rattle.std.proofs.lemmas.Bool.{eqb-true}
use Rattle.std.proofs.lemmas.Result.{IfOk-weaker}
use Rattle.memory.specs.Start.{stands}
use Rattle.memory.proofs.RunLists.{added_first, own_none}
use Rattle.memory.proofs.start.Start.of_bytes.Goals as goal

pub returns-then-is_empty : goal.returns-then-is_empty
returns-then-is_empty g c = λ k.
    let none : length c.args.bytes.now ≡ 0 = eqb-true _ _ (sym c.is_empty.ensures ∙ c.if-is_empty.true) in
    c.in_ok-none.ensures k ∙ sym (own_none c.args.at c.args.bytes.now k none)

pub returns : goal.returns
returns g c =
    IfOk-weaker c.add.result _ _ (λ s h. added_first (stands c.in_ok-none.none) (stands s) c.args.at c.args.bytes.now c.in_ok-none.ensures h) c.add.ensures
