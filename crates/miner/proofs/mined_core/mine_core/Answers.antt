use Rattle.std.proofs.Common.{◌≡◌, ◌∙◌, sym, true, false}
use Rattle.std.proofs.lemmas.Result.{IfOk-weaker}
use Rattle.miner.proofs.mined_core.mine_core.Goals as goal

pub returns-then-watches-clause-order : goal.returns-then-watches-clause-order
returns-then-watches-clause-order g c = IfOk-weaker c.mine_over_book.result _ _ (λ core told off.
    let both : true ≡ false = sym c.if-watches.true ∙ c.watches.ensures ∙ off in
    absurd cc) c.mine_over_book.ensures.receipts

pub returns-clause-order : goal.returns-clause-order
returns-clause-order g c = IfOk-weaker c.mine_in_order.result _ _ (λ core same off. same) c.mine_in_order.ensures.order
