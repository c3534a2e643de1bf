use Rattle.std.proofs.Common.{ap, sym, ◌∙◌}
use Rattle.sha2.specs.Sha256.{sha256}
use Rattle.spec_block.specs.Worlds.{World}
use Rattle.spec_block.specs.Bytes.{world_bytes}
use Rattle.world.specs.Views.{world_view}
use Rattle.validator.proofs.end.conclude.Goals as goal

pub returns : goal.returns
returns g c = λ calls fuel run.
    let ran = c.args.ran in
    c.verdict_by.ensures (world_view c.args.world.now) calls fuel ran.receipts.items ran.touched.items ran.cells.cells
    (record {
      run = run;
      many = c.requires.receipts ∙ sym c.requires.touched;
      compared = c.in_ok-compared.ensures.compared;
      digest_is = c.in_ok-compared.ensures.digest ∙ ap (λ (w : World). sha256 (world_bytes w)) (sym c.with_digest.ensures);
      next_is = c.with_digest.ensures ∙ c.in_ok-next.ensures;
    })
