use Rattle.std.proofs.Common.{ℕ, List, arith, ◌∙◌, subst}
use Rattle.std.proofs.lemmas.List.{length-drop, take_rest}
use Rattle.wblock_io.specs.Holding.{PutsSomeIn}
use Rattle.wblock_io.proofs.HoldingLemmas.{grown}
use Rattle.wblock_io.proofs.files.write_draft.Goals as goal

pub loop-at-preserved : goal.loop-at-preserved
loop-at-preserved g c =
    let bytes = c.args.bytes.now in
    let i = c.loop-at.at in
    let P : List ℕ → Type 0 = λ s. PutsSomeIn g.F.Files.tells c.args.name.now s c.in_ok-n.n (g.F.Files.drafts c.loop-at.files) (g.F.Files.drafts c.put_some.new.self) in
    let put = subst P (take_rest bytes i) c.in_ok-n.ensures.put in
    let within = put.within in
    let counted = length-drop i bytes in
    let below = c.loop-at.invariant.within in
    record {
      within = omega (arith, within, counted, below);
      drafted = λ t. grown _ _ bytes i c.in_ok-n.n _ _ (c.loop-at.invariant.drafted t) (put.told t);
      same = λ t. c.in_ok-n.ensures.same t ∙ c.loop-at.invariant.same t;
      calm = c.in_ok-n.ensures.calm ∙ c.loop-at.invariant.calm;
    }
