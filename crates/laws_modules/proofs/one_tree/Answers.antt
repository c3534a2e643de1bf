use Rattle.laws_modules.specs.OneTree.{one_tree}
use Rattle.laws_modules.proofs.one_tree.Goals as goal

pub returns : goal.returns
returns c bytes m n s t = one_tree bytes m n s t
