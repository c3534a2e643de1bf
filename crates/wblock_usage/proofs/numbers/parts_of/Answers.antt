use Rattle.std.proofs.Common.{lit<}
use Rattle.std.proofs.lemmas.Str.Pattern.{split_parts}
use Rattle.wblock_usage.proofs.Colons.{of_parts}
use Rattle.wblock_usage.proofs.numbers.parts_of.Goals as goal

pub returns : goal.returns
returns c = of_parts c.args.word.now _ (split_parts 58 c.args.word.now _ c.split_once.ensures.cases (lit< tt))
