use Rattle.std.proofs.Common.{◌∙◌, sym}
use Rattle.storage.proofs.Merged.{first_alone, none_of, second_alone}
use Rattle.storage.proofs.base.one_list.Goals as goal

pub returns-then-is_empty : goal.returns-then-is_empty
returns-then-is_empty g c = first_alone c.args.base.items c.args.over.items (none_of c.args.over.items c.args.over.len c.args.over.ok.0 (sym c.is_empty.ensures ∙ c.if-is_empty.true))

pub returns-then-is_empty-2 : goal.returns-then-is_empty-2
returns-then-is_empty-2 g c = second_alone c.args.base.items c.args.over.items (none_of c.args.base.items c.args.base.len c.args.base.ok.0 (sym c.is_empty-2.ensures ∙ c.if-is_empty-2.true))
