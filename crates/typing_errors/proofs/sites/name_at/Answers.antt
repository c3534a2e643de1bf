use Rattle.std.proofs.Common.{sym, subst}
use Rattle.std.proofs.lemmas.Option.{IfSome_then}
use Rattle.module_tree.specs.Modules.{module_view}
use Rattle.typing_errors.specs.Sites.{IsNameAt}
use Rattle.typing_errors.proofs.sites.name_at.Goals as goal

pub returns : goal.returns
returns g c = IfSome_then c.text_of.result c.text_of.ensures (λ s h. subst (λ name. IsNameAt name (module_view c.args.tree.now) c.args.func c.args.ordinal) (sym h) c.in_ok-name.ensures)
