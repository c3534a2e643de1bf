use Rattle.std.proofs.Common.{sym, subst, ◌*◌}
use Rattle.std.specs.Prelude.{All, map}
use Rattle.std.proofs.lemmas.Result.{IfOk-weaker}
use Rattle.spec_modules.specs.Profile.{page_size, page_limit}
use Rattle.module_tree.specs.ModuleView.{data_view}
use Rattle.module_tree.specs.Modules.{module_view}
use Rattle.memory.specs.Start.{stands}
use Rattle.link.specs.Starts.{EndsWithin, IsLaid}
use Rattle.link.proofs.Laying.{all_small, first_is, none_behind}
use Rattle.link.proofs.starts.first_start.Goals as goal

pub laid-requires : goal.laid-requires
laid-requires g c =
    subst (λ ds. All (EndsWithin (page_size * page_limit)) (map data_view ds)) (sym c.deref.ensures.value) (all_small (module_view c.args.tree.now) c.args.hosts.now c.requires)

pub returns-clause-bytes : goal.returns-clause-bytes
returns-clause-bytes g c =
    IfOk-weaker c.laid.result _ _
    (λ s h. first_is (module_view c.args.tree.now) c.args.hosts.now c.requires (stands s) (subst (λ ds. IsLaid (stands s) (map data_view ds)) c.deref.ensures.value h))
    c.laid.ensures

pub returns-clause-ends : goal.returns-clause-ends
returns-clause-ends g c =
    IfOk-weaker c.laid.result _ _
    (λ s h. none_behind (module_view c.args.tree.now) c.args.hosts.now c.requires (stands s) (subst (λ ds. IsLaid (stands s) (map data_view ds)) c.deref.ensures.value h))
    c.laid.ensures
