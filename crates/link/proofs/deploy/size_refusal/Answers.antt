use Rattle.std.proofs.Common.{◌≡◌, true, false, sym, ◌∙◌, rules}
use Rattle.module_tree.specs.Modules.{module_view}
use Rattle.link.proofs.Calls.{resolved}
use Rattle.link.proofs.Linked.{too_many_pages, table_too_large, pages_within, elements_within}
use Rattle.link.proofs.deploy.size_refusal.Goals as goal

pub returns-then-not-all_within-clause-says : goal.returns-then-not-all_within-clause-says
returns-then-not-all_within-clause-says g c =
    let e : c.all_within.result ≡ false = search rules in
    too_many_pages (module_view c.args.tree.now) c.requires.calls (sym c.all_within.ensures ∙ e)

pub returns-then-not-all_within-2-clause-says : goal.returns-then-not-all_within-2-clause-says
returns-then-not-all_within-2-clause-says g c =
    let e : c.all_within-2.result ≡ false = search rules in
    table_too_large (module_view c.args.tree.now) c.requires.calls (sym c.all_within-2.ensures ∙ e)

pub returns-clause-passes : goal.returns-clause-passes
returns-clause-passes g c = λ _.
    let e : c.all_within.result ≡ true = search rules in
    let e' : c.all_within-2.result ≡ true = search rules in
    (pages_within (module_view c.args.tree.now) c.requires.calls (sym c.all_within.ensures ∙ e), elements_within (module_view c.args.tree.now) c.requires.calls (sym c.all_within-2.ensures ∙ e'))

pub returns-then-not-all_within-clause-passed : goal.returns-then-not-all_within-clause-passed
returns-then-not-all_within-clause-passed g c = (resolved (module_view c.args.tree.now) c.requires.calls, c.requires.in_range)

pub returns-then-not-all_within-2-clause-passed : goal.returns-then-not-all_within-2-clause-passed
returns-then-not-all_within-2-clause-passed g c =
    let e : c.all_within.result ≡ true = search rules in
    (resolved (module_view c.args.tree.now) c.requires.calls, c.requires.in_range, pages_within (module_view c.args.tree.now) c.requires.calls (sym c.all_within.ensures ∙ e))
