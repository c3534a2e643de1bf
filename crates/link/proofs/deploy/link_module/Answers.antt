use Rattle.std.proofs.Common.{◌≡◌, true, is_none, sym, subst, rules}
use Rattle.spec_typing.specs.Linking.{Resolves}
use Rattle.module_tree.specs.Modules.{module_view}
use Rattle.link.proofs.Calls.{all_resolve}
use Rattle.link.proofs.deploy.link_module.Goals as goal

pub returns-in-Ok-clause-linked : goal.returns-in-Ok-clause-linked
returns-in-Ok-clause-linked g c =
    let m = module_view c.args.tree.now in
    let n1 : is_none c.import_refusal.result ≡ true = search rules in
    let n2 : is_none c.segment_refusal.result ≡ true = search rules in
    let n3 : is_none c.size_refusal.result ≡ true = search rules in
    let calls = c.import_refusal.ensures.passes n1 in
    let sizes = c.size_refusal.ensures.passes n3 in
    record {
      typed = c.requires;
      imports = subst (Resolves m.types m.imports) (sym c.in-Ok.ensures) (all_resolve m.types m.imports calls);
      segments_fit = c.segment_refusal.ensures.passes n2;
      pages = sizes.0;
      elements = sizes.1;
    }

pub size_refusal-requires-clause-in_range : goal.size_refusal-requires-clause-in_range
size_refusal-requires-clause-in_range g c =
    let n2 : is_none c.segment_refusal.result ≡ true = search rules in
    c.segment_refusal.ensures.passes n2
