use Rattle.std.proofs.Common.{refl, ap, ◌∙◌, sym, subst, [], ◌∷◌, ℤ, Some, rules, SFits, to_z, of_z, w64}
use Rattle.std.proofs.lemmas.Int.{to_z-of_z}
use Rattle.wtypes.specs.declared.Value.TheVariants.{I64}
use Rattle.module_tree.specs.Modules.{module_view}
use Rattle.spec_typing.specs.Linking.{IsLinked}
use Rattle.spec_execution.specs.Configuration.{Contract, End, Invoke, arguments, fresh}
use Rattle.instance.specs.States.{IsFresh}
use Rattle.instance.specs.Views.{contract_of}
use Rattle.interp_state.specs.Waiting.{IsEntry, alone}
use Rattle.interp.proofs.Beginning.{based_fresh, contract_same, nothing_view, nothing_counted}
use Rattle.interp.proofs.levels.open_level.Goals as goal

pub prepare-requires-clause-entry : goal.prepare-requires-clause-entry
prepare-requires-clause-entry g c =
    let open_is = contract_same c.args.version c.args.number c.args.number c.module.result.now c.hosts.result.now c.args.deployed.now c.args.deployed.now refl c.module.ensures c.hosts.ensures refl in
    let fits : SFits w64 c.args.argument = search rules in
    let passed : IsEntry (contract_of c.args.version c.args.number c.args.deployed.now) c.args.entry (I64 (to_z w64 (of_z w64 c.args.argument)) ∷ []) = subst (λ (z : ℤ). IsEntry (contract_of c.args.version c.args.number c.args.deployed.now) c.args.entry (I64 z ∷ [])) (sym (to_z-of_z w64 c.args.argument fits)) c.requires.entry in
    subst (λ (x : Contract). IsEntry x c.args.entry (I64 (to_z w64 (of_z w64 c.args.argument)) ∷ [])) (sym open_is.same) passed

pub returns : goal.returns
returns g c =
    let m = c.module.result.now in
    let hosts = c.hosts.result.now in
    let made : IsFresh c.args.version c.in_ok-instance.instance (module_view m) = subst (λ t. IsFresh c.args.version c.in_ok-instance.instance (module_view t)) (sym c.module.ensures) c.in_ok-instance.ensures in
    let open_is = contract_same c.args.version c.args.number c.args.number m hosts c.args.deployed.now c.args.deployed.now refl c.module.ensures c.hosts.ensures refl in
    let p = c.no_parts.ensures in
    let fits : SFits w64 c.args.argument = search rules in
    let back = to_z-of_z w64 c.args.argument fits in
    record {
      contract = open_is.same;
      argument_is = ap Some back;
      answer = refl;
      view = nothing_view c.no_parts.result c.in_ok-instance.instance p.instance p.code p.entries p.depth p.stack p.locals (fresh (module_view m)) ∙ ap (λ b. alone b [] []) (based_fresh c.args.version (module_view m) c.in_ok-instance.instance made);
      tail = λ args. ap (λ f. arguments (I64 (to_z w64 (of_z w64 c.args.argument)) ∷ []) (Invoke f End)) c.in_ok-waiting.ensures.same ∙ ap (λ z. arguments (I64 z ∷ []) (Invoke c.args.entry End)) back;
      linked = subst (λ (x : Contract). ∥ IsLinked x.deployed.tree x.deployed.hosts ∥₁) (sym open_is.same) c.args.deployed.now.linked;
      counted = nothing_counted c.no_parts.result c.in_ok-instance.instance p.instance p.code p.entries p.depth p.stack p.locals;
      suits = ap (λ i. i.memory.max) p.instance ∙ made.max;
      waits = λ args. c.in_ok-waiting.ensures.prepared;
      place = c.in_ok-waiting.ensures.place;
    }
