use Rattle.std.proofs.Common.{◌≡◌, refl, ap, ◌∙◌, sym, subst, [], List}
use Rattle.wtypes.specs.declared.Value.{Value}
use Rattle.module_tree.specs.Modules.{module_view}
use Rattle.spec_typing.specs.Linking.{IsLinked}
use Rattle.spec_execution.specs.Configuration.{Contract, End, Invoke, arguments, fresh}
use Rattle.spec_execution.specs.Levels.{asks_in}
use Rattle.instance.specs.States.{IsFresh}
use Rattle.interp_state.specs.Waiting.{IsEntry, IsPrepared, alone}
use Rattle.interp.specs.Callee.{setting_view}
use Rattle.interp.specs.Run.{seen, levels_of, AreAround}
use Rattle.interp.proofs.Beginning.{based_fresh, safe_of, all_linked, contract_same, at_number, nothing_view, nothing_counted}
use Rattle.interp.proofs.Fresh.{is_first, is_start}
use Rattle.interp.proofs.Opened.{opened_entry}
use Rattle.interp.proofs.machine.begin_again.Goals as goal

pub prepare_in-requires-clause-entry : goal.prepare_in-requires-clause-entry
prepare_in-requires-clause-entry g c =
    let m = c.module-tree.result.now in
    let hosts = c.hosts.result.now in
    let open_is = contract_same c.args.version c.contract.result c.args.call.now.contract m hosts c.args.deployed.now c.args.deployed.now c.contract.ensures c.module-tree.ensures c.hosts.ensures refl in
    subst (λ (vs : List Value). IsEntry (at_number c.args.version c.contract.result m hosts) c.args.func vs) (sym c.args-2.ensures.args)
    (subst (λ (x : Contract). IsEntry x c.args.func c.args.call.now.args) (sym open_is.same) (opened_entry (setting_view c.args.version c.args.contracts.now) c.args.call.now _ c.args.func c.requires.opens))

-- of the machine before nothing is known but its call, whose instance stands
pub give_up-requires : goal.give_up-requires
give_up-requires g c =
    let kept = c.requires.kept in
    record {
      beginning = record {
        opens = kept.machine.opens;
        safe = kept.machine.safe;
        suits = ap (λ i. i.memory.max) c.prepare_in.ensures.instance ∙ kept.suits;
        waits = kept.waits;
        place = kept.place;
        around = kept.around;
        entered = kept.entered;
      };
    }

pub start_run-requires : goal.start_run-requires
start_run-requires g c =
    let m = c.module-tree.result.now in
    let i = c.in_ok-instance.instance in
    let made : IsFresh c.args.version i (module_view m) = subst (λ t. IsFresh c.args.version i (module_view t)) (sym c.module-tree.ensures) c.in_ok-instance.ensures in
    let hosts = c.hosts.result.now in
    let k : Contract = at_number c.args.version c.contract.result m hosts in
    let setting = setting_view c.args.version c.args.contracts.now in
    let open_is = contract_same c.args.version c.contract.result c.args.call.now.contract m hosts c.args.deployed.now c.args.deployed.now c.contract.ensures c.module-tree.ensures c.hosts.ensures refl in
    let q = c.empty_parts.new.parts in
    let p = c.empty_parts.ensures in
    let outer : c.clear.new.self.items ≡ [] = c.clear.ensures.items in
    record {
      first = is_first _
          (record {
            opens = c.requires.opens;
            safe = safe_of setting c.args.call.now _ c.args.func (all_linked c.args.contracts.now) c.deployed_calls_are_safe.ensures c.requires.opens;
            suits = ap (λ i. i.memory.max) p.instance ∙ made.max;
            waits = subst (λ (vs : List Value). IsPrepared k vs c.in-Ok.entry) c.args-2.ensures.args c.in-Ok.ensures.prepared;
            place = c.in-Ok.ensures.place;
            around = subst (AreAround c.args.call.now.args) (sym outer) tt;
            entered = ap asks_in (sym c.empty_list.ensures);
          })
          (nothing_counted q i p.instance p.code p.entries p.depth p.stack p.locals)
          (nothing_view q i p.instance p.code p.entries p.depth p.stack p.locals (fresh (module_view m)) ∙ ap (λ b. alone b [] []) (based_fresh c.args.version (module_view m) i made))
          (subst (λ (x : Contract). ∥ IsLinked x.deployed.tree x.deployed.hosts ∥₁) (sym open_is.same) c.args.deployed.now.linked)
          (record {
            trace = c.empty_list.ensures;
            used = refl;
            contract = open_is.same;
            tail = ap (λ f. arguments c.args.call.now.args (Invoke f End)) c.in-Ok.ensures.same;
            answer = refl;
            outermost = ap (levels_of c.args.call.now.args) outer;
          })
          outer
          refl;
    }

pub returns-in-Stepped-clause-start : goal.returns-in-Stepped-clause-start
returns-in-Stepped-clause-start g c =
    let m = c.module-tree.result.now in
    let hosts = c.hosts.result.now in
    let open_is = contract_same c.args.version c.contract.result c.args.call.now.contract m hosts c.args.deployed.now c.args.deployed.now c.contract.ensures c.module-tree.ensures c.hosts.ensures refl in
    is_start _ (seen c.start_run.new.run)
    (record {
      trace = c.empty_list.ensures;
      used = refl;
      contract = open_is.same;
      tail = ap (λ f. arguments c.args.call.now.args (Invoke f End)) c.in-Ok.ensures.same;
      answer = refl;
      outermost = ap (levels_of c.args.call.now.args) c.clear.ensures.items;
    })
    c.in-Stepped.ensures.begun
