use Rattle.std.proofs.Common.{◌≡◌, Option, Some, length, option_map, slice_get, refl, sym, ap, ◌∙◌, subst}
use Rattle.std.specs.Prelude.{option_and_then}
use Rattle.std.proofs.lemmas.Bool.{ltb-false}
use Rattle.std.proofs.lemmas.Option.{slice_get-map, slice_get_read}
use Rattle.spec_ledger.specs.declared.Version.TheVariants.{Two}
use Rattle.spec_execution.specs.Configuration.{Contract, Deployed}
use Rattle.spec_execution.specs.Run.{by_contract}
use Rattle.link.specs.Parts.{hosts_of}
use Rattle.instance.specs.Views.{deployed_view, contract_of, wrong_of, HasPlace}
use Rattle.interp.specs.Callee.{contract_view, contracts_view}
use Rattle.interp.proofs.Opened.{entry_defined}
use Rattle.interp.proofs.start.open_call.Goals as goal

pub returns-in-Ok-clause-defined : goal.returns-in-Ok-clause-defined
returns-in-Ok-clause-defined g c =
    let d = c.in-Some.deployed.now in
    let k : Contract = contract_of Two c.args.call.now.contract d in
    ltb-false c.in-Ok.func (length (hosts_of d)) (entry_defined Two (deployed_view d) c.args.call.now k c.in-Ok.func (c.in-Ok.ensures.opens Two))

pub returns-in-Ok-clause-opens : goal.returns-in-Ok-clause-opens
returns-in-Ok-clause-opens g c = λ version.
    let lent = c.args.contracts.now in
    let call = c.args.call.now in
    let item = c.in-Some.ensures.lookup in
    let found : slice_get lent c.contract.result ≡ Some c.in-Some.deployed.now = slice_get_read lent (length lent) c.contract.result c.in-Some.deployed.now refl item.3.0 item.1 in
    let seen : slice_get (contracts_view lent) call.contract ≡ Some (contract_view c.in-Some.deployed.now) =
    slice_get-map contract_view lent call.contract ∙ ap (option_map contract_view) (ap (slice_get lent) (sym c.contract.ensures) ∙ found) in
    ap (by_contract version call) seen ∙ c.in-Ok.ensures.opens version

pub returns-in-Err-clause-refused : goal.returns-in-Err-clause-refused
returns-in-Err-clause-refused g c = λ version.
    let lent = c.args.contracts.now in
    let call = c.args.call.now in
    let item = c.in-Some.ensures.lookup in
    let found : slice_get lent c.contract.result ≡ Some c.in-Some.deployed.now = slice_get_read lent (length lent) c.contract.result c.in-Some.deployed.now refl item.3.0 item.1 in
    let seen : slice_get (contracts_view lent) call.contract ≡ Some (contract_view c.in-Some.deployed.now) =
    slice_get-map contract_view lent call.contract ∙ ap (option_map contract_view) (ap (slice_get lent) (sym c.contract.ensures) ∙ found) in
    ap (by_contract version call) seen ∙ c.in-Err.ensures.refused version

pub returns-in-Err-clause-place : goal.returns-in-Err-clause-place
returns-in-Err-clause-place g c = λ version.
    let lent = c.args.contracts.now in
    let call = c.args.call.now in
    let item = c.in-Some.ensures.lookup in
    let found : slice_get lent c.contract.result ≡ Some c.in-Some.deployed.now = slice_get_read lent (length lent) c.contract.result c.in-Some.deployed.now refl item.3.0 item.1 in
    let seen : slice_get (contracts_view lent) call.contract ≡ Some (contract_view c.in-Some.deployed.now) =
    slice_get-map contract_view lent call.contract ∙ ap (option_map contract_view) (ap (slice_get lent) (sym c.contract.ensures) ∙ found) in
    subst (λ (d : Option Deployed). HasPlace (option_and_then (wrong_of call) d) c.in-Err.refusal) (sym seen) c.in-Err.ensures.place
