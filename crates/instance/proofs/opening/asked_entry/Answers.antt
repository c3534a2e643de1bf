use Rattle.std.proofs.Common.{◌≡◌, Some, length, slice_get, refl}
use Rattle.std.proofs.lemmas.Option.{slice_get_read}
use Rattle.instance.proofs.Asking.{asked_opens, asked_refused}
use Rattle.instance.proofs.opening.asked_entry.Goals as goal

pub returns-in-Some-asked_function-clause-opens : goal.returns-in-Some-asked_function-clause-opens
returns-in-Some-asked_function-clause-opens g c = λ version.
    let lent = c.args.contracts.now in
    let contract = c.in-Some.contract.now in
    let item = c.in-Some.ensures.lookup in
    let is : slice_get lent c.args.number ≡ Some contract = slice_get_read lent (length lent) c.args.number contract refl item.3.0 item.1 in
    asked_opens lent c.args.level c.args.number c.args.export c.if-level-ge-LEVEL_LIMIT.false version contract is c.in-Some-asked_function.func c.in-Some-asked_function.ensures

pub returns-in-None-clause-refused : goal.returns-in-None-clause-refused
returns-in-None-clause-refused g c = λ version.
    let lent = c.args.contracts.now in
    let contract = c.in-Some.contract.now in
    let item = c.in-Some.ensures.lookup in
    let is : slice_get lent c.args.number ≡ Some contract = slice_get_read lent (length lent) c.args.number contract refl item.3.0 item.1 in
    asked_refused lent c.args.level c.args.number c.args.export c.if-level-ge-LEVEL_LIMIT.false version contract is c.in-None.ensures
