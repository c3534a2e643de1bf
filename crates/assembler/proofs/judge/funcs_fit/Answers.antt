use Rattle.std.proofs.Common.{◌≡◌, length, rules}
use Rattle.assembler.proofs.Fitting.{funcs_judged}
use Rattle.assembler.proofs.judge.funcs_fit.Goals as goal

pub returns : goal.returns
returns g c =
    let fs = c.args.funcs.now.items in
    let count : c.len-are_few.result ≡ length fs = search rules in
    funcs_judged fs c.len-are_few.result c.all_within-fit.result count c.all_within-fit.ensures
