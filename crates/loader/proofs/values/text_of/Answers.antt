use Rattle.loader.proofs.Names.{name_found, no_name}
use Rattle.loader.proofs.values.text_of.Goals as goal

pub returns-in-Ok-clause-value : goal.returns-in-Ok-clause-value
returns-in-Ok-clause-value c =
    let s = c.in_ok-text in
    name_found c.args.bytes.now s.text.now c.in-Ok.text.now s.rest.now s.ensures.value c.in-Ok.ensures.cases.1 c.in-Ok.ensures.cases.0

pub returns-in-Err-clause-value : goal.returns-in-Err-clause-value
returns-in-Err-clause-value c =
    let s = c.in_ok-text in
    no_name c.args.bytes.now s.text.now s.rest.now s.ensures.value c.in-Err.ensures.cases.0
