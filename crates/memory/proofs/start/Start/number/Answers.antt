use Rattle.std.proofs.Common.{◌+◌, ◌≤◌, ◌∙◌, subst, arith, vec_len}
use Rattle.std.specs.Prelude.{IfSome}
use Rattle.std.proofs.lemmas.Option.{IfSome_then}
use Rattle.memory.specs.Runs.{IsPart}
use Rattle.memory.proofs.RunLists.{number_there}
use Rattle.memory.proofs.start.Start.number.Goals as goal

pub read_number-requires : goal.read_number-requires
read_number-requires g c =
    let s = c.args.self.now in
    let within = subst (λ o. IfSome o (λ from. from + c.part_at-part.result.count ≤ vec_len s.bytes)) c.in-Some.is (c.part_at-part.ensures.within (vec_len s.bytes) s.within) in
    omega (arith, within)

pub returns-in-Some-clause-value : goal.returns-in-Some-clause-value
returns-in-Some-clause-value g c =
    let s = c.args.self.now in
    IfSome_then c.read_number.result c.read_number.ensures.value (λ number h. h
    ∙ number_there s.runs.items s.bytes.items c.args.at c.in-Some.from c.part_at-part.result.count c.args.width (omega arith) (subst (λ o. IsPart s.runs.items c.args.at o c.part_at-part.result.count) c.in-Some.is c.part_at-part.ensures.part))
