use Rattle.std.proofs.Common.{◌≡◌, ◌+◌, ◌≤◌, ◌∙◌, subst, arith, vec_len}
use Rattle.std.specs.Prelude.{IfSome, slice_index}
use Rattle.std.proofs.lemmas.List.{get_or_read}
use Rattle.memory.specs.Runs.{IsPart}
use Rattle.memory.proofs.RunLists.{begun_here, begun_nowhere}
use Rattle.memory.proofs.start.Start.byte.Goals as goal

pub index-requires : goal.index-requires
index-requires g c =
    let s = c.args.self.now in
    let within = subst (λ o. IfSome o (λ from. from + c.part_at-part.result.count ≤ vec_len s.bytes)) c.in-Some.is (c.part_at-part.ensures.within (vec_len s.bytes) s.within) in
    omega (arith, within, c.part_at-part.ensures.some, s.bytes.ok.0)

pub returns-in-Some : goal.returns-in-Some
returns-in-Some g c =
    let s = c.args.self.now in
    let within = subst (λ o. IfSome o (λ from. from + c.part_at-part.result.count ≤ vec_len s.bytes)) c.in-Some.is (c.part_at-part.ensures.within (vec_len s.bytes) s.within) in
    let read : c.index.result.now ≡ slice_index s.bytes.items c.in-Some.from = get_or_read s.bytes.items c.in-Some.from c.index.result.now (omega (arith, within, c.part_at-part.ensures.some, s.bytes.ok.0)) c.index.ensures 0 in
    read ∙ begun_here s.runs.items s.bytes.items c.args.at c.in-Some.from c.part_at-part.result.count c.part_at-part.ensures.some
    (subst (λ o. IsPart s.runs.items c.args.at o c.part_at-part.result.count) c.in-Some.is c.part_at-part.ensures.part)

pub returns-in-None : goal.returns-in-None
returns-in-None g c =
    let s = c.args.self.now in
    begun_nowhere s.runs.items s.bytes.items c.args.at c.part_at-part.result.count c.part_at-part.ensures.some
    (subst (λ o. IsPart s.runs.items c.args.at o c.part_at-part.result.count) c.in-None.is c.part_at-part.ensures.part)
