use Rattle.std.proofs.Common.{◌+◌, ◌++◌, ◌≤◌, ◌∙◌, ap, arith, length, vec_len}
use Rattle.std.specs.Prelude.{IfSome}
use Rattle.std.proofs.lemmas.Option.{IfSome_then}
use Rattle.memory.specs.Runs.{begun, part_bytes}
use Rattle.memory.specs.Start.{stands}
use Rattle.memory.proofs.RunLists.{next_later, part_is}
use Rattle.memory.proofs.Copies.{nothing_more, appended_more}
use Rattle.memory.proofs.start.Start.append.Goals as goal

pub loop-done-init : goal.loop-done-init
loop-done-init g c = record {
  within = omega arith;
  next = next_later c.args.self.now.runs.items c.find-index.result c.args.at (c.args.at + 0) (omega arith) c.find-index.ensures;
  bytes = nothing_more c.args.bytes.now.items;
}

pub append_part-requires-clause-within : goal.append_part-requires-clause-within
append_part-requires-clause-within g c = c.part_at-part.ensures.within (vec_len c.args.self.now.bytes) c.args.self.now.within

pub loop-done-preserved : goal.loop-done-preserved
loop-done-preserved g c =
    let s = c.args.self.now in
    let f = begun (stands s) in
    let done = c.loop-done.done in
    let part = c.part_at-part.result in
    let kept = c.loop-done.invariant in
    let held : IfSome part.from (λ f. f + part.count ≤ length s.bytes.items) = IfSome_then part.from (c.part_at-part.ensures.within (vec_len s.bytes) s.within) (λ from h. omega (arith, h, s.bytes.ok.0)) in
    record {
      within = omega (arith, c.part_at-part.ensures.most);
      next = next_later s.runs.items part.index (c.args.at + done) (c.args.at + (done + part.count)) (omega arith) c.part_at-part.ensures.next;
      bytes = c.in_ok-append_part.ensures ∙ (ap (λ l. l ++ part_bytes s.bytes.items part.from part.count) kept.bytes ∙ (appended_more c.args.bytes.now.items f c.args.at done part.count (part_bytes s.bytes.items part.from part.count) (part_is s.runs.items s.bytes.items (c.args.at + done) part.from part.count c.part_at-part.ensures.part held)));
    }
