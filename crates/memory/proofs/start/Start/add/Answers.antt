use Rattle.std.proofs.Common.{arith, length, vec_len, subst}
use Rattle.memory.specs.Runs.{AreWithin}
use Rattle.memory.proofs.RunLists.{nothing_placed, added_run, within_more}
use Rattle.memory.proofs.start.Start.add.Goals as goal

pub add_run-requires-clause-free : goal.add_run-requires-clause-free
add_run-requires-clause-free g c = nothing_placed c.args.self.runs.items c.args.self.bytes.items c.args.at c.requires.free

pub invariant_of-result : goal.invariant_of-result
invariant_of-result g c =
    let s = c.args.self in
    record {
      rising = c.in_ok-add_run.ensures.rising;
      within = c.in_ok-add_run.ensures.within _ (within_more (vec_len s.bytes) _ s.runs.items (omega (arith, c.in_ok-extend_from_slice.ensures.len)) s.within) (omega (arith, c.in_ok-extend_from_slice.ensures.len));
    }

pub returns : goal.returns
returns g c =
    let s = c.args.self in
    let w : AreWithin (length s.bytes.items) s.runs.items = subst (λ n. AreWithin n s.runs.items) s.bytes.ok.0 s.within in
    added_run s.runs.items c.add_run.new.runs.items s.bytes.items c.args.bytes.now c.extend_from_slice.new.self.items c.args.at c.in-Ok.from (omega (arith, s.bytes.ok.0)) c.in_ok-extend_from_slice.ensures.items w c.requires.free c.in_ok-add_run.ensures.places
