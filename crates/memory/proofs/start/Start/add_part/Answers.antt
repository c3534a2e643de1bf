use Rattle.std.proofs.Common.{◌+◌, ◌-◌, sym, subst, arith, length, vec_len, ◌≤◌, take, drop}
use Rattle.std.specs.Prelude.{Some, slice_index, option_map, IfOk, IfSome}
use Rattle.std.proofs.lemmas.Result.{IfOk-weaker}
use Rattle.memory.specs.Runs.{HasAdded}
use Rattle.memory.specs.Start.{stands}
use Rattle.memory.proofs.RunLists.{added_slice, added_none}
use Rattle.memory.proofs.start.Start.add_part.Goals as goal

pub returns-in-Some : goal.returns-in-Some
returns-in-Some g c =
    let all = c.args.all.now.items in
    let from = c.in-Some.from in
    let n = from + c.args.count - from in
    subst (λ o. IfOk c.add.result (λ s. HasAdded (stands c.args.self) c.args.at (λ j. option_map (λ place. slice_index all (place + j)) o) c.args.count (stands s))) (sym c.in-Some.is)
    (IfOk-weaker c.add.result _ _
    (λ s h. added_slice (stands c.args.self) (stands s) c.args.at all from c.args.count n (omega arith) (omega (arith, c.args.all.now.ok.0, subst (λ o. IfSome o (λ from. from + c.args.count ≤ vec_len c.args.all.now)) c.in-Some.is c.requires.within))
    (subst (λ xs. HasAdded (stands c.args.self) c.args.at (λ j. Some (slice_index (take n (drop from xs)) j)) (length (take n (drop from xs))) (stands s)) c.deref.ensures.value h)) c.add.ensures)

pub returns-in-None : goal.returns-in-None
returns-in-None g c =
    subst (λ o. HasAdded (stands c.args.self) c.args.at (λ j. option_map (λ place. slice_index c.args.all.now.items (place + j)) o) c.args.count (stands c.args.self)) (sym c.in-None.is)
    (added_none (stands c.args.self) c.args.at c.args.count c.requires.free)
