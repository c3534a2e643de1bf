use Rattle.std.proofs.Common.{◌+◌, ◌*◌, ◌≤◌, ◌∙◌, ap, sym, refl, arith, inl, inr, vec_len}
use Rattle.std.specs.Option.{option_or}
use Rattle.std.proofs.lemmas.Bool.{cases_lt}
use Rattle.std.proofs.lemmas.Option.{IfSome_then}
use Rattle.memory.specs.Start.{stands}
use Rattle.memory.proofs.RunLists.{next_later, none_stands, both_added}
use Rattle.memory.proofs.start.Start.over.Goals as goal

pub loop-at-init : goal.loop-at-init
loop-at-init g c = record {
  limit = omega arith;
  upper = λ k q. refl;
  lower = λ k q. refl;
  front = λ k q. absurd (omega (arith, q));
  free = λ k q. c.in_ok-both.ensures k;
}

pub add_either-requires-clause-above : goal.add_either-requires-clause-above
add_either-requires-clause-above g c =
    IfSome_then c.part_at-upper.result.from (c.part_at-upper.ensures.within (vec_len c.args.self.now.bytes) c.args.self.now.within) (λ from h. omega (arith, h, c.part_at-lower.ensures.most))

pub add_either-requires-clause-below : goal.add_either-requires-clause-below
add_either-requires-clause-below g c = c.part_at-lower.ensures.within (vec_len c.args.below.now.bytes) c.args.below.now.within

pub loop-at-preserved : goal.loop-at-preserved
loop-at-preserved g c =
    let above = c.args.self.now in let below = c.args.below.now in
    let at = c.loop-at.at in
    let kept = c.loop-at.invariant in
    let upper = c.part_at-upper.result in let lower = c.part_at-lower.result in
    let added = c.in_ok-both-2.ensures in
    record {
      limit = omega (arith, kept.limit, c.part_at-upper.ensures.most, c.part_at-lower.ensures.most);
      upper = next_later above.runs.items upper.index at (at + lower.count) (omega arith) c.part_at-upper.ensures.next;
      lower = next_later below.runs.items lower.index at (at + lower.count) (omega arith) c.part_at-lower.ensures.next;
      front = both_added above.runs.items below.runs.items above.bytes.items below.bytes.items at upper.from lower.from upper.count lower.count (stands c.loop-at.both) _
          c.part_at-lower.ensures.most c.part_at-upper.ensures.part c.part_at-lower.ensures.part added kept.front;
      free = added.behind;
    }

pub returns : goal.returns
returns g c = λ k.
    let above = c.args.self.now in let below = c.args.below.now in
    let kept = c.loop-at.invariant in
    elim (cases_lt k c.loop-at.at) [
      | inl l ↦ kept.front k l
      | inr l ↦ let past : 65536 * 1024 ≤ k = omega (arith, l, kept.limit, c.loop-at-test.false) in
          kept.free k l ∙ sym (ap (λ o. option_or o (stands below k)) (none_stands above.runs.items above.bytes.items k above.rising past) ∙ none_stands below.runs.items below.bytes.items k below.rising past)
    ]
