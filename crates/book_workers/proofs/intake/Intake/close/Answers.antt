use Rattle.std.proofs.Common.{rules, ap, subst, ◌≡◌, [], ◌∷◌, ◌++◌, length, length-append, arith}
use Rattle.book_workers.specs.Accounts.{merged}
use Rattle.book_workers.specs.Seats.{account, IsSeatAt}
use Rattle.book_workers.proofs.Joins.{joins}
use Rattle.book_workers.proofs.Closes.{Closed, closes}
use Rattle.book_workers.proofs.Pools.{Pooled, pooled, All-front, none_left}
use Rattle.book_workers.proofs.intake.Intake.close.Goals as goal

pub join_seat-requires : goal.join_seat-requires
join_seat-requires g c = (search rules, search rules, search rules, search rules, joins _ _ _ _ _ (search rules) (search rules))

pub loop-seat-preserved : goal.loop-seat-preserved
loop-seat-preserved g c =
    let popped : c.loop-seat.seats.items ≡ c.pop-in-loop-seat.new.self.items ++ c.in-Some-pop.field-0 ∷ [] = search rules in
    let joined : c.join_seat.new.seat.me.0 ≡ merged c.loop-seat.whole.me.0 (account c.in-Some-pop.field-0) = search rules in
    let was : Pooled c.args.seats.items c.loop-seat.seats.items c.loop-seat.whole.me.0 = record { drawn = c.loop-seat.invariant.drawn; granted = c.loop-seat.invariant.granted; refused = c.loop-seat.invariant.refused; done = c.loop-seat.invariant.done } in
    let p = pooled _ _ _ _ _ _ popped joined was in
    let longer = ap length popped in
    let more = length-append c.pop-in-loop-seat.new.self.items (c.in-Some-pop.field-0 ∷ []) in
    let parts = ap (λ v. v.parts) joined in
    record {
      table = search rules;
      no_slot = search rules;
      limits = search rules;
      seats = All-front (IsSeatAt c.args.self.table.shared.table_id c.args.self.table.shared.key) _ _ _ popped c.loop-seat.invariant.seats;
      some_part = omega arith;
      parts = omega arith;
      drawn = p.drawn;
      granted = p.granted;
      refused = p.refused;
      done = p.done;
    }

whole : (g : Rattle.book_workers.proofs.intake.Intake.close.Given.Over) (c : goal.After-drop-seats g) → Closed c.args.self.limits c.args.seats.items c.word-left.result
whole g c =
    let nothing : length c.loop-seat.seats.items ≡ 0 = search rules in
    let none : c.loop-seat.seats.items ≡ [] = none_left c.loop-seat.seats.items nothing in
    let same : c.args.self.table.shared.key ≡ c.args.self.limits = search rules in
    let seats = ap (λ k. k.seats) same in
    let all = c.loop-seat.invariant.parts in
    let was : Pooled c.args.seats.items c.loop-seat.seats.items c.loop-seat.whole.me.0 = record { drawn = c.loop-seat.invariant.drawn; granted = c.loop-seat.invariant.granted; refused = c.loop-seat.invariant.refused; done = c.loop-seat.invariant.done } in
    subst (λ k. Closed k c.args.seats.items c.word-left.result) same (closes _ _ _ _ _ _ _ _ (c.close_with-closed.ensures.values.2) (omega arith) c.word-left.ensures none was)

pub returns-clause-draws : goal.returns-clause-draws
returns-clause-draws g c = (whole g c).draws

pub returns-clause-fuel : goal.returns-clause-fuel
returns-clause-fuel g c = (whole g c).fuel

pub returns-clause-refused : goal.returns-clause-refused
returns-clause-refused g c = (whole g c).refused
