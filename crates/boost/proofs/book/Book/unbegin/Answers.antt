use Rattle.std.proofs.Common.{◌≡◌, ◌+◌, ◌-◌, get_or, set, slice_get, length, refl, sym, ◌∙◌, ap, subst, arith}
use Rattle.std.proofs.lemmas.Grind.{get_or_default_zero}
use Rattle.spec_ledger.specs.Book.{Attempt, Content, fresh}
use Rattle.boost.specs.AttemptNumbers.{BegunAs}
use Rattle.boost.proofs.Events.{last_row, last_standing}
use Rattle.boost.proofs.Numbered.{split_last, known_call, counted_past, IsBook-unbegin, BegunAs-unbegin, only_former}
use Rattle.boost.proofs.book.Book.unbegin.Goals as goal

pub release-requires : goal.release-requires
release-requires g c =
    let b : Content = record { opening = c.self.inside.opening.cells; now = c.self.inside.cells.cells; entries = c.self.inside.entries.items; attempts = c.self.inside.attempts.items; begun = c.self.inside.begun.items } in
    let split =
    split_last c.self.inside.attempts.items c.pop.new.self.items c.pop.result c.self.inside.attempts.len c.in-Some.last.now c.self.inside.attempts.ok.0 c.pop.ensures.items c.pop.ensures.value
    (c.in-Some.ensures.value ∙ ap (λ xs. slice_get xs (length xs - 1)) c.deref.ensures.value) in
    let is : c.in-Some.last.now ≡ fresh c.args.ticket.call c.args.ticket.number = c.if-not-is_fresh.ensures.0 refl in
    last_row b c.self.inside.cells.unsettled c.self.inside.locks c.self.inside.standings.items c.self.invariant.0 c.pop.new.self.items c.in-Some.last.now split c.args.ticket.call (sym (ap (λ (x : Attempt). x.call) is))

pub index_mut-requires : goal.index_mut-requires
index_mut-requires g c =
    let b : Content = record { opening = c.self.inside.opening.cells; now = c.self.inside.cells.cells; entries = c.self.inside.entries.items; attempts = c.self.inside.attempts.items; begun = c.self.inside.begun.items } in
    let split =
    split_last c.self.inside.attempts.items c.pop.new.self.items c.pop.result c.self.inside.attempts.len c.in-Some.last.now c.self.inside.attempts.ok.0 c.pop.ensures.items c.pop.ensures.value
    (c.in-Some.ensures.value ∙ ap (λ xs. slice_get xs (length xs - 1)) c.deref.ensures.value) in
    let is : c.in-Some.last.now ≡ fresh c.args.ticket.call c.args.ticket.number = c.if-not-is_fresh.ensures.0 refl in
    let below = last_standing b c.self.inside.cells.unsettled c.self.inside.locks c.self.inside.standings.items c.self.invariant.0 c.pop.new.self.items c.in-Some.last.now split c.args.ticket.call (sym (ap (λ (x : Attempt). x.call) is)) in
    omega (arith, below, c.self.inside.standings.ok.0)

pub invariant_of-self : goal.invariant_of-self
invariant_of-self g c =
    let b : Content = record { opening = c.self.inside.opening.cells; now = c.self.inside.cells.cells; entries = c.self.inside.entries.items; attempts = c.self.inside.attempts.items; begun = c.self.inside.begun.items } in
    let split =
    split_last c.self.inside.attempts.items c.pop.new.self.items c.pop.result c.self.inside.attempts.len c.in-Some.last.now c.self.inside.attempts.ok.0 c.pop.ensures.items c.pop.ensures.value
    (c.in-Some.ensures.value ∙ ap (λ xs. slice_get xs (length xs - 1)) c.deref.ensures.value) in
    let is : c.in-Some.last.now ≡ fresh c.args.ticket.call c.args.ticket.number = c.if-not-is_fresh.ensures.0 refl in (
      IsBook-unbegin b c.self.inside.cells.unsettled c.self.inside.locks c.self.inside.standings.items c.self.invariant.0 c.pop.new.self.items c.in-Some.last.now split c.args.ticket.call c.args.ticket.number is c.args.count c.release.new.self c.release.ensures _ refl _ refl,
      omega (arith, c.self.invariant.1, c.pop.ensures.len),
    )

pub returns-clause-ok : goal.returns-clause-ok
returns-clause-ok g c =
    let b : Content = record { opening = c.self.inside.opening.cells; now = c.self.inside.cells.cells; entries = c.self.inside.entries.items; attempts = c.self.inside.attempts.items; begun = c.self.inside.begun.items } in
    let split =
    split_last c.self.inside.attempts.items c.pop.new.self.items c.pop.result c.self.inside.attempts.len c.in-Some.last.now c.self.inside.attempts.ok.0 c.pop.ensures.items c.pop.ensures.value
    (c.in-Some.ensures.value ∙ ap (λ xs. slice_get xs (length xs - 1)) c.deref.ensures.value) in
    let is : c.in-Some.last.now ≡ fresh c.args.ticket.call c.args.ticket.number = c.if-not-is_fresh.ensures.0 refl in
    let below = known_call b c.self.inside.cells.unsettled c.self.inside.locks c.self.inside.standings.items c.self.invariant.0 c.pop.new.self.items c.in-Some.last.now split c.args.ticket.call c.args.ticket.number is in
    let past = counted_past b c.self.inside.cells.unsettled c.self.inside.locks c.self.inside.standings.items c.self.invariant.0 c.pop.new.self.items c.in-Some.last.now split c.args.ticket.call c.args.ticket.number is in
    let count : c.index.result.now ≡ get_or c.self.inside.begun.items c.args.ticket.call 0 = c.index.ensures ∙ get_or_default_zero c.self.inside.begun.items c.args.ticket.call c.index.result.now below in
    let was : get_or c.self.inside.begun.items c.args.ticket.call 0 ≡ c.args.ticket.number + 1 = omega (arith, past, count, c.if-index-ticket.false) in
    let begun = BegunAs-unbegin b c.self.inside.cells.unsettled c.self.inside.locks c.self.inside.standings.items c.self.invariant.0 c.pop.new.self.items c.in-Some.last.now split c.args.ticket.call c.args.ticket.number is c.args.count (set c.self.inside.begun.items c.args.ticket.call c.args.count) refl c.if-count-ticket.false was in
    let done : BegunAs (record { opening = c.self.inside.opening.cells; now = c.self.inside.cells.cells; entries = c.self.inside.entries.items; attempts = c.pop.new.self.items; begun = set c.self.inside.begun.items c.args.ticket.call c.args.count }) c.args.self.now c.args.ticket.call c.args.ticket.number = subst (λ x. BegunAs (record { opening = c.self.inside.opening.cells; now = c.self.inside.cells.cells; entries = c.self.inside.entries.items; attempts = c.pop.new.self.items; begun = set c.self.inside.begun.items c.args.ticket.call c.args.count }) x c.args.ticket.call c.args.ticket.number) c.self.view_is begun.0 in
    (done, begun.1)

pub returns-clause-former : goal.returns-clause-former
returns-clause-former g c = λ former h e.
    let b : Content = record { opening = c.self.inside.opening.cells; now = c.self.inside.cells.cells; entries = c.self.inside.entries.items; attempts = c.self.inside.attempts.items; begun = c.self.inside.begun.items } in
    let split =
    split_last c.self.inside.attempts.items c.pop.new.self.items c.pop.result c.self.inside.attempts.len c.in-Some.last.now c.self.inside.attempts.ok.0 c.pop.ensures.items c.pop.ensures.value
    (c.in-Some.ensures.value ∙ ap (λ xs. slice_get xs (length xs - 1)) c.deref.ensures.value) in
    let is : c.in-Some.last.now ≡ fresh c.args.ticket.call c.args.ticket.number = c.if-not-is_fresh.ensures.0 refl in
    let below = known_call b c.self.inside.cells.unsettled c.self.inside.locks c.self.inside.standings.items c.self.invariant.0 c.pop.new.self.items c.in-Some.last.now split c.args.ticket.call c.args.ticket.number is in
    let past = counted_past b c.self.inside.cells.unsettled c.self.inside.locks c.self.inside.standings.items c.self.invariant.0 c.pop.new.self.items c.in-Some.last.now split c.args.ticket.call c.args.ticket.number is in
    let count : c.index.result.now ≡ get_or c.self.inside.begun.items c.args.ticket.call 0 = c.index.ensures ∙ get_or_default_zero c.self.inside.begun.items c.args.ticket.call c.index.result.now below in
    let was : get_or c.self.inside.begun.items c.args.ticket.call 0 ≡ c.args.ticket.number + 1 = omega (arith, past, count, c.if-index-ticket.false) in
    let begun = BegunAs-unbegin b c.self.inside.cells.unsettled c.self.inside.locks c.self.inside.standings.items c.self.invariant.0 c.pop.new.self.items c.in-Some.last.now split c.args.ticket.call c.args.ticket.number is c.args.count (set c.self.inside.begun.items c.args.ticket.call c.args.count) refl c.if-count-ticket.false was in
    let done : BegunAs (record { opening = c.self.inside.opening.cells; now = c.self.inside.cells.cells; entries = c.self.inside.entries.items; attempts = c.pop.new.self.items; begun = set c.self.inside.begun.items c.args.ticket.call c.args.count }) c.args.self.now c.args.ticket.call c.args.ticket.number = subst (λ x. BegunAs (record { opening = c.self.inside.opening.cells; now = c.self.inside.cells.cells; entries = c.self.inside.entries.items; attempts = c.pop.new.self.items; begun = set c.self.inside.begun.items c.args.ticket.call c.args.count }) x c.args.ticket.call c.args.ticket.number) c.self.view_is begun.0 in
    only_former (record { opening = c.self.inside.opening.cells; now = c.self.inside.cells.cells; entries = c.self.inside.entries.items; attempts = c.pop.new.self.items; begun = set c.self.inside.begun.items c.args.ticket.call c.args.count }) former c.args.self.now c.args.ticket.call c.args.ticket.number c.args.count done h begun.1 e
