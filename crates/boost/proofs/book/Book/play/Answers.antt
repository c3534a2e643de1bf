use Rattle.std.proofs.Common.{map, subst}
use Rattle.spec_ledger.specs.Book.{Content}
use Rattle.boost.specs.Play.{Plays, event_of}
use Rattle.boost.proofs.book.Book.play.Goals as goal

pub returns : goal.returns
returns g c =
    subst (λ (b : Content). Plays b (map event_of c.args.events.now) c.in_ok-answers.answers.items c.play_all.new.self)
    (λ i. record { opening = c.in_ok-book.ensures.opening i; now = c.in_ok-book.ensures.now i; entries = c.in_ok-book.ensures.entries i; attempts = c.in_ok-book.ensures.attempts i; begun = c.in_ok-book.ensures.begun i })
    c.in_ok-answers.ensures
