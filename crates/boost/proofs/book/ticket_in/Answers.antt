use Rattle.std.proofs.Common.{refl}
use Rattle.boost.proofs.Standings.{none_there, one_there}
use Rattle.boost.proofs.book.ticket_in.Goals as goal

pub returns-in_default-clause-none : goal.returns-in_default-clause-none
returns-in_default-clause-none g c = none_there c.args.attempts.now c.args.standings.now c.requires c.args.call c.in_default.ensures.none

pub returns-clause-found : goal.returns-clause-found
returns-clause-found g c = (
  refl,
  one_there c.args.attempts.now c.args.standings.now c.requires c.args.call c.in-Some.place c.in-Some.ensures.found c.index-attempts-place.result c.index-attempts-place.is c.number-number.result c.number-number.ensures,
)
