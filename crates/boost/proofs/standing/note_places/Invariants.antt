use Rattle.std.proofs.Common.{◌≡◌, length, drop}
use Rattle.boost.specs.BookInvariant.{live_with}
use Rattle.boost.proofs.standing.note_places.Given as goal

abbrev pub invariant-loop-place : goal.invariant-loop-place
invariant-loop-place g l = record {
  noted : live_with l.place (drop l.place l.attempts) l.standings.items ≡ live_with l.fn.from (drop l.fn.from l.attempts) l.fn.standings.items;
  wide : length l.standings.items ≡ length l.fn.standings.items;
}
