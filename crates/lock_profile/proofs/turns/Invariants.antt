use Rattle.std.proofs.Common.{◌≡◌, ℕ, ◌+◌, ◌<◌, take, drop, length, get_or, []}
use Rattle.lock_profile.specs.Turns.{profile_at}
use Rattle.lock_profile.specs.Groups.{all_held, turns_from}
use Rattle.lock_profile.proofs.Orders.{groups_in}
use Rattle.lock_profile.proofs.turns.Given as goal

abbrev pub invariant-loop-one : goal.invariant-loop-one
invariant-loop-one g l =
    (length l.profiles.items ≡ l.one-index) × ((p : ℕ) → p < l.one-index → get_or l.profiles.items p [] ≡ profile_at l.touched p)
    × (l.start + length (all_held (drop l.one-index l.touched)) ≡ length l.turns.items)
    × (drop l.start l.turns.items ≡ turns_from (groups_in (take l.one-index l.touched)) (all_held (drop l.one-index l.touched)))
