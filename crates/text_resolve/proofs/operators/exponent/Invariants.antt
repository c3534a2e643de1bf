use Rattle.std.proofs.Common.{◌≡◌, ◌-◌, ◌^◌, ◌≤◌}
use Rattle.text_resolve.specs.Plain.{exponent_from, exponent_at}
use Rattle.text_resolve.proofs.operators.exponent.Given as goal

abbrev pub invariant-loop-e : goal.invariant-loop-e
invariant-loop-e l = record { power : l.power ≡ 2 ^ l.e; low : l.e ≤ 32; so_far : exponent_at l.n ≡ exponent_from (32 - l.e) l.e l.n }
