use Rattle.std.proofs.Common.{◌≡◌, ◌≤◌, ◌+◌, ◌++◌, length, take, map}
use Rattle.std.specs.Prelude.{vec_len, vec_capacity}
use Rattle.spec_execution.specs.Reduction.{zero_of}
use Rattle.interp_state.proofs.calls.fill.Given as goal

abbrev pub invariant-loop-value : goal.invariant-loop-value
invariant-loop-value g l = record {
  items : l.locals.items ≡ take l.value-index l.args;
  len : vec_len l.locals ≡ l.value-index;
  room : length l.args + length l.declared ≤ vec_capacity l.locals;
}

abbrev pub invariant-loop-t : goal.invariant-loop-t
invariant-loop-t g l = record {
  items : l.locals.items ≡ l.args ++ map zero_of (take l.t-index l.declared);
  len : vec_len l.locals ≡ length l.args + l.t-index;
  room : length l.args + length l.declared ≤ vec_capacity l.locals;
}
