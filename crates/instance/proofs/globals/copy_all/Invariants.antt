use Rattle.std.proofs.Common.{◌≡◌, ◌≤◌, length, take, vec_len, vec_capacity}
use Rattle.instance.proofs.globals.copy_all.Given as goal

abbrev pub invariant-loop-value : goal.invariant-loop-value
invariant-loop-value g l = record {
  items : l.own.items ≡ take l.value-index l.lent;
  len : vec_len l.own ≡ l.value-index;
  room : length l.lent ≤ vec_capacity l.own;
}
