use Rattle.std.proofs.Common.{refl}
use Rattle.laws_reduction.specs.Plain.{at_once, by_two}
use Rattle.laws_reduction.specs.Finding.{read_at}
use Rattle.interp_state.proofs.Doing.{did_local_set}
use Rattle.interp_state.proofs.plain_values.write_local.Goals as goal

pub returns : goal.returns
returns g c = record {
  set = λ stack. at_once (did_local_set _ c.args.x c.args.value _ _ stack c.args.locals.now.items _ refl refl (read_at c.args.locals.now.items c.args.x c.args.value c.requires) refl);
  tee = λ stack. by_two (record {
    local = c.args.x;
    kept = stack;
    value = c.args.value;
    old = _;
    tees = refl;
    before = refl;
    there = read_at c.args.locals.now.items c.args.x c.args.value c.requires;
    same = refl;
    set = refl;
  });
}
