-- A machine before its first turn: nothing was told, no fuel was used, and no level is around.
use Rattle.std.proofs.Common.{◌≡◌, [], length, ap, arith}
use Rattle.module_tree.specs.Modules.{module_view}
use Rattle.spec_typing.specs.Linking.{IsLinked}
use Rattle.spec_execution.specs.Configuration.{End, Invoke, arguments, fresh}
use Rattle.spec_execution.specs.Levels.{no_answer}
use Rattle.interp_state.specs.Steps.{IsCounted}
use Rattle.interp_state.specs.Waiting.{alone}
use Rattle.interp.specs.declared.turns.Status.TheVariants as status
use Rattle.interp.specs.declared.run.Run.{Run}
use Rattle.interp.specs.Progress.{IsStartOf}
use Rattle.interp.specs.Machine.{Seen, progress, IsBegunAs}
use Rattle.interp.specs.Run.{seen, IsBegun, IsFirst}
use Rattle.interp.proofs.Beginning.{firsts_same, reached_at_first, start_of}

-- the innermost level is the outer one, and its entry, with the arguments of the call, waits
pub record IsUntouched (s : Seen) : Type 0 where
  pub trace : s.trace ≡ []
  pub used : s.used ≡ 0
  pub contract : s.contract ≡ s.first
  pub tail : s.tail ≡ arguments s.call.args (Invoke s.func End)
  pub answer : s.answer ≡ no_answer
  pub outermost : s.outer ≡ []

pub is_first : {A : Type 0} (r : Run A) → IsBegun r → IsCounted r.parts → (seen r).view ≡ alone (fresh (module_view r.lent.module.now)) [] [] → ∥ IsLinked (module_view r.lent.module.now) r.lent.hosts.now ∥₁ →
    IsUntouched (seen r) → r.outer.items ≡ [] → r.status ≡ status.Running → IsFirst r
is_first r begun counted view linked none outer running = record {
  begun = begun;
  counted = counted;
  view = view;
  linked = linked;
  reached = reached_at_first (seen r) none.trace none.used (firsts_same (seen r) none.contract none.tail none.answer none.outermost);
  within = (let used = none.used in omega (arith, used));
  room = (let trace = ap length none.trace in let around = ap length outer in omega (arith, trace, around, r.trace.ok.0));
  running = running;
}

pub is_start : (s t : Seen) → IsUntouched s → IsBegunAs s t → IsStartOf s.setting s.call (progress t)
is_start s t none begun = start_of s t none.trace none.used (firsts_same s none.contract none.tail none.answer none.outermost) none.outermost begun
