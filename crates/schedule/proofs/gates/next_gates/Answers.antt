use Rattle.std.proofs.Common.{◌≡◌, ◌↔◌, ◌+◌, Some, None, take, get_or, sym, ap, subst, ◌∙◌, arith}
use Rattle.std.proofs.lemmas.List.{take_all}
use Rattle.std.specs.List.{Contains}
use Rattle.std.specs.BTreeMap.{get}
use Rattle.spec_ledger.specs.declared.Kind.TheVariants.{Map}
use Rattle.spec_ledger.specs.declared.Mode.TheVariants.{Read}
use Rattle.spec_ledger.specs.declared.Entry.{Entry}
use Rattle.lock_profile.specs.declared.lock_turn.LockTurn.{LockTurn}
use Rattle.lock_profile.specs.LockTurns.{turn_cmp}
use Rattle.schedule.specs.Turns.{next_turn, IsHeld}
use Rattle.lock_profile.proofs.Places.{derived_is}
use Rattle.schedule.proofs.Numbered.{fits_next, next_more, next_none}
use Rattle.schedule.proofs.gates.next_gates.Goals as goal
use Rattle.schedule.proofs.gates.next_gates.Goals.{in-Some+in_ok-push, in_default}

pub overflow_add-next : goal.overflow_add-next
overflow_add-next g c = fits_next c.args.entries.now c.loop-entry.entry-index _ c.requires c.loop-entry-test.true

pub loop-entry-preserved : goal.loop-entry-preserved
loop-entry-preserved g c = λ gate.
    let none : Entry = record { lock = record { contract = 0; kind = Map; key = 0 }; mode = Read; turn = 0 } in
    let i = c.loop-entry.entry-index in
    let at : LockTurn = next_turn (get_or c.args.entries.now i none) in
    elim c.match-get.branch [
      | in-Some+in_ok-push w ↦
          let is : get turn_cmp c.args.numbers.now at ≡ Some w.in-Some.gate.now = sym (w.in-Some.ensures.value ∙ ap (λ R. get R c.args.numbers.now at) derived_is) in
          subst (λ xs. Contains xs gate ↔ IsHeld (get turn_cmp c.args.numbers.now) (take (i + 1) c.args.entries.now) gate) (sym (ap (λ v. v.items) w.list-is ∙ w.in_ok-push.ensures.items))
          (next_more (get turn_cmp c.args.numbers.now) c.args.entries.now i none gate c.loop-entry.list.items w.in-Some.gate.now c.loop-entry-test.true is (c.loop-entry.invariant gate))
      | in_default w ↦
          let is : get turn_cmp c.args.numbers.now at ≡ None = sym (w.in_default.ensures.value ∙ ap (λ R. get R c.args.numbers.now at) derived_is) in
          subst (λ xs. Contains xs gate ↔ IsHeld (get turn_cmp c.args.numbers.now) (take (i + 1) c.args.entries.now) gate) (sym (ap (λ v. v.items) w.list-is))
          (next_none (get turn_cmp c.args.numbers.now) c.args.entries.now i none gate c.loop-entry.list.items c.loop-entry-test.true is (c.loop-entry.invariant gate))
    ]

pub returns : goal.returns
returns g c = λ gate. subst (λ xs. Contains c.loop-entry.list.items gate ↔ IsHeld (get turn_cmp c.args.numbers.now) xs gate) (take_all c.loop-entry.entry-index c.args.entries.now (omega (arith, c.loop-entry-test.false))) (c.loop-entry.invariant gate)
