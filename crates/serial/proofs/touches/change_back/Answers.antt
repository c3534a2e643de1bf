use Rattle.std.proofs.Common.{refl, sym, subst}
use Rattle.std.specs.Prelude.{IsSome}
use Rattle.storage.specs.Slots.{cell_back}
use Rattle.serial.specs.declared.touches.Touch.{Touch}
use Rattle.serial.proofs.Places.{mode_absent, found_kept, later_changed, modes_kept}
use Rattle.serial.proofs.touches.change_back.Goals as goal

pub unreachable-requires : goal.unreachable-requires
unreachable-requires g c = let no = subst IsSome (sym (mode_absent c.args.touches.now c.args.lock c.in_default.ensures.value)) c.requires in cc

pub returns-clause-found : goal.returns-clause-found
returns-clause-found g c =
    let touch = c.in-Some.touch.now in
    let there = subst (λ o. IsSome o) c.in-Some.ensures.value refl in
    let next : Touch = record { mode = touch.mode; found = touch.found; later = c.former_cell.result } in
    found_kept c.args.touches.now c.args.lock touch c.in-Some.ensures.value (c.get_mut.follows.lender next) next ((c.get_mut.follows.holds next).3 there).0 refl

pub returns-clause-later : goal.returns-clause-later
returns-clause-later g c =
    let touch = c.in-Some.touch.now in
    let there = subst (λ o. IsSome o) c.in-Some.ensures.value refl in
    let next : Touch = record { mode = touch.mode; found = touch.found; later = c.former_cell.result } in
    later_changed c.args.touches.now c.args.lock touch c.in-Some.ensures.value (c.get_mut.follows.lender next) next ((c.get_mut.follows.holds next).3 there).0 (cell_back c.args.inverse) c.former_cell.ensures

pub returns-clause-modes : goal.returns-clause-modes
returns-clause-modes g c =
    let touch = c.in-Some.touch.now in
    let there = subst (λ o. IsSome o) c.in-Some.ensures.value refl in
    let next : Touch = record { mode = touch.mode; found = touch.found; later = c.former_cell.result } in
    modes_kept c.args.touches.now c.args.lock touch c.in-Some.ensures.value (c.get_mut.follows.lender next) next ((c.get_mut.follows.holds next).3 there).0 refl
