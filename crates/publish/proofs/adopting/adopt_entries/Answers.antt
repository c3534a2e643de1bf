use Rattle.std.proofs.Common.{◌≡◌, ◌+◌, ◌∷◌, ◌++◌, [], ◌<◌, ◌≤◌, false, true, take, length, refl, ◌∙◌, ap, arith}
use Rattle.std.specs.FinMap.{empty}
use Rattle.std.proofs.lemmas.List.{take_more}
use Rattle.spec_execution.specs.Run.{ContractCall}
use Rattle.spec_ledger.specs.declared.Receipt.{Receipt}
use Rattle.spec_ledger.specs.declared.Version.TheVariants.{Two}
use Rattle.interp.specs.Callee.{setting_view}
use Rattle.publish.proofs.Keeping.{WalkState, opened, kept_opened}
use Rattle.publish.proofs.Walking.{as_many_locks, as_many_entries, walked_none, walked_on, is_run_here, known_here, no_room_here, follows_here, fits_next, used_next, all_order, all_ran, all_follow, all_kept}
use Rattle.publish.proofs.adopting.adopt_entries.Goals as goal

pub returns-then-entries-runs-clause-answer : goal.returns-then-entries-runs-clause-answer
returns-then-entries-runs-clause-answer g c = (
  λ t. absurd (let no : false ≡ true = t in cc),
  λ f. absurd (let even = as_many_entries _ c.args.fuel [] c.args.entries.now c.args.runs.now f in omega (arith, even, c.if-entries-runs.true)),
)

pub loop-place-init : goal.loop-place-init
loop-place-init g c =
    let s = c.in_ok-so_far.so_far in
    let e = c.in_ok-so_far.ensures in
    let b : WalkState = record { order = s.order.items; receipts = s.receipts.items; touched = []; marks = s.marks.items; remaining = s.remaining; used = s.used; counts = empty } in
    let kept = kept_opened (setting_view Two c.args._contracts.now) c.args.calls.now c.args._cells.now.cells c.args.fuel b c.args._cells.now.cells c.requires.calls refl e.order e.receipts refl e.marks e.remaining e.used refl in
    walked_none (setting_view Two c.args._contracts.now) c.args.calls.now c.args._cells.now.cells c.args.fuel c.args.entries.now c.args.runs.now c.args.touched.items b kept e.order e.receipts c.requires.replies c.requires.runs

pub returns-then-not-is_run_of-clause-answer : goal.returns-then-not-is_run_of-clause-answer
returns-then-not-is_run_of-clause-answer g c =
    let p = opened (setting_view Two c.args._contracts.now) c.args.calls.now c.args._cells.now.cells c.args.fuel in
    let es = c.args.entries.now in
    let rs = c.args.runs.now in
    let ms = c.args.touched.items in
    let i = c.loop-place.place in
    let s = c.loop-place.so_far in
    let b : WalkState = record { order = s.order.items; receipts = s.receipts.items; touched = take i ms; marks = s.marks.items; remaining = s.remaining; used = s.used; counts = empty } in
    let even : length es ≡ length rs = omega (arith, c.if-entries-runs.false) in
    let locked = as_many_locks (setting_view Two c.args._contracts.now) c.args.calls.now rs ms c.requires.runs in
    let e = c.index-entries-place in
    let r = c.index-runs-place in
    let below : i < length rs = omega (arith, c.loop-place-test.true) in
    (λ t. absurd (let no : false ≡ true = t in cc), λ f. c.if-not-is_run_of.ensures.1 (is_run_here p es rs ms b i e.result r.result below even locked e.is r.is c.loop-place.invariant f))

pub has_room-requires : goal.has_room-requires
has_room-requires g c =
    let p = opened (setting_view Two c.args._contracts.now) c.args.calls.now c.args._cells.now.cells c.args.fuel in
    let es = c.args.entries.now in
    let rs = c.args.runs.now in
    let ms = c.args.touched.items in
    let i = c.loop-place.place in
    let s = c.loop-place.so_far in
    let b : WalkState = record { order = s.order.items; receipts = s.receipts.items; touched = take i ms; marks = s.marks.items; remaining = s.remaining; used = s.used; counts = empty } in
    let even : length es ≡ length rs = omega (arith, c.if-entries-runs.false) in
    let locked = as_many_locks (setting_view Two c.args._contracts.now) c.args.calls.now rs ms c.requires.runs in
    let e = c.index-entries-place in
    let r = c.index-runs-place in
    let below : i < length rs = omega (arith, c.loop-place-test.true) in
    known_here p es rs ms b i e.result r.result below even locked e.is r.is c.loop-place.invariant

pub returns-then-not-has_room-clause-answer : goal.returns-then-not-has_room-clause-answer
returns-then-not-has_room-clause-answer g c =
    let p = opened (setting_view Two c.args._contracts.now) c.args.calls.now c.args._cells.now.cells c.args.fuel in
    let es = c.args.entries.now in
    let rs = c.args.runs.now in
    let ms = c.args.touched.items in
    let i = c.loop-place.place in
    let s = c.loop-place.so_far in
    let b : WalkState = record { order = s.order.items; receipts = s.receipts.items; touched = take i ms; marks = s.marks.items; remaining = s.remaining; used = s.used; counts = empty } in
    let even : length es ≡ length rs = omega (arith, c.if-entries-runs.false) in
    let locked = as_many_locks (setting_view Two c.args._contracts.now) c.args.calls.now rs ms c.requires.runs in
    let e = c.index-entries-place in
    let r = c.index-runs-place in
    let below : i < length rs = omega (arith, c.loop-place-test.true) in
    let limit = c.fuel-limit.ensures ∙ ap (λ (k : ContractCall). k.fuel) c.call.ensures in
    (λ t. absurd (let no : false ≡ true = t in cc), λ f. absurd (no_room_here p es rs ms b i e.result r.result below even locked e.is r.is c.loop-place.invariant c.fuel-limit.result limit false c.if-not-has_room.ensures refl f))

pub note-requires-clause-known : goal.note-requires-clause-known
note-requires-clause-known g c =
    let p = opened (setting_view Two c.args._contracts.now) c.args.calls.now c.args._cells.now.cells c.args.fuel in
    let es = c.args.entries.now in
    let rs = c.args.runs.now in
    let ms = c.args.touched.items in
    let i = c.loop-place.place in
    let s = c.loop-place.so_far in
    let b : WalkState = record { order = s.order.items; receipts = s.receipts.items; touched = take i ms; marks = s.marks.items; remaining = s.remaining; used = s.used; counts = empty } in
    let even : length es ≡ length rs = omega (arith, c.if-entries-runs.false) in
    let locked = as_many_locks (setting_view Two c.args._contracts.now) c.args.calls.now rs ms c.requires.runs in
    let e = c.index-entries-place in
    let r = c.index-runs-place in
    let below : i < length rs = omega (arith, c.loop-place-test.true) in
    let known = known_here p es rs ms b i e.result r.result below even locked e.is r.is c.loop-place.invariant in
    omega (arith, known, ap length c.reserve_next.ensures.marks)

pub note-requires-clause-fits : goal.note-requires-clause-fits
note-requires-clause-fits g c =
    let p = opened (setting_view Two c.args._contracts.now) c.args.calls.now c.args._cells.now.cells c.args.fuel in
    let es = c.args.entries.now in
    let rs = c.args.runs.now in
    let ms = c.args.touched.items in
    let i = c.loop-place.place in
    let s = c.loop-place.so_far in
    let b : WalkState = record { order = s.order.items; receipts = s.receipts.items; touched = take i ms; marks = s.marks.items; remaining = s.remaining; used = s.used; counts = empty } in
    let even : length es ≡ length rs = omega (arith, c.if-entries-runs.false) in
    let locked = as_many_locks (setting_view Two c.args._contracts.now) c.args.calls.now rs ms c.requires.runs in
    let e = c.index-entries-place in
    let r = c.index-runs-place in
    let below : i < length rs = omega (arith, c.loop-place-test.true) in
    let limit = c.fuel-limit.ensures ∙ ap (λ (k : ContractCall). k.fuel) c.call.ensures in
    let is = c.if-not-is_run_of.ensures.0 refl in
    let follows = follows_here p es rs ms b i e.result r.result below even locked e.is r.is c.loop-place.invariant c.fuel-limit.result limit true c.if-not-has_room.ensures refl in
    let fits = fits_next p es rs ms b i e.result r.result below even locked e.is r.is c.loop-place.invariant c.fuel-limit.result limit follows is c.is_played.ensures in
    omega (arith, fits, c.reserve_next.ensures.remaining)

pub note-requires-clause-used : goal.note-requires-clause-used
note-requires-clause-used g c =
    let p = opened (setting_view Two c.args._contracts.now) c.args.calls.now c.args._cells.now.cells c.args.fuel in
    let es = c.args.entries.now in
    let rs = c.args.runs.now in
    let ms = c.args.touched.items in
    let i = c.loop-place.place in
    let s = c.loop-place.so_far in
    let b : WalkState = record { order = s.order.items; receipts = s.receipts.items; touched = take i ms; marks = s.marks.items; remaining = s.remaining; used = s.used; counts = empty } in
    let even : length es ≡ length rs = omega (arith, c.if-entries-runs.false) in
    let locked = as_many_locks (setting_view Two c.args._contracts.now) c.args.calls.now rs ms c.requires.runs in
    let e = c.index-entries-place in
    let r = c.index-runs-place in
    let below : i < length rs = omega (arith, c.loop-place-test.true) in
    let limit = c.fuel-limit.ensures ∙ ap (λ (k : ContractCall). k.fuel) c.call.ensures in
    let is = c.if-not-is_run_of.ensures.0 refl in
    let follows = follows_here p es rs ms b i e.result r.result below even locked e.is r.is c.loop-place.invariant c.fuel-limit.result limit true c.if-not-has_room.ensures refl in
    let used = used_next p es rs ms b i e.result r.result below even locked e.is r.is c.loop-place.invariant c.fuel-limit.result limit follows is c.is_played.ensures c.ranges.fuel.fits in
    let used_is = ap (λ (r : Receipt). r.used) c.receipt-receipt.ensures in
    omega (arith, used, c.reserve_next.ensures.used, used_is)

pub loop-place-preserved : goal.loop-place-preserved
loop-place-preserved g c =
    let p = opened (setting_view Two c.args._contracts.now) c.args.calls.now c.args._cells.now.cells c.args.fuel in
    let es = c.args.entries.now in
    let rs = c.args.runs.now in
    let ms = c.args.touched.items in
    let i = c.loop-place.place in
    let s = c.loop-place.so_far in
    let b : WalkState = record { order = s.order.items; receipts = s.receipts.items; touched = take i ms; marks = s.marks.items; remaining = s.remaining; used = s.used; counts = empty } in
    let even : length es ≡ length rs = omega (arith, c.if-entries-runs.false) in
    let locked = as_many_locks (setting_view Two c.args._contracts.now) c.args.calls.now rs ms c.requires.runs in
    let e = c.index-entries-place in
    let r = c.index-runs-place in
    let below : i < length rs = omega (arith, c.loop-place-test.true) in
    let limit = c.fuel-limit.ensures ∙ ap (λ (k : ContractCall). k.fuel) c.call.ensures in
    let is = c.if-not-is_run_of.ensures.0 refl in
    let follows = follows_here p es rs ms b i e.result r.result below even locked e.is r.is c.loop-place.invariant c.fuel-limit.result limit true c.if-not-has_room.ensures refl in
    let room = c.reserve_next.new.self in
    let made = c.reserve_next.ensures in
    let new = c.note.new.self in
    let put = c.note.ensures in
    let roomy : WalkState = record { order = room.order.items; receipts = room.receipts.items; touched = take i ms; marks = room.marks.items; remaining = room.remaining; used = room.used; counts = empty } in
    let after : WalkState = record { order = new.order.items; receipts = new.receipts.items; touched = take (i + 1) ms; marks = new.marks.items; remaining = new.remaining; used = new.used; counts = empty } in
    walked_on p es rs ms b i e.result r.result below even locked e.is r.is c.loop-place.invariant c.fuel-limit.result limit follows is c.is_played.ensures roomy after made.order made.receipts refl made.marks made.remaining made.used
    put.order (put.receipts ∙ ap (λ (r : Receipt). room.receipts.items ++ r ∷ []) c.receipt-receipt.ensures) (take_more ms i empty (omega (arith, below, locked))) put.marks put.remaining (put.used ∙ ap (λ (r : Receipt). room.used + r.used) c.receipt-receipt.ensures) refl

pub returns-clause-answer : goal.returns-clause-answer
returns-clause-answer g c =
    let p = opened (setting_view Two c.args._contracts.now) c.args.calls.now c.args._cells.now.cells c.args.fuel in
    let es = c.args.entries.now in
    let rs = c.args.runs.now in
    let ms = c.args.touched.items in
    let i = c.loop-place.place in
    let s = c.loop-place.so_far in
    let b : WalkState = record { order = s.order.items; receipts = s.receipts.items; touched = take i ms; marks = s.marks.items; remaining = s.remaining; used = s.used; counts = empty } in
    let even : length es ≡ length rs = omega (arith, c.if-entries-runs.false) in
    let locked = as_many_locks (setting_view Two c.args._contracts.now) c.args.calls.now rs ms c.requires.runs in
    let all : length rs ≤ i = omega (arith, c.loop-place-test.false) in
    (λ _. all_follow p es rs ms b i all even locked refl c.loop-place.invariant, λ _. refl)

pub returns-clause-kept : goal.returns-clause-kept
returns-clause-kept g c =
    let p = opened (setting_view Two c.args._contracts.now) c.args.calls.now c.args._cells.now.cells c.args.fuel in
    let es = c.args.entries.now in
    let rs = c.args.runs.now in
    let ms = c.args.touched.items in
    let i = c.loop-place.place in
    let s = c.loop-place.so_far in
    let b : WalkState = record { order = s.order.items; receipts = s.receipts.items; touched = take i ms; marks = s.marks.items; remaining = s.remaining; used = s.used; counts = empty } in
    let even : length es ≡ length rs = omega (arith, c.if-entries-runs.false) in
    let locked = as_many_locks (setting_view Two c.args._contracts.now) c.args.calls.now rs ms c.requires.runs in
    let all : length rs ≤ i = omega (arith, c.loop-place-test.false) in
    all_kept p es rs ms b i all even locked refl c.loop-place.invariant

pub returns-clause-order : goal.returns-clause-order
returns-clause-order g c =
    let p = opened (setting_view Two c.args._contracts.now) c.args.calls.now c.args._cells.now.cells c.args.fuel in
    let es = c.args.entries.now in
    let rs = c.args.runs.now in
    let ms = c.args.touched.items in
    let i = c.loop-place.place in
    let s = c.loop-place.so_far in
    let b : WalkState = record { order = s.order.items; receipts = s.receipts.items; touched = take i ms; marks = s.marks.items; remaining = s.remaining; used = s.used; counts = empty } in
    let even : length es ≡ length rs = omega (arith, c.if-entries-runs.false) in
    let locked = as_many_locks (setting_view Two c.args._contracts.now) c.args.calls.now rs ms c.requires.runs in
    let all : length rs ≤ i = omega (arith, c.loop-place-test.false) in
    all_order p es rs ms b i all even locked refl c.loop-place.invariant

pub returns-clause-ran : goal.returns-clause-ran
returns-clause-ran g c =
    let p = opened (setting_view Two c.args._contracts.now) c.args.calls.now c.args._cells.now.cells c.args.fuel in
    let es = c.args.entries.now in
    let rs = c.args.runs.now in
    let ms = c.args.touched.items in
    let i = c.loop-place.place in
    let s = c.loop-place.so_far in
    let b : WalkState = record { order = s.order.items; receipts = s.receipts.items; touched = take i ms; marks = s.marks.items; remaining = s.remaining; used = s.used; counts = empty } in
    let even : length es ≡ length rs = omega (arith, c.if-entries-runs.false) in
    let locked = as_many_locks (setting_view Two c.args._contracts.now) c.args.calls.now rs ms c.requires.runs in
    let all : length rs ≤ i = omega (arith, c.loop-place-test.false) in
    all_ran p es rs ms b i all even locked refl c.loop-place.invariant
