use Rattle.std.proofs.Common.{rules, ◌≡◌, ◌<◌, ◌↔◌, ℕ, false, List, length, replicate, get_or, sym, ◌∙◌, ap, subst, arith}
use Rattle.std.specs.List.{Contains}
use Rattle.std.specs.List.Sorted.{IsStrictlyIncreasing}
use Rattle.schedule.specs.Graph.{list_at}
use Rattle.schedule.specs.Board.{count_in, pending, zeros}
use Rattle.schedule.proofs.Lists.{among_these}
use Rattle.schedule.proofs.Boards.{board_opened, opened}
use Rattle.schedule.proofs.board.Board.open.Goals as goal

pub holders_of-requires-clause-few : goal.holders_of-requires-clause-few
holders_of-requires-clause-few g c =
    let size : length c.deref-2.result.now ≡ length c.graph.inside.gates.holds.items = ap length c.deref-2.ensures.value in
    let each = c.graph.invariant.each in
    let few = c.graph.invariant.few in
    omega (arith, size, each, few)

pub holders_of-requires-clause-rising : goal.holders_of-requires-clause-rising
holders_of-requires-clause-rising g c = λ i.
    let Rises : List ℕ → Type 0 = λ xs. IsStrictlyIncreasing xs in
    subst Rises (ap (λ hs. list_at hs i) (sym c.deref-2.ensures.value)) (c.graph.invariant.gates_rise i)

pub holders_of-requires-clause-within : goal.holders_of-requires-clause-within
holders_of-requires-clause-within g c = λ i gate k.
    let lt = c.graph.invariant.gates i gate (among_these _ _ gate (ap (λ hs. list_at hs i) c.deref-2.ensures.value) k) in
    omega (arith, lt, c.len.ensures)

pub shut_of-requires-clause-few : goal.shut_of-requires-clause-few
shut_of-requires-clause-few g c =
    let size : length c.deref-3.result.now ≡ length c.graph.inside.gates.behind.items = ap length c.deref-3.ensures.value in
    let few = c.graph.invariant.few_gates in
    omega (arith, size, few)

pub shut_of-requires-clause-each : goal.shut_of-requires-clause-each
shut_of-requires-clause-each g c =
    let size : length c.deref-3.result.now ≡ length c.graph.inside.gates.behind.items = ap length c.deref-3.ensures.value in
    let left : length c.deref-4.result.now ≡ length c.in_ok-left.left.items = ap length c.deref-4.ensures.value in
    let each = c.in_ok-left.ensures.each in
    omega (arith, size, left, each, c.len.ensures)

pub shut_of-requires-clause-rising : goal.shut_of-requires-clause-rising
shut_of-requires-clause-rising g c = λ i.
    let Rises : List ℕ → Type 0 = λ xs. IsStrictlyIncreasing xs in
    subst Rises (ap (λ hs. list_at hs i) (sym c.deref-3.ensures.value)) (c.graph.invariant.positions_rise i)

pub shut_of-requires-clause-within : goal.shut_of-requires-clause-within
shut_of-requires-clause-within g c = λ gate j k.
    let lt = c.graph.invariant.positions gate j (among_these _ _ j (ap (λ hs. list_at hs gate) c.deref-3.ensures.value) k) in
    let same : length c.in_ok-profiles.profiles.items ≡ length c.graph.inside.profiles.items = ap length (c.in_ok-profiles.ensures ∙ c.deref.ensures.value) in
    omega (arith, lt, same, c.len-2.ensures)

pub invariant_of-result : goal.invariant_of-result
invariant_of-result g c =
    let ps = c.graph.inside.profiles.items in
    let hs = c.graph.inside.gates.holds.items in
    let bs = c.graph.inside.gates.behind.items in
    let profiles : c.in_ok-profiles.profiles.items ≡ ps = c.in_ok-profiles.ensures ∙ c.deref.ensures.value in
    let size : length c.in_ok-profiles.profiles.items ≡ length ps = ap length profiles in
    let each = c.in_ok-left.ensures.each in
    let positions = c.in_ok-shut.ensures.each in
    let none : c.in_ok-ended.ended.items ≡ replicate (length ps) false = search rules in
    let counts : (gate : ℕ) → gate < length bs → get_or c.in_ok-left.left.items gate 0 ≡ count_in hs gate =
    λ gate lt. c.in_ok-left.ensures.counts gate (omega (arith, lt, c.len.ensures)) ∙ ap (λ xs. count_in xs gate) c.deref-2.ensures.value in
    let closed : (j : ℕ) → j < length ps → get_or c.in_ok-shut.shut.items j 0 ≡ pending bs (zeros c.in_ok-left.left.items) j =
    λ j lt. c.in_ok-shut.ensures.counts j (omega (arith, lt, size, c.len-2.ensures)) ∙ (λ i. pending (c.deref-3.ensures.value i) (zeros (c.deref-4.ensures.value i)) j) in
    let exact = subst (λ (xs : List ℕ). (j : ℕ) → Contains c.in_ok-ready.ready.items j ↔ ((j < length xs) × (get_or xs j 0 ≡ 0))) c.deref-5.ensures.value c.in_ok-ready.ensures.exact in
    opened ps hs bs c.graph.invariant c.in_ok-profiles.profiles.items c.in_ok-gates.gates.holds.items c.in_ok-gates.gates.behind.items profiles c.in_ok-gates.ensures.holds c.in_ok-gates.ensures.behind
    c.in_ok-left.left.items c.in_ok-shut.shut.items c.in_ok-ended.ended.items c.in_ok-ready.ready.items
    (board_opened ps hs bs c.graph.invariant c.in_ok-left.left.items c.in_ok-shut.shut.items c.in_ok-ended.ended.items c.in_ok-ready.ready.items
    (omega (arith, each, c.len.ensures)) (omega (arith, positions, size, c.len-2.ensures)) none counts closed c.in_ok-ready.ensures.rises exact)
