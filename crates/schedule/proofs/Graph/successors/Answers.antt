use Rattle.std.proofs.Common.{◌≡◌, ◌↔◌, ◌<◌, ℕ, List, [], length, ap, subst, sym, ◌∙◌, arith}
use Rattle.std.proofs.lemmas.List.{get_or_read, get_or_past}
use Rattle.std.specs.List.{Contains}
use Rattle.spec_ledger.specs.declared.Entry.{Entry}
use Rattle.spec_block.specs.Schedule.{IsEdge}
use Rattle.schedule.specs.Graph.{gathered, list_at}
use Rattle.schedule.proofs.Lists.{among_these, nothing}
use Rattle.schedule.proofs.Boards.{successors_exact}
use Rattle.schedule.proofs.Graph.successors.Goals as goal

pub all_behind-requires : goal.all_behind-requires
all_behind-requires g c = λ gate k.
    let s = c.self.inside in
    let held : c.args.position < length s.gates.holds.items = omega (arith, c.if-at-len.false, c.len.ensures) in
    let its : c.as_slice.result.now ≡ list_at s.gates.holds.items c.args.position = c.as_slice.ensures ∙ get_or_read s.gates.holds.items c.args.position _ held c.index.ensures [] in
    let within = c.self.invariant.gates c.args.position gate (among_these _ _ gate its k) in
    let same : length c.deref.result.now ≡ length s.gates.behind.items = ap length c.deref.ensures.value in
    omega (arith, within, same)

pub returns-then-at-len-clause-exact : goal.returns-then-at-len-clause-exact
returns-then-at-len-clause-exact g c = λ j.
    let s = c.self.inside in
    let past : list_at s.gates.holds.items c.args.position ≡ [] = get_or_past s.gates.holds.items c.args.position [] (omega (arith, c.if-at-len.true, c.len.ensures)) in
    let exact : (j : ℕ) → Contains c.new.result.items j ↔ Contains (gathered s.gates.behind.items (list_at s.gates.holds.items c.args.position)) j =
    λ j. (λ k. absurd (nothing j (among_these _ [] j c.new.ensures.items k)), λ k. absurd (nothing j (among_these _ [] j (ap (gathered s.gates.behind.items) past) k))) in
    subst (λ (ps : List (List Entry)). Contains c.new.result.items j ↔ IsEdge ps c.args.position j) (ap (λ p. p.profiles) c.self.view_is)
    (successors_exact s.profiles.items s.gates.holds.items s.gates.behind.items c.self.invariant c.args.position c.new.result.items exact j)

pub returns-clause-exact : goal.returns-clause-exact
returns-clause-exact g c = λ j.
    let s = c.self.inside in
    let held : c.args.position < length s.gates.holds.items = omega (arith, c.if-at-len.false, c.len.ensures) in
    let its : c.as_slice.result.now ≡ list_at s.gates.holds.items c.args.position = c.as_slice.ensures ∙ get_or_read s.gates.holds.items c.args.position _ held c.index.ensures [] in
    let listed : c.in_ok-list.list.items ≡ gathered s.gates.behind.items (list_at s.gates.holds.items c.args.position) = c.in_ok-list.ensures ∙ (λ i. gathered (c.deref.ensures.value i) (its i)) in
    let exact : (j : ℕ) → Contains c.rising.result.items j ↔ Contains (gathered s.gates.behind.items (list_at s.gates.holds.items c.args.position)) j =
    λ j. (λ k. among_these _ _ j listed ((c.rising.ensures.same j).0 k), λ k. (c.rising.ensures.same j).1 (among_these _ _ j (sym listed) k)) in
    subst (λ (ps : List (List Entry)). Contains c.rising.result.items j ↔ IsEdge ps c.args.position j) (ap (λ p. p.profiles) c.self.view_is)
    (successors_exact s.profiles.items s.gates.holds.items s.gates.behind.items c.self.invariant c.args.position c.rising.result.items exact j)
