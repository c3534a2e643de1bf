use Rattle.std.proofs.Common.{◌≡◌, ◌==◌, ◌↔◌, ◌+◌, ◌<◌, ◌≤◌, ℕ, List, true, false, filter, set, [], length, get_or, refl, sym, ap, subst, ◌∙◌, arith}
use Rattle.std.proofs.lemmas.List.{get_or_read}
use Rattle.std.specs.List.{Contains}
use Rattle.spec_ledger.specs.declared.Entry.{Entry}
use Rattle.spec_block.specs.Schedule.{IsEdge}
use Rattle.schedule.specs.Graph.{gathered, list_at}
use Rattle.schedule.specs.Board.{IsWaiting, IsFree, count_of}
use Rattle.schedule.proofs.Lists.{among_these, default_within}
use Rattle.schedule.proofs.Boards.{is_waiting, never_waits, waiting_within, gates_within, enough_held, opening_within, list_within, enough_shut, board_after, freed_exact}
use Rattle.schedule.proofs.board.Board.end.Goals as goal

pub returns-then-at-len-clause-not_ready : goal.returns-then-at-len-clause-not_ready
returns-then-at-len-clause-not_ready g c =
    let s = c.self.inside in (
      λ e. absurd (cc e),
      λ w. absurd (
          let lt = waiting_within s.profiles.items s.gates.holds.items s.gates.behind.items s.left.items s.shut.items s.ended.items s.ready.items c.self.invariant c.args.position (subst (λ v. IsWaiting v c.args.position) (sym c.self.view_is) w) in
          let ends = c.self.invariant.each_end in
          omega (arith, lt, ends, c.if-at-len.true, c.len.ensures)),
    )

pub returns-then-index-ne0-clause-not_ready : goal.returns-then-index-ne0-clause-not_ready
returns-then-index-ne0-clause-not_ready g c =
    let s = c.self.inside in
    let ends = c.self.invariant.each_end in
    let lt : c.args.position < length s.profiles.items = omega (arith, ends, c.if-at-len.false, c.len.ensures) in
    let size = c.self.invariant.each_position in
    let read : c.index.result.now ≡ get_or s.shut.items c.args.position 0 = get_or_read s.shut.items c.args.position _ (omega (arith, lt, size)) c.index.ensures 0 in
    let waits = is_waiting s.profiles.items s.gates.holds.items s.gates.behind.items s.left.items s.shut.items s.ended.items s.ready.items c.self.invariant c.args.position lt (λ none. c.if-index-ne0.true (read ∙ none)) in
    (λ _. subst (λ v. IsWaiting v c.args.position) c.self.view_is waits, λ _. refl)

pub returns-then-index-clause-not_ready : goal.returns-then-index-clause-not_ready
returns-then-index-clause-not_ready g c =
    let s = c.self.inside in
    let ends = c.self.invariant.each_end in
    let lt : c.args.position < length s.profiles.items = omega (arith, ends, c.if-at-len.false, c.len.ensures) in (
      λ e. absurd (cc e),
      λ w. absurd (never_waits s.profiles.items s.gates.holds.items s.gates.behind.items s.left.items s.shut.items s.ended.items s.ready.items c.self.invariant c.args.self.now c.args.position c.index.result.now c.self.view_is lt c.index.ensures c.if-index-ne0.false w),
    )

pub last_held-requires : goal.last_held-requires
last_held-requires g c = λ gate k.
    let s = c.self.inside in
    let ends = c.self.invariant.each_end in
    let each = c.self.invariant.gates.each in
    let lt : c.args.position < length s.gates.holds.items = omega (arith, ends, each, c.if-at-len.false, c.len.ensures) in
    let is : c.as_slice.result.now ≡ list_at s.gates.holds.items c.args.position = c.as_slice.ensures ∙ get_or_read s.gates.holds.items c.args.position _ lt c.index-3.ensures [] in
    let within = gates_within s.profiles.items s.gates.holds.items s.gates.behind.items s.left.items s.shut.items s.ended.items s.ready.items c.self.invariant c.args.position gate (among_these c.as_slice.result.now _ gate is k) in
    let same : length c.deref.result.now ≡ length s.left.items = ap length c.deref.ensures.value in
    omega (arith, within, same)

pub lower-requires-clause-within : goal.lower-requires-clause-within
lower-requires-clause-within g c = λ gate k.
    let s = c.self.inside in
    let ends = c.self.invariant.each_end in
    let each = c.self.invariant.gates.each in
    let lt : c.args.position < length s.gates.holds.items = omega (arith, ends, each, c.if-at-len.false, c.len.ensures) in
    let is : c.as_slice-2.result.now ≡ list_at s.gates.holds.items c.args.position = c.as_slice-2.ensures ∙ get_or_read s.gates.holds.items c.args.position _ lt c.index-4.ensures [] in
    gates_within s.profiles.items s.gates.holds.items s.gates.behind.items s.left.items s.shut.items s.ended.items s.ready.items c.self.invariant c.args.position gate (among_these c.as_slice-2.result.now _ gate is k)

pub lower-requires-clause-enough : goal.lower-requires-clause-enough
lower-requires-clause-enough g c = λ j k.
    let s = c.self.inside in
    let ends = c.self.invariant.each_end in
    let each = c.self.invariant.gates.each in
    let lt : c.args.position < length s.profiles.items = omega (arith, ends, c.if-at-len.false, c.len.ensures) in
    let held : c.args.position < length s.gates.holds.items = omega (arith, lt, each) in
    let new : get_or s.ended.items c.args.position false ≡ false = sym (get_or_read s.ended.items c.args.position _ (omega (arith, lt, ends)) c.index-2.ensures false) ∙ c.if-index.false in
    let is : c.as_slice-2.result.now ≡ list_at s.gates.holds.items c.args.position = c.as_slice-2.ensures ∙ get_or_read s.gates.holds.items c.args.position _ held c.index-4.ensures [] in
    subst (λ xs. count_of j xs ≤ get_or s.left.items j 0) (sym is) (enough_held s.profiles.items s.gates.holds.items s.gates.behind.items s.left.items s.shut.items s.ended.items s.ready.items c.self.invariant c.args.position lt new j k)

pub all_behind-requires : goal.all_behind-requires
all_behind-requires g c = λ gate k.
    let s = c.self.inside in
    let ends = c.self.invariant.each_end in
    let each = c.self.invariant.gates.each in
    let lt : c.args.position < length s.profiles.items = omega (arith, ends, c.if-at-len.false, c.len.ensures) in
    let held : c.args.position < length s.gates.holds.items = omega (arith, lt, each) in
    let new : get_or s.ended.items c.args.position false ≡ false = sym (get_or_read s.ended.items c.args.position _ (omega (arith, lt, ends)) c.index-2.ensures false) ∙ c.if-index.false in
    let its : c.as_slice.result.now ≡ list_at s.gates.holds.items c.args.position = c.as_slice.ensures ∙ get_or_read s.gates.holds.items c.args.position _ held c.index-3.ensures [] in
    let opens : c.in-Ok.opening.items ≡ filter (λ g. get_or s.left.items g 0 == 1) (list_at s.gates.holds.items c.args.position) = c.in-Ok.ensures ∙ (λ i. filter (λ g. get_or (c.deref.ensures.value i) g 0 == 1) (its i)) in
    let within = opening_within s.profiles.items s.gates.holds.items s.gates.behind.items s.left.items s.shut.items s.ended.items s.ready.items c.self.invariant c.args.position lt new c.in-Ok.opening.items opens gate (among_these _ _ gate c.deref-3.ensures.value k) in
    let same : length c.deref-2.result.now ≡ length s.gates.behind.items = ap length c.deref-2.ensures.value in
    omega (arith, within, same)

pub lower-requires-2-clause-within : goal.lower-requires-2-clause-within
lower-requires-2-clause-within g c = λ j k.
    let s = c.self.inside in
    let ends = c.self.invariant.each_end in
    let each = c.self.invariant.gates.each in
    let lt : c.args.position < length s.profiles.items = omega (arith, ends, c.if-at-len.false, c.len.ensures) in
    let held : c.args.position < length s.gates.holds.items = omega (arith, lt, each) in
    let new : get_or s.ended.items c.args.position false ≡ false = sym (get_or_read s.ended.items c.args.position _ (omega (arith, lt, ends)) c.index-2.ensures false) ∙ c.if-index.false in
    let its : c.as_slice.result.now ≡ list_at s.gates.holds.items c.args.position = c.as_slice.ensures ∙ get_or_read s.gates.holds.items c.args.position _ held c.index-3.ensures [] in
    let opens : c.in-Ok.opening.items ≡ filter (λ g. get_or s.left.items g 0 == 1) (list_at s.gates.holds.items c.args.position) = c.in-Ok.ensures ∙ (λ i. filter (λ g. get_or (c.deref.ensures.value i) g 0 == 1) (its i)) in
    let listed : c.in-Ok-all_behind.list.items ≡ gathered s.gates.behind.items c.in-Ok.opening.items = c.in-Ok-all_behind.ensures ∙ (λ i. gathered (c.deref-2.ensures.value i) (c.deref-3.ensures.value i)) in
    list_within s.profiles.items s.gates.holds.items s.gates.behind.items s.left.items s.shut.items s.ended.items s.ready.items c.self.invariant c.args.position lt new c.in-Ok.opening.items opens j (among_these _ _ j (c.deref-4.ensures.value ∙ listed) k)

pub lower-requires-2-clause-enough : goal.lower-requires-2-clause-enough
lower-requires-2-clause-enough g c = λ j k.
    let s = c.self.inside in
    let ends = c.self.invariant.each_end in
    let each = c.self.invariant.gates.each in
    let lt : c.args.position < length s.profiles.items = omega (arith, ends, c.if-at-len.false, c.len.ensures) in
    let held : c.args.position < length s.gates.holds.items = omega (arith, lt, each) in
    let new : get_or s.ended.items c.args.position false ≡ false = sym (get_or_read s.ended.items c.args.position _ (omega (arith, lt, ends)) c.index-2.ensures false) ∙ c.if-index.false in
    let its : c.as_slice.result.now ≡ list_at s.gates.holds.items c.args.position = c.as_slice.ensures ∙ get_or_read s.gates.holds.items c.args.position _ held c.index-3.ensures [] in
    let opens : c.in-Ok.opening.items ≡ filter (λ g. get_or s.left.items g 0 == 1) (list_at s.gates.holds.items c.args.position) = c.in-Ok.ensures ∙ (λ i. filter (λ g. get_or (c.deref.ensures.value i) g 0 == 1) (its i)) in
    let listed : c.in-Ok-all_behind.list.items ≡ gathered s.gates.behind.items c.in-Ok.opening.items = c.in-Ok-all_behind.ensures ∙ (λ i. gathered (c.deref-2.ensures.value i) (c.deref-3.ensures.value i)) in
    let is : c.as_slice-2.result.now ≡ list_at s.gates.holds.items c.args.position = c.as_slice-2.ensures ∙ get_or_read s.gates.holds.items c.args.position _ held c.index-4.ensures [] in
    let low : (g : ℕ) → g < length s.left.items → get_or c.lower.new.counts.items g 0 + count_of g (list_at s.gates.holds.items c.args.position) ≡ get_or s.left.items g 0 =
    λ g k. (let l = c.lower.ensures.lowered g k in subst (λ xs. get_or c.lower.new.counts.items g 0 + count_of g xs ≡ get_or s.left.items g 0) is l) in
    subst (λ xs. count_of j xs ≤ get_or s.shut.items j 0) (sym (c.deref-4.ensures.value ∙ listed))
    (enough_shut s.profiles.items s.gates.holds.items s.gates.behind.items s.left.items s.shut.items s.ended.items s.ready.items c.self.invariant c.args.position lt new c.in-Ok.opening.items opens c.lower.new.counts.items c.lower.ensures.same low j k)

pub invariant_of-self : goal.invariant_of-self
invariant_of-self g c =
    let s = c.self.inside in
    let ends = c.self.invariant.each_end in
    let each = c.self.invariant.gates.each in
    let lt : c.args.position < length s.profiles.items = omega (arith, ends, c.if-at-len.false, c.len.ensures) in
    let held : c.args.position < length s.gates.holds.items = omega (arith, lt, each) in
    let new : get_or s.ended.items c.args.position false ≡ false = sym (get_or_read s.ended.items c.args.position _ (omega (arith, lt, ends)) c.index-2.ensures false) ∙ c.if-index.false in
    let its : c.as_slice.result.now ≡ list_at s.gates.holds.items c.args.position = c.as_slice.ensures ∙ get_or_read s.gates.holds.items c.args.position _ held c.index-3.ensures [] in
    let opens : c.in-Ok.opening.items ≡ filter (λ g. get_or s.left.items g 0 == 1) (list_at s.gates.holds.items c.args.position) = c.in-Ok.ensures ∙ (λ i. filter (λ g. get_or (c.deref.ensures.value i) g 0 == 1) (its i)) in
    let listed : c.in-Ok-all_behind.list.items ≡ gathered s.gates.behind.items c.in-Ok.opening.items = c.in-Ok-all_behind.ensures ∙ (λ i. gathered (c.deref-2.ensures.value i) (c.deref-3.ensures.value i)) in
    let is : c.as_slice-2.result.now ≡ list_at s.gates.holds.items c.args.position = c.as_slice-2.ensures ∙ get_or_read s.gates.holds.items c.args.position _ held c.index-4.ensures [] in
    let low : (g : ℕ) → g < length s.left.items → get_or c.lower.new.counts.items g 0 + count_of g (list_at s.gates.holds.items c.args.position) ≡ get_or s.left.items g 0 =
    λ g k. (let l = c.lower.ensures.lowered g k in subst (λ xs. get_or c.lower.new.counts.items g 0 + count_of g xs ≡ get_or s.left.items g 0) is l) in
    let taken : (j : ℕ) → j < length s.shut.items → get_or c.lower-2.new.counts.items j 0 + count_of j (gathered s.gates.behind.items c.in-Ok.opening.items) ≡ get_or s.shut.items j 0 =
    λ j k. (let l = c.lower-2.ensures.lowered j k in subst (λ xs. get_or c.lower-2.new.counts.items j 0 + count_of j xs ≡ get_or s.shut.items j 0) (c.deref-4.ensures.value ∙ listed) l) in
    let size = c.self.invariant.each_position in
    let read : c.index.result.now ≡ get_or s.shut.items c.args.position 0 = get_or_read s.shut.items c.args.position _ (omega (arith, lt, size)) c.index.ensures 0 in
    board_after s.profiles.items s.gates.holds.items s.gates.behind.items s.left.items s.shut.items s.ended.items s.ready.items c.self.invariant c.args.position lt new c.in-Ok.opening.items opens c.lower.new.counts.items c.lower.ensures.same low
    c.lower-2.new.counts.items c.lower-2.ensures.same taken (sym read ∙ c.if-index-ne0.false)

pub returns-clause-free : goal.returns-clause-free
returns-clause-free g c =
    let s = c.self.inside in
    let ends = c.self.invariant.each_end in
    let each = c.self.invariant.gates.each in
    let lt : c.args.position < length s.profiles.items = omega (arith, ends, c.if-at-len.false, c.len.ensures) in
    let held : c.args.position < length s.gates.holds.items = omega (arith, lt, each) in
    let new : get_or s.ended.items c.args.position false ≡ false = sym (get_or_read s.ended.items c.args.position _ (omega (arith, lt, ends)) c.index-2.ensures false) ∙ c.if-index.false in
    let its : c.as_slice.result.now ≡ list_at s.gates.holds.items c.args.position = c.as_slice.ensures ∙ get_or_read s.gates.holds.items c.args.position _ held c.index-3.ensures [] in
    let opens : c.in-Ok.opening.items ≡ filter (λ g. get_or s.left.items g 0 == 1) (list_at s.gates.holds.items c.args.position) = c.in-Ok.ensures ∙ (λ i. filter (λ g. get_or (c.deref.ensures.value i) g 0 == 1) (its i)) in
    let listed : c.in-Ok-all_behind.list.items ≡ gathered s.gates.behind.items c.in-Ok.opening.items = c.in-Ok-all_behind.ensures ∙ (λ i. gathered (c.deref-2.ensures.value i) (c.deref-3.ensures.value i)) in
    let is : c.as_slice-2.result.now ≡ list_at s.gates.holds.items c.args.position = c.as_slice-2.ensures ∙ get_or_read s.gates.holds.items c.args.position _ held c.index-4.ensures [] in
    let low : (g : ℕ) → g < length s.left.items → get_or c.lower.new.counts.items g 0 + count_of g (list_at s.gates.holds.items c.args.position) ≡ get_or s.left.items g 0 =
    λ g k. (let l = c.lower.ensures.lowered g k in subst (λ xs. get_or c.lower.new.counts.items g 0 + count_of g xs ≡ get_or s.left.items g 0) is l) in
    let taken : (j : ℕ) → j < length s.shut.items → get_or c.lower-2.new.counts.items j 0 + count_of j (gathered s.gates.behind.items c.in-Ok.opening.items) ≡ get_or s.shut.items j 0 =
    λ j k. (let l = c.lower-2.ensures.lowered j k in subst (λ xs. get_or c.lower-2.new.counts.items j 0 + count_of j xs ≡ get_or s.shut.items j 0) (c.deref-4.ensures.value ∙ listed) l) in
    let size = c.self.invariant.each_position in
    let rest : c.deref-5.result.now ≡ c.lower-2.new.counts.items = c.deref-5.ensures.value in
    let same : (j : ℕ) → j < length s.shut.items → get_or c.deref-5.result.now j 1 ≡ get_or c.lower-2.new.counts.items j 0 =
    λ j k. ap (λ xs. get_or xs j 1) rest ∙ default_within c.lower-2.new.counts.items j 1 0 (omega (arith, k, c.lower-2.ensures.same)) in
    let inside : (j : ℕ) → Contains (gathered s.gates.behind.items c.in-Ok.opening.items) j → j < length s.shut.items = λ j k. list_within s.profiles.items s.gates.holds.items s.gates.behind.items s.left.items s.shut.items s.ended.items s.ready.items c.self.invariant c.args.position lt new c.in-Ok.opening.items opens j k in
    let exact : (j : ℕ) → Contains c.freed.result.items j ↔ (Contains (gathered s.gates.behind.items c.in-Ok.opening.items) j × (get_or c.lower-2.new.counts.items j 0 ≡ 0)) = λ j. (
      λ k. let r = (c.freed.ensures.exact j).0 k in let among = among_these _ _ j listed r.0 in (among, sym (same j (inside j among)) ∙ r.1),
      λ h. (c.freed.ensures.exact j).1 (among_these _ _ j (sym listed) h.0, same j (inside j h.0) ∙ h.1),
    ) in
    let all = freed_exact s.profiles.items s.gates.holds.items s.gates.behind.items s.left.items s.shut.items s.ended.items s.ready.items c.self.invariant c.args.position lt new c.in-Ok.opening.items opens c.lower.new.counts.items c.lower.ensures.same low
    c.lower-2.new.counts.items c.lower-2.ensures.same taken c.freed.result.items exact in
    let AreFreed : List (List Entry) → Type 0 = λ ps. (j : ℕ) → Contains c.freed.result.items j ↔ (IsEdge ps c.args.position j × IsFree (record { profiles = s.profiles.items; ended = set s.ended.items c.args.position true }) j) in
    subst AreFreed (ap (λ p. p.profiles) c.self.view_is) all

pub returns-clause-not_ready : goal.returns-clause-not_ready
returns-clause-not_ready g c =
    let s = c.self.inside in
    let ends = c.self.invariant.each_end in
    let lt : c.args.position < length s.profiles.items = omega (arith, ends, c.if-at-len.false, c.len.ensures) in (
      λ e. absurd (cc e),
      λ w. absurd (never_waits s.profiles.items s.gates.holds.items s.gates.behind.items s.left.items s.shut.items s.ended.items s.ready.items c.self.invariant c.args.self.now c.args.position c.index.result.now c.self.view_is lt c.index.ensures c.if-index-ne0.false w),
    )

pub returns-in_default-clause-not_ready : goal.returns-in_default-clause-not_ready
returns-in_default-clause-not_ready g c =
    let s = c.self.inside in
    let ends = c.self.invariant.each_end in
    let lt : c.args.position < length s.profiles.items = omega (arith, ends, c.if-at-len.false, c.len.ensures) in (
      λ e. absurd (cc e),
      λ w. absurd (never_waits s.profiles.items s.gates.holds.items s.gates.behind.items s.left.items s.shut.items s.ended.items s.ready.items c.self.invariant c.args.self.now c.args.position c.index.result.now c.self.view_is lt c.index.ensures c.if-index-ne0.false w),
    )

pub returns-in_default-all_behind-clause-not_ready : goal.returns-in_default-all_behind-clause-not_ready
returns-in_default-all_behind-clause-not_ready g c =
    let s = c.self.inside in
    let ends = c.self.invariant.each_end in
    let lt : c.args.position < length s.profiles.items = omega (arith, ends, c.if-at-len.false, c.len.ensures) in (
      λ e. absurd (cc e),
      λ w. absurd (never_waits s.profiles.items s.gates.holds.items s.gates.behind.items s.left.items s.shut.items s.ended.items s.ready.items c.self.invariant c.args.self.now c.args.position c.index.result.now c.self.view_is lt c.index.ensures c.if-index-ne0.false w),
    )
