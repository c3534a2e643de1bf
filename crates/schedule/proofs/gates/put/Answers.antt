use Rattle.std.proofs.Common.{◌≡◌, ◌<◌, ℕ, cond, set, [], ◌∷◌, ◌++◌, sym, ap, subst, ◌∙◌, arith}
use Rattle.std.proofs.lemmas.List.{get_or_read}
use Rattle.std.specs.List.{Contains}
use Rattle.std.specs.BTreeMap.{get}
use Rattle.std.specs.Ordering.{eq_by_cmp}
use Rattle.schedule.specs.Graph.{list_at}
use Rattle.lock_profile.specs.LockTurns.{turn_cmp}
use Rattle.schedule.specs.Turns.{behind_gate, behind_turn}
use Rattle.schedule.proofs.Numbered.{put_numbered, put_behind}
use Rattle.schedule.proofs.gates.put.Goals as goal

pub index_mut-requires : goal.index_mut-requires
index_mut-requires g c = let h = c.in_ok-gate.ensures.numbered.within c.args.at _ c.in_ok-gate.ensures.own in omega (arith, h, c.gate_of.new.behind.ok.0)

pub returns-clause-numbered : goal.returns-clause-numbered
returns-clause-numbered g c =
    let is = c.in_ok-gate.ensures.own in
    let numbered = c.in_ok-gate.ensures.numbered in
    let within = numbered.within c.args.at c.in_ok-gate.gate is in
    let read : c.index_mut.result.now ≡ list_at c.gate_of.new.behind.items c.in_ok-gate.gate = get_or_read c.gate_of.new.behind.items c.in_ok-gate.gate _ within c.index_mut.ensures.value [] in
    let step : set c.gate_of.new.behind.items c.in_ok-gate.gate c.push.new.self ≡ set c.gate_of.new.behind.items c.in_ok-gate.gate (list_at c.gate_of.new.behind.items c.in_ok-gate.gate ++ c.args.position ∷ []) =
    ap (λ xs. set c.gate_of.new.behind.items c.in_ok-gate.gate xs) (c.in_ok-push.ensures ∙ ap (λ xs. xs ++ c.args.position ∷ []) read) in
    let here : list_at c.gate_of.new.behind.items c.in_ok-gate.gate ≡ behind_turn (get turn_cmp c.args.numbers.now) c.args.behind.now.items c.args.at =
    ap (behind_gate c.gate_of.new.behind.items) (sym is) ∙ c.in_ok-gate.ensures.same c.args.at in
    let before : (j : ℕ) → Contains (list_at c.gate_of.new.behind.items c.in_ok-gate.gate) j → j < c.args.position = λ j k. c.requires.after j (subst (λ xs. Contains xs j) here k) in
    put_numbered (get turn_cmp c.gate_of.new.numbers) c.gate_of.new.behind.items (set c.gate_of.new.behind.items c.in_ok-gate.gate c.push.new.self) c.args.at c.in_ok-gate.gate c.args.position numbered is step before

pub returns-clause-put : goal.returns-clause-put
returns-clause-put g c =
    let is = c.in_ok-gate.ensures.own in
    let numbered = c.in_ok-gate.ensures.numbered in
    let within = numbered.within c.args.at c.in_ok-gate.gate is in
    let read : c.index_mut.result.now ≡ list_at c.gate_of.new.behind.items c.in_ok-gate.gate = get_or_read c.gate_of.new.behind.items c.in_ok-gate.gate _ within c.index_mut.ensures.value [] in
    let step : set c.gate_of.new.behind.items c.in_ok-gate.gate c.push.new.self ≡ set c.gate_of.new.behind.items c.in_ok-gate.gate (list_at c.gate_of.new.behind.items c.in_ok-gate.gate ++ c.args.position ∷ []) =
    ap (λ xs. set c.gate_of.new.behind.items c.in_ok-gate.gate xs) (c.in_ok-push.ensures ∙ ap (λ xs. xs ++ c.args.position ∷ []) read) in
    let here : list_at c.gate_of.new.behind.items c.in_ok-gate.gate ≡ behind_turn (get turn_cmp c.args.numbers.now) c.args.behind.now.items c.args.at =
    ap (behind_gate c.gate_of.new.behind.items) (sym is) ∙ c.in_ok-gate.ensures.same c.args.at in
    let before : (j : ℕ) → Contains (list_at c.gate_of.new.behind.items c.in_ok-gate.gate) j → j < c.args.position = λ j k. c.requires.after j (subst (λ xs. Contains xs j) here k) in
    λ q. put_behind (get turn_cmp c.gate_of.new.numbers) c.gate_of.new.behind.items (set c.gate_of.new.behind.items c.in_ok-gate.gate c.push.new.self) c.args.at c.in_ok-gate.gate c.args.position numbered is step before q ∙ (λ i. cond (eq_by_cmp turn_cmp c.args.at q) (c.in_ok-gate.ensures.same c.args.at i ++ c.args.position ∷ []) (c.in_ok-gate.ensures.same q i))
