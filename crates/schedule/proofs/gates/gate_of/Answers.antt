use Rattle.std.proofs.Common.{◌≡◌, ◌<◌, ◌+◌, ◌^◌, cond, Some, None, [], ◌∷◌, ◌++◌, length, sym, ap, subst, ◌∙◌, arith}
use Rattle.std.specs.declared.cmp.Ordering.{Ordering}
use Rattle.std.specs.BTreeMap.{get}
use Rattle.std.specs.Ordering.{eq_by_cmp}
use Rattle.lock_profile.specs.declared.lock_turn.LockTurn.{LockTurn}
use Rattle.lock_profile.specs.LockTurns.{turn_cmp}
use Rattle.lock_profile.proofs.Places.{derived_is}
use Rattle.schedule.proofs.Numbered.{one_numbered, own_gate, same_behind}
use Rattle.schedule.proofs.gates.gate_of.Goals as goal

pub returns-in-Some-clause-own : goal.returns-in-Some-clause-own
returns-in-Some-clause-own g c = sym (c.in-Some.ensures.value ∙ ap (λ R. get R c.args.numbers.now c.args.at) derived_is)

pub returns-clause-numbered : goal.returns-clause-numbered
returns-clause-numbered g c =
    let Written : (LockTurn → LockTurn → Ordering) → Type 0 = λ R. (q : LockTurn) → get R c.insert.new.self q ≡ cond (eq_by_cmp R c.args.at q) (Some c.len-count.result) (get R c.args.numbers.now q) in
    let given = subst Written derived_is (λ q. c.in_ok-insert.ensures.updates.0 q) in
    let count : c.len-count.result ≡ length c.args.behind.now.items = c.len-count.ensures ∙ c.args.behind.now.ok.0 in
    let written : (q : LockTurn) → get turn_cmp c.insert.new.self q ≡ cond (eq_by_cmp turn_cmp c.args.at q) (Some (length c.args.behind.now.items)) (get turn_cmp c.args.numbers.now q) =
    λ q. given q ∙ ap (λ n. cond (eq_by_cmp turn_cmp c.args.at q) (Some n) (get turn_cmp c.args.numbers.now q)) count in
    let vacant : get turn_cmp c.args.numbers.now c.args.at ≡ None = sym (c.in_default.ensures.value ∙ ap (λ R. get R c.args.numbers.now c.args.at) derived_is) in
    let step = c.in_ok-push.ensures.items ∙ ap (λ x. c.args.behind.now.items ++ x ∷ []) c.new.ensures in
    let room : length c.args.behind.now.items + 1 < 2 ^ 32 = omega (arith, count, c.if-count.false) in
    one_numbered (get turn_cmp c.args.numbers.now) (get turn_cmp c.insert.new.self) c.args.behind.now.items c.push.new.self.items c.args.at c.args.positions c.requires vacant room written step

pub returns-clause-own : goal.returns-clause-own
returns-clause-own g c =
    let Written : (LockTurn → LockTurn → Ordering) → Type 0 = λ R. (q : LockTurn) → get R c.insert.new.self q ≡ cond (eq_by_cmp R c.args.at q) (Some c.len-count.result) (get R c.args.numbers.now q) in
    let given = subst Written derived_is (λ q. c.in_ok-insert.ensures.updates.0 q) in
    let count : c.len-count.result ≡ length c.args.behind.now.items = c.len-count.ensures ∙ c.args.behind.now.ok.0 in
    let written : (q : LockTurn) → get turn_cmp c.insert.new.self q ≡ cond (eq_by_cmp turn_cmp c.args.at q) (Some (length c.args.behind.now.items)) (get turn_cmp c.args.numbers.now q) =
    λ q. given q ∙ ap (λ n. cond (eq_by_cmp turn_cmp c.args.at q) (Some n) (get turn_cmp c.args.numbers.now q)) count in
    let vacant : get turn_cmp c.args.numbers.now c.args.at ≡ None = sym (c.in_default.ensures.value ∙ ap (λ R. get R c.args.numbers.now c.args.at) derived_is) in
    let step = c.in_ok-push.ensures.items ∙ ap (λ x. c.args.behind.now.items ++ x ∷ []) c.new.ensures in
    let room : length c.args.behind.now.items + 1 < 2 ^ 32 = omega (arith, count, c.if-count.false) in
    own_gate (get turn_cmp c.args.numbers.now) (get turn_cmp c.insert.new.self) c.args.behind.now.items c.push.new.self.items c.args.at c.args.positions c.requires vacant room written step ∙ ap (λ n. Some n) (sym count)

pub returns-clause-same : goal.returns-clause-same
returns-clause-same g c =
    let Written : (LockTurn → LockTurn → Ordering) → Type 0 = λ R. (q : LockTurn) → get R c.insert.new.self q ≡ cond (eq_by_cmp R c.args.at q) (Some c.len-count.result) (get R c.args.numbers.now q) in
    let given = subst Written derived_is (λ q. c.in_ok-insert.ensures.updates.0 q) in
    let count : c.len-count.result ≡ length c.args.behind.now.items = c.len-count.ensures ∙ c.args.behind.now.ok.0 in
    let written : (q : LockTurn) → get turn_cmp c.insert.new.self q ≡ cond (eq_by_cmp turn_cmp c.args.at q) (Some (length c.args.behind.now.items)) (get turn_cmp c.args.numbers.now q) =
    λ q. given q ∙ ap (λ n. cond (eq_by_cmp turn_cmp c.args.at q) (Some n) (get turn_cmp c.args.numbers.now q)) count in
    let vacant : get turn_cmp c.args.numbers.now c.args.at ≡ None = sym (c.in_default.ensures.value ∙ ap (λ R. get R c.args.numbers.now c.args.at) derived_is) in
    let step = c.in_ok-push.ensures.items ∙ ap (λ x. c.args.behind.now.items ++ x ∷ []) c.new.ensures in
    let room : length c.args.behind.now.items + 1 < 2 ^ 32 = omega (arith, count, c.if-count.false) in
    same_behind (get turn_cmp c.args.numbers.now) (get turn_cmp c.insert.new.self) c.args.behind.now.items c.push.new.self.items c.args.at c.args.positions c.requires vacant room written step
