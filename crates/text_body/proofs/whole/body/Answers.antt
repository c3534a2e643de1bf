use Rattle.std.proofs.Common.{◌≡◌, ◌≤◌, [], length, reverse, sym, ap, ◌∙◌, subst, arith}
use Rattle.std.proofs.lemmas.List.{length-map, length-reverse}
use Rattle.std.proofs.lemmas.Result.{err_from_is_err_and}
use Rattle.lexer.specs.WordsViews.{views}
use Rattle.text_body.specs.Places.{flats_of}
use Rattle.text_body.specs.Turns.{state_of, open_of, move_of, move_at, applied}
use Rattle.text_body.proofs.Repeats.{hand_on}
use Rattle.text_body.proofs.Halfway.{Parsing, parsing_start, advance, stuck, ended_early, ended, faulty}
use Rattle.text_body.proofs.whole.body.Goals as goal

pub loop-flats-init : goal.loop-flats-init
loop-flats-init g c =
    let words = views c.args.rest.now.now in
    record {
      parsing = subst (λ s. Parsing words (state_of s) words (flats_of c.new-flats.result.items)) (sym c.new-stack.ensures.items)
          (subst (λ fs. Parsing words [] words (flats_of fs)) (sym c.new-flats.ensures.items) (parsing_start words));
      within = omega arith;
    }

pub returns-in_err-turn-clause-refused : goal.returns-in_err-turn-clause-refused
returns-in_err-turn-clause-refused g c =
    let l = c.loop-flats in
    let p = err_from_is_err_and c.from_residual-in_err-turn.result c.from_residual-in_err-turn.ensures.1 in
    rw (p.1, p.2) (hand_on c.in_err-turn.field-0.0 (λ e. faulty (views c.args.rest.now.now) (state_of l.stack.items) (views l.rest.now) (flats_of l.flats.items) l.invariant.parsing (ap (λ t. move_at t (views l.rest.now)) (sym c.innermost.ensures) ∙ e))
    c.in_err-turn.ensures.value)

pub returns-then-not-is_empty-clause-refused : goal.returns-then-not-is_empty-clause-refused
returns-then-not-is_empty-clause-refused g c =
    let l = c.loop-flats in
    let some : 1 ≤ length l.stack.items = grind (arith, l.stack.ok.0) in
    let long : length (state_of l.stack.items) ≡ length l.stack.items = length-map (reverse l.stack.items) open_of ∙ length-reverse l.stack.items in
    ended_early (views c.args.rest.now.now) (views l.rest.now) (flats_of l.flats.items) (views c.next_turn.new.rest.now) (move_of c.in_ok-turn.turn) (state_of l.stack.items) l.invariant.parsing
    (ap (λ t. move_at t (views l.rest.now)) (sym c.innermost.ensures) ∙ c.in_ok-turn.ensures.value) (sym c.ends.ensures ∙ c.if-ends.true) (omega (arith, some, long))

pub returns-then-ends-clause-grammar : goal.returns-then-ends-clause-grammar
returns-then-ends-clause-grammar g c =
    let l = c.loop-flats in
    let none : length l.stack.items ≡ 0 = grind (arith, l.stack.ok.0) in
    let long : length (state_of l.stack.items) ≡ length l.stack.items = length-map (reverse l.stack.items) open_of ∙ length-reverse l.stack.items in
    ended (views c.args.rest.now.now) (views l.rest.now) (flats_of l.flats.items) (views c.next_turn.new.rest.now) (move_of c.in_ok-turn.turn) (state_of l.stack.items) l.invariant.parsing
    (ap (λ t. move_at t (views l.rest.now)) (sym c.innermost.ensures) ∙ c.in_ok-turn.ensures.value) (sym c.ends.ensures ∙ c.if-ends.true) (long ∙ none)

pub returns-then-not-branch-clause-refused : goal.returns-then-not-branch-clause-refused
returns-then-not-branch-clause-refused g c =
    let l = c.loop-flats in
    stuck (views c.args.rest.now.now) (views l.rest.now) (flats_of l.flats.items) (views c.next_turn.new.rest.now) (move_of c.in_ok-turn.turn) (state_of l.stack.items) l.invariant.parsing
    (ap (λ t. move_at t (views l.rest.now)) (sym c.innermost.ensures) ∙ c.in_ok-turn.ensures.value) (sym c.ends.ensures ∙ c.if-ends.false)
    (sym c.in_ok-apply.ensures.done ∙ ap (λ b. applied b (state_of c.apply.new.stack.items, flats_of c.apply.new.flats.items)) c.if-not-branch.true)

pub loop-flats-preserved : goal.loop-flats-preserved
loop-flats-preserved g c =
    let l = c.loop-flats in
    record {
      parsing = advance (views c.args.rest.now.now) (views l.rest.now) (flats_of l.flats.items) (views c.next_turn.new.rest.now) (move_of c.in_ok-turn.turn) (state_of l.stack.items) (state_of c.apply.new.stack.items, flats_of c.apply.new.flats.items)
          l.invariant.parsing (ap (λ t. move_at t (views l.rest.now)) (sym c.innermost.ensures) ∙ c.in_ok-turn.ensures.value)
          (sym c.in_ok-apply.ensures.done ∙ ap (λ b. applied b (state_of c.apply.new.stack.items, flats_of c.apply.new.flats.items)) c.if-not-branch.false);
      within = omega (arith, c.in_ok-turn.ensures.shorter, l.invariant.within);
    }
