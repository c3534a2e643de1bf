use Rattle.std.proofs.Common.{rules, ℕ, List, map, Bor, sym, ap, ◌∙◌}
use Rattle.std.proofs.lemmas.List.{drop_all}
use Rattle.wblock_line.specs.Words.{split, with_front, line_of}
use Rattle.wblock_line.proofs.Splitting.{left_after, from_there, nothing_left}
use Rattle.wblock_line.proofs.words.split_words.Goals as goal

pub loop-at-preserved : goal.loop-at-preserved
loop-at-preserved c =
    let new = line_of c.take_word.new.line in
    let taken = rw from_there at (rw c.in-Some.is at c.in_ok-taken.ensures.taken) in
    let within = rw c.in-Some.is at c.in_ok-taken.ensures.within in
    (search rules, ap (λ (ws : List (List ℕ)). with_front new.words new.options (split ws)) (left_after c.loop-at.at c.in-Some.taken c.args.words.now) ∙ (taken ∙ c.loop-at.invariant.1))

pub returns : goal.returns
returns c =
    let line = line_of c.loop-at.line in
    sym (nothing_left line.words line.options) ∙ (ap (λ (ws : List (Bor (List ℕ))). with_front line.words line.options (split (map (λ w. w.now) ws))) (sym (drop_all c.loop-at.at c.args.words.now c.loop-at-test.false)) ∙ c.loop-at.invariant.1)
