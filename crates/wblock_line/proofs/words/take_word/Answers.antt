use Rattle.std.proofs.Common.{rules, arith}
use Rattle.wblock_line.proofs.Splitting.{takes_word, takes_halves, takes_value, lacks_value}
use Rattle.wblock_line.proofs.words.take_word.Goals as goal

pub returns-then-not-begins_option-clause-taken : goal.returns-then-not-begins_option-clause-taken
returns-then-not-begins_option-clause-taken c = takes_word _ _ c.args.words.now _ c.requires (search rules) (search rules)

pub returns-in-Some-clause-taken : goal.returns-in-Some-clause-taken
returns-in-Some-clause-taken c = takes_halves _ _ _ c.args.words.now c.in-Some.halves c.requires (search rules) (search rules) (search rules)

pub returns-then-words-eq1-clause-taken : goal.returns-then-words-eq1-clause-taken
returns-then-words-eq1-clause-taken c = lacks_value c.args.words.now c.if-words-eq1.true (search rules) (search rules)

pub returns-clause-taken : goal.returns-clause-taken
returns-clause-taken c = takes_value _ _ _ c.args.words.now (let n = c.requires in let m = c.if-words-eq1.false in omega (arith, n, m)) (search rules) (search rules) (search rules)
