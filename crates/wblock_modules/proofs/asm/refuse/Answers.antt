use Rattle.std.proofs.Common.{sym, ◌∙◌}
use Rattle.wblock_modules.proofs.asm.refuse.Goals as goal

pub returns-in-Ok-clause-line : goal.returns-in-Ok-clause-line
returns-in-Ok-clause-line c = record {
  number = c.in-Some.number;
  place = c.in-Some.place;
  told_as = sym c.refusal_number.ensures ∙ c.in-Some.is;
  line_is = c.in-Ok.ensures;
}
