use Rattle.std.proofs.Common.{◌∙◌, refl, sym}
use Rattle.interp.specs.Run.{seen}
use Rattle.interp.proofs.Outlook.{shows_locals, shows_none, shows_trap}
use Rattle.interp.proofs.readers.locals_of_call.Goals as goal

pub returns-then-is_fallen : goal.returns-then-is_fallen
returns-then-is_fallen g c o = shows_trap (seen c.args.run.now) (sym c.is_fallen.ensures ∙ c.if-is_fallen.true)

pub returns-in-None : goal.returns-in-None
returns-in-None g c o = c.deref.ensures.value ∙ shows_locals (seen c.args.run.now) c.requires.machine c.args.run.now.status refl o (sym c.is_fallen.ensures ∙ c.if-is_fallen.false) (c.in-None.ensures o)

pub returns-in-Some : goal.returns-in-Some
returns-in-Some g c o = shows_none (seen c.args.run.now) c.in-Some.field-0 (c.in-Some.ensures o)
