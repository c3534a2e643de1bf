use Rattle.std.proofs.Common.{◌∙◌, sym}
use Rattle.interp.specs.Run.{seen}
use Rattle.interp.proofs.Outlook.{running_place, no_place, ended_place}
use Rattle.interp.proofs.readers.place_of_run.Goals as goal

pub returns-in-Running : goal.returns-in-Running
returns-in-Running g c o = no_place (seen c.args.run.now) c.requires.machine _ tt c.in-Running.is (λ q. sym (c.has_run_out-out.ensures o) ∙ c.if-out.true)

pub returns-in-Running-2 : goal.returns-in-Running-2
returns-in-Running-2 g c o = c.place_in_code.ensures ∙ running_place (seen c.args.run.now) c.requires.machine c.in-Running.is (sym (c.has_run_out-out.ensures o) ∙ c.if-out.false)

pub returns-in-Asking : goal.returns-in-Asking
returns-in-Asking g c o = no_place (seen c.args.run.now) c.requires.machine _ tt c.in-Asking.is (λ q. absurd (cc))

pub returns-in-Fallen : goal.returns-in-Fallen
returns-in-Fallen g c o = no_place (seen c.args.run.now) c.requires.machine _ tt c.in-Fallen.is (λ q. absurd (cc))

pub returns-in-Closing : goal.returns-in-Closing
returns-in-Closing g c o = no_place (seen c.args.run.now) c.requires.machine _ tt c.in-Closing.is (λ q. absurd (cc))

pub returns-in-Ended : goal.returns-in-Ended
returns-in-Ended g c o = ended_place (seen c.args.run.now) c.requires.machine c.in-Ended.field-0 c.in-Ended.is
