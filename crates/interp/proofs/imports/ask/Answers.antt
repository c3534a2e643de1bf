use Rattle.std.proofs.Common.{sym, ap, ◌∙◌, arith, subst, ℤ, rules, SFits, w64}
use Rattle.std.proofs.lemmas.Int.{to_z-of_z}
use Rattle.spec_execution.specs.Reduction.{Ask}
use Rattle.std.specs.Prelude.{slice_index_or}
use Rattle.laws_reduction.specs.Finding.{read_at}
use Rattle.wtypes.specs.declared.HostCall.TheVariants.{Get}
use Rattle.interp.specs.HostRequests.{effect_of_code}
use Rattle.interp.specs.Run.{seen, IsWished}
use Rattle.interp.proofs.Asking.{room_of}
use Rattle.interp.proofs.Wishing.{to_call, is_wished, same_asked, asked_same}
use Rattle.interp.proofs.imports.ask.Goals as goal

pub effect_for-requires : goal.effect_for-requires
effect_for-requires g c =
    let s = seen c.args.run.now in
    let hosts = c.args.run.now.lent.hosts.now in
    let h = slice_index_or hosts c.args.func Get in
    omega (arith, room_of s c.args.func c.requires.call.calling h (read_at hosts c.args.func Get c.requires.hosted) c.requires.hosted, c.args.run.now.parts.stack.ok.0)

pub ask_host-requires-clause-call : goal.ask_host-requires-clause-call
ask_host-requires-clause-call g c = to_call c.args.run.now c.args.func c.requires.call

pub ask_host-requires-clause-wished : goal.ask_host-requires-clause-wished
ask_host-requires-clause-wished g c = is_wished c.args.run.now c.args.func c.requires.call c.requires.hosted _ _ c.args.run.now.parts.stack.ok.0 (ap effect_of_code (sym c.in-Of.is) ∙ c.effect_for.ensures)

pub returns-in-Of-clause-turn : goal.returns-in-Of-clause-turn
returns-in-Of-clause-turn g c = asked_same (seen c.args.run.now) c.args.func c.ask_host.result (seen c.ask_host.new.run) c.ask_host.ensures.turn

pub returns-in-Of-clause-same : goal.returns-in-Of-clause-same
returns-in-Of-clause-same g c h = same_asked (seen c.args.run.now) c.args.func _ (c.ask_host.ensures.same h)

pub ask_contract-requires-clause-call : goal.ask_contract-requires-clause-call
ask_contract-requires-clause-call g c = to_call c.args.run.now c.args.func c.requires.call

pub ask_contract-requires-clause-wished : goal.ask_contract-requires-clause-wished
ask_contract-requires-clause-wished g c =
    let r = c.args.run.now in
    let fits : SFits w64 c.in-Ask.argument = search rules in
    let wished : IsWished (record r { asked = c.args.func }) (Ask c.in-Ask.number c.in-Ask.export c.in-Ask.argument) = is_wished r c.args.func c.requires.call c.requires.hosted _ _ r.parts.stack.ok.0 (ap effect_of_code (sym c.in-Ask.is) ∙ c.effect_for.ensures) in
    subst (λ (z : ℤ). IsWished (record r { asked = c.args.func }) (Ask c.in-Ask.number c.in-Ask.export z)) (sym (to_z-of_z w64 c.in-Ask.argument fits)) wished

pub returns-in-Ask-clause-turn : goal.returns-in-Ask-clause-turn
returns-in-Ask-clause-turn g c = asked_same (seen c.args.run.now) c.args.func c.ask_contract.result (seen c.ask_contract.new.run) c.ask_contract.ensures.turn

pub returns-in-Ask-clause-same : goal.returns-in-Ask-clause-same
returns-in-Ask-clause-same g c h = same_asked (seen c.args.run.now) c.args.func _ (c.ask_contract.ensures.same h)

pub give_answer-requires-clause-call : goal.give_answer-requires-clause-call
give_answer-requires-clause-call g c = to_call c.args.run.now c.args.func c.requires.call

pub give_answer-requires-clause-wished : goal.give_answer-requires-clause-wished
give_answer-requires-clause-wished g c = is_wished c.args.run.now c.args.func c.requires.call c.requires.hosted _ _ c.args.run.now.parts.stack.ok.0 (ap effect_of_code (sym c.in-Answer.is) ∙ c.effect_for.ensures)

pub returns-in-Answer-clause-turn : goal.returns-in-Answer-clause-turn
returns-in-Answer-clause-turn g c = asked_same (seen c.args.run.now) c.args.func c.give_answer.result (seen c.give_answer.new.run) c.give_answer.ensures.turn

pub returns-in-Answer-clause-same : goal.returns-in-Answer-clause-same
returns-in-Answer-clause-same g c h = same_asked (seen c.args.run.now) c.args.func _ (c.give_answer.ensures.same h)
