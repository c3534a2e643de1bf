use Rattle.std.proofs.Common.{IfSome, subst}
use Rattle.serial.specs.MachineProgress.{HasComeTo}
use Rattle.serial.specs.Over.{AreSomeLeft}
use Rattle.serial.proofs.Ending.{on_err}
use Rattle.serial.proofs.Meeting.{asked_on, entered_on, left_on, goes_on_asked, goes_on_entered, goes_on_left}
use Rattle.serial.proofs.storage_loop.do_next.Goals as goal

pub act-requires : goal.act-requires
act-requires g c = (c.requires.led.0, (c.args.machine.now.trace, c.requires.led.1))

pub enter-requires : goal.enter-requires
enter-requires g c = (c.requires.led.0, (c.args.machine.now.trace, c.requires.led.1))

pub leave-requires : goal.leave-requires
leave-requires g c = (c.requires.led.0, (c.args.machine.now.trace, c.requires.led.1))

pub returns-in_default-clause-rest : goal.returns-in_default-clause-rest
returns-in_default-clause-rest g c = λ start led. (c.args.machine.now.trace, g.S.Storage.stay start c.args.storage.now c.args.machine.now.trace led)

pub returns-in_ok-reply-in-Do-clause-way : goal.returns-in_ok-reply-in-Do-clause-way
returns-in_ok-reply-in-Do-clause-way g c = λ start led.
    let come = subst (λ o. IfSome o (λ w. HasComeTo c.args.machine.now w c.next_request.new.machine)) c.in-Some.is c.in-Ok.ensures.asks in
    let asks = subst (λ w. HasComeTo c.args.machine.now w c.next_request.new.machine) c.in-Do.is come in
    asked_on (λ t. g.S.Storage.led start t c.act.new.self) c.args.machine.now c.next_request.new.machine c.answer.new.self c.in-Do.op c.in_ok-reply-in-Do.reply asks c.answer.ensures.answered
    (c.in_ok-reply-in-Do.ensures.on start c.args.machine.now.trace led)

pub returns-in_ok-reply-in-Do-clause-goes_on : goal.returns-in_ok-reply-in-Do-clause-goes_on
returns-in_ok-reply-in-Do-clause-goes_on g c = λ _.
    let come = subst (λ o. IfSome o (λ w. HasComeTo c.args.machine.now w c.next_request.new.machine)) c.in-Some.is c.in-Ok.ensures.asks in
    let asks = subst (λ w. HasComeTo c.args.machine.now w c.next_request.new.machine) c.in-Do.is come in
    goes_on_asked c.args.machine.now c.next_request.new.machine c.answer.new.self c.in-Do.op c.in_ok-reply-in-Do.reply asks c.answer.ensures.answered

pub returns-in_err-reply-in-Do-clause-rest : goal.returns-in_err-reply-in-Do-clause-rest
returns-in_err-reply-in-Do-clause-rest g c =
    let told : (start : g.row.S.Denot) → g.S.Storage.led start c.args.machine.now.trace c.args.storage.now → AreSomeLeft g.S.Storage.left start c.act.new.self = λ start led. (c.args.machine.now.trace, c.in_err-reply-in-Do.ensures.rest start c.args.machine.now.trace led) in
    on_err _ told

pub returns-in_ok-enter-in-Enter-clause-way : goal.returns-in_ok-enter-in-Enter-clause-way
returns-in_ok-enter-in-Enter-clause-way g c = λ start led.
    let come = subst (λ o. IfSome o (λ w. HasComeTo c.args.machine.now w c.next_request.new.machine)) c.in-Some.is c.in-Ok.ensures.asks in
    let enters = subst (λ w. HasComeTo c.args.machine.now w c.next_request.new.machine) c.in-Enter.is come in
    entered_on (λ t. g.S.Storage.led start t c.enter.new.self) c.args.machine.now c.next_request.new.machine enters (c.in_ok-enter-in-Enter.ensures.on start c.args.machine.now.trace led)

pub returns-in_ok-enter-in-Enter-clause-goes_on : goal.returns-in_ok-enter-in-Enter-clause-goes_on
returns-in_ok-enter-in-Enter-clause-goes_on g c = λ _.
    let come = subst (λ o. IfSome o (λ w. HasComeTo c.args.machine.now w c.next_request.new.machine)) c.in-Some.is c.in-Ok.ensures.asks in
    goes_on_entered c.args.machine.now c.next_request.new.machine (subst (λ w. HasComeTo c.args.machine.now w c.next_request.new.machine) c.in-Enter.is come)

pub returns-in_err-enter-in-Enter-clause-rest : goal.returns-in_err-enter-in-Enter-clause-rest
returns-in_err-enter-in-Enter-clause-rest g c =
    let told : (start : g.row.S.Denot) → g.S.Storage.led start c.args.machine.now.trace c.args.storage.now → AreSomeLeft g.S.Storage.left start c.enter.new.self = λ start led. (c.args.machine.now.trace, c.in_err-enter-in-Enter.ensures.rest start c.args.machine.now.trace led) in
    on_err _ told

pub returns-in_ok-leave-in-Leave-clause-way : goal.returns-in_ok-leave-in-Leave-clause-way
returns-in_ok-leave-in-Leave-clause-way g c = λ start led.
    let come = subst (λ o. IfSome o (λ w. HasComeTo c.args.machine.now w c.next_request.new.machine)) c.in-Some.is c.in-Ok.ensures.asks in
    let leaves = subst (λ w. HasComeTo c.args.machine.now w c.next_request.new.machine) c.in-Leave.is come in
    left_on (λ t. g.S.Storage.led start t c.leave.new.self) c.args.machine.now c.next_request.new.machine c.in-Leave.keep leaves (c.in_ok-leave-in-Leave.ensures.on start c.args.machine.now.trace led)

pub returns-in_ok-leave-in-Leave-clause-goes_on : goal.returns-in_ok-leave-in-Leave-clause-goes_on
returns-in_ok-leave-in-Leave-clause-goes_on g c = λ _.
    let come = subst (λ o. IfSome o (λ w. HasComeTo c.args.machine.now w c.next_request.new.machine)) c.in-Some.is c.in-Ok.ensures.asks in
    goes_on_left c.args.machine.now c.next_request.new.machine c.in-Leave.keep (subst (λ w. HasComeTo c.args.machine.now w c.next_request.new.machine) c.in-Leave.is come)

pub returns-in_err-leave-in-Leave-clause-rest : goal.returns-in_err-leave-in-Leave-clause-rest
returns-in_err-leave-in-Leave-clause-rest g c =
    let told : (start : g.row.S.Denot) → g.S.Storage.led start c.args.machine.now.trace c.args.storage.now → AreSomeLeft g.S.Storage.left start c.leave.new.self = λ start led. (c.args.machine.now.trace, c.in_err-leave-in-Leave.ensures.rest start c.args.machine.now.trace led) in
    on_err _ told
