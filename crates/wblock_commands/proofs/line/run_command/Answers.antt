use Rattle.std.proofs.Common.{ap, sym, subst, ◌∙◌, MatchOption, string_bytes}
use Rattle.wblock_commands.specs.Does.{Answers, IsNote, Misses}
use Rattle.wblock_line.specs.Answers.{Wrote, writes_of}
use Rattle.wblock_commands.proofs.Saying.{says_why, stops, cuts, keeps, never_usage}
use Rattle.wblock_commands.proofs.Noting.{says_note}
use Rattle.wblock_commands.proofs.line.run_command.Goals as goal

pub returns-in-Ok-Some-clause-explained : goal.returns-in-Ok-Some-clause-explained
returns-in-Ok-Some-clause-explained g c = λ r t.
    says_why c.in-Ok-Some.noted.answer (g.E.Sink.told c.args.err.now) (g.E.Sink.told c.carry_out_noted.new.err) (g.E.Sink.failures c.args.err.now) (g.E.Sink.failures c.carry_out_noted.new.err) (sym (c.carry_out_noted.ensures.status (λ e. absurd (cc)) (λ e. absurd (cc))) ∙ r) (c.carry_out_noted.ensures.explained r t)

pub returns-in-Ok-Some-clause-done : goal.returns-in-Ok-Some-clause-done
returns-in-Ok-Some-clause-done g c = λ d f. record {
  answer = c.in-Ok-Some.noted.answer;
  answers = subst (λ o. MatchOption o (Misses c.args.command (g.F.Files.holds c.args.files.now)) (λ n. Answers c.args.command (g.F.Files.holds c.args.files.now) n.answer)) c.in-Ok-Some.field-0-is (c.in-Ok-Some.ensures.answers f);
  status_is = sym (c.carry_out_noted.ensures.status (λ e. absurd (cc)) (λ e. absurd (cc))) ∙ d;
  wrote = subst (λ h. Wrote (writes_of c.in-Ok-Some.noted.answer) h (g.F.Files.holds c.carry_out_noted.new.files)) (c.in-Ok-Some.ensures.kept f) (c.carry_out_noted.ensures.wrote (λ e. absurd (cc)) (λ e. absurd (cc)) f);
  told = c.carry_out_noted.ensures.printed (λ e. absurd (cc)) (λ e. absurd (cc));
}

pub returns-in-Ok-Some-clause-refused : goal.returns-in-Ok-Some-clause-refused
returns-in-Ok-Some-clause-refused g c = λ d f. record {
  answer = c.in-Ok-Some.noted.answer;
  answers = subst (λ o. MatchOption o (Misses c.args.command (g.F.Files.holds c.args.files.now)) (λ n. Answers c.args.command (g.F.Files.holds c.args.files.now) n.answer)) c.in-Ok-Some.field-0-is (c.in-Ok-Some.ensures.answers f);
  status_is = sym (c.carry_out_noted.ensures.status (λ e. absurd (cc)) (λ e. absurd (cc))) ∙ d;
  wrote = subst (λ h. Wrote (writes_of c.in-Ok-Some.noted.answer) h (g.F.Files.holds c.carry_out_noted.new.files)) (c.in-Ok-Some.ensures.kept f) (c.carry_out_noted.ensures.wrote (λ e. absurd (cc)) (λ e. absurd (cc)) f);
  told = c.carry_out_noted.ensures.printed (λ e. absurd (cc)) (λ e. absurd (cc));
}

pub returns-in-Ok-Some-clause-failing : goal.returns-in-Ok-Some-clause-failing
returns-in-Ok-Some-clause-failing g c = λ d.
    let it = c.carry_out_noted.ensures.failing d in (
      it.0,
      cuts c.args.command it.0 c.in-Ok-Some.noted.answer _ _ _ _ _ _ _ _ _ _ _ _
          (λ f. subst (λ o. MatchOption o (Misses c.args.command (g.F.Files.holds c.args.files.now)) (λ n. Answers c.args.command (g.F.Files.holds c.args.files.now) n.answer)) c.in-Ok-Some.field-0-is (c.in-Ok-Some.ensures.answers f))
          c.in-Ok-Some.ensures.kept c.in-Ok-Some.ensures.calm it.1,
      it.2,
    )

pub returns-in-Err-clause-failing : goal.returns-in-Err-clause-failing
returns-in-Err-clause-failing g c = λ d.
    stops c.args.command c.in-Err.fault _ _ _ _ _ _ _ _ _ _ _ _ _ (sym c.tell_fault.ensures.status ∙ d) c.in-Err.ensures.counted c.in-Err.ensures.reads c.in-Err.ensures.kept c.tell_fault.ensures.said

pub returns-in-Ok-Some-clause-noted : goal.returns-in-Ok-Some-clause-noted
returns-in-Ok-Some-clause-noted g c = λ d t.
    says_note c.args.command c.in-Ok-Some.noted.answer (string_bytes c.in-Ok-Some.noted.note) _ _ _ _
    (subst (λ o. MatchOption o (Unit {0}) (λ n. IsNote c.args.command n.answer (string_bytes n.note))) c.in-Ok-Some.field-0-is c.in-Ok-Some.ensures.notes)
    (c.carry_out_noted.ensures.noted d t)

pub returns-in-Ok-Some-clause-silent : goal.returns-in-Ok-Some-clause-silent
returns-in-Ok-Some-clause-silent g c = λ d t.
    keeps _ c.in-Ok-Some.noted.answer _ _ _ _ _ c.carry_out_noted.ensures.status (λ m. c.carry_out_noted.ensures.unwritten m t) (c.in-Ok-Some.ensures.kept t) (λ m. ap g.O.Sink.told (c.carry_out_noted.ensures.unprinted m)) d

pub returns-in-Ok-Some-clause-usage_said : goal.returns-in-Ok-Some-clause-usage_said
returns-in-Ok-Some-clause-usage_said g c = λ d t. absurd (never_usage _ c.in-Ok-Some.noted.answer c.carry_out_noted.ensures.status d)

pub returns-in-Ok-Some-clause-asked : goal.returns-in-Ok-Some-clause-asked
returns-in-Ok-Some-clause-asked g c = λ d. absurd (never_usage _ c.in-Ok-Some.noted.answer c.carry_out_noted.ensures.status d)

pub returns-in-Ok-Some-clause-missed : goal.returns-in-Ok-Some-clause-missed
returns-in-Ok-Some-clause-missed g c = λ d t. absurd (never_usage _ c.in-Ok-Some.noted.answer c.carry_out_noted.ensures.status d)
