use Rattle.std.proofs.Common.{◌≡◌, ◌∙◌, sym, subst}
use Rattle.std.proofs.lemmas.Option.{MatchOption-at_some}
use Rattle.wblock_io.specs.Holding.{Holding}
use Rattle.wblock_line.specs.declared.answer.Answer.{Answer}
use Rattle.wblock_line.specs.Answers.{upshot_of}
use Rattle.wblock_debug.specs.Debugs.{Debugs}
use Rattle.wblock_commands.specs.declared.command.Command.{Command}
use Rattle.wblock_commands.specs.Deploying.{DeploysFree}
use Rattle.wblock_commands.specs.Does.{Answers}
use Rattle.wblock_commands.proofs.line.answer_of.Goals.{in-Stored+in_ok-answer-in-Stored, in-Help+in_ok-answer-in-Help, in-Version+in_ok-answer-in-Version, in-Asm+in_ok-answer-in-Asm, in-Text+in_ok-answer-in-Text, in-Check+in_ok-answer-in-Check, in-Validate+in_ok-answer-in-Validate, in-Show+in_ok-answer-in-Show, in-Call+in_ok-answer-in-Call, in-Deploy+in_ok-answer-in-Deploy+in-Some, in-Debug+in_ok-answer-in-Debug+in-Some-2}
use Rattle.wblock_commands.proofs.line.answer_of.Goals as goal

-- what is answered for a command is answered for the same one by another name
answered : (x y : Command) (holds : Holding) (a b : Answer) → x ≡ y → b ≡ a → Answers y holds a → Answers x holds b
answered x y holds a b is told given = subst (λ (c : Command). Answers c holds b) (sym is) (subst (λ (v : Answer). Answers y holds v) (sym told) given)

pub returns-in-Mine-clause-answers : goal.returns-in-Mine-clause-answers
returns-in-Mine-clause-answers g c = λ t.
    subst (λ (x : Command). Answers x (g.F.Files.holds c.args.files.now) c.in_ok-mine_block-in-Mine.field-0.answer) (sym c.in-Mine.is) (c.in_ok-mine_block-in-Mine.ensures.answers t)

pub returns-clause-answers : goal.returns-clause-answers
returns-clause-answers g c = λ t.
    elim c.match-command.branch [
      | in-Stored+in_ok-answer-in-Stored w ↦ answered _ _ _ _ _ w.in-Stored.is (c.unnoted.ensures.answer ∙ w.answer-is) w.in_ok-answer-in-Stored.ensures.answers
      | in-Help+in_ok-answer-in-Help w ↦ answered _ _ _ _ _ w.in-Help.is (c.unnoted.ensures.answer ∙ w.answer-is) w.in_ok-answer-in-Help.ensures.answer
      | in-Version+in_ok-answer-in-Version w ↦ answered _ _ _ _ _ w.in-Version.is (c.unnoted.ensures.answer ∙ w.answer-is) w.in_ok-answer-in-Version.ensures.answer
      | in-Asm+in_ok-answer-in-Asm w ↦ answered _ _ _ _ _ w.in-Asm.is (c.unnoted.ensures.answer ∙ w.answer-is) (w.in_ok-answer-in-Asm.ensures.answers t)
      | in-Text+in_ok-answer-in-Text w ↦ answered _ _ _ _ _ w.in-Text.is (c.unnoted.ensures.answer ∙ w.answer-is) (w.in_ok-answer-in-Text.ensures.answers t)
      | in-Check+in_ok-answer-in-Check w ↦ answered _ _ _ _ _ w.in-Check.is (c.unnoted.ensures.answer ∙ w.answer-is) (w.in_ok-answer-in-Check.ensures.answers t)
      | in-Validate+in_ok-answer-in-Validate w ↦ answered _ _ _ _ _ w.in-Validate.is (c.unnoted.ensures.answer ∙ w.answer-is) (w.in_ok-answer-in-Validate.ensures.answers t)
      | in-Show+in_ok-answer-in-Show w ↦ answered _ _ _ _ _ w.in-Show.is (c.unnoted.ensures.answer ∙ w.answer-is) (w.in_ok-answer-in-Show.ensures.answers t)
      | in-Call+in_ok-answer-in-Call w ↦ answered _ _ _ _ _ w.in-Call.is (c.unnoted.ensures.answer ∙ w.answer-is) (w.in_ok-answer-in-Call.ensures.answers t)
      | in-Deploy+in_ok-answer-in-Deploy+in-Some w ↦
          answered _ _ _ _ _ w.in-Deploy.is (c.unnoted.ensures.answer ∙ w.answer-is) (MatchOption-at_some _ (λ (a : Answer). DeploysFree w.in-Deploy.task (g.F.Files.holds c.args.files.now) (upshot_of a)) _ w.in-Some.is (w.in_ok-answer-in-Deploy.ensures.answers t))
      | in-Debug+in_ok-answer-in-Debug+in-Some-2 w ↦
          answered _ _ _ _ _ w.in-Debug.is (c.unnoted.ensures.answer ∙ w.answer-is) (MatchOption-at_some _ (λ (a : Answer). Debugs (g.F.Files.holds c.args.files.now) w.in-Debug.task a) _ w.in-Some-2.is (w.in_ok-answer-in-Debug.ensures.answers t))
    ]
