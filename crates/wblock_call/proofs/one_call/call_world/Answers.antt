use Rattle.std.proofs.Common.{◌≡◌, string_bytes, subst, sym, inl, inr}
use Rattle.std.proofs.lemmas.Result.{IfErr-weaker, IfOk-weaker}
use Rattle.world.specs.Views.{world_view}
use Rattle.wblock_line.specs.declared.answer.Fault.{Fault}
use Rattle.wblock_line.specs.declared.answer.Fault.TheVariants.{NoMemory}
use Rattle.wblock_line.specs.Answers.{CountsFault, IsOfFile}
use Rattle.wblock_line.specs.Inputs.{GivesWorld}
use Rattle.wblock_line.specs.Upshots.{of_answer}
use Rattle.wblock_call.proofs.one_call.call_world.Goals as goal

pub returns-in-Refused-clause-answers : goal.returns-in-Refused-clause-answers
returns-in-Refused-clause-answers g c = IfOk-weaker c.refuse.result _ _ (λ a told t. inl (record {
  line = string_bytes c.in-Refused.line;
  why = subst (λ found. GivesWorld (g.F.Files.holds c.args.files.now) c.args.task.now.world.now found) c.in-Refused.is (c.in_ok-world.ensures.gives t);
  told = of_answer c.args.task.now.style.json (string_bytes c.in-Refused.line) a told;
})) c.refuse.ensures.told

-- a refusal is told without a file
pub returns-in-Refused-clause-calm : goal.returns-in-Refused-clause-calm
returns-in-Refused-clause-calm g c = IfOk-weaker c.refuse.result _ _ (λ a told. c.in_ok-world.ensures.calm) c.refuse.ensures.told

pub returns-in-Refused-clause-counted : goal.returns-in-Refused-clause-counted
returns-in-Refused-clause-counted g c =
    IfErr-weaker c.refuse.result (λ f. f ≡ NoMemory) _ (λ f is. subst (λ (x : Fault). CountsFault x (g.F.Files.failures c.args.files.now) (g.F.Files.failures c.read_world_file.new.files)) (sym is) tt) c.refuse.ensures.fault

pub returns-in-Refused-clause-named : goal.returns-in-Refused-clause-named
returns-in-Refused-clause-named g c =
    IfErr-weaker c.refuse.result (λ f. f ≡ NoMemory) _ (λ f is. subst (λ (x : Fault). IsOfFile (λ name. name ≡ c.args.task.now.world.now) x) (sym is) tt) c.refuse.ensures.fault

pub returns-in-Ok-clause-answers : goal.returns-in-Ok-clause-answers
returns-in-Ok-clause-answers g c = λ t. inr (record {
  world = world_view c.in-Read.world;
  held = subst (λ found. GivesWorld (g.F.Files.holds c.args.files.now) c.args.task.now.world.now found) c.in-Read.is (c.in_ok-world.ensures.gives t);
  tells = c.in-Ok.ensures;
})
