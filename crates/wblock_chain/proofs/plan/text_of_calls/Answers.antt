use Rattle.std.proofs.Common.{◌≡◌, List, ℕ, false, true, rules, Option, Some, None, Vec, Global, option_map, ap, ◌∙◌}
use Rattle.std.proofs.lemmas.Result.{IfOk-weaker}
use Rattle.world.specs.Views.{world_view}
use Rattle.wblock_chain.specs.Sessions.{over, standing}
use Rattle.wblock_chain.specs.Words.{calls_here}
use Rattle.wblock_chain.proofs.Standing.{at_calls, at_lone, at_other}
use Rattle.wblock_chain.proofs.plan.text_of_calls.Goals as goal

abbrev texts_of : Option (Vec ℕ Global) → Option (List ℕ)
texts_of behind = option_map (λ b. b.items) behind

pub returns-then-not-is_word-clause-text : goal.returns-then-not-is_word-clause-text
returns-then-not-is_word-clause-text g c = IfOk-weaker c.read_file.result _ _ (λ text held t.
    at_other c.args._name.now (world_view c.args._world.now) (texts_of c.args.behind) (g.F.Files.holds c.args.files.now) c.args.calls.now c.requires (λ e. let never : false ≡ true = c.if-not-is_word.ensures.1 e in absurd cc) ∙ held t) c.read_file.ensures.bytes

pub returns-in-Some-clause-text : goal.returns-in-Some-clause-text
returns-in-Some-clause-text g c = λ t.
    let here : c.args.calls.now ≡ calls_here = c.if-not-is_word.ensures.0 (search rules) in
    at_calls c.args._name.now (world_view c.args._world.now) (texts_of c.args.behind) None (g.F.Files.holds c.args.files.now) c.args.calls.now c.requires here ∙ ap (λ (b : Option (Vec ℕ Global)). over (texts_of b) (g.F.Files.holds c.args.files.now c.args.calls.now)) c.in-Some.is

pub returns-in-None-clause-text : goal.returns-in-None-clause-text
returns-in-None-clause-text g c = IfOk-weaker c.read_file-in-None.result _ _ (λ text held t.
    ap (λ (b : Option (Vec ℕ Global)). standing c.args._name.now (world_view c.args._world.now) (texts_of b) None (g.F.Files.holds c.args.files.now) c.args.calls.now) c.in-None.is
    ∙ (at_lone c.args._name.now (world_view c.args._world.now) (g.F.Files.holds c.args.files.now) c.args.calls.now c.requires ∙ held t)) c.read_file-in-None.ensures.bytes
