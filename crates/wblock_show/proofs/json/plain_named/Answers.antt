use Rattle.std.proofs.Common.{◌≡◌, ℕ, List, rules, inl, None, subst}
use Rattle.wblock_show.specs.Json.{IsTold}
use Rattle.wblock_show.proofs.json.plain_named.Goals as goal

pub returns-in-Ok-clause-answers : goal.returns-in-Ok-clause-answers
returns-in-Ok-clause-answers g c = λ tells.
    let alone : c.args.task.calls ≡ None = search rules in
    inl (record {
      alone = alone;
      bytes = c.in_ok-bytes.bytes.items;
      held = c.in_ok-bytes.ensures.bytes tells;
      told = subst (λ (bytes : List ℕ). IsTold c.args.task.signed bytes c.in-Ok.answer) c.as_slice.ensures.value c.in-Ok.ensures;
    })
