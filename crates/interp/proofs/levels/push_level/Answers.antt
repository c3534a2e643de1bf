use Rattle.std.proofs.Common.{◌≡◌, ◌++◌, ◌∷◌, [], ap, ◌∙◌, length, length-append, arith, rules, SFits, to_z, of_z, w64}
use Rattle.std.proofs.lemmas.Int.{to_z-of_z}
use Rattle.spec_ledger.specs.declared.TraceStep.TheVariants.{Opened}
use Rattle.interp.specs.declared.run.Level.{Level}
use Rattle.interp.proofs.Pushing.{waiting_same, pushed_same}
use Rattle.interp.proofs.levels.push_level.Goals as goal

pub record_step-requires : goal.record_step-requires
record_step-requires g c = let room = c.requires.marks in omega (arith, room)

pub returns : goal.returns
returns g c =
    let r = c.args.run.now in
    let fresh_fits : SFits w64 c.args.fresh.answer = search rules in
    let old_fits : SFits w64 c.replace-5.result = search rules in
    let old_is : c.replace-5.result ≡ r.answer = c.replace-5.ensures.value in
    record {
      same = pushed_same r c.args.fresh _ _ _ _ _ c.record_step.new.trace c.push_reserved.new.self c.replace.ensures.after c.replace-2.ensures.after c.replace-3.ensures.after c.replace-4.ensures.after (c.replace-5.ensures.after ∙ to_z-of_z w64 c.args.fresh.answer fresh_fits);
      trace = c.record_step.ensures.items;
      outer = c.push_reserved.ensures.items ∙ ap (λ (l : Level _). r.outer.items ++ l ∷ []) (waiting_same r c.args.fresh c.replace.result c.replace-2.result c.replace-3.result c.replace-4.result (to_z w64 (of_z w64 c.replace-5.result)) c.replace.ensures.value c.replace-2.ensures.value c.replace-3.ensures.value c.replace-4.ensures.value (to_z-of_z w64 c.replace-5.result old_fits ∙ old_is));
      room = (let marks = c.requires.marks in omega (arith, marks, c.record_step.ensures.capacity, c.record_step.new.trace.ok.0, r.trace.ok.0, r.outer.ok.0, ap length c.record_step.ensures.items, length-append r.trace.items (Opened ∷ []), c.push_reserved.ensures.len, c.push_reserved.new.self.ok.0));
    }
