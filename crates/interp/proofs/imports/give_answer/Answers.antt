use Rattle.std.proofs.Common.{◌≡◌, ◌-◌, ◌++◌, ◌∷◌, [], List, length, take, sym, ap, ◌∙◌, refl, arith, rules, SFits, w64}
use Rattle.std.proofs.lemmas.Int.{to_z-of_z}
use Rattle.std.proofs.lemmas.List.{take_all}
use Rattle.wtypes.specs.declared.Value.{Value}
use Rattle.wtypes.specs.declared.Value.TheVariants.{I64}
use Rattle.spec_ledger.specs.declared.Reply.TheVariants as reply
use Rattle.spec_execution.specs.Reduction.{Answer}
use Rattle.interp_state.specs.Callee.{base_of}
use Rattle.interp_state.specs.Views.{view}
use Rattle.interp_state.specs.ViewLaws.{items_nil, last_of, ordered_any}
use Rattle.interp_state.specs.Waiting.{tail_of}
use Rattle.interp.specs.Run.{seen, args_of}
use Rattle.interp.proofs.Leaving.{machine_on, gone_on, ordered_on}
use Rattle.interp.proofs.imports.give_answer.Goals as goal

pub give_up-requires : goal.give_up-requires
give_up-requires g c = record {
  beginning = record {
    opens = c.requires.call.calling.opens;
    safe = c.requires.call.calling.safe;
    suits = c.requires.call.suits;
    waits = c.requires.call.waits;
    place = c.requires.call.place;
    around = c.requires.call.around;
    entered = c.requires.call.entered;
  };
}

-- `answer` takes nothing, and gives the level's answer: the free move is `wished` of it
pub settle_all-requires-clause-ordered : goal.settle_all-requires-clause-ordered
settle_all-requires-clause-ordered g c =
    let r = c.args.run.now in
    let s = seen r in
    let fits : SFits w64 r.answer = search rules in
    let same : c.push.new.stack.items ≡ r.parts.stack.items ++ I64 r.answer ∷ [] = c.in-Ok.ensures.items ∙ ap (λ z. r.parts.stack.items ++ I64 z ∷ []) (to_z-of_z w64 r.answer fits) in
    let pushed : c.push.new.stack.items ≡ take (length r.parts.stack.items - 0) r.parts.stack.items ++ I64 r.answer ∷ [] = same ∙ ap (λ (xs : List Value). xs ++ I64 r.answer ∷ []) (sym (take_all (length r.parts.stack.items - 0) r.parts.stack.items (omega arith))) in
    ordered_any (base_of r.lent) (record r.parts { stack = c.push.new.stack }) (ordered_on s s.asked c.requires.call.calling Answer c.requires.wished.room c.requires.wished.asks (reply.I64 r.answer) r.answer c.push.new.stack.items pushed (λ go. refl))

pub returns-in-Ok-clause-kept : goal.returns-in-Ok-clause-kept
returns-in-Ok-clause-kept g c =
    let r = c.args.run.now in
    let s = seen r in
    let b = base_of r.lent in
    let q = c.settle_all.new.parts in
    let x = c.settle_all.new.waiting in
    let fits : SFits w64 r.answer = search rules in
    let same : c.push.new.stack.items ≡ r.parts.stack.items ++ I64 r.answer ∷ [] = c.in-Ok.ensures.items ∙ ap (λ z. r.parts.stack.items ++ I64 z ∷ []) (to_z-of_z w64 r.answer fits) in
    let pushed : c.push.new.stack.items ≡ take (length r.parts.stack.items - 0) r.parts.stack.items ++ I64 r.answer ∷ [] = same ∙ ap (λ (xs : List Value). xs ++ I64 r.answer ∷ []) (sym (take_all (length r.parts.stack.items - 0) r.parts.stack.items (omega arith))) in
    let come = c.settle_all.ensures.comes s.contract (args_of r.call.now.args r.argument) b c.requires.call.waits in
    record {
      machine = machine_on s s.asked c.requires.call.calling Answer c.requires.wished.room c.requires.wished.asks (reply.I64 r.answer) r.answer c.push.new.stack.items pushed (λ go. refl)
          (view b q) (tail_of (args_of r.call.now.args r.argument) x) come.frees come.ordered (λ e. c.settle_all.ensures.ready (items_nil q.code.now e)) (last_of (args_of r.call.now.args r.argument) q x c.settle_all.ensures.last) s.asked;
      counted = c.settle_all.ensures.counted;
      suits = ap (λ i. i.memory.max) c.settle_all.ensures.instance ∙ c.requires.call.suits;
      waits = come.waits;
      place = c.settle_all.ensures.place;
      around = c.requires.call.around;
      entered = c.requires.call.entered;
      room = c.requires.call.room;
    }

pub returns-in-Ok-clause-turn : goal.returns-in-Ok-clause-turn
returns-in-Ok-clause-turn g c =
    let r = c.args.run.now in
    let s = seen r in
    let b = base_of r.lent in
    let q = c.settle_all.new.parts in
    let x = c.settle_all.new.waiting in
    let fits : SFits w64 r.answer = search rules in
    let same : c.push.new.stack.items ≡ r.parts.stack.items ++ I64 r.answer ∷ [] = c.in-Ok.ensures.items ∙ ap (λ z. r.parts.stack.items ++ I64 z ∷ []) (to_z-of_z w64 r.answer fits) in
    let pushed : c.push.new.stack.items ≡ take (length r.parts.stack.items - 0) r.parts.stack.items ++ I64 r.answer ∷ [] = same ∙ ap (λ (xs : List Value). xs ++ I64 r.answer ∷ []) (sym (take_all (length r.parts.stack.items - 0) r.parts.stack.items (omega arith))) in
    let come = c.settle_all.ensures.comes s.contract (args_of r.call.now.args r.argument) b c.requires.call.waits in
    gone_on s s.asked c.requires.call.calling Answer c.requires.wished.room c.requires.wished.asks (reply.I64 r.answer) r.answer c.push.new.stack.items pushed (λ go. refl)
    (view b q) (tail_of (args_of r.call.now.args r.argument) x) come.frees come.ordered (λ e. c.settle_all.ensures.ready (items_nil q.code.now e)) (last_of (args_of r.call.now.args r.argument) q x c.settle_all.ensures.last) s.asked
