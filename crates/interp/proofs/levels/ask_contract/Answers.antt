use Rattle.std.proofs.Common.{◌≡◌, ◌-◌, ◌++◌, ◌∷◌, [], ℕ, pos, length, take, sym, ap, ◌∙◌, subst, arith, ℤ, rules, SFits, w64}
use Rattle.std.proofs.lemmas.Int.{to_z-of_z}
use Rattle.wtypes.specs.declared.Value.TheVariants.{I32}
use Rattle.spec_ledger.specs.declared.Reply.TheVariants as reply
use Rattle.spec_execution.specs.Reduction.{Ask}
use Rattle.spec_execution.specs.Run.{Opens, Refused}
use Rattle.spec_execution.specs.Levels.{asked}
use Rattle.instance.specs.Views.{contract_of}
use Rattle.interp_state.specs.Callee.{base_of}
use Rattle.interp_state.specs.Views.{view}
use Rattle.interp_state.specs.ViewLaws.{items_nil, last_of, ordered_any}
use Rattle.interp_state.specs.Waiting.{tail_of}
use Rattle.interp.specs.Run.{seen, args_of, IsToEnter}
use Rattle.interp.proofs.Around.{levels_length}
use Rattle.interp.proofs.Leaving.{machine_on, gone_on, ordered_on, refused_move}
use Rattle.interp.proofs.levels.ask_contract.Goals as goal

-- an `ask` that opens enters a level
pub enter_level-requires-clause-enters : goal.enter_level-requires-clause-enters
enter_level-requires-clause-enters g c =
    let r = c.args.run.now in
    let k = contract_of r.version c.args.number c.in-Ok.deployed.now in
    let fits : SFits w64 c.args.argument = search rules in
    let opens : asked (seen r).setting c.len.result c.args.number c.args.export ≡ Opens k c.in-Ok.entry = c.in-Ok.ensures.opens r.version in
    let enters : IsToEnter r c.args.number c.in-Ok.deployed.now c.in-Ok.entry c.args.argument = record {
      export = c.args.export;
      wished = c.requires.wished;
      opens = subst (λ (n : ℕ). asked (seen r).setting n c.args.number c.args.export ≡ Opens k c.in-Ok.entry) (c.len.ensures ∙ r.outer.ok.0 ∙ sym (levels_length r.call.now.args r.outer.items)) opens;
    } in
    subst (λ (z : ℤ). IsToEnter r c.args.number c.in-Ok.deployed.now c.in-Ok.entry z) (sym (to_z-of_z w64 c.args.argument fits)) enters

pub take_status-requires : goal.take_status-requires
take_status-requires g c = omega (arith, c.requires.wished.room, c.args.run.now.parts.stack.ok.0)

pub settle_all-requires-clause-ordered : goal.settle_all-requires-clause-ordered
settle_all-requires-clause-ordered g c =
    let r = c.args.run.now in
    let s = seen r in
    let status = c.in-Err.status in
    let taken : c.take_status.new.stack.items ≡ take (length r.parts.stack.items - 3) r.parts.stack.items ++ I32 (pos status) ∷ [] = c.take_status.ensures ∙ ap (λ n. take (n - 3) r.parts.stack.items ++ I32 (pos status) ∷ []) r.parts.stack.ok.0 in
    let refused : asked s.setting (length s.outer) c.args.number c.args.export ≡ Refused status = subst (λ (n : ℕ). asked s.setting n c.args.number c.args.export ≡ Refused status) (c.len.ensures ∙ r.outer.ok.0 ∙ sym (levels_length r.call.now.args r.outer.items)) (c.in-Err.ensures.refused r.version) in
    ordered_any (base_of r.lent) (record r.parts { stack = c.take_status.new.stack }) (ordered_on s s.asked c.requires.call.calling (Ask c.args.number c.args.export c.args.argument) c.requires.wished.room c.requires.wished.asks (reply.I32 (pos status)) (pos 0) c.take_status.new.stack.items taken
    (refused_move s s.asked c.args.number c.args.export c.args.argument status refused))

pub returns-in-Err-clause-kept : goal.returns-in-Err-clause-kept
returns-in-Err-clause-kept g c =
    let r = c.args.run.now in
    let s = seen r in
    let status = c.in-Err.status in
    let b = base_of r.lent in
    let q = c.settle_all.new.parts in
    let x = c.settle_all.new.waiting in
    let taken : c.take_status.new.stack.items ≡ take (length r.parts.stack.items - 3) r.parts.stack.items ++ I32 (pos status) ∷ [] = c.take_status.ensures ∙ ap (λ n. take (n - 3) r.parts.stack.items ++ I32 (pos status) ∷ []) r.parts.stack.ok.0 in
    let refused : asked s.setting (length s.outer) c.args.number c.args.export ≡ Refused status = subst (λ (n : ℕ). asked s.setting n c.args.number c.args.export ≡ Refused status) (c.len.ensures ∙ r.outer.ok.0 ∙ sym (levels_length r.call.now.args r.outer.items)) (c.in-Err.ensures.refused r.version) in
    let come = c.settle_all.ensures.comes s.contract (args_of r.call.now.args r.argument) b c.requires.call.waits in
    record {
      machine = machine_on s s.asked c.requires.call.calling (Ask c.args.number c.args.export c.args.argument) c.requires.wished.room c.requires.wished.asks (reply.I32 (pos status)) (pos 0) c.take_status.new.stack.items taken
          (refused_move s s.asked c.args.number c.args.export c.args.argument status refused)
          (view b q) (tail_of (args_of r.call.now.args r.argument) x) come.frees come.ordered (λ e. c.settle_all.ensures.ready (items_nil q.code.now e)) (last_of (args_of r.call.now.args r.argument) q x c.settle_all.ensures.last) s.asked;
      counted = c.settle_all.ensures.counted;
      suits = ap (λ i. i.memory.max) c.settle_all.ensures.instance ∙ c.requires.call.suits;
      waits = come.waits;
      place = c.settle_all.ensures.place;
      around = c.requires.call.around;
      entered = c.requires.call.entered;
      room = c.requires.call.room;
    }

pub returns-in-Err-clause-turn : goal.returns-in-Err-clause-turn
returns-in-Err-clause-turn g c =
    let r = c.args.run.now in
    let s = seen r in
    let status = c.in-Err.status in
    let b = base_of r.lent in
    let q = c.settle_all.new.parts in
    let x = c.settle_all.new.waiting in
    let taken : c.take_status.new.stack.items ≡ take (length r.parts.stack.items - 3) r.parts.stack.items ++ I32 (pos status) ∷ [] = c.take_status.ensures ∙ ap (λ n. take (n - 3) r.parts.stack.items ++ I32 (pos status) ∷ []) r.parts.stack.ok.0 in
    let refused : asked s.setting (length s.outer) c.args.number c.args.export ≡ Refused status = subst (λ (n : ℕ). asked s.setting n c.args.number c.args.export ≡ Refused status) (c.len.ensures ∙ r.outer.ok.0 ∙ sym (levels_length r.call.now.args r.outer.items)) (c.in-Err.ensures.refused r.version) in
    let come = c.settle_all.ensures.comes s.contract (args_of r.call.now.args r.argument) b c.requires.call.waits in
    gone_on s s.asked c.requires.call.calling (Ask c.args.number c.args.export c.args.argument) c.requires.wished.room c.requires.wished.asks (reply.I32 (pos status)) (pos 0) c.take_status.new.stack.items taken
    (refused_move s s.asked c.args.number c.args.export c.args.argument status refused)
    (view b q) (tail_of (args_of r.call.now.args r.argument) x) come.frees come.ordered (λ e. c.settle_all.ensures.ready (items_nil q.code.now e)) (last_of (args_of r.call.now.args r.argument) q x c.settle_all.ensures.last) s.asked
