use Rattle.std.proofs.Common.{◌∷◌, [], length, ℤ, refl, sym, subst, rules, SFits, w64}
use Rattle.std.proofs.lemmas.Int.{to_z-of_z}
use Rattle.wtypes.specs.declared.Value.TheVariants.{I64}
use Rattle.interp_state.specs.Waiting.{IsEntry}
use Rattle.instance.specs.Views.{contract_of}
use Rattle.interp.specs.Callee.{setting_view}
use Rattle.interp.specs.Run.{seen, IsFreshLevel}
use Rattle.interp.proofs.Pushing.{entry_of, entry_own, begun_of, pushed_from, same_call_of, first_pushed, has_entered}
use Rattle.interp.proofs.levels.enter_level.Goals as goal

pub open_level-requires-clause-entry : goal.open_level-requires-clause-entry
open_level-requires-clause-entry g c =
    let r = c.args.run.now in
    let k = contract_of r.version c.args.number c.args.deployed.now in
    let fits : SFits w64 c.args.argument = search rules in
    subst (λ (z : ℤ). IsEntry k c.args.entry (I64 z ∷ [])) (sym (to_z-of_z w64 c.args.argument fits)) (entry_of (setting_view r.version r.contracts.now) (length (seen r).outer) c.args.number c.requires.enters.export k c.args.entry c.args.argument c.requires.enters.opens)

pub open_level-requires-clause-defined : goal.open_level-requires-clause-defined
open_level-requires-clause-defined g c =
    let r = c.args.run.now in
    entry_own (setting_view r.version r.contracts.now) (length (seen r).outer) c.args.number c.requires.enters.export (contract_of r.version c.args.number c.args.deployed.now) c.args.entry c.requires.enters.opens

pub give_up-requires : goal.give_up-requires
give_up-requires g c =
    let r = c.args.run.now in
    record { beginning = begun_of r r.asked r.trace r.outer c.requires.call refl refl }

pub give_up-requires-in_default : goal.give_up-requires-in_default
give_up-requires-in_default g c =
    let r = c.args.run.now in
    record { beginning = begun_of r r.asked r.trace r.outer c.requires.call refl refl }

pub give_up-requires-in-Err : goal.give_up-requires-in-Err
give_up-requires-in-Err g c =
    let r = c.args.run.now in
    record { beginning = begun_of r r.asked c.make_room.new.trace c.make_room.new.outer c.requires.call c.make_room.ensures.trace c.make_room.ensures.outer }

pub start_run-requires : goal.start_run-requires
start_run-requires g c =
    let r = c.args.run.now in
    let fits : SFits w64 c.args.argument = search rules in
    let fresh_is : IsFreshLevel r.version c.args.number c.args.deployed.now c.args.entry c.args.argument c.in-Ok.fresh = subst (λ (z : ℤ). IsFreshLevel r.version c.args.number c.args.deployed.now c.args.entry z c.in-Ok.fresh) (to_z-of_z w64 c.args.argument fits) c.in-Ok.ensures in
    record {
      first = first_pushed r c.push_level.new.run c.in-Ok.fresh (pushed_from r c.make_room.new.trace c.make_room.new.outer c.in-Ok.fresh c.push_level.new.run c.make_room.ensures.trace c.make_room.ensures.outer c.push_level.ensures)
          c.args.number c.args.deployed.now c.args.entry c.args.argument c.requires.call c.requires.enters fresh_is;
    }

pub returns-in-Stepped-clause-turn : goal.returns-in-Stepped-clause-turn
returns-in-Stepped-clause-turn g c =
    let r = c.args.run.now in
    let fits : SFits w64 c.args.argument = search rules in
    let fresh_is : IsFreshLevel r.version c.args.number c.args.deployed.now c.args.entry c.args.argument c.in-Ok.fresh = subst (λ (z : ℤ). IsFreshLevel r.version c.args.number c.args.deployed.now c.args.entry z c.in-Ok.fresh) (to_z-of_z w64 c.args.argument fits) c.in-Ok.ensures in
    has_entered r c.push_level.new.run c.in-Ok.fresh (pushed_from r c.make_room.new.trace c.make_room.new.outer c.in-Ok.fresh c.push_level.new.run c.make_room.ensures.trace c.make_room.ensures.outer c.push_level.ensures)
    c.args.number c.args.deployed.now c.args.entry c.args.argument c.requires.call c.requires.enters fresh_is c.start_run.new.run c.in-Stepped.ensures.begun c.start_run.ensures.kept

pub returns-in-NoMemory-clause-same : goal.returns-in-NoMemory-clause-same
returns-in-NoMemory-clause-same g c h =
    let r = c.args.run.now in
    same_call_of r c.push_level.new.run c.start_run.new.run c.in-Ok.fresh (pushed_from r c.make_room.new.trace c.make_room.new.outer c.in-Ok.fresh c.push_level.new.run c.make_room.ensures.trace c.make_room.ensures.outer c.push_level.ensures) (c.in-NoMemory.ensures.same refl)

pub returns-in-Err-clause-same : goal.returns-in-Err-clause-same
returns-in-Err-clause-same g c h = let s = c.give_up-in-Err.ensures.same in record { setting = s.setting; call = s.call; contract = s.contract; func = s.func }
