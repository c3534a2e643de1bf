-- What the code of an instruction that holds no other one comes to.
use Rattle.std.specs.Prelude.{List}
use Rattle.wtypes.specs.declared.Value.{Value}
use Rattle.wtypes.specs.declared.PlainInstr.{PlainInstr}
use Rattle.laws_reduction.specs.Plain.{Called, Done, Fell}
use Rattle.interp_state.specs.declared.plain.After.{After}
use Rattle.interp_state.specs.declared.plain.After.TheVariants as after

abbrev pub Did : PlainInstr → List Value → List Value → After → List Value → List Value → Type 0
Did op stack locals after.Ran stack' locals' = Done op stack locals stack' locals'
Did op stack locals (after.Fell t) stack' locals' = Fell op stack locals t locals'
Did op stack locals (after.Calls f) stack' locals' = Called op stack locals f stack' locals'

-- the locals are not read
abbrev pub DidAny : PlainInstr → List Value → After → List Value → Type 0
DidAny op stack a stack' = (locals : List Value) → Did op stack locals a stack' locals
