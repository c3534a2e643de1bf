-- What an import asks for, as the machine has it and in the words of the definitions.
use Rattle.std.specs.Prelude.{ℕ, ℤ, pos, Option, Some, None}
use Rattle.wtypes.specs.declared.Value.{Value}
use Rattle.spec_execution.specs.Reduction as spec
use Rattle.spec_execution.specs.Levels.{signed_of}
use Rattle.interp.specs.declared.replies.HostEffect.{HostEffect}
use Rattle.interp.specs.declared.replies.HostEffect.TheVariants as wish
use Rattle.interp.specs.Machine.{params_of}

abbrev pub effect_of_code : HostEffect → spec.HostEffect
effect_of_code (wish.Of op) = spec.Of op
effect_of_code (wish.Ask number export argument) = spec.Ask number export argument
effect_of_code wish.Answer = spec.Answer

-- how many arguments it takes
abbrev pub args_taken : spec.HostEffect → ℕ
args_taken (spec.Of op) = params_of op
args_taken (spec.Ask number export argument) = 3
args_taken spec.Answer = 0

-- the number of a value, 0 where there is none
abbrev pub number_of : Option Value → ℤ
number_of None = pos 0
number_of (Some v) = signed_of v
