-- Worked examples of the two versions: how far a memory grows.
use Rattle.std.proofs.Common.{◌≡◌, ℕ, List, [], ◌∷◌, Option, Some, None, refl, arith, negsuc}
use Rattle.wtypes.specs.declared.Value.TheVariants.{I32}
use Rattle.spec_ledger.specs.declared.Version.{Version}
use Rattle.spec_ledger.specs.declared.Version.TheVariants.{One, Two}
use Rattle.spec_modules.specs.Syntax.{Limits, Module}
use Rattle.spec_execution.specs.Configuration.{Seq, End, Val, State}
use Rattle.spec_execution.specs.Reduction.{Next, Goes, most_pages, pages, grown}
use Rattle.spec_execution.proofs.Rows.{no_module}

-- a memory of this minimum and this maximum
abbrev memory : ℕ → Option ℕ → List Limits
memory min max = record { min = min; max = max } ∷ []

to_256 : most_pages One (memory 1 None) ≡ 256
to_256 = refl

to_1024 : most_pages Two (memory 1 None) ≡ 1024
to_1024 = refl

-- a minimum above 256 stays, and a maximum below counts
to_its_minimum : most_pages One (memory 300 None) ≡ 300
to_its_minimum = refl

to_its_maximum : most_pages One (memory 1 (Some 10)) ≡ 10
to_its_maximum = refl

no_further : most_pages One (memory 1 (Some 600)) ≡ 256
no_further = refl

not_to_1024 : most_pages One (memory 1 None) ≡ 1024 → ⊥
not_to_1024 e = omega (arith, e)

-- 256 pages more than 1 are refused in version 1
refused_in_one : (s : State) → pages s.memory ≡ 1 → grown (record { number = 0; deployed = record { tree = record no_module { memories = memory 1 None }; hosts = [] }; version = One }) 1 s 256 [] End ≡ Goes 1 s (Val (I32 (negsuc 0)) End)
unfolding grown
refused_in_one s one = rw one refl
