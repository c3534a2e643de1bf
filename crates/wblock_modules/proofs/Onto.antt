-- The world that modules are deployed onto.
use Rattle.std.proofs.Common.{◌≡◌, ℕ, List, Option, Some, Bor, Result, Ok, Err, IfOk, IsTrue, Bool, refl, inl, inr, String, Global}
use Rattle.spec_block.specs.Worlds.{World}
use Rattle.wblock_io.specs.Holding.{Holding}
use Rattle.wblock_line.specs.declared.answer.Answer.{Answer}
use Rattle.wblock_line.specs.declared.answer.Answer.TheVariants.{Refused}
use Rattle.wblock_line.specs.declared.inputs.WorldFile.{WorldFile}
use Rattle.wblock_line.specs.declared.inputs.WorldFile.TheVariants as file
use Rattle.wblock_line.specs.Inputs.{GivesWorld}
use Rattle.wblock_line.specs.Answers.{upshot_of}
use Rattle.wblock_line.specs.Forms.{IsRefusalIn}
use Rattle.wblock_line.specs.Upshots.{of_answer}
use Rattle.wblock_modules.specs.declared.deploy.Modules.TheVariants as modules
use Rattle.wblock_modules.specs.Deploys.{Deploys, GivesBase, IsBase, IsReadBehind, RefusesOld, TellsNoBase}

of_old : (holds : Holding) (old : Bor (List ℕ)) (found : WorldFile) → GivesWorld holds old.now found → GivesBase holds (Some old) found
of_old holds old (file.Read w) is = is
of_old holds old (file.Refused line why) is = is

-- what the file of OLD gives is what is gone on from
pub given : {E : Type 0} (tells : Bool) (holds : Holding) (old : Bor (List ℕ)) (r : Result WorldFile E) → IfOk r (λ found. IsTrue tells → GivesWorld holds old.now found) → IfOk r (λ found. IsTrue tells → GivesBase holds (Some old) found)
given tells holds old (Ok found) is = λ t. of_old holds old found (is t)
given tells holds old (Err fault) is = is

-- OLD holds no world, and the answer tells so
pub no_base : (json : Bool) (holds : Holding) (onto : Option (Bor (List ℕ))) (count : ℕ) (line : List ℕ) (a : Answer) → TellsNoBase holds onto line → IsRefusalIn json line a → RefusesOld json holds onto count (upshot_of a)
no_base json holds onto count line a none told = record { line = line; why = inl none; told = of_answer json line a told }

-- what was read of the modules refuses them, behind the contracts of what is gone on from
pub refused : (json : Bool) (holds : Holding) (world : List ℕ) (onto : Option (Bor (List ℕ))) (base : World) (names : List (List ℕ)) (told why : String Global) → IsBase holds onto base → IsReadBehind json holds base names (modules.Refused told why)
    → Deploys json holds world onto names (upshot_of (Refused told why))
refused json holds world onto base names told why is (inl many) =
    inl (record { line = many.line; why = inr (record { base = base; is_base = is; crowd = many.crowd }); told = record { status_is = refl; writes = refl; line = many.told_is } })
refused json holds world onto base names told why is (inr one) =
    inr (record { base = base; room = record { is_base = is; room = one.0 }; extends = inr (record { status_is = refl; writes = refl; line = one.1 }) })
