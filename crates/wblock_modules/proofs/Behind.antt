-- What is read of modules behind the contracts of a world.
use Rattle.std.proofs.Common.{◌≡◌, ℕ, ◌+◌, ◌<◌, ◌≤◌, Bool, List, Bor, length, map, ap, inl, inr, arith}
use Rattle.std.proofs.lemmas.List.{length-map}
use Rattle.spec_block.specs.Worlds.{World}
use Rattle.wblock_io.specs.Holding.{Holding}
use Rattle.wblock_modules.specs.declared.deploy.Modules.{Modules}
use Rattle.wblock_modules.specs.declared.deploy.Modules.TheVariants as modules
use Rattle.wblock_modules.specs.Deploys.{FitsBehind, HasCount, IsRead, IsReadBehind, TellsCount, crowd_line}

-- it is told that they are too many, and none is read

pub crowd_fits : (json : Bool) (count : ℕ) (base : World) (m : Modules) → TellsCount json count m → FitsBehind base m
crowd_fits json count base (modules.Linked contracts) told = absurd told
crowd_fits json count base (modules.Refused text why) told = tt

pub crowd_count : (json : Bool) (count n : ℕ) (m : Modules) → TellsCount json count m → HasCount n m
crowd_count json count n (modules.Linked contracts) told = absurd told
crowd_count json count n (modules.Refused text why) told = tt

pub crowd_read : (json : Bool) (holds : Holding) (base : World) (names : List (Bor (List ℕ))) (count : ℕ) (m : Modules) → count ≡ length base.contracts → 1024 < count + length names → TellsCount json (count + length names) m
    → IsReadBehind json holds base (map (λ w. w.now) names) m
crowd_read json holds base names count (modules.Linked contracts) is many told = absurd told
crowd_read json holds base names count (modules.Refused text why) is many told =
    let mapped = length-map names (λ (w : Bor (List ℕ)). w.now) in
    let same : count + length names ≡ length base.contracts + length (map (λ (w : Bor (List ℕ)). w.now) names) = omega (arith, is, mapped) in
    inl (record { line = crowd_line (count + length names); crowd = record { many = omega (arith, same, many); line_is = ap crowd_line same }; told_is = told })

-- they fit, and are read

pub read_fits : (base : World) (n : ℕ) (m : Modules) → length base.contracts + n ≤ 1024 → HasCount n m → FitsBehind base m
read_fits base n (modules.Linked contracts) room is = omega (arith, room, is)
read_fits base n (modules.Refused text why) room is = tt

pub read_behind : (json : Bool) (holds : Holding) (base : World) (names : List (Bor (List ℕ))) (m : Modules) → length base.contracts + length names ≤ 1024 → IsRead json holds (map (λ w. w.now) names) m → IsReadBehind json holds base (map (λ w. w.now) names) m
read_behind json holds base names (modules.Linked contracts) room are = (omega (arith, room, length-map names (λ (w : Bor (List ℕ)). w.now)), are)
read_behind json holds base names (modules.Refused text why) room is = inr (omega (arith, room, length-map names (λ (w : Bor (List ℕ)). w.now)), is)
