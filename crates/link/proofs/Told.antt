-- A refusal of a segment says that it is out of range.
use Rattle.std.proofs.Common.{◌≡◌, ℕ, List, [], ◌∷◌, map, length, refl, ap, suc}
use Rattle.spec_modules.specs.Syntax as syntax
use Rattle.spec_typing.specs.Linking as linking
use Rattle.link.specs.declared.refusal.LinkRefusal.{LinkRefusal}
use Rattle.link.specs.declared.refusal.LinkRefusal.TheVariants as refusal
use Rattle.link.specs.Refusals.{Says, ImportsPass, PassedBefore, OutAt}

pub told : (m : syntax.Module) (r : LinkRefusal) (place : ℕ) → OutAt r place → ((n : ℕ) → n ≡ place → linking.SegmentRange m n) → Says r m
told m (refusal.UnknownImport n) place at k = absurd at
told m (refusal.ImportType n) place at k = absurd at
told m (refusal.SegmentRange n) place at k = k n at
told m refusal.TooManyPages place at k = absurd at
told m refusal.TableTooLarge place at k = absurd at
told m refusal.NoMemory place at k = tt

pub passed : (m : syntax.Module) (r : LinkRefusal) (place : ℕ) → OutAt r place → ImportsPass m → PassedBefore r m
passed m (refusal.UnknownImport n) place at h = absurd at
passed m (refusal.ImportType n) place at h = absurd at
passed m (refusal.SegmentRange n) place at h = h
passed m refusal.TooManyPages place at h = absurd at
passed m refusal.TableTooLarge place at h = absurd at
passed m refusal.NoMemory place at h = tt

pub map_length : {X Y : Type 0} (f : X → Y) (xs : List X) → length (map f xs) ≡ length xs
map_length f [] = refl
map_length f (x ∷ xs) = ap suc (map_length f xs)
