-- The levels round the innermost one, as the machine keeps them.
use Rattle.std.proofs.Common.{◌≡◌, ℕ, ◌<◌, List, [], ◌∷◌, ◌++◌, length, map, false, refl, sym, ap, ◌∙◌, subst, arith}
use Rattle.std.specs.Prelude.{reverse}
use Rattle.std.proofs.lemmas.List.{reverse-append, map-append, length-map, length-reverse}
use Rattle.wtypes.specs.declared.Value.{Value}
use Rattle.spec_ledger.specs.declared.Outcome.{Outcome}
use Rattle.spec_execution.specs.Levels as spec
use Rattle.interp.specs.declared.turns.Turn.{Turn}
use Rattle.interp.specs.declared.turns.Turn.TheVariants as turn
use Rattle.interp.specs.Progress.{LastIs, last_level}
use Rattle.interp.specs.declared.run.Level.{Level}
use Rattle.interp.specs.Run.{level_of, levels_of, IsAround, AreAround}

pub levels_push : {A : Type 0} (args : List Value) (ls : List (Level A)) (l : Level A) → levels_of args (ls ++ l ∷ []) ≡ level_of args l ∷ levels_of args ls
levels_push args ls l = ap (map (level_of args)) (reverse-append ls (l ∷ []))

pub levels_length : {A : Type 0} (args : List Value) (ls : List (Level A)) → length (levels_of args ls) ≡ length ls
levels_length args ls = length-map (reverse ls) (level_of args) ∙ length-reverse ls

-- none is around exactly where none is kept
pub none_kept : {A : Type 0} (args : List Value) (ls : List (Level A)) → levels_of args ls ≡ [] → ls ≡ []
none_kept args [] e = refl
none_kept args (l ∷ ls) e = absurd (let none : length (levels_of args (l ∷ ls)) ≡ 0 = ap length e in omega (arith, none, levels_length args (l ∷ ls)))

pub some_kept : {A : Type 0} (args : List Value) (ls : List (Level A)) {n : ℕ} → n ≡ length ls → (levels_of args ls ≡ [] → ⊥) → 0 < n
some_kept args [] e some = absurd (some refl)
some_kept args (l ∷ ls) e some = omega (arith, e)

pub around_push : {A : Type 0} (args : List Value) (ls : List (Level A)) (l : Level A) → AreAround args ls → IsAround args l → AreAround args (ls ++ l ∷ [])
around_push args [] l h is = (is, tt)
around_push args (k ∷ ls) l h is = (h.0, around_push args ls l h.1 is)

pub around_front : {A : Type 0} (args : List Value) (ls : List (Level A)) (l : Level A) → AreAround args (ls ++ l ∷ []) → AreAround args ls
around_front args [] l h = tt
around_front args (k ∷ ls) l h = (h.0, around_front args ls l h.1)

pub around_last : {A : Type 0} (args : List Value) (ls : List (Level A)) (l : Level A) → AreAround args (ls ++ l ∷ []) → IsAround args l
around_last args [] l h = h.0
around_last args (k ∷ ls) l h = around_last args ls l h.1

pub record IsSome (ls : List spec.Level) : Type 0 where
  pub around : spec.Level
  pub others : List spec.Level
  pub is : ls ≡ around ∷ others

pub some_around : (ls : List spec.Level) → (ls ≡ [] → ⊥) → IsSome ls
some_around [] h = absurd (h refl)
some_around (l ∷ ls) h = record { around = l; others = ls; is = refl }

-- ---- what is told at last

pub told_end : (o : Outcome) (ls : List spec.Level) → ls ≡ [] → LastIs (turn.Done o) o ls
told_end o ls none = subst (LastIs (turn.Done o) o) (sym none) refl

pub told_left : (a : Turn) (o : Outcome) (ls : List spec.Level) → (ls ≡ [] → ⊥) → a ≡ turn.Leave false → LastIs a o ls
told_left a o [] some is = absurd (some refl)
told_left a o (l ∷ ls) some is = is

-- ---- the outer level

last_push : (k : spec.Level) (xs : List spec.Level) (y : spec.Level) → last_level k (xs ++ y ∷ []) ≡ y
last_push k [] y = refl
last_push k (x ∷ xs) y = last_push x xs y

-- the first that is kept
pub outer_first : {A : Type 0} (args : List Value) (inner : spec.Level) (l : Level A) (ls : List (Level A)) → last_level inner (levels_of args (l ∷ ls)) ≡ level_of args l
outer_first args inner l ls =
    ap (λ (xs : List (Level _)). last_level inner (map (level_of args) xs)) (reverse-append (l ∷ []) ls)
    ∙ ap (last_level inner) (map-append (level_of args) (reverse ls) (l ∷ []))
    ∙ last_push inner (map (level_of args) (reverse ls)) (level_of args l)
