-- A reader and a spelling that belong together.
use Rattle.std.specs.Prelude.{◌≡◌, ℕ, ◌<◌, List, [], ◌∷◌, ◌++◌, Option, Some, Ok, get_or}
use Rattle.records.specs.Reading.{Read}

abbrev pub AreBytes : List ℕ → Type 0
AreBytes bytes = (i : ℕ) → get_or bytes i 0 < 256

-- what a reader took from the front
pub record Takes (bytes text rest : List ℕ) : Type 0 where
  pub parts : bytes ≡ text ++ rest
  pub rest_fits : AreBytes rest

-- what is read is spelled so, and what is spelled so is read, whatever follows
pub record ReadsExactly {A : Type 0} (at : List ℕ → Read A) (text : A → List ℕ) (Is : A → Type 0) : Type 0 where
  pub takes : (bytes : List ℕ) (x : A × List ℕ) → AreBytes bytes → at bytes ≡ Ok x → Takes bytes (text x.0) x.1
  pub fits : (bytes : List ℕ) (x : A × List ℕ) → AreBytes bytes → at bytes ≡ Ok x → Is x.0
  pub again : (x : A) (rest : List ℕ) → Is x → at (text x ++ rest) ≡ Ok (x, rest)

-- each item is as it has to be after the one before it
abbrev pub Follow : {A : Type 0} → (Option A → A → Type 0) → Option A → List A → Type 0
Follow Is before [] = Unit {0}
Follow Is before (x ∷ xs) = Is before x × Follow Is (Some x) xs
