-- Names of functions, in the order of their numbers.
use Rattle.std.proofs.Common.{◌≡◌, ℕ, ◌+◌, ◌<◌, ◌≤◌, List, [], ◌∷◌, Some, None, refl, ap, ◌∙◌, cond, get_or, arith}
use Rattle.std.proofs.lemmas.Bool.{eq-eqb, ne_eqb}
use Rattle.wblock_words.specs.declared.function_names.FunctionName.{FunctionName}
use Rattle.wblock_words.specs.Names.{IsFrom, Named, Rises, name_among, named_of, names_in}

pub rises_on : (a : Named) (more : List Named) → Rises (a ∷ more) → Rises more
rises_on a [] r = tt
rises_on a (b ∷ more) r = r.1

pub from_less : (m n : ℕ) (names : List Named) → m ≤ n → IsFrom n names → IsFrom m names
from_less m n [] le h = tt
from_less m n (a ∷ more) le h = (omega (arith, le, h.0), from_less m n more le h.1)

-- those behind the first are of later functions
pub from_on : (a : Named) (more : List Named) → Rises (a ∷ more) → IsFrom (a.0 + 1) more
from_on a [] r = tt
from_on a (b ∷ more) r = (omega (arith, r.0), from_less (a.0 + 1) (b.0 + 1) more (omega (arith, r.0)) (from_on b more r.1))

-- those of which the first is not before
pub from_first : (n : ℕ) (fs : List FunctionName) (d : FunctionName) → Rises (names_in fs) → n ≤ (get_or fs 0 d).number → IsFrom n (names_in fs)
from_first n [] d r le = tt
from_first n (f ∷ more) d r le = (le, from_less n (f.number + 1) (names_in more) (omega (arith, le)) (from_on (named_of f) (names_in more) r))

pub name_here : (a : Named) (more : List Named) (n : ℕ) → a.0 ≡ n → name_among (a ∷ more) n ≡ Some a.1
name_here a more n is = ap (λ b. cond b (Some a.1) (name_among more n)) (eq-eqb a.0 n is)

pub name_behind : (a : Named) (more : List Named) (n : ℕ) → (a.0 ≡ n → ⊥) → name_among (a ∷ more) n ≡ name_among more n
name_behind a more n isnt = ap (λ b. cond b (Some a.1) (name_among more n)) (ne_eqb a.0 n isnt)

pub no_name : (n m : ℕ) (names : List Named) → IsFrom n names → m < n → name_among names m ≡ None
no_name n m [] h lt = refl
no_name n m (a ∷ more) h lt = name_behind a more m (λ is. omega (arith, is, h.0, lt)) ∙ no_name n m more h.1 lt
