-- Lists of words, word by word.
use Rattle.std.proofs.Common.{◌≡◌, Option, Some, None, MatchOption, ℕ, ◌<◌, ◌≤◌, ◌-◌, List, [], ◌∷◌, take, drop, length, slice_index_or, Bor, refl, sym, ap, subst, arith}
use Rattle.std.proofs.lemmas.List.{take_all, length-drop}
use Rattle.wblock_calls.specs.Words.{texts}
use Rattle.wblock_line.specs.Words.{choices}

abbrev pub none : Bor (List ℕ)
none = record { ref_ptr = (0, 0); now = [] }

abbrev pub word_at : List (Bor (List ℕ)) → ℕ → List ℕ
word_at ws i = (slice_index_or ws i none).now

pub two_words : (ws : List (Bor (List ℕ))) → length ws ≡ 2 → texts ws ≡ word_at ws 0 ∷ word_at ws 1 ∷ []
two_words (v ∷ w ∷ []) e = refl
two_words [] e = absurd (omega (arith, e))
two_words (v ∷ []) e = absurd (omega (arith, e))
two_words (v ∷ w ∷ x ∷ ws) e = absurd (omega (arith, e))

pub three_words : (ws : List (Bor (List ℕ))) → length ws ≡ 3 → texts ws ≡ word_at ws 0 ∷ word_at ws 1 ∷ word_at ws 2 ∷ []
three_words (v ∷ w ∷ x ∷ []) e = refl
three_words [] e = absurd (omega (arith, e))
three_words (v ∷ []) e = absurd (omega (arith, e))
three_words (v ∷ w ∷ []) e = absurd (omega (arith, e))
three_words (v ∷ w ∷ x ∷ y ∷ ws) e = absurd (omega (arith, e))

abbrev pub from_third : List (Bor (List ℕ)) → List (Bor (List ℕ))
from_third ws = take (length ws - 2) (drop 2 ws)

third : (ws : List (Bor (List ℕ))) → from_third ws ≡ drop 2 ws
third ws = take_all (length ws - 2) (drop 2 ws) (let l = length-drop 2 ws in omega (arith, l))

pub more_words : (ws : List (Bor (List ℕ))) → 2 < length ws → texts ws ≡ word_at ws 0 ∷ word_at ws 1 ∷ texts (from_third ws)
more_words [] lt = absurd (omega (arith, lt))
more_words (v ∷ []) lt = absurd (omega (arith, lt))
more_words (v ∷ w ∷ ws) lt = ap (λ (xs : List (Bor (List ℕ))). v.now ∷ w.now ∷ texts xs) (sym (third (v ∷ w ∷ ws)))

abbrev pub no_choice : Bor (List ℕ) × Bor (List ℕ)
no_choice = (none, none)

pub one_choice : (os : List (Bor (List ℕ) × Bor (List ℕ))) → 0 < length os → length os ≤ 1 → choices os ≡ ((slice_index_or os 0 no_choice).0.now, (slice_index_or os 0 no_choice).1.now) ∷ []
one_choice [] lt le = absurd (omega (arith, lt))
one_choice (o ∷ []) lt le = refl
one_choice (o ∷ p ∷ os) lt le = absurd (omega (arith, le))

pub if_none : {A : Type 0} (o : Option A) (P : Type 0) (Q : A → Type 0) → o ≡ None → MatchOption o P Q → P
if_none None P Q e h = h
if_none (Some x) P Q e h = absurd cc

pub if_some : {A : Type 0} (o : Option A) (P : Type 0) (Q : A → Type 0) (x : A) → o ≡ Some x → MatchOption o P Q → Q x
if_some None P Q x e h = absurd cc
if_some (Some y) P Q x e h = let same : y ≡ x = cc in subst Q same h
