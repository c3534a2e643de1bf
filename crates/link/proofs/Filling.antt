-- The elements of a table that are not empty.
use Rattle.std.proofs.Common.{◌≡◌, ◌≢◌, ℕ, zero, suc, ◌+◌, ◌<◌, ◌≤◌, Bool, true, false, List, [], ◌∷◌, ◌++◌, Option, Some, None, length, slice_get, slice_index_or, refl, sym, ap, ◌∙◌, subst, arith, inl, inr}
use Rattle.std.specs.Prelude.{◌==◌, if◌then◌else◌}
use Rattle.std.proofs.lemmas.Bool.{cases_eq}
use Rattle.std.proofs.lemmas.Bool.Decides.{nat_tests}
use Rattle.std.proofs.lemmas.List.FromFn.{fill_by_all, length-map-range_with_len, get_or-map-range_with_len}
use Rattle.std.proofs.lemmas.Option.{none-some, same_Some, slice_get-get_or, slice_get_past}
use Rattle.link.specs.declared.table.Filled.{Filled}
use Rattle.link.specs.Table.{held, AreRising, elements_in}

pick : (b : Bool) (x y : Option ℕ) → b ≡ true → (if b then x else y) ≡ x
pick b x y e = rw e refl

skip : (b : Bool) (x y : Option ℕ) → b ≡ false → (if b then x else y) ≡ y
skip b x y e = rw e refl

same_number : (n : ℕ) → (n == n) ≡ true
same_number n = grind (arith, nat_tests)

other_number : (m n : ℕ) → m ≢ n → (m == n) ≡ false
other_number m n h = grind (arith, nat_tests)

held_here : (f : Filled) (fs : List Filled) → held (f ∷ fs) f.element ≡ Some f.func
held_here f fs = pick (f.element == f.element) (Some f.func) (held fs f.element) (same_number f.element)

held_behind : (f : Filled) (fs : List Filled) (e : ℕ) → f.element ≢ e → held (f ∷ fs) e ≡ held fs e
held_behind f fs e h = skip (f.element == e) (Some f.func) (held fs e) (other_number f.element e h)

-- ---- In order

from_low : (low : ℕ) (fs : List Filled) (k : ℕ) (f : Filled) → AreRising low fs → slice_get fs k ≡ Some f → low ≤ f.element
from_low low [] k f h is = absurd (none-some f is)
from_low low (x ∷ fs) zero f h is = subst (λ (y : Filled). low ≤ y.element) (same_Some x f is) h.0
from_low low (x ∷ fs) (suc k) f h is = omega (arith, h.0, from_low (x.element + 1) fs k f h.1 is)

pub in_order : (low : ℕ) (fs : List Filled) (j k : ℕ) (f g : Filled) → AreRising low fs → slice_get fs j ≡ Some f → slice_get fs k ≡ Some g → j ≤ k → f.element ≤ g.element
in_order low [] j k f g h is js le = absurd (none-some f is)
in_order low (x ∷ fs) zero zero f g h is js le = omega (arith, ap (λ (y : Filled). y.element) (same_Some x f is), ap (λ (y : Filled). y.element) (same_Some x g js))
in_order low (x ∷ fs) zero (suc k) f g h is js le = omega (arith, ap (λ (y : Filled). y.element) (same_Some x f is), from_low (x.element + 1) fs k g h.1 js)
in_order low (x ∷ fs) (suc j) zero f g h is js le = absurd (omega (arith, le))
in_order low (x ∷ fs) (suc j) (suc k) f g h is js le = in_order (x.element + 1) fs j k f g h.1 is js (omega (arith, le))

-- ---- What an element is

pub found : (low : ℕ) (fs : List Filled) (k : ℕ) (f : Filled) → AreRising low fs → slice_get fs k ≡ Some f → held fs f.element ≡ Some f.func
found low [] k f h is = absurd (none-some f is)
found low (x ∷ fs) zero f h is = subst (λ (y : Filled). held (x ∷ fs) y.element ≡ Some y.func) (same_Some x f is) (held_here x fs)
found low (x ∷ fs) (suc k) f h is =
    let later = from_low (x.element + 1) fs k f h.1 is in
    held_behind x fs f.element (λ e. absurd (omega (arith, e, later))) ∙ found (x.element + 1) fs k f h.1 is

pub nowhere : (fs : List Filled) (e : ℕ) → ((k : ℕ) (f : Filled) → slice_get fs k ≡ Some f → f.element ≢ e) → held fs e ≡ None
nowhere [] e h = refl
nowhere (x ∷ fs) e h = held_behind x fs e (h 0 x refl) ∙ nowhere fs e (λ k f is. h (suc k) f is)

-- ---- One element more

-- where the next one may be
abbrev pub end : ℕ → List Filled → ℕ
end low [] = low
end low (f ∷ fs) = end (f.element + 1) fs

low_end : (low : ℕ) (fs : List Filled) → AreRising low fs → low ≤ end low fs
low_end low [] h = omega arith
low_end low (x ∷ fs) h = omega (arith, h.0, low_end (x.element + 1) fs h.1)

pub rising_more : (low : ℕ) (fs : List Filled) (f : Filled) → AreRising low fs → end low fs ≤ f.element → AreRising low (fs ++ f ∷ [])
rising_more low [] f h le = (le, tt)
rising_more low (x ∷ fs) f h le = (h.0, rising_more (x.element + 1) fs f h.1 le)

pub end_more : (low : ℕ) (fs : List Filled) (f : Filled) → end low (fs ++ f ∷ []) ≡ f.element + 1
end_more low [] f = refl
end_more low (x ∷ fs) f = end_more (x.element + 1) fs f

pub past_end : (low : ℕ) (fs : List Filled) (e : ℕ) → AreRising low fs → end low fs ≤ e → held fs e ≡ None
past_end low [] e h le = refl
past_end low (x ∷ fs) e h le =
    let later = low_end (x.element + 1) fs h.1 in
    held_behind x fs e (λ same. absurd (omega (arith, same, later, le))) ∙ past_end (x.element + 1) fs e h.1 le

held_other : (b : Bool) (x : Option ℕ) (y z : Option ℕ) → y ≡ z → (if b then x else y) ≡ (if b then x else z)
held_other b x y z e = ap (λ o. if b then x else o) e

pub held_before : (fs : List Filled) (f : Filled) (e : ℕ) → f.element ≢ e → held (fs ++ f ∷ []) e ≡ held fs e
held_before [] f e h = held_behind f [] e h
held_before (x ∷ fs) f e h = held_other (x.element == e) (Some x.func) _ _ (held_before fs f e h)

pub held_last : (low : ℕ) (fs : List Filled) (f : Filled) → AreRising low fs → end low fs ≤ f.element → held (fs ++ f ∷ []) f.element ≡ Some f.func
held_last low [] f h le = held_here f []
held_last low (x ∷ fs) f h le =
    let later = low_end (x.element + 1) fs h.1 in
    held_behind x (fs ++ f ∷ []) f.element (λ same. absurd (omega (arith, same, later, le))) ∙ held_last (x.element + 1) fs f h.1 le

-- ---- A table of some elements

-- those so far that are not empty
pub record IsFilled (xs : List (Option ℕ)) (i : ℕ) (fs : List Filled) : Type 0 where
  pub rising : AreRising 0 fs
  pub few : end 0 fs ≤ i
  pub same : (k : ℕ) → k < i → held fs k ≡ slice_index_or xs k None

before_last : (k i : ℕ) → k < i + 1 → k ≢ i → k < i
before_last k i lt h = grind arith

pub full_more : (xs : List (Option ℕ)) (i func : ℕ) (old new : List Filled) → slice_index_or xs i None ≡ Some func → new ≡ old ++ record { element = i; func = func } ∷ [] → IsFilled xs i old → IsFilled xs (i + 1) new
full_more xs i func old new is e h =
    let f : Filled = record { element = i; func = func } in
    subst (IsFilled xs (i + 1)) (sym e) (record {
      rising = rising_more 0 old f h.rising h.few;
      few = omega (arith, end_more 0 old f);
      same = λ k lt. elim (cases_eq k i) [
        | inl q ↦ subst (λ n. held (old ++ f ∷ []) n ≡ slice_index_or xs n None) (sym q) (held_last 0 old f h.rising h.few ∙ sym is)
        | inr q ↦ held_before old f k (λ r. q (sym r)) ∙ h.same k (before_last k i lt q)
      ];
    })

pub empty_more : (xs : List (Option ℕ)) (i : ℕ) (old new : List Filled) → slice_index_or xs i None ≡ None → new ≡ old → IsFilled xs i old → IsFilled xs (i + 1) new
empty_more xs i old new is e h =
    subst (IsFilled xs (i + 1)) (sym e) (record {
      rising = h.rising;
      few = omega (arith, h.few);
      same = λ k lt. elim (cases_eq k i) [
        | inl q ↦ subst (λ n. held old n ≡ slice_index_or xs n None) (sym q) (past_end 0 old i h.rising h.few ∙ sym is)
        | inr q ↦ h.same k (before_last k i lt q)
      ];
    })

pub whole : (xs : List (Option ℕ)) (n : ℕ) (fs : List Filled) → length xs ≡ n → IsFilled xs n fs → elements_in n fs ≡ xs
whole xs n fs long h = sym (fill_by_all (held fs) xs n None long (λ k lt. sym (h.same k lt)))

pub element_there : (size e : ℕ) (fs : List Filled) → e < size → slice_get (elements_in size fs) e ≡ Some (held fs e)
element_there size e fs lt =
    slice_get-get_or (elements_in size fs) e None (omega (arith, lt, length-map-range_with_len (held fs) 0 size)) ∙ ap Some (get_or-map-range_with_len (held fs) 0 size e e None lt (omega arith))

pub element_past : (size e : ℕ) (fs : List Filled) → size ≤ e → slice_get (elements_in size fs) e ≡ None
element_past size e fs le = slice_get_past (elements_in size fs) e (omega (arith, le, length-map-range_with_len (held fs) 0 size))
