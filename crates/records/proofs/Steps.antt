-- What is known of a step of reading that did not fail.
use Rattle.std.proofs.Common.{◌≡◌, ℕ, suc, Bool, true, false, cond, List, [], ◌∷◌, ◌++◌, length, Option, Some, None, Result, Ok, Err, refl, sym, ap, ap₂, subst, take, ◌∙◌, ◌⊎◌, ◌==◌, append_assoc, append-nil, inl, inr}
use Rattle.std.proofs.lemmas.Bool.{eqb-true}
use Rattle.std.proofs.lemmas.List.{nil_from_length}
use Rattle.records.specs.declared.fault.Fault.{Fault}
use Rattle.std.specs.Prelude.{IfOk}
use Rattle.records.specs.Reading.{Read, ◌>>=◌, Gives, IsRead, found, whole}
use Rattle.records.specs.Exact.{AreBytes, Takes, ReadsExactly}

pub rest_are_bytes : (b : ℕ) (bytes : List ℕ) → AreBytes (b ∷ bytes) → AreBytes bytes
rest_are_bytes b bytes h i = h (suc i)

-- the value of a step that did not fail
pub bind_ok : {A B : Type 0} (r : Result A Fault) (f : A → Result B Fault) (y : B) → (r >>= f) ≡ Ok y → (x : A) × (r ≡ Ok x) × (f x ≡ Ok y)
bind_ok (Ok x) f y e = (x, refl, e)
bind_ok (Err d) f y e = absurd cc

-- which way a test went
pub chosen : {A : Type 0} (b : Bool) (x y z : A) → cond b x y ≡ z → ((b ≡ true) × (x ≡ z)) ⊎ ((b ≡ false) × (y ≡ z))
chosen true x y z e = inl (refl, e)
chosen false x y z e = inr (refl, e)

-- a test that fails, and one that has to hold
pub guard_ok : {A : Type 0} (b : Bool) (d : Fault) (r : Result A Fault) (y : A) → cond b (Err d) r ≡ Ok y → (b ≡ false) × (r ≡ Ok y)
guard_ok true d r y e = absurd cc
guard_ok false d r y e = (refl, e)

pub guard_holds : {A : Type 0} (b : Bool) (d : Fault) (r : Result A Fault) (y : A) → cond b r (Err d) ≡ Ok y → (b ≡ true) × (r ≡ Ok y)
guard_holds true d r y e = (refl, e)
guard_holds false d r y e = absurd cc

abbrev done : {A : Type 0} → A → Result A Fault
done x = Ok x

pub ok_is : {A : Type 0} (x y : A) → done x ≡ done y → x ≡ y
ok_is x y e = cc

pub some_is : {A : Type 0} (x y : A) → Some x ≡ Some y → x ≡ y
some_is x y e = cc

pub found_is : {A : Type 0} (o : Option A) (left : ℕ) (rest : List ℕ) (x : A × List ℕ) → found o left rest ≡ Ok x → (o ≡ Some x.0) × (rest ≡ x.1)
found_is None left rest x e = absurd cc
found_is (Some y) left rest x e = let p : (y, rest) ≡ x = ok_is (y, rest) x e in (ap (λ z. Some z.0) p, ap (λ z. z.1) p)

-- ---- what was taken

pub Takes-then : (a x b y c : List ℕ) → Takes a x b → Takes b y c → Takes a (x ++ y) c
Takes-then a x b y c p q = record { parts = p.parts ∙ ap (λ (t : List ℕ). x ++ t) q.parts ∙ sym (append_assoc x y c); rest_fits = q.rest_fits }

-- a byte is taken from the front
pub Takes-byte : (b : ℕ) (bytes : List ℕ) → AreBytes (b ∷ bytes) → Takes (b ∷ bytes) (b ∷ []) bytes
Takes-byte b bytes h = record { parts = refl; rest_fits = rest_are_bytes b bytes h }

-- ---- all of the bytes

-- what is read of all of the bytes is spelled so
pub whole_takes : {A : Type 0} (at : List ℕ → Read A) (text : A → List ℕ) (Is : A → Type 0) → ReadsExactly at text Is
    → (bytes : List ℕ) (x : A) → AreBytes bytes → whole (at bytes) ≡ Ok x → (bytes ≡ text x) × Is x
whole_takes {A = A} at text Is exact bytes x bounded e =
    let a = read_of (at bytes) x e in
    let t = exact.takes bytes a.0 bounded a.1 in
    let nothing : a.0.1 ≡ [] = nil_from_length a.0.1 (eqb-true _ _ a.2) in
    subst (λ (v : A). (bytes ≡ text v) × Is v) a.3 (t.parts ∙ (ap (λ (w : List ℕ). text a.0.0 ++ w) nothing ∙ append-nil (text a.0.0)), exact.fits bytes a.0 bounded a.1)
  where
    read_of : {A : Type 0} (r : Read A) (x : A) → whole r ≡ Ok x → (y : A × List ℕ) × (r ≡ Ok y) × ((length y.1 == 0) ≡ true) × (y.0 ≡ x)
    read_of (Err d) x e = absurd cc
    read_of (Ok y) x e = let g = guard_holds (length y.1 == 0) _ (Ok y.0) x e in (y, refl, g.0, ok_is y.0 x g.1)

-- what is spelled so is read
pub whole_again : {A : Type 0} (at : List ℕ → Read A) (text : A → List ℕ) (Is : A → Type 0) → ReadsExactly at text Is → (x : A) → Is x → whole (at (text x)) ≡ Ok x
whole_again at text Is exact x is =
    let all : at (text x) ≡ Ok (x, []) = ap at (sym (append-nil (text x))) ∙ exact.again x [] is in
    ap whole all

-- ---- what a function returned

pub is_spelled : {X A : Type 0} (at : List ℕ → Read A) (text : A → List ℕ) (Is : A → Type 0) → ReadsExactly at text Is
    → (view : X → A × List ℕ) (r : Result X Fault) (bytes : List ℕ) → AreBytes bytes → Gives view r (at bytes) → IfOk r (λ x. Is (view x).0 × (bytes ≡ text (view x).0 ++ (view x).1))
is_spelled at text Is exact view (Ok x) bytes bounded given = (exact.fits bytes (view x) bounded given, (exact.takes bytes (view x) bounded given).parts)
is_spelled at text Is exact view (Err e) bytes bounded given = tt

pub is_read : {X A : Type 0} (at : List ℕ → Read A) (text : A → List ℕ) (Is : A → Type 0) → ReadsExactly at text Is
    → (view : X → A × List ℕ) (r : Result X Fault) (bytes : List ℕ) → Gives view r (at bytes) → (x : A) (rest : List ℕ) → Is x → bytes ≡ text x ++ rest → IsRead view r x rest
is_read at text Is exact view r bytes given x rest is e = subst (λ read. Gives view r read) (ap at e ∙ exact.again x rest is) given

-- ---- what is appended

-- what stood in front of what stands in front
pub front_on : (old mid new rest : List ℕ) → mid ≡ old ++ rest → take (length mid) new ≡ mid → take (length old) new ≡ old
front_on [] mid new rest e f = refl
front_on (x ∷ old) [] new rest e f = absurd cc
front_on (x ∷ old) (y ∷ mid) [] rest e f = absurd cc
front_on (x ∷ old) (y ∷ mid) (z ∷ new) rest e f =
    let h : z ≡ x = cc in let t : mid ≡ old ++ rest = cc in let u : take (length mid) new ≡ mid = cc in
    ap₂ (λ a b. a ∷ b) h (front_on old mid new rest t u)

-- three pieces, one after the other
pub appended : (old one two new a b c : List ℕ) → one ≡ old ++ a → two ≡ one ++ b → new ≡ two ++ c → new ≡ old ++ (a ++ b ++ c)
appended old one two new a b c p q r =
    r ∙ (ap (λ (s : List ℕ). s ++ c) (q ∙ (ap (λ (s : List ℕ). s ++ b) p ∙ append_assoc old a b)) ∙ append_assoc old (a ++ b) c)

-- what is true of what was returned, and what follows of it
pub ok_also : {X E : Type 0} {P Q : X → Type 0} (r : Result X E) → ((x : X) → P x → Q x) → IfOk r P → IfOk r Q
ok_also (Ok x) f h = f x h
ok_also (Err e) f h = tt
