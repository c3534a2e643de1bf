-- The tables have no word twice, and none that begins as a memory argument does.
use Rattle.std.proofs.Common.{◌≡◌, ℕ, ◌+◌, Bool, true, false, ◌&&◌, cond, List, [], ◌∷◌, ◌++◌, length, take, drop, Option, Some, None, refl, sym, ap, ◌∙◌, arith, subst, inl, inr}
use Rattle.std.specs.Prelude.{◌⊎◌, nat_le, codes}
use Rattle.std.specs.Str.{bytes_eq}
use Rattle.std.proofs.lemmas.Bool.{cond-true, le-leb, and_parts, and_from}
use Rattle.std.proofs.lemmas.List.{length-append, take-append-drop}
use Rattle.std.proofs.Math.Seq.{drop-append_seam, take-append_seam}
use Rattle.std.proofs.lemmas.Slice.Eq.{bytes_eq-Decides}
use Rattle.spec_text.specs.Words.{beside}
use Rattle.spec_text.specs.declared.KeyWord.{KeyWord}
use Rattle.spec_text.specs.declared.Operator.{Operator}
use Rattle.spec_text.specs.declared.TheConstants.{KEY_WORDS, OPERATORS}
use Rattle.lexer.specs.ReadingOfWords.{behind}

pub chosen : {A : Type 0} (t : Bool) (x y z : A) → cond t x y ≡ z → ((t ≡ true) × (x ≡ z)) ⊎ ((t ≡ false) × (y ≡ z))
chosen true x y z e = inl (refl, e)
chosen false x y z e = inr (refl, e)

-- ---- beginnings

pub behind_its_beginning : (p rest : List ℕ) → behind p (p ++ rest) ≡ Some rest
behind_its_beginning p rest =
    let long : length (p ++ rest) ≡ length p + length rest = length-append p rest in
    let begins : bytes_eq (take (length p) (p ++ rest)) p ≡ true = (bytes_eq-Decides (take (length p) (p ++ rest)) p).1 (take-append_seam p rest) in
    cond-true (nat_le (length p) (length (p ++ rest)) && bytes_eq (take (length p) (p ++ rest)) p) (Some (drop (length p) (p ++ rest))) None
    (and_from (nat_le (length p) (length (p ++ rest))) (bytes_eq (take (length p) (p ++ rest)) p) (le-leb (length p) (length (p ++ rest)) (omega arith)) begins)
    ∙ ap (λ (xs : List ℕ). Some xs) (drop-append_seam p rest)

inside : List ℕ → Option (List ℕ) → List ℕ
inside d None = d
inside d (Some x) = x

same_list : (x y : List ℕ) → Some x ≡ Some y → x ≡ y
unfolding inside
same_list x y e = ap (inside x) e

none_is_not_some : (x : List ℕ) → None ≡ Some x → ⊥
none_is_not_some x e = cc

pub begins_behind : (p text rest : List ℕ) → behind p text ≡ Some rest → text ≡ p ++ rest
begins_behind p text rest e =
    elim (chosen (nat_le (length p) (length text) && bytes_eq (take (length p) text) p) (Some (drop (length p) text)) None (Some rest) e) [
      | inl h ↦
          let same = (bytes_eq-Decides (take (length p) text) p).0 (and_parts (nat_le (length p) (length text)) (bytes_eq (take (length p) text) p) h.0).1 in
          sym (take-append-drop (length p) text) ∙ ap (λ (xs : List ℕ). xs ++ drop (length p) text) same ∙ ap (λ (xs : List ℕ). p ++ xs) (same_list (drop (length p) text) rest h.1)
      | inr h ↦ absurd (none_is_not_some rest h.1)
    ]

-- ---- tables

abbrev each_passes : {R V : Type 0} → (R → List ℕ) → (List ℕ → Bool) → List (R × V) → Bool
each_passes now test [] = true
each_passes now test (e ∷ es) = test (now e.0) && each_passes now test es

-- what has an entry passes a test that each entry passes
found_passes : {R V : Type 0} (now : R → List ℕ) (test : List ℕ → Bool) (text : List ℕ) (v : V) (es : List (R × V)) → each_passes now test es ≡ true → beside now text es ≡ Some v → test text ≡ true
found_passes now test text v [] h f = absurd (let wrong : None ≡ Some v = f in cc)
found_passes now test text v (e ∷ es) h f =
    let both = and_parts (test (now e.0)) (each_passes now test es) h in
    elim (chosen (bytes_eq (now e.0) text) (Some e.1) (beside now text es) (Some v) f) [
      | inl p ↦ subst (λ (t : List ℕ). test t ≡ true) ((bytes_eq-Decides (now e.0) text).0 p.0) both.0
      | inr p ↦ found_passes now test text v es both.1 p.1
    ]

abbrev is_absent : {A : Type 0} → Option A → Bool
is_absent None = true
is_absent (Some x) = false

absent : {A : Type 0} (o : Option A) → is_absent o ≡ true → o ≡ None
absent None e = refl
absent (Some x) e = absurd (let wrong : false ≡ true = e in cc)

-- no memory argument
abbrev no_argument : List ℕ → Bool
no_argument text = is_absent (behind (codes "offset=") text) && is_absent (behind (codes "align=") text)

abbrev no_operator : List ℕ → Bool
no_operator text = is_absent (beside (λ r. r.now) text OPERATORS) && no_argument text

keys_pass : each_passes (λ r. r.now) no_operator KEY_WORDS ≡ true
keys_pass = refl

operators_pass : each_passes (λ r. r.now) no_argument OPERATORS ≡ true
operators_pass = refl

abbrev key_of : List ℕ → Option KeyWord
key_of text = beside (λ r. r.now) text KEY_WORDS

abbrev operator_of : List ℕ → Option Operator
operator_of text = beside (λ r. r.now) text OPERATORS

key_is_other : (text : List ℕ) (k : KeyWord) → key_of text ≡ Some k → (operator_of text ≡ None) × (behind (codes "offset=") text ≡ None) × (behind (codes "align=") text ≡ None)
key_is_other text k e =
    let p = and_parts (is_absent (operator_of text)) (no_argument text) (found_passes (λ r. r.now) no_operator text k KEY_WORDS keys_pass e) in
    let q = and_parts (is_absent (behind (codes "offset=") text)) (is_absent (behind (codes "align=") text)) p.1 in
    (absent (operator_of text) p.0, absent (behind (codes "offset=") text) q.0, absent (behind (codes "align=") text) q.1)

operator_is_other : (text : List ℕ) (op : Operator) → operator_of text ≡ Some op → (behind (codes "offset=") text ≡ None) × (behind (codes "align=") text ≡ None)
operator_is_other text op e =
    let q = and_parts (is_absent (behind (codes "offset=") text)) (is_absent (behind (codes "align=") text)) (found_passes (λ r. r.now) no_argument text op OPERATORS operators_pass e) in
    (absent (behind (codes "offset=") text) q.0, absent (behind (codes "align=") text) q.1)

none_or : {A : Type 0} (o : Option A) → ((x : A) → o ≡ Some x → ⊥) → o ≡ None
none_or None h = refl
none_or (Some x) h = absurd (h x refl)

no_both : {A : Type 0} {o : Option A} {x : A} → o ≡ Some x → o ≡ None → ⊥
no_both {o = o} {x = x} e f = let wrong : Some x ≡ None = sym e ∙ f in cc

pub operator_is_no_key : (text : List ℕ) (op : Operator) → operator_of text ≡ Some op → key_of text ≡ None
operator_is_no_key text op e = none_or (key_of text) (λ k h. no_both e (key_is_other text k h).0)

pub offset_is_no_key : (text rest : List ℕ) → behind (codes "offset=") text ≡ Some rest → (key_of text ≡ None) × (operator_of text ≡ None)
offset_is_no_key text rest e = (none_or (key_of text) (λ k h. no_both e (key_is_other text k h).1), none_or (operator_of text) (λ op h. no_both e (operator_is_other text op h).0))

pub align_is_no_key : (text rest : List ℕ) → behind (codes "align=") text ≡ Some rest → (key_of text ≡ None) × (operator_of text ≡ None)
align_is_no_key text rest e = (none_or (key_of text) (λ k h. no_both e (key_is_other text k h).2), none_or (operator_of text) (λ op h. no_both e (operator_is_other text op h).1))

first_of : List ℕ → ℕ
first_of [] = 0
first_of (b ∷ bs) = b

differ : ◌≡◌ {A = ℕ} 97 111 → ⊥
differ e = omega (arith, e)

wrong_first : (rest xs : List ℕ) → codes "align=" ++ rest ≡ codes "offset=" ++ xs → ⊥
unfolding first_of
wrong_first rest xs e = differ (ap first_of e)

-- what begins with align= does not begin with offset=
pub align_is_no_offset : (rest : List ℕ) → behind (codes "offset=") (codes "align=" ++ rest) ≡ None
align_is_no_offset rest = none_or (behind (codes "offset=") (codes "align=" ++ rest)) (λ xs e. wrong_first rest xs (begins_behind (codes "offset=") (codes "align=" ++ rest) xs e))
