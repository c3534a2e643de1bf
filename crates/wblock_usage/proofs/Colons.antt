-- Words that are cut at their colons.
use Rattle.std.proofs.Common.{◌≡◌, ◌≢◌, ℕ, suc, ◌+◌, ◌%◌, ◌<◌, ◌≤◌, ◌^◌, List, [], ◌∷◌, ◌++◌, length, take, drop, get_or, Bor, refl, sym, ap, ap₂, ◌∙◌, subst, arith, Option, Some, None, Result, Ok, Err, IfOk, MatchOption, decimal, lit<, true, false}
use Rattle.std.proofs.lemmas.List.{take-append-drop}
use Rattle.std.proofs.lemmas.Str.Pattern.{NoCharPasses-char, drop_at_char}
use Rattle.std.specs.Str.Pattern.{RFindsChar}
use Rattle.std.proofs.lemmas.Slice.Eq.{bytes_eq-Decides}
use Rattle.std.specs.Str.{bytes_eq}
use Rattle.std.proofs.lemmas.Fmt.{decimal_by_steps, decimal_injective}
use Rattle.wblock_usage.specs.Words.{HasNoColon, with_number, with_numbers}

pub at_some : {X : Type 0} (N : Type 0) (S : X → Type 0) (found : Option X) (x : X) → found ≡ Some x → MatchOption found N S → S x
at_some {X} N S found x is h = let P : Option X → Type 0 = λ f. MatchOption f N S in subst P is h

pub at_none : {X : Type 0} (N : Type 0) (S : X → Type 0) (found : Option X) → found ≡ None → MatchOption found N S → N
at_none {X} N S found is h = let P : Option X → Type 0 = λ f. MatchOption f N S in subst P is h

pub differs : (xs ys : List ℕ) → false ≡ bytes_eq xs ys → xs ≢ ys
differs xs ys e h = let t = (bytes_eq-Decides xs ys).1 h in let bad : false ≡ true = e ∙ t in cc

pub free_of_colons : (bs : List ℕ) → ((i : ℕ) → i < length bs → get_or bs i 0 ≢ 58) → HasNoColon bs
free_of_colons [] h = tt
free_of_colons (b ∷ bs) h = (h 0 (omega arith), free_of_colons bs (λ i lt. h (suc i) (omega (arith, lt))))

pub of_parts : (bs : List ℕ) (r : Option (Bor (List ℕ) × Bor (List ℕ))) → MatchOption r ((i : ℕ) → i < length bs → get_or bs i 0 ≢ 58) (λ x. (bs ≡ x.0.now ++ 58 ∷ x.1.now) × ((i : ℕ) → i < length x.0.now → get_or x.0.now i 0 ≢ 58))
    → MatchOption r (HasNoColon bs) (λ x. HasNoColon x.0.now × (bs ≡ x.0.now ++ 58 ∷ x.1.now))
of_parts bs None h = free_of_colons bs h
of_parts bs (Some x) h = (free_of_colons x.0.now h.1, h.0)

-- a colon stands behind the front
pub has_colon : (front rest : List ℕ) → HasNoColon (front ++ 58 ∷ rest) → ⊥
has_colon [] rest h = h.0 refl
has_colon (b ∷ front) rest h = has_colon front rest h.1

pub not_cut : (word front rest : List ℕ) → HasNoColon word → word ≢ front ++ 58 ∷ rest
not_cut word front rest h e = has_colon front rest (subst HasNoColon e h)

-- a word has one first colon
pub record IsOneCut (a b r s : List ℕ) : Type 0 where
  pub front : a ≡ b
  pub rest : r ≡ s

pub one_cut : (a b r s : List ℕ) → HasNoColon a → HasNoColon b → a ++ 58 ∷ r ≡ b ++ 58 ∷ s → IsOneCut a b r s
one_cut [] [] r s p q e = let tail : r ≡ s = cc in record { front = refl; rest = tail }
one_cut [] (y ∷ b) r s p q e = let head : y ≡ 58 = cc in absurd (q.0 head)
one_cut (x ∷ a) [] r s p q e = let head : x ≡ 58 = cc in absurd (p.0 head)
one_cut (x ∷ a) (y ∷ b) r s p q e =
    let head : x ≡ y = cc in
    let tail : a ++ 58 ∷ r ≡ b ++ 58 ∷ s = cc in
    let more : IsOneCut a b r s = one_cut a b r s p.1 q.1 tail in record { front = ap₂ (λ z zs. z ∷ zs) head more.front; rest = more.rest }

digit_behind : (ds : List ℕ) (d : ℕ) → HasNoColon ds → d ≢ 58 → HasNoColon (ds ++ d ∷ [])
digit_behind [] d h other = (other, tt)
digit_behind (b ∷ ds) d h other = (h.0, digit_behind ds d h.1 other)

-- digits are no colons
pub decimal_free : (n : ℕ) → n < 2 ^ 64 → HasNoColon (decimal n)
decimal_free n small =
    decimal_by_steps (λ m ds. HasNoColon ds)
    (λ m lt. ((λ e. omega (arith, lt, e)), tt))
    (λ m ds le h. digit_behind ds (48 + m % 10) h (λ e. omega (arith, e)))
    n small

-- the number behind a name is the one that stands there
pub behind_name : {E : Type 0} (r : Result (Option ℕ) E) (word name number : List ℕ) → HasNoColon name → word ≡ name ++ 58 ∷ number
    → IfOk r (λ found. MatchOption found ((n : ℕ) → n < 2 ^ 64 → number ≢ decimal n) (λ n. number ≡ decimal n))
    → IfOk r (λ found. MatchOption found ((n : ℕ) → n < 2 ^ 64 → word ≢ with_number name n) (λ n. word ≡ with_number name n))
behind_name (Ok None) word name number free is h = λ n small e. h n small (one_cut name name number (decimal n) free free (sym is ∙ e)).rest
behind_name (Ok (Some n)) word name number free is h = is ∙ ap (λ ds. name ++ 58 ∷ ds) h
behind_name (Err e) word name number free is h = h

pub behind_name_two : {E : Type 0} (r : Result (Option (ℕ × ℕ)) E) (word name numbers : List ℕ) → HasNoColon name → word ≡ name ++ 58 ∷ numbers
    → IfOk r (λ found. MatchOption found ((m n : ℕ) → m < 2 ^ 64 → n < 2 ^ 64 → numbers ≢ decimal m ++ 58 ∷ decimal n) (λ x. numbers ≡ decimal x.0 ++ 58 ∷ decimal x.1))
    → IfOk r (λ found. MatchOption found ((m n : ℕ) → m < 2 ^ 64 → n < 2 ^ 64 → word ≢ with_numbers name m n) (λ x. word ≡ with_numbers name x.0 x.1))
behind_name_two (Ok None) word name numbers free is h = λ m n low high e. h m n low high (one_cut name name numbers (decimal m ++ 58 ∷ decimal n) free free (sym is ∙ e)).rest
behind_name_two (Ok (Some x)) word name numbers free is h = is ∙ ap (λ ds. name ++ 58 ∷ ds) h
behind_name_two (Err e) word name numbers free is h = h

-- a number that is too great is no other one
pub too_great : (text : List ℕ) (a : ℕ) → a < 2 ^ 64 → ¬ (a < 2 ^ 32) → text ≡ decimal a → (n : ℕ) → n < 2 ^ 32 → text ≢ decimal n
too_great text a small great is n low e = let eq = decimal_injective a n small (omega (arith, low)) (sym is ∙ e) in great (omega (arith, eq, low))

-- ---- the last colon

pub of_last_parts : (bs : List ℕ) (r : Option (Bor (List ℕ) × Bor (List ℕ)))
    → MatchOption r (RFindsChar 58 bs None) (λ x. (i : ℕ) × (j : ℕ) × RFindsChar 58 bs (Some (i, j)) × (x.0.now ≡ take i bs) × (x.1.now ≡ drop j bs) × (i ≤ j) × (length x.0.now ≡ i) × (length x.1.now + j ≡ length bs))
    → MatchOption r (HasNoColon bs) (λ x. HasNoColon x.1.now × (bs ≡ x.0.now ++ 58 ∷ x.1.now))
of_last_parts bs None h = free_of_colons bs (λ i lt. NoCharPasses-char 58 bs i h (lit< tt) lt)
of_last_parts bs (Some x) h =
    let i = h.0 in
    let j = h.1 in (
      subst HasNoColon (sym h.4) (free_of_colons (drop j bs) (λ k lt. NoCharPasses-char 58 (drop j bs) k h.2.0 (lit< tt) lt)),
      sym (take-append-drop i bs) ∙ ap (λ l. take i bs ++ l) (drop_at_char 58 bs i j h.2.1 (lit< tt)) ∙ ap₂ (λ f b. f ++ 58 ∷ b) (sym h.3) (sym h.4),
    )

-- a word has one last colon
pub last_cut : (a b r s : List ℕ) → HasNoColon r → HasNoColon s → a ++ 58 ∷ r ≡ b ++ 58 ∷ s → IsOneCut a b r s
last_cut [] [] r s p q e = let tail : r ≡ s = cc in record { front = refl; rest = tail }
last_cut [] (y ∷ b) r s p q e = let tail : r ≡ b ++ 58 ∷ s = cc in absurd (not_cut r b s p tail)
last_cut (x ∷ a) [] r s p q e = let tail : a ++ 58 ∷ r ≡ s = cc in absurd (not_cut s a r q (sym tail))
last_cut (x ∷ a) (y ∷ b) r s p q e =
    let head : x ≡ y = cc in
    let tail : a ++ 58 ∷ r ≡ b ++ 58 ∷ s = cc in
    let more : IsOneCut a b r s = last_cut a b r s p q tail in record { front = ap₂ (λ z zs. z ∷ zs) head more.front; rest = more.rest }
