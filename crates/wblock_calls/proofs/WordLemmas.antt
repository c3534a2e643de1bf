-- Words that spell no values, and words of a call.
use Rattle.std.proofs.Common.{◌≡◌, ◌≢◌, ℕ, zero, suc, List, [], ◌∷◌, ◌<◌, ◌^◌, map, length, get_or, Bor, sym, ◌∙◌, subst, arith, Option, Some, None, MatchOption, Result, Ok, Err, IfOk, decimal, IsUtf8}
use Rattle.std.proofs.lemmas.Fmt.{decimal_injective}
use Rattle.wtypes.specs.declared.Value.{Value}
use Rattle.spec_execution.specs.Run.{ContractCall}
use Rattle.wblock_calls.specs.Texts.{value_text, IsInRange, AreValues, AreCall, IsLineOf, words_of}
use Rattle.wblock_calls.specs.Words.{texts}

pub at_some : {X : Type 0} (N : Type 0) (S : X → Type 0) (found : Option X) (x : X) → found ≡ Some x → MatchOption found N S → S x
at_some {X} N S found x is h = let P : Option X → Type 0 = λ f. MatchOption f N S in subst P is h

pub at_none : {X : Type 0} (N : Type 0) (S : X → Type 0) (found : Option X) → found ≡ None → MatchOption found N S → N
at_none {X} N S found is h = let P : Option X → Type 0 = λ f. MatchOption f N S in subst P is h

-- a word that spells no value is none of the words of any values
pub no_values : (words : List (Bor (List ℕ))) (at : ℕ) (d : Bor (List ℕ)) → at < length words → ((v : Value) → IsInRange v → (get_or words at d).now ≢ value_text v) → (vs : List Value) → AreValues (texts words) vs → ⊥
no_values [] at d lt none vs are = absurd (omega (arith, lt))
no_values (w ∷ ws) at d lt none [] are = let e = are.texts in cc
no_values (w ∷ ws) zero d lt none (v ∷ vs) are =
    let e = are.texts in
    let head : w.now ≡ value_text v = cc in
    none v are.in_range.0 head
no_values (w ∷ ws) (suc n) d lt none (v ∷ vs) are =
    let e = are.texts in
    let tail : texts ws ≡ map value_text vs = cc in
    no_values ws n d (omega (arith, lt)) none vs (record { texts = tail; in_range = are.in_range.1 })

pub first_word : (ws : List (Bor (List ℕ))) (d : Bor (List ℕ)) (c : ContractCall) → AreCall (texts ws) c → (get_or ws 0 d).now ≡ decimal c.contract
first_word [] d c are = let e = are.texts in absurd cc
first_word (w ∷ ws) d c are = let e = are.texts in cc

-- the first word is the decimal text of another number
pub other_contract : (ws : List (Bor (List ℕ))) (d : Bor (List ℕ)) (n : ℕ) → (get_or ws 0 d).now ≡ decimal n → n < 2 ^ 64 → ¬ (n < 2 ^ 32) → (c : ContractCall) → AreCall (texts ws) c → ⊥
other_contract ws d n is small great c are =
    let within = are.contract in
    let wide : c.contract < 2 ^ 64 = omega (arith, within) in
    let same = decimal_injective n c.contract small wide (sym is ∙ first_word ws d c are) in
    great (omega (arith, same, within))

-- the words of a line that is a text
pub of_words : {E : Type 0} (r : Result (Option ContractCall) E) (line : List ℕ) (ws : List (List ℕ)) → ws ≡ words_of line → IsUtf8 line → IfOk r (λ found. MatchOption found ((c : ContractCall) → ¬ AreCall ws c) (AreCall ws)) → IfOk r (λ found. MatchOption found ((c : ContractCall) → ¬ IsLineOf line c) (IsLineOf line))
of_words (Ok None) line ws is text h = λ c spelled. h c (subst (λ (l : List (List ℕ)). AreCall l c) (sym is) spelled.words)
of_words (Ok (Some c)) line ws is text h = record { text = text; words = subst (λ (l : List (List ℕ)). AreCall l c) is h }
of_words (Err e) line ws is text h = h
