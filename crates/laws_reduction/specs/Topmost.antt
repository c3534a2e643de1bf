-- The topmost values.
use Rattle.std.proofs.Common.{◌≡◌, ℕ, List, [], ◌∷◌, ◌++◌, refl, sym, ap, ◌∙◌, true, append_assoc}
use Rattle.std.specs.Prelude.{if◌then◌else◌, reverse}
use Rattle.std.proofs.lemmas.List.{reverse-append}
use Rattle.wtypes.specs.declared.ValType.{ValType}
use Rattle.wtypes.specs.declared.ValType.TheVariants.{I32, I64}
use Rattle.wtypes.specs.declared.Value.{Value}
use Rattle.spec_modules.specs.Operators.{same_type, type_of, bits_of}
use Rattle.spec_execution.specs.Reduction.{Next, Stuck, with_number}

same_self : (t : ValType) → same_type t t ≡ true
same_self I32 = refl
same_self I64 = refl

pub number_is : (t : ValType) (v : Value) (vs : List Value) (go : ℕ → List Value → Next) → type_of v ≡ t → with_number t (v ∷ vs) go ≡ go (bits_of v) vs
number_is t v vs go e = ap (λ b. if b then go (bits_of v) vs else Stuck) (ap (same_type t) e ∙ same_self t)

-- two values that are taken one after the other
pub two_popped : (stack one two : List Value) (a b : Value) → stack ≡ one ++ b ∷ [] → one ≡ two ++ a ∷ [] → stack ≡ two ++ a ∷ b ∷ []
two_popped stack one two a b p q = p ∙ ap (λ xs. xs ++ b ∷ []) q ∙ append_assoc two (a ∷ []) (b ∷ [])

-- the last two of a list are its last two
pub last_two : (kept kept' : List Value) (a b a' b' : Value) → kept ++ a ∷ b ∷ [] ≡ kept' ++ a' ∷ b' ∷ [] → (a ≡ a') × (b ≡ b')
last_two kept kept' a b a' b' e =
    let r : b ∷ a ∷ reverse kept ≡ b' ∷ a' ∷ reverse kept' = sym (reverse-append kept (a ∷ b ∷ [])) ∙ ap reverse e ∙ reverse-append kept' (a' ∷ b' ∷ []) in
    (cc, cc)

pub last_one : (kept kept' : List Value) (a a' : Value) → kept ++ a ∷ [] ≡ kept' ++ a' ∷ [] → a ≡ a'
last_one kept kept' a a' e =
    let r : a ∷ reverse kept ≡ a' ∷ reverse kept' = sym (reverse-append kept (a ∷ [])) ∙ ap reverse e ∙ reverse-append kept' (a' ∷ []) in
    cc

pub three_popped : (stack one two three : List Value) (a b k : Value) → stack ≡ one ++ k ∷ [] → one ≡ two ++ b ∷ [] → two ≡ three ++ a ∷ [] → stack ≡ three ++ a ∷ b ∷ k ∷ []
three_popped stack one two three a b k p q r = p ∙ ap (λ xs. xs ++ k ∷ []) (two_popped one two three a b q r) ∙ append_assoc three (a ∷ b ∷ []) (k ∷ [])

-- the last three of a list end with its last one
pub last_three : (kept kept' : List Value) (a b k a' b' k' : Value) → kept ++ a ∷ b ∷ k ∷ [] ≡ kept' ++ a' ∷ b' ∷ k' ∷ [] → k ≡ k'
last_three kept kept' a b k a' b' k' e =
    let r : k ∷ b ∷ a ∷ reverse kept ≡ k' ∷ b' ∷ a' ∷ reverse kept' = sym (reverse-append kept (a ∷ b ∷ k ∷ [])) ∙ ap reverse e ∙ reverse-append kept' (a' ∷ b' ∷ k' ∷ []) in
    cc
