-- Types as they are added, and by the definition.
use Rattle.std.proofs.Common.{◌≡◌, ℕ, ◌+◌, ◌<◌, ◌≤◌, false, List, [], ◌∷◌, ◌++◌, length, get_or, drop, map, Option, Some, None, refl, sym, ap, ◌∙◌, subst, append_assoc}
use Rattle.std.specs.Prelude.{is_some}
use Rattle.std.specs.List.{flat_map, filter_map}
use Rattle.std.proofs.lemmas.List.{drop_more}
use Rattle.std.proofs.Math.ListN.{drop_of_length-le}
use Rattle.std.proofs.lemmas.Bool.{cond-true, cond-false}
use Rattle.std.proofs.lemmas.Option.{none-some}
use Rattle.spec_modules.specs.Syntax.{FuncType}
use Rattle.spec_text.specs.TypeUses.{FirstType, Adds, all_added, is_there, is_new}
use Rattle.text_resolve.specs.Types.{first_type}
use Rattle.text_resolve.proofs.Plains.{type_is_found, found_is_type}
use Rattle.text_fields.specs.AddedTypes.{added_one, added, option_list, TypesAreOne}

one_more : (ts us : List FuncType) (t : FuncType) (o : Option ℕ) → first_type t ts ≡ o → Adds (added_one ts t) us (added (added_one ts t) us) → Adds ts (t ∷ us) (added (added_one ts t) us)
one_more ts us t (Some i) e a =
    let same : added_one ts t ≡ ts = cond-true (is_some (first_type t ts)) ts (ts ++ t ∷ []) (ap is_some e) in
    is_there (found_is_type t ts i e) (subst (λ l. Adds l us (added (added_one ts t) us)) same a)
one_more ts us t None e a =
    let more : added_one ts t ≡ ts ++ t ∷ [] = cond-false (is_some (first_type t ts)) ts (ts ++ t ∷ []) (ap is_some e) in
    is_new (λ i f. none-some i (sym e ∙ type_is_found f)) (subst (λ l. Adds l us (added (added_one ts t) us)) more a)

pub adds : (ts us : List FuncType) → Adds ts us (added ts us)
adds ts [] = all_added
adds ts (t ∷ us) = one_more ts us t (first_type t ts) refl (adds (added_one ts t) us)

none_found : (t : FuncType) (ts : List FuncType) (o : Option ℕ) → first_type t ts ≡ o → ((i : ℕ) → FirstType t ts i → ⊥) → is_some (first_type t ts) ≡ false
none_found t ts None e h = ap is_some e
none_found t ts (Some i) e h = absurd (h i (found_is_type t ts i e))

pub adds_is : {ts us all : List FuncType} → Adds ts us all → all ≡ added ts us
adds_is all_added = refl
adds_is (is_there {ts} {us} {all} {t} {i} f a) = adds_is a ∙ ap (λ l. added l us) (sym (cond-true (is_some (first_type t ts)) ts (ts ++ t ∷ []) (ap is_some (type_is_found f))))
adds_is (is_new {ts} {us} {all} {t} h a) = adds_is a ∙ ap (λ l. added l us) (sym (cond-false (is_some (first_type t ts)) ts (ts ++ t ∷ []) (none_found t ts (first_type t ts) refl h)))

pub types_are_one : TypesAreOne
types_are_one declared uses all others a b = adds_is a ∙ sym (adds_is b)

pub added_append : (ts us vs : List FuncType) → added ts (us ++ vs) ≡ added (added ts us) vs
added_append ts [] vs = refl
added_append ts (u ∷ us) vs = added_append (added_one ts u) us vs

-- as far as a loop has come
pub added_more : {X Y : Type 0} (uses : Y → List FuncType) (f : X → Y) (xs : List X) (i : ℕ) (x : X) (ts us whole : List FuncType) → i < length xs → x ≡ get_or xs i x
    → added ts (flat_map uses (map f (drop i xs))) ≡ whole → us ≡ added ts (uses (f x)) → added us (flat_map uses (map f (drop (i + 1) xs))) ≡ whole
added_more uses f xs i x ts us whole l at so_far step =
    ap (λ k. added k (flat_map uses (map f (drop (i + 1) xs)))) step ∙ sym (added_append ts (uses (f x)) (flat_map uses (map f (drop (i + 1) xs))))
    ∙ ap (λ k. added ts (flat_map uses (map f k))) (sym (drop_more xs i x l ∙ ap (λ y. y ∷ drop (i + 1) xs) (sym at))) ∙ so_far

listed : {Y : Type 0} (g : Y → Option FuncType) (y : Y) (ys : List Y) → filter_map g (y ∷ ys) ≡ option_list (g y) ++ filter_map g ys
listed g y ys = by_case (g y) refl
  where
    by_case : (o : Option FuncType) → g y ≡ o → filter_map g (y ∷ ys) ≡ option_list (g y) ++ filter_map g ys
    by_case None e = rw e refl
    by_case (Some t) e = rw e refl

pub declared_more : {X Y : Type 0} (g : Y → Option FuncType) (f : X → Y) (xs : List X) (i : ℕ) (x : X) (ts us whole : List FuncType) → i < length xs → x ≡ get_or xs i x
    → ts ++ filter_map g (map f (drop i xs)) ≡ whole → us ≡ ts ++ option_list (g (f x)) → us ++ filter_map g (map f (drop (i + 1) xs)) ≡ whole
declared_more g f xs i x ts us whole l at so_far step =
    ap (λ k. k ++ filter_map g (map f (drop (i + 1) xs))) step ∙ append_assoc ts (option_list (g (f x))) (filter_map g (map f (drop (i + 1) xs)))
    ∙ ap (λ k. ts ++ k) (sym (listed g (f x) (map f (drop (i + 1) xs)))) ∙ ap (λ k. ts ++ filter_map g (map f k)) (sym (drop_more xs i x l ∙ ap (λ y. y ∷ drop (i + 1) xs) (sym at))) ∙ so_far

append_nil : {X : Type 0} (l : List X) → l ++ [] ≡ l
append_nil [] = refl
append_nil (x ∷ l) = ap (λ k. x ∷ k) (append_nil l)

pub all_declared : {X Y : Type 0} (g : Y → Option FuncType) (f : X → Y) (xs : List X) (i : ℕ) (ts whole : List FuncType) → length xs ≤ i → ts ++ filter_map g (map f (drop i xs)) ≡ whole → ts ≡ whole
all_declared g f xs i ts whole l e = sym (append_nil ts) ∙ ap (λ k. ts ++ filter_map g (map f k)) (sym (drop_of_length-le xs l)) ∙ e

pub all_added_up : {X Y : Type 0} (uses : Y → List FuncType) (f : X → Y) (xs : List X) (i : ℕ) (ts whole : List FuncType) → length xs ≤ i → added ts (flat_map uses (map f (drop i xs))) ≡ whole → ts ≡ whole
all_added_up uses f xs i ts whole l e = ap (λ k. added ts (flat_map uses (map f k))) (sym (drop_of_length-le xs l)) ∙ e
