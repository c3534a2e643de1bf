-- What the check of globals, segments, the start function and exports is given.
use Rattle.std.specs.Prelude.{Result, Ok, Err, IfOk}
use Rattle.std.proofs.Common.{◌≡◌, ℕ, zero, suc, Bool, true, false, ◌&&◌, List, [], ◌∷◌, ◌++◌, Option, Some, None, is_none, map, length, take, refl, ap, ◌∙◌}
use Rattle.std.specs.List.{list_all}
use Rattle.spec_modules.specs.Syntax.{GlobalType, Element, DataSegment, Export}
use Rattle.typing.specs.Tests.{element_passes, data_passes, export_passes, exports_pass}

map_take : {X Y : Type 0} (f : X → Y) (n : ℕ) (xs : List X) → map f (take n xs) ≡ take n (map f xs)
map_take f zero xs = refl
map_take f (suc n) [] = refl
map_take f (suc n) (x ∷ xs) = ap (λ ys. f x ∷ ys) (map_take f n xs)

take_front : {X : Type 0} (xs ys : List X) → take (length xs) (xs ++ ys) ≡ xs
take_front [] ys = refl
take_front (x ∷ xs) ys = ap (λ zs. x ∷ zs) (take_front xs ys)

pub prefix : {X Y : Type 0} (f : X → Y) (gs : List X) (xs ys : List Y) (n : ℕ) → map f gs ≡ xs ++ ys → n ≡ length xs → map f (take n gs) ≡ xs
prefix f gs xs ys n e h = ap (λ n. map f (take n gs)) h ∙ (map_take f (length xs) gs ∙ (ap (take (length xs)) e ∙ take_front xs ys))

pub none_of : {X : Type 0} (o : Option X) → ((x : X) → o ≡ Some x → ⊥) → is_none o ≡ true
none_of None h = refl
none_of (Some x) h = absurd (h x refl)

pub elements_at : (t t' f f' : ℕ) (i i' : List GlobalType) (es : List Element) → t ≡ t' → f ≡ f' → i ≡ i' → list_all (element_passes t f i) es ≡ list_all (element_passes t' f' i') es
elements_at t t' f f' i i' es p q r = ap (λ t. list_all (element_passes t f i) es) p ∙ (ap (λ f. list_all (element_passes t' f i) es) q ∙ ap (λ i. list_all (element_passes t' f' i) es) r)

pub datas_at : (t t' : ℕ) (i i' : List GlobalType) (ds : List DataSegment) → t ≡ t' → i ≡ i' → list_all (data_passes t i) ds ≡ list_all (data_passes t' i') ds
datas_at t t' i i' ds p r = ap (λ t. list_all (data_passes t i) ds) p ∙ ap (λ i. list_all (data_passes t' i) ds) r

pub exports_at : (f f' t t' m m' g g' : ℕ) (es : List Export) → f ≡ f' → t ≡ t' → m ≡ m' → g ≡ g' → exports_pass (export_passes f t m g) [] es ≡ exports_pass (export_passes f' t' m' g') [] es
exports_at f f' t t' m m' g g' es p q r s =
    ap (λ f. exports_pass (export_passes f t m g) [] es) p ∙ (ap (λ t. exports_pass (export_passes f' t m g) [] es) q ∙ (ap (λ m. exports_pass (export_passes f' t' m g) [] es) r ∙ ap (λ g. exports_pass (export_passes f' t' m' g) [] es) s))

pub last_of_five : (a b c d e x : Bool) → a ≡ true → b ≡ true → c ≡ true → d ≡ true → x ≡ e → x ≡ (a && (b && (c && (d && e))))
last_of_five true true true true e x p q r s h = h
last_of_five false b c d e x p q r s h = cc
last_of_five true false c d e x p q r s h = cc
last_of_five true true false d e x p q r s h = cc
last_of_five true true true false e x p q r s h = cc

-- what is true of each value is true of the one that is there
pub of_value : {X E : Type 0} (P Q : X → Type 0) → ((x : X) → P x → Q x) → (r : Result X E) → IfOk r P → IfOk r Q
of_value P Q k (Ok x) h = k x h
of_value P Q k (Err e) h = h
