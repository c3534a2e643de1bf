-- What stands at a number.
use Rattle.std.proofs.Common.{◌≡◌, ℕ, zero, suc, ◌<◌, ◌≤◌, List, [], ◌∷◌, Option, None, Some, map, length, get_or, slice_get, refl, sym, ap, ◌∙◌, arith}
use Rattle.std.specs.Option.{option_map}
use Rattle.std.proofs.lemmas.Option.{slice_get-get_or, slice_get-map}
use Rattle.serde_json.specs.Data.{Data, null}
use Rattle.wblock_json.specs.Json.{maybe}

-- the item of a list
pub at_some : {X : Type 0} (value : X → Data) (xs : List X) (n : ℕ) (x : X) → n < length xs → x ≡ get_or xs n x → maybe value (slice_get xs n) ≡ value x
at_some value xs n x lt is = ap (maybe value) (slice_get-get_or xs n x lt ∙ ap Some (sym is))

pub at_none : {X : Type 0} (value : X → Data) (xs : List X) (n : ℕ) → length xs ≤ n → maybe value (slice_get xs n) ≡ null
at_none value [] n le = refl
at_none value (x ∷ xs) zero le = absurd (omega (arith, le))
at_none value (x ∷ xs) (suc n) le = at_none value xs n (omega (arith, le))

-- the item of a list of views
mapped : {X Y : Type 0} (value : Y → Data) (of : X → Y) (o : Option X) → maybe value (option_map of o) ≡ maybe (λ x. value (of x)) o
mapped value of None = refl
mapped value of (Some x) = refl

pub view_at_some : {X Y : Type 0} (value : Y → Data) (of : X → Y) (xs : List X) (n : ℕ) (x : X) → n < length xs → x ≡ get_or xs n x → maybe value (slice_get (map of xs) n) ≡ value (of x)
view_at_some value of xs n x lt is = ap (maybe value) (slice_get-map of xs n) ∙ (mapped value of (slice_get xs n) ∙ at_some (λ x. value (of x)) xs n x lt is)

pub view_at_none : {X Y : Type 0} (value : Y → Data) (of : X → Y) (xs : List X) (n : ℕ) → length xs ≤ n → maybe value (slice_get (map of xs) n) ≡ null
view_at_none value of xs n le = ap (maybe value) (slice_get-map of xs n) ∙ (mapped value of (slice_get xs n) ∙ at_none (λ x. value (of x)) xs n le)
