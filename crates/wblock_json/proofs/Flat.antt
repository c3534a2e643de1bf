-- What has no float, and how many arrays and objects stand within one another.
use Rattle.std.proofs.Common.{◌≡◌, ℕ, ◌+◌, ◌<◌, ◌≤◌, List, [], ◌∷◌, map, Option, None, Some, Bool, false, ◌||◌, Ordering, Less, Equal, Greater, refl, arith}
use Rattle.std.proofs.lemmas.Bool.{or_parts}
use Rattle.std.specs.Ordering.{nat_cmp, match_ordering}
use Rattle.std.specs.Cmp.Lexicographic.{slice_cmp}
use Rattle.std.specs.List.{AllByRecursion}
use Rattle.serde_json.specs.Data.{Data, boolean, null, string, Items, Members, no_members, member, items_depth, members_depth, put}
use Rattle.serde_json.specs.View.{items_of}
use Rattle.serde_json.specs.Written.{items_have_float, members_have_float}
use Rattle.wblock_json.specs.Json.{IsFlat, array_of, numbered, object_of, maybe, small, with_members}

neither : (a b : Bool) → a ≡ false → b ≡ false → (a || b) ≡ false
neither a b p q = rw (p, q)

record AreFlat (most : ℕ) (ms : Members) : Type 0 where
  no_float : members_have_float ms ≡ false
  flat : members_depth ms ≤ most

record AreFlatItems (most : ℕ) (ds : Items) : Type 0 where
  no_float : items_have_float ds ≡ false
  flat : items_depth ds ≤ most

first : (n : ℕ) (k : List ℕ) (d : Data) (ms : Members) → AreFlat n (member k d ms) → IsFlat n d
first n k d ms h = record { no_float = (or_parts _ _ h.no_float).0; flat = omega arith }

rest : (n : ℕ) (k : List ℕ) (d : Data) (ms : Members) → AreFlat n (member k d ms) → AreFlat n ms
rest n k d ms h = record { no_float = (or_parts _ _ h.no_float).1; flat = omega arith }

more : (n : ℕ) (k : List ℕ) (d : Data) (ms : Members) → IsFlat n d → AreFlat n ms → AreFlat n (member k d ms)
more n k d ms h hs = record { no_float = neither _ _ h.no_float hs.no_float; flat = omega arith }

any_flat : (n : ℕ) (o : Ordering) (a b c : Members) → AreFlat n a → AreFlat n b → AreFlat n c → AreFlat n (match_ordering o a b c)
any_flat n Less a b c p q r = p
any_flat n Equal a b c p q r = q
any_flat n Greater a b c p q r = r

put_flat : (n : ℕ) (k : List ℕ) (d : Data) (ms : Members) → IsFlat n d → AreFlat n ms → AreFlat n (put k d ms)
put_flat n k d no_members h hs = more n k d no_members h hs
put_flat n k d (member l e ms) h hs =
    any_flat n (slice_cmp nat_cmp k l) _ _ _ (more n k d (member l e ms) h hs) (more n l d ms h (rest n l e ms hs))
    (more n l e (put k d ms) (first n l e ms hs) (put_flat n k d ms h (rest n l e ms hs)))

with_flat : (n : ℕ) (fields : List (List ℕ × Data)) (ms : Members) → AllByRecursion (λ f. IsFlat n f.1) fields → AreFlat n ms → AreFlat n (with_members fields ms)
with_flat n [] ms all hs = hs
with_flat n (f ∷ fs) ms all hs = with_flat n fs (put f.0 f.1 ms) all.1 (put_flat n f.0 f.1 ms all.0 hs)

pub object_flat : (n m : ℕ) (fields : List (List ℕ × Data)) → n < m → AllByRecursion (λ f. IsFlat n f.1) fields → IsFlat m (object_of fields)
object_flat n m fields lt all =
    let h = with_flat n fields no_members all (record { no_float = refl; flat = omega arith }) in
    record { no_float = h.no_float; flat = omega (arith, h.flat, lt) }

items_flat : (n : ℕ) (ds : List Data) → AllByRecursion (IsFlat n) ds → AreFlatItems n (items_of ds)
items_flat n [] all = record { no_float = refl; flat = omega arith }
items_flat n (d ∷ ds) all =
    let h = all.0 in
    let hs = items_flat n ds all.1 in
    record { no_float = neither _ _ h.no_float hs.no_float; flat = omega arith }

pub array_flat : (n m : ℕ) (ds : List Data) → n < m → AllByRecursion (IsFlat n) ds → IsFlat m (array_of ds)
array_flat n m ds lt all =
    let h = items_flat n ds all in
    record { no_float = h.no_float; flat = omega (arith, h.flat, lt) }

pub map_flat : {X : Type 0} (n : ℕ) (f : X → Data) (xs : List X) → ((x : X) → IsFlat n (f x)) → AllByRecursion (IsFlat n) (map f xs)
map_flat n f [] each = tt
map_flat n f (x ∷ xs) each = (each x, map_flat n f xs each)

pub numbered_flat : {X : Type 0} (n : ℕ) (f : ℕ → X → Data) (i : ℕ) (xs : List X) → ((i : ℕ) (x : X) → IsFlat n (f i x)) → AllByRecursion (IsFlat n) (numbered f i xs)
numbered_flat n f i [] each = tt
numbered_flat n f i (x ∷ xs) each = (each i x, numbered_flat n f (i + 1) xs each)

pub null_flat : (n : ℕ) → IsFlat n null
null_flat n = record { no_float = refl; flat = omega arith }

pub boolean_flat : (n : ℕ) (b : Bool) → IsFlat n (boolean b)
boolean_flat n b = record { no_float = refl; flat = omega arith }

pub string_flat : (n : ℕ) (s : List ℕ) → IsFlat n (string s)
string_flat n s = record { no_float = refl; flat = omega arith }

pub small_flat : (n x : ℕ) → IsFlat n (small x)
small_flat n x = record { no_float = refl; flat = omega arith }

pub deeper : (n m : ℕ) (d : Data) → n ≤ m → IsFlat n d → IsFlat m d
deeper n m d le h = record { no_float = h.no_float; flat = omega (arith, h.flat, le) }

pub maybe_flat : {X : Type 0} (n : ℕ) (f : X → Data) (o : Option X) → ((x : X) → IsFlat n (f x)) → IsFlat n (maybe f o)
maybe_flat n f None each = null_flat n
maybe_flat n f (Some x) each = each x
