-- Runs of bytes, and what stands in them.
use Rattle.std.proofs.Common.{◌≡◌, ℕ, zero, suc, ◌+◌, ◌-◌, ◌*◌, ◌<◌, ◌≤◌, refl, sym, ap, ◌∙◌, arith, subst, length, inl, inr}
use Rattle.std.specs.Prelude.{Bool, true, false, nat_le, nat_lt, List, [], ◌∷◌, ◌++◌, Option, Some, None, option_map, unwrap_or, slice_get, slice_set, slice_index, IfSome, map, take, drop, replicate}
use Rattle.std.specs.List.{range_with_len}
use Rattle.std.specs.Option.{option_or}
use Rattle.std.proofs.lemmas.Bool.{cases_lt}
use Rattle.std.proofs.lemmas.Bool.Decides.{nat_tests}
use Rattle.std.proofs.lemmas.List.{length-drop, length-take-le, get_or-drop, get_or-take, ext_get_or, length-replicate}
use Rattle.std.proofs.lemmas.List.Elements.{All-nil, All-cons, All-head, All-tail}
use Rattle.std.proofs.lemmas.List.FromFn.{length-map-range_with_len, get_or-map-range_with_len}
use Rattle.std.proofs.lemmas.Grind.{common_steps}
use Rattle.std.proofs.lemmas.Option.{none-some, same_Some, slice_get_within, get_or_from_slice_get, slice_get-get_or, slice_get_past}
use Rattle.spec_modules.specs.Profile.{page_size, page_limit}
use Rattle.memory.specs.declared.start.Run.{Run}
use Rattle.memory.specs.Runs.{begun, chosen, own_byte, run_of, end_of, has, place_in, standing, AreRuns, AreWithin, IsNext, IsPart, part_bytes, HasAdded}
use Rattle.memory.specs.Pieces.{number_in}
use Rattle.memory.proofs.Lists.{same_number}

-- ---- The first of some runs

has_true : (r : Run) (k : ℕ) → r.at ≤ k → k < end_of r → has r k ≡ true
has_true r k a b = grind (arith, nat_tests)

has_before : (r : Run) (k : ℕ) → k < r.at → has r k ≡ false
has_before r k a = grind (arith, nat_tests)

has_behind : (r : Run) (k : ℕ) → end_of r ≤ k → has r k ≡ false
has_behind r k a = grind (arith, nat_tests)

first_has : (r : Run) (rs : List Run) (k : ℕ) → r.at ≤ k → k < end_of r → place_in (r ∷ rs) k ≡ Some (r.from + (k - r.at))
first_has r rs k a b = ap (λ t. chosen t (Some (r.from + (k - r.at))) (place_in rs k)) (has_true r k a b)

first_before : (r : Run) (rs : List Run) (k : ℕ) → k < r.at → place_in (r ∷ rs) k ≡ place_in rs k
first_before r rs k a = ap (λ t. chosen t (Some (r.from + (k - r.at))) (place_in rs k)) (has_before r k a)

first_behind : (r : Run) (rs : List Run) (k : ℕ) → end_of r ≤ k → place_in (r ∷ rs) k ≡ place_in rs k
first_behind r rs k a = ap (λ t. chosen t (Some (r.from + (k - r.at))) (place_in rs k)) (has_behind r k a)

-- ---- Runs that rise

none_below : (low : ℕ) (rs : List Run) (k : ℕ) → AreRuns low rs → k < low → place_in rs k ≡ None
none_below low [] k h l = refl
none_below low (r ∷ rs) k h l = first_before r rs k (omega (arith, h.0)) ∙ none_below (end_of r) rs k h.2 (omega (arith, h.0))

low_within : (low : ℕ) (rs : List Run) → AreRuns low rs → low ≤ page_size * page_limit
low_within low [] h = h
low_within low (r ∷ rs) h = omega (arith, h.0, low_within (end_of r) rs h.2)

begins_later : (low : ℕ) (rs : List Run) (m : ℕ) (r : Run) → AreRuns low rs → slice_get rs m ≡ Some r → low ≤ r.at
begins_later low [] m r h e = absurd (none-some r e)
begins_later low (s ∷ rs) zero r h e = subst (λ (x : Run). low ≤ x.at) (same_Some s r e) h.0
begins_later low (s ∷ rs) (suc m) r h e = omega (arith, begins_later (end_of s) rs m r h.2 e, h.0)

-- a run has bytes, and ends where a memory does
pub run_known : (low : ℕ) (rs : List Run) (m : ℕ) (r : Run) → AreRuns low rs → slice_get rs m ≡ Some r → (1 ≤ r.len) × (end_of r ≤ page_size * page_limit)
run_known low [] m r h e = absurd (none-some r e)
run_known low (s ∷ rs) zero r h e = subst (λ (x : Run). (1 ≤ x.len) × (end_of x ≤ page_size * page_limit)) (same_Some s r e) (h.1, low_within (end_of s) rs h.2)
run_known low (s ∷ rs) (suc m) r h e = run_known (end_of s) rs m r h.2 e

-- ---- What comes next

-- behind a run that ends at an address or before
pub next_behind : (low : ℕ) (rs : List Run) (m : ℕ) (r : Run) (at : ℕ) → AreRuns low rs → slice_get rs m ≡ Some r → end_of r ≤ at → IsNext rs (suc m) at
next_behind low [] m r at h e l = absurd (none-some r e)
next_behind low (s ∷ rs) zero r at h e l = λ k q.
    let b : end_of s ≤ at = subst (λ (x : Run). end_of x ≤ at) (sym (same_Some s r e)) l in
    first_behind s rs k (omega (arith, b, q))
next_behind low (s ∷ rs) (suc m) r at h e l = λ k q.
    let b = begins_later (end_of s) rs m r h.2 e in
    first_behind s rs k (omega (arith, b, l, q)) ∙ next_behind (end_of s) rs m r at h.2 e l k q

one_less : (rs : List Run) (m : ℕ) (r : Run) (k : ℕ) → slice_get rs m ≡ Some r → end_of r ≤ k → place_in (drop m rs) k ≡ place_in (drop (suc m) rs) k
one_less [] m r k e l = absurd (none-some r e)
one_less (s ∷ rs) zero r k e l = first_behind s rs k (subst (λ (x : Run). end_of x ≤ k) (sym (same_Some s r e)) l)
one_less (s ∷ rs) (suc m) r k e l = one_less rs m r k e l

pub next_skipped : (rs : List Run) (m : ℕ) (r : Run) (at : ℕ) → slice_get rs m ≡ Some r → end_of r ≤ at → IsNext rs m at → IsNext rs (suc m) at
next_skipped rs m r at e l next = λ k q. next k q ∙ one_less rs m r k e (omega (arith, l, q))

pub next_later : (rs : List Run) (m at bt : ℕ) → at ≤ bt → IsNext rs m at → IsNext rs m bt
next_later rs m at bt l next = λ k q. next k (omega (arith, l, q))

past_all : (rs : List Run) (m k : ℕ) → length rs ≤ m → place_in (drop m rs) k ≡ None
past_all [] zero k l = refl
past_all [] (suc m) k l = refl
past_all (s ∷ rs) zero k l = absurd (omega arith)
past_all (s ∷ rs) (suc m) k l = past_all rs m k (omega arith)

gap_at : (low : ℕ) (rs : List Run) (m : ℕ) (r : Run) (k : ℕ) → AreRuns low rs → slice_get rs m ≡ Some r → k < r.at → place_in (drop m rs) k ≡ None
gap_at low [] m r k h e l = absurd (none-some r e)
gap_at low (s ∷ rs) zero r k h e l =
    let b : k < s.at = subst (λ (x : Run). k < x.at) (sym (same_Some s r e)) l in
    first_before s rs k b ∙ none_below (end_of s) rs k h.2 (omega (arith, b))
gap_at low (s ∷ rs) (suc m) r k h e l = gap_at (end_of s) rs m r k h.2 e l

run_at : (rs : List Run) (m : ℕ) (r : Run) (k : ℕ) → slice_get rs m ≡ Some r → r.at ≤ k → k < end_of r → place_in (drop m rs) k ≡ Some (r.from + (k - r.at))
run_at [] m r k e a b = absurd (none-some r e)
run_at (s ∷ rs) zero r k e a b =
    subst (λ (x : Run). place_in (s ∷ rs) k ≡ Some (x.from + (k - x.at))) (same_Some s r e)
    (first_has s rs k (subst (λ (x : Run). x.at ≤ k) (sym (same_Some s r e)) a) (subst (λ (x : Run). k < end_of x) (sym (same_Some s r e)) b))
run_at (s ∷ rs) (suc m) r k e a b = run_at rs m r k e a b

-- ---- Parts

pub part_past : (rs : List Run) (m at count : ℕ) → IsNext rs m at → length rs ≤ m → IsPart rs at None count
part_past rs m at count next l = λ j q. next (at + j) (omega arith) ∙ past_all rs m (at + j) l

pub part_gap : (rs : List Run) (m : ℕ) (r : Run) (at count : ℕ) → AreRuns 0 rs → IsNext rs m at → slice_get rs m ≡ Some r → at + count ≤ r.at → IsPart rs at None count
part_gap rs m r at count h next e l = λ j q. next (at + j) (omega arith) ∙ gap_at 0 rs m r (at + j) h e (omega (arith, l, q))

pub part_run : (rs : List Run) (m : ℕ) (r : Run) (at count : ℕ) → IsNext rs m at → slice_get rs m ≡ Some r → r.at ≤ at → at + count ≤ end_of r → IsPart rs at (Some (r.from + (at - r.at))) count
part_run rs m r at count next e a b = λ j q.
    let there : r.from + (at + j - r.at) ≡ r.from + (at - r.at) + j = omega (arith, a) in
    next (at + j) (omega arith) ∙ (run_at rs m r (at + j) e (omega (arith, a)) (omega (arith, b, q)) ∙ ap (λ n. Some n) there)

pub run_within : (n : ℕ) (rs : List Run) (m : ℕ) (r : Run) → AreWithin n rs → slice_get rs m ≡ Some r → r.from + r.len ≤ n
run_within n rs m r h e =
    subst (λ (x : Run). x.from + x.len ≤ n) (get_or_from_slice_get rs m r r e) (h m r (slice_get_within rs m r e))

standing_is : (rs : List Run) (all : List ℕ) (at : ℕ) (from : Option ℕ) (count : ℕ) → IsPart rs at from count → (j : ℕ) → j < count
    → standing rs all (at + j) ≡ option_map (λ place. slice_index all (place + j)) from
standing_is rs all at None count p j q = ap (option_map (slice_index all)) (p j q)
standing_is rs all at (Some from) count p j q = ap (option_map (slice_index all)) (p j q)

-- the same, where the part is longer
pub stands_there : (rs : List Run) (all : List ℕ) (at : ℕ) (from : Option ℕ) (count some : ℕ) → some ≤ count → IsPart rs at from count → (j : ℕ) → j < some
    → standing rs all (at + j) ≡ option_map (λ place. slice_index all (place + j)) from
stands_there rs all at from count some l p j q = standing_is rs all at from count p j (omega (arith, l, q))

pub begun_at : (rs : List Run) (all : List ℕ) (at from count : ℕ) → IsPart rs at (Some from) count → (j : ℕ) → j < count → slice_index all (from + j) ≡ begun (standing rs all) (at + j)
begun_at rs all at from count p j q = sym (ap (λ o. unwrap_or o 0) (standing_is rs all at (Some from) count p j q))

pub begun_none : (rs : List Run) (all : List ℕ) (at count : ℕ) → IsPart rs at None count → (j : ℕ) → j < count → begun (standing rs all) (at + j) ≡ 0
begun_none rs all at count p j q = ap (λ o. unwrap_or o 0) (standing_is rs all at None count p j q)

zeros_at : (n j : ℕ) → slice_index (replicate n 0) j ≡ 0
zeros_at zero j = refl
zeros_at (suc n) zero = refl
zeros_at (suc n) (suc j) = zeros_at n j

-- the bytes of a part
pub part_is : (rs : List Run) (all : List ℕ) (at : ℕ) (from : Option ℕ) (count : ℕ) → IsPart rs at from count → IfSome from (λ f. f + count ≤ length all)
    → part_bytes all from count ≡ map (begun (standing rs all)) (range_with_len at count)
part_is rs all at None count p w =
    let l = length-map-range_with_len (begun (standing rs all)) at count in
    let z : length (replicate {A = ℕ} count 0) ≡ count = length-replicate count 0 in
    ext_get_or 0 (replicate count 0) (map (begun (standing rs all)) (range_with_len at count)) (omega (arith, l, z))
    (λ j q. let below : j < count = omega (arith, z, q) in
    zeros_at count j ∙ sym (get_or-map-range_with_len (begun (standing rs all)) at count j (at + j) 0 below refl ∙ begun_none rs all at count p j below))
part_is rs all at (Some f) count p w =
    let l = length-map-range_with_len (begun (standing rs all)) at count in
    let t = length-take-le count (drop f all) (omega (arith, length-drop f all, w)) in
    ext_get_or 0 (take count (drop f all)) (map (begun (standing rs all)) (range_with_len at count)) (omega (arith, l, t))
    (λ j q. let below : j < count = omega (arith, t, q) in
    get_or-take count (drop f all) j 0 below ∙ (get_or-drop f all j 0 ∙ (begun_at rs all at f count p j below
    ∙ sym (get_or-map-range_with_len (begun (standing rs all)) at count j (at + j) 0 below refl))))

-- ---- A run is added

choose_or : (b : Bool) (p : ℕ) (q r s : Option ℕ) → q ≡ option_or r s → chosen b (Some p) q ≡ option_or (chosen b (Some p) r) s
choose_or true p q r s h = refl
choose_or false p q r s h = h

joined_places : (xs ys : List Run) (k : ℕ) → place_in (xs ++ ys) k ≡ option_or (place_in xs k) (place_in ys k)
joined_places [] ys k = refl
joined_places (r ∷ xs) ys k = choose_or (has r k) (r.from + (k - r.at)) (place_in (xs ++ ys) k) (place_in xs k) (place_in ys k) (joined_places xs ys k)

or_none : (o : Option ℕ) → option_or o None ≡ o
or_none None = refl
or_none (Some x) = refl

free_end : (s : Run) (xs : List Run) (at : ℕ) → 1 ≤ s.len → ((k : ℕ) → at ≤ k → place_in (s ∷ xs) k ≡ None) → end_of s ≤ at
free_end s xs at some free = elim (cases_lt at (end_of s)) [
  | inl l ↦ absurd (none-some (s.from + (end_of s - 1 - s.at)) (sym (free (end_of s - 1) (omega (arith, l))) ∙ first_has s xs (end_of s - 1) (omega (arith, some)) (omega (arith, some))))
  | inr l ↦ l
]

free_rest : (s : Run) (xs : List Run) (at : ℕ) → 1 ≤ s.len → ((k : ℕ) → at ≤ k → place_in (s ∷ xs) k ≡ None) → (k : ℕ) → at ≤ k → place_in xs k ≡ None
free_rest s xs at some free k q = sym (first_behind s xs k (omega (arith, free_end s xs at some free, q))) ∙ free k q

pub pushed_rises : (low : ℕ) (xs : List Run) (r : Run) → AreRuns low xs → ((k : ℕ) → r.at ≤ k → place_in xs k ≡ None) → low ≤ r.at → 1 ≤ r.len → end_of r ≤ page_size * page_limit → AreRuns low (xs ++ r ∷ [])
pushed_rises low [] r h free l some limit = (l, some, limit)
pushed_rises low (s ∷ xs) r h free l some limit =
    (h.0, h.1, pushed_rises (end_of s) xs r h.2 (free_rest s xs r.at h.1 free) (free_end s xs r.at h.1 free) some limit)

pub pushed_places : (xs : List Run) (r : Run) → ((k : ℕ) → r.at ≤ k → place_in xs k ≡ None) → (k : ℕ) → place_in (xs ++ r ∷ []) k ≡ option_or (place_in (r ∷ []) k) (place_in xs k)
pushed_places xs r free k = joined_places xs (r ∷ []) k ∙ elim (cases_lt k r.at) [
  | inl l ↦ ap (option_or (place_in xs k)) (first_before r [] k l) ∙ (or_none (place_in xs k) ∙ sym (ap (λ o. option_or o (place_in xs k)) (first_before r [] k l)))
  | inr l ↦ ap (λ o. option_or o (place_in (r ∷ []) k)) (free k l) ∙ (sym (or_none (place_in (r ∷ []) k)) ∙ sym (ap (option_or (place_in (r ∷ []) k)) (free k l)))
]

pub pushed_within : (n : ℕ) (xs : List Run) (r : Run) → AreWithin n xs → r.from + r.len ≤ n → AreWithin n (xs ++ r ∷ [])
pushed_within n [] r h l = All-cons (λ (x : Run). x.from + x.len ≤ n) r [] l (All-nil (λ (x : Run). x.from + x.len ≤ n))
pushed_within n (s ∷ xs) r h l =
    All-cons (λ (x : Run). x.from + x.len ≤ n) s (xs ++ r ∷ []) (All-head (λ (x : Run). x.from + x.len ≤ n) s xs h) (pushed_within n xs r (All-tail (λ (x : Run). x.from + x.len ≤ n) s xs h) l)

abbrev pub longer : Run → ℕ → Run
longer last n = run_of last.at (last.len + n) last.from

pub longer_rises : (low : ℕ) (xs : List Run) (i : ℕ) (last : Run) (n : ℕ) → AreRuns low xs → slice_get xs i ≡ Some last → suc i ≡ length xs → end_of last + n ≤ page_size * page_limit → AreRuns low (slice_set xs i (longer last n))
longer_rises low [] i last n h e l limit = absurd (none-some last e)
longer_rises low (s ∷ []) zero last n h e l limit =
    let b : (low ≤ last.at) × (1 ≤ last.len) = subst (λ (x : Run). (low ≤ x.at) × (1 ≤ x.len)) (same_Some s last e) (h.0, h.1) in
    (b.0, omega (arith, b.1), omega (arith, limit))
longer_rises low (s ∷ t ∷ xs) zero last n h e l limit = absurd (omega arith)
longer_rises low (s ∷ xs) (suc i) last n h e l limit = (h.0, h.1, longer_rises (end_of s) xs i last n h.2 e (omega arith) limit)

one_longer : (last : Run) (n k : ℕ) → place_in (longer last n ∷ []) k ≡ option_or (place_in (run_of (end_of last) n (last.from + last.len) ∷ []) k) (place_in (last ∷ []) k)
one_longer last n k =
    let more = run_of (end_of last) n (last.from + last.len) in
    elim (cases_lt k last.at) [
      | inl a ↦ first_before (longer last n) [] k a ∙ sym (ap (option_or (place_in (more ∷ []) k)) (first_before last [] k a) ∙ (or_none (place_in (more ∷ []) k) ∙ first_before more [] k (omega (arith, a))))
      | inr a ↦ elim (cases_lt k (end_of last)) [
        | inl b ↦ first_has (longer last n) [] k a (omega (arith, b)) ∙ sym (ap (λ o. option_or o (place_in (last ∷ []) k)) (first_before more [] k b) ∙ first_has last [] k a b)
        | inr b ↦ elim (cases_lt k (end_of last + n)) [
          | inl d ↦ let same : last.from + (k - last.at) ≡ last.from + last.len + (k - end_of last) = omega (arith, a, b) in
              first_has (longer last n) [] k a (omega (arith, d)) ∙ (ap (λ p. Some p) same ∙ sym (ap (λ o. option_or o (place_in (last ∷ []) k)) (first_has more [] k b d)))
          | inr d ↦ first_behind (longer last n) [] k (omega (arith, d))
              ∙ sym (ap (option_or (place_in (more ∷ []) k)) (first_behind last [] k b) ∙ (or_none (place_in (more ∷ []) k) ∙ first_behind more [] k d))
        ]
      ]
    ]

longer_places : (low : ℕ) (xs : List Run) (i : ℕ) (last : Run) (n : ℕ) → AreRuns low xs → slice_get xs i ≡ Some last → suc i ≡ length xs → (k : ℕ)
    → place_in (slice_set xs i (longer last n)) k ≡ option_or (place_in (run_of (end_of last) n (last.from + last.len) ∷ []) k) (place_in xs k)
longer_places low [] i last n h e l k = absurd (none-some last e)
longer_places low (s ∷ []) zero last n h e l k =
    one_longer last n k ∙ ap (λ (x : Run). option_or (place_in (run_of (end_of last) n (last.from + last.len) ∷ []) k) (place_in (x ∷ []) k)) (sym (same_Some s last e))
longer_places low (s ∷ t ∷ xs) zero last n h e l k = absurd (omega arith)
longer_places low (s ∷ xs) (suc i) last n h e l k =
    let more = run_of (end_of last) n (last.from + last.len) in
    let set = slice_set xs i (longer last n) in
    let rest = longer_places (end_of s) xs i last n h.2 e (omega arith) k in
    elim (cases_lt k s.at) [
      | inl a ↦ first_before s set k a ∙ (rest ∙ sym (ap (option_or (place_in (more ∷ []) k)) (first_before s xs k a)))
      | inr a ↦ elim (cases_lt k (end_of s)) [
        | inl b ↦ let c = begins_later (end_of s) xs i last h.2 e in
            first_has s set k a b ∙ sym (ap (λ o. option_or o (place_in (s ∷ xs) k)) (first_before more [] k (omega (arith, b, c))) ∙ first_has s xs k a b)
        | inr b ↦ first_behind s set k b ∙ (rest ∙ sym (ap (option_or (place_in (more ∷ []) k)) (first_behind s xs k b)))
      ]
    ]

pub longer_places_at : (low : ℕ) (xs : List Run) (i : ℕ) (last : Run) (n at from : ℕ) → end_of last ≡ at → last.from + last.len ≡ from → AreRuns low xs → slice_get xs i ≡ Some last → suc i ≡ length xs → (k : ℕ)
    → place_in (slice_set xs i (longer last n)) k ≡ option_or (place_in (run_of at n from ∷ []) k) (place_in xs k)
longer_places_at low xs i last n at from a f h e l k =
    longer_places low xs i last n h e l k
    ∙ (ap (λ x. option_or (place_in (run_of x n (last.from + last.len) ∷ []) k) (place_in xs k)) a ∙ ap (λ x. option_or (place_in (run_of at n x ∷ []) k) (place_in xs k)) f)

pub longer_within : (n : ℕ) (xs : List Run) (i : ℕ) (last : Run) (m : ℕ) → AreWithin n xs → slice_get xs i ≡ Some last → last.from + last.len + m ≤ n → AreWithin n (slice_set xs i (longer last m))
longer_within n [] i last m h e l = absurd (none-some last e)
longer_within n (s ∷ xs) zero last m h e l =
    All-cons (λ (x : Run). x.from + x.len ≤ n) (longer last m) xs (omega (arith, l)) (All-tail (λ (x : Run). x.from + x.len ≤ n) s xs h)
longer_within n (s ∷ xs) (suc i) last m h e l =
    All-cons (λ (x : Run). x.from + x.len ≤ n) s (slice_set xs i (longer last m)) (All-head (λ (x : Run). x.from + x.len ≤ n) s xs h)
    (longer_within n xs i last m (All-tail (λ (x : Run). x.from + x.len ≤ n) s xs h) e l)

-- behind all
none_past : (low : ℕ) (rs : List Run) (k : ℕ) → AreRuns low rs → page_size * page_limit ≤ k → place_in rs k ≡ None
none_past low [] k h l = refl
none_past low (r ∷ rs) k h l = first_behind r rs k (omega (arith, low_within (end_of r) rs h.2, l)) ∙ none_past (end_of r) rs k h.2 l

pub none_stands : (rs : List Run) (bs : List ℕ) (k : ℕ) → AreRuns 0 rs → page_size * page_limit ≤ k → standing rs bs k ≡ None
none_stands rs bs k h l = ap (option_map (slice_index bs)) (none_past 0 rs k h l)

pub number_there : (rs : List Run) (all : List ℕ) (at from count width : ℕ) → width ≤ count → IsPart rs at (Some from) count → number_in (slice_index all) from width ≡ number_in (begun (standing rs all)) at width
number_there rs all at from count width l p = same_number (slice_index all) (begun (standing rs all)) width from at (λ k q. begun_at rs all at from count p k (omega (arith, l, q)))

-- one step of a pass over two
pub both_added : (xs ys : List Run) (us vs : List ℕ) (at : ℕ) (upper lower : Option ℕ) (most count : ℕ) (old new : ℕ → Option ℕ) → count ≤ most → IsPart xs at upper most → IsPart ys at lower count
    → HasAdded old at (λ j. option_or (option_map (λ place. slice_index us (place + j)) upper) (option_map (λ place. slice_index vs (place + j)) lower)) count new
    → ((k : ℕ) → k < at → old k ≡ option_or (standing xs us k) (standing ys vs k)) → (k : ℕ) → k < at + count → new k ≡ option_or (standing xs us k) (standing ys vs k)
both_added xs ys us vs at upper lower most count old new l p q added front k below = elim (cases_lt k at) [
  | inl m ↦ added.below k m ∙ front k m
  | inr m ↦
      let e : at + (k - at) ≡ k = omega (arith, m) in
      let j : k - at < count = omega (arith, m, below) in
      let a = stands_there xs us at upper most count l p (k - at) j in
      let b = stands_there ys vs at lower count count (omega arith) q (k - at) j in
      subst (λ n. new n ≡ option_or (standing xs us n) (standing ys vs n)) e
      (added.there (k - at) j ∙ (ap (λ o. option_or o (option_map (λ place. slice_index vs (place + (k - at))) lower)) (sym a) ∙ ap (option_or (standing xs us (at + (k - at)))) (sym b)))
]

-- ---- Bytes are added

lower : (xs ys : List ℕ) (k : ℕ) → k < length xs → slice_index (xs ++ ys) k ≡ slice_index xs k
lower xs ys k h = grind (arith, common_steps)

upper_part : (xs ys : List ℕ) (j : ℕ) → slice_index (xs ++ ys) (length xs + j) ≡ slice_index ys j
upper_part [] ys j = let e : length {A = ℕ} [] + j ≡ j = omega arith in ap (slice_index ys) e
upper_part (x ∷ xs) ys j = let e : length (x ∷ xs) + j ≡ suc (length xs + j) = omega arith in ap (slice_index (x ∷ (xs ++ ys))) e ∙ upper_part xs ys j

kept_bytes : (rs : List Run) (bs news : List ℕ) → AreWithin (length bs) rs → (k : ℕ) → standing rs (bs ++ news) k ≡ standing rs bs k
kept_bytes [] bs news h k = refl
kept_bytes (r ∷ rs) bs news h k =
    let rest = kept_bytes rs bs news (All-tail (λ (x : Run). x.from + x.len ≤ length bs) r rs h) k in
    let last = All-head (λ (x : Run). x.from + x.len ≤ length bs) r rs h in
    elim (cases_lt k r.at) [
      | inl a ↦ ap (option_map (slice_index (bs ++ news))) (first_before r rs k a) ∙ (rest ∙ sym (ap (option_map (slice_index bs)) (first_before r rs k a)))
      | inr a ↦ elim (cases_lt k (end_of r)) [
        | inl b ↦ let place : r.from + (k - r.at) < length bs = omega (arith, a, b, last) in
            ap (option_map (slice_index (bs ++ news))) (first_has r rs k a b) ∙ (ap (λ x. Some x) (lower bs news (r.from + (k - r.at)) place) ∙ sym (ap (option_map (slice_index bs)) (first_has r rs k a b)))
        | inr b ↦ ap (option_map (slice_index (bs ++ news))) (first_behind r rs k b) ∙ (rest ∙ sym (ap (option_map (slice_index bs)) (first_behind r rs k b)))
      ]
    ]

no_place : (bs : List ℕ) (o : Option ℕ) → option_map (slice_index bs) o ≡ None → o ≡ None
no_place bs None e = refl
no_place bs (Some x) e = absurd (none-some (slice_index bs x) (sym e))

-- where no byte stands there is no place
pub nothing_placed : (rs : List Run) (bs : List ℕ) (at : ℕ) → ((k : ℕ) → at ≤ k → standing rs bs k ≡ None) → (k : ℕ) → at ≤ k → place_in rs k ≡ None
nothing_placed rs bs at free k q = no_place bs (place_in rs k) (free k q)

-- a run behind all others, of bytes behind all others
pub added_run : (rs qs : List Run) (bs news all : List ℕ) (at from : ℕ) → from ≡ length bs → all ≡ bs ++ news → AreWithin (length bs) rs → ((k : ℕ) → at ≤ k → standing rs bs k ≡ None)
    → ((k : ℕ) → place_in qs k ≡ option_or (place_in (run_of at (length news) from ∷ []) k) (place_in rs k)) → HasAdded (standing rs bs) at (λ j. Some (slice_index news j)) (length news) (standing qs all)
added_run rs qs bs news all at from f e w free places =
    let run = run_of at (length news) from in
    let before : (k : ℕ) → k < at → place_in qs k ≡ place_in rs k = λ k q. places k ∙ ap (λ o. option_or o (place_in rs k)) (first_before run [] k q) in
    let behind : (k : ℕ) → at + length news ≤ k → place_in qs k ≡ place_in rs k = λ k q. places k ∙ ap (λ o. option_or o (place_in rs k)) (first_behind run [] k q) in
    record {
      below = λ k q. ap (option_map (slice_index all)) (before k q) ∙ (ap (λ l. standing rs l k) e ∙ kept_bytes rs bs news w k);
      there = λ j q.
          let place : from + (at + j - at) ≡ length bs + j = omega (arith, f) in
          let here : place_in qs (at + j) ≡ Some (from + (at + j - at)) = places (at + j) ∙ ap (λ o. option_or o (place_in rs (at + j))) (first_has run [] (at + j) (omega arith) (omega (arith, q))) in
          ap (option_map (slice_index all)) here ∙ ap (λ b. Some b) (ap (slice_index all) place ∙ (ap (λ l. slice_index l (length bs + j)) e ∙ upper_part bs news j));
      behind = λ k q. ap (option_map (slice_index all)) (behind k q) ∙ (ap (λ l. standing rs l k) e ∙ (kept_bytes rs bs news w k ∙ free k (omega (arith, q))));
    }

-- the bytes that are added are a part of a list
pub added_slice : (old new : ℕ → Option ℕ) (at : ℕ) (all : List ℕ) (from count n : ℕ) → n ≡ count → from + count ≤ length all
    → HasAdded old at (λ j. Some (slice_index (take n (drop from all)) j)) (length (take n (drop from all))) new → HasAdded old at (λ j. Some (slice_index all (from + j))) count new
added_slice old new at all from count n e w added =
    let l : length (take n (drop from all)) ≡ count = length-take-le n (drop from all) (omega (arith, length-drop from all, w, e)) ∙ e in
    record {
      below = added.below;
      there = λ j q. added.there j (omega (arith, l, q)) ∙ ap (λ b. Some b) (get_or-take n (drop from all) j 0 (omega (arith, e, q)) ∙ get_or-drop from all j 0);
      behind = λ k q. added.behind k (omega (arith, l, q));
    }

-- nothing is added
pub added_none : (old : ℕ → Option ℕ) (at count : ℕ) → ((k : ℕ) → at ≤ k → old k ≡ None) → HasAdded old at (λ j. None) count old
added_none old at count free = record {
  below = λ k q. refl;
  there = λ j q. free (at + j) (omega arith);
  behind = λ k q. free k (omega (arith, q));
}

test_below : (at k : ℕ) → k < at → nat_le at k ≡ false
test_below at k h = grind (arith, nat_tests)

test_there : (at k : ℕ) → at ≤ k → nat_le at k ≡ true
test_there at k h = grind (arith, nat_tests)

own_below : (at : ℕ) (news : List ℕ) (k : ℕ) → k < at → own_byte at news k ≡ None
own_below at news k h = ap (λ t. chosen t (slice_get news (k - at)) None) (test_below at k h)

own_there : (at : ℕ) (news : List ℕ) (k : ℕ) → at ≤ k → own_byte at news k ≡ slice_get news (k - at)
own_there at news k h = ap (λ t. chosen t (slice_get news (k - at)) None) (test_there at k h)

-- bytes that are added to none
pub added_first : (old new : ℕ → Option ℕ) (at : ℕ) (news : List ℕ) → ((k : ℕ) → old k ≡ None) → HasAdded old at (λ j. Some (slice_index news j)) (length news) new → (k : ℕ) → new k ≡ own_byte at news k
added_first old new at news none added k = elim (cases_lt k at) [
  | inl l ↦ added.below k l ∙ (none k ∙ sym (own_below at news k l))
  | inr l ↦ elim (cases_lt k (at + length news)) [
    | inl m ↦
        let e : at + (k - at) ≡ k = omega (arith, l) in
        let j : k - at < length news = omega (arith, l, m) in
        subst (λ n. new n ≡ Some (slice_index news (k - at))) e (added.there (k - at) j) ∙ (sym (slice_get-get_or news (k - at) 0 j) ∙ sym (own_there at news k l))
    | inr m ↦ added.behind k m ∙ sym (own_there at news k l ∙ slice_get_past news (k - at) (omega (arith, l, m)))
  ]
]

-- no bytes stand nowhere
pub own_none : (at : ℕ) (news : List ℕ) (k : ℕ) → length news ≡ 0 → own_byte at news k ≡ None
own_none at news k e = elim (cases_lt k at) [
  | inl l ↦ own_below at news k l
  | inr l ↦ own_there at news k l ∙ slice_get_past news (k - at) (omega (arith, e))
]

-- the first byte of a part
pub begun_here : (rs : List Run) (all : List ℕ) (at from count : ℕ) → 0 < count → IsPart rs at (Some from) count → slice_index all from ≡ begun (standing rs all) at
begun_here rs all at from count some p =
    let a : from ≡ from + 0 = omega arith in
    let b : at + 0 ≡ at = omega arith in
    ap (slice_index all) a ∙ (begun_at rs all at from count p 0 some ∙ ap (begun (standing rs all)) b)

pub begun_nowhere : (rs : List Run) (all : List ℕ) (at count : ℕ) → 0 < count → IsPart rs at None count → 0 ≡ begun (standing rs all) at
begun_nowhere rs all at count some p =
    let b : at ≡ at + 0 = omega arith in
    sym (ap (begun (standing rs all)) b ∙ begun_none rs all at count p 0 some)

-- no run is found at an index
pub past_end : {X : Type 0} (xs : List X) (i : ℕ) → false ≡ nat_lt i (length xs) → length xs ≤ i
past_end xs i h = grind arith

pub within_more : (n m : ℕ) (rs : List Run) → n ≤ m → AreWithin n rs → AreWithin m rs
within_more n m rs l h = λ k d below. let one = h k d below in omega (arith, l, one)
