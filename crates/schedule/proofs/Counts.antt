-- How often a number stands in a list, in several lists together, and in those of them that are not done.
use Rattle.std.proofs.Common.{◌≡◌, ◌==◌, ◌⊎◌, inl, inr, ℕ, zero, suc, ◌+◌, ◌<◌, ◌≤◌, ◌^◌, Bool, true, false, cond, List, [], ◌∷◌, ◌++◌, length, take, drop, get_or, set, replicate, refl, sym, ◌∙◌, ap, subst, arith, eq-eqb}
use Rattle.std.specs.List.{Contains, AllPairs, filter}
use Rattle.std.specs.List.Sorted.{IsStrictlyIncreasing}
use Rattle.std.proofs.lemmas.Bool.{eqb-true, cases_eq, cases_lt}
use Rattle.std.proofs.lemmas.List.{take-append-drop, take_more, length-set, length-map, get_or-map, get_or-set_other}
use Rattle.std.proofs.lemmas.Grind.{get_or-set_at}
use Rattle.std.proofs.lemmas.List.Kept.{AllPairs-from_increasing, IsStrictlyIncreasing-filter}
use Rattle.std.proofs.lemmas.List.Sums.{sum_by_more_le, sum_by-cons}
use Rattle.schedule.specs.Graph.{gathered, list_at}
use Rattle.schedule.specs.Board.{count_of, count_in, pending, zeros}
use Rattle.schedule.proofs.Lists.{among_these, kept_by, keeps}

-- ---- one list

abbrev once : Bool → ℕ
once b = cond b 1 0

count-cons : (x j : ℕ) (xs : List ℕ) → count_of j (x ∷ xs) ≡ once (x == j) + count_of j xs
count-cons x j xs = sum_by-cons (λ k. once (k == j)) x xs

at_least_once : (xs : List ℕ) (j k d : ℕ) → k < length xs → get_or xs k d ≡ j → 1 ≤ count_of j xs
at_least_once [] j k d lt is = absurd (omega (arith, lt))
at_least_once (x ∷ xs) j zero d lt is = let itself : once (x == j) ≡ 1 = ap once (eq-eqb x j is) in let sum = count-cons x j xs in omega (arith, itself, sum)
at_least_once (x ∷ xs) j (suc k) d lt is = let rest = at_least_once xs j k d (omega (arith, lt)) is in let sum = count-cons x j xs in omega (arith, rest, sum)

pub counted_there : (xs : List ℕ) (j : ℕ) → Contains xs j → 1 ≤ count_of j xs
counted_there xs j (k, lt, is) = at_least_once xs j k j lt is

pub there_counted : (xs : List ℕ) (j : ℕ) → 1 ≤ count_of j xs → Contains xs j
there_counted [] j lt = absurd (omega (arith, lt))
there_counted (x ∷ xs) j lt = by (x == j) refl (let sum = count-cons x j xs in omega (arith, lt, sum)) (λ h. there_counted xs j h)
  where
    by : (b : Bool) → (x == j) ≡ b → 1 ≤ once b + count_of j xs → (1 ≤ count_of j xs → Contains xs j) → Contains (x ∷ xs) j
    by true is h rest = (0, omega arith, eqb-true x j is)
    by false is h rest = let r = rest (omega (arith, h)) in (suc r.0, let l = r.1 in omega (arith, l), r.2)

none_above : (xs : List ℕ) (j : ℕ) → ((k : ℕ) → k < length xs → j < get_or xs k 0) → count_of j xs ≡ 0
none_above [] j above = refl
none_above (x ∷ xs) j above = count-cons x j xs ∙ by (x == j) refl (none_above xs j (λ k lt. above (suc k) (omega (arith, lt))))
  where
    by : (b : Bool) → (x == j) ≡ b → count_of j xs ≡ 0 → once b + count_of j xs ≡ 0
    by true is rest = let same = eqb-true x j is in let lt = above 0 (omega arith) in absurd (omega (arith, same, lt))
    by false is rest = omega (arith, rest)

tail_pairs : (x : ℕ) (xs : List ℕ) → AllPairs (λ x y. x < y) (x ∷ xs) → AllPairs (λ x y. x < y) xs
tail_pairs x xs pairs i j d lt within = pairs (suc i) (suc j) d (omega (arith, lt)) (omega (arith, within))

once_at_most : (xs : List ℕ) (j : ℕ) → AllPairs (λ x y. x < y) xs → count_of j xs ≤ 1
once_at_most [] j pairs = omega arith
once_at_most (x ∷ xs) j pairs = let sum = count-cons x j xs in let all = by (x == j) refl (once_at_most xs j (tail_pairs x xs pairs)) in omega (arith, sum, all)
  where
    by : (b : Bool) → (x == j) ≡ b → count_of j xs ≤ 1 → once b + count_of j xs ≤ 1
    by true is rest =
        let same = eqb-true x j is in
        let none = none_above xs j (λ k lt. let h = pairs 0 (suc k) 0 (omega arith) (omega (arith, lt)) in omega (arith, h, same)) in
        omega (arith, none)
    by false is rest = omega (arith, rest)

pub at_most_once : (xs : List ℕ) (j : ℕ) → IsStrictlyIncreasing xs → count_of j xs ≤ 1
at_most_once xs j rises = once_at_most xs j (AllPairs-from_increasing xs rises)

pub counted_once : (xs : List ℕ) (j : ℕ) → IsStrictlyIncreasing xs → Contains xs j → count_of j xs ≡ 1
counted_once xs j rises c = let a = at_most_once xs j rises in let b = counted_there xs j c in omega (arith, a, b)

-- ---- all lists

pub count_in-append : (xs ys : List (List ℕ)) (j : ℕ) → count_in (xs ++ ys) j ≡ count_in xs j + count_in ys j
count_in-append [] ys j = omega arith
count_in-append (x ∷ xs) ys j = let rest = count_in-append xs ys j in omega (arith, rest)

pub count_in_more : (edges : List (List ℕ)) (i j : ℕ) → i < length edges → count_in (take (i + 1) edges) j ≡ count_in (take i edges) j + count_of j (list_at edges i)
count_in_more edges i j lt =
    let split : count_in (take (i + 1) edges) j ≡ count_in (take i edges ++ list_at edges i ∷ []) j = ap (λ xs. count_in xs j) (take_more edges i [] lt) in
    let sum = count_in-append (take i edges) (list_at edges i ∷ []) j in
    omega (arith, split, sum)

pub count_in_so_far : (edges : List (List ℕ)) (i j : ℕ) → count_in (take i edges) j ≤ count_in edges j
count_in_so_far edges i j =
    let split : count_in (take i edges ++ drop i edges) j ≡ count_in edges j = ap (λ xs. count_in xs j) (take-append-drop i edges) in
    let sum = count_in-append (take i edges) (drop i edges) j in
    omega (arith, split, sum)

pub count_in-le : (edges : List (List ℕ)) (j : ℕ) → ((i : ℕ) → IsStrictlyIncreasing (list_at edges i)) → count_in edges j ≤ length edges
count_in-le [] j rises = omega arith
count_in-le (s ∷ ss) j rises =
    let one = at_most_once s j (rises 0) in
    let rest = count_in-le ss j (λ i. rises (suc i)) in
    omega (arith, one, rest)

-- ---- those lists that are not done

pub pending_none : (edges : List (List ℕ)) (j : ℕ) → pending edges (replicate (length edges) false) j ≡ count_in edges j
pending_none [] j = refl
pending_none (s ∷ ss) j = let rest = pending_none ss j in omega (arith, rest)

-- what stands in a list that is done is no longer counted
pub pending_ended : (ss : List (List ℕ)) (es : List Bool) (p j : ℕ) → p < length ss → length es ≡ length ss → get_or es p false ≡ false
    → pending ss (set es p true) j + count_of j (list_at ss p) ≡ pending ss es j
pending_ended [] es p j h l e = absurd (omega (arith, h))
pending_ended (s ∷ ss) [] p j h l e = absurd (omega (arith, l))
pending_ended (s ∷ ss) (b ∷ es) zero j h l e =
    let now : cond b 0 (count_of j s) ≡ count_of j s = ap (λ x. cond x 0 (count_of j s)) e in
    omega (arith, now)
pending_ended (s ∷ ss) (b ∷ es) (suc p) j h l e =
    let rest : pending ss (set es p true) j + count_of j (list_at ss p) ≡ pending ss es j = pending_ended ss es p j (omega (arith, h)) (omega (arith, l)) e in
    omega (arith, rest)

-- what stands in a list that is not done is counted
pub waits : (ss : List (List ℕ)) (es : List Bool) (i j : ℕ) → length es ≡ length ss → Contains (list_at ss i) j → get_or es i false ≡ false → 1 ≤ pending ss es j
waits [] es i j l c e = absurd (let lt = c.1 in omega (arith, lt))
waits (s ∷ ss) [] i j l c e = absurd (omega (arith, l))
waits (s ∷ ss) (b ∷ es) zero j l c e =
    let now : cond b 0 (count_of j s) ≡ count_of j s = ap (λ x. cond x 0 (count_of j s)) e in
    let one = counted_there s j c in
    omega (arith, now, one)
waits (s ∷ ss) (b ∷ es) (suc i) j l c e = let rest = waits ss es i j (omega (arith, l)) c e in omega (arith, rest)

-- and where one is counted there is one
pub one_waits : (ss : List (List ℕ)) (es : List Bool) (j : ℕ) → 1 ≤ pending ss es j → (i : ℕ) × Contains (list_at ss i) j × (get_or es i false ≡ false)
one_waits [] es j lt = absurd (omega (arith, lt))
one_waits (s ∷ ss) [] j lt = absurd (omega (arith, lt))
one_waits (s ∷ ss) (true ∷ es) j lt = let r = one_waits ss es j (omega (arith, lt)) in (suc r.0, r.1, r.2)
one_waits (s ∷ ss) (false ∷ es) j lt = elim (cases_lt 0 (count_of j s)) [
  | inl some ↦ (0, there_counted s j (omega (arith, some)), refl)
  | inr none ↦ let r = one_waits ss es j (omega (arith, none, lt)) in (suc r.0, r.1, r.2)
]

pub none_waits : (ss : List (List ℕ)) (es : List Bool) (i j : ℕ) → length es ≡ length ss → pending ss es j ≡ 0 → Contains (list_at ss i) j → get_or es i false ≡ true
none_waits ss es i j l none c = by (get_or es i false) refl
  where
    by : (b : Bool) → get_or es i false ≡ b → b ≡ true
    by true is = refl
    by false is = let one = waits ss es i j l c is in absurd (omega (arith, one, none))

pub all_ended : (ss : List (List ℕ)) (es : List Bool) (j : ℕ) → ((i : ℕ) → Contains (list_at ss i) j → get_or es i false ≡ true) → pending ss es j ≡ 0
all_ended ss es j all = elim (cases_lt 0 (pending ss es j)) [
  | inl some ↦ absurd (let r = one_waits ss es j (omega (arith, some)) in let contrary : true ≡ false = sym (all r.0 r.1) ∙ r.2 in cc contrary)
  | inr none ↦ omega (arith, none)
]

-- ---- several lists that are done at once

count-append : (j : ℕ) (xs ys : List ℕ) → count_of j (xs ++ ys) ≡ count_of j xs + count_of j ys
count-append j [] ys = omega arith
count-append j (x ∷ xs) ys = let rest = count-append j xs ys in let a = count-cons x j (xs ++ ys) in let b = count-cons x j xs in omega (arith, rest, a, b)

-- these are done
abbrev set_all : List Bool → List ℕ → List Bool
set_all ds [] = ds
set_all ds (g ∷ gs) = set_all (set ds g true) gs

length-set_all : (ds : List Bool) (gs : List ℕ) → length (set_all ds gs) ≡ length ds
length-set_all ds [] = refl
length-set_all ds (g ∷ gs) = length-set_all (set ds g true) gs ∙ length-set ds g true

stays_done : (ds : List Bool) (gs : List ℕ) (h : ℕ) → h < length ds → get_or ds h false ≡ true → get_or (set_all ds gs) h false ≡ true
stays_done ds [] h lt done = done
stays_done ds (g ∷ gs) h lt done = stays_done (set ds g true) gs h (let size = length-set ds g true in omega (arith, lt, size)) (elim (cases_eq h g) [
  | inl same ↦ get_or-set_at ds g h true false same (omega (arith, lt, same))
  | inr other ↦ get_or-set_other ds g h true false other ∙ done
])

set_there : (ds : List Bool) (gs : List ℕ) (h : ℕ) → h < length ds → Contains gs h → get_or (set_all ds gs) h false ≡ true
set_there ds [] h lt c = absurd (let l = c.1 in omega (arith, l))
set_there ds (g ∷ gs) h lt (zero, l, is) = stays_done (set ds g true) gs h (let size = length-set ds g true in omega (arith, lt, size)) (get_or-set_at ds g h true false (sym is) (let same = is in omega (arith, lt, same)))
set_there ds (g ∷ gs) h lt (suc k, l, is) = set_there (set ds g true) gs h (let size = length-set ds g true in omega (arith, lt, size)) (k, omega (arith, l), is)

set_other : (ds : List Bool) (gs : List ℕ) (h : ℕ) → ¬ (Contains gs h) → get_or (set_all ds gs) h false ≡ get_or ds h false
set_other ds [] h never = refl
set_other ds (g ∷ gs) h never =
    set_other (set ds g true) gs h (λ c. never (suc c.0, let l = c.1 in omega (arith, l), c.2))
    ∙ get_or-set_other ds g h true false (λ same. never (0, omega arith, sym same))

pending_all : (ss : List (List ℕ)) (ds : List Bool) (gs : List ℕ) (j : ℕ) → length ds ≡ length ss → ((g : ℕ) → Contains gs g → g < length ss) → ((g : ℕ) → Contains gs g → get_or ds g false ≡ false) → AllPairs (λ x y. x < y) gs
    → pending ss (set_all ds gs) j + count_of j (gathered ss gs) ≡ pending ss ds j
pending_all ss ds [] j len within new apart = omega arith
pending_all ss ds (g ∷ gs) j len within new apart =
    let first : Contains (g ∷ gs) g = (0, omega arith, refl) in
    let later : (h : ℕ) → Contains gs h → Contains (g ∷ gs) h = λ h c. (suc c.0, (let l = c.1 in omega (arith, l)), c.2) in
    let one = pending_ended ss ds g j (within g first) len (new g first) in
    let above : (h : ℕ) → Contains gs h → g < h = λ h c. (let lt : g < get_or gs c.0 h = apart 0 (suc c.0) h (omega arith) (let l = c.1 in omega (arith, l)) in let is = c.2 in omega (arith, lt, is)) in
    let size : length (set ds g true) ≡ length ss = length-set ds g true ∙ len in
    let rest : pending ss (set_all (set ds g true) gs) j + count_of j (gathered ss gs) ≡ pending ss (set ds g true) j =
    pending_all ss (set ds g true) gs j size (λ h c. within h (later h c))
    (λ h c. get_or-set_other ds g h true false (λ same. let lt = above h c in absurd (omega (arith, lt, same))) ∙ new h (later h c)) (tail_pairs g gs apart) in
    let sum = count-append j (list_at ss g) (gathered ss gs) in
    omega (arith, one, rest, sum)

pending_same : (ss : List (List ℕ)) (ds es : List Bool) (j : ℕ) → length ds ≡ length ss → length es ≡ length ss → ((g : ℕ) → g < length ss → get_or ds g false ≡ get_or es g false) → pending ss ds j ≡ pending ss es j
pending_same [] ds es j l m same = refl
pending_same (s ∷ ss) [] es j l m same = absurd (omega (arith, l))
pending_same (s ∷ ss) (d ∷ ds) [] j l m same = absurd (omega (arith, m))
pending_same (s ∷ ss) (d ∷ ds) (e ∷ es) j l m same =
    let head : d ≡ e = same 0 (omega arith) in
    let now : cond d 0 (count_of j s) ≡ cond e 0 (count_of j s) = ap (λ x. cond x 0 (count_of j s)) head in
    let rest = pending_same ss ds es j (omega (arith, l)) (omega (arith, m)) (λ g lt. same (suc g) (omega (arith, lt))) in
    omega (arith, now, rest)

-- ---- lists of which the count is 0

pub zeros_length : (counts : List ℕ) → length (zeros counts) ≡ length counts
zeros_length counts = length-map counts (λ n. n == 0)

zeros_at : (counts : List ℕ) (g : ℕ) → g < length counts → get_or (zeros counts) g false ≡ (get_or counts g 0 == 0)
zeros_at counts g lt = get_or-map (λ (n : ℕ). n == 0) counts g 0 false lt

pub is_zero : (counts : List ℕ) (g : ℕ) → g < length counts → get_or counts g 0 ≡ 0 → get_or (zeros counts) g false ≡ true
is_zero counts g lt none = zeros_at counts g lt ∙ eq-eqb (get_or counts g 0) 0 none

pub zero_is : (counts : List ℕ) (g : ℕ) → g < length counts → get_or (zeros counts) g false ≡ true → get_or counts g 0 ≡ 0
zero_is counts g lt is = eqb-true (get_or counts g 0) 0 (sym (zeros_at counts g lt) ∙ is)

pub not_zero : (counts : List ℕ) (g : ℕ) → g < length counts → ¬ (get_or counts g 0 ≡ 0) → get_or (zeros counts) g false ≡ false
not_zero counts g lt some = by (get_or (zeros counts) g false) refl
  where
    by : (b : Bool) → get_or (zeros counts) g false ≡ b → b ≡ false
    by true is = absurd (some (zero_is counts g lt is))
    by false is = refl

-- lists with the count 1 in which one more is done: so what stands in them is no longer counted
pub pending_opened : (ss : List (List ℕ)) (left next : List ℕ) (gs opening : List ℕ) (j : ℕ) → length left ≡ length ss → length next ≡ length left → IsStrictlyIncreasing gs → ((g : ℕ) → Contains gs g → g < length ss)
    → ((g : ℕ) → g < length left → get_or next g 0 + count_of g gs ≡ get_or left g 0) → opening ≡ filter (λ g. get_or left g 0 == 1) gs
    → pending ss (zeros next) j + count_of j (gathered ss opening) ≡ pending ss (zeros left) j
pending_opened ss left next gs opening j len size rises within lowered is =
    let IsOne : ℕ → Bool = λ g. get_or left g 0 == 1 in
    let Rises : List ℕ → Type 0 = λ xs. IsStrictlyIncreasing xs in
    let apart = AllPairs-from_increasing opening (subst Rises (sym is) (IsStrictlyIncreasing-filter IsOne gs rises)) in
    let kept : (g : ℕ) → Contains opening g → Contains gs g × (IsOne g ≡ true) = λ g c. kept_by IsOne gs g (among_these opening _ g is c) in
    let inside : (g : ℕ) → Contains opening g → g < length ss = λ g c. within g (kept g c).0 in
    let new : (g : ℕ) → Contains opening g → get_or (zeros left) g false ≡ false =
    λ g c. (let lt = inside g c in let one = eqb-true (get_or left g 0) 1 (kept g c).1 in not_zero left g (omega (arith, lt, len)) (λ none. absurd (omega (arith, one, none)))) in
    let all = pending_all ss (zeros left) opening j (zeros_length left ∙ len) inside new apart in
    let same = pending_same ss (zeros next) (set_all (zeros left) opening) j (zeros_length next ∙ size ∙ len) (length-set_all (zeros left) opening ∙ zeros_length left ∙ len) agree in
    omega (arith, all, same)
  where
    agree : (g : ℕ) → g < length ss → get_or (zeros next) g false ≡ get_or (set_all (zeros left) opening) g false
    agree g lt = by (cases_eq (get_or left g 0) 1) (cases_lt 0 (count_of g gs))
      where
        at : g < length left
        at = omega (arith, lt, len)

        at_next : g < length next
        at_next = omega (arith, lt, len, size)

        gone : ¬ (Contains opening g) → get_or (zeros left) g false ≡ get_or (set_all (zeros left) opening) g false
        gone never = sym (set_other (zeros left) opening g never)

        steady : get_or next g 0 ≡ get_or left g 0 → get_or (zeros next) g false ≡ get_or (zeros left) g false
        steady e = zeros_at next g at_next ∙ ap (λ n. n == 0) e ∙ sym (zeros_at left g at)

        by : (get_or left g 0 ≡ 1) ⊎ (¬ (get_or left g 0 ≡ 1)) → (0 < count_of g gs) ⊎ (count_of g gs ≤ 0) → get_or (zeros next) g false ≡ get_or (set_all (zeros left) opening) g false
        by (inl one) (inl some) =
            let there = there_counted gs g (omega (arith, some)) in
            let once = counted_once gs g rises there in
            let low = lowered g at in
            let among : Contains opening g = subst (λ xs. Contains xs g) (sym is) (keeps (λ g. get_or left g 0 == 1) gs g there (eq-eqb (get_or left g 0) 1 one)) in
            is_zero next g at_next (omega (arith, one, once, low)) ∙ sym (set_there (zeros left) opening g (let z = zeros_length left in omega (arith, z, at)) among)
        by (inl one) (inr none) =
            let low = lowered g at in
            steady (omega (arith, low, none)) ∙ gone (λ c. let r = kept_by (λ g. get_or left g 0 == 1) gs g (among_these opening _ g is c) in let some = counted_there gs g r.0 in absurd (omega (arith, some, none)))
        by (inr other) (inl some) =
            let there = there_counted gs g (omega (arith, some)) in
            let once = counted_once gs g rises there in
            let low = lowered g at in
            (not_zero next g at_next (λ z. absurd (omega (arith, z, once, low, other))) ∙ sym (not_zero left g at (λ z. absurd (omega (arith, z, once, low)))))
            ∙ gone (λ c. other (eqb-true (get_or left g 0) 1 (kept_by (λ g. get_or left g 0 == 1) gs g (among_these opening _ g is c)).1))
        by (inr other) (inr none) =
            let low = lowered g at in
            steady (omega (arith, low, none)) ∙ gone (λ c. other (eqb-true (get_or left g 0) 1 (kept_by (λ g. get_or left g 0 == 1) gs g (among_these opening _ g is c)).1))

-- ---- the steps of the loops over a list

-- what is yet to be taken is there
pub one_left : (ss : List ℕ) (i w before : ℕ) → i < length ss → w + count_of (get_or ss i 0) (take i ss) ≡ before → count_of (get_or ss i 0) ss ≤ before → 1 ≤ w
one_left ss i w before h e enough =
    let j = get_or ss i 0 in
    let more : count_of j (take i ss) + once (j == j) ≤ count_of j ss = sum_by_more_le (λ k. once (k == j)) ss i 0 h in
    let itself : once (j == j) ≡ 1 = ap once (eq-eqb j j refl) in
    omega (arith, more, itself, e, enough)

-- there is room for one more
pub room_left : (ss : List ℕ) (i w before : ℕ) → i < length ss → w ≡ before + count_of (get_or ss i 0) (take i ss) → before + count_of (get_or ss i 0) ss < 2 ^ 32 → w + 1 < 2 ^ 32
room_left ss i w before h e room =
    let j = get_or ss i 0 in
    let more : count_of j (take i ss) + once (j == j) ≤ count_of j ss = sum_by_more_le (λ k. once (k == j)) ss i 0 h in
    let itself : once (j == j) ≡ 1 = ap once (eq-eqb j j refl) in
    omega (arith, more, itself, e, room)

-- one list more
pub pending_more : (ss : List (List ℕ)) (ds : List Bool) (i j : ℕ) → i < length ss → length ds ≡ length ss → pending (take (i + 1) ss) ds j ≡ pending (take i ss) ds j + cond (get_or ds i false) 0 (count_of j (list_at ss i))
pending_more [] ds i j lt len = absurd (omega (arith, lt))
pending_more (s ∷ ss) [] i j lt len = absurd (omega (arith, len))
pending_more (s ∷ ss) (d ∷ ds) zero j lt len = omega arith
pending_more (s ∷ ss) (d ∷ ds) (suc i) j lt len =
    let rest = pending_more ss ds i j (omega (arith, lt)) (omega (arith, len)) in
    let next : suc i + 1 ≡ suc (i + 1) = omega arith in
    let whole : pending (take (suc i + 1) (s ∷ ss)) (d ∷ ds) j ≡ pending (s ∷ take (i + 1) ss) (d ∷ ds) j = ap (λ k. pending (take k (s ∷ ss)) (d ∷ ds) j) next in
    omega (arith, rest, whole)

pub pending-le : (ss : List (List ℕ)) (ds : List Bool) (j : ℕ) → pending ss ds j ≤ count_in ss j
pending-le [] ds j = omega arith
pending-le (s ∷ ss) [] j = omega arith
pending-le (s ∷ ss) (true ∷ ds) j = let rest = pending-le ss ds j in omega (arith, rest)
pending-le (s ∷ ss) (false ∷ ds) j = let rest = pending-le ss ds j in omega (arith, rest)
