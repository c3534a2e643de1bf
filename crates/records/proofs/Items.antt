-- Items that are read exactly one by one are read exactly as a list, and a loop reads them.
use Rattle.std.proofs.Common.{◌≡◌, ℕ, zero, suc, ◌-◌, ◌+◌, ◌*◌, ◌≤◌, ◌<◌, false, ltb, List, [], ◌∷◌, ◌++◌, length, Option, Some, None, Ok, Err, refl, sym, ap, subst, ◌∙◌, append_assoc, append-nil, arith, get_or, take}
use Rattle.std.specs.List.{flat_map}
use Rattle.std.proofs.lemmas.Bool.{le-ltb}
use Rattle.std.proofs.lemmas.List.{length-append, take_more, flat_map_more}
use Rattle.records.specs.declared.fault.Fault.{Fault}
use Rattle.records.specs.declared.fault.Fault.TheVariants.{Malformed, TooLarge, NoMemory}
use Rattle.records.specs.Reading.{Read, ◌>>=◌, Fails, items_at, after_count}
use Rattle.records.specs.Exact.{AreBytes, Takes, ReadsExactly, Follow}
use Rattle.records.proofs.Steps.{bind_ok, guard_ok, ok_is, Takes-then}

-- ---- the law

abbrev pub AreItems : {A : Type 0} → (Option A → A → Type 0) → ℕ → Option A → List A → Type 0
AreItems Is n before xs = (length xs ≡ n) × Follow Is before xs

items_take : {A : Type 0} (item_at : Option A → List ℕ → Read A) (text : A → List ℕ) (Is : Option A → A → Type 0) → ((before : Option A) → ReadsExactly (item_at before) text (Is before))
    → (n : ℕ) (before : Option A) (bytes : List ℕ) (x : List A × List ℕ) → AreBytes bytes → items_at item_at n before bytes ≡ Ok x → Takes bytes (flat_map text x.0) x.1 × AreItems Is n before x.0
unfolding items_at
items_take {A = A} item_at text Is exact zero before bytes x bounded e =
    subst (λ (y : List A × List ℕ). Takes bytes (flat_map text y.0) y.1 × AreItems Is 0 before y.0) (ok_is ([], bytes) x e) (record { parts = refl; rest_fits = bounded }, (refl, tt))
items_take {A = A} item_at text Is exact (suc n) before bytes x bounded e =
    let a = bind_ok (item_at before bytes) (λ first. items_at item_at n (Some first.0) first.1 >>= λ others. Ok (first.0 ∷ others.0, others.1)) x e in
    let b = bind_ok (items_at item_at n (Some a.0.0) a.0.1) (λ others. Ok (a.0.0 ∷ others.0, others.1)) x a.2 in
    let first = (exact before).takes bytes a.0 bounded a.1 in
    let second = items_take item_at text Is exact n (Some a.0.0) a.0.1 b.0 first.rest_fits b.1 in
    let both = Takes-then bytes (text a.0.0) a.0.1 (flat_map text b.0.0) b.0.1 first second.0 in
    let made : List A × List ℕ = (a.0.0 ∷ b.0.0, b.0.1) in
    subst (λ (y : List A × List ℕ). Takes bytes (flat_map text y.0) y.1 × AreItems Is (suc n) before y.0) (ok_is made x b.2)
    (both, (ap suc second.1.0, ((exact before).fits bytes a.0 bounded a.1, second.1.1)))

items_again : {A : Type 0} (item_at : Option A → List ℕ → Read A) (text : A → List ℕ) (Is : Option A → A → Type 0) → ((before : Option A) → ReadsExactly (item_at before) text (Is before))
    → (xs : List A) (before : Option A) (rest : List ℕ) → Follow Is before xs → items_at item_at (length xs) before (flat_map text xs ++ rest) ≡ Ok (xs, rest)
unfolding items_at
items_again item_at text Is exact [] before rest follow = refl
items_again item_at text Is exact (x ∷ xs) before rest follow =
    let regrouped : flat_map text (x ∷ xs) ++ rest ≡ text x ++ (flat_map text xs ++ rest) = append_assoc (text x) (flat_map text xs) rest in
    ap (items_at item_at (suc (length xs)) before) regrouped ∙ rw ((exact before).again x (flat_map text xs ++ rest) follow.0, items_again item_at text Is exact xs (Some x) rest follow.1) refl

-- ---- after a count

pub counted_take : {A : Type 0} (item_at : Option A → List ℕ → Read A) (text : A → List ℕ) (Is : Option A → A → Type 0) → ((before : Option A) → ReadsExactly (item_at before) text (Is before))
    → (smallest left : ℕ) (count : ℕ × List ℕ) (x : List A × List ℕ) → AreBytes count.1 → after_count item_at smallest left count ≡ Ok x → Takes count.1 (flat_map text x.0) x.1 × AreItems Is count.0 None x.0
counted_take item_at text Is exact smallest left count x bounded e =
    let g = guard_ok (ltb (length count.1) (smallest * count.0)) (Malformed left) (items_at item_at count.0 None count.1) x e in
    items_take item_at text Is exact count.0 None count.1 x bounded g.1

long : {A : Type 0} (text : A → List ℕ) (smallest : ℕ) → ((x : A) → smallest ≤ length (text x)) → (xs : List A) → smallest * length xs ≤ length (flat_map text xs)
long text smallest each [] = omega arith
long text smallest each (x ∷ xs) = let r = long text smallest each xs in let first = each x in omega (arith, r, first, length-append (text x) (flat_map text xs))

pub counted_again : {A : Type 0} (item_at : Option A → List ℕ → Read A) (text : A → List ℕ) (Is : Option A → A → Type 0) → ((before : Option A) → ReadsExactly (item_at before) text (Is before))
    → (smallest left : ℕ) → ((x : A) → smallest ≤ length (text x)) → (xs : List A) (rest : List ℕ) → Follow Is None xs → after_count item_at smallest left (length xs, flat_map text xs ++ rest) ≡ Ok (xs, rest)
counted_again item_at text Is exact smallest left each xs rest follow =
    let l = long text smallest each xs in
    let enough : ltb (length (flat_map text xs ++ rest)) (smallest * length xs) ≡ false = le-ltb _ _ (omega (arith, l, length-append (flat_map text xs) rest)) in
    rw (enough, items_again item_at text Is exact xs None rest follow) refl

-- ---- a loop

-- what was read before, and what is still read
abbrev pub with_front : {A : Type 0} → List A → Read (List A) → Read (List A)
with_front front read = read >>= λ x. Ok (front ++ x.0, x.1)

regroup : {A : Type 0} (front : List A) (n : A) (read : Read (List A)) → with_front front (read >>= λ x. Ok (n ∷ x.0, x.1)) ≡ with_front (front ++ n ∷ []) read
regroup {A = A} front n (Ok x) = ap (λ (ns : List A). Ok (ns, x.1)) (simp append_assoc)
regroup front n (Err f) = refl

pub begins : {A : Type 0} (read : Read (List A)) → with_front [] read ≡ read
begins (Ok x) = refl
begins (Err f) = refl

pub goes_on : {A : Type 0} (item_at : Option A → List ℕ → Read A) (front : List A) (count i : ℕ) (before : Option A) (bytes : List ℕ) (n : A) (after : List ℕ) (total : Read (List A)) → i < count → item_at before bytes ≡ Ok (n, after)
    → with_front front (items_at item_at (count - i) before bytes) ≡ total → with_front (front ++ n ∷ []) (items_at item_at (count - (i + 1)) (Some n) after) ≡ total
unfolding items_at
goes_on {A = A} item_at front count i before bytes n after total lt h so_far =
    let k : count - i ≡ suc (count - (i + 1)) = omega arith in
    let one : with_front front (items_at item_at (count - i) before bytes) ≡ with_front (front ++ n ∷ []) (items_at item_at (count - (i + 1)) (Some n) after) = rw (k, h) (regroup front n (items_at item_at (count - (i + 1)) (Some n) after)) in
    sym one ∙ so_far

ended : {A : Type 0} (item_at : Option A → List ℕ → Read A) (front : List A) (count i : ℕ) (before : Option A) (bytes : List ℕ) (e : Fault) → i < count → item_at before bytes ≡ Err e
    → with_front front (items_at item_at (count - i) before bytes) ≡ Err e
unfolding items_at
ended item_at front count i before bytes e lt h = let k : count - i ≡ suc (count - (i + 1)) = omega arith in rw (k, h) refl

pub ends : {A : Type 0} (item_at : Option A → List ℕ → Read A) (e : Fault) (front : List A) (count i : ℕ) (before : Option A) (bytes : List ℕ) (total : Read (List A)) → i < count → Fails e (item_at before bytes)
    → with_front front (items_at item_at (count - i) before bytes) ≡ total → Fails e total
ends item_at NoMemory front count i before bytes total lt h so_far = tt
ends item_at TooLarge front count i before bytes total lt h so_far = sym so_far ∙ ended item_at front count i before bytes TooLarge lt h
ends item_at (Malformed left) front count i before bytes total lt h so_far = sym so_far ∙ ended item_at front count i before bytes (Malformed left) lt h

pub is_done : {A : Type 0} (item_at : Option A → List ℕ → Read A) (front : List A) (count i : ℕ) (before : Option A) (bytes : List ℕ) (total : Read (List A)) → count ≤ i → with_front front (items_at item_at (count - i) before bytes) ≡ total → total ≡ Ok (front, bytes)
unfolding items_at
is_done {A = A} item_at front count i before bytes total le so_far =
    let k : count - i ≡ 0 = omega arith in
    let one : with_front front (items_at item_at (count - i) before bytes) ≡ Ok (front, bytes) = rw k (ap (λ (ns : List A). Ok (ns, bytes)) (append-nil front)) in
    sym so_far ∙ one

-- ---- a loop that appends

pub one_more : {X : Type 0} (text : X → List ℕ) (old front out new : List ℕ) (xs : List X) (i : ℕ) (x : X) → i < length xs → x ≡ get_or xs i x
    → out ≡ old ++ (front ++ flat_map text (take i xs)) → new ≡ out ++ text x → new ≡ old ++ (front ++ flat_map text (take (i + 1) xs))
one_more {X = X} text old front out new xs i x lt is so_far added =
    let last : take i xs ++ x ∷ [] ≡ take (i + 1) xs = ap (λ (y : X). take i xs ++ y ∷ []) is ∙ sym (take_more xs i x lt) in
    added ∙ (ap (λ (s : List ℕ). s ++ text x) so_far ∙ (append_assoc old (front ++ flat_map text (take i xs)) (text x)
    ∙ ap (λ (s : List ℕ). old ++ s) (flat_map_more text front (take i xs) x ∙ ap (λ (ys : List X). front ++ flat_map text ys) last)))
