-- Names are found where they first stand.
use Rattle.std.proofs.Common.{◌≡◌, ◌≢◌, ℕ, suc, ◌+◌, ◌-◌, ◌^◌, ◌<◌, Bool, true, false, cond, List, [], ◌∷◌, ◌++◌, length, get_or, take, drop, map, append_assoc, Option, Some, None, refl, sym, ap, ◌∙◌, subst, ◌≤◌, arith, ◌⊎◌, inl, inr}
use Rattle.std.specs.Prelude.{option_map, option_and_then, is_some, nat_lt}
use Rattle.std.specs.List.{list_all}
use Rattle.std.specs.Str.{bytes_eq}
use Rattle.std.proofs.lemmas.Slice.Eq.{bytes_eq-Decides}
use Rattle.std.proofs.lemmas.List.{take_more, drop_more, map-append, take-append-drop, length-map, length-take-le}
use Rattle.std.proofs.Math.ListN.{drop_of_length-le}
use Rattle.std.proofs.lemmas.Bool.{cond-true, cond-false, lt-ltb}
use Rattle.spec_modules.specs.Limits.{both}
use Rattle.std.proofs.lemmas.Option.{none-some, same_Some}
use Rattle.spec_text.specs.Spaces.{Names, FirstAt, here, later, AreDistinct, no_names, unnamed, a_name}
use Rattle.spec_text.specs.Numbers.{IsU32}
use Rattle.lexer.specs.Values.{magnitude_at}
use Rattle.lexer.proofs.Amounts.{capped_read, magnitude_is_read, found_u32}
use Rattle.spec_text.specs.FieldsOfBytes as N
use Rattle.text_resolve.specs.declared.refusal.ResolveFault.{ResolveFault}
use Rattle.text_resolve.specs.declared.refusal.ResolveFault.TheVariants.{UnknownName, RepeatedName, NumberRange, TooLarge, Broken, NoMemory}
use Rattle.text_resolve.specs.Outcome.{Fails}
use Rattle.text_resolve.specs.Lookup.{is_name, first_at, find, u32_at, all_stand_at}

abbrev Name : Type 0
Name = Option (List ℕ)

pub is_name-true : (id : List ℕ) (n : Name) → is_name id n ≡ true → n ≡ Some id
is_name-true id None e = absurd (cc)
is_name-true id (Some name) e = ap (λ (x : List ℕ). Some x) ((bytes_eq-Decides name id).0 e)

is_name-same : (id : List ℕ) (n : Name) → n ≡ Some id → is_name id n ≡ true
is_name-same id n e = ap (is_name id) e ∙ (bytes_eq-Decides id id).1 refl

pub is_name-false : (id : List ℕ) (n : Name) → n ≢ Some id → is_name id n ≡ false
is_name-false id n ne = by_test (is_name id n) refl
  where
    by_test : (b : Bool) → is_name id n ≡ b → is_name id n ≡ false
    by_test true e = absurd (ne (is_name-true id n e))
    by_test false e = e

differs : (id : List ℕ) (n : Name) → is_name id n ≡ false → n ≢ Some id
differs id n e f = absurd (let t = is_name-same id n f in cc)

pub first_is_found : {id : List ℕ} {ns : Names} {i : ℕ} → FirstAt id ns i → find id ns ≡ Some i
first_is_found {id} (here {n} {ns} e) = cond-true (is_name id n) (Some 0) _ (is_name-same id n e)
first_is_found {id} (later {n} {ns} {i} ne f) =
    cond-false (is_name id n) (Some 0) _ (is_name-false id n ne) ∙ ap (option_map (λ i. i + 1)) (first_is_found f) ∙ ap (λ (k : ℕ). Some k) (let s : i + 1 ≡ suc i = omega arith in s)

pub mapped : {X Y : Type 0} (f : X → Y) (o : Option X) (y : Y) → option_map f o ≡ Some y → (x : X) × (o ≡ Some x) × (f x ≡ y)
mapped f None y e = absurd (none-some y e)
mapped f (Some x) y e = (x, refl, same_Some (f x) y e)

pub picked : {X : Type 0} (b : Bool) (x y r : X) → cond b x y ≡ r → ((b ≡ true) × (x ≡ r)) ⊎ ((b ≡ false) × (y ≡ r))
picked true x y r e = inl (refl, e)
picked false x y r e = inr (refl, e)

pub found_is_first : (id : List ℕ) (ns : Names) (i : ℕ) → find id ns ≡ Some i → FirstAt id ns i
found_is_first id [] i e = absurd (none-some i e)
found_is_first id (n ∷ ns) i e = elim (picked (is_name id n) (Some 0) (option_map (λ i. i + 1) (find id ns)) (Some i) e) [
  | inl p ↦ subst (FirstAt id (n ∷ ns)) (same_Some 0 i p.1) (here (is_name-true id n p.0))
  | inr p ↦
      let m = mapped (λ (i : ℕ). i + 1) (find id ns) i p.1 in
      let s : suc m.0 ≡ i = omega (arith, m.2) in
      subst (FirstAt id (n ∷ ns)) s (later (differs id n p.0) (found_is_first id ns m.0 m.1))
]

pub not_found : (id : List ℕ) (ns : Names) → is_some (find id ns) ≡ false → (i : ℕ) → FirstAt id ns i → ⊥
not_found id ns e i f = absurd (let q : is_some (find id ns) ≡ true = ap is_some (first_is_found f) in cc)

-- ---- one more name at the end

pub find_unnamed : (id : List ℕ) (ns : Names) → find id (ns ++ None ∷ []) ≡ find id ns
find_unnamed id [] = refl
find_unnamed id (n ∷ ns) = ap (λ o. cond (is_name id n) (Some 0) (option_map (λ (i : ℕ). i + 1) o)) (find_unnamed id ns)

find_old : (id : List ℕ) (ns : Names) (m : Name) (i : ℕ) → find id ns ≡ Some i → find id (ns ++ m ∷ []) ≡ Some i
find_old id [] m i e = absurd (none-some i e)
find_old id (n ∷ ns) m i e = elim (picked (is_name id n) (Some 0) (option_map (λ i. i + 1) (find id ns)) (Some i) e) [
  | inl p ↦ cond-true (is_name id n) (Some 0) _ p.0 ∙ p.1
  | inr p ↦
      let q = mapped (λ (i : ℕ). i + 1) (find id ns) i p.1 in
      cond-false (is_name id n) (Some 0) _ p.0 ∙ ap (option_map (λ (i : ℕ). i + 1)) (find_old id ns m q.0 q.1) ∙ ap (λ (k : ℕ). Some k) q.2
]

find_last : (id : List ℕ) (ns : Names) (m : Name) → find id ns ≡ None → is_name id m ≡ true → find id (ns ++ m ∷ []) ≡ Some (length ns)
find_last id [] m e t = cond-true (is_name id m) (Some 0) _ t
find_last id (n ∷ ns) m e t = elim (picked (is_name id n) (Some 0) (option_map (λ i. i + 1) (find id ns)) None e) [
  | inl p ↦ absurd (none-some 0 (sym p.1))
  | inr p ↦
      cond-false (is_name id n) (Some 0) _ p.0 ∙ ap (option_map (λ (i : ℕ). i + 1)) (find_last id ns m (nothing (find id ns) p.1) t)
      ∙ ap (λ (k : ℕ). Some k) (let s : length ns + 1 ≡ suc (length ns) = omega arith in s)
]
  where
    nothing : (o : Option ℕ) → option_map (λ i. i + 1) o ≡ None → o ≡ None
    nothing None e = refl
    nothing (Some x) e = absurd (none-some (x + 1) (sym e))

find_other : (id : List ℕ) (ns : Names) (m : Name) → is_name id m ≡ false → find id (ns ++ m ∷ []) ≡ find id ns
find_other id [] m t = cond-false (is_name id m) (Some 0) None t
find_other id (n ∷ ns) m t = ap (λ o. cond (is_name id n) (Some 0) (option_map (λ (i : ℕ). i + 1) o)) (find_other id ns m t)

none_of : {X : Type 0} (o : Option X) → is_some o ≡ false → o ≡ None
none_of None e = refl
none_of (Some x) e = absurd (cc)

-- a name that is not there yet
pub find_put : (id : List ℕ) (ns : Names) (i : ℕ) → i ≡ length ns → is_some (find id ns) ≡ false → (q : List ℕ) → find q (ns ++ Some id ∷ []) ≡ cond (bytes_eq id q) (Some i) (find q ns)
find_put id ns i is new q = by_test (bytes_eq id q) refl
  where
    by_test : (b : Bool) → bytes_eq id q ≡ b → find q (ns ++ Some id ∷ []) ≡ cond (bytes_eq id q) (Some i) (find q ns)
    by_test true e =
        let same : id ≡ q = (bytes_eq-Decides id q).0 e in
        find_last q ns (Some id) (subst (λ (x : List ℕ). find x ns ≡ None) same (none_of (find id ns) new)) e ∙ ap (λ (k : ℕ). Some k) (sym is) ∙ sym (cond-true (bytes_eq id q) (Some i) (find q ns) e)
    by_test false e = find_other q ns (Some id) e ∙ sym (cond-false (bytes_eq id q) (Some i) (find q ns) e)

-- ---- names that differ

distinct_tail : {n : Name} {ns : Names} → AreDistinct (n ∷ ns) → AreDistinct ns
distinct_tail (unnamed d) = d
distinct_tail (a_name f d) = d

found_later : (id : List ℕ) (ls ms : Names) → (i : ℕ) × (find id (ls ++ Some id ∷ ms) ≡ Some i)
found_later id [] ms = (0, cond-true (is_name id (Some id)) (Some 0) _ (is_name-same id (Some id) refl))
found_later id (l ∷ ls) ms =
    let s = found_later id ls ms in
    choose s.0 s.1 (is_name id l) refl
  where
    choose : (j : ℕ) → find id (ls ++ Some id ∷ ms) ≡ Some j → (b : Bool) → is_name id l ≡ b → (i : ℕ) × (find id (l ∷ (ls ++ Some id ∷ ms)) ≡ Some i)
    choose j e true t = (0, cond-true (is_name id l) (Some 0) _ t)
    choose j e false t = (j + 1, cond-false (is_name id l) (Some 0) _ t ∙ ap (option_map (λ (i : ℕ). i + 1)) e)

first_gone : {n : Name} {ns : Names} → AreDistinct (n ∷ ns) → (id : List ℕ) → n ≡ Some id → (i : ℕ) → FirstAt id ns i → ⊥
first_gone (unnamed d) id e i f = absurd (none-some id e)
first_gone (a_name {id = name} {ns = ns} g d) id e i f = g i (subst (λ (x : List ℕ). FirstAt x ns i) (sym (same_Some name id e)) f)

was_some : (o : Option ℕ) → is_some (option_map (λ i. i + 1) o) ≡ true → is_some o ≡ true
was_some None e = e
was_some (Some x) e = refl

was_none : (o : Option ℕ) → is_some (option_map (λ i. i + 1) o) ≡ false → is_some o ≡ false
was_none None e = refl
was_none (Some x) e = e

-- a name that stands in front stands no more
pub repeated : (id : List ℕ) (ns ms : Names) → is_some (find id ns) ≡ true → AreDistinct (ns ++ Some id ∷ ms) → ⊥
repeated id [] ms e d = absurd (cc)
repeated id (n ∷ ns) ms e d = by_test (λ r. repeated id ns ms r (distinct_tail d)) (is_name id n) refl
  where
    by_test : (is_some (find id ns) ≡ true → ⊥) → (b : Bool) → is_name id n ≡ b → ⊥
    by_test again true t = let s = found_later id ns ms in first_gone d id (is_name-true id n t) s.0 (found_is_first id (ns ++ Some id ∷ ms) s.0 s.1)
    by_test again false t = again (was_some (find id ns) (ap is_some (sym (cond-false (is_name id n) (Some 0) (option_map (λ i. i + 1) (find id ns)) t)) ∙ e))

pub distinct_unnamed : (ns : Names) → AreDistinct ns → AreDistinct (ns ++ None ∷ [])
distinct_unnamed [] d = unnamed no_names
distinct_unnamed (None ∷ ns) (unnamed d) = unnamed (distinct_unnamed ns d)
distinct_unnamed (Some m ∷ ns) (a_name f d) = a_name (λ i g. f i (found_is_first m ns i (sym (find_unnamed m ns) ∙ first_is_found g))) (distinct_unnamed ns d)

pub distinct_put : (id : List ℕ) (ns : Names) → is_some (find id ns) ≡ false → AreDistinct ns → AreDistinct (ns ++ Some id ∷ [])
distinct_put id [] e d = a_name (λ i f. elim f [ ]) no_names
distinct_put id (None ∷ ns) e (unnamed d) = unnamed (distinct_put id ns (was_none (find id ns) e) d)
distinct_put id (Some m ∷ ns) e (a_name f d) = by_test (λ r. distinct_put id ns r d) (bytes_eq m id) refl
  where
    by_test : (is_some (find id ns) ≡ false → AreDistinct (ns ++ Some id ∷ [])) → (b : Bool) → bytes_eq m id ≡ b → AreDistinct (Some m ∷ (ns ++ Some id ∷ []))
    by_test again true t = absurd (let q : is_some (find id (Some m ∷ ns)) ≡ true = ap is_some (cond-true (bytes_eq m id) (Some 0) _ t) in cc)
    by_test again false t =
        let rest : is_some (find id ns) ≡ false = was_none (find id ns) (ap is_some (sym (cond-false (bytes_eq m id) (Some 0) (option_map (λ i. i + 1) (find id ns)) t)) ∙ e) in
        let other : is_name m (Some id) ≡ false = is_name-false m (Some id) (λ s. absurd (let u : bytes_eq m id ≡ true = (bytes_eq-Decides m id).1 (sym (same_Some id m s)) in cc)) in
        a_name (λ i g. f i (found_is_first m ns i (sym (find_other m ns (Some id) other) ∙ first_is_found g))) (again rest)

-- ---- integers

pub u32_found : (text : List ℕ) (n : ℕ) → IsU32 text n → u32_at text ≡ Some n
u32_found text n u = capped_read (2 ^ 32 - 1) n (magnitude_at text) (magnitude_is_read u.0) (omega (arith, u.1))

pub u32_is_found : (text : List ℕ) (n : ℕ) → u32_at text ≡ Some n → IsU32 text n
u32_is_found text n e = found_u32 text n (sym e)

pub u32_none : (text : List ℕ) → ((n : ℕ) → IsU32 text n → ⊥) → u32_at text ≡ None
u32_none text h = by_case (u32_at text) refl
  where
    by_case : (o : Option ℕ) → u32_at text ≡ o → o ≡ None
    by_case None e = refl
    by_case (Some n) e = absurd (h n (u32_is_found text n e))

-- ---- as far as a loop has come

pub one_more : {X Y : Type 0} (f : X → Y) (xs : List X) (i : ℕ) (d x : X) → i < length xs → get_or xs i d ≡ x → map f (take (i + 1) xs) ≡ map f (take i xs) ++ f x ∷ []
one_more f xs i d x l e = ap (map f) (take_more xs i d l ∙ ap (λ y. take i xs ++ y ∷ []) e) ∙ map-append f (take i xs) (x ∷ [])

pub next_name : {X : Type 0} (f : X → Name) (xs : List X) (i : ℕ) (d x : X) → i < length xs → get_or xs i d ≡ x → (ms : Names) × (map f xs ≡ map f (take i xs) ++ f x ∷ ms)
next_name f xs i d x l e = (
  map f (drop (i + 1) xs),
  ap (map f) (sym (take-append-drop (i + 1) xs)) ∙ map-append f (take (i + 1) xs) (drop (i + 1) xs) ∙ ap (λ ns. ns ++ map f (drop (i + 1) xs)) (one_more f xs i d x l e)
      ∙ append_assoc (map f (take i xs)) (f x ∷ []) (map f (drop (i + 1) xs)),
)

pub taken_length : {X Y : Type 0} (f : X → Y) (xs : List X) (i : ℕ) → i ≤ length xs → length (map f (take i xs)) ≡ i
taken_length f xs i l = length-map (take i xs) f ∙ length-take-le i xs l

abbrev pub front : List ℕ → Option (List ℕ) → Option (List ℕ)
front ys o = option_map (λ zs. ys ++ zs) o

pub front_none : (o : Option (List ℕ)) (ys : List ℕ) → ys ≡ [] → o ≡ front ys o
front_none None ys e = refl
front_none (Some zs) ys e = ap (λ l. Some (l ++ zs)) (sym e)

front_push : (ys : List ℕ) (y : ℕ) (o : Option (List ℕ)) → front ys (option_map (λ zs. y ∷ zs) o) ≡ front (ys ++ y ∷ []) o
front_push ys y None = refl
front_push ys y (Some zs) = ap (λ l. Some l) (sym (append_assoc ys (y ∷ []) zs))

-- the numbers so far, and those of the rest
module _ {X : Type 0} (f : X → N.Index) (one : N.Index → Option ℕ) (xs : List X) (i : ℕ) (d : X) (ys : List ℕ) (lt : i < length xs)
    (so_far : all_stand_at one (map f xs) ≡ front ys (all_stand_at one (map f (drop i xs)))) where
  rest_is : drop i xs ≡ get_or xs i d ∷ drop (i + 1) xs
  rest_is = drop_more xs i d lt

  pub number_more : (x : X) (y : ℕ) (zs : List ℕ) → get_or xs i d ≡ x → one (f x) ≡ Some y → zs ≡ ys ++ y ∷ [] → all_stand_at one (map f xs) ≡ front zs (all_stand_at one (map f (drop (i + 1) xs)))
  number_more x y zs e h p =
      let step : all_stand_at one (map f (drop i xs)) ≡ option_map (λ ns. y ∷ ns) (all_stand_at one (map f (drop (i + 1) xs))) =
      ap (λ l. all_stand_at one (map f l)) (rest_is ∙ ap (λ v. v ∷ drop (i + 1) xs) e) ∙ ap (option_and_then (λ n. option_map (λ ns. n ∷ ns) (all_stand_at one (map f (drop (i + 1) xs))))) h in
      so_far ∙ ap (front ys) step ∙ front_push ys y (all_stand_at one (map f (drop (i + 1) xs))) ∙ ap (λ l. front l (all_stand_at one (map f (drop (i + 1) xs)))) (sym p)

  pub number_none : (x : X) → get_or xs i d ≡ x → one (f x) ≡ None → all_stand_at one (map f xs) ≡ None
  number_none x e h =
      let step : all_stand_at one (map f (drop i xs)) ≡ None =
      ap (λ l. all_stand_at one (map f l)) (rest_is ∙ ap (λ v. v ∷ drop (i + 1) xs) e) ∙ ap (option_and_then (λ n. option_map (λ ns. n ∷ ns) (all_stand_at one (map f (drop (i + 1) xs))))) h in
      so_far ∙ ap (front ys) step

-- a refusal handed on
pub hand_on : {X Y : Type 0} (e : ResolveFault) (r : Option X) (q : Option Y) → (r ≡ None → q ≡ None) → Fails e r → Fails e q
hand_on NoMemory r q f h = tt
hand_on Broken r q f h = f h
hand_on (UnknownName at) r q f h = f h
hand_on (RepeatedName at) r q f h = f h
hand_on (NumberRange at) r q f h = f h
hand_on (TooLarge limit) r q f h = f h

-- ---- the first place, as far as a loop has come

abbrev pub shifted : ℕ → Option ℕ → Option ℕ
shifted n o = option_map (λ i. i + n) o

pub not_shifted : (o : Option ℕ) → o ≡ shifted 0 o
not_shifted None = refl
not_shifted (Some i) = ap (λ (k : ℕ). Some k) (let e : i ≡ i + 0 = omega arith in e)

twice : (n : ℕ) (o : Option ℕ) → shifted n (option_map (λ i. i + 1) o) ≡ shifted (n + 1) o
twice n None = refl
twice n (Some i) = ap (λ (k : ℕ). Some k) (let e : (i + 1) + n ≡ i + (n + 1) = omega arith in e)

module _ {X Y : Type 0} (p : Y → Bool) (f : X → Y) (xs : List X) (i : ℕ) (d : X) (n : ℕ) (whole : Option ℕ) (lt : i < length xs)
    (so_far : whole ≡ shifted n (first_at p (map f (drop i xs)))) (x : X) (at : get_or xs i d ≡ x) where
  here_is : map f (drop i xs) ≡ f x ∷ map f (drop (i + 1) xs)
  here_is = ap (map f) (drop_more xs i d lt) ∙ ap (λ v. f v ∷ map f (drop (i + 1) xs)) at

  pub first_here : p (f x) ≡ true → whole ≡ Some n
  first_here t =
      so_far ∙ ap (λ l. shifted n (first_at p l)) here_is ∙ ap (shifted n) (cond-true (p (f x)) (Some 0) (option_map (λ i. i + 1) (first_at p (map f (drop (i + 1) xs)))) t)
      ∙ ap (λ (k : ℕ). Some k) (let e : 0 + n ≡ n = omega arith in e)

  pub first_later : p (f x) ≡ false → whole ≡ shifted (n + 1) (first_at p (map f (drop (i + 1) xs)))
  first_later t =
      so_far ∙ ap (λ l. shifted n (first_at p l)) here_is ∙ ap (shifted n) (cond-false (p (f x)) (Some 0) (option_map (λ i. i + 1) (first_at p (map f (drop (i + 1) xs)))) t)
      ∙ twice n (first_at p (map f (drop (i + 1) xs)))

pub none_left : {X Y : Type 0} (p : Y → Bool) (f : X → Y) (xs : List X) (i n : ℕ) (whole : Option ℕ) → length xs ≤ i → whole ≡ shifted n (first_at p (map f (drop i xs))) → whole ≡ None
none_left p f xs i n whole l e = e ∙ ap (λ ys. shifted n (first_at p (map f ys))) (drop_of_length-le xs l)

-- ---- ranges

pub each_below : (limit : ℕ) (xs : List ℕ) → ((i d : ℕ) → i < length xs → get_or xs i d < limit) → list_all (λ n. nat_lt n limit) xs ≡ true
each_below limit [] h = refl
each_below limit (x ∷ xs) h =
    both (nat_lt x limit) (list_all (λ n. nat_lt n limit) xs) (lt-ltb x limit (h 0 0 (omega arith))) (each_below limit xs (λ i d l. h (suc i) d (omega arith)))
