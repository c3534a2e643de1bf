-- Readers of readers: what is read is spelled so, and what is spelled so is read.
use Rattle.std.proofs.Common.{◌≡◌, ℕ, ◌<◌, true, false, cond, eqb, leb, List, [], ◌∷◌, ◌++◌, length, take, drop, Some, None, refl, sym, ap, ap₂, subst, ◌∙◌, arith, append_assoc, length-append}
use Rattle.std.proofs.lemmas.Bool.{eqb-true, leb-true, le-leb}
use Rattle.std.proofs.lemmas.Option.{some_pair_parts}
use Rattle.std.proofs.lemmas.List.{take-append-drop}
use Rattle.std.proofs.Math.Seq.{take-append_seam, drop-append_seam}
use Rattle.std.proofs.Common.{length-take}
use Rattle.spec_modules.specs.Language.{Language, byte, run, ◌⨾◌}
use Rattle.spec_modules.specs.Leb.{unsigned}
use Rattle.spec_modules.specs.Grammar.{vector, sized}
use Rattle.spec_modules.specs.Reading.{Read}
use Rattle.spec_modules.specs.NumberLaws.{Found, kept, unsigned_takes, unsigned_again}
use Rattle.laws_modules.specs.Readers.{Reads, Any, bind_then, map_then, same_some, fst_is, snd_is, byte_takes, byte_again, join_found, seam, front_byte}
use Rattle.laws_modules.specs.ReadingModules.{after_at, both_at, made_at, tagged_at, given_at, sized_at, if_empty, whole_at, inside_at}

-- the same reader, said otherwise
pub same_reads : {X : Type 0} {P Q : X → Type 0} {F G : X → Language} {r : List ℕ → Read X} → Reads P P F r
    → ((x : X) → P x → Q x) → ((x : X) → Q x → P x) → ((x : X) (a : List ℕ) → F x a → G x a) → ((x : X) (a : List ℕ) → G x a → F x a) → Reads Q Q G r
same_reads h pq qp fg gf = record {
  takes = λ bs x rest e. let t = h.takes bs x rest e in ((t.0.0, t.0.1, fg x t.0.0 t.0.2), pq x t.1);
  again = λ x a rest q s. h.again x a rest (qp x q) (gf x a s);
}

pub after_reads : {X : Type 0} {P : X → Type 0} {F : X → Language} {r : List ℕ → Read X} (k : ℕ) → Reads P P F r → Reads P P (λ x. byte k ⨾ F x) (after_at k r)
after_reads {X} {P} {F} {r} k h = record {
  takes = λ bs x rest e. bind_then _ _ _ e (λ mid b f.
      let t = h.takes mid x rest f in
      ((k ∷ t.0.0, byte_takes k bs mid b ∙ ap (λ l. k ∷ l) t.0.1, (k ∷ [], t.0.0, refl, refl, t.0.2)), t.1));
  again = λ x a rest p s.
      let b = front_byte k (F x) a rest s in
      ap (after_at k r) b.2 ∙ rw (byte_again k (b.0 ++ rest)) (h.again x b.0 rest p b.1);
}

pub both_reads : {X Y : Type 0} {P : X → Type 0} {Q : Y → Type 0} {F : X → Language} {G : Y → Language} {r : List ℕ → Read X} {s : List ℕ → Read Y} → Reads P P F r → Reads Q Q G s
    → Reads (λ p. P p.0 × Q p.1) (λ p. P p.0 × Q p.1) (λ p. F p.0 ⨾ G p.1) (both_at r s)
both_reads {X} {Y} {P} {Q} {F} {G} {r} {s} h g = record {
  takes = λ bs p rest e. bind_then _ _ _ e (λ x a e. map_then _ _ _ e (λ y b q.
      let t = h.takes bs x.0 x.1 a in
      let u = g.takes x.1 y.0 y.1 b in
      let same = fst_is _ _ q in
      let Both : X × Y → Type 0 = λ z. ((F z.0 ⨾ G z.1) (t.0.0 ++ u.0.0)) × (P z.0 × Q z.1) in
      let w = subst Both same ((t.0.0, u.0.0, refl, t.0.2, u.0.2), (t.1, u.1)) in
      ((t.0.0 ++ u.0.0, join_found bs x.1 rest t.0.0 u.0.0 t.0.1 (u.0.1 ∙ ap (λ l. u.0.0 ++ l) (snd_is _ _ q)), w.0), w.1)));
  again = λ p a rest q c.
      ap (both_at r s) (seam a c.0 c.1 rest c.2) ∙ rw (h.again p.0 c.0 (c.1 ++ rest) q.0 c.3, g.again p.1 c.1 rest q.1 c.4) refl;
}

pub made_reads : {X Y : Type 0} {P : X → Type 0} {F : X → Language} {r : List ℕ → Read X} (make : X → Y) (parts : Y → X) → ((y : Y) → make (parts y) ≡ y) → ((x : X) → parts (make x) ≡ x)
    → Reads P P F r → Reads (λ y. P (parts y)) (λ y. P (parts y)) (λ y. F (parts y)) (made_at make r)
made_reads {X} {Y} {P} {F} {r} make parts there back h = record {
  takes = λ bs y rest e. map_then _ _ _ e (λ x a q.
      let t = h.takes bs x.0 x.1 a in
      let same : x.0 ≡ parts y = sym (back x.0) ∙ ap parts (fst_is _ _ q) in
      let Both : X → Type 0 = λ z. F z t.0.0 × P z in
      let w = subst Both same (t.0.2, t.1) in
      ((t.0.0, t.0.1 ∙ ap (λ l. t.0.0 ++ l) (snd_is _ _ q), w.0), w.1));
  again = λ y a rest p s. rw (h.again (parts y) a rest p s) (ap (λ z. Some (z, rest)) (there y));
}

-- ---- tags

pub tagged_takes : {X : Type 0} (F : X → Language) (k : ℕ) (r other : List ℕ → Read X)
    → ((bs : List ℕ) (x : X) (rest : List ℕ) → r bs ≡ Some (x, rest) → (a : List ℕ) × (bs ≡ a ++ rest) × F x (k ∷ a))
    → ((bs : List ℕ) (x : X) (rest : List ℕ) → other bs ≡ Some (x, rest) → Found F bs x rest)
    → (bs : List ℕ) (x : X) (rest : List ℕ) → tagged_at k r other bs ≡ Some (x, rest) → Found F bs x rest
tagged_takes F k r other one more [] x rest e = absurd cc
tagged_takes F k r other one more (b ∷ bs) x rest e =
    elim (eqb b k) as (λ t. eqb b k ≡ t → cond t (r bs) (other (b ∷ bs)) ≡ Some (x, rest) → Found F (b ∷ bs) x rest) [
      | true ↦ λ q f. let t = one bs x rest f in (k ∷ t.0, ap₂ (λ y l. y ∷ l) (eqb-true b k q) t.1, t.2)
      | false ↦ λ q f. more (b ∷ bs) x rest f
    ] refl e

-- a constructor behind its tag
pub made_case : {X Y : Type 0} {P : Y → Type 0} {G : Y → Language} {s : List ℕ → Read Y} (F : X → Language) (k : ℕ) (make : Y → X) → Reads P P G s → ((y : Y) (a : List ℕ) → (byte k ⨾ G y) a → F (make y) a)
    → (bs : List ℕ) (x : X) (rest : List ℕ) → made_at make s bs ≡ Some (x, rest) → (a : List ℕ) × (bs ≡ a ++ rest) × F x (k ∷ a)
made_case F k make h fits bs x rest e = map_then _ _ _ e (λ y b q.
    let t = h.takes bs y.0 y.1 b in
    (t.0.0, t.0.1 ∙ ap (λ l. t.0.0 ++ l) (snd_is _ _ q), subst (λ z. F z (k ∷ t.0.0)) (fst_is _ _ q) (fits y.0 (k ∷ t.0.0) (k ∷ [], t.0.0, refl, refl, t.0.2))))

-- a value that is its tag
pub given_case : {X : Type 0} (F : X → Language) (k : ℕ) (y : X) → F y (k ∷ []) → (bs : List ℕ) (x : X) (rest : List ℕ) → given_at y bs ≡ Some (x, rest) → (a : List ℕ) × (bs ≡ a ++ rest) × F x (k ∷ a)
given_case F k y fits bs x rest e =
    let q = some_pair_parts y x bs rest e in
    ([], q.1, subst (λ z. F z (k ∷ [])) q.0 fits)

pub none_case : {X : Type 0} (F : X → Language) (bs : List ℕ) (x : X) (rest : List ℕ) → ◌≡◌ {A = Read X} None (Some (x, rest)) → Found F bs x rest
none_case F bs x rest e = absurd cc

-- ---- sizes

pub sized_takes : (bs x rest : List ℕ) → sized_at bs ≡ Some (x, rest) → (a : List ℕ) × (bs ≡ a ++ (x ++ rest)) × unsigned 32 (length x) a
unfolding sized_at
sized_takes bs x rest e = bind_then _ _ _ e (λ n h e.
    let f = unsigned_takes 32 bs n.0 n.1 h in
    let k = kept (leb n.0 (length n.1)) (Some (take n.0 n.1, drop n.0 n.1)) (x, rest) e in
    let q = some_pair_parts (take n.0 n.1) x (drop n.0 n.1) rest k.1 in
    let le = leb-true n.0 (length n.1) k.0 in
    let len : n.0 ≡ length x = omega (arith, length-take n.0 n.1, ap length q.0) in
    (f.0, f.1 ∙ ap (λ l. f.0 ++ l) (sym (take-append-drop n.0 n.1) ∙ ap₂ (λ y z. y ++ z) q.0 q.1), subst (λ m. unsigned 32 m f.0) len f.2))

pub sized_again : (a x rest : List ℕ) → unsigned 32 (length x) a → sized_at (a ++ (x ++ rest)) ≡ Some (x, rest)
unfolding sized_at
sized_again a x rest u =
    let fits = le-leb (length x) (length (x ++ rest)) (omega (arith, length-append x rest)) in
    rw (unsigned_again 32 a (length x) (x ++ rest) u, fits, take-append_seam x rest, drop-append_seam x rest) refl

pub some_byte : (bits n : ℕ) (a : List ℕ) → unsigned bits n a → 0 < length a
some_byte bits n [] u = absurd u
some_byte bits n (b ∷ a) u = omega arith

pub sized_shorter : (bs x rest : List ℕ) → sized_at bs ≡ Some (x, rest) → length rest < length bs
sized_shorter bs x rest e =
    let t = sized_takes bs x rest e in
    omega (arith, some_byte 32 (length x) t.0 t.2, ap length t.1, length-append t.0 (x ++ rest), length-append x rest)

pub empty_then : {X R : Type 0} (x : X) (bs : List ℕ) (y : X) → if_empty x bs ≡ Some y → (x ≡ y → bs ≡ [] → R) → R
empty_then x [] y e k = k (same_some x y e) refl
empty_then x (b ∷ bs) y e k = absurd cc

pub append_nil : (l : List ℕ) → l ++ [] ≡ l
append_nil [] = refl
append_nil (x ∷ l) = ap (λ k. x ∷ k) (append_nil l)

pub whole_takes : {X : Type 0} {P : X → Type 0} {F : X → Language} {r : List ℕ → Read X} → Reads P P F r → (bs : List ℕ) (x : X) → whole_at r bs ≡ Some x → F x bs × P x
whole_takes {X} {P} {F} h bs x e = bind_then _ _ _ e (λ s b e. empty_then s.0 s.1 x e (λ p q.
    let t = h.takes bs s.0 s.1 b in
    let all : t.0.0 ≡ bs = sym (t.0.1 ∙ ap (λ l. t.0.0 ++ l) q ∙ append_nil t.0.0) in
    let Both : X → Type 0 = λ z. F z bs × P z in
    subst Both p (subst (F s.0) all t.0.2, t.1)))

pub whole_again : {X : Type 0} {P : X → Type 0} {F : X → Language} {r : List ℕ → Read X} → Reads P P F r → (bs : List ℕ) (x : X) → P x → F x bs → whole_at r bs ≡ Some x
whole_again {X} {P} {F} {r} h bs x p s =
    let e : r bs ≡ Some (x, []) = ap r (sym (append_nil bs)) ∙ h.again x bs [] p s in
    rw e refl

pub inside_reads : {X : Type 0} {P : X → Type 0} {F : X → Language} {r : List ℕ → Read X} → Reads P P F r → Reads P P (λ x. sized (F x)) (inside_at r)
inside_reads {X} {P} {F} {r} h = record {
  takes = λ bs x rest e. bind_then _ _ _ e (λ s b e. map_then _ _ _ e (λ y c q.
      let t = sized_takes bs s.0 s.1 b in
      let w = whole_takes h s.0 y c in
      let Both : X → Type 0 = λ z. F z s.0 × P z in
      let v = subst Both (fst_is _ _ q) w in
      ((t.0 ++ s.0, t.1 ∙ sym (append_assoc t.0 s.0 s.1) ∙ ap (λ l. (t.0 ++ s.0) ++ l) (snd_is _ _ q), (t.0, s.0, refl, t.2, v.0)), v.1)));
  again = λ x a rest p s.
      ap (inside_at r) (seam a s.0 s.1 rest s.2) ∙ rw (sized_again s.0 s.1 rest s.3, whole_again h s.1 x p s.4) refl;
}

-- ---- bytes

run_byte : (n a : List ℕ) → run byte n a → a ≡ n
run_byte [] a s = s
run_byte (x ∷ n) a s = s.2 ∙ ap₂ (λ y z. y ++ z) s.3 (run_byte n s.1 s.4)

byte_run : (n : List ℕ) → run byte n n
byte_run [] = refl
byte_run (x ∷ n) = (x ∷ [], n, refl, refl, byte_run n)

-- a vector of bytes
pub bytes_reads : Reads Any Any (vector byte) sized_at
bytes_reads = record {
  takes = λ bs x rest e.
      let t = sized_takes bs x rest e in
      ((t.0 ++ x, t.1 ∙ sym (append_assoc t.0 x rest), (t.0, x, refl, t.2, byte_run x)), tt);
  again = λ x a rest p s.
      let same : s.1 ≡ x = run_byte x s.1 s.4 in
      ap sized_at (seam a s.0 s.1 rest s.2 ∙ ap (λ l. s.0 ++ (l ++ rest)) same) ∙ sized_again s.0 x rest s.3;
}
