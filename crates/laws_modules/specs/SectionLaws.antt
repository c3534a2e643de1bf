-- Sections with custom ones between them: what is read is spelled so, and what is spelled so is read.
use Rattle.std.proofs.Common.{◌≡◌, ℕ, zero, suc, ◌<◌, ◌≤◌, ◌⊎◌, true, false, cond, eqb, List, [], ◌∷◌, ◌++◌, length, Option, Some, None, refl, sym, ap, ap₂, subst, ◌∙◌, ⊎_elim, inl, inr, arith, append_assoc}
use Rattle.std.specs.Prelude.{option_map, ⊤}
use Rattle.std.proofs.lemmas.Bool.{eqb-true, eqb-false, eq-eqb, ne_eqb}
use Rattle.std.proofs.lemmas.Option.{some_pair_parts}
use Rattle.spec_modules.specs.Syntax.{Name}
use Rattle.spec_modules.specs.Language.{Language, ◌⨾◌}
use Rattle.spec_modules.specs.Grammar.{section, custom, customs, times}
use Rattle.spec_modules.specs.Reading.{Read, ◌>>=◌}
use Rattle.spec_modules.specs.NumberLaws.{chosen}
use Rattle.laws_modules.specs.Readers.{Reads, bind_then, map_then, same_some, fst_is, snd_is, seam, join_found}
use Rattle.laws_modules.specs.ReadingModules.{sized_at, name_at, inside_at, skip_at, skip, slot_at}
use Rattle.laws_modules.specs.ReaderLaws.{sized_takes, sized_again, sized_shorter, inside_reads}
use Rattle.laws_modules.specs.ItemLaws.{name_reads}

-- ---- custom sections

custom_spelled : (bs x rest : List ℕ) (n : Name) (more : List ℕ) → sized_at bs ≡ Some (x, rest) → name_at x ≡ Some (n, more) → (a : List ℕ) × (0 ∷ bs ≡ a ++ rest) × custom a
custom_spelled bs x rest n more e f =
    let t = sized_takes bs x rest e in
    let m = (name_reads.takes x n more f).0 in (
      0 ∷ (t.0 ++ x),
      ap (λ l. 0 ∷ l) (t.1 ∙ sym (append_assoc t.0 x rest)),
      (0 ∷ [], t.0 ++ x, refl, refl, (t.0, x, refl, t.2, (n, (m.0, more, m.1, m.2, tt)))),
    )

customs_none : customs []
customs_none = (0, refl)

customs_more : (a b : List ℕ) → custom a → customs b → customs (a ++ b)
customs_more a b c cs = (suc cs.0, (a, b, refl, c, cs.1))

-- what is skipped is custom sections, and no custom section is left in front
abbrev pub Stopped : List ℕ → Type 0
Stopped [] = ⊤
Stopped (b ∷ bs) = b ≡ 0 → ⊥

pub skip_takes : (n : ℕ) (bs rest : List ℕ) → length bs ≤ n → skip_at n bs ≡ Some rest → (c : List ℕ) × (bs ≡ c ++ rest) × customs c × Stopped rest
unfolding skip_at
skip_takes zero [] rest le e = let q : [] ≡ rest = cc in ([], q, customs_none, subst Stopped q tt)
skip_takes zero (b ∷ bs) rest le e = absurd (omega arith)
skip_takes (suc n) [] rest le e = let q : [] ≡ rest = cc in ([], q, customs_none, subst Stopped q tt)
skip_takes (suc n) (b ∷ bs) rest le e =
    elim (eqb b 0) as (λ t. eqb b 0 ≡ t → cond t (sized_at bs >>= λ s. name_at s.0 >>= λ m. skip_at n s.1) (Some (b ∷ bs)) ≡ Some rest
    → (c : List ℕ) × (b ∷ bs ≡ c ++ rest) × customs c × Stopped rest) [
      | true ↦ λ q f. bind_then _ _ _ f (λ s h g. bind_then _ _ _ g (λ m h2 g.
          let shorter = sized_shorter bs s.0 s.1 h in
          let t = skip_takes n s.1 rest (omega (arith, shorter)) g in
          let c = custom_spelled bs s.0 s.1 m.0 m.1 h h2 in
          (c.0 ++ t.0, ap (λ x. x ∷ bs) (eqb-true b 0 q) ∙ join_found (0 ∷ bs) s.1 rest c.0 t.0 c.1 t.1, customs_more c.0 t.0 c.2 t.2, t.3)))
      | false ↦ λ q f. let same = same_some (b ∷ bs) rest f in ([], same, customs_none, subst Stopped same (eqb-false b 0 q))
    ] refl e

same_from : {X Y : Type 0} (o : Option X) (f g : X → Option Y) → ((s : X) → o ≡ Some s → f s ≡ g s) → (o >>= f) ≡ (o >>= g)
same_from None f g h = refl
same_from (Some s) f g h = h s refl

-- more turns than bytes change nothing
skip_enough : (n m : ℕ) (bs : List ℕ) → length bs ≤ n → length bs ≤ m → skip_at n bs ≡ skip_at m bs
unfolding skip_at
skip_enough zero zero bs p q = refl
skip_enough zero (suc m) [] p q = refl
skip_enough zero (suc m) (b ∷ bs) p q = absurd (omega arith)
skip_enough (suc n) zero [] p q = refl
skip_enough (suc n) zero (b ∷ bs) p q = absurd (omega arith)
skip_enough (suc n) (suc m) [] p q = refl
skip_enough (suc n) (suc m) (b ∷ bs) p q =
    ap (λ o. cond (eqb b 0) o (Some (b ∷ bs)))
    (same_from (sized_at bs) _ _ (λ s e. same_from (name_at s.0) _ _ (λ x e2.
    let h = sized_shorter bs s.0 s.1 e in skip_enough n m s.1 (omega (arith, h)) (omega (arith, h)))))

-- one custom section at the front is skipped
skip_one : (c rest : List ℕ) → custom c → skip (c ++ rest) ≡ skip rest
unfolding skip_at
skip_one c rest s =
    let z = s.4 in
    let x = z.1 in
    let nm = z.4 in
    let e : c ++ rest ≡ 0 ∷ (z.0 ++ (x ++ rest)) = seam c s.0 s.1 rest s.2 ∙ ap (λ l. l ++ (s.1 ++ rest)) s.3 ∙ ap (λ l. 0 ∷ l) (seam s.1 z.0 x rest z.2) in
    let h = sized_again z.0 x rest z.3 in
    let k : name_at x ≡ Some (nm.0, nm.1.1) = ap name_at nm.1.2 ∙ name_reads.again nm.0 nm.1.0 nm.1.1 tt nm.1.3 in
    let bs = z.0 ++ (x ++ rest) in
    let shorter = sized_shorter bs x rest h in
    ap skip e ∙ rw (h, k) (skip_enough (length bs) (length rest) rest (omega (arith, shorter)) (omega arith))

pub skip_over : (k : ℕ) (c rest : List ℕ) → times k custom c → skip (c ++ rest) ≡ skip rest
skip_over zero c rest s = ap (λ l. skip (l ++ rest)) s
skip_over (suc k) c rest s = ap skip (seam c s.0 s.1 rest s.2) ∙ skip_one s.0 (s.1 ++ rest) s.3 ∙ skip_over k s.1 rest s.4

pub skip_all : (c : List ℕ) → customs c → skip c ≡ Some []
unfolding skip_at
skip_all c s = ap skip (sym (append_nil c)) ∙ skip_over s.0 c [] s.1
  where
    append_nil : (l : List ℕ) → l ++ [] ≡ l
    append_nil [] = refl
    append_nil (x ∷ l) = ap (λ k. x ∷ k) (append_nil l)

stopped_skip : (r : List ℕ) → Stopped r → skip r ≡ Some r
unfolding skip_at
stopped_skip [] h = refl
stopped_skip (b ∷ bs) h = rw (ne_eqb b 0 h) refl

-- ---- slots

-- the bytes begin with a section of a higher id, or end
abbrev pub Above : ℕ → List ℕ → Type 0
Above id [] = ⊤
Above id (b ∷ bs) = id < b

-- behind its custom sections, what has T begins with a section of a higher id
abbrev pub Opens : ℕ → Language → Type 0
Opens id T = (t : List ℕ) → T t → (r : List ℕ) × (skip t ≡ Some r) × Above id r

-- the section of this id, or nothing for the absent value
abbrev pub slot : {X : Type 0} → ℕ → (X → Language) → X → X → Language
slot id F absent x bytes = ((bytes ≡ []) × (absent ≡ x)) ⊎ section id (F x) bytes

pub customs_open : (id : ℕ) → Opens id customs
customs_open id t s = ([], skip_all t s, tt)

module _ {X : Type 0} {P : X → Type 0} {F : X → Language} {r : List ℕ → Read X} (h : Reads P P F r) (id : ℕ) (some : 0 < id) (absent : X) where
  pub slot_opens : (T : Language) (x : X) (low : ℕ) → low < id → Opens id T → Opens low (customs ⨾ slot id F absent x ⨾ T)
  slot_opens T x low lt opens t s =
      let q = s.4 in
      rest_of t q.0 q.1 (ap skip (s.2 ∙ ap (λ l. s.0 ++ l) q.2) ∙ skip_over s.3.0 s.0 (q.0 ++ q.1) s.3.1) q.3 (opens q.1 q.4)
    where
      rest_of : (t c u : List ℕ) → skip t ≡ skip (c ++ u) → slot id F absent x c → (r : List ℕ) × (skip u ≡ Some r) × Above id r → (r : List ℕ) × (skip t ≡ Some r) × Above low r
      rest_of t c u over (inl none) o = (o.0, over ∙ ap (λ l. skip (l ++ u)) none.0 ∙ o.1, lower o.0 o.2)
        where
          lower : (r : List ℕ) → Above id r → Above low r
          lower [] a = tt
          lower (b ∷ bs) a = omega (arith, a)
      rest_of t c u over (inr one) o =
          let e : c ++ u ≡ id ∷ (one.1 ++ u) = seam c one.0 one.1 u one.2 ∙ ap (λ l. l ++ (one.1 ++ u)) one.3 in
          (id ∷ (one.1 ++ u), over ∙ ap skip e ∙ stopped_skip (id ∷ (one.1 ++ u)) (λ z. omega (arith, z)), lt)

  -- a slot that is spelled so is read, and leaves what is behind the custom sections of the tail
  pub slot_again : (T : Language) (x : X) → P x → Opens id T → (t : List ℕ) → (customs ⨾ slot id F absent x ⨾ T) t
      → (u : List ℕ) × (b : List ℕ) × (v : List ℕ) × T u × (skip t ≡ Some b) × (skip u ≡ Some v) × (slot_at id r absent b ≡ Some (x, v))
  unfolding slot_at
  slot_again T x p opens t s =
      let q = s.4 in
      go t q.0 q.1 (ap skip (s.2 ∙ ap (λ l. s.0 ++ l) q.2) ∙ skip_over s.3.0 s.0 (q.0 ++ q.1) s.3.1) q.3 q.4 (opens q.1 q.4)
    where
      lacks : (v : List ℕ) → Above id v → slot_at id r absent v ≡ Some (absent, v)
      lacks [] a = refl
      lacks (b ∷ bs) a = rw (ne_eqb b id (λ e. omega (arith, e, a))) refl

      go : (t c u : List ℕ) → skip t ≡ skip (c ++ u) → slot id F absent x c → T u → (v : List ℕ) × (skip u ≡ Some v) × Above id v
          → (u : List ℕ) × (b : List ℕ) × (v : List ℕ) × T u × (skip t ≡ Some b) × (skip u ≡ Some v) × (slot_at id r absent b ≡ Some (x, v))
      go t c u over (inl none) tail o =
          (u, o.0, o.0, tail, over ∙ ap (λ l. skip (l ++ u)) none.0 ∙ o.1, o.1, lacks o.0 o.2 ∙ ap (λ y. Some (y, o.0)) none.1)
      go t c u over (inr one) tail o =
          let z = one.1 ++ u in
          let e : c ++ u ≡ id ∷ z = seam c one.0 one.1 u one.2 ∙ ap (λ l. l ++ z) one.3 in
          let k = (inside_reads h).again x one.1 u p one.4 in (
            u,
            id ∷ z,
            o.0,
            tail,
            over ∙ ap skip e ∙ stopped_skip (id ∷ z) (λ y. omega (arith, y)),
            o.1,
            rw (eq-eqb id id refl, k, o.1) refl,
          )

-- a slot that is read is spelled so, with the custom sections behind it
pub slot_takes : {X : Type 0} {P Q : X → Type 0} {F : X → Language} {r : List ℕ → Read X} (h : Reads P P F r) (weak : (x : X) → P x → Q x) (id : ℕ) (absent : X) (holds : Q absent)
    (b : List ℕ) (x : X) (v : List ℕ) → slot_at id r absent b ≡ Some (x, v) → (c : List ℕ) × (d : List ℕ) × (b ≡ c ++ (d ++ v)) × slot id F absent x c × customs d × Q x
unfolding slot_at
slot_takes {X} {P} {Q} {F} {r} h weak id absent holds [] x v e =
    let q = some_pair_parts absent x [] v e in
    ([], [], q.1, inl (refl, q.0), customs_none, subst Q q.0 holds)
slot_takes {X} {P} {Q} {F} {r} h weak id absent holds (b ∷ bs) x v e =
    let o : Read X = inside_at r bs >>= λ y. option_map (λ rest. (y.0, rest)) (skip y.1) in
    let p : Read X = Some (absent, b ∷ bs) in
    ⊎_elim
    (λ q. bind_then _ _ _ q.1 (λ y k g. map_then _ _ _ g (λ rest k2 w.
    let t = (inside_reads h).takes bs y.0 y.1 k in
    let m = skip_takes (length y.1) y.1 rest (omega arith) k2 in
    let S : X → Type 0 = λ z. slot id F absent z (id ∷ t.0.0) × Q z in
    let both = subst S (fst_is _ _ w) (inr (id ∷ [], t.0.0, refl, refl, t.0.2), weak y.0 t.1) in (
      id ∷ t.0.0,
      m.0,
      ap₂ (λ a l. a ∷ l) (eqb-true b id q.0) (t.0.1 ∙ ap (λ l. t.0.0 ++ l) (m.1 ∙ ap (λ l. m.0 ++ l) (snd_is _ _ w))),
      both.0,
      m.2,
      both.1,
    ))))
    (λ q.
    let w = some_pair_parts absent x (b ∷ bs) v q.1 in
    ([], [], w.1, inl (refl, w.0), customs_none, subst Q w.0 holds))
    (chosen (eqb b id) o p (Some (x, v)) e)
