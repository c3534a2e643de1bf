-- A reader and its language: what is read is spelled so, and what is spelled so is read, whatever follows it.
use Rattle.std.proofs.Common.{◌≡◌, ℕ, zero, suc, eqb, List, [], ◌∷◌, ◌++◌, length, Option, Some, None, refl, sym, ap, ap₂, subst, ◌∙◌, append_assoc}
use Rattle.std.specs.Prelude.{option_map, ⊤}
use Rattle.std.proofs.lemmas.Bool.{eqb-true, eq-eqb}
use Rattle.std.proofs.lemmas.Option.{some_pair_parts}
use Rattle.spec_modules.specs.Language.{Language, byte, run, ◌⨾◌}
use Rattle.spec_modules.specs.Leb.{unsigned}
use Rattle.spec_modules.specs.Grammar.{vector}
use Rattle.spec_modules.specs.Reading.{Read, ◌>>=◌, unsigned_at}
use Rattle.spec_modules.specs.NumberLaws.{Found, kept, unsigned_takes, unsigned_again}
use Rattle.laws_modules.specs.ReadingExpressions.{byte_at, items_at, vector_at}

-- what is read has T and is spelled by F; what has S and is spelled by F is read
pub record Reads {X : Type 0} (T S : X → Type 0) (F : X → Language) (r : List ℕ → Read X) : Type 0 where
  pub takes : (bs : List ℕ) (x : X) (rest : List ℕ) → r bs ≡ Some (x, rest) → Found F bs x rest × T x
  pub again : (x : X) (a rest : List ℕ) → S x → F x a → r (a ++ rest) ≡ Some (x, rest)

-- each element has P
abbrev pub Each : {X : Type 0} → (X → Type 0) → List X → Type 0
Each P [] = ⊤
Each P (x ∷ xs) = P x × Each P xs

-- no condition
abbrev pub Any : {X : Type 0} → X → Type 0
Any x = ⊤

pub same_some : {A : Type 0} (x y : A) → Some x ≡ Some y → x ≡ y
same_some x y e = cc

-- what a step that succeeded went through
pub bind_then : {A B R : Type 0} (o : Option A) (f : A → Option B) (y : B) → (o >>= f) ≡ Some y → ((x : A) → o ≡ Some x → f x ≡ Some y → R) → R
bind_then None f y e k = absurd cc
bind_then (Some x) f y e k = k x refl e

pub map_then : {A B R : Type 0} (f : A → B) (o : Option A) (y : B) → option_map f o ≡ Some y → ((x : A) → o ≡ Some x → f x ≡ y → R) → R
map_then f None y e k = absurd cc
map_then f (Some x) y e k = k x refl (same_some (f x) y e)

pub fst_is : {A B : Type 0} (x y : A × B) → x ≡ y → x.0 ≡ y.0
fst_is x y e = ap (λ (z : _ × _). z.0) e

pub snd_is : {A B : Type 0} (x y : A × B) → x ≡ y → x.1 ≡ y.1
snd_is x y e = ap (λ (z : _ × _). z.1) e

-- ---- one byte

pub byte_takes : (k : ℕ) (bs rest : List ℕ) → byte_at k bs ≡ Some rest → bs ≡ k ∷ rest
unfolding byte_at
byte_takes k [] rest e = absurd cc
byte_takes k (b ∷ bs) rest e =
    let q = kept (eqb b k) (Some bs) rest e in
    ap₂ (λ x l. x ∷ l) (eqb-true b k q.0) (same_some bs rest q.1)

pub byte_again : (k : ℕ) (rest : List ℕ) → byte_at k (k ∷ rest) ≡ Some rest
unfolding byte_at
byte_again k rest = rw (eq-eqb k k refl) refl

-- ---- one after another

pub join_found : (bs mid rest a b : List ℕ) → bs ≡ a ++ mid → mid ≡ b ++ rest → bs ≡ (a ++ b) ++ rest
join_found bs mid rest a b e f = e ∙ ap (λ l. a ++ l) f ∙ sym (append_assoc a b rest)

pub seam : (x a b rest : List ℕ) → x ≡ a ++ b → x ++ rest ≡ a ++ (b ++ rest)
seam x a b rest e = ap (λ l. l ++ rest) e ∙ append_assoc a b rest

-- a byte in front
pub front_byte : (k : ℕ) (P : Language) (x rest : List ℕ) → (byte k ⨾ P) x → (b : List ℕ) × P b × (x ++ rest ≡ k ∷ (b ++ rest))
front_byte k P x rest s = (s.1, s.4, seam x s.0 s.1 rest s.2 ∙ ap (λ l. l ++ (s.1 ++ rest)) s.3)

-- ---- items and vectors

module _ {X : Type 0} {T S : X → Type 0} {F : X → Language} {r : List ℕ → Read X} (reads : Reads T S F r) where
  pub items_takes : (n : ℕ) (bs : List ℕ) (xs : List X) (rest : List ℕ) → items_at r n bs ≡ Some (xs, rest)
      → (a : List ℕ) × (bs ≡ a ++ rest) × run F xs a × (length xs ≡ n) × Each T xs
  unfolding items_at
  items_takes zero bs xs rest e =
      let q = some_pair_parts [] xs bs rest e in
      let P : List X → Type 0 = λ l. run F l [] × (length l ≡ 0) × Each T l in
      let h = subst P q.0 (refl, refl, tt) in
      ([], q.1, h.0, h.1, h.2)
  items_takes (suc n) bs xs rest e =
      bind_then _ _ _ e (λ x h k. map_then _ _ _ k (λ y h' e'.
      let f = reads.takes bs x.0 x.1 h in
      let g = items_takes n x.1 y.0 y.1 h' in
      let P : List X → Type 0 = λ l. run F l (f.0.0 ++ g.0) × (length l ≡ suc n) × Each T l in
      let p = subst P (fst_is _ _ e') ((f.0.0, g.0, refl, f.0.2, g.2), ap suc g.3, (f.1, g.4)) in
      (f.0.0 ++ g.0, join_found bs x.1 rest f.0.0 g.0 f.0.1 (g.1 ∙ ap (λ l. g.0 ++ l) (snd_is _ _ e')), p.0, p.1, p.2)))

  pub items_again : (xs : List X) (a rest : List ℕ) → Each S xs → run F xs a → items_at r (length xs) (a ++ rest) ≡ Some (xs, rest)
  unfolding items_at
  items_again [] a rest k s = ap (λ l. Some ([], l ++ rest)) s
  items_again (x ∷ xs) a rest k s =
      ap (λ l. items_at r (suc (length xs)) l) (seam a s.0 s.1 rest s.2)
      ∙ rw (reads.again x s.0 (s.1 ++ rest) k.0 s.3, items_again xs s.1 rest k.1 s.4) refl

  pub vector_reads : Reads (Each T) (Each S) (vector F) (vector_at r)
  unfolding vector_at
  vector_reads = record {
    takes = λ bs xs rest e.
        bind_then _ _ _ e (λ n h k.
        let f = unsigned_takes 32 bs n.0 n.1 h in
        let g = items_takes n.0 n.1 xs rest k in
        ((f.0 ++ g.0, join_found bs n.1 rest f.0 g.0 f.1 g.1, (f.0, g.0, refl, subst (λ k. unsigned 32 k f.0) (sym g.3) f.2, g.2)), g.4));
    again = λ xs a rest k s.
        ap (λ l. unsigned_at 32 l >>= λ n. items_at r n.0 n.1) (seam a s.0 s.1 rest s.2)
        ∙ rw (unsigned_again 32 s.0 (length xs) (s.1 ++ rest) s.3) (items_again xs s.1 rest k s.4);
  }

-- ---- numbers

pub unsigned_reads : (bits : ℕ) → Reads Any Any (unsigned bits) (unsigned_at bits)
unsigned_reads bits = record {
  takes = λ bs n rest e. (unsigned_takes bits bs n rest e, tt);
  again = λ n a rest k s. unsigned_again bits a n rest s;
}

pub each_any : {X : Type 0} (xs : List X) → Each Any xs
each_any [] = tt
each_any (x ∷ xs) = (tt, each_any xs)
