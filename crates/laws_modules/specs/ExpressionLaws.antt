-- An expression that is read is spelled so and keeps the limits, and one that is spelled so and keeps them is read.
use Rattle.std.proofs.Common.{◌≡◌, ℕ, zero, suc, ◌-◌, ◌<◌, ◌≤◌, ◌⊎◌, Bool, true, false, cond, eqb, leb, List, [], ◌∷◌, ◌++◌, length, Option, Some, None, refl, sym, ap, ap₂, subst, ◌∙◌, ⊎_elim, inl, inr, arith, append_assoc, length-append}
use Rattle.std.specs.Prelude.{option_map, ◌==◌, ◌||◌}
use Rattle.std.proofs.lemmas.Bool.{eqb-true, eqb-false, leb-true, le-leb}
use Rattle.std.proofs.lemmas.Option.{some_pair_parts}
use Rattle.wtypes.specs.declared.ValType.{ValType}
use Rattle.wtypes.specs.declared.ValType.TheVariants as valtype
use Rattle.wtypes.specs.declared.PlainInstr.{PlainInstr}
use Rattle.spec_modules.specs.Syntax.{Instr, Plain, BrTable, Block, Loop, If, Instrs, nothing, seq}
use Rattle.spec_modules.specs.Shape.{instr_depth, instrs_depth}
use Rattle.spec_modules.specs.Profile.{label_limit}
use Rattle.spec_modules.specs.Language.{Language, byte, ◌⨾◌}
use Rattle.spec_modules.specs.Leb.{unsigned}
use Rattle.spec_modules.specs.Opcodes.{opcode, result_code}
use Rattle.spec_modules.specs.Grammar.{immediate, vector, closing, instr, instrs, expression}
use Rattle.spec_modules.specs.Spells.{InstrLabelsFit, LabelsFit}
use Rattle.spec_modules.specs.Reading.{Read, ◌>>=◌, unsigned_at}
use Rattle.spec_modules.specs.NumberLaws.{Found, kept, chosen, unsigned_takes, unsigned_again}
use Rattle.laws_modules.specs.ReadingExpressions.{plain_at, result_at, table_at, items_at, Body, ended, seq_at, one_with, one_at, body_at, expression_at}
use Rattle.laws_modules.specs.Readers.{Reads, each_any, unsigned_reads, items_takes, items_again, bind_then, map_then, same_some, join_found, seam, fst_is, snd_is}
use Rattle.laws_modules.specs.PlainLaws.{test_then, plain_takes, plain_again, plain_starts}

-- ---- what is read is spelled so

kind_is : (b n : ℕ) (bs rest : List ℕ) (k r : Option ValType) → b ≡ n → ◌≡◌ {A = Read (Option ValType)} (Some (k, bs)) (Some (r, rest)) → n ≡ result_code k → b ∷ bs ≡ result_code r ∷ rest
kind_is b n bs rest k r e f c =
    let q = some_pair_parts k r bs rest f in
    ap₂ (λ x l. x ∷ l) (e ∙ c ∙ ap result_code q.0) q.1

pub result_takes : (bs : List ℕ) (r : Option ValType) (rest : List ℕ) → result_at bs ≡ Some (r, rest) → bs ≡ result_code r ∷ rest
unfolding result_at
result_takes [] r rest e = absurd cc
result_takes (b ∷ bs) r rest e =
    test_then b 0x40 _ _ _ e (λ n f. kind_is b 0x40 bs rest None r n f refl) (λ e.
    test_then b 0x7F _ _ _ e (λ n f. kind_is b 0x7F bs rest (Some valtype.I32) r n f refl) (λ e.
    test_then b 0x7E _ _ _ e (λ n f. kind_is b 0x7E bs rest (Some valtype.I64) r n f refl) (λ e. absurd cc)))

pub result_again : (r : Option ValType) (rest : List ℕ) → result_at (result_code r ∷ rest) ≡ Some (r, rest)
unfolding result_at
result_again None rest = refl
result_again (Some valtype.I32) rest = refl
result_again (Some valtype.I64) rest = refl

abbrev pub Closes : ℕ → Type 0
Closes c = (c ≡ 0x0B) ⊎ (c ≡ 0x05)

-- instructions below so many levels
pub record BodyFound (d : ℕ) (bs : List ℕ) (y : Instrs × ℕ × List ℕ) : Type 0 where
  pub closes : Closes y.1
  pub found : Found instrs bs y.0 (y.1 ∷ y.2)
  pub depth : instrs_depth y.0 < d
  pub labels : LabelsFit y.0

-- an instruction of at most so many levels
pub record OneFound (d b : ℕ) (bs : List ℕ) (y : Instr × List ℕ) : Type 0 where
  pub found : Found instr (b ∷ bs) y.0 y.1
  pub depth : instr_depth y.0 ≤ d
  pub labels : InstrLabelsFit y.0

abbrev BodyTakes : ℕ → (List ℕ → Body) → Type 0
BodyTakes d body = (bs : List ℕ) (y : Instrs × ℕ × List ℕ) → body bs ≡ Some y → BodyFound d bs y

abbrev OneTakes : ℕ → (ℕ → List ℕ → Read Instr) → Type 0
OneTakes d one = (b : ℕ) (bs : List ℕ) (y : Instr × List ℕ) → one b bs ≡ Some y → OneFound d b bs y

abbrev one_more_of : Instr → Instrs × ℕ × List ℕ → Instrs × ℕ × List ℕ
one_more_of i s = (seq i s.0, s.1, s.2)

-- a body that ends by end
ended_takes : {X : Type 0} (f : Instrs → X) (s : Instrs × ℕ × List ℕ) (y : X × List ℕ) → ended f s ≡ Some y → (s.1 ≡ 0x0B) × ((f s.0, s.2) ≡ y)
ended_takes f s y e =
    let k = kept (eqb s.1 0x0B) (Some (f s.0, s.2)) y e in
    (eqb-true s.1 0x0B k.0, same_some (f s.0, s.2) y k.1)

-- byte after byte: a block or a loop, of this first byte
closed_spelled : (k : ℕ) (r : Option ValType) (is : Instrs) (a : List ℕ) → instrs is a → (byte k ⨾ byte (result_code r) ⨾ instrs is ⨾ byte 0x0B) (k ∷ result_code r ∷ (a ++ 0x0B ∷ []))
closed_spelled k r is a s = (k ∷ [], result_code r ∷ (a ++ 0x0B ∷ []), refl, refl, (result_code r ∷ [], a ++ 0x0B ∷ [], refl, refl, (a, 0x0B ∷ [], refl, s, refl)))

if_spelled : (r : Option ValType) (t e : Instrs) (a d : List ℕ) → instrs t a → closing (instrs e) e d → instr (If r t e) (0x04 ∷ result_code r ∷ (a ++ d))
if_spelled r t e a d s c = (0x04 ∷ [], result_code r ∷ (a ++ d), refl, refl, (result_code r ∷ [], a ++ d, refl, refl, (a, d, refl, s, c)))

else_spelled : (e : Instrs) (a : List ℕ) → instrs e a → closing (instrs e) e (0x05 ∷ (a ++ 0x0B ∷ []))
else_spelled nothing a s = inr (0x05 ∷ [], a ++ 0x0B ∷ [], refl, refl, (a, 0x0B ∷ [], refl, s, refl))
else_spelled (seq i is) a s = (0x05 ∷ [], a ++ 0x0B ∷ [], refl, refl, (a, 0x0B ∷ [], refl, s, refl))

else_behind : (c : ℕ) → Closes c → eqb c 0x0B ≡ false → c ≡ 0x05
else_behind c (inl e) f = absurd (eqb-false c 0x0B f e)
else_behind c (inr e) f = e

-- the bytes of an instruction with a block type
opened : (b k : ℕ) (bs rest tail a d : List ℕ) (r : Option ValType) → b ≡ k → bs ≡ result_code r ∷ tail → tail ≡ a ++ (d ++ rest) → b ∷ bs ≡ (k ∷ result_code r ∷ (a ++ d)) ++ rest
opened b k bs rest tail a d r e kind inner = ap₂ (λ x l. x ∷ l) e (kind ∙ ap (λ l. result_code r ∷ l) (inner ∙ sym (append_assoc a d rest)))

-- a block or a loop
closed_takes : (d : ℕ) (body : List ℕ → Body) → BodyTakes d body → (make : Option ValType → Instrs → Instr) (k b : ℕ) (bs : List ℕ) (y : Instr × List ℕ)
    → ((r : Option ValType) (is : Instrs) (a : List ℕ) → (byte k ⨾ byte (result_code r) ⨾ instrs is ⨾ byte 0x0B) a → instr (make r is) a)
    → ((r : Option ValType) (is : Instrs) → instrs_depth is < d → instr_depth (make r is) ≤ d) → ((r : Option ValType) (is : Instrs) → LabelsFit is → InstrLabelsFit (make r is))
    → b ≡ k → (result_at bs >>= λ r. body r.1 >>= λ s. ended (make r.0) s) ≡ Some y → OneFound d b bs y
closed_takes d body takes make k b bs y spelled deep labels is_k e =
    bind_then _ _ _ e (λ r h e. bind_then _ _ _ e (λ s h2 e.
    let w = ended_takes (make r.0) s y e in
    let f = takes r.1 s h2 in
    let a = f.found.0 in
    let tail : r.1 ≡ a ++ ((0x0B ∷ []) ++ s.2) = f.found.1 ∙ ap (λ x. a ++ x ∷ s.2) w.0 in
    subst (OneFound d b bs) w.1 (record {
      found = (
        k ∷ result_code r.0 ∷ (a ++ 0x0B ∷ []),
        opened b k bs s.2 r.1 a (0x0B ∷ []) r.0 is_k (result_takes bs r.0 r.1 h) tail,
        spelled r.0 s.0 _ (closed_spelled k r.0 s.0 a f.found.2),
      );
      depth = deep r.0 s.0 f.depth;
      labels = labels r.0 s.0 f.labels;
    })))

table_takes : (d b : ℕ) (bs : List ℕ) (y : Instr × List ℕ) → b ≡ 0x0E → table_at bs ≡ Some y → OneFound d b bs y
unfolding table_at
table_takes d b bs y is_k e =
    bind_then _ _ _ e (λ n h e.
    let k = kept (leb n.0 label_limit) (items_at (λ l. unsigned_at 32 l) n.0 n.1 >>= λ ls. option_map (λ (l : ℕ × List ℕ). (BrTable ls.0 l.0, l.1)) (unsigned_at 32 ls.1)) y e in
    bind_then _ _ _ k.1 (λ ls h2 e. map_then _ _ _ e (λ l h3 q.
    let f = unsigned_takes 32 bs n.0 n.1 h in
    let g = items_takes (unsigned_reads 32) n.0 n.1 ls.0 ls.1 h2 in
    let u = unsigned_takes 32 ls.1 l.0 l.1 h3 in
    let count : unsigned 32 (length ls.0) f.0 = subst (λ c. unsigned 32 c f.0) (sym g.3) f.2 in
    subst (OneFound d b bs) q (record {
      found = (
        0x0E ∷ ((f.0 ++ g.0) ++ u.0),
        ap₂ (λ x l. x ∷ l) is_k (join_found bs ls.1 l.1 (f.0 ++ g.0) u.0 (join_found bs n.1 ls.1 f.0 g.0 f.1 g.1) u.1),
        (0x0E ∷ [], (f.0 ++ g.0) ++ u.0, refl, refl, (f.0 ++ g.0, u.0, refl, (f.0, g.0, refl, count, g.2), u.2)),
      );
      depth = omega arith;
      labels = omega (arith, leb-true n.0 label_limit k.0, g.3);
    }))))

if_takes : (d : ℕ) (body : List ℕ → Body) → BodyTakes d body → (b : ℕ) (bs : List ℕ) (y : Instr × List ℕ) → b ≡ 0x04
    → (result_at bs >>= λ r. body r.1 >>= λ s. cond (eqb s.1 0x0B) (Some (If r.0 s.0 nothing, s.2)) (body s.2 >>= λ e. ended (If r.0 s.0) e)) ≡ Some y → OneFound d b bs y
if_takes d body takes b bs y is_k e =
    bind_then _ _ _ e (λ r h e. bind_then _ _ _ e (λ s h2 e.
    let f = takes r.1 s h2 in
    let a = f.found.0 in
    let kind = result_takes bs r.0 r.1 h in
    ⊎_elim
    (λ q.
    let tail : r.1 ≡ a ++ ((0x0B ∷ []) ++ s.2) = f.found.1 ∙ ap (λ x. a ++ x ∷ s.2) (eqb-true s.1 0x0B q.0) in
    subst (OneFound d b bs) (same_some (If r.0 s.0 nothing, s.2) y q.1) (record {
      found = (
        0x04 ∷ result_code r.0 ∷ (a ++ 0x0B ∷ []),
        opened b 0x04 bs s.2 r.1 a (0x0B ∷ []) r.0 is_k kind tail,
        if_spelled r.0 s.0 nothing a (0x0B ∷ []) f.found.2 (inl refl),
      );
      depth = omega (arith, f.depth);
      labels = (f.labels, tt);
    }))
    (λ q. bind_then _ _ _ q.1 (λ x h3 e.
    let w = ended_takes (If r.0 s.0) x y e in
    let g = takes s.2 x h3 in
    let c = g.found.0 in
    let five = else_behind s.1 f.closes q.0 in
    let d' = 0x05 ∷ (c ++ 0x0B ∷ []) in
    let last : s.2 ≡ (c ++ 0x0B ∷ []) ++ x.2 = g.found.1 ∙ ap (λ k. c ++ k ∷ x.2) w.0 ∙ sym (append_assoc c (0x0B ∷ []) x.2) in
    let tail : r.1 ≡ a ++ (d' ++ x.2) = f.found.1 ∙ ap₂ (λ k l. a ++ k ∷ l) five last in
    subst (OneFound d b bs) w.1 (record {
      found = (
        0x04 ∷ result_code r.0 ∷ (a ++ d'),
        opened b 0x04 bs x.2 r.1 a d' r.0 is_k kind tail,
        if_spelled r.0 s.0 x.0 a d' f.found.2 (else_spelled x.0 c g.found.2),
      );
      depth = omega (arith, f.depth, g.depth);
      labels = (f.labels, g.labels);
    })))
    (chosen (eqb s.1 0x0B) (Some (If r.0 s.0 nothing, s.2)) (body s.2 >>= λ e. ended (If r.0 s.0) e) (Some y) e)))

one_takes : (d : ℕ) (body : List ℕ → Body) → BodyTakes d body → OneTakes d (one_with body)
unfolding one_with
one_takes d body takes b bs y e =
    test_then b 0x02 _ _ _ e (λ n f. closed_takes d body takes (λ r is. Block r is) 0x02 b bs y (λ r is a s. s) (λ r is l. omega (arith, l)) (λ r is l. l) n f) (λ e.
    test_then b 0x03 _ _ _ e (λ n f. closed_takes d body takes (λ r is. Loop r is) 0x03 b bs y (λ r is a s. s) (λ r is l. omega (arith, l)) (λ r is l. l) n f) (λ e.
    test_then b 0x04 _ _ _ e (λ n f. if_takes d body takes b bs y n f) (λ e.
    test_then b 0x0E _ _ _ e (λ n f. table_takes d b bs y n f) (λ e.
    map_then _ _ _ e (λ p h q.
    let t = plain_takes b bs p.0 p.1 h in
    let found = t.1 in
    subst (OneFound d b bs) q (record {
      found = (opcode p.0 ∷ found.0, ap₂ (λ x l. x ∷ l) t.0 found.1, (opcode p.0 ∷ [], found.0, refl, refl, found.2));
      depth = omega arith;
      labels = tt;
    }))))))

or_true : (x z : Bool) → (x || z) ≡ true → (x ≡ true) ⊎ (z ≡ true)
or_true true z e = inl refl
or_true false z e = inr e

seq_takes : (d : ℕ) (one : ℕ → List ℕ → Read Instr) → OneTakes d one → (n : ℕ) → BodyTakes (suc d) (seq_at one n)
unfolding seq_at
seq_takes d one takes zero bs y e = absurd cc
seq_takes d one takes (suc n) [] y e = absurd cc
seq_takes d one takes (suc n) (b ∷ bs) y e =
    ⊎_elim
    (λ p.
    let closes = ⊎_elim (λ t. inl (eqb-true b 0x0B t)) (λ t. inr (eqb-true b 0x05 t)) (or_true (eqb b 0x0B) (eqb b 0x05) p.0) in
    subst (BodyFound (suc d) (b ∷ bs)) (same_some (nothing, b, bs) y p.1) (record { closes = closes; found = ([], refl, refl); depth = omega arith; labels = tt }))
    (λ p. bind_then _ _ _ p.1 (λ r h e. map_then _ _ _ e (λ s h2 q.
    let first = takes b bs r h in
    let others = seq_takes d one takes n r.1 s h2 in
    let f = first.found in
    let g = others.found in
    subst (BodyFound (suc d) (b ∷ bs)) q (record {
      closes = others.closes;
      found = (f.0 ++ g.0, join_found (b ∷ bs) r.1 (s.1 ∷ s.2) f.0 g.0 f.1 g.1, (f.0, g.0, refl, f.2, g.2));
      depth = omega (arith, first.depth, others.depth);
      labels = (first.labels, others.labels);
    }))))
    (chosen ((eqb b 0x0B) || (eqb b 0x05)) (Some (nothing, b, bs)) (one b bs >>= λ r. option_map (λ (s : Instrs × ℕ × List ℕ). one_more_of r.0 s) (seq_at one n r.1)) (Some y) e)

pub body_takes : (d : ℕ) → BodyTakes d (body_at d)
unfolding body_at
body_takes zero bs y e = absurd cc
body_takes (suc d) bs y e = seq_takes d (one_with (body_at d)) (one_takes d (body_at d) (body_takes d)) (length bs) bs y e

-- ---- what is spelled so is read

after_byte : (b : ℕ) (Q : Language) (a : List ℕ) → (byte b ⨾ Q) a → (q : List ℕ) × (a ≡ b ∷ q) × Q q
after_byte b Q a s = (s.1, s.2 ∙ ap (λ l. l ++ s.1) s.3, s.4)

plain_reads : (body : List ℕ → Body) (b : ℕ) (bs : List ℕ) (op : PlainInstr) (rest : List ℕ) → eqb b 0x02 ≡ false → eqb b 0x03 ≡ false → eqb b 0x04 ≡ false → eqb b 0x0E ≡ false
    → plain_at b bs ≡ Some (op, rest) → one_with body b bs ≡ Some (Plain op, rest)
unfolding one_with
plain_reads body b bs op rest n2 n3 n4 n14 e = rw (n2, n3, n4, n14, e) refl

table_reads : (body : List ℕ → Body) (ls : List ℕ) (l : ℕ) (a rest : List ℕ) → length ls ≤ label_limit → (vector (unsigned 32) ls ⨾ unsigned 32 l) a → one_with body 0x0E (a ++ rest) ≡ Some (BrTable ls l, rest)
unfolding one_with table_at
table_reads body ls l a rest fits s =
    let v = s.3 in
    let whole : a ++ rest ≡ v.0 ++ (v.1 ++ (s.1 ++ rest)) = seam a s.0 s.1 rest s.2 ∙ seam s.0 v.0 v.1 (s.1 ++ rest) v.2 in
    rw (
      whole,
      unsigned_again 32 v.0 (length ls) (v.1 ++ (s.1 ++ rest)) v.3,
      le-leb (length ls) label_limit fits,
      items_again (unsigned_reads 32) ls v.1 (s.1 ++ rest) (each_any ls) v.4,
      unsigned_again 32 s.1 l rest s.4,
    ) refl

block_reads : (body : List ℕ → Body) (r : Option ValType) (is : Instrs) (bs rest : List ℕ) → body bs ≡ Some (is, 0x0B, rest) → one_with body 0x02 (result_code r ∷ bs) ≡ Some (Block r is, rest)
unfolding one_with
block_reads body r is bs rest e = rw (result_again r bs, e) refl

loop_reads : (body : List ℕ → Body) (r : Option ValType) (is : Instrs) (bs rest : List ℕ) → body bs ≡ Some (is, 0x0B, rest) → one_with body 0x03 (result_code r ∷ bs) ≡ Some (Loop r is, rest)
unfolding one_with
loop_reads body r is bs rest e = rw (result_again r bs, e) refl

if_reads : (body : List ℕ → Body) (r : Option ValType) (t : Instrs) (bs rest : List ℕ) → body bs ≡ Some (t, 0x0B, rest) → one_with body 0x04 (result_code r ∷ bs) ≡ Some (If r t nothing, rest)
unfolding one_with
if_reads body r t bs rest e = rw (result_again r bs, e) refl

else_reads : (body : List ℕ → Body) (r : Option ValType) (t e : Instrs) (bs more rest : List ℕ) → body bs ≡ Some (t, 0x05, more) → body more ≡ Some (e, 0x0B, rest) → one_with body 0x04 (result_code r ∷ bs) ≡ Some (If r t e, rest)
unfolding one_with
else_reads body r t e bs more rest p q = rw (result_again r bs, p, q) refl

else_cases : (e : Instrs) (y : List ℕ) → closing (instrs e) e y → ((nothing ≡ e) × (y ≡ 0x0B ∷ [])) ⊎ ((z : List ℕ) × (y ≡ 0x05 ∷ (z ++ 0x0B ∷ [])) × instrs e z)
else_cases nothing y (inl s) = inl (refl, s)
else_cases nothing y (inr s) =
    let q = after_byte 0x05 (instrs nothing ⨾ byte 0x0B) y s in
    inr (q.2.0, q.1 ∙ ap (λ l. 0x05 ∷ l) (q.2.2 ∙ ap (λ l. q.2.0 ++ l) q.2.4), q.2.3)
else_cases (seq i is) y s =
    let q = after_byte 0x05 (instrs (seq i is) ⨾ byte 0x0B) y s in
    inr (q.2.0, q.1 ∙ ap (λ l. 0x05 ∷ l) (q.2.2 ∙ ap (λ l. q.2.0 ++ l) q.2.4), q.2.3)

seq_more : (one : ℕ → List ℕ → Read Instr) (n b : ℕ) (bs : List ℕ) (i : Instr) (rest : List ℕ) (s : Instrs × ℕ × List ℕ)
    → 0 < n → ((b == 0x0B) || (b == 0x05)) ≡ false → one b bs ≡ Some (i, rest) → seq_at one (n - 1) rest ≡ Some s → seq_at one n (b ∷ bs) ≡ Some (one_more_of i s)
unfolding seq_at
seq_more one zero b bs i rest s lt go e f = absurd (omega arith)
seq_more one (suc n) b bs i rest s lt go e f =
    let k : n ≡ suc n - 1 = omega arith in
    let g = ap (λ m. seq_at one m rest) k ∙ f in
    rw (go, e, g) refl

seq_ends : (one : ℕ → List ℕ → Read Instr) (n c : ℕ) (rest : List ℕ) → 0 < n → Closes c → seq_at one n (c ∷ rest) ≡ Some (nothing, c, rest)
unfolding seq_at
seq_ends one zero c rest lt cl = absurd (omega arith)
seq_ends one (suc n) c rest lt (inl e) = rw e refl
seq_ends one (suc n) c rest lt (inr e) = rw e refl

body_reads : (d : ℕ) (is : Instrs) (bs x : List ℕ) (c : ℕ) (rest : List ℕ) → 0 < d → bs ≡ x ++ c ∷ rest
    → seq_at (one_at (d - 1)) (length bs) (x ++ c ∷ rest) ≡ Some (is, c, rest) → body_at d bs ≡ Some (is, c, rest)
unfolding body_at
body_reads zero is bs x c rest lt e h = absurd (omega arith)
body_reads (suc d) is bs x c rest lt e h =
    let k : d ≡ suc d - 1 = omega arith in
    ap₂ (λ m l. seq_at (one_at m) (length bs) l) k e ∙ h

-- the bytes a of i are read, whatever follows them
abbrev ReadsOne : ℕ → Instr → List ℕ → List ℕ → Type 0
ReadsOne d i a rest = (b : ℕ) × (q : List ℕ) × (a ≡ b ∷ q) × (((b == 0x0B) || (b == 0x05)) ≡ false) × (one_at d b (q ++ rest) ≡ Some (i, rest))

-- the body of a block or a loop
body_again : (d k : ℕ) (r : Option ValType) (b : Instrs)
    → ((x rest : List ℕ) (n : ℕ) → instrs b x → length (x ++ 0x0B ∷ rest) ≤ n → seq_at (one_at (d - 1)) n (x ++ 0x0B ∷ rest) ≡ Some (b, 0x0B, rest))
    → 0 < d → (a rest : List ℕ) → (byte k ⨾ byte (result_code r) ⨾ instrs b ⨾ byte 0x0B) a → (q : List ℕ) × (a ≡ k ∷ result_code r ∷ q) × (body_at d (q ++ rest) ≡ Some (b, 0x0B, rest))
body_again d k r b go lt a rest s =
    let q = after_byte k (byte (result_code r) ⨾ instrs b ⨾ byte 0x0B) a s in
    let p = after_byte (result_code r) (instrs b ⨾ byte 0x0B) q.0 q.2 in
    let x = p.2.0 in
    let e : p.0 ++ rest ≡ x ++ 0x0B ∷ rest = ap (λ l. l ++ rest) (p.2.2 ∙ ap (λ l. x ++ l) p.2.4) ∙ append_assoc x (0x0B ∷ []) rest in
    let h = go x rest (length (p.0 ++ rest)) p.2.3 (omega (arith, ap length e)) in
    (p.0, q.1 ∙ ap (λ l. k ∷ l) p.1, body_reads d b (p.0 ++ rest) x 0x0B rest lt e h)

mutual
  instr_again : (d : ℕ) (i : Instr) → InstrLabelsFit i → instr_depth i ≤ d → (a rest : List ℕ) → instr i a → ReadsOne d i a rest
  instr_again d (Plain op) k le a rest s =
      let q = after_byte (opcode op) (immediate op) a s in
      let st = plain_starts op in (
        opcode op,
        q.0,
        q.1,
        st.0,
        plain_reads (body_at d) (opcode op) (q.0 ++ rest) op rest st.1 st.2 st.3 st.4 (plain_again op q.0 rest q.2),
      )
  instr_again d (BrTable ls l) k le a rest s =
      let q = after_byte 0x0E (vector (unsigned 32) ls ⨾ unsigned 32 l) a s in
      (0x0E, q.0, q.1, refl, table_reads (body_at d) ls l q.0 rest k q.2)
  instr_again d (Block r b) k le a rest s =
      let p = body_again d 0x02 r b (λ x t n s2 len. instrs_again (d - 1) b k (omega arith) x 0x0B t n s2 (inl refl) len) (omega arith) a rest s in
      (0x02, result_code r ∷ p.0, p.1, refl, block_reads (body_at d) r b (p.0 ++ rest) rest p.2)
  instr_again d (Loop r b) k le a rest s =
      let p = body_again d 0x03 r b (λ x t n s2 len. instrs_again (d - 1) b k (omega arith) x 0x0B t n s2 (inl refl) len) (omega arith) a rest s in
      (0x03, result_code r ∷ p.0, p.1, refl, loop_reads (body_at d) r b (p.0 ++ rest) rest p.2)
  instr_again d (If r t e) k le a rest s =
      let q = after_byte 0x04 (byte (result_code r) ⨾ instrs t ⨾ closing (instrs e) e) a s in
      let p = after_byte (result_code r) (instrs t ⨾ closing (instrs e) e) q.0 q.2 in
      let x = p.2.0 in (
        0x04,
        result_code r ∷ p.0,
        q.1 ∙ ap (λ l. 0x04 ∷ l) p.1,
        refl,
        ⊎_elim
            (λ w.
            let f : p.0 ++ rest ≡ x ++ 0x0B ∷ rest = ap (λ l. l ++ rest) (p.2.2 ∙ ap (λ l. x ++ l) w.1) ∙ append_assoc x (0x0B ∷ []) rest in
            let h = instrs_again (d - 1) t k.0 (omega arith) x 0x0B rest (length (p.0 ++ rest)) p.2.3 (inl refl) (omega (arith, ap length f)) in
            if_reads (body_at d) r t (p.0 ++ rest) rest (body_reads d t (p.0 ++ rest) x 0x0B rest (omega arith) f h) ∙ ap (λ z. Some (If r t z, rest)) w.0)
            (λ w.
            let z = w.0 in
            let more = (z ++ 0x0B ∷ []) ++ rest in
            let f : p.0 ++ rest ≡ x ++ 0x05 ∷ more = ap (λ l. l ++ rest) (p.2.2 ∙ ap (λ l. x ++ l) w.1) ∙ append_assoc x (0x05 ∷ (z ++ 0x0B ∷ [])) rest in
            let g : more ≡ z ++ 0x0B ∷ rest = append_assoc z (0x0B ∷ []) rest in
            let h = instrs_again (d - 1) t k.0 (omega arith) x 0x05 more (length (p.0 ++ rest)) p.2.3 (inr refl) (omega (arith, ap length f)) in
            let h2 = instrs_again (d - 1) e k.1 (omega arith) z 0x0B rest (length more) w.2 (inl refl) (omega (arith, ap length g)) in
            else_reads (body_at d) r t e (p.0 ++ rest) more rest (body_reads d t (p.0 ++ rest) x 0x05 more (omega arith) f h) (body_reads d e more z 0x0B rest (omega arith) g h2))
            (else_cases e p.2.1 p.2.4),
      )

  instrs_again : (d : ℕ) (is : Instrs) → LabelsFit is → instrs_depth is ≤ d → (a : List ℕ) (c : ℕ) (rest : List ℕ) (n : ℕ) → instrs is a → Closes c → length (a ++ c ∷ rest) ≤ n
      → seq_at (one_at d) n (a ++ c ∷ rest) ≡ Some (is, c, rest)
  instrs_again d nothing k le a c rest n s cl len =
      let lt : 0 < n = omega (arith, length-append a (c ∷ rest)) in
      ap (λ l. seq_at (one_at d) n (l ++ c ∷ rest)) s ∙ seq_ends (one_at d) n c rest lt cl
  instrs_again d (seq i is) k le a c rest n s cl len =
      let tail = s.1 ++ c ∷ rest in
      let h = instr_again d i k.0 (omega arith) s.0 tail s.3 in
      let whole : a ++ c ∷ rest ≡ h.0 ∷ (h.1 ++ tail) = ap (λ l. l ++ c ∷ rest) s.2 ∙ append_assoc s.0 s.1 (c ∷ rest) ∙ ap (λ l. l ++ tail) h.2 in
      let lt : 0 < n = omega (arith, ap length whole) in
      let shorter : length tail ≤ n - 1 = omega (arith, ap length whole, length-append h.1 tail) in
      ap (λ l. seq_at (one_at d) n l) whole
      ∙ seq_more (one_at d) n h.0 (h.1 ++ tail) i tail (is, c, rest) lt h.3 h.4 (instrs_again d is k.1 (omega arith) s.1 c rest (n - 1) s.4 cl shorter)

-- ---- expressions

-- so many levels, its own among them
pub record FitsIn (d : ℕ) (is : Instrs) : Type 0 where
  pub depth : instrs_depth is < d
  pub labels : LabelsFit is

pub expression_reads : (d : ℕ) → Reads (FitsIn d) (FitsIn d) expression (expression_at d)
unfolding expression_at
expression_reads d = record {
  takes = λ bs is rest e. bind_then _ _ _ e (λ s h e.
      let w = ended_takes (λ z. z) s (is, rest) e in
      let f = body_takes d bs s h in
      let a = f.found.0 in
      let same = fst_is _ _ w.1 in (
        (
          a ++ 0x0B ∷ [],
          f.found.1 ∙ ap₂ (λ k l. a ++ k ∷ l) w.0 (snd_is _ _ w.1) ∙ sym (append_assoc a (0x0B ∷ []) rest),
          (a, 0x0B ∷ [], refl, subst (λ z. instrs z a) same f.found.2, refl),
        ),
        subst (FitsIn d) same (record { depth = f.depth; labels = f.labels }),
      ));
  again = λ is a rest fits s.
      let e : a ++ rest ≡ s.0 ++ 0x0B ∷ rest = ap (λ l. l ++ rest) (s.2 ∙ ap (λ l. s.0 ++ l) s.4) ∙ append_assoc s.0 (0x0B ∷ []) rest in
      let lt : 0 < d = omega (arith, fits.depth) in
      let le : instrs_depth is ≤ d - 1 = omega (arith, fits.depth) in
      let h = instrs_again (d - 1) is fits.labels le s.0 0x0B rest (length (a ++ rest)) s.3 (inl refl) (omega (arith, ap length e)) in
      let b = body_reads d is (a ++ rest) s.0 0x0B rest lt e h in
      rw b refl;
}
