-- One turn of reading a body.
use Rattle.std.proofs.Common.{◌⊎◌, ⊎_elim, inl, inr, ◌≡◌, ℕ, zero, suc, ◌-◌, ◌<◌, ◌≤◌, true, false, List, [], ◌∷◌, ◌++◌, length, Option, Some, None, refl, sym, ap, ◌∙◌, arith}
use Rattle.std.specs.Prelude.{option_map, ◌==◌, ◌||◌}
use Rattle.spec_modules.specs.Syntax as syntax
use Rattle.spec_modules.specs.Reading.{Read, ◌>>=◌}
use Rattle.laws_modules.specs.ReadingExpressions.{Body, seq_at, body_at, one_at, one_with, result_at}
use Rattle.expr_reader.specs.declared.unread.DecodeFault.{DecodeFault}
use Rattle.expr_reader.specs.declared.unread.DecodeFault.TheVariants.{Malformed, Unsupported, TooLarge, NoMemory}
use Rattle.expr_reader.specs.Outcome.{Fails}
use Rattle.module_tree.specs.declared.instr.Instr.{Instr}
use Rattle.module_tree.specs.View.{instr_view, instrs_view}

abbrev pub instrs_before : {A : Type 0} → List (Instr A) → syntax.Instrs → syntax.Instrs
instrs_before [] rest = rest
instrs_before (v ∷ vs) rest = syntax.seq (instr_view v) (instrs_before vs rest)

-- a body with these instructions in front
abbrev pub front : {A : Type 0} → List (Instr A) → Body → Body
front vs r = option_map (λ s. (instrs_before vs s.0, s.1, s.2)) r

abbrev pub one_more : syntax.Instr → Body → Body
one_more i r = option_map (λ s. (syntax.seq i s.0, s.1, s.2)) r

pub before_nothing : {A : Type 0} (vs : List (Instr A)) → instrs_before vs syntax.nothing ≡ instrs_view vs
before_nothing [] = refl
before_nothing (v ∷ vs) = ap (syntax.seq (instr_view v)) (before_nothing vs)

before_push : {A : Type 0} (vs : List (Instr A)) (v : Instr A) (rest : syntax.Instrs) → instrs_before vs (syntax.seq (instr_view v) rest) ≡ instrs_before (vs ++ v ∷ []) rest
before_push [] v rest = refl
before_push (w ∷ vs) v rest = ap (syntax.seq (instr_view w)) (before_push vs v rest)

pub front_push : {A : Type 0} (vs : List (Instr A)) (v : Instr A) (r : Body) → front vs (one_more (instr_view v) r) ≡ front (vs ++ v ∷ []) r
front_push vs v None = refl
front_push vs v (Some s) = ap (λ is. Some (is, s.1, s.2)) (before_push vs v s.0)

pub front_none : {A : Type 0} (vs : List (Instr A)) (r : Body) → vs ≡ [] → r ≡ front vs r
front_none vs None e = refl
front_none vs (Some s) e = ap (λ ws. Some (instrs_before ws s.0, s.1, s.2)) (sym e)

pub turn_more : (one : ℕ → List ℕ → Read syntax.Instr) (n b : ℕ) (bs rest : List ℕ) (i : syntax.Instr)
    → 0 < n → ((b == 0x0B) || (b == 0x05)) ≡ false → one b bs ≡ Some (i, rest) → seq_at one n (b ∷ bs) ≡ one_more i (seq_at one (n - 1) rest)
unfolding seq_at
turn_more one zero b bs rest i lt go e = absurd (omega arith)
turn_more one (suc n) b bs rest i lt go e =
    let s : suc n - 1 ≡ n = omega arith in
    rw (go, e, s) refl

pub turn_fails : (one : ℕ → List ℕ → Read syntax.Instr) (n b : ℕ) (bs : List ℕ)
    → ((b == 0x0B) || (b == 0x05)) ≡ false → one b bs ≡ None → seq_at one n (b ∷ bs) ≡ None
unfolding seq_at
turn_fails one zero b bs go e = refl
turn_fails one (suc n) b bs go e = rw (go, e) refl

pub turn_ends : (one : ℕ → List ℕ → Read syntax.Instr) (n b : ℕ) (bs : List ℕ)
    → 0 < n → ((b == 0x0B) || (b == 0x05)) ≡ true → seq_at one n (b ∷ bs) ≡ Some (syntax.nothing, b, bs)
unfolding seq_at
turn_ends one zero b bs lt go = absurd (omega arith)
turn_ends one (suc n) b bs lt go = rw go refl

pub turn_empty : (one : ℕ → List ℕ → Read syntax.Instr) (n : ℕ) → seq_at one n [] ≡ None
unfolding seq_at
turn_empty one zero = refl
turn_empty one (suc n) = refl

pub body_none : (d : ℕ) (bs : List ℕ) → d ≡ 0 → body_at d bs ≡ None
unfolding body_at
body_none zero bs e = refl
body_none (suc d) bs e = absurd (omega arith)

pub body_opens : (d : ℕ) (bs : List ℕ) → (d ≡ 0 → ⊥) → body_at d bs ≡ seq_at (one_at (d - 1)) (length bs) bs
unfolding body_at
body_opens zero bs ne = absurd (ne refl)
body_opens (suc d) bs ne =
    let s : d ≡ suc d - 1 = omega arith in
    ap (λ n. seq_at (one_at n) (length bs) bs) s

no_items : (xs : List ℕ) → length xs ≡ 0 → xs ≡ []
no_items [] e = refl
no_items (x ∷ xs) e = absurd (omega arith)

-- what is left of a body of which the instructions vs are read
module _ {A : Type 0} (whole : Body) (vs : List (Instr A)) (one : ℕ → List ℕ → Read syntax.Instr) (n : ℕ) (left : List ℕ) (fits : length left ≤ n) (so_far : whole ≡ front vs (seq_at one n left)) where
  pub at_end : (b : ℕ) (bs : List ℕ) → left ≡ b ∷ bs → ((b == 0x0B) || (b == 0x05)) ≡ true → whole ≡ Some (instrs_view vs, b, bs)
  at_end b bs is ends =
      let lt : 0 < n = omega (arith, ap length is) in
      so_far ∙ ap (λ l. front vs (seq_at one n l)) is ∙ ap (front vs) (turn_ends one n b bs lt ends) ∙ ap (λ is. Some (is, b, bs)) (before_nothing vs)

  pub at_fault : (b : ℕ) (bs : List ℕ) → left ≡ b ∷ bs → ((b == 0x0B) || (b == 0x05)) ≡ false → one b bs ≡ None → whole ≡ None
  at_fault b bs is goes none =
      so_far ∙ ap (λ l. front vs (seq_at one n l)) is ∙ ap (front vs) (turn_fails one n b bs goes none)

  pub at_empty : length left ≡ 0 → whole ≡ None
  at_empty zero_left =
      let is : left ≡ [] = no_items left zero_left in
      so_far ∙ ap (λ l. front vs (seq_at one n l)) is ∙ ap (front vs) (turn_empty one n)

  pub at_more : (b : ℕ) (bs rest : List ℕ) (v : Instr A) (ws : List (Instr A)) → left ≡ b ∷ bs → ((b == 0x0B) || (b == 0x05)) ≡ false → one b bs ≡ Some (instr_view v, rest)
      → length rest ≤ length bs → ws ≡ vs ++ v ∷ [] → (m : ℕ) × (length rest ≤ m) × (whole ≡ front ws (seq_at one m rest))
  at_more b bs rest v ws is goes found shorter pushed =
      let len = ap length is in
      let lt : 0 < n = omega (arith, len) in (
        n - 1,
        omega (arith, len),
        so_far ∙ ap (λ l. front vs (seq_at one n l)) is ∙ ap (front vs) (turn_more one n b bs rest (instr_view v) lt goes found)
            ∙ front_push vs v (seq_at one (n - 1) rest) ∙ ap (λ l. front l (seq_at one (n - 1) rest)) (sym pushed),
      )

-- a refusal handed on
pub hand_on : {X Y : Type 0} (e : DecodeFault) (r : Option X) (q : Option Y) → (r ≡ None → q ≡ None) → Fails e r → Fails e q
hand_on NoMemory r q f h = tt
hand_on (Malformed at) r q f h = f h
hand_on (Unsupported at) r q f h = f h
hand_on (TooLarge limit) r q f h = f h

nowhere : {X Y : Type 0} (o : Option X) (f : X → Option Y) → ((x : X) → f x ≡ None) → (o >>= f) ≡ None
nowhere None f h = refl
nowhere (Some x) f h = h x

-- no block stands deeper than the last level
pub too_deep : (d b : ℕ) (bs : List ℕ) → d ≡ 0 → 2 ≤ b → b ≤ 4 → one_at d b bs ≡ None
unfolding one_with body_at
too_deep (suc d) b bs e l m = absurd (omega arith)
too_deep zero b bs e l m =
    ⊎_elim
    (λ two. ap (λ n. one_at zero n bs) two ∙ nowhere (result_at bs) _ (λ x. refl))
    (λ o. ⊎_elim
    (λ three. ap (λ n. one_at zero n bs) three ∙ nowhere (result_at bs) _ (λ x. refl))
    (λ four. ap (λ n. one_at zero n bs) four ∙ nowhere (result_at bs) _ (λ x. refl))
    o)
    (kinds b l m)
  where
    kinds : (b : ℕ) → 2 ≤ b → b ≤ 4 → (b ≡ 2) ⊎ ((b ≡ 3) ⊎ (b ≡ 4))
    kinds zero l m = absurd (omega arith)
    kinds (suc zero) l m = absurd (omega arith)
    kinds (suc (suc zero)) l m = inl refl
    kinds (suc (suc (suc zero))) l m = inr (inl refl)
    kinds (suc (suc (suc (suc zero)))) l m = inr (inr refl)
    kinds (suc (suc (suc (suc (suc b))))) l m = absurd (omega arith)
