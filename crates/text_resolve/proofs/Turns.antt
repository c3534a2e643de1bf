-- One turn of resolving a body.
use Rattle.std.proofs.Common.{◌≡◌, ℕ, zero, suc, ◌+◌, ◌-◌, ◌<◌, ◌≤◌, Bool, true, false, List, [], ◌∷◌, ◌++◌, length, get_or, drop, map, Option, Some, None, refl, sym, ap, ◌∙◌, arith, rules, Vec}
use Rattle.std.specs.Prelude.{option_map, option_and_then, not}
use Rattle.std.proofs.lemmas.List.{map-append, drop_more, length-map, length-drop}
use Rattle.spec_modules.specs.Syntax as S
use Rattle.std.specs.List.{range_with_len}
use Rattle.std.proofs.Math.ListN.{drop_of_length-le}
use Rattle.std.proofs.lemmas.Bool.{eq-eqb}
use Rattle.spec_modules.specs.Limits.{instr_fits, instrs_fit, counts_from, both, first, second}
use Rattle.spec_text.specs.FieldsOfBytes as N
use Rattle.text_resolve.specs.declared.refusal.ResolveFault.{ResolveFault}
use Rattle.text_resolve.specs.declared.refusal.ResolveFault.TheVariants.{UnknownName, RepeatedName, NumberRange, TooLarge, Broken, NoMemory}
use Rattle.text_resolve.specs.Outcome.{Unless, Fails}
use Rattle.spec_text.specs.Spaces.{Names, Spaces}
use Rattle.module_tree.specs.declared.instr.Instr.{Instr, Loop, If, the_lemmas}
use Rattle.module_tree.specs.View.{instr_view, instrs_view, instr_ordinals, ordinals}
use Rattle.module_tree.specs.Numbering.{Numbered, numbered_under}
use Rattle.wtypes.specs.declared.ValType.{ValType}
use Rattle.text_body.specs.declared.flat.Flat.{Flat}
use Rattle.text_body.specs.Views.{flat_of}
use Rattle.text_resolve.specs.Views.{flats_from}
use Rattle.text_resolve.specs.Bodies.{Read, stops, is_done, seq_at, body_at, one_at, closed, branched, behind_end, behind_else}

abbrev pub instrs_before : {A : Type 0} → List (Instr A) → S.Instrs → S.Instrs
instrs_before [] rest = rest
instrs_before (v ∷ vs) rest = S.seq (instr_view v) (instrs_before vs rest)

-- a sequence with these instructions in front
abbrev pub front : {A : Type 0} → List (Instr A) → Read S.Instrs → Read S.Instrs
front vs r = option_map (λ s. (instrs_before vs s.0, s.1)) r

abbrev pub one_more : S.Instr → Read S.Instrs → Read S.Instrs
one_more i r = option_map (λ s. (S.seq i s.0, s.1)) r

pub before_nothing : {A : Type 0} (vs : List (Instr A)) → instrs_before vs S.nothing ≡ instrs_view vs
before_nothing [] = refl
before_nothing (v ∷ vs) = ap (S.seq (instr_view v)) (before_nothing vs)

before_push : {A : Type 0} (vs : List (Instr A)) (v : Instr A) (rest : S.Instrs) → instrs_before vs (S.seq (instr_view v) rest) ≡ instrs_before (vs ++ v ∷ []) rest
before_push [] v rest = refl
before_push (w ∷ vs) v rest = ap (S.seq (instr_view w)) (before_push vs v rest)

front_push : {A : Type 0} (vs : List (Instr A)) (v : Instr A) (r : Read S.Instrs) → front vs (one_more (instr_view v) r) ≡ front (vs ++ v ∷ []) r
front_push vs v None = refl
front_push vs v (Some s) = ap (λ is. Some (is, s.1)) (before_push vs v s.0)

pub front_none : {A : Type 0} (vs : List (Instr A)) (r : Read S.Instrs) → vs ≡ [] → r ≡ front vs r
front_none vs None e = refl
front_none vs (Some s) e = ap (λ ws. Some (instrs_before ws s.0, s.1)) (sym e)

pub turn_more : (one : N.Flat → List N.Flat → Read S.Instr) (n : ℕ) (f : N.Flat) (fs rest : List N.Flat) (i : S.Instr)
    → 0 < n → stops f ≡ false → one f fs ≡ Some (i, rest) → seq_at one n (f ∷ fs) ≡ one_more i (seq_at one (n - 1) rest)
unfolding seq_at
turn_more one zero f fs rest i lt go e = absurd (omega arith)
turn_more one (suc n) f fs rest i lt go e = let s : suc n - 1 ≡ n = omega arith in rw (go, e, s) refl

turn_fails : (one : N.Flat → List N.Flat → Read S.Instr) (n : ℕ) (f : N.Flat) (fs : List N.Flat) → stops f ≡ false → one f fs ≡ None → seq_at one n (f ∷ fs) ≡ None
unfolding seq_at
turn_fails one zero f fs go e = refl
turn_fails one (suc n) f fs go e = rw (go, e) refl

pub turn_ends : (one : N.Flat → List N.Flat → Read S.Instr) (n : ℕ) (fs : List N.Flat) → length fs ≤ n → is_done fs ≡ true → seq_at one n fs ≡ Some (S.nothing, fs)
unfolding seq_at
turn_ends one zero [] le go = refl
turn_ends one (suc n) [] le go = refl
turn_ends one zero (f ∷ fs) le go = absurd (omega arith)
turn_ends one (suc n) (f ∷ fs) le go = rw go refl

pub body_none : (s : Spaces) (locals labels : Names) (d : ℕ) (fs : List N.Flat) → d ≡ 0 → body_at s locals d labels fs ≡ None
unfolding body_at
body_none s locals labels zero fs e = refl
body_none s locals labels (suc d) fs e = absurd (omega arith)

pub body_opens : (s : Spaces) (locals labels : Names) (d : ℕ) (fs : List N.Flat) → 0 < d → body_at s locals d labels fs ≡ seq_at (one_at s locals (d - 1) labels) (length fs) fs
unfolding body_at
body_opens s locals labels zero fs l = absurd (omega arith)
body_opens s locals labels (suc d) fs l = let e : d ≡ suc d - 1 = omega arith in ap (λ n. seq_at (one_at s locals n labels) (length fs) fs) e

-- what is left of a body of which the instructions vs are read
module _ {A : Type 0} (whole : Read S.Instrs) (vs : List (Instr A)) (one : N.Flat → List N.Flat → Read S.Instr) (n : ℕ) (left : List N.Flat) (fits : length left ≤ n)
    (so_far : whole ≡ front vs (seq_at one n left)) where
  pub at_end : is_done left ≡ true → whole ≡ Some (instrs_view vs, left)
  at_end ends = so_far ∙ ap (front vs) (turn_ends one n left fits ends) ∙ ap (λ is. Some (is, left)) (before_nothing vs)

  pub at_fault : (f : N.Flat) (fs : List N.Flat) → left ≡ f ∷ fs → is_done left ≡ false → one f fs ≡ None → whole ≡ None
  at_fault f fs is go none =
      so_far ∙ ap (λ l. front vs (seq_at one n l)) is ∙ ap (front vs) (turn_fails one n f fs (ap is_done (sym is) ∙ go) none)

  pub at_more : (f : N.Flat) (fs rest : List N.Flat) (v : Instr A) (ws : List (Instr A)) → left ≡ f ∷ fs → is_done left ≡ false → one f fs ≡ Some (instr_view v, rest) → ws ≡ vs ++ v ∷ []
      → whole ≡ front ws (seq_at one (n - 1) rest)
  at_more f fs rest v ws is go found pushed =
      let len = ap length is in
      let lt : 0 < n = omega (arith, len) in
      so_far ∙ ap (λ l. front vs (seq_at one n l)) is ∙ ap (front vs) (turn_more one n f fs rest (instr_view v) lt (ap is_done (sym is) ∙ go) found)
      ∙ front_push vs v (seq_at one (n - 1) rest) ∙ ap (λ l. front l (seq_at one (n - 1) rest)) (sym pushed)

pub flats_at : {A : Type 0} (xs : List (Flat A)) (at : ℕ) (x : Flat A) → at < length xs → x ≡ get_or xs at x → flats_from at xs ≡ flat_of x ∷ flats_from (at + 1) xs
flats_at xs at x l is = ap (map flat_of) (drop_more xs at x l ∙ ap (λ y. y ∷ drop (at + 1) xs) (sym is))

pub flats_left : {A : Type 0} (xs : List (Flat A)) (at : ℕ) → length (flats_from at xs) ≡ length xs - at
flats_left xs at = length-map (drop at xs) flat_of ∙ length-drop at xs

-- ---- ordinals and ranges of blocks

ordinals_Loop : {A : Type 0} (n : ℕ) (r : Option ValType) (b : Vec (Instr A) A) → instr_ordinals (Loop n r b) ≡ n ∷ ordinals b.items
ordinals_Loop n r b = search (rules, the_lemmas)

pub numbered_Loop : {A : Type 0} (n m : ℕ) (r : Option ValType) (b : Vec (Instr A) A) → Numbered (n + 1) m (ordinals b.items) → Numbered n m (instr_ordinals (Loop n r b))
numbered_Loop n m r b p = let q = numbered_under n m (ordinals b.items) p in (q.0, ordinals_Loop n r b ∙ q.1)

view_If : {A : Type 0} (n : ℕ) (r : Option ValType) (t e : Vec (Instr A) A) → instr_view (If n r t e) ≡ S.If r (instrs_view t.items) (instrs_view e.items)
view_If n r t e = search (rules, the_lemmas)

pub fits_If : {A : Type 0} (n : ℕ) (r : Option ValType) (t e : Vec (Instr A) A) → instrs_fit (instrs_view t.items) ≡ true → instrs_fit (instrs_view e.items) ≡ true → instr_fits (instr_view (If n r t e)) ≡ true
fits_If n r t e p q = ap instr_fits (view_If n r t e) ∙ both (instrs_fit (instrs_view t.items)) (instrs_fit (instrs_view e.items)) p q

-- ---- one more that fits

fit_push : (is : List S.Instr) (i : S.Instr) → instrs_fit (S.instrs_of is) ≡ true → instr_fits i ≡ true → instrs_fit (S.instrs_of (is ++ i ∷ [])) ≡ true
fit_push [] i e f = both (instr_fits i) true f refl
fit_push (j ∷ is) i e f = both (instr_fits j) (instrs_fit (S.instrs_of (is ++ i ∷ []))) (first (instr_fits j) (instrs_fit (S.instrs_of is)) e) (fit_push is i (second (instr_fits j) (instrs_fit (S.instrs_of is)) e) f)

pub fits_more : {A : Type 0} (vs ws : List (Instr A)) (v : Instr A) → instrs_fit (instrs_view vs) ≡ true → instr_fits (instr_view v) ≡ true → ws ≡ vs ++ v ∷ [] → instrs_fit (instrs_view ws) ≡ true
fits_more vs ws v e f is =
    ap (λ l. instrs_fit (instrs_view l)) is ∙ ap (λ l. instrs_fit (S.instrs_of l)) (map-append instr_view vs (v ∷ [])) ∙ fit_push (map instr_view vs) (instr_view v) e f

pub was_not : (b : Bool) → not b ≡ true → b ≡ false
was_not true e = absurd (cc)
was_not false e = refl

pub was_done : (b : Bool) → not b ≡ false → b ≡ true
was_done true e = refl
was_done false e = absurd (cc)

-- ---- blocks

pub too_deep : (s : Spaces) (locals labels : Names) (d : ℕ) (opener : N.Opener) (label : Option (List ℕ)) (result : Option ValType) (fs : List N.Flat)
    → d ≡ 0 → one_at s locals d labels (N.Opens opener label result) fs ≡ None
too_deep s locals labels d N.Block label result fs e = ap (option_and_then (closed label (S.Block result))) (body_none s locals (label ∷ labels) d fs e)
too_deep s locals labels d N.Loop label result fs e = ap (option_and_then (closed label (S.Loop result))) (body_none s locals (label ∷ labels) d fs e)
too_deep s locals labels d N.If label result fs e =
    ap (option_and_then (λ (t : S.Instrs × List N.Flat). option_and_then (branched (body_at s locals d (label ∷ labels)) label (S.If result t.0) t.1) (behind_else label t.1))) (body_none s locals (label ∷ labels) d fs e)

module _ (s : Spaces) (locals labels entered : Names) (d : ℕ) (label : Option (List ℕ)) (result : Option ValType) (fs : List N.Flat) (is : S.Instrs) (rest : List N.Flat)
    (in_block : entered ≡ label ∷ labels) (read : body_at s locals d entered fs ≡ Some (is, rest)) where
  body : List N.Flat → Read S.Instrs
  body = body_at s locals d (label ∷ labels)

  read_is : body_at s locals d (label ∷ labels) fs ≡ Some (is, rest)
  read_is = ap (λ ls. body_at s locals d ls fs) (sym in_block) ∙ read

  pub block_fails : behind_end label rest ≡ None → one_at s locals d labels (N.Opens N.Block label result) fs ≡ None
  block_fails e = ap (option_and_then (closed label (S.Block result))) read_is ∙ ap (option_map (λ (r : List N.Flat). (S.Block result is, r))) e

  pub loop_fails : behind_end label rest ≡ None → one_at s locals d labels (N.Opens N.Loop label result) fs ≡ None
  loop_fails e = ap (option_and_then (closed label (S.Loop result))) read_is ∙ ap (option_map (λ (r : List N.Flat). (S.Loop result is, r))) e

  if_is : (o : Option (Option (List N.Flat))) → behind_else label rest ≡ o
      → one_at s locals d labels (N.Opens N.If label result) fs ≡ option_and_then (branched (body_at s locals d (label ∷ labels)) label (S.If result is) rest) o
  if_is o e =
      ap (option_and_then (λ (t : S.Instrs × List N.Flat). option_and_then (branched (body_at s locals d (label ∷ labels)) label (S.If result t.0) t.1) (behind_else label t.1))) read_is
      ∙ ap (option_and_then (branched (body_at s locals d (label ∷ labels)) label (S.If result is) rest)) e

  pub else_fails : behind_else label rest ≡ None → one_at s locals d labels (N.Opens N.If label result) fs ≡ None
  else_fails e = if_is None e

  pub then_fails : behind_else label rest ≡ Some None → behind_end label rest ≡ None → one_at s locals d labels (N.Opens N.If label result) fs ≡ None
  then_fails e f = if_is (Some None) e ∙ ap (option_map (λ (r : List N.Flat). (S.If result is S.nothing, r))) f

  pub then_is : (hs : List N.Flat) → behind_else label rest ≡ Some None → behind_end label rest ≡ Some hs → one_at s locals d labels (N.Opens N.If label result) fs ≡ Some (S.If result is S.nothing, hs)
  then_is hs e f = if_is (Some None) e ∙ ap (option_map (λ (r : List N.Flat). (S.If result is S.nothing, r))) f

  module _ (es : List N.Flat) (there : behind_else label rest ≡ Some (Some es)) (again : Names) (in_else : again ≡ label ∷ labels) where
    others : (o : Read S.Instrs) → body_at s locals d again es ≡ o → one_at s locals d labels (N.Opens N.If label result) fs ≡ option_and_then (closed label (S.If result is)) o
    others o e = if_is (Some (Some es)) there ∙ ap (option_and_then (closed label (S.If result is))) (ap (λ ls. body_at s locals d ls es) (sym in_else) ∙ e)

    pub others_fail : body_at s locals d again es ≡ None → one_at s locals d labels (N.Opens N.If label result) fs ≡ None
    others_fail e = others None e

    pub others_end_not : (js : S.Instrs) (after : List N.Flat) → body_at s locals d again es ≡ Some (js, after) → behind_end label after ≡ None → one_at s locals d labels (N.Opens N.If label result) fs ≡ None
    others_end_not js after e f = others (Some (js, after)) e ∙ ap (option_map (λ (r : List N.Flat). (S.If result is js, r))) f

    pub others_are : (js : S.Instrs) (after hs : List N.Flat) → body_at s locals d again es ≡ Some (js, after) → behind_end label after ≡ Some hs
        → one_at s locals d labels (N.Opens N.If label result) fs ≡ Some (S.If result is js, hs)
    others_are js after hs e f = others (Some (js, after)) e ∙ ap (option_map (λ (r : List N.Flat). (S.If result is js, r))) f

pub view_of_If : {A : Type 0} (n : ℕ) (r : Option ValType) (t e : Vec (Instr A) A) (o : Read S.Instr) (hs : List N.Flat) → o ≡ Some (S.If r (instrs_view t.items) (instrs_view e.items), hs) → o ≡ Some (instr_view (If n r t e), hs)
view_of_If n r t e o hs p = p ∙ ap (λ i. Some (i, hs)) (sym (view_If n r t e))

-- ---- blocks that are read

module _ (s : Spaces) (locals labels : Names) (d : ℕ) (label : Option (List ℕ)) (result : Option ValType) (fs : List N.Flat) (is : S.Instrs) (rest hs : List N.Flat)
    (read : body_at s locals d (label ∷ labels) fs ≡ Some (is, rest)) (ends : behind_end label rest ≡ Some hs) where
  pub block_is : one_at s locals d labels (N.Opens N.Block label result) fs ≡ Some (S.Block result is, hs)
  block_is = ap (option_and_then (closed label (S.Block result))) read ∙ ap (option_map (λ (r : List N.Flat). (S.Block result is, r))) ends

  pub loop_is : one_at s locals d labels (N.Opens N.Loop label result) fs ≡ Some (S.Loop result is, hs)
  loop_is = ap (option_and_then (closed label (S.Loop result))) read ∙ ap (option_map (λ (r : List N.Flat). (S.Loop result is, r))) ends

pub flats_past : {A : Type 0} (xs : List (Flat A)) (at : ℕ) → length xs ≤ at → flats_from at xs ≡ []
flats_past xs at l = ap (map flat_of) (drop_of_length-le xs l)

-- ---- ordinals that rise by one

counts : (n m : ℕ) → counts_from n (range_with_len n m) ≡ true
counts n zero = refl
counts n (suc m) = rw (eq-eqb n n refl) (counts (n + 1) m)

pub numbered_counts : (from to : ℕ) (ns : List ℕ) → Numbered from to ns → counts_from from ns ≡ true
numbered_counts from to ns p = ap (counts_from from) p.1 ∙ counts from (to - from)

-- a refusal of what is read, as one of what it means
pub unless_none : {X : Type 0} (e : ResolveFault) (r : Option X) (P : Type 0) → (r ≡ None → P) → Fails e r → Unless P e
unless_none NoMemory r P f h = tt
unless_none Broken r P f h = f h
unless_none (UnknownName at) r P f h = f h
unless_none (RepeatedName at) r P f h = f h
unless_none (NumberRange at) r P f h = f h
unless_none (TooLarge limit) r P f h = f h
