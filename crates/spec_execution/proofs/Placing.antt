-- Every reduction keeps the places.
use Rattle.std.proofs.Common.{◌≡◌, ℕ, zero, suc, ◌+◌, Bool, true, false, cond, List, [], ◌∷◌, ◌++◌, refl, sym, ap, ◌∙◌, subst, arith, Option, Some, None, length, nat_le, nat_lt, ◌==◌, map, reverse, append_assoc}
use Rattle.std.specs.Prelude.{Result, Ok, Err, slice_get, take, drop, unwrap_or}
use Rattle.std.proofs.lemmas.List.{length-append}
use Rattle.wtypes.specs.declared.ValType.{ValType}
use Rattle.wtypes.specs.declared.ValType.TheVariants.{I32}
use Rattle.wtypes.specs.declared.Value.{Value}
use Rattle.wtypes.specs.declared.TrapCode.{TrapCode}
use Rattle.wtypes.specs.declared.TrapCode.TheVariants as trap
use Rattle.wtypes.specs.declared.PlainInstr.{PlainInstr}
use Rattle.wtypes.specs.declared.PlainInstr.TheVariants.{Unreachable, Nop, Br, BrIf, Return, Call, CallIndirect, Drop, Select, LocalGet, LocalSet, LocalTee, GlobalGet, GlobalSet, Load, Store, MemorySize, MemoryGrow, Const, Unary, Binary, Test, Compare, Convert}
use Rattle.spec_modules.specs.Syntax.{Instr, Plain, BrTable, Block, Loop, If, Instrs, nothing, seq, FuncType}
use Rattle.spec_modules.specs.Shape.{instr_preorder, preorder, size}
use Rattle.spec_ledger.specs.declared.Reply.{Reply}
use Rattle.spec_ledger.specs.declared.Reply.TheVariants as reply
use Rattle.spec_modules.specs.Operators.{same_type, type_of, bits_of}
use Rattle.spec_modules.specs.Storage.{load_type, load_width, extended, store_width}
use Rattle.spec_modules.specs.Memory.{load, store}
use Rattle.spec_execution.specs.Configuration.{Contract, Function, Hosted, Defined, function_at, function_type, Seq, End, Val, Code, Free, Label, Frame, Invoke, code, values, State, instr_size}
use Rattle.spec_modules.specs.Profile.{frame_limit}
use Rattle.spec_execution.specs.Reduction.{Next, Goes, Traps, Asks, Branches, Returns, Ended, Stuck, with_number, with_value, with_values, found, answered, loaded, stored, grown, most_pages, pages, same_function_type, zero_of, indirect, replied, invoke, execute_plain, execute, in_label, in_frame, reduce}
use Rattle.spec_execution.specs.Places.{StandsAt, AllStandFrom, body_of, body_of_function, IsPlain, IsPlaced, IsPlacedNext, PlacesAreKept}

module _ (c : Contract) (body : Instrs) where
  all_from : (is : Instrs) (n : ℕ) (before later : List Instr) → preorder body ≡ before ++ (preorder is ++ later) → length before ≡ n → AllStandFrom body n is
  all_from nothing n before later e l = tt
  all_from (seq i is) n before later e l =
      let e' : preorder body ≡ before ++ (instr_preorder i ++ (preorder is ++ later)) = e ∙ ap (λ x. before ++ x) (append_assoc (instr_preorder i) (preorder is) later) in (
        record { before = before; later = preorder is ++ later; split = e'; ordinal = l },
        all_from is (n + instr_size i) (before ++ instr_preorder i) later (e' ∙ sym (append_assoc before (instr_preorder i) (preorder is ++ later)))
            (length-append before (instr_preorder i) ∙ ap (λ x. x + instr_size i) l),
      )

  placed_code : (is : Instrs) (n : ℕ) (a : Seq) → AllStandFrom body n is → IsPlaced c body a → IsPlaced c body (code n is a)
  placed_code nothing n a h p = p
  placed_code (seq i is) n a h p = (h.0, placed_code is (n + instr_size i) a h.1 p)

  abbrev Good : Next → Type 0
  Good x = IsPlacedNext c body x

  record Kept (x : Next) : Type 0 where
    is : Good x

  under : (vs : List Value) (a : Seq) → IsPlaced c body a → IsPlaced c body (values vs a)
  under [] a p = p
  under (v ∷ vs) a p = under vs (Val v a) p

  to_kept : (n : ℕ) (s : State) (vs : List Value) (a : Seq) → IsPlaced c body a → Kept (Goes n s (values vs a))
  to_kept n s vs a p = record { is = under vs a p }

  no : {x : Next} → Good x → Kept x
  no p = record { is = p }

  either : (b : Bool) (x y : Next) → Kept x → Kept y → Kept (cond b x y)
  either true x y p q = p
  either false x y p q = q

  by_number : (t : ValType) (vs : List Value) (f : ℕ → List Value → Next) → ((k : ℕ) (vs : List Value) → Kept (f k vs)) → Kept (with_number t vs f)
  by_number t [] f h = no tt
  by_number t (v ∷ vs) f h = either (same_type t (type_of v)) (f (bits_of v) vs) Stuck (h (bits_of v) vs) (no tt)

  by_value : (vs : List Value) (f : Value → List Value → Next) → ((v : Value) (vs : List Value) → Kept (f v vs)) → Kept (with_value vs f)
  by_value [] f h = no tt
  by_value (v ∷ vs) f h = h v vs

  by_values : (n : ℕ) (vs : List Value) (f : List Value → List Value → Next) → ((top below : List Value) → Kept (f top below)) → Kept (with_values n vs f)
  by_values n vs f h = either (nat_le n (length vs)) (f (take n vs) (drop n vs)) Stuck (h (take n vs) (drop n vs)) (no tt)

  by_found : {X : Type 0} (x : Option X) (f : X → Next) → ((y : X) → x ≡ Some y → Kept (f y)) → Kept (found x f)
  by_found None f h = no tt
  by_found (Some x) f h = h x refl

  by_answer : {X : Type 0} (n : ℕ) (r : Result X TrapCode) (f : X → Next) → ((x : X) → Kept (f x)) → Kept (answered n r f)
  by_answer n (Ok x) f h = h x
  by_answer n (Err t) f h = no tt

  by_load : (n : ℕ) (s : State) (t : ValType) (bytes : ℕ) (extend : ℕ → ℕ) (at : ℕ) (vs : List Value) (a : Seq) → IsPlaced c body a → Kept (loaded n s t bytes extend at vs a)
  unfolding loaded
  by_load n s t bytes extend at vs a p = by_answer n (load s.memory at bytes) _ (λ x. to_kept n s vs (Val _ a) p)

  by_store : (n : ℕ) (s : State) (bytes at x : ℕ) (vs : List Value) (a : Seq) → IsPlaced c body a → Kept (stored n s bytes at x vs a)
  unfolding stored
  by_store n s bytes at x vs a p = by_answer n (store s.memory at bytes x) _ (λ memory. to_kept n _ vs a p)

  by_growth : (n : ℕ) (s : State) (delta : ℕ) (vs : List Value) (a : Seq) → IsPlaced c body a → Kept (grown c n s delta vs a)
  unfolding grown
  by_growth n s delta vs a p = either (nat_le (pages s.memory + delta) (most_pages c.version c.deployed.tree.memories)) _ _ (to_kept n _ vs (Val _ a) p) (to_kept n s vs (Val _ a) p)

  by_element : (n : ℕ) (s : State) (t : FuncType) (e : Option (Option ℕ)) (vs : List Value) (a : Seq) → IsPlaced c body a → Kept (indirect c n s t e vs a)
  by_element n s t None vs a p = no tt
  by_element n s t (Some None) vs a p = no tt
  by_element n s t (Some (Some f)) vs a p = by_found (function_at c.deployed f) _ (λ g e. either (same_function_type t (function_type g)) _ (Traps n trap.TypeMismatch) (to_kept n s vs (Invoke f a) p) (no tt))

  by_branch : (b : Bool) (l : ℕ) (a : Seq) → IsPlaced c body a → IsPlaced c body (cond b a (Free (Plain (Br l)) a))
  by_branch true l a p = p
  by_branch false l a p = (tt, p)

  one_plain : (s : State) (n : ℕ) (i : PlainInstr) (vs : List Value) (a : Seq) → IsPlaced c body a → Kept (execute_plain c s n i vs a)
  unfolding execute_plain
  one_plain s n Unreachable vs a p = no tt
  one_plain s n Nop vs a p = to_kept n s vs a p
  one_plain s n (Const v) vs a p = to_kept n s vs (Val v a) p
  one_plain s n Drop vs a p = by_value vs _ (λ v vs. to_kept n s vs a p)
  one_plain s n Select vs a p = by_number I32 vs _ (λ k vs. by_value vs _ (λ b vs. by_value vs _ (λ x vs. to_kept n s vs (Val (cond (k == 0) b x) a) p)))
  one_plain s n (Unary o) vs a p = by_number _ vs _ (λ x vs. to_kept n s vs (Val _ a) p)
  one_plain s n (Binary o) vs a p = by_number _ vs _ (λ y vs. by_number _ vs _ (λ x vs. by_answer n _ _ (λ r. to_kept n s vs (Val _ a) p)))
  one_plain s n (Test o) vs a p = by_number _ vs _ (λ x vs. to_kept n s vs (Val _ a) p)
  one_plain s n (Compare o) vs a p = by_number _ vs _ (λ y vs. by_number _ vs _ (λ x vs. to_kept n s vs (Val _ a) p))
  one_plain s n (Convert o) vs a p = by_number _ vs _ (λ x vs. to_kept n s vs (Val _ a) p)
  one_plain s n (LocalGet x) vs a p = by_found (slice_get s.locals x) _ (λ v e. to_kept n s vs (Val v a) p)
  one_plain s n (LocalSet x) vs a p = by_value vs _ (λ v vs. by_found (slice_get s.locals x) _ (λ old e. to_kept n _ vs a p))
  one_plain s n (LocalTee x) vs a p = by_value vs _ (λ v vs. to_kept n s vs (Val v (Val v (Free (Plain (LocalSet x)) a))) (tt, p))
  one_plain s n (GlobalGet x) vs a p = by_found (slice_get s.globals x) _ (λ v e. to_kept n s vs (Val v a) p)
  one_plain s n (GlobalSet x) vs a p = by_value vs _ (λ v vs. by_found (slice_get s.globals x) _ (λ old e. to_kept n _ vs a p))
  one_plain s n (Load o align offset) vs a p = by_number I32 vs _ (λ x vs. by_load n s (load_type o) (load_width o) (extended o) (x + offset) vs a p)
  one_plain s n (Store o align offset) vs a p = by_number _ vs _ (λ y vs. by_number I32 vs _ (λ x vs. by_store n s (store_width o) (x + offset) y vs a p))
  one_plain s n MemorySize vs a p = to_kept n s vs (Val _ a) p
  one_plain s n MemoryGrow vs a p = by_number I32 vs _ (λ x vs. by_growth n s x vs a p)
  one_plain s n (Br l) vs a p = no tt
  one_plain s n (BrIf l) vs a p = by_number I32 vs _ (λ k vs. to_kept n s vs _ (by_branch (k == 0) l a p))
  one_plain s n Return vs a p = no tt
  one_plain s n (Call f) vs a p = to_kept n s vs (Invoke f a) p
  one_plain s n (CallIndirect t) vs a p = by_number I32 vs _ (λ k vs. by_found (slice_get c.deployed.tree.types t) _ (λ type e. by_element n s type (slice_get s.table k) vs a p))

  -- the sequence inside an instruction that stands at an ordinal
  inside_of : (at : ℕ) (i : Instr) (h : StandsAt body at i) (b : Instrs) (front behind : List Instr) → instr_preorder i ≡ front ++ (preorder b ++ behind) → AllStandFrom body (at + length front) b
  inside_of at i h b front behind e =
      all_from b (at + length front) (h.before ++ front) (behind ++ h.later)
      (h.split ∙ ap (λ x. h.before ++ (x ++ h.later)) e ∙ ap (λ x. h.before ++ x) (append_assoc front (preorder b ++ behind) h.later ∙ ap (λ x. front ++ x) (append_assoc (preorder b) behind h.later)) ∙ sym (append_assoc h.before front (preorder b ++ (behind ++ h.later))))
      (length-append h.before front ∙ ap (λ x. x + length front) h.ordinal)

  nil_behind : (l : List Instr) → l ≡ l ++ []
  nil_behind [] = refl
  nil_behind (x ∷ l) = ap (λ m. x ∷ m) (nil_behind l)

  one : (s : State) (n at : ℕ) (i : Instr) (vs : List Value) (a : Seq) → StandsAt body at i → IsPlaced c body a → Kept (execute c s n at i vs a)
  unfolding execute
  one s n at (Plain i) vs a h p = one_plain s n i vs a p
  one s n at (BrTable ls l) vs a h p = by_number I32 vs _ (λ k vs. to_kept n s vs (Free (Plain (Br (unwrap_or (slice_get ls k) l))) a) (tt, p))
  one s n at (Block r b) vs a h p = to_kept n s vs (Label _ at nothing (code (at + 1) b End) a)
      (tt, placed_code b (at + 1) End (inside_of at (Block r b) h b (Block r b ∷ []) [] (ap (λ m. Block r b ∷ m) (nil_behind (preorder b)))) tt, p)
  one s n at (Loop r b) vs a h p = to_kept n s vs (Label 0 at (seq (Loop r b) nothing) (code (at + 1) b End) a)
      ((h, tt), placed_code b (at + 1) End (inside_of at (Loop r b) h b (Loop r b ∷ []) [] (ap (λ m. Loop r b ∷ m) (nil_behind (preorder b)))) tt, p)
  one s n at (If r t e) vs a h p = by_number I32 vs _ (λ k vs. to_kept n s vs (Label _ at nothing (cond (k == 0) (code (at + 1 + size t) e End) (code (at + 1) t End)) a) (tt, arms (k == 0), p))
    where
      else_at : AllStandFrom body (at + 1 + size t) e
      else_at = subst (λ (m : ℕ). AllStandFrom body m e) (let g : at + (1 + size t) ≡ at + 1 + size t = omega arith in g) (subst (λ (m : ℕ). AllStandFrom body (at + m) e) (let g : suc (size t) ≡ 1 + size t = omega arith in g)
          (inside_of at (If r t e) h e (If r t e ∷ preorder t) [] (ap (λ m. If r t e ∷ (preorder t ++ m)) (nil_behind (preorder e)))))

      arms : (b : Bool) → IsPlaced c body (cond b (code (at + 1 + size t) e End) (code (at + 1) t End))
      arms true = placed_code e (at + 1 + size t) End else_at tt
      arms false = placed_code t (at + 1) End (inside_of at (If r t e) h t (If r t e ∷ []) (preorder e) refl) tt

  one_label : (s : State) (n at : ℕ) (k : Instrs) (vs : List Value) (a : Seq) (x : Next) → AllStandFrom body at k → IsPlaced c body a → Good x → Kept (in_label s n at k vs a x)
  one_label s n at k vs a (Goes charge s' inside) h p g = to_kept charge s' vs (Label n at k inside a) (h, g, p)
  one_label s n at k vs a (Traps charge t) h p g = no tt
  one_label s n at k vs a (Asks o go) h p g = no (λ r. under vs (Label n at k (go r) a) (h, g r, p))
  one_label s n at k vs a (Branches charge zero ws) h p g = by_values n ws _ (λ top below. to_kept charge s vs (values top (code at k a)) (under top (code at k a) (placed_code k at a h p)))
  one_label s n at k vs a (Branches charge (suc l) ws) h p g = no tt
  one_label s n at k vs a (Returns charge ws) h p g = no tt
  one_label s n at k vs a (Ended ws) h p g = to_kept 0 s vs (values ws a) (under ws a p)
  one_label s n at k vs a Stuck h p g = no tt

  one_frame : (s : State) (f n : ℕ) (ls vs : List Value) (a : Seq) (x : Next) → IsPlaced c body a → IsPlacedNext c (body_of c f) x → Kept (in_frame s f n ls vs a x)
  one_frame s f n ls vs a (Goes charge s' inside) p g = to_kept charge _ vs (Frame f n s'.locals inside a) (g, p)
  one_frame s f n ls vs a (Traps charge t) p g = no tt
  one_frame s f n ls vs a (Asks o go) p g = no (λ r. under vs (Frame f n ls (go r) a) (g r, p))
  one_frame s f n ls vs a (Branches charge l ws) p g = no tt
  one_frame s f n ls vs a (Returns charge ws) p g = by_values n ws _ (λ top below. to_kept charge s vs (values top a) (under top a p))
  one_frame s f n ls vs a (Ended ws) p g = to_kept 0 s vs (values ws a) (under ws a p)
  one_frame s f n ls vs a Stuck p g = no tt

  one_reply : (r : Reply) (a : Seq) → IsPlaced c body a → IsPlaced c body (replied r a)
  one_reply reply.Nothing a p = p
  one_reply (reply.I32 x) a p = p
  one_reply (reply.I64 x) a p = p

whole : (c : Contract) (body : Instrs) → AllStandFrom body 0 body
whole c body = all_from c body body 0 [] [] (nil_behind c body (preorder body)) refl

entered : (c : Contract) (body : Instrs) → IsPlaced c body (code 0 body End)
entered c body = placed_code c body body 0 End (whole c body) tt

one_invoke : (c : Contract) (body : Instrs) (frames : ℕ) (s : State) (f : ℕ) (g : Function) (args vs : List Value) (a : Seq) → function_at c.deployed f ≡ Some g → IsPlaced c body a → Kept c body (invoke c frames s f g args vs a)
one_invoke c body frames s f (Hosted h) args vs a e p = no c body (λ r. under c body vs (replied r a) (one_reply c body r a p))
one_invoke c body frames s f (Defined t g) args vs a e p =
    let n = length t.results in
    let inside = Label n 0 nothing (code 0 g.body End) End in
    let here : IsPlaced c g.body inside = (tt, entered c g.body, tt) in
    either c body (nat_lt frames frame_limit) _ (Traps 0 trap.CallDepth)
    (to_kept c body 0 s vs (Frame f n (args ++ map zero_of g.locals) inside a) (subst (λ (o : Option Function). IsPlaced c (body_of_function o) inside) (sym e) here, p)) (no c body tt)

one_free : (c : Contract) (body : Instrs) (s : State) (i : Instr) (vs : List Value) (a : Seq) → IsPlain i → IsPlaced c body a → Kept c body (execute c s 0 0 i vs a)
unfolding execute
one_free c body s (Plain i) vs a h p = one_plain c body s 0 i vs a p
one_free c body s (BrTable ls l) vs a h p = absurd h
one_free c body s (Block r b) vs a h p = absurd h
one_free c body s (Loop r b) vs a h p = absurd h
one_free c body s (If r t e) vs a h p = absurd h

part : (c : Contract) (body : Instrs) (frames : ℕ) (s : State) (vs : List Value) (q : Seq) → IsPlaced c body q → Kept c body (reduce c frames s vs q)
unfolding reduce
part c body frames s vs End p = no c body tt
part c body frames s vs (Val v rest) p = part c body frames s (v ∷ vs) rest p
part c body frames s vs (Code at i rest) p = one c body s 1 at i vs rest p.0 p.1
part c body frames s vs (Free i rest) p = one_free c body s i vs rest p.0 p.1
part c body frames s vs (Label n at k inside rest) p = one_label c body s n at k vs rest (reduce c frames s [] inside) p.0 p.2 (part c body frames s [] inside p.1).is
part c body frames s vs (Frame f n ls inside rest) p =
    one_frame c body s f n ls vs rest (reduce c (frames + 1) (record s { locals = ls }) [] inside) p.1 (part c (body_of c f) (frames + 1) (record s { locals = ls }) [] inside p.0).is
part c body frames s vs (Invoke f rest) p =
    by_found c body (function_at c.deployed f) _ (λ g e. by_values c body _ vs _ (λ top below. one_invoke c body frames s f g (reverse top) below rest e p))

pub places_are_kept : PlacesAreKept
places_are_kept c body frames s vs q p = (part c body frames s vs q p).is
