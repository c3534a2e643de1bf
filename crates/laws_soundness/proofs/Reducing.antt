-- What a typed sequence does next is typed.
use Rattle.std.proofs.Common.{◌≡◌, ℕ, zero, suc, ◌+◌, ◌≤◌, true, cond, nat_lt, List, [], ◌∷◌, ◌++◌, length, map, reverse, take, drop, refl, sym, ap, ap₂, ◌∙◌, subst, arith, Option, Some, None, append_assoc, append-nil}
use Rattle.std.proofs.lemmas.Bool.{le-leb}
use Rattle.std.proofs.lemmas.List.{length-append, length-map, length-reverse, map-append, reverse-append, reverse-reverse}
use Rattle.wtypes.specs.declared.ValType.{ValType}
use Rattle.wtypes.specs.declared.ValType.TheVariants.{I32, I64}
use Rattle.wtypes.specs.declared.Value.{Value}
use Rattle.wtypes.specs.declared.HostCall.{HostCall}
use Rattle.wtypes.specs.declared.HostCall.TheVariants as host
use Rattle.spec_modules.specs.Profile.{host_type, frame_limit}
use Rattle.spec_modules.specs.Syntax.{Instrs, nothing, seq, FuncType, Func}
use Rattle.spec_ledger.specs.declared.Reply.{Reply}
use Rattle.spec_ledger.specs.declared.Reply.TheVariants as reply
use Rattle.spec_modules.specs.Operators.{type_of}
use Rattle.spec_typing.specs.Typing.{Typed, of}
use Rattle.spec_typing.specs.Modules.{result_of}
use Rattle.spec_typing.specs.Linking.{IsLinked}
use Rattle.spec_typing.specs.Laws.{IsFramed}
use Rattle.spec_execution.specs.Configuration.{Contract, Function, Hosted, Defined, function_at, function_type, Seq, End, Val, Code, Free, Label, Frame, Invoke, code, values, State}
use Rattle.spec_execution.specs.Reduction.{Next, Goes, Traps, Asks, Branches, Returns, Ended, Stuck, with_values, arity, zero_of, effect_of, replied, invoke, in_label, in_frame, reduce}
use Rattle.spec_execution.specs.Run.{IsAnswer, to_get, to_has, to_put, to_del, to_add, to_total}
use Rattle.laws_soundness.specs.ConfigurationTyping.{types, Scope, inside_label, inside_frame, context_in, StateTyped, SeqTyped, NextTyped}
use Rattle.laws_soundness.specs.Laws.{StepsAreTyped}
use Rattle.laws_soundness.proofs.Executing.{under, from_is, code_typed, Kept, kept, goes, either, by_some, one}
use Rattle.laws_soundness.proofs.Functions.{called, IsBody, body_of, result_again, reverse_again, arity_is}

-- ---- lists of values

types_take : (n : ℕ) (vs : List Value) → types (take n vs) ≡ take n (types vs)
types_take zero vs = refl
types_take (suc n) [] = refl
types_take (suc n) (v ∷ vs) = ap (λ ts. type_of v ∷ ts) (types_take n vs)

types_drop : (n : ℕ) (vs : List Value) → types (drop n vs) ≡ drop n (types vs)
types_drop zero vs = refl
types_drop (suc n) [] = refl
types_drop (suc n) (v ∷ vs) = types_drop n vs

take_whole : (ts us : List ValType) → take (length ts) (ts ++ us) ≡ ts
take_whole [] us = refl
take_whole (t ∷ ts) us = ap (λ ts. t ∷ ts) (take_whole ts us)

drop_whole : (ts us : List ValType) → drop (length ts) (ts ++ us) ≡ us
drop_whole [] us = refl
drop_whole (t ∷ ts) us = drop_whole ts us

types_append : (vs ws : List Value) → types (vs ++ ws) ≡ types vs ++ types ws
types_append vs ws = map-append type_of vs ws

types_reverse : (vs : List Value) → types (reverse vs) ≡ reverse (types vs)
types_reverse [] = refl
types_reverse (v ∷ vs) = ap types (reverse-append (v ∷ []) vs) ∙ (types_append (reverse vs) (v ∷ []) ∙ (ap (λ ts. ts ++ (type_of v ∷ [])) (types_reverse vs) ∙ sym (reverse-append (type_of v ∷ []) (types vs))))

types_zeros : (ts : List ValType) → types (map zero_of ts) ≡ ts
types_zeros [] = refl
types_zeros (I32 ∷ ts) = ap (λ us. I32 ∷ us) (types_zeros ts)
types_zeros (I64 ∷ ts) = ap (λ us. I64 ∷ us) (types_zeros ts)

length_of : (r : Option ValType) → arity r ≡ length (of r)
length_of None = refl
length_of (Some t) = refl

framed : IsFramed
framed c nothing from to below e = ap (λ ts. ts ++ below) e
framed c (seq i is) from to below (us, vs, left, t, e, rest) =
    (us, vs, left ++ below, t, ap (λ ts. ts ++ below) e ∙ append_assoc us left below, subst (λ ts. Typed c is ts (to ++ below)) (append_assoc vs left below) (framed c is (vs ++ left) to below rest))

module _ (c : Contract) (s : Scope) (to : List ValType) where
  by_values : (ts below : List ValType) (n : ℕ) (ws : List Value) (f : List Value → List Value → Next) → n ≡ length ts → types ws ≡ ts ++ below →
      ((top rest : List Value) → types top ≡ ts → types rest ≡ below → Kept c s to (f top rest)) → Kept c s to (with_values n ws f)
  by_values ts below n ws f len e h =
      let enough : n ≤ length ws = omega (arith, len, ap length e, length-append ts below, length-map ws type_of) in
      let top : types (take n ws) ≡ ts = types_take n ws ∙ ap (take n) e ∙ ap (λ m. take m (ts ++ below)) len ∙ take_whole ts below in
      let rest : types (drop n ws) ≡ below = types_drop n ws ∙ ap (drop n) e ∙ ap (λ m. drop m (ts ++ below)) len ∙ drop_whole ts below in
      subst (λ b. Kept c s to (cond b (f (take n ws) (drop n ws)) Stuck)) (sym (le-leb n (length ws) enough)) (h (take n ws) (drop n ws) top rest)

  -- values come before a typed sequence
  puts : (n : ℕ) (state : State) (vs ws : List Value) (rest : Seq) (ts us : List ValType) → StateTyped c.deployed s.locals state → types vs ≡ ts → types ws ≡ us → SeqTyped c.deployed s rest (us ++ ts) to → Kept c s to (Goes n state (values vs (values ws rest)))
  puts n state vs ws rest ts us st e e' h = goes c s to n state vs (values ws rest) ts st e (under c.deployed s ws rest ts to (from_is c.deployed s rest (types ws ++ ts) (us ++ ts) to (ap (λ xs. xs ++ ts) e') h))

  one_label : (state : State) (n at : ℕ) (k : Instrs) (vs : List Value) (rest : Seq) (target result : Option ValType) (x : Next) → StateTyped c.deployed s.locals state → n ≡ arity target → s.in_function ≡ true → Typed (context_in c.deployed.tree s) k (of target) (of result) →
      SeqTyped c.deployed s rest (of result ++ types vs) to → NextTyped c.deployed (inside_label target s) (of result) x → Kept c s to (in_label state n at k vs rest x)
  one_label state n at k vs rest target result (Goes charge state' inside) st a f t h g = goes c s to charge state' vs (Label n at k inside rest) (types vs) g.0 refl (target, result, a, f, t, g.1, h)
  one_label state n at k vs rest target result (Traps charge code) st a f t h g = kept c s to tt
  one_label state n at k vs rest target result (Asks o go) st a f t h g = kept c s to (λ r is. under c.deployed s vs (Label n at k (go r) rest) [] to (target, result, a, f, t, g r is, from_is c.deployed s rest _ _ to (ap (λ ts. of result ++ ts) (append-nil (types vs))) h))
  one_label state n at k vs rest target result (Branches charge zero ws) st a f t h (other, below, is, e) =
      let same : target ≡ other = (let i : Some target ≡ Some other = is in cc) in
      by_values (of target) below n ws _ (a ∙ length_of target) (e ∙ ap (λ r. of r ++ below) (sym same)) (λ top left e0 e1. puts charge state vs top (code at k rest) (types vs) (of target) st refl e0
      (code_typed c.deployed s k at rest (of target ++ types vs) (of result ++ types vs) to f (framed (context_in c.deployed.tree s) k (of target) (of result) (types vs) t) h))
  one_label state n at k vs rest target result (Branches charge (suc l) ws) st a f t h g = kept c s to g
  one_label state n at k vs rest target result (Returns charge ws) st a f t h g = kept c s to g
  one_label state n at k vs rest target result (Ended ws) st a f t h g = puts 0 state vs ws rest (types vs) (of result) st refl g h
  one_label state n at k vs rest target result Stuck st a f t h g = absurd g

  one_frame : (state : State) (func n : ℕ) (locals vs : List Value) (rest : Seq) (result : Option ValType) (x : Next) → StateTyped c.deployed s.locals state → n ≡ arity result →
      SeqTyped c.deployed s rest (of result ++ types vs) to → NextTyped c.deployed (inside_frame (types locals) result) (of result) x → Kept c s to (in_frame state func n locals vs rest x)
  one_frame state func n locals vs rest result (Goes charge state' inside) st a h (l, g) =
      goes c s to charge _ vs (Frame func n state'.locals inside rest) (types vs) (record { locals_are = st.locals_are; globals_are = l.globals_are; elements = l.elements }) refl
      (result, a, subst (λ ts. SeqTyped c.deployed (inside_frame ts result) inside [] (of result)) (sym l.locals_are) g, h)
  one_frame state func n locals vs rest result (Traps charge code) st a h g = kept c s to tt
  one_frame state func n locals vs rest result (Asks o go) st a h g = kept c s to (λ r is. under c.deployed s vs (Frame func n locals (go r) rest) [] to (result, a, g r is, from_is c.deployed s rest _ _ to (ap (λ ts. of result ++ ts) (append-nil (types vs))) h))
  one_frame state func n locals vs rest result (Branches charge l ws) st a h (other, below, is, e) = absurd (cc)
  one_frame state func n locals vs rest result (Returns charge ws) st a h (below, f, e) =
      by_values (of result) below n ws _ (a ∙ length_of result) e (λ top left e0 e1. puts charge state vs top rest (types vs) (of result) st refl e0 h)
  one_frame state func n locals vs rest result (Ended ws) st a h g = puts 0 state vs ws rest (types vs) (of result) st refl g h
  one_frame state func n locals vs rest result Stuck st a h g = absurd g

  one_reply : (h : HostCall) (args : List Value) (r : Reply) (rest : Seq) (below : List ValType) → IsAnswer (effect_of c.number h args) r → SeqTyped c.deployed s rest (reverse (host_type h).results ++ below) to → SeqTyped c.deployed s (replied r rest) below to
  one_reply host.Get args r rest below (to_get q y fits) g = g
  one_reply host.Has args r rest below (to_has q y fits) g = g
  one_reply host.Put args r rest below (to_put q y) g = g
  one_reply host.Del args r rest below (to_del q y fits) g = g
  one_reply host.Add args r rest below (to_add q y) g = g
  one_reply host.Total args r rest below (to_total q y fits) g = g
  one_reply host.Ask args (reply.I32 x) rest below is g = g
  one_reply host.Ask args reply.Nothing rest below is g = absurd is
  one_reply host.Ask args (reply.I64 x) rest below is g = absurd is
  one_reply host.Answer args (reply.I64 x) rest below is g = g
  one_reply host.Answer args reply.Nothing rest below is g = absurd is
  one_reply host.Answer args (reply.I32 x) rest below is g = absurd is

module _ (c : Contract) (linked : IsLinked c.deployed.tree c.deployed.hosts) where
  entered : (t : FuncType) (g : Func) (locals : List Value) → IsBody c.deployed linked t g → types locals ≡ t.params ++ g.locals →
      SeqTyped c.deployed (inside_frame (types locals) (result_of t.results)) (Label (length t.results) 0 nothing (code 0 g.body End) End) [] (of (result_of t.results))
  entered t g locals is e = let r = result_of t.results in (
    r,
    r,
    arity_is t.results is.one_result,
    refl,
    refl,
    code_typed c.deployed (inside_label r (inside_frame (types locals) r)) g.body 0 End [] (of r) (of r) refl (subst (λ ts. Typed (context_in c.deployed.tree (inside_label r (inside_frame ts r))) g.body [] (of r)) (sym e) is.body) refl,
    append-nil (of r),
  )

  one_invoke : (s : Scope) (to : List ValType) (frames : ℕ) (state : State) (f : ℕ) (g : Function) (top vs : List Value) (rest : Seq) (below : List ValType) → StateTyped c.deployed s.locals state → function_at c.deployed f ≡ Some g →
      types top ≡ reverse (function_type g).params → types vs ≡ below → SeqTyped c.deployed s rest (reverse (function_type g).results ++ below) to → Kept c s to (invoke c frames state f g (reverse top) vs rest)
  one_invoke s to frames state f (Hosted h) top vs rest below st e p q g =
      kept c s to (λ r is. under c.deployed s vs (replied r rest) [] to (one_reply c s to h (reverse top) r rest (types vs ++ []) is (from_is c.deployed s rest _ _ to (ap (λ ts. reverse (host_type h).results ++ ts) (append-nil (types vs) ∙ q)) g)))
  one_invoke s to frames state f (Defined t g) top vs rest below st e p q h =
      let is = body_of c.deployed linked f t g e in
      let locals : types (reverse top ++ map zero_of g.locals) ≡ t.params ++ g.locals = types_append (reverse top) (map zero_of g.locals) ∙ ap₂ (λ xs ys. xs ++ ys) (types_reverse top ∙ ap reverse p ∙ reverse-reverse t.params) (types_zeros g.locals) in
      let results : of (result_of t.results) ≡ reverse t.results = result_again t.results is.one_result ∙ sym (reverse_again t.results is.one_result) in
      either c s to (nat_lt frames frame_limit) _ _ (λ _. goes c s to 0 state vs _ below st q
      (result_of t.results, arity_is t.results is.one_result, entered t g (reverse top ++ map zero_of g.locals) is locals, from_is c.deployed s rest _ _ to (ap (λ ts. ts ++ below) results) h)) (kept c s to tt)

  pub step : (frames : ℕ) (state : State) (s : Scope) (vs : List Value) (q : Seq) (to : List ValType) → StateTyped c.deployed s.locals state → SeqTyped c.deployed s q (types vs) to → Kept c s to (reduce c frames state vs q)
  unfolding reduce
  step frames state s vs End to st h = kept c s to h
  step frames state s vs (Val v rest) to st h = step frames state s (v ∷ vs) rest to st h
  step frames state s vs (Code at i rest) to st (us, rs, below, f, t, e, h) = one c s to state st rest below (called c.deployed linked) f 1 at i vs us rs t e h
  step frames state s vs (Free i rest) to st (us, rs, below, f, t, e, h) = one c s to state st rest below (called c.deployed linked) f 0 0 i vs us rs t e h
  step frames state s vs (Label n at k inside rest) to st (target, result, a, f, t, g, h) =
      one_label c s to state n at k vs rest target result (reduce c frames state [] inside) st a f t h (step frames state (inside_label target s) [] inside (of result) st g).is
  step frames state s vs (Frame func n locals inside rest) to st (result, a, g, h) =
      one_frame c s to state func n locals vs rest result (reduce c (frames + 1) (record state { locals = locals }) [] inside) st a h
      (step (frames + 1) (record state { locals = locals }) (inside_frame (types locals) result) [] inside (of result) (record { locals_are = refl; globals_are = st.globals_are; elements = st.elements }) g).is
  step frames state s vs (Invoke f rest) to st (g, below, at, e, h) =
      by_some c s to (function_at c.deployed f) g _ at (by_values c s to (reverse (function_type g).params) below _ vs _ (sym (length-reverse (function_type g).params)) e (λ top left e0 e1. one_invoke s to frames state f g top left rest below st at e0 e1 h))

pub steps_typed : StepsAreTyped
steps_typed c frames state s vs q to linked st h = (step c linked frames state s vs q to st h).is
