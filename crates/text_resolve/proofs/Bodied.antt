-- Bodies, as they are resolved and by the definitions.
use Rattle.std.proofs.Common.{◌≡◌, ℕ, zero, suc, ◌-◌, ◌<◌, ◌≤◌, true, false, List, [], ◌∷◌, length, Option, Some, None, refl, sym, ap, ◌∙◌, subst, arith, inl, inr}
use Rattle.std.specs.Prelude.{option_map, option_and_then, nat_le}
use Rattle.std.proofs.lemmas.Slice.Eq.{bytes_eq-Decides}
use Rattle.std.proofs.lemmas.Option.{none-some, same_Some, some_pair_parts}
use Rattle.std.proofs.lemmas.Bool.{cond-true, le-leb}
use Rattle.wtypes.specs.declared.ValType.{ValType}
use Rattle.spec_modules.specs.Syntax as S
use Rattle.spec_modules.specs.Shape.{instr_depth, instrs_depth}
use Rattle.spec_modules.specs.Profile.{nesting_limit}
use Rattle.spec_modules.specs.Limits.{instrs_fit, expression_fits, both}
use Rattle.spec_modules.specs.Spells.{InstrLabelsFit, LabelsFit, ExpressionFits}
use Rattle.spec_text.specs.FieldsOfBytes as N
use Rattle.spec_text.specs.Spaces.{Names, Spaces}
use Rattle.spec_text.specs.Instructions.{Becomes, simply, with_index, br_table, call_indirect, load, store, const, Closes, not_named, named_again, Body, nothing, plain, block, loop, if_then, if_else}
use Rattle.text_resolve.proofs.Lookups.{mapped, picked}
use Rattle.text_resolve.proofs.Standing.{chained}
use Rattle.text_resolve.specs.Plain.{plain_at}
use Rattle.text_resolve.specs.Bodies.{Read, stops, is_done, closes, behind_end, behind_else, closed, branched, one_with, one_at, seq_at, body_at, NoBody, ExpressionsAreOne}
use Rattle.text_resolve.proofs.Plains.{plain_is, becomes_is_read}
use Rattle.text_resolve.proofs.Turns.{turn_more, turn_ends, body_opens, block_is, loop_is, then_is, others_are}

-- ---- names behind end and else

closes_is : (label closing : Option (List ℕ)) → closes label closing ≡ true → Closes label closing
closes_is label None e = not_named
closes_is None (Some id) e = absurd (cc)
closes_is (Some name) (Some id) e = subst (λ (x : List ℕ). Closes (Some name) (Some x)) ((bytes_eq-Decides name id).0 e) named_again

closes_is_read : {label closing : Option (List ℕ)} → Closes label closing → closes label closing ≡ true
closes_is_read not_named = refl
closes_is_read (named_again {id}) = (bytes_eq-Decides id id).1 refl

end_is : (label : Option (List ℕ)) (fs hs : List N.Flat) → behind_end label fs ≡ Some hs → (closing : Option (List ℕ)) × (fs ≡ N.End closing ∷ hs) × Closes label closing
end_is label [] hs e = absurd (none-some hs e)
end_is label (N.End closing ∷ fs) hs e = elim (picked (closes label closing) (Some fs) None (Some hs) e) [
  | inl p ↦ (closing, ap (λ l. N.End closing ∷ l) (same_Some fs hs p.1), closes_is label closing p.0)
  | inr p ↦ absurd (none-some hs p.1)
]
end_is label (f ∷ fs) hs e = absurd (none-some hs e)

end_is_read : (label closing : Option (List ℕ)) (hs : List N.Flat) → Closes label closing → behind_end label (N.End closing ∷ hs) ≡ Some hs
end_is_read label closing hs c = cond-true (closes label closing) (Some hs) None (closes_is_read c)

else_is : (label : Option (List ℕ)) (fs es : List N.Flat) → behind_else label fs ≡ Some (Some es) → (other : Option (List ℕ)) × (fs ≡ N.Else other ∷ es) × Closes label other
else_is label [] es e = absurd (none-some es (same_Some None (Some es) e))
else_is label (N.Else other ∷ fs) es e = elim (picked (closes label other) (Some (Some fs)) None (Some (Some es)) e) [
  | inl p ↦ (other, ap (λ l. N.Else other ∷ l) (same_Some fs es (same_Some (Some fs) (Some es) p.1)), closes_is label other p.0)
  | inr p ↦ absurd (none-some (Some es) p.1)
]
else_is label (f ∷ fs) es e = absurd (none-some es (same_Some None (Some es) e))

else_is_read : (label other : Option (List ℕ)) (es : List N.Flat) → Closes label other → behind_else label (N.Else other ∷ es) ≡ Some (Some es)
else_is_read label other es c = cond-true (closes label other) (Some (Some es)) None (closes_is_read c)

-- ---- what is read is a body

module _ (s : Spaces) (locals : Names) where
  -- a body of fewer levels
  pub record Good (d : ℕ) (labels : Names) (fs gs : List N.Flat) (is : S.Instrs) : Type 0 where
    pub body : Body s locals labels fs gs is
    pub depth : instrs_depth is < d
    pub fits : LabelsFit is

  -- an instruction in front of a body
  pub record GoodOne (d : ℕ) (labels : Names) (f : N.Flat) (fs hs : List N.Flat) (i : S.Instr) : Type 0 where
    pub before : (gs : List N.Flat) (is : S.Instrs) → Body s locals labels hs gs is → Body s locals labels (f ∷ fs) gs (S.seq i is)
    pub depth : instr_depth i ≤ d
    pub fits : InstrLabelsFit i

  module _ (d : ℕ) (again : (labels : Names) (fs gs : List N.Flat) (is : S.Instrs) → body_at s locals d labels fs ≡ Some (is, gs) → Good d labels fs gs is) (labels : Names) where
    one_plain : (f : N.Flat) (fs hs : List N.Flat) (i : S.Instr) → option_map {U = S.Instr × List N.Flat} (λ (i : S.Instr). (i, fs)) (plain_at s locals labels f) ≡ Some (i, hs) → GoodOne d labels f fs hs i
    one_plain f fs hs i e =
        let m = mapped (λ (i : S.Instr). (i, fs)) (plain_at s locals labels f) (i, hs) e in
        let q : (m.0 ≡ i) × (fs ≡ hs) = some_pair_parts m.0 i fs hs (ap (λ (x : S.Instr × List N.Flat). Some x) m.2) in
        let p = plain_is s locals labels f i (m.1 ∙ ap (λ (x : S.Instr). Some x) q.0) in
        record {
          before = λ gs is b. plain p.0 (subst (λ l. Body s locals labels l gs is) (sym q.1) b);
          depth = no_depth f i p.0;
          fits = p.1;
        }
      where
        no_depth : {labels : Names} (f : N.Flat) (i : S.Instr) → Becomes s locals labels f i → instr_depth i ≤ d
        no_depth f i (simply e) = omega arith
        no_depth f i (with_index e st) = omega arith
        no_depth f i (br_table st sl) = omega arith
        no_depth f i (call_indirect u) = omega arith
        no_depth f i (load o a) = omega arith
        no_depth f i (store o a) = omega arith
        no_depth f i (const c) = omega arith

    one_block : (label : Option (List ℕ)) (result : Option ValType) (fs hs : List N.Flat) (i : S.Instr) → one_at s locals d labels (N.Opens N.Block label result) fs ≡ Some (i, hs) → GoodOne d labels (N.Opens N.Block label result) fs hs i
    one_block label result fs hs i e =
        let c = chained (closed label (S.Block result)) (body_at s locals d (label ∷ labels) fs) (i, hs) e in
        let m = mapped (λ (r : List N.Flat). (S.Block result c.0.0, r)) (behind_end label c.0.1) (i, hs) c.2 in
        let q = some_pair_parts (S.Block result c.0.0) i m.0 hs (ap (λ (x : S.Instr × List N.Flat). Some x) m.2) in
        let g = again (label ∷ labels) fs c.0.1 c.0.0 c.1 in
        let n = end_is label c.0.1 hs (m.1 ∙ ap (λ (x : List N.Flat). Some x) q.1) in
        let inner : Body s locals (label ∷ labels) fs (N.End n.0 ∷ hs) c.0.0 = subst (λ l. Body s locals (label ∷ labels) fs l c.0.0) n.1 g.body in
        let low = g.depth in
        subst (GoodOne d labels (N.Opens N.Block label result) fs hs) q.0 (record { before = λ gs is b. block inner n.2 b; depth = omega arith; fits = g.fits })

    one_loop : (label : Option (List ℕ)) (result : Option ValType) (fs hs : List N.Flat) (i : S.Instr) → one_at s locals d labels (N.Opens N.Loop label result) fs ≡ Some (i, hs) → GoodOne d labels (N.Opens N.Loop label result) fs hs i
    one_loop label result fs hs i e =
        let c = chained (closed label (S.Loop result)) (body_at s locals d (label ∷ labels) fs) (i, hs) e in
        let m = mapped (λ (r : List N.Flat). (S.Loop result c.0.0, r)) (behind_end label c.0.1) (i, hs) c.2 in
        let q = some_pair_parts (S.Loop result c.0.0) i m.0 hs (ap (λ (x : S.Instr × List N.Flat). Some x) m.2) in
        let g = again (label ∷ labels) fs c.0.1 c.0.0 c.1 in
        let n = end_is label c.0.1 hs (m.1 ∙ ap (λ (x : List N.Flat). Some x) q.1) in
        let inner : Body s locals (label ∷ labels) fs (N.End n.0 ∷ hs) c.0.0 = subst (λ l. Body s locals (label ∷ labels) fs l c.0.0) n.1 g.body in
        let low = g.depth in
        subst (GoodOne d labels (N.Opens N.Loop label result) fs hs) q.0 (record { before = λ gs is b. loop inner n.2 b; depth = omega arith; fits = g.fits })

    branch : (label : Option (List ℕ)) (result : Option ValType) (fs hs rest : List N.Flat) (i : S.Instr) (is : S.Instrs) → Good d (label ∷ labels) fs rest is → (o : Option (List N.Flat)) → behind_else label rest ≡ Some o
        → branched (body_at s locals d (label ∷ labels)) label (S.If result is) rest o ≡ Some (i, hs) → GoodOne d labels (N.Opens N.If label result) fs hs i
    branch label result fs hs rest i is g None there e =
        let m = mapped (λ (r : List N.Flat). (S.If result is S.nothing, r)) (behind_end label rest) (i, hs) e in
        let q = some_pair_parts (S.If result is S.nothing) i m.0 hs (ap (λ (x : S.Instr × List N.Flat). Some x) m.2) in
        let n = end_is label rest hs (m.1 ∙ ap (λ (x : List N.Flat). Some x) q.1) in
        let inner : Body s locals (label ∷ labels) fs (N.End n.0 ∷ hs) is = subst (λ l. Body s locals (label ∷ labels) fs l is) n.1 g.body in
        let low = g.depth in
        subst (GoodOne d labels (N.Opens N.If label result) fs hs) q.0 (record { before = λ gs js b. if_then inner n.2 b; depth = omega arith; fits = (g.fits, tt) })
    branch label result fs hs rest i is g (Some es) there e =
        let c = chained (closed label (S.If result is)) (body_at s locals d (label ∷ labels) es) (i, hs) e in
        let m = mapped (λ (r : List N.Flat). (S.If result is c.0.0, r)) (behind_end label c.0.1) (i, hs) c.2 in
        let q = some_pair_parts (S.If result is c.0.0) i m.0 hs (ap (λ (x : S.Instr × List N.Flat). Some x) m.2) in
        let h = again (label ∷ labels) es c.0.1 c.0.0 c.1 in
        let t = else_is label rest es there in
        let n = end_is label c.0.1 hs (m.1 ∙ ap (λ (x : List N.Flat). Some x) q.1) in
        let inner : Body s locals (label ∷ labels) fs (N.Else t.0 ∷ es) is = subst (λ l. Body s locals (label ∷ labels) fs l is) t.1 g.body in
        let other : Body s locals (label ∷ labels) es (N.End n.0 ∷ hs) c.0.0 = subst (λ l. Body s locals (label ∷ labels) es l c.0.0) n.1 h.body in
        let low = g.depth in
        let low2 = h.depth in
        subst (GoodOne d labels (N.Opens N.If label result) fs hs) q.0 (record { before = λ gs js b. if_else inner t.2 other n.2 b; depth = omega arith; fits = (g.fits, h.fits) })

    one_is : (f : N.Flat) (fs hs : List N.Flat) (i : S.Instr) → one_at s locals d labels f fs ≡ Some (i, hs) → GoodOne d labels f fs hs i
    one_is (N.Opens N.Block label result) fs hs i e = one_block label result fs hs i e
    one_is (N.Opens N.Loop label result) fs hs i e = one_loop label result fs hs i e
    one_is (N.Opens N.If label result) fs hs i e =
        let c = chained (λ (t : S.Instrs × List N.Flat). option_and_then (branched (body_at s locals d (label ∷ labels)) label (S.If result t.0) t.1) (behind_else label t.1)) (body_at s locals d (label ∷ labels) fs) (i, hs) e in
        let k = chained (branched (body_at s locals d (label ∷ labels)) label (S.If result c.0.0) c.0.1) (behind_else label c.0.1) (i, hs) c.2 in
        branch label result fs hs c.0.1 i c.0.0 (again (label ∷ labels) fs c.0.1 c.0.0 c.1) k.0 k.1 k.2
    one_is (N.Simple op) fs hs i e = one_plain (N.Simple op) fs hs i e
    one_is (N.Indexed op x) fs hs i e = one_plain (N.Indexed op x) fs hs i e
    one_is (N.BrTable is last) fs hs i e = one_plain (N.BrTable is last) fs hs i e
    one_is (N.CallIndirect w) fs hs i e = one_plain (N.CallIndirect w) fs hs i e
    one_is (N.Load op offset align) fs hs i e = one_plain (N.Load op offset align) fs hs i e
    one_is (N.Store op offset align) fs hs i e = one_plain (N.Store op offset align) fs hs i e
    one_is (N.Const t text) fs hs i e = one_plain (N.Const t text) fs hs i e
    one_is (N.Else label) fs hs i e = one_plain (N.Else label) fs hs i e
    one_is (N.End label) fs hs i e = one_plain (N.End label) fs hs i e

    ends_here : (fs gs : List N.Flat) (is : S.Instrs) → ◌≡◌ {A = Read S.Instrs} (Some (S.nothing, fs)) (Some (is, gs)) → Good (suc d) labels fs gs is
    ends_here fs gs is e =
        let q = some_pair_parts S.nothing is fs gs e in
        subst (λ (x : S.Instrs). Good (suc d) labels fs gs x) q.0 (subst (λ l. Good (suc d) labels fs l S.nothing) q.1 (record { body = nothing; depth = omega arith; fits = tt }))

    seq_is : (n : ℕ) (fs gs : List N.Flat) (is : S.Instrs) → seq_at (one_at s locals d labels) n fs ≡ Some (is, gs) → Good (suc d) labels fs gs is
    unfolding seq_at
    seq_is zero [] gs is e = ends_here [] gs is e
    seq_is (suc n) [] gs is e = ends_here [] gs is e
    seq_is zero (f ∷ fs) gs is e = absurd (none-some (is, gs) e)
    seq_is (suc n) (f ∷ fs) gs is e =
        elim (picked (stops f) (Some (S.nothing, f ∷ fs)) (option_and_then (λ (r : S.Instr × List N.Flat). option_map (λ (t : S.Instrs × List N.Flat). (S.seq r.0 t.0, t.1)) (seq_at (one_at s locals d labels) n r.1)) (one_at s locals d labels f fs)) (Some (is, gs)) e) [
          | inl p ↦ ends_here (f ∷ fs) gs is p.1
          | inr p ↦
              let c = chained (λ (r : S.Instr × List N.Flat). option_map (λ (t : S.Instrs × List N.Flat). (S.seq r.0 t.0, t.1)) (seq_at (one_at s locals d labels) n r.1)) (one_at s locals d labels f fs) (is, gs) p.1 in
              let m = mapped (λ (t : S.Instrs × List N.Flat). (S.seq c.0.0 t.0, t.1)) (seq_at (one_at s locals d labels) n c.0.1) (is, gs) c.2 in
              let q = some_pair_parts (S.seq c.0.0 m.0.0) is m.0.1 gs (ap (λ (x : S.Instrs × List N.Flat). Some x) m.2) in
              let g = seq_is n c.0.1 m.0.1 m.0.0 m.1 in
              let o = one_is f fs c.0.1 c.0.0 c.1 in
              let low = g.depth in
              let low2 = o.depth in
              subst (λ (x : S.Instrs). Good (suc d) labels (f ∷ fs) gs x) q.0 (subst (λ l. Good (suc d) labels (f ∷ fs) l (S.seq c.0.0 m.0.0)) q.1
              (record { body = o.before m.0.1 m.0.0 g.body; depth = omega arith; fits = (o.fits, g.fits) }))
        ]

  pub body_is : (d : ℕ) (labels : Names) (fs gs : List N.Flat) (is : S.Instrs) → body_at s locals d labels fs ≡ Some (is, gs) → Good d labels fs gs is
  unfolding body_at
  body_is zero labels fs gs is e = absurd (none-some (is, gs) e)
  body_is (suc d) labels fs gs is e = seq_is d (body_is d) labels (length fs) fs gs is e

-- ---- a body is read

goes : {s : Spaces} {locals labels : Names} {f : N.Flat} {i : S.Instr} → Becomes s locals labels f i → stops f ≡ false
goes (simply e) = refl
goes (with_index e st) = refl
goes (br_table st sl) = refl
goes (call_indirect u) = refl
goes (load o a) = refl
goes (store o a) = refl
goes (const c) = refl

one_is_read : (s : Spaces) (locals labels : Names) {f : N.Flat} {i : S.Instr} (body : Names → List N.Flat → Read S.Instrs) (fs : List N.Flat) → Becomes s locals labels f i → InstrLabelsFit i → one_with body s locals labels f fs ≡ Some (i, fs)
one_is_read s locals labels body fs (simply e) fit = ap (option_map (λ (i : S.Instr). (i, fs))) (becomes_is_read {s = s} {locals = locals} {labels = labels} (simply e) fit)
one_is_read s locals labels body fs (with_index e st) fit = ap (option_map (λ (i : S.Instr). (i, fs))) (becomes_is_read {s = s} {locals = locals} {labels = labels} (with_index e st) fit)
one_is_read s locals labels body fs (br_table st sl) fit = ap (option_map (λ (i : S.Instr). (i, fs))) (becomes_is_read {s = s} {locals = locals} {labels = labels} (br_table st sl) fit)
one_is_read s locals labels body fs (call_indirect u) fit = ap (option_map (λ (i : S.Instr). (i, fs))) (becomes_is_read {s = s} {locals = locals} {labels = labels} (call_indirect u) fit)
one_is_read s locals labels body fs (load o a) fit = ap (option_map (λ (i : S.Instr). (i, fs))) (becomes_is_read {s = s} {locals = locals} {labels = labels} (load o a) fit)
one_is_read s locals labels body fs (store o a) fit = ap (option_map (λ (i : S.Instr). (i, fs))) (becomes_is_read {s = s} {locals = locals} {labels = labels} (store o a) fit)
one_is_read s locals labels body fs (const c) fit = ap (option_map (λ (i : S.Instr). (i, fs))) (becomes_is_read {s = s} {locals = locals} {labels = labels} (const c) fit)

body_shorter : {s : Spaces} {locals labels : Names} {fs gs : List N.Flat} {is : S.Instrs} → Body s locals labels fs gs is → length gs ≤ length fs
body_shorter nothing = omega arith
body_shorter (plain b r) = let l = body_shorter r in omega arith
body_shorter (block b c r) = let l = body_shorter b in let m = body_shorter r in omega arith
body_shorter (loop b c r) = let l = body_shorter b in let m = body_shorter r in omega arith
body_shorter (if_then b c r) = let l = body_shorter b in let m = body_shorter r in omega arith
body_shorter (if_else b c o e r) = let l = body_shorter b in let k = body_shorter o in let m = body_shorter r in omega arith

seq_is_read : {s : Spaces} {locals labels : Names} {fs gs : List N.Flat} {is : S.Instrs} → Body s locals labels fs gs is → is_done gs ≡ true → (d : ℕ) → instrs_depth is ≤ d → LabelsFit is
    → (n : ℕ) → length fs ≤ n → seq_at (one_at s locals d labels) n fs ≡ Some (is, gs)
seq_is_read {s} {locals} {labels} (nothing {fs = fs}) done d dep fit n le = turn_ends (one_at s locals d labels) n fs le done
seq_is_read {s} {locals} {labels} (plain {f} {i} {fs} {gs} {is} b r) done d dep fit n le =
    turn_more (one_at s locals d labels) n f fs fs i (omega arith) (goes b) (one_is_read s locals labels (body_at s locals d) fs b fit.0)
    ∙ ap (option_map (λ (t : S.Instrs × List N.Flat). (S.seq i t.0, t.1))) (seq_is_read r done d (omega arith) fit.1 (n - 1) (omega arith))
seq_is_read {s} {locals} {labels} (block {label} {closing} {result} {fs} {hs} {gs} {body} {is} inner c r) done d dep fit n le =
    let short = body_shorter inner in
    let read = body_opens s locals (label ∷ labels) d fs (omega arith) ∙ seq_is_read inner refl (d - 1) (omega arith) fit.0 (length fs) (omega arith) in
    turn_more (one_at s locals d labels) n (N.Opens N.Block label result) fs hs (S.Block result body) (omega arith) refl (block_is s locals labels d label result fs body (N.End closing ∷ hs) hs read (end_is_read label closing hs c))
    ∙ ap (option_map (λ (t : S.Instrs × List N.Flat). (S.seq (S.Block result body) t.0, t.1))) (seq_is_read r done d (omega arith) fit.1 (n - 1) (omega arith))
seq_is_read {s} {locals} {labels} (loop {label} {closing} {result} {fs} {hs} {gs} {body} {is} inner c r) done d dep fit n le =
    let short = body_shorter inner in
    let read = body_opens s locals (label ∷ labels) d fs (omega arith) ∙ seq_is_read inner refl (d - 1) (omega arith) fit.0 (length fs) (omega arith) in
    turn_more (one_at s locals d labels) n (N.Opens N.Loop label result) fs hs (S.Loop result body) (omega arith) refl (loop_is s locals labels d label result fs body (N.End closing ∷ hs) hs read (end_is_read label closing hs c))
    ∙ ap (option_map (λ (t : S.Instrs × List N.Flat). (S.seq (S.Loop result body) t.0, t.1))) (seq_is_read r done d (omega arith) fit.1 (n - 1) (omega arith))
seq_is_read {s} {locals} {labels} (if_then {label} {closing} {result} {fs} {hs} {gs} {body} {is} inner c r) done d dep fit n le =
    let short = body_shorter inner in
    let read = body_opens s locals (label ∷ labels) d fs (omega arith) ∙ seq_is_read inner refl (d - 1) (omega arith) fit.0.0 (length fs) (omega arith) in
    turn_more (one_at s locals d labels) n (N.Opens N.If label result) fs hs (S.If result body S.nothing) (omega arith) refl
    (then_is s locals labels (label ∷ labels) d label result fs body (N.End closing ∷ hs) refl read hs refl (end_is_read label closing hs c))
    ∙ ap (option_map (λ (t : S.Instrs × List N.Flat). (S.seq (S.If result body S.nothing) t.0, t.1))) (seq_is_read r done d (omega arith) fit.1 (n - 1) (omega arith))
seq_is_read {s} {locals} {labels} (if_else {label} {other} {closing} {result} {fs} {es} {hs} {gs} {body} {else_body} {is} inner o second c r) done d dep fit n le =
    let short = body_shorter inner in
    let shorter = body_shorter second in
    let read = body_opens s locals (label ∷ labels) d fs (omega arith) ∙ seq_is_read inner refl (d - 1) (omega arith) fit.0.0 (length fs) (omega arith) in
    let read2 = body_opens s locals (label ∷ labels) d es (omega arith) ∙ seq_is_read second refl (d - 1) (omega arith) fit.0.1 (length es) (omega arith) in
    turn_more (one_at s locals d labels) n (N.Opens N.If label result) fs hs (S.If result body else_body) (omega arith) refl
    (others_are s locals labels (label ∷ labels) d label result fs body (N.Else other ∷ es) refl read es (else_is_read label other es o) (label ∷ labels) refl else_body (N.End closing ∷ hs) hs read2 (end_is_read label closing hs c))
    ∙ ap (option_map (λ (t : S.Instrs × List N.Flat). (S.seq (S.If result body else_body) t.0, t.1))) (seq_is_read r done d (omega arith) fit.1 (n - 1) (omega arith))

-- ---- whole expressions

module _ (s : Spaces) (locals : Names) (fs : List N.Flat) where
  pub expression_is_read : (is : S.Instrs) → Body s locals [] fs [] is → ExpressionFits is → body_at s locals 129 [] fs ≡ Some (is, [])
  expression_is_read is b f = let low = f.depth in body_opens s locals [] 129 fs (omega arith) ∙ seq_is_read b refl 128 (omega arith) f.labels (length fs) (omega arith)

  pub expression_is : (labels : Names) (is : S.Instrs) (gs : List N.Flat) → labels ≡ [] → gs ≡ [] → body_at s locals 129 labels fs ≡ Some (is, gs) → Body s locals [] fs [] is × ExpressionFits is
  expression_is labels is gs none all e =
      let g = body_is s locals 129 [] fs gs is (ap (λ ls. body_at s locals 129 ls fs) (sym none) ∙ e) in
      let low = g.depth in
      (subst (λ l. Body s locals [] fs l is) all g.body, record { depth = omega arith; labels = g.fits })

  pub no_expression : (labels : Names) → labels ≡ [] → body_at s locals 129 labels fs ≡ None → NoBody s locals fs
  no_expression labels none e is b f = none-some (is, []) (sym e ∙ ap (λ ls. body_at s locals 129 ls fs) none ∙ expression_is_read is b f)

  pub not_whole : (labels : Names) (js : S.Instrs) (gs : List N.Flat) → labels ≡ [] → 0 < length gs → body_at s locals 129 labels fs ≡ Some (js, gs) → NoBody s locals fs
  not_whole labels js gs none some e is b f =
      let q = some_pair_parts js is gs [] (sym e ∙ ap (λ ls. body_at s locals 129 ls fs) none ∙ expression_is_read is b f) in
      omega (arith, ap length q.1)

pub in_range : (is : S.Instrs) → ExpressionFits is → instrs_fit is ≡ true → expression_fits is ≡ true
unfolding expression_fits
in_range is f r = both (nat_le (instrs_depth is) nesting_limit) (instrs_fit is) (le-leb (instrs_depth is) nesting_limit f.depth) r

pub expressions_are_one : ExpressionsAreOne
expressions_are_one s locals fs is js b f c g = (some_pair_parts is js [] [] (sym (expression_is_read s locals fs is b f) ∙ expression_is_read s locals fs js c g)).0
