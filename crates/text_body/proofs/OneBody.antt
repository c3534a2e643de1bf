-- No words begin with two bodies: each turn leaves fewer words, and the turns are the same.
use Rattle.std.proofs.Common.{◌≡◌, ℕ, zero, suc, ◌+◌, ◌<◌, ◌≤◌, List, [], ◌∷◌, length, Option, Some, None, refl, sym, ap, ◌∙◌, subst, arith, inl, inr}
use Rattle.std.specs.Prelude.{option_map}
use Rattle.wtypes.specs.declared.ValType.{ValType}
use Rattle.spec_text.specs.declared.KeyWord.{KeyWord}
use Rattle.spec_text.specs.declared.KeyWord.TheVariants as k
use Rattle.spec_text.specs.declared.Operator.{Operator}
use Rattle.spec_text.specs.Words.{Word, LeftBracket, RightBracket, Key, Op}
use Rattle.spec_text.specs.FieldsOfPlaces as N
use Rattle.spec_text.specs.Grammar as G
use Rattle.spec_text.specs.Grammar.{OptionalId, OptionalResult, Plain, Indices, Bindings, Results, TypeUses, Offset, Align}
use Rattle.text_body.specs.declared.parts.Part.TheVariants as part
use Rattle.text_body.specs.Bodies.{BodiesAreOne}
use Rattle.text_body.specs.Reading.{Read, id_at, header_at, plain_at, ahead, close_at}
use Rattle.text_body.specs.Turns.{Folded, Flatly, FlatIf, Then, Otherwise, Condition, Open, Operands, Inside, Top, Nothing, OfOperands, OfForm, Move, Emits, Opens, Begins, Completes, Ends, Closes, Turns, top_of, opener_of_key, folded_move, flat_form, folded_block_at, flat_block_at, folded_at, then_at, left_at, else_in, closes_in, right_at, end_at, else_at, takes_all, key_at, op_at, move_at}
use Rattle.text_body.proofs.Pieces.{none_some, some_same, map_some, chosen, id_less, read_is_id, ahead_is, close_is, header_found, read_is_plain}
use Rattle.text_body.proofs.Rests.{Rest, Goes, goes, whole_rest}

-- ---- fewer words are left

indices_less : {ws us : List Word} {is : List N.Index} → Indices ws us is → length us ≤ length ws
indices_less (G.no_index h) = omega arith
indices_less (G.index {ws = ws} h r) = let l = indices_less r in omega arith

bindings_less : {key : KeyWord} {ws us : List Word} {bs : List N.Binding} → Bindings key ws us bs → length us ≤ length ws
bindings_less (G.no_binding h) = omega arith
bindings_less (G.binding i b) = let l = bindings_less b in let m = id_less i in omega arith

results_less : {ws us : List Word} {rs : List ValType} → Results ws us rs → length us ≤ length ws
results_less (G.no_results h) = omega arith
results_less (G.a_result r) = let l = results_less r in omega arith

uses_less : {ws us : List Word} {u : N.TypeUse} → TypeUses ws us u → length us ≤ length ws
uses_less (G.by_index h b r) = let l = bindings_less b in let m = results_less r in omega arith
uses_less (G.by_type h b r) = let l = bindings_less b in let m = results_less r in omega arith

offset_less : {ws us : List Word} {o : Option N.Placed} → Offset ws us o → length us ≤ length ws
offset_less G.some_offset = omega arith
offset_less (G.no_offset h) = omega arith

align_less : {ws us : List Word} {o : Option N.Placed} → Align ws us o → length us ≤ length ws
align_less G.some_align = omega arith
align_less (G.no_align h) = omega arith

result_less : {ws us : List Word} {r : Option ValType} → OptionalResult ws us r → length us ≤ length ws
result_less (G.no_result h) = omega arith
result_less G.some_result = omega arith

plain_less : {ws us : List Word} {f : N.Flat} → Plain ws us f → length us < length ws
plain_less (G.simply h) = omega arith
plain_less (G.with_index h x) = omega arith
plain_less (G.br_table h) = let l = indices_less h in omega arith
plain_less (G.call_indirect u n) = let l = uses_less u in omega arith
plain_less (G.load f a) = let l = offset_less f in let m = align_less a in omega arith
plain_less (G.store f a) = let l = offset_less f in let m = align_less a in omega arith
plain_less G.const = omega arith

plain_at_less : (op : Operator) (ws us : List Word) (f : N.Flat) → plain_at op ws ≡ Some (f, us) → length us ≤ length ws
plain_at_less op ws us f e =
    let l = plain_less (read_is_plain op ws us f e) in
    let long : length (Op op ∷ ws) ≡ length ws + 1 = omega arith in
    omega arith

header_less : (ws us : List Word) (h : Option N.Placed × Option ValType) → header_at ws ≡ Some (h, us) → length us ≤ length ws
header_less ws us h e = let f = header_found ws us h e in let l = id_less f.1 in let m = result_less f.2 in omega arith

-- no more words than these
abbrev Within : List Word → Move × List Word → Type 0
Within ws p = length p.1 ≤ length ws

answered : (ws : List Word) (n m : Move) (ts us : List Word) → ◌≡◌ {A = Move × List Word} (n, ts) (m, us) → length ts ≤ length ws → length us ≤ length ws
answered ws n m ts us e l = subst (Within ws) e l

answer : (ws : List Word) (n m : Move) (ts us : List Word) → ◌≡◌ {A = Read Move} (Some (n, ts)) (Some (m, us)) → length ts ≤ length ws → length us ≤ length ws
answer ws n m ts us e l = answered ws n m ts us (some_same (n, ts) (m, us) e) l

folded_block_less : (o : Option N.Opener) (ws us : List Word) (m : Move) → folded_block_at o ws ≡ Some (m, us) → length us ≤ length ws
folded_block_less None ws us m e = absurd (none_some (m, us) e)
folded_block_less (Some o) ws us m e =
    let r = map_some (λ (h : (Option N.Placed × Option ValType) × List Word). (folded_move o h.0.0 h.0.1, h.1)) (header_at ws) (m, us) e in
    answered ws (folded_move o r.0.0.0 r.0.0.1) m r.0.1 us r.2 (header_less ws r.0.1 r.0.0 r.1)

flat_block_less : (o : Option N.Opener) (ws us : List Word) (m : Move) → flat_block_at o ws ≡ Some (m, us) → length us ≤ length ws
flat_block_less None ws us m e = absurd (none_some (m, us) e)
flat_block_less (Some o) ws us m e =
    let r = map_some (λ (h : (Option N.Placed × Option ValType) × List Word). (Opens (N.Opens o h.0.0 h.0.1) (flat_form o), h.1)) (header_at ws) (m, us) e in
    answered ws (Opens (N.Opens o r.0.0.0 r.0.0.1) (flat_form o)) m r.0.1 us r.2 (header_less ws r.0.1 r.0.0 r.1)

folded_less : (ws us : List Word) (m : Move) → folded_at ws ≡ Some (m, us) → length us ≤ length ws
folded_less (Op op ∷ ws) us m e =
    let r = map_some (λ (r : N.Flat × List Word). (Begins (Operands r.0), r.1)) (plain_at op ws) (m, us) e in
    let l = answered ws (Begins (Operands r.0.0)) m r.0.1 us r.2 (plain_at_less op ws r.0.1 r.0.0 r.1) in
    let long : length (Op op ∷ ws) ≡ length ws + 1 = omega arith in
    omega arith
folded_less (Key key ∷ ws) us m e =
    let l = folded_block_less (opener_of_key key) ws us m e in
    let long : length (Key key ∷ ws) ≡ length ws + 1 = omega arith in
    omega arith
folded_less ws us m e = absurd (none_some (m, us) e)

then_less : (t : Top) (ws us : List Word) (m : Move) → then_at t ws ≡ Some (m, us) → length us ≤ length ws
then_less (OfForm (Condition l q)) ws us m e = answer ws (Turns (N.Opens N.If l q) Then) m ws us e (omega arith)
then_less t ws us m e = absurd (none_some (m, us) e)

left_less : (t : Top) (ws us : List Word) (m : Move) → left_at t ws ≡ Some (m, us) → length us ≤ length ws
left_less t (Key k.Then ∷ ws) us m e =
    let l = then_less t ws us m e in
    let long : length (Key k.Then ∷ ws) ≡ length ws + 1 = omega arith in
    omega arith
left_less t ws us m e = folded_less ws us m e

closes_less : (ws us : List Word) (m : Move) (c a : Option (List Word)) → close_at ws ≡ c → ahead part.Else ws ≡ a → closes_in c (else_in a) ≡ Some (m, us) → length us ≤ length ws
closes_less ws us m (Some ys) a e f h = answer ws (Closes (N.End None)) m ys us h (let long : length ws ≡ length ys + 1 = ap length (close_is ws ys e) ∙ omega arith in omega arith)
closes_less ws us m None (Some ys) e f h = answer ws (Turns (N.Else None) Otherwise) m ys us h (let long : length ws ≡ length ys + 2 = ap length (ahead_is part.Else ws ys f) ∙ omega arith in omega arith)
closes_less ws us m None None e f h = absurd (none_some (m, us) h)

closes_alone_less : (ws us : List Word) (m : Move) (c : Option (List Word)) → close_at ws ≡ c → closes_in c None ≡ Some (m, us) → length us ≤ length ws
closes_alone_less ws us m (Some ys) e h = answer ws (Closes (N.End None)) m ys us h (let long : length ws ≡ length ys + 1 = ap length (close_is ws ys e) ∙ omega arith in omega arith)
closes_alone_less ws us m None e h = absurd (none_some (m, us) h)

right_less : (t : Top) (ws us : List Word) (m : Move) → right_at t ws ≡ Some (m, us) → length us ≤ length ws
right_less Nothing ws us m e = answer ws Ends m ws us e (omega arith)
right_less OfOperands ws us m e = answer ws Completes m ws us e (omega arith)
right_less (OfForm Folded) ws us m e = answer ws (Closes (N.End None)) m ws us e (omega arith)
right_less (OfForm Then) ws us m e = closes_less ws us m (close_at ws) (ahead part.Else ws) refl refl e
right_less (OfForm Otherwise) ws us m e = closes_alone_less ws us m (close_at ws) refl e
right_less (OfForm f) ws us m e = absurd (none_some (m, us) e)

end_less : (t : Top) (ws us : List Word) (m : Move) → end_at t ws ≡ Some (m, us) → length us ≤ length ws
end_less (OfForm Flatly) ws us m e = answer ws (Closes (N.End (id_at ws).0)) m (id_at ws).1 us e (id_less (read_is_id ws))
end_less (OfForm FlatIf) ws us m e = answer ws (Closes (N.End (id_at ws).0)) m (id_at ws).1 us e (id_less (read_is_id ws))
end_less t ws us m e = absurd (none_some (m, us) e)

else_less : (t : Top) (ws us : List Word) (m : Move) → else_at t ws ≡ Some (m, us) → length us ≤ length ws
else_less (OfForm FlatIf) ws us m e = answer ws (Turns (N.Else (id_at ws).0) Flatly) m (id_at ws).1 us e (id_less (read_is_id ws))
else_less t ws us m e = absurd (none_some (m, us) e)

key_less : (t : Top) (key : KeyWord) (ws us : List Word) (m : Move) → key_at t key ws ≡ Some (m, us) → length us ≤ length ws
key_less t k.End ws us m e = end_less t ws us m e
key_less t k.Else ws us m e = else_less t ws us m e
key_less t key ws us m e = elim (chosen (takes_all t) (flat_block_at (opener_of_key key) ws) None (Some (m, us)) e) [
  | inl h ↦ flat_block_less (opener_of_key key) ws us m h.1
  | inr h ↦ absurd (none_some (m, us) h.1)
]

op_less : (t : Top) (op : Operator) (ws us : List Word) (m : Move) → op_at t op ws ≡ Some (m, us) → length us ≤ length ws
op_less t op ws us m e = elim (chosen (takes_all t) (option_map (λ (r : N.Flat × List Word). (Emits r.0, r.1)) (plain_at op ws)) None (Some (m, us)) e) [
  | inl h ↦
      let r = map_some (λ (r : N.Flat × List Word). (Emits r.0, r.1)) (plain_at op ws) (m, us) h.1 in
      answered ws (Emits r.0.0) m r.0.1 us r.2 (plain_at_less op ws r.0.1 r.0.0 r.1)
  | inr h ↦ absurd (none_some (m, us) h.1)
]

one_less : (w : Word) (ws us : List Word) → length us ≤ length ws → length us < length (w ∷ ws)
one_less w ws us l = omega arith

pub move_less : (t : Top) (ws us : List Word) (m : Move) → move_at t ws ≡ Some (m, us) → length us < length ws
move_less t (LeftBracket ∷ ws) us m e = one_less LeftBracket ws us (left_less t ws us m e)
move_less t (RightBracket ∷ ws) us m e = one_less RightBracket ws us (right_less t ws us m e)
move_less t (Op op ∷ ws) us m e = one_less (Op op) ws us (op_less t op ws us m e)
move_less t (Key key ∷ ws) us m e = one_less (Key key) ws us (key_less t key ws us m e)
move_less t ws us m e = absurd (none_some (m, us) e)

-- ---- one body

-- what is left, of at most n words, is one
abbrev IsOne : ℕ → Type 0
IsOne n = (s : List Open) (ws : List Word) (fs gs : List N.Flat) (vs us : List Word) → length ws ≤ n → Rest s ws fs vs → Rest s ws gs us → (vs ≡ us) × (fs ≡ gs)

with_front : (f : N.Flat) (fs gs hs is : List N.Flat) → fs ≡ f ∷ hs → gs ≡ f ∷ is → hs ≡ is → fs ≡ gs
with_front f fs gs hs is a b e = a ∙ ap (λ (xs : List N.Flat). f ∷ xs) e ∙ sym b

one_turn : (n : ℕ) → IsOne n → (m : Move) (ws : List Word) (s : List Open) (fs gs : List N.Flat) (vs us : List Word) → length ws ≤ n → Goes m ws s fs vs → Goes m ws s gs us → (vs ≡ us) × (fs ≡ gs)
one_turn n one (Emits f) ws s fs gs vs us l a b = let e = one s ws a.0 b.0 vs us l a.2 b.2 in (e.0, with_front f fs gs a.0 b.0 a.1 b.1 e.1)
one_turn n one (Opens f form) ws s fs gs vs us l a b = let e = one (Inside form ∷ s) ws a.0 b.0 vs us l a.2 b.2 in (e.0, with_front f fs gs a.0 b.0 a.1 b.1 e.1)
one_turn n one (Begins o) ws s fs gs vs us l a b = one (o ∷ s) ws fs gs vs us l a b
one_turn n one Completes ws [] fs gs vs us l a b = absurd a
one_turn n one Completes ws (Operands f ∷ s) fs gs vs us l a b = let e = one s ws a.0 b.0 vs us l a.2 b.2 in (e.0, with_front f fs gs a.0 b.0 a.1 b.1 e.1)
one_turn n one Completes ws (Inside form ∷ s) fs gs vs us l a b = absurd a
one_turn n one (Closes f) ws [] fs gs vs us l a b = absurd a
one_turn n one (Closes f) ws (o ∷ s) fs gs vs us l a b = let e = one s ws a.0 b.0 vs us l a.2 b.2 in (e.0, with_front f fs gs a.0 b.0 a.1 b.1 e.1)
one_turn n one (Turns f form) ws [] fs gs vs us l a b = absurd a
one_turn n one (Turns f form) ws (o ∷ s) fs gs vs us l a b = let e = one (Inside form ∷ s) ws a.0 b.0 vs us l a.2 b.2 in (e.0, with_front f fs gs a.0 b.0 a.1 b.1 e.1)
one_turn n one Ends ws [] fs gs vs us l a b = (a.1 ∙ sym b.1, a.0 ∙ sym b.0)
one_turn n one Ends ws (o ∷ s) fs gs vs us l a b = absurd a

abbrev At : List Open → List N.Flat → List Word → Move × List Word → Type 0
At s fs vs p = Goes p.0 p.1 s fs vs

one_rest : (n : ℕ) → IsOne n
one_rest zero s ws fs gs vs us l a b =
    let g = goes s ws fs vs a in
    let m = move_less (top_of s) ws g.after g.move g.read in
    absurd (omega arith)
one_rest (suc n) s ws fs gs vs us l a b =
    let g = goes s ws fs vs a in
    let h = goes s ws gs us b in
    let m = move_less (top_of s) ws g.after g.move g.read in
    one_turn n (one_rest n) g.move g.after s fs gs vs us (omega arith) g.goes (subst (At s gs us) (some_same (h.move, h.after) (g.move, g.after) (sym h.read ∙ g.read)) h.goes)

pub bodies_are_one : BodiesAreOne
bodies_are_one words vs us fs gs a b = one_rest (length words) [] words fs gs vs us (omega arith) (whole_rest words fs vs a) (whole_rest words gs us b)
