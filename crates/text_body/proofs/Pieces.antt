-- The parts of instructions, as they are read and in the grammar.
use Rattle.std.proofs.Common.{◌≡◌, ℕ, zero, suc, ◌+◌, ◌<◌, ◌≤◌, Bool, true, false, cond, List, [], ◌∷◌, ◌++◌, length, Option, Some, None, refl, sym, ap, ◌∙◌, subst, arith, inl, inr}
use Rattle.std.specs.Prelude.{◌⊎◌, option_map}
use Rattle.std.proofs.lemmas.Bool.{cond-true, cond-false}
use Rattle.wtypes.specs.declared.ValType.{ValType}
use Rattle.spec_text.specs.declared.KeyWord.{KeyWord}
use Rattle.spec_text.specs.declared.KeyWord.TheVariants as k
use Rattle.spec_text.specs.declared.Operator.{Operator}
use Rattle.spec_text.specs.declared.Operator.TheVariants as o
use Rattle.spec_text.specs.Words.{Word, LeftBracket, RightBracket, Key, Op, OffsetIs, AlignIs, Id, Number}
use Rattle.spec_text.specs.FieldsOfPlaces as N
use Rattle.spec_text.specs.Grammar as G
use Rattle.spec_text.specs.Grammar.{NotAhead, OptionalId, some_id, no_id, IsIndex, Indices, Bindings, Results, OptionalResult, TypeUses, Offset, Align, Plain, is_simple, is_indexed, are_unnamed}
use Rattle.text_body.specs.declared.parts.Part.{Part}
use Rattle.text_body.specs.declared.parts.Part.TheVariants as part
use Rattle.text_body.specs.Reading.{Read, ◌>>=◌, id_at, offset_at, align_at, index_of_word, index_at, next_index_at, indices_at, key_of, is_key, behind_bracket, ahead, close_at, valued_at, binding_at, next_at, more_of, repeated, bindings_at, results_at, result_at, header_at, types_at, closed_index_at, use_at, const_at, last_of, with_front, table_at, indirect_at, argument_at, other_at, plain_at}
use Rattle.text_body.proofs.Repeats.{Next, turn, one_turn, table_is}

-- ---- options

pub none_some : {A : Type 0} (x : A) → None ≡ Some x → ⊥
none_some x e = cc

pub some_none : {A : Type 0} (x : A) → Some x ≡ None → ⊥
some_none x e = cc

inside : {A : Type 0} → A → Option A → A
inside d None = d
inside d (Some x) = x

pub some_same : {A : Type 0} (x y : A) → Some x ≡ Some y → x ≡ y
unfolding inside
some_same x y e = ap (inside x) e

pub none_or : {A : Type 0} (o : Option A) → ((x : A) → o ≡ Some x → ⊥) → o ≡ None
none_or None h = refl
none_or (Some x) h = absurd (h x refl)

pub map_some : {A B : Type 0} (f : A → B) (o : Option A) (y : B) → option_map f o ≡ Some y → (x : A) × (o ≡ Some x) × (f x ≡ y)
map_some f None y e = absurd (none_some y e)
map_some f (Some x) y e = (x, refl, some_same (f x) y e)

pub bind_some : {A B : Type 0} (o : Option A) (f : A → Option B) (y : B) → (o >>= f) ≡ Some y → (x : A) × (o ≡ Some x) × (f x ≡ Some y)
bind_some None f y e = absurd (none_some y e)
bind_some (Some x) f y e = (x, refl, e)

pub chosen : {A : Type 0} (t : Bool) (x y z : A) → cond t x y ≡ z → ((t ≡ true) × (x ≡ z)) ⊎ ((t ≡ false) × (y ≡ z))
chosen true x y z e = inl (refl, e)
chosen false x y z e = inr (refl, e)

-- ---- names, offsets and alignments

no_id_at : (ws : List Word) → ((id : N.Placed) (rest : List Word) → ws ≡ Id id ∷ rest → ⊥) → id_at ws ≡ (None, ws)
no_id_at (Id id ∷ ws) h = absurd (h id ws refl)
no_id_at ws h = refl

pub id_is_read : {ws us : List Word} {id : Option N.Placed} → OptionalId ws us id → id_at ws ≡ (id, us)
id_is_read some_id = refl
id_is_read (no_id {ws} h) = no_id_at ws h

pub read_is_id : (ws : List Word) → OptionalId ws (id_at ws).1 (id_at ws).0
read_is_id (Id id ∷ ws) = some_id
read_is_id ws = no_id (λ id rest e. cc)

no_offset_at : (ws : List Word) → ((text : N.Placed) (rest : List Word) → ws ≡ OffsetIs text ∷ rest → ⊥) → offset_at ws ≡ (None, ws)
no_offset_at (OffsetIs text ∷ ws) h = absurd (h text ws refl)
no_offset_at ws h = refl

offset_is_read : {ws us : List Word} {o : Option N.Placed} → Offset ws us o → offset_at ws ≡ (o, us)
offset_is_read G.some_offset = refl
offset_is_read (G.no_offset {ws} h) = no_offset_at ws h

read_is_offset : (ws : List Word) → Offset ws (offset_at ws).1 (offset_at ws).0
read_is_offset (OffsetIs text ∷ ws) = G.some_offset
read_is_offset ws = G.no_offset (λ text rest e. cc)

no_align_at : (ws : List Word) → ((text : N.Placed) (rest : List Word) → ws ≡ AlignIs text ∷ rest → ⊥) → align_at ws ≡ (None, ws)
no_align_at (AlignIs text ∷ ws) h = absurd (h text ws refl)
no_align_at ws h = refl

align_is_read : {ws us : List Word} {a : Option N.Placed} → Align ws us a → align_at ws ≡ (a, us)
align_is_read G.some_align = refl
align_is_read (G.no_align {ws} h) = no_align_at ws h

read_is_align : (ws : List Word) → Align ws (align_at ws).1 (align_at ws).0
read_is_align (AlignIs text ∷ ws) = G.some_align
read_is_align ws = G.no_align (λ text rest e. cc)

argument_is_read : {ws us vs : List Word} {offset align : Option N.Placed} → Offset ws us offset → Align us vs align → argument_at ws ≡ (offset, align, vs)
argument_is_read {offset = offset} f a =
    ap (λ (p : Option N.Placed × List Word). (p.0, (align_at p.1).0, (align_at p.1).1)) (offset_is_read f) ∙ ap (λ (p : Option N.Placed × List Word). (offset, p.0, p.1)) (align_is_read a)

-- ---- indices

pub index_is_read : {w : Word} {i : N.Index} → IsIndex w i → index_of_word w ≡ Some i
index_is_read G.number_index = refl
index_is_read G.name_index = refl

pub read_is_index : (w : Word) (i : N.Index) → index_of_word w ≡ Some i → IsIndex w i
read_is_index (Number text) i e = subst (λ x. IsIndex (Number text) x) (some_same (N.Numbered text) i e) G.number_index
read_is_index (Id id) i e = subst (λ x. IsIndex (Id id) x) (some_same (N.Named id) i e) G.name_index
read_is_index w i e = absurd (none_some i e)

pub index_found : (ws us : List Word) (i : N.Index) → index_at ws ≡ Some (i, us) → (w : Word) × IsIndex w i × (ws ≡ w ∷ us)
index_found [] us i e = absurd (none_some (i, us) e)
index_found (w ∷ ws) us i e =
    let m = map_some (λ j. (j, ws)) (index_of_word w) (i, us) e in
    (w, read_is_index w i (m.1 ∙ ap (λ j. Some j) (ap (λ (p : N.Index × List Word). p.0) m.2)), ap (λ (xs : List Word). w ∷ xs) (ap (λ (p : N.Index × List Word). p.1) m.2))

pub index_read : {w : Word} {i : N.Index} (ws : List Word) → IsIndex w i → index_at (w ∷ ws) ≡ Some (i, ws)
index_read ws h = ap (λ o. option_map (λ i. (i, ws)) o) (index_is_read h)

-- ---- parts in brackets

key_itself : (p : Part) → is_key p (key_of p) ≡ true
key_itself part.Type = refl
key_itself part.Param = refl
key_itself part.Result = refl
key_itself part.Local = refl
key_itself part.Export = refl
key_itself part.Else = refl

false_true : false ≡ true → ⊥
false_true e = cc

key_same : (p : Part) (key : KeyWord) → is_key p key ≡ true → key ≡ key_of p
key_same part.Type k.Type e = refl
key_same part.Param k.Param e = refl
key_same part.Result k.Result e = refl
key_same part.Local k.Local e = refl
key_same part.Export k.Export e = refl
key_same part.Else k.Else e = refl
key_same p key e = absurd (false_true e)

behind_is : (p : Part) (ws us : List Word) → behind_bracket p ws ≡ Some us → ws ≡ Key (key_of p) ∷ us
behind_is p (Key key ∷ ws) us e =
    elim (chosen (is_key p key) (Some ws) None (Some us) e) [
      | inl h ↦ ap (λ x. Key x ∷ ws) (key_same p key h.0) ∙ ap (λ (xs : List Word). Key (key_of p) ∷ xs) (some_same ws us h.1)
      | inr h ↦ absurd (none_some us h.1)
    ]
behind_is p ws us e = absurd (none_some us e)

pub ahead_is : (p : Part) (ws us : List Word) → ahead p ws ≡ Some us → ws ≡ LeftBracket ∷ Key (key_of p) ∷ us
ahead_is p (LeftBracket ∷ ws) us e = ap (λ (xs : List Word). LeftBracket ∷ xs) (behind_is p ws us e)
ahead_is p ws us e = absurd (none_some us e)

pub ahead_itself : (p : Part) (us : List Word) → ahead p (LeftBracket ∷ Key (key_of p) ∷ us) ≡ Some us
ahead_itself p us = cond-true (is_key p (key_of p)) (Some us) None (key_itself p)

pub not_ahead : (p : Part) (ws : List Word) → NotAhead (key_of p) ws → ahead p ws ≡ None
not_ahead p ws h = none_or (ahead p ws) (λ us e. h us (ahead_is p ws us e))

pub ahead_none : (p : Part) (ws : List Word) → ahead p ws ≡ None → NotAhead (key_of p) ws
ahead_none p ws e = λ rest f. some_none rest (sym (ahead_itself p rest) ∙ ap (ahead p) (sym f) ∙ e)

pub close_is : (ws us : List Word) → close_at ws ≡ Some us → ws ≡ RightBracket ∷ us
close_is (RightBracket ∷ ws) us e = ap (λ (xs : List Word). RightBracket ∷ xs) (some_same ws us e)
close_is ws us e = absurd (none_some us e)

valued_is : (ws us : List Word) (t : ValType) → valued_at ws ≡ Some (t, us) → ws ≡ Key (k.Value t) ∷ RightBracket ∷ us
valued_is (Key (k.Value s) ∷ ws) us t e =
    let m = map_some (λ xs. (s, xs)) (close_at ws) (t, us) e in
    ap (λ (xs : List Word). Key (k.Value s) ∷ xs) (close_is ws m.0 m.1) ∙ ap (λ (p : ValType × List Word). Key (k.Value p.0) ∷ RightBracket ∷ p.1) m.2
valued_is ws us t e = absurd (none_some (t, us) e)

abbrev bound : Option N.Placed → ValType → N.Binding
bound id t = record { name = id; type = t }

binding_is_read : {us ws : List Word} {id : Option N.Placed} {t : ValType} → OptionalId us (Key (k.Value t) ∷ RightBracket ∷ ws) id → binding_at us ≡ Some (record { name = id; type = t }, ws)
binding_is_read i = ap (λ (p : Option N.Placed × List Word). option_map (λ r. (bound p.0 r.0, r.1)) (valued_at p.1)) (id_is_read i)

binding_found : (us ws : List Word) (b : N.Binding) → binding_at us ≡ Some (b, ws) → OptionalId us (Key (k.Value b.type) ∷ RightBracket ∷ ws) b.name
binding_found us ws b e =
    let m = map_some (λ (r : ValType × List Word). (bound (id_at us).0 r.0, r.1)) (valued_at (id_at us).1) (b, ws) e in
    let behind = valued_is (id_at us).1 m.0.1 m.0.0 m.1 in
    subst (λ (p : N.Binding × List Word). OptionalId us (Key (k.Value p.0.type) ∷ RightBracket ∷ p.1) p.0.name) m.2 (subst (λ (xs : List Word). OptionalId us xs (id_at us).0) behind (read_is_id us))

pub id_less : {ws us : List Word} {id : Option N.Placed} → OptionalId ws us id → length us ≤ length ws
id_less (some_id {id} {ws}) = omega arith
id_less (no_id {ws} h) = omega arith

-- ---- what is repeated

pub data Repeating {X : Type 0} (next : List Word → Next X) : List Word → List Word → List X → Type 0 where
  ends : {ws us : List Word} → next ws ≡ Some (None, us) → Repeating next ws us []
  more : {ws ms us : List Word} {x : X} {xs : List X} → next ws ≡ Some (Some x, ms) → Repeating next ms us xs → Repeating next ws us (x ∷ xs)

by_next : {X : Type 0} (next : List Word → Next X) (n : ℕ) → ((ws us : List Word) (xs : List X) → repeated next n ws ≡ Some (xs, us) → Repeating next ws us xs) → (ws us : List Word) (xs : List X) (r : Next X) → next ws ≡ r
    → turn next n r ≡ Some (xs, us) → Repeating next ws us xs
by_next next n rec ws us xs None e f = absurd (none_some (xs, us) f)
by_next next n rec ws us xs (Some (None, vs)) e f =
    subst (λ (p : List _ × List Word). Repeating next ws p.1 p.0) (some_same ([], vs) (xs, us) f) (ends e)
by_next {X} next n rec ws us xs (Some (Some x, vs)) e f = by_more (repeated next n vs) refl f
  where
    by_more : (r : Read (List X)) → repeated next n vs ≡ r → more_of x r ≡ Some (xs, us) → Repeating next ws us xs
    by_more None g h = absurd (none_some (xs, us) h)
    by_more (Some r) g h = subst (λ (p : List X × List Word). Repeating next ws p.1 p.0) (some_same (x ∷ r.0, r.1) (xs, us) h) (more e (rec vs r.1 r.0 g))

pub repeated_found : {X : Type 0} (next : List Word → Next X) (n : ℕ) (ws us : List Word) (xs : List X) → repeated next n ws ≡ Some (xs, us) → Repeating next ws us xs
unfolding repeated
repeated_found next zero ws us xs e = absurd (none_some (xs, us) e)
repeated_found next (suc n) ws us xs e = by_next next n (repeated_found next n) ws us xs (next ws) refl e

abbrev Shrinks : {X : Type 0} → (List Word → Next X) → Type 0
Shrinks {X} next = (ws ms : List Word) (x : X) → next ws ≡ Some (Some x, ms) → length ms < length ws

pub repeated_read : {X : Type 0} (next : List Word → Next X) → Shrinks next → {ws us : List Word} {xs : List X} → Repeating next ws us xs → (n : ℕ) → length ws < n → repeated next n ws ≡ Some (xs, us)
repeated_read next s r zero l = absurd (omega arith)
repeated_read next s (ends {ws} {us} e) (suc n) l = one_turn next n ws (Some (None, us)) e
repeated_read next s (more {ws} {ms} {us} {x} {xs} e r) (suc n) l =
    let short = s ws ms x e in
    one_turn next n ws (Some (Some x, ms)) e ∙ ap (more_of x) (repeated_read next s r n (omega arith))

-- one part, or none
abbrev part_of : {X : Type 0} → (List Word → Read X) → List Word → Option (List Word) → Next X
part_of {X} one ws a = elim a [ None ↦ Some (None, ws) | Some vs ↦ option_map (λ (r : X × List Word). (Some r.0, r.1)) (one vs) ]

pub next_ends : {X : Type 0} (one : List Word → Read X) (ws us : List Word) (a : Option (List Word)) → part_of one ws a ≡ Some (None, us) → (a ≡ None) × (ws ≡ us)
next_ends one ws us None e = (refl, ap (λ (p : Option _ × List Word). p.1) (some_same (None, ws) (None, us) e))
next_ends {X} one ws us (Some vs) e =
    let m = map_some (λ (r : X × List Word). (Some r.0, r.1)) (one vs) (None, us) e in
    absurd (some_none m.0.0 (ap (λ (p : Option X × List Word). p.0) m.2))

pub next_goes : {X : Type 0} (one : List Word → Read X) (ws us : List Word) (x : X) (a : Option (List Word)) → part_of one ws a ≡ Some (Some x, us)
    → (vs : List Word) × (a ≡ Some vs) × (one vs ≡ Some (x, us))
next_goes {X} one ws us x None e = absurd (none_some x (ap (λ (p : Option X × List Word). p.0) (some_same (None, ws) (Some x, us) e)))
next_goes {X} one ws us x (Some vs) e =
    let m = map_some (λ (r : X × List Word). (Some r.0, r.1)) (one vs) (Some x, us) e in
    (vs, refl, m.1 ∙ ap (λ (p : Option X × List Word). elim p.0 [ None ↦ None | Some y ↦ Some (y, p.1) ]) m.2)

pub next_none : {X : Type 0} (p : Part) (one : List Word → Read X) (ws : List Word) → ahead p ws ≡ None → next_at p one ws ≡ Some (None, ws)
next_none {X} p one ws e = ap (λ (a : Option (List Word)). elim a [ None ↦ Some (None, ws) | Some vs ↦ option_map (λ (r : X × List Word). (Some r.0, r.1)) (one vs) ]) e

pub next_one : {X : Type 0} (p : Part) (one : List Word → Read X) (ws us : List Word) (x : X) → one ws ≡ Some (x, us) → next_at p one (LeftBracket ∷ Key (key_of p) ∷ ws) ≡ Some (Some x, us)
next_one {X} p one ws us x e =
    ap (λ (a : Option (List Word)). elim a [ None ↦ Some (None, LeftBracket ∷ Key (key_of p) ∷ ws) | Some vs ↦ option_map (λ (r : X × List Word). (Some r.0, r.1)) (one vs) ]) (ahead_itself p ws)
    ∙ ap (λ (r : Read X). option_map (λ (r : X × List Word). (Some r.0, r.1)) r) e

pub part_shrinks : {X : Type 0} (p : Part) (one : List Word → Read X) → ((ws us : List Word) (x : X) → one ws ≡ Some (x, us) → length us < length ws) → Shrinks (next_at p one)
part_shrinks p one s ws ms x e =
    let g = next_goes one ws ms x (ahead p ws) e in
    let long : length ws ≡ length g.0 + 2 = ap length (ahead_is p ws g.0 g.1) ∙ omega arith in
    let short = s g.0 ms x g.2 in
    omega arith

binding_less : (ws us : List Word) (b : N.Binding) → binding_at ws ≡ Some (b, us) → length us < length ws
binding_less ws us b e =
    let l = id_less (binding_found ws us b e) in
    let long : length (Key (k.Value b.type) ∷ RightBracket ∷ us) ≡ length us + 2 = omega arith in
    omega arith

valued_less : (ws us : List Word) (t : ValType) → valued_at ws ≡ Some (t, us) → length us < length ws
valued_less ws us t e =
    let long : length ws ≡ length us + 2 = ap length (valued_is ws us t e) ∙ omega arith in
    omega arith

-- ---- parameters, locals and results

bindings_repeat : (p : Part) {ws us : List Word} {bs : List N.Binding} → Bindings (key_of p) ws us bs → Repeating (next_at p binding_at) ws us bs
bindings_repeat p (G.no_binding {ws} h) = ends (next_none p binding_at ws (not_ahead p ws h))
bindings_repeat p (G.binding {us} {ws} i b) = more (next_one p binding_at us ws _ (binding_is_read i)) (bindings_repeat p b)

repeat_bindings : (p : Part) {ws us : List Word} {bs : List N.Binding} → Repeating (next_at p binding_at) ws us bs → Bindings (key_of p) ws us bs
repeat_bindings p (ends {ws} {us} e) =
    let n = next_ends binding_at ws us (ahead p ws) e in
    subst (λ (xs : List Word). Bindings (key_of p) ws xs []) n.1 (G.no_binding (ahead_none p ws n.0))
repeat_bindings p (more {ws} {ms} {us} {x} {xs} e r) =
    let g = next_goes binding_at ws ms x (ahead p ws) e in
    subst (λ (ys : List Word). Bindings (key_of p) ys us (x ∷ xs)) (sym (ahead_is p ws g.0 g.1)) (G.binding (binding_found g.0 ms x g.2) (repeat_bindings p r))

pub bindings_read : (p : Part) {ws us : List Word} {bs : List N.Binding} → Bindings (key_of p) ws us bs → bindings_at p ws ≡ Some (bs, us)
bindings_read p {ws} b = repeated_read (next_at p binding_at) (part_shrinks p binding_at binding_less) (bindings_repeat p b) (suc (length ws)) (omega arith)

pub bindings_found : (p : Part) (ws us : List Word) (bs : List N.Binding) → bindings_at p ws ≡ Some (bs, us) → Bindings (key_of p) ws us bs
bindings_found p ws us bs e = repeat_bindings p (repeated_found (next_at p binding_at) (suc (length ws)) ws us bs e)

results_repeat : {ws us : List Word} {rs : List ValType} → Results ws us rs → Repeating (next_at part.Result valued_at) ws us rs
results_repeat (G.no_results {ws} h) = ends (next_none part.Result valued_at ws (not_ahead part.Result ws h))
results_repeat (G.a_result {ws} {t = t} r) = more (next_one part.Result valued_at (Key (k.Value t) ∷ RightBracket ∷ ws) ws t refl) (results_repeat r)

repeat_results : {ws us : List Word} {rs : List ValType} → Repeating (next_at part.Result valued_at) ws us rs → Results ws us rs
repeat_results (ends {ws} {us} e) =
    let n = next_ends valued_at ws us (ahead part.Result ws) e in
    subst (λ (xs : List Word). Results ws xs []) n.1 (G.no_results (ahead_none part.Result ws n.0))
repeat_results (more {ws} {ms} {us} {x} {xs} e r) =
    let g = next_goes valued_at ws ms x (ahead part.Result ws) e in
    subst (λ (ys : List Word). Results ys us (x ∷ xs)) (sym (ahead_is part.Result ws g.0 g.1 ∙ ap (λ (ys : List Word). LeftBracket ∷ Key k.Result ∷ ys) (valued_is g.0 ms x g.2))) (G.a_result (repeat_results r))

pub results_read : {ws us : List Word} {rs : List ValType} → Results ws us rs → results_at ws ≡ Some (rs, us)
results_read {ws} r = repeated_read (next_at part.Result valued_at) (part_shrinks part.Result valued_at valued_less) (results_repeat r) (suc (length ws)) (omega arith)

pub results_found : (ws us : List Word) (rs : List ValType) → results_at ws ≡ Some (rs, us) → Results ws us rs
results_found ws us rs e = repeat_results (repeated_found (next_at part.Result valued_at) (suc (length ws)) ws us rs e)

-- ---- a block's label and result

result_is_read : {ws us : List Word} {r : Option ValType} → OptionalResult ws us r → result_at ws ≡ Some (r, us)
result_is_read (G.no_result {ws} h) = next_none part.Result valued_at ws (not_ahead part.Result ws h)
result_is_read (G.some_result {ws} {t}) = next_one part.Result valued_at (Key (k.Value t) ∷ RightBracket ∷ ws) ws t refl

result_found : (ws us : List Word) (r : Option ValType) → result_at ws ≡ Some (r, us) → OptionalResult ws us r
result_found ws us None e =
    let n = next_ends valued_at ws us (ahead part.Result ws) e in
    subst (λ (xs : List Word). OptionalResult ws xs None) n.1 (G.no_result (ahead_none part.Result ws n.0))
result_found ws us (Some t) e =
    let g = next_goes valued_at ws us t (ahead part.Result ws) e in
    subst (λ (ys : List Word). OptionalResult ys us (Some t)) (sym (ahead_is part.Result ws g.0 g.1 ∙ ap (λ (ys : List Word). LeftBracket ∷ Key k.Result ∷ ys) (valued_is g.0 us t g.2))) G.some_result

abbrev Header : Type 0
Header = Option N.Placed × Option ValType

pub header_is_read : {ws us ts : List Word} {label : Option N.Placed} {r : Option ValType} → OptionalId ws us label → OptionalResult us ts r → header_at ws ≡ Some ((label, r), ts)
header_is_read {label = label} i q =
    ap (λ (p : Option N.Placed × List Word). option_map (λ (r : Option ValType × List Word). ((p.0, r.0), r.1)) (result_at p.1)) (id_is_read i)
    ∙ ap (λ (o : Read (Option ValType)). option_map (λ (r : Option ValType × List Word). ((label, r.0), r.1)) o) (result_is_read q)

pub header_found : (ws ts : List Word) (h : Header) → header_at ws ≡ Some (h, ts) → (us : List Word) × OptionalId ws us h.0 × OptionalResult us ts h.1
header_found ws ts h e =
    let m = map_some (λ (r : Option ValType × List Word). (((id_at ws).0, r.0), r.1)) (result_at (id_at ws).1) (h, ts) e in
    subst (λ (p : Header × List Word). (us : List Word) × OptionalId ws us p.0.0 × OptionalResult us p.1 p.0.1) m.2 ((id_at ws).1, read_is_id ws, result_found (id_at ws).1 m.0.1 m.0.0 m.1)

-- ---- typeuses

abbrev used : Option N.Index → List N.Binding → List ValType → N.TypeUse
used index ps rs = record { index = index; params = ps; results = rs }

types_is_read : (index : Option N.Index) {ws us vs : List Word} {ps : List N.Binding} {rs : List ValType} → Bindings k.Param ws us ps → Results us vs rs → types_at index ws ≡ Some (used index ps rs, vs)
types_is_read index {ps = ps} b r =
    ap (λ (o : Read (List N.Binding)). o >>= λ ps. option_map (λ rs. (used index ps.0 rs.0, rs.1)) (results_at ps.1)) (bindings_read part.Param b)
    ∙ ap (λ (o : Read (List ValType)). option_map (λ rs. (used index ps rs.0, rs.1)) o) (results_read r)

-- what was read of types, at an index
record TypesFound (index : Option N.Index) (ws vs : List Word) (u : N.TypeUse) : Type 0 where
  us : List Word
  params : List N.Binding
  results : List ValType
  is : u ≡ used index params results
  bindings : Bindings k.Param ws us params
  rest : Results us vs results

types_found : (index : Option N.Index) (ws vs : List Word) (u : N.TypeUse) → types_at index ws ≡ Some (u, vs) → TypesFound index ws vs u
types_found index ws vs u e =
    let b = bind_some (bindings_at part.Param ws) (λ ps. option_map (λ rs. (used index ps.0 rs.0, rs.1)) (results_at ps.1)) (u, vs) e in
    let m = map_some (λ (rs : List ValType × List Word). (used index b.0.0 rs.0, rs.1)) (results_at b.0.1) (u, vs) b.2 in
    record {
      us = b.0.1;
      params = b.0.0;
      results = m.0.0;
      is = sym (ap (λ (p : N.TypeUse × List Word). p.0) m.2);
      bindings = bindings_found part.Param ws b.0.1 b.0.0 b.1;
      rest = subst (λ (xs : List Word). Results b.0.1 xs m.0.0) (ap (λ (p : N.TypeUse × List Word). p.1) m.2) (results_found b.0.1 m.0.1 m.0.0 m.1);
    }

closed_is_read : {w : Word} {i : N.Index} (ws : List Word) → IsIndex w i → closed_index_at (w ∷ RightBracket ∷ ws) ≡ Some (i, ws)
closed_is_read ws h = ap (λ (o : Read N.Index). o >>= λ i. option_map (λ us. (i.0, us)) (close_at i.1)) (index_read (RightBracket ∷ ws) h)

closed_found : (ws us : List Word) (i : N.Index) → closed_index_at ws ≡ Some (i, us) → (w : Word) × IsIndex w i × (ws ≡ w ∷ RightBracket ∷ us)
closed_found ws us i e =
    let b = bind_some (index_at ws) (λ i. option_map (λ us. (i.0, us)) (close_at i.1)) (i, us) e in
    let m = map_some (λ (xs : List Word). (b.0.0, xs)) (close_at b.0.1) (i, us) b.2 in
    let f = index_found ws b.0.1 b.0.0 b.1 in
    let closes : b.0.1 ≡ RightBracket ∷ us = close_is b.0.1 m.0 m.1 ∙ ap (λ (p : N.Index × List Word). RightBracket ∷ p.1) m.2 in
    (f.0, subst (λ x. IsIndex f.0 x) (ap (λ (p : N.Index × List Word). p.0) m.2) f.1, f.2 ∙ ap (λ (xs : List Word). f.0 ∷ xs) closes)

abbrev use_in : List Word → Option (List Word) → Read N.TypeUse
use_in ws a = elim a [ None ↦ types_at None ws | Some us ↦ closed_index_at us >>= λ i. types_at (Some i.0) i.1 ]

pub use_is_read : {ws vs : List Word} {u : N.TypeUse} → TypeUses ws vs u → use_at ws ≡ Some (u, vs)
use_is_read (G.by_index {i = i} {ws = ws} h b r) = ap (λ (o : Read N.Index). o >>= λ i. types_at (Some i.0) i.1) (closed_is_read ws h) ∙ types_is_read (Some i) b r
use_is_read (G.by_type {ws} h b r) = ap (use_in ws) (not_ahead part.Type ws h) ∙ types_is_read None b r

by_ahead : (ws vs : List Word) (u : N.TypeUse) (a : Option (List Word)) → ahead part.Type ws ≡ a → use_in ws a ≡ Some (u, vs) → TypeUses ws vs u
by_ahead ws vs u None e f =
    let t = types_found None ws vs u f in
    subst (λ x. TypeUses ws vs x) (sym t.is) (G.by_type (ahead_none part.Type ws e) t.bindings t.rest)
by_ahead ws vs u (Some us) e f =
    let b = bind_some (closed_index_at us) (λ i. types_at (Some i.0) i.1) (u, vs) f in
    let c = closed_found us b.0.1 b.0.0 b.1 in
    let t = types_found (Some b.0.0) b.0.1 vs u b.2 in
    subst (λ (xs : List Word). TypeUses xs vs u) (sym (ahead_is part.Type ws us e ∙ ap (λ (xs : List Word). LeftBracket ∷ Key k.Type ∷ xs) c.2))
    (subst (λ x. TypeUses (LeftBracket ∷ Key k.Type ∷ c.0 ∷ RightBracket ∷ b.0.1) vs x) (sym t.is) (G.by_index c.1 t.bindings t.rest))

pub use_found : (ws vs : List Word) (u : N.TypeUse) → use_at ws ≡ Some (u, vs) → TypeUses ws vs u
use_found ws vs u e = by_ahead ws vs u (ahead part.Type ws) refl e

-- ---- plain instructions

abbrev Flats : Type 0
Flats = Option (N.Flat × List Word)

true_false : true ≡ false → ⊥
true_false e = cc

abbrev with_index : Operator → List Word → Flats
with_index op ws = option_map (λ (i : N.Index × List Word). (N.Indexed op i.0, i.1)) (index_at ws)

simple_is_read : (op : Operator) (ws : List Word) → is_simple op ≡ true → plain_at op ws ≡ Some (N.Simple op, ws)
simple_is_read (o.Const t) ws h = absurd (false_true h)
simple_is_read (o.Load l) ws h = absurd (false_true h)
simple_is_read (o.Store s) ws h = absurd (false_true h)
simple_is_read o.BrTable ws h = absurd (false_true h)
simple_is_read o.CallIndirect ws h = absurd (false_true h)
simple_is_read op ws h = cond-true (is_simple op) (Some (N.Simple op, ws)) (cond (is_indexed op) (with_index op ws) None) h

not_both : (op : Operator) → is_indexed op ≡ true → is_simple op ≡ false
not_both o.Br h = refl
not_both o.BrIf h = refl
not_both o.Call h = refl
not_both o.LocalGet h = refl
not_both o.LocalSet h = refl
not_both o.LocalTee h = refl
not_both o.GlobalGet h = refl
not_both o.GlobalSet h = refl
not_both op h = absurd (false_true h)

other_is_read : (op : Operator) (ws : List Word) → is_indexed op ≡ true → plain_at op ws ≡ with_index op ws
other_is_read (o.Const t) ws h = absurd (false_true h)
other_is_read (o.Load l) ws h = absurd (false_true h)
other_is_read (o.Store s) ws h = absurd (false_true h)
other_is_read o.BrTable ws h = absurd (false_true h)
other_is_read o.CallIndirect ws h = absurd (false_true h)
other_is_read op ws h = cond-false (is_simple op) (Some (N.Simple op, ws)) (cond (is_indexed op) (with_index op ws) None) (not_both op h) ∙ cond-true (is_indexed op) (with_index op ws) None h

-- indices
index_step : {w : Word} {i : N.Index} (ws : List Word) → IsIndex w i → next_index_at (w ∷ ws) ≡ Some (Some i, ws)
index_step {w} ws h = ap (λ (o : Read N.Index). elim o [ None ↦ Some (None, w ∷ ws) | Some r ↦ Some (Some r.0, r.1) ]) (index_read ws h)

no_index_step : (ws : List Word) → ((w : Word) (i : N.Index) (rest : List Word) → IsIndex w i → ws ≡ w ∷ rest → ⊥) → next_index_at ws ≡ Some (None, ws)
no_index_step ws h =
    let none : index_at ws ≡ None = none_or (index_at ws) (λ r e. let f = index_found ws r.1 r.0 e in h f.0 r.0 r.1 f.1 f.2) in
    ap (λ (o : Read N.Index). elim o [ None ↦ Some (None, ws) | Some r ↦ Some (Some r.0, r.1) ]) none

indices_repeat : {ws us : List Word} {is : List N.Index} → Indices ws us is → Repeating next_index_at ws us is
indices_repeat (G.no_index {ws} h) = ends (no_index_step ws h)
indices_repeat (G.index {ws = ws} h r) = more (index_step ws h) (indices_repeat r)

abbrev index_in : List Word → Read N.Index → Next N.Index
index_in ws o = elim o [ None ↦ Some (None, ws) | Some r ↦ Some (Some r.0, r.1) ]

next_index_ends : (ws us : List Word) (o : Read N.Index) → index_in ws o ≡ Some (None, us) → (o ≡ None) × (ws ≡ us)
next_index_ends ws us None e = (refl, ap (λ (p : Option N.Index × List Word). p.1) (some_same (None, ws) (None, us) e))
next_index_ends ws us (Some r) e = absurd (some_none r.0 (ap (λ (p : Option N.Index × List Word). p.0) (some_same (Some r.0, r.1) (None, us) e)))

next_index_goes : (ws us : List Word) (i : N.Index) (o : Read N.Index) → index_in ws o ≡ Some (Some i, us) → o ≡ Some (i, us)
next_index_goes ws us i None e = absurd (none_some i (ap (λ (p : Option N.Index × List Word). p.0) (some_same (None, ws) (Some i, us) e)))
next_index_goes ws us i (Some r) e = ap (λ (p : Option N.Index × List Word). elim p.0 [ None ↦ None | Some j ↦ Some (j, p.1) ]) (some_same (Some r.0, r.1) (Some i, us) e)

repeat_indices : {ws us : List Word} {is : List N.Index} → Repeating next_index_at ws us is → Indices ws us is
repeat_indices (ends {ws} {us} e) =
    let n = next_index_ends ws us (index_at ws) e in
    subst (λ (xs : List Word). Indices ws xs []) n.1 (G.no_index (λ w i rest h f. some_none (i, rest) (sym (index_read rest h) ∙ ap index_at (sym f) ∙ n.0)))
repeat_indices (more {ws} {ms} {us} {x} {xs} e r) =
    let f = index_found ws ms x (next_index_goes ws ms x (index_at ws) e) in
    subst (λ (ys : List Word). Indices ys us (x ∷ xs)) (sym f.2) (G.index f.1 (repeat_indices r))

index_shrinks : Shrinks next_index_at
index_shrinks ws ms x e =
    let f = index_found ws ms x (next_index_goes ws ms x (index_at ws) e) in
    let long : length ws ≡ length ms + 1 = ap length f.2 ∙ omega arith in
    omega arith

pub indices_read : {ws us : List Word} {is : List N.Index} → Indices ws us is → indices_at ws ≡ Some (is, us)
indices_read {ws} h = repeated_read next_index_at index_shrinks (indices_repeat h) (suc (length ws)) (omega arith)

pub indices_found : (ws us : List Word) (is : List N.Index) → indices_at ws ≡ Some (is, us) → Indices ws us is
indices_found ws us is e = repeat_indices (repeated_found next_index_at (suc (length ws)) ws us is e)

back_of : {X : Type 0} (x : X) (xs : List X) (o : Option (List X × X)) (r : List X × X) → last_of xs ≡ o → ((r : List X × X) → last_of xs ≡ Some r → xs ≡ r.0 ++ r.1 ∷ []) → Some (with_front x o) ≡ Some r → (last_of xs ≡ None → xs ≡ []) → x ∷ xs ≡ r.0 ++ r.1 ∷ []
back_of {X} x xs None r e rec f n = ap (λ (ys : List X). x ∷ ys) (n e) ∙ ap (λ (p : List X × X). p.0 ++ p.1 ∷ []) (some_same ([], x) r f)
back_of {X} x xs (Some q) r e rec f n = ap (λ (ys : List X). x ∷ ys) (rec q e) ∙ ap (λ (p : List X × X). p.0 ++ p.1 ∷ []) (some_same (x ∷ q.0, q.1) r f)

no_last : {X : Type 0} (xs : List X) → last_of xs ≡ None → xs ≡ []
no_last [] e = refl
no_last (x ∷ xs) e = absurd (some_none (with_front x (last_of xs)) e)

last_back : {X : Type 0} (xs : List X) (r : List X × X) → last_of xs ≡ Some r → xs ≡ r.0 ++ r.1 ∷ []
last_back [] r e = absurd (none_some r e)
last_back (x ∷ xs) r e = back_of x xs (last_of xs) r refl (last_back xs) e (no_last xs)

pub plain_is_read : {op : Operator} {ws us : List Word} {f : N.Flat} → Plain (Op op ∷ ws) us f → plain_at op ws ≡ Some (f, us)
plain_is_read (G.simply {op} {ws} h) = simple_is_read op ws h
plain_is_read (G.with_index {op} {w} {i} {ws} h x) = other_is_read op (w ∷ ws) h ∙ ap (λ (o : Read N.Index). option_map (λ (i : N.Index × List Word). (N.Indexed op i.0, i.1)) o) (index_read ws x)
plain_is_read (G.br_table {ws} {vs} {is} {last} h) = table_is ws vs (is ++ last ∷ []) is last (indices_read h) refl
plain_is_read (G.call_indirect {ws} {vs} {written} u n) =
    ap (λ (o : Read N.TypeUse). o >>= λ u. cond (are_unnamed u.0.params) (Some (N.CallIndirect u.0, u.1)) None) (use_is_read u) ∙ cond-true (are_unnamed written.params) (Some (N.CallIndirect written, vs)) None n
plain_is_read (G.load {op} f a) = ap (λ (p : Option N.Placed × Option N.Placed × List Word). Some (N.Load op p.0 p.1, p.2)) (argument_is_read f a)
plain_is_read (G.store {op} f a) = ap (λ (p : Option N.Placed × Option N.Placed × List Word). Some (N.Store op p.0 p.1, p.2)) (argument_is_read f a)
plain_is_read G.const = refl

-- what was found, at what was answered
plain_found : (op : Operator) (ws us : List Word) (f : N.Flat) (vs : List Word) (g : N.Flat) → ◌≡◌ {A = Flats} (Some (g, vs)) (Some (f, us)) → Plain (Op op ∷ ws) vs g → Plain (Op op ∷ ws) us f
plain_found op ws us f vs g e h = subst (λ (p : N.Flat × List Word). Plain (Op op ∷ ws) p.1 p.0) (some_same (g, vs) (f, us) e) h

const_found : (t : ValType) (ws us : List Word) (f : N.Flat) → const_at t ws ≡ Some (f, us) → Plain (Op (o.Const t) ∷ ws) us f
const_found t (Number text ∷ ws) us f e = plain_found (o.Const t) (Number text ∷ ws) us f ws (N.Const t text) e G.const
const_found t ws us f e = absurd (none_some (f, us) e)

table_found : (ws us : List Word) (f : N.Flat) → table_at ws ≡ Some (f, us) → Plain (Op o.BrTable ∷ ws) us f
table_found ws us f e =
    let b = bind_some (indices_at ws) (λ found. option_map (λ (r : List N.Index × N.Index). (N.BrTable r.0 r.1, found.1)) (last_of found.0)) (f, us) e in
    let m = map_some (λ (r : List N.Index × N.Index). (N.BrTable r.0 r.1, b.0.1)) (last_of b.0.0) (f, us) b.2 in
    let all = indices_found ws b.0.1 b.0.0 b.1 in
    plain_found o.BrTable ws us f b.0.1 (N.BrTable m.0.0 m.0.1) (ap (λ (p : N.Flat × List Word). Some p) m.2) (G.br_table (subst (λ (xs : List N.Index). Indices ws b.0.1 xs) (last_back b.0.0 m.0 m.1) all))

indirect_found : (ws us : List Word) (f : N.Flat) → indirect_at ws ≡ Some (f, us) → Plain (Op o.CallIndirect ∷ ws) us f
indirect_found ws us f e =
    let b = bind_some (use_at ws) (λ (u : N.TypeUse × List Word). cond (are_unnamed u.0.params) (Some (N.CallIndirect u.0, u.1)) None) (f, us) e in
    elim (chosen (are_unnamed b.0.0.params) (Some (N.CallIndirect b.0.0, b.0.1)) None (Some (f, us)) b.2) [
      | inl h ↦ plain_found o.CallIndirect ws us f b.0.1 (N.CallIndirect b.0.0) h.1 (G.call_indirect (use_found ws b.0.1 b.0.0 b.1) h.0)
      | inr h ↦ absurd (none_some (f, us) h.1)
    ]

other_found : (op : Operator) (ws us : List Word) (f : N.Flat) → other_at op ws ≡ Some (f, us) → Plain (Op op ∷ ws) us f
other_found op ws us f e =
    elim (chosen (is_simple op) (Some (N.Simple op, ws)) (cond (is_indexed op) (with_index op ws) None) (Some (f, us)) e) [
      | inl h ↦ plain_found op ws us f ws (N.Simple op) h.1 (G.simply h.0)
      | inr h ↦ elim (chosen (is_indexed op) (with_index op ws) None (Some (f, us)) h.1) [
        | inl q ↦
            let m = map_some (λ (i : N.Index × List Word). (N.Indexed op i.0, i.1)) (index_at ws) (f, us) q.1 in
            let i = index_found ws m.0.1 m.0.0 m.1 in
            plain_found op ws us f m.0.1 (N.Indexed op m.0.0) (ap (λ (p : N.Flat × List Word). Some p) m.2) (subst (λ (xs : List Word). Plain (Op op ∷ xs) m.0.1 (N.Indexed op m.0.0)) (sym i.2) (G.with_index q.0 i.1))
        | inr q ↦ absurd (none_some (f, us) q.1)
      ]
    ]

pub read_is_plain : (op : Operator) (ws us : List Word) (f : N.Flat) → plain_at op ws ≡ Some (f, us) → Plain (Op op ∷ ws) us f
read_is_plain (o.Const t) ws us f e = const_found t ws us f e
read_is_plain (o.Load l) ws us f e = plain_found (o.Load l) ws us f (argument_at ws).2 (N.Load l (argument_at ws).0 (argument_at ws).1) e (G.load (read_is_offset ws) (read_is_align (offset_at ws).1))
read_is_plain (o.Store s) ws us f e = plain_found (o.Store s) ws us f (argument_at ws).2 (N.Store s (argument_at ws).0 (argument_at ws).1) e (G.store (read_is_offset ws) (read_is_align (offset_at ws).1))
read_is_plain o.BrTable ws us f e = table_found ws us f e
read_is_plain o.CallIndirect ws us f e = indirect_found ws us f e
read_is_plain op ws us f e = other_found op ws us f e
