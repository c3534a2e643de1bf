-- The parts of fields, as they are read and in the grammar.
use Rattle.std.proofs.Common.{◌≡◌, ℕ, Bool, true, false, cond, List, ◌∷◌, Option, Some, None, refl, sym, ap, ◌∙◌, subst, inl, inr}
use Rattle.std.specs.Prelude.{option_map, IsUtf8}
use Rattle.std.proofs.lemmas.Bool.{cond-true}
use Rattle.std.specs.Str.{is_utf8}
use Rattle.std.proofs.lemmas.Str.{IsUtf8-from_is_utf8}
use Rattle.wtypes.specs.declared.ValType.{ValType}
use Rattle.spec_modules.specs.Syntax as S
use Rattle.spec_text.specs.declared.KeyWord.{KeyWord}
use Rattle.spec_text.specs.declared.KeyWord.TheVariants as k
use Rattle.spec_text.specs.Words.{Word, LeftBracket, RightBracket, Key, Number, Str}
use Rattle.spec_text.specs.FieldsOfPlaces as N
use Rattle.spec_text.specs.Grammar as G
use Rattle.spec_text.specs.Grammar.{OptionalId, IsIndex, Indices, Bindings, Results, TypeUses, Limits, GlobalTypes, IsKind, Descs, Exports, Strings, FieldWords}
use Rattle.text_body.specs.Reading.{Read, ◌>>=◌, id_at, close_at}
use Rattle.text_body.proofs.Pieces.{none_some, some_same, map_some, bind_some, chosen, id_is_read, read_is_id, close_is}
use Rattle.text_tree.specs.declared.parts.Inner.{Inner}
use Rattle.text_tree.specs.declared.parts.Inner.TheVariants as inner
use Rattle.text_tree.specs.Reading.{Pass, both, closing, behind, made, inner_key, is_inner, inner_at, bracket_at, opened_at, optional_at, typed_at, name_at, kind_of_key, kind_at, limits_at, number_at, next_number_at, bounds, table_type_at, memory_type_at, constant_of, variable_of, variable_at, global_type_at}
use Rattle.text_tree.proofs.Strings.{utf8_some}

-- ---- one after another

pub record Both {X Y : Type 0} (r : List Word → Read X) (s : List Word → Read Y) (ws vs : List Word) (p : X × Y) : Type 0 where
  pub between : List Word
  pub one : r ws ≡ Some (p.0, between)
  pub other : s between ≡ Some (p.1, vs)

pub both_read : {X Y : Type 0} (r : List Word → Read X) (s : List Word → Read Y) {ws us vs : List Word} {x : X} {y : Y} → r ws ≡ Some (x, us) → s us ≡ Some (y, vs) → both r s ws ≡ Some ((x, y), vs)
both_read {X} {Y} r s {x = x} e f = ap (λ (o : Read X). o >>= λ x. option_map (λ (y : Y × List Word). ((x.0, y.0), y.1)) (s x.1)) e ∙ ap (λ (o : Read Y). option_map (λ (y : Y × List Word). ((x, y.0), y.1)) o) f

pub both_found : {X Y : Type 0} (r : List Word → Read X) (s : List Word → Read Y) (ws vs : List Word) (p : X × Y) → both r s ws ≡ Some (p, vs) → Both r s ws vs p
both_found {X} {Y} r s ws vs p e =
    let b = bind_some (r ws) (λ x. option_map (λ (y : Y × List Word). ((x.0, y.0), y.1)) (s x.1)) (p, vs) e in
    let m = map_some (λ (y : Y × List Word). ((b.0.0, y.0), y.1)) (s b.0.1) (p, vs) b.2 in
    subst (λ (q : (X × Y) × List Word). Both r s ws q.1 q.0) m.2 (record { between = b.0.1; one = b.1; other = m.1 })

pub record Closing {X : Type 0} (r : List Word → Read X) (c : Pass) (ws vs : List Word) (x : X) : Type 0 where
  pub before : List Word
  pub one : r ws ≡ Some (x, before)
  pub close : c before ≡ Some vs

pub closing_read : {X : Type 0} (r : List Word → Read X) (c : Pass) {ws us vs : List Word} {x : X} → r ws ≡ Some (x, us) → c us ≡ Some vs → closing r c ws ≡ Some (x, vs)
closing_read {X} r c {x = x} e f = ap (λ (o : Read X). o >>= λ x. option_map (λ (us : List Word). (x.0, us)) (c x.1)) e ∙ ap (λ (o : Option (List Word)). option_map (λ (us : List Word). (x, us)) o) f

pub closing_found : {X : Type 0} (r : List Word → Read X) (c : Pass) (ws vs : List Word) (x : X) → closing r c ws ≡ Some (x, vs) → Closing r c ws vs x
closing_found {X} r c ws vs x e =
    let b = bind_some (r ws) (λ x. option_map (λ (us : List Word). (x.0, us)) (c x.1)) (x, vs) e in
    let m = map_some (λ (us : List Word). (b.0.0, us)) (c b.0.1) (x, vs) b.2 in
    subst (λ (q : X × List Word). Closing r c ws q.1 q.0) m.2 (record { before = b.0.1; one = b.1; close = m.1 })

pub record Made {X Y : Type 0} (f : X → Y) (r : List Word → Read X) (ws vs : List Word) (y : Y) : Type 0 where
  pub from : X
  pub one : r ws ≡ Some (from, vs)
  pub is : f from ≡ y

pub made_read : {X Y : Type 0} (f : X → Y) (r : List Word → Read X) {ws vs : List Word} {x : X} → r ws ≡ Some (x, vs) → made f r ws ≡ Some (f x, vs)
made_read {X} f r e = ap (λ (o : Read X). option_map (λ (x : X × List Word). (f x.0, x.1)) o) e

pub made_found : {X Y : Type 0} (f : X → Y) (r : List Word → Read X) (ws vs : List Word) (y : Y) → made f r ws ≡ Some (y, vs) → Made f r ws vs y
made_found {X} {Y} f r ws vs y e =
    let m = map_some (λ (x : X × List Word). (f x.0, x.1)) (r ws) (y, vs) e in
    subst (λ (q : Y × List Word). Made f r ws q.1 q.0) m.2 (record { from = m.0.0; one = m.1; is = refl })

pub record Behind {X : Type 0} (c : Pass) (r : List Word → Read X) (ws vs : List Word) (x : X) : Type 0 where
  pub after : List Word
  pub pass : c ws ≡ Some after
  pub one : r after ≡ Some (x, vs)

pub behind_read : {X : Type 0} (c : Pass) (r : List Word → Read X) {ws us vs : List Word} {x : X} → c ws ≡ Some us → r us ≡ Some (x, vs) → behind c r ws ≡ Some (x, vs)
behind_read c r e f = ap (λ (o : Option (List Word)). o >>= r) e ∙ f

pub behind_found : {X : Type 0} (c : Pass) (r : List Word → Read X) (ws vs : List Word) (x : X) → behind c r ws ≡ Some (x, vs) → Behind c r ws vs x
behind_found c r ws vs x e =
    let b = bind_some (c ws) r (x, vs) e in
    record { after = b.0; pass = b.1; one = b.2 }

-- ---- words

inner_itself : (p : Inner) → is_inner p (inner_key p) ≡ true
inner_itself inner.Module = refl
inner_itself inner.Func = refl
inner_itself inner.Offset = refl
inner_itself inner.Mut = refl
inner_itself inner.Funcref = refl

false_true : false ≡ true → ⊥
false_true e = cc

inner_same : (p : Inner) (key : KeyWord) → is_inner p key ≡ true → key ≡ inner_key p
inner_same inner.Module k.Module e = refl
inner_same inner.Func k.Func e = refl
inner_same inner.Offset k.Offset e = refl
inner_same inner.Mut k.Mut e = refl
inner_same inner.Funcref k.Funcref e = refl
inner_same p key e = absurd (false_true e)

pub inner_read : (p : Inner) (ws : List Word) → inner_at p (Key (inner_key p) ∷ ws) ≡ Some ws
inner_read p ws = cond-true (is_inner p (inner_key p)) (Some ws) None (inner_itself p)

pub inner_found : (p : Inner) (ws us : List Word) → inner_at p ws ≡ Some us → ws ≡ Key (inner_key p) ∷ us
inner_found p (Key key ∷ ws) us e =
    elim (chosen (is_inner p key) (Some ws) None (Some us) e) [
      | inl h ↦ ap (λ x. Key x ∷ ws) (inner_same p key h.0) ∙ ap (λ (xs : List Word). Key (inner_key p) ∷ xs) (some_same ws us h.1)
      | inr h ↦ absurd (none_some us h.1)
    ]
inner_found p ws us e = absurd (none_some us e)

pub bracket_found : (ws us : List Word) → bracket_at ws ≡ Some us → ws ≡ LeftBracket ∷ us
bracket_found (LeftBracket ∷ ws) us e = ap (λ (xs : List Word). LeftBracket ∷ xs) (some_same ws us e)
bracket_found ws us e = absurd (none_some us e)

pub opened_found : (p : Inner) (ws us : List Word) → opened_at p ws ≡ Some us → ws ≡ LeftBracket ∷ Key (inner_key p) ∷ us
opened_found p ws us e =
    let b = bind_some (bracket_at ws) (inner_at p) us e in
    bracket_found ws b.0 b.1 ∙ ap (λ (xs : List Word). LeftBracket ∷ xs) (inner_found p b.0 us b.2)

pub optional_read : {ws us : List Word} {id : Option N.Placed} → OptionalId ws us id → optional_at ws ≡ Some (id, us)
optional_read i = ap (λ (p : Option N.Placed × List Word). Some p) (id_is_read i)

pub optional_found : (ws us : List Word) (id : Option N.Placed) → optional_at ws ≡ Some (id, us) → OptionalId ws us id
optional_found ws us id e = subst (λ (p : Option N.Placed × List Word). OptionalId ws p.1 p.0) (some_same (id_at ws) (id, us) e) (read_is_id ws)

pub typed_found : (ws us : List Word) (t : ValType) → typed_at ws ≡ Some (t, us) → ws ≡ Key (k.Value t) ∷ us
typed_found (Key (k.Value s) ∷ ws) us t e = ap (λ (p : ValType × List Word). Key (k.Value p.0) ∷ p.1) (some_same (s, ws) (t, us) e)
typed_found ws us t e = absurd (none_some (t, us) e)

pub name_read : {s : List ℕ} (ws : List Word) → IsUtf8 s → name_at (Str s ∷ ws) ≡ Some (s, ws)
name_read {s} ws u = ap (λ (o : Option (List ℕ)). option_map (λ n. (n, ws)) o) (utf8_some s u)

-- a name, in the words
pub record NameFound (ws us : List Word) (s : List ℕ) : Type 0 where
  pub utf8 : IsUtf8 s
  pub is : ws ≡ Str s ∷ us

abbrev named : List Word → Option (List ℕ) → Read (List ℕ)
named ws o = option_map (λ n. (n, ws)) o

name_of : (t : List ℕ) (ws us : List Word) (s : List ℕ) (b : Bool) → is_utf8 t ≡ b → named ws (cond b (Some t) None) ≡ Some (s, us) → NameFound (Str t ∷ ws) us s
name_of t ws us s true e f = subst (λ (p : List ℕ × List Word). NameFound (Str t ∷ ws) p.1 p.0) (some_same (t, ws) (s, us) f) (record { utf8 = IsUtf8-from_is_utf8 t e; is = refl })
name_of t ws us s false e f = absurd (none_some (s, us) f)

pub name_found : (ws us : List Word) (s : List ℕ) → name_at ws ≡ Some (s, us) → NameFound ws us s
name_found (Str t ∷ ws) us s e = name_of t ws us s (is_utf8 t) refl e
name_found ws us s e = absurd (none_some (s, us) e)

-- ---- kinds

kind_of_read : {key : KeyWord} {kind : N.Kind} → IsKind key kind → kind_of_key key ≡ Some kind
kind_of_read G.of_func = refl
kind_of_read G.of_table = refl
kind_of_read G.of_memory = refl
kind_of_read G.of_global = refl

kind_of_found : (key : KeyWord) (kind : N.Kind) → kind_of_key key ≡ Some kind → IsKind key kind
kind_of_found k.Func kind e = subst (λ x. IsKind k.Func x) (some_same N.OfFunc kind e) G.of_func
kind_of_found k.Table kind e = subst (λ x. IsKind k.Table x) (some_same N.OfTable kind e) G.of_table
kind_of_found k.Memory kind e = subst (λ x. IsKind k.Memory x) (some_same N.OfMemory kind e) G.of_memory
kind_of_found k.Global kind e = subst (λ x. IsKind k.Global x) (some_same N.OfGlobal kind e) G.of_global
kind_of_found key kind e = absurd (none_some kind e)

pub kind_read : {key : KeyWord} {kind : N.Kind} (ws : List Word) → IsKind key kind → kind_at (Key key ∷ ws) ≡ Some (kind, ws)
kind_read ws h = ap (λ (o : Option N.Kind). option_map (λ kind. (kind, ws)) o) (kind_of_read h)

pub record KindFound (ws us : List Word) (kind : N.Kind) : Type 0 where
  pub key : KeyWord
  pub is_kind : IsKind key kind
  pub is : ws ≡ Key key ∷ us

pub kind_found : (ws us : List Word) (kind : N.Kind) → kind_at ws ≡ Some (kind, us) → KindFound ws us kind
kind_found (Key key ∷ ws) us kind e =
    let m = map_some (λ (x : N.Kind). (x, ws)) (kind_of_key key) (kind, us) e in
    subst (λ (p : N.Kind × List Word). KindFound (Key key ∷ ws) p.1 p.0) m.2 (record { key = key; is_kind = kind_of_found key m.0 m.1; is = refl })
kind_found ws us kind e = absurd (none_some (kind, us) e)

-- ---- limits

number_found : (ws us : List Word) (n : N.Placed) → number_at ws ≡ Some (n, us) → ws ≡ Number n ∷ us
number_found (Number m ∷ ws) us n e = ap (λ (p : N.Placed × List Word). Number p.0 ∷ p.1) (some_same (m, ws) (n, us) e)
number_found ws us n e = absurd (none_some (n, us) e)

no_number : (ws : List Word) → ((n : N.Placed) (rest : List Word) → ws ≡ Number n ∷ rest → ⊥) → next_number_at ws ≡ (None, ws)
no_number (Number n ∷ ws) h = absurd (h n ws refl)
no_number ws h = refl

with_least : (min : N.Placed) (us : List Word) → Limits (Number min ∷ us) (next_number_at us).1 (bounds min (next_number_at us).0)
with_least min (Number max ∷ us) = G.both
with_least min us = G.minimum (λ max rest e. cc)

pub limits_read : {ws us : List Word} {b : N.Bounds} → Limits ws us b → limits_at ws ≡ Some (b, us)
limits_read (G.minimum {ws} {min} h) = ap (λ (p : Option N.Placed × List Word). Some (bounds min p.0, p.1)) (no_number ws h)
limits_read G.both = refl

pub limits_found : (ws us : List Word) (b : N.Bounds) → limits_at ws ≡ Some (b, us) → Limits ws us b
limits_found ws us b e =
    let m = map_some (λ (min : N.Placed × List Word). (bounds min.0 (next_number_at min.1).0, (next_number_at min.1).1)) (number_at ws) (b, us) e in
    subst (λ (p : N.Bounds × List Word). Limits ws p.1 p.0) m.2 (subst (λ (xs : List Word). Limits xs (next_number_at m.0.1).1 (bounds m.0.0 (next_number_at m.0.1).0)) (sym (number_found ws m.0.1 m.0.0 m.1)) (with_least m.0.0 m.0.1))

pub table_type_read : {ws vs : List Word} {b : N.Bounds} → Limits ws (Key k.Funcref ∷ RightBracket ∷ vs) b → table_type_at ws ≡ Some (b, vs)
table_type_read {vs = vs} l = closing_read (closing limits_at (inner_at inner.Funcref)) close_at (closing_read limits_at (inner_at inner.Funcref) (limits_read l) (inner_read inner.Funcref (RightBracket ∷ vs))) refl

pub table_type_found : (ws vs : List Word) (b : N.Bounds) → table_type_at ws ≡ Some (b, vs) → Limits ws (Key k.Funcref ∷ RightBracket ∷ vs) b
table_type_found ws vs b e =
    let c = closing_found (closing limits_at (inner_at inner.Funcref)) close_at ws vs b e in
    let d = closing_found limits_at (inner_at inner.Funcref) ws c.before b c.one in
    subst (λ (xs : List Word). Limits ws xs b) (inner_found inner.Funcref d.before c.before d.close ∙ ap (λ (xs : List Word). Key k.Funcref ∷ xs) (close_is c.before vs c.close)) (limits_found ws d.before b d.one)

pub memory_type_read : {ws vs : List Word} {b : N.Bounds} → Limits ws (RightBracket ∷ vs) b → memory_type_at ws ≡ Some (b, vs)
memory_type_read l = closing_read limits_at close_at (limits_read l) refl

pub memory_type_found : (ws vs : List Word) (b : N.Bounds) → memory_type_at ws ≡ Some (b, vs) → Limits ws (RightBracket ∷ vs) b
memory_type_found ws vs b e =
    let c = closing_found limits_at close_at ws vs b e in
    subst (λ (xs : List Word). Limits ws xs b) (close_is c.before vs c.close) (limits_found ws c.before b c.one)

-- ---- types of globals

pub global_type_read : {ws us : List Word} {t : S.GlobalType} → GlobalTypes ws us t → global_type_at ws ≡ Some (t, us)
global_type_read G.constant = refl
global_type_read G.variable = refl

pub global_type_found : (ws us : List Word) (t : S.GlobalType) → global_type_at ws ≡ Some (t, us) → GlobalTypes ws us t
global_type_found (LeftBracket ∷ ws) us t e =
    let m = made_found variable_of variable_at ws us t e in
    let b = behind_found (inner_at inner.Mut) (closing typed_at close_at) ws us m.from m.one in
    let c = closing_found typed_at close_at b.after us m.from b.one in
    let is : ws ≡ Key k.Mut ∷ Key (k.Value m.from) ∷ RightBracket ∷ us =
    inner_found inner.Mut ws b.after b.pass ∙ ap (λ (xs : List Word). Key k.Mut ∷ xs) (typed_found b.after c.before m.from c.one ∙ ap (λ (xs : List Word). Key (k.Value m.from) ∷ xs) (close_is c.before us c.close)) in
    subst (λ (x : S.GlobalType). GlobalTypes (LeftBracket ∷ ws) us x) m.is (subst (λ (xs : List Word). GlobalTypes (LeftBracket ∷ xs) us (variable_of m.from)) (sym is) G.variable)
global_type_found ws us t e =
    let m = made_found constant_of typed_at ws us t e in
    subst (λ (x : S.GlobalType). GlobalTypes ws us x) m.is (subst (λ (xs : List Word). GlobalTypes xs us (constant_of m.from)) (sym (typed_found ws us m.from m.one)) G.constant)
