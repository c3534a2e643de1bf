-- Fields with instructions: what is read before them and behind them, and the grammar.
use Rattle.std.proofs.Common.{◌≡◌, ℕ, List, ◌∷◌, Option, Some, None, refl, sym, ap, ◌∙◌, subst}
use Rattle.spec_modules.specs.Syntax as S
use Rattle.spec_text.specs.declared.KeyWord.TheVariants as k
use Rattle.spec_text.specs.Words.{Word, LeftBracket, Key}
use Rattle.spec_text.specs.FieldsOfPlaces as N
use Rattle.spec_text.specs.Grammar as G
use Rattle.spec_text.specs.Grammar.{OptionalId, IsIndex, Indices, Bindings, TypeUses, GlobalTypes, Exports, Strings, FieldWords}
use Rattle.text_body.specs.declared.parts.Part.TheVariants as part
use Rattle.text_body.specs.Bodies.{IsBody, NoBody}
use Rattle.text_body.specs.Reading.{Read, index_at, indices_at, close_at, bindings_at, use_at}
use Rattle.text_body.specs.SharedParts.{NoneOf}
use Rattle.text_body.proofs.OneBody.{bodies_are_one}
use Rattle.text_body.proofs.Pieces.{some_none, some_same, close_is, index_read, index_found, indices_read, indices_found, bindings_read, bindings_found, use_is_read, use_found}
use Rattle.text_tree.specs.declared.parts.Inner.TheVariants as inner
use Rattle.text_tree.specs.Reading.{both, opened_at, optional_at, global_type_at, exports_at, strings_at, Head, func_head_at, global_head_at, segment_head_at, elem_tail_at, data_tail_at}
use Rattle.text_tree.specs.Texts.{OfField}
use Rattle.text_tree.proofs.Readers.{both_read, both_found, closing_read, closing_found, opened_found, optional_read, optional_found, global_type_read, global_type_found}
use Rattle.text_tree.proofs.Exports.{exports_read, exports_found, strings_read, strings_found}

-- a head, a body and a tail, of which the field is made
pub record Bodied {H T : Type 0} (head_at : List Word → Read H) (tail_at : List Word → Read T) (make : H → List N.Flat → T → N.Field) (ws vs : List Word) (f : N.Field) : Type 0 where
  pub head : H
  pub before : List Word
  pub body : List N.Flat
  pub behind : List Word
  pub tail : T
  pub begins : head_at ws ≡ Some (head, before)
  pub holds : IsBody before behind body
  pub ends : tail_at behind ≡ Some (tail, vs)
  pub is : make head body tail ≡ f

-- nothing is behind the instructions
abbrev pub no_tail : List Word → Read (Unit {0})
no_tail ws = Some (tt, ws)

abbrev Part2 : Type 1
Part2 = List Word → List Word → N.Field → Type 0

-- how the words of a field are read
abbrev pub Splits : {H T : Type 0} → Part2 → (List Word → Read H) → (List Word → Read T) → (H → List N.Flat → T → N.Field) → Type 0
Splits P head_at tail_at make = (ws vs : List Word) (f : N.Field) → P ws vs f → Bodied head_at tail_at make ws vs f

module _ {H T : Type 0} (P : Part2) (head_at : List Word → Read H) (tail_at : List Word → Read T) (make : H → List N.Flat → T → N.Field) (split : Splits P head_at tail_at make) (ws : List Word) where
  pub headless : head_at ws ≡ None → NoneOf P ws
  headless e = λ vs f p. (let b = split ws vs f p in some_none (b.head, b.before) (sym b.begins ∙ e))

  same_head : (h : H) (us : List Word) → head_at ws ≡ Some (h, us) → (vs : List Word) (f : N.Field) (b : Bodied head_at tail_at make ws vs f) → ◌≡◌ {A = H × List Word} (b.head, b.before) (h, us)
  same_head h us e vs f b = some_same (b.head, b.before) (h, us) (sym b.begins ∙ e)

  pub bodiless : (h : H) (us : List Word) → head_at ws ≡ Some (h, us) → NoBody us → NoneOf P ws
  bodiless h us e n = λ vs f p. (
      let b = split ws vs f p in
      n b.behind b.body (subst (λ (q : H × List Word). IsBody q.1 b.behind b.body) (same_head h us e vs f b) b.holds)
      )

  same_body : (h : H) (us ts : List Word) (fs : List N.Flat) → head_at ws ≡ Some (h, us) → IsBody us ts fs → (vs : List Word) (f : N.Field) (b : Bodied head_at tail_at make ws vs f) → (b.behind ≡ ts) × (b.body ≡ fs)
  same_body h us ts fs e k vs f b = bodies_are_one us b.behind ts b.body fs (subst (λ (q : H × List Word). IsBody q.1 b.behind b.body) (same_head h us e vs f b) b.holds) k

  pub tailless : (h : H) (us ts : List Word) (fs : List N.Flat) → head_at ws ≡ Some (h, us) → IsBody us ts fs → tail_at ts ≡ None → NoneOf P ws
  tailless h us ts fs e k n = λ vs f p. (
      let b = split ws vs f p in
      some_none (b.tail, vs) (sym b.ends ∙ ap tail_at (same_body h us ts fs e k vs f b).0 ∙ n)
      )

  pub bodied_is_one : (vs us : List Word) (f g : N.Field) → P ws vs f → P ws us g → (vs ≡ us) × (f ≡ g)
  bodied_is_one vs us f g p q =
      let a = split ws vs f p in
      let b = split ws us g q in
      let head = same_head b.head b.before b.begins vs f a in
      let body = same_body b.head b.before b.behind b.body b.begins b.holds vs f a in
      let tail : ◌≡◌ {A = T × List Word} (a.tail, vs) (b.tail, us) = some_same (a.tail, vs) (b.tail, us) (sym a.ends ∙ ap tail_at body.0 ∙ b.ends) in (
        ap (λ (r : T × List Word). r.1) tail,
        sym a.is ∙ ap (λ (r : H × List Word). make r.0 a.body a.tail) head ∙ ap (λ (fs : List N.Flat). make b.head fs a.tail) body.1 ∙ ap (λ (r : T × List Word). make b.head b.body r.0) tail ∙ b.is,
      )

-- ---- functions

abbrev after_id : List Word → Read (List (List ℕ) × (N.TypeUse × List N.Binding))
after_id ws = both exports_at (both use_at (bindings_at part.Local)) ws

abbrev pub func_of : Head → List N.Flat → Unit {0} → N.Field
func_of h fs t = N.FuncField h.0 h.1.0 h.1.1.0 h.1.1.1 fs

pub func_splits : Splits (OfField k.Func) func_head_at no_tail func_of
func_splits ws vs f (G.func_field i x u l b) = record {
  head = _;
  before = _;
  body = _;
  behind = vs;
  tail = tt;
  begins = both_read optional_at after_id (optional_read i) (both_read exports_at (both use_at (bindings_at part.Local)) (exports_read x) (both_read use_at (bindings_at part.Local) (use_is_read u) (bindings_read part.Local l)));
  holds = b;
  ends = refl;
  is = refl;
}

pub func_made : (ws us vs : List Word) (h : Head) (fs : List N.Flat) → func_head_at ws ≡ Some (h, us) → IsBody us vs fs → OfField k.Func ws vs (N.FuncField h.0 h.1.0 h.1.1.0 h.1.1.1 fs)
func_made ws us vs h fs e b =
    let p = both_found optional_at after_id ws us h e in
    let q = both_found exports_at (both use_at (bindings_at part.Local)) p.between us h.1 p.other in
    let r = both_found use_at (bindings_at part.Local) q.between us h.1.1 q.other in
    G.func_field (optional_found ws p.between h.0 p.one) (exports_found p.between q.between h.1.0 q.one) (use_found q.between r.between h.1.1.0 r.one) (bindings_found part.Local r.between us h.1.1.1 r.other) b

-- ---- globals

abbrev pub global_of : Option N.Placed × S.GlobalType → List N.Flat → Unit {0} → N.Field
global_of h fs t = N.GlobalField h.0 h.1 fs

pub global_splits : Splits (OfField k.Global) global_head_at no_tail global_of
global_splits ws vs f (G.global_field i t b) = record {
  head = _;
  before = _;
  body = _;
  behind = vs;
  tail = tt;
  begins = both_read optional_at global_type_at (optional_read i) (global_type_read t);
  holds = b;
  ends = refl;
  is = refl;
}

pub global_made : (ws us vs : List Word) (id : Option N.Placed) (t : S.GlobalType) (fs : List N.Flat) → global_head_at ws ≡ Some ((id, t), us) → IsBody us vs fs → OfField k.Global ws vs (N.GlobalField id t fs)
global_made ws us vs id t fs e b =
    let p = both_found optional_at global_type_at ws us (id, t) e in
    G.global_field (optional_found ws p.between id p.one) (global_type_found p.between us t p.other) b

-- ---- segments

segment_head_read : {w : Word} {i : N.Index} (ws : List Word) → IsIndex w i → segment_head_at (w ∷ LeftBracket ∷ Key k.Offset ∷ ws) ≡ Some (i, ws)
segment_head_read {w} ws h = closing_read index_at (opened_at inner.Offset) {ws = w ∷ LeftBracket ∷ Key k.Offset ∷ ws} (index_read (LeftBracket ∷ Key k.Offset ∷ ws) h) refl

record SegmentHead (ws us : List Word) (i : N.Index) : Type 0 where
  word : Word
  index : IsIndex word i
  is : ws ≡ word ∷ LeftBracket ∷ Key k.Offset ∷ us

segment_head_found : (ws us : List Word) (i : N.Index) → segment_head_at ws ≡ Some (i, us) → SegmentHead ws us i
segment_head_found ws us i e =
    let c = closing_found index_at (opened_at inner.Offset) ws us i e in
    let f = index_found ws c.before i c.one in
    record { word = f.0; index = f.1; is = f.2 ∙ ap (λ (xs : List Word). f.0 ∷ xs) (opened_found inner.Offset c.before us c.close) }

abbrev pub elem_of : N.Index → List N.Flat → List N.Index → N.Field
elem_of i fs is = N.ElemField i fs is

pub elem_splits : Splits (OfField k.Elem) segment_head_at elem_tail_at elem_of
elem_splits ws vs f (G.elem_field {ws = us} i b is) = record {
  head = _;
  before = us;
  body = _;
  behind = _;
  tail = _;
  begins = segment_head_read us i;
  holds = b;
  ends = closing_read indices_at close_at (indices_read is) refl;
  is = refl;
}

pub elem_made : (ws us ts vs : List Word) (i : N.Index) (fs : List N.Flat) (is : List N.Index) → segment_head_at ws ≡ Some (i, us) → IsBody us ts fs → elem_tail_at ts ≡ Some (is, vs) → OfField k.Elem ws vs (N.ElemField i fs is)
elem_made ws us ts vs i fs is e b t =
    let h = segment_head_found ws us i e in
    let c = closing_found indices_at close_at ts vs is t in
    subst (λ (xs : List Word). OfField k.Elem xs vs (N.ElemField i fs is)) (sym h.is) (G.elem_field h.index b (subst (λ (xs : List Word). Indices ts xs is) (close_is c.before vs c.close) (indices_found ts c.before is c.one)))

abbrev pub data_of : N.Index → List N.Flat → List ℕ → N.Field
data_of i fs bytes = N.DataField i fs bytes

pub data_splits : Splits (OfField k.Data) segment_head_at data_tail_at data_of
data_splits ws vs f (G.data_field {ws = us} {us = ts} i b s) = record {
  head = _;
  before = us;
  body = _;
  behind = _;
  tail = _;
  begins = segment_head_read us i;
  holds = b;
  ends = closing_read strings_at close_at {ws = ts} (strings_read s) refl;
  is = refl;
}

pub data_made : (ws us ts vs : List Word) (i : N.Index) (fs : List N.Flat) (bytes : List ℕ) → segment_head_at ws ≡ Some (i, us) → IsBody us ts fs → data_tail_at ts ≡ Some (bytes, vs) → OfField k.Data ws vs (N.DataField i fs bytes)
data_made ws us ts vs i fs bytes e b t =
    let h = segment_head_found ws us i e in
    let c = closing_found strings_at close_at ts vs bytes t in
    subst (λ (xs : List Word). OfField k.Data xs vs (N.DataField i fs bytes)) (sym h.is) (G.data_field h.index b (subst (λ (xs : List Word). Strings ts xs bytes) (close_is c.before vs c.close) (strings_found ts c.before bytes c.one)))
