-- Fields, one after another: those read so far, and what is left.
use Rattle.std.proofs.Common.{◌≡◌, Bool, true, false, cond, List, [], ◌∷◌, ◌++◌, Option, Some, None, refl, sym, ap, ◌∙◌, subst, append_assoc}
use Rattle.std.proofs.lemmas.List.{append-nil}
use Rattle.spec_text.specs.declared.KeyWord.{KeyWord}
use Rattle.spec_text.specs.declared.KeyWord.TheVariants as k
use Rattle.spec_text.specs.Words.{Word, LeftBracket, RightBracket, Key}
use Rattle.spec_text.specs.FieldsOfPlaces as N
use Rattle.spec_text.specs.Grammar as G
use Rattle.spec_text.specs.Grammar.{OptionalId, FieldWords, Fields, IsModule}
use Rattle.lexer.specs.ReadingOfWords.{WordsAreOne}
use Rattle.text_body.specs.SharedParts.{NoneOf, IsOne}
use Rattle.text_body.proofs.Pieces.{none_some, some_same, id_is_read}
use Rattle.text_tree.specs.declared.parts.Inner.TheVariants as inner
use Rattle.text_tree.specs.Order.{in_order}
use Rattle.text_tree.specs.Reading.{opened_at, func_head_at, global_head_at, segment_head_at, elem_tail_at, data_tail_at, next_key_at, forbids_of, defined_behind, started_behind}
use Rattle.text_tree.specs.Texts.{OfField, AreFields, NoFields, IsTree, NoTree, TextsAreOne}
use Rattle.text_tree.proofs.Plain.{IsPlain, plain_read}
use Rattle.text_tree.proofs.Bodied.{no_tail, bodied_is_one, func_of, func_splits, global_of, global_splits, elem_of, elem_splits, data_of, data_splits}
use Rattle.text_tree.proofs.Readers.{opened_found}
use Rattle.text_tree.proofs.Late.{stands, step, none_left}

-- ---- one field

plain_is_one : (key : KeyWord) → IsPlain key → IsOne (OfField key)
plain_is_one key h ws vs us f g p q =
    let same : (f, vs) ≡ (g, us) = some_same (f, vs) (g, us) (sym (plain_read h p) ∙ plain_read h q) in
    (ap (λ (r : N.Field × List Word). r.1) same, ap (λ (r : N.Field × List Word). r.0) same)

pub field_is_one : (key : KeyWord) → IsOne (OfField key)
field_is_one k.Func ws vs us f g p q = bodied_is_one (OfField k.Func) func_head_at no_tail func_of func_splits ws vs us f g p q
field_is_one k.Global ws vs us f g p q = bodied_is_one (OfField k.Global) global_head_at no_tail global_of global_splits ws vs us f g p q
field_is_one k.Elem ws vs us f g p q = bodied_is_one (OfField k.Elem) segment_head_at elem_tail_at elem_of elem_splits ws vs us f g p q
field_is_one k.Data ws vs us f g p q = bodied_is_one (OfField k.Data) segment_head_at data_tail_at data_of data_splits ws vs us f g p q
field_is_one key ws vs us f g p q = plain_is_one key (record { no_func = λ e. cc; no_global = λ e. cc; no_elem = λ e. cc; no_data = λ e. cc }) ws vs us f g p q

-- ---- the next word

abbrev Ahead : Type 0
Ahead = Option KeyWord × List Word

key_is : (ws us : List Word) (key : KeyWord) → next_key_at ws ≡ Some (Some key, us) → ws ≡ LeftBracket ∷ Key key ∷ us
key_is (RightBracket ∷ ws) us key e = absurd (none_some key (ap (λ (p : Ahead). p.0) (some_same (None, ws) (Some key, us) e)))
key_is (LeftBracket ∷ Key j ∷ ws) us key e = ap (λ (p : Ahead). LeftBracket ∷ elim p.0 [ None ↦ Key j | Some x ↦ Key x ] ∷ p.1) (some_same (Some j, ws) (Some key, us) e)
key_is ws us key e = absurd (none_some (Some key, us) e)

some_none : (key : KeyWord) → Some key ≡ None → ⊥
some_none key e = cc

end_is : (ws us : List Word) → next_key_at ws ≡ Some (None, us) → ws ≡ RightBracket ∷ us
end_is (RightBracket ∷ ws) us e = ap (λ (p : Ahead). RightBracket ∷ p.1) (some_same (None, ws) (None, us) e)
end_is (LeftBracket ∷ Key j ∷ ws) us e = absurd (some_none j (ap (λ (p : Ahead). p.0) (some_same (Some j, ws) (None, us) e)))
end_is ws us e = absurd (none_some (None, us) e)

-- fields begin with a ( and a word, or with the last )
fields_begin : {ws : List Word} {fs : List N.Field} → Fields ws fs → next_key_at ws ≡ None → ⊥
fields_begin G.no_field e = cc
fields_begin (G.field (G.type_field i b r) h) e = cc
fields_begin (G.field (G.import_field m i c) h) e = cc
fields_begin (G.field (G.func_field i x u l b) h) e = cc
fields_begin (G.field (G.table_field i l) h) e = cc
fields_begin (G.field (G.memory_field i l) h) e = cc
fields_begin (G.field (G.global_field i t b) h) e = cc
fields_begin (G.field (G.export_field u q i) h) e = cc
fields_begin (G.field (G.start_field i) h) e = cc
fields_begin (G.field (G.elem_field i b is) h) e = cc
fields_begin (G.field (G.data_field i b x) h) e = cc

-- the first of fields
record First (key : KeyWord) (ws : List Word) (fs : List N.Field) : Type 0 where
  field : N.Field
  after : List Word
  others : List N.Field
  is : fs ≡ field ∷ others
  first : OfField key ws after field
  rest : Fields after others

first_of : {key : KeyWord} {ws : List Word} {fs : List N.Field} → Fields (LeftBracket ∷ Key key ∷ ws) fs → First key ws fs
first_of (G.field {vs = vs} {f = f} {fs = fs} h r) = record { field = f; after = vs; others = fs; is = refl; first = h; rest = r }

true_false : true ≡ false → ⊥
true_false e = cc

-- ---- halfway

-- The words up to rest are the fields of out, behind which something is defined or not, and started or not: what the rest is
-- completes them, and nothing else does.
pub record Halves (words rest : List Word) (d s : Bool) (out : List N.Field) : Type 0 where
  pub found : (fs : List N.Field) → Fields rest fs → stands d s fs ≡ true → AreFields words (out ++ fs)
  pub only : (fs : List N.Field) → AreFields words fs → (gs : List N.Field) × (fs ≡ out ++ gs) × Fields rest gs × (stands d s gs ≡ true)

pub halves_start : (words : List Word) → Halves words words false false []
halves_start words = record { found = λ fs h t. (h, t); only = λ fs a. (fs, refl, a.0, a.1) }

module _ (words rest : List Word) (d s : Bool) (out : List N.Field) (p : Halves words rest d s out) where
  pub halves_end : next_key_at rest ≡ Some (None, []) → AreFields words out
  halves_end e =
      let last : Fields rest [] = subst (λ (ws : List Word). Fields ws []) (sym (end_is rest [] e)) G.no_field in
      subst (λ (fs : List N.Field). AreFields words fs) (append-nil out) (p.found [] last (none_left d s))

  pub halves_fault : next_key_at rest ≡ None → NoFields words
  halves_fault e = λ fs a. (let q = p.only fs a in fields_begin q.2 e)

  nothing_behind : (w : Word) (after : List Word) (gs : List N.Field) → Fields (RightBracket ∷ w ∷ after) gs → ⊥
  nothing_behind w after gs h = elim h [ ]

  pub halves_behind : (w : Word) (after : List Word) → next_key_at rest ≡ Some (None, w ∷ after) → NoFields words
  halves_behind w after e = λ fs a. (let q = p.only fs a in nothing_behind w after q.0 (subst (λ (ws : List Word). Fields ws q.0) (end_is rest (w ∷ after) e) q.2))

  module _ (key : KeyWord) (mid : List Word) (e : next_key_at rest ≡ Some (Some key, mid)) where
    begun : (gs : List N.Field) → Fields rest gs → First key mid gs
    begun gs h = first_of (subst (λ (ws : List Word). Fields ws gs) (key_is rest mid key e) h)

    pub halves_late : forbids_of d s key ≡ true → NoFields words
    halves_late l = λ fs a. (
        let q = p.only fs a in
        let b = begun q.0 q.2 in
        true_false (sym (sym (step b.first d s b.others ∙ ap (λ (t : Bool). cond t false (stands (defined_behind d key) (started_behind s key) b.others)) l) ∙ ap (λ (fs : List N.Field). stands d s fs) (sym b.is) ∙ q.3))
        )

    pub halves_refused : NoneOf (OfField key) mid → NoFields words
    halves_refused n = λ fs a. (
        let q = p.only fs a in
        let b = begun q.0 q.2 in
        n b.after b.field b.first
        )

    module _ (after : List Word) (f : N.Field) (of : OfField key mid after f) (l : forbids_of d s key ≡ false) where
      one_step : (gs : List N.Field) → stands d s (f ∷ gs) ≡ stands (defined_behind d key) (started_behind s key) gs
      one_step gs = step of d s gs ∙ ap (λ (t : Bool). cond t false (stands (defined_behind d key) (started_behind s key) gs)) l

      pub halves_more : Halves words after (defined_behind d key) (started_behind s key) (out ++ f ∷ [])
      halves_more = record {
        found = λ fs h t. (
            let all : Fields rest (f ∷ fs) = subst (λ (ws : List Word). Fields ws (f ∷ fs)) (sym (key_is rest mid key e)) (G.field of h) in
            subst (λ (gs : List N.Field). AreFields words gs) (sym (append_assoc out (f ∷ []) fs)) (p.found (f ∷ fs) all (one_step fs ∙ t))
            );
        only = λ fs a. (
            let q = p.only fs a in
            let b = begun q.0 q.2 in
            let same = field_is_one key mid after b.after f b.field of b.first in
            let is : q.0 ≡ f ∷ b.others = b.is ∙ ap (λ (x : N.Field). x ∷ b.others) (sym same.1) in (
              b.others,
              q.1 ∙ ap (λ (gs : List N.Field). out ++ gs) is ∙ sym (append_assoc out (f ∷ []) b.others),
              subst (λ (ws : List Word). Fields ws b.others) (sym same.0) b.rest,
              sym (one_step b.others) ∙ ap (λ (gs : List N.Field). stands d s gs) (sym is) ∙ q.3,
            )
            );
      }

pub halves_same : {words after : List Word} {d e s t : Bool} {xs ys : List N.Field} → d ≡ e → s ≡ t → xs ≡ ys → Halves words after e t ys → Halves words after d s xs
halves_same {words} {after} {d} {e} {s} {t} {xs} {ys} p q r h =
    subst (λ (b : Bool). Halves words after b s xs) (sym p) (subst (λ (b : Bool). Halves words after e b xs) (sym q) (subst (λ (zs : List N.Field). Halves words after e t zs) (sym r) h))

-- ---- whole modules

pub no_module : (ws : List Word) → opened_at inner.Module ws ≡ None → NoTree ws
no_module ws e = λ fs t. unopened t.0 e
  where
    unopened : {us : List Word} {fs : List N.Field} → IsModule us fs → opened_at inner.Module us ≡ None → ⊥
    unopened (G.module_is i h) f = cc

pub module_made : (ws us vs : List Word) (id : Option N.Placed) (fs : List N.Field) → opened_at inner.Module ws ≡ Some us → OptionalId us vs id → AreFields vs fs → IsTree ws fs
module_made ws us vs id fs e i a = (subst (λ (xs : List Word). IsModule xs fs) (sym (opened_found inner.Module ws us e)) (G.module_is i a.0), a.1)

pub module_refused : (ws us vs : List Word) (id : Option N.Placed) → opened_at inner.Module ws ≡ Some us → OptionalId us vs id → NoFields vs → NoTree ws
module_refused ws us vs id e i n = λ fs t. inside fs (subst (λ (xs : List Word). IsModule xs fs) (opened_found inner.Module ws us e) t.0) t.1
  where
    inside : (fs : List N.Field) → IsModule (LeftBracket ∷ Key k.Module ∷ us) fs → in_order fs ≡ true → ⊥
    inside fs (G.module_is j h) o = n fs (subst (λ (p : Option N.Placed × List Word). Fields p.1 fs) (sym (id_is_read j) ∙ id_is_read i) h, o)

-- ---- no words are two texts

-- a field begins with a word
record Keyed (ws vs : List Word) (f : N.Field) : Type 0 where
  key : KeyWord
  others : List Word
  is : ws ≡ Key key ∷ others

keyed : {ws vs : List Word} {f : N.Field} → FieldWords ws vs f → Keyed ws vs f
keyed (G.type_field {ws = ws} i b r) = record { key = k.Type; others = ws; is = refl }
keyed (G.import_field m i c) = record { key = k.Import; others = _; is = refl }
keyed (G.func_field {ws = ws} i x u l b) = record { key = k.Func; others = ws; is = refl }
keyed (G.table_field {ws = ws} i l) = record { key = k.Table; others = ws; is = refl }
keyed (G.memory_field {ws = ws} i l) = record { key = k.Memory; others = ws; is = refl }
keyed (G.global_field {ws = ws} i t b) = record { key = k.Global; others = ws; is = refl }
keyed (G.export_field u q i) = record { key = k.Export; others = _; is = refl }
keyed (G.start_field i) = record { key = k.Start; others = _; is = refl }
keyed (G.elem_field i b is) = record { key = k.Elem; others = _; is = refl }
keyed (G.data_field i b x) = record { key = k.Data; others = _; is = refl }

words_are_one_field : {ws vs us : List Word} {f g : N.Field} → FieldWords ws vs f → FieldWords ws us g → (vs ≡ us) × (f ≡ g)
words_are_one_field {ws} {vs} {us} {f} {g} p q =
    let h = keyed p in
    field_is_one h.key h.others vs us f g (subst (λ (xs : List Word). FieldWords xs vs f) h.is p) (subst (λ (xs : List Word). FieldWords xs us g) h.is q)

fields_are_one : {ws : List Word} {fs gs : List N.Field} → Fields ws fs → Fields ws gs → fs ≡ gs
fields_are_one G.no_field G.no_field = refl
fields_are_one (G.field {vs = vs} {f = f} {fs = fs} h r) (G.field {vs = us} {f = g} {fs = gs} q s) =
    let one = words_are_one_field h q in
    ap (λ (x : N.Field). x ∷ fs) one.1 ∙ ap (λ (xs : List N.Field). g ∷ xs) (fields_are_one r (subst (λ (xs : List Word). Fields xs gs) (sym one.0) s))

pub modules_are_one : {ws : List Word} {fs gs : List N.Field} → IsModule ws fs → IsModule ws gs → fs ≡ gs
modules_are_one {gs = gs} (G.module_is i h) (G.module_is j l) = fields_are_one h (subst (λ (p : Option N.Placed × List Word). Fields p.1 gs) (sym (id_is_read j) ∙ id_is_read i) l)

pub texts_are_one : WordsAreOne → TextsAreOne
texts_are_one one tokens fs gs a b = modules_are_one a.2.0 (subst (λ (ws : List Word). IsModule ws gs) (one tokens b.0 a.0 b.1 a.1) b.2.0)
