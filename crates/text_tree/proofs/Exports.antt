-- Exports within a function, strings and descriptions, as they are read and in the grammar.
use Rattle.std.proofs.Common.{◌≡◌, ℕ, suc, ◌+◌, ◌<◌, List, [], ◌∷◌, length, Option, Some, None, refl, sym, ap, ◌∙◌, subst, arith}
use Rattle.std.specs.Prelude.{IsUtf8}
use Rattle.spec_text.specs.declared.KeyWord.{KeyWord}
use Rattle.spec_text.specs.declared.KeyWord.TheVariants as k
use Rattle.spec_text.specs.Words.{Word, LeftBracket, RightBracket, Key, Str}
use Rattle.spec_text.specs.FieldsOfPlaces as N
use Rattle.spec_text.specs.Grammar as G
use Rattle.spec_text.specs.Grammar.{OptionalId, TypeUses, GlobalTypes, IsKind, Descs, Exports, Strings}
use Rattle.text_body.specs.declared.parts.Part.TheVariants as part
use Rattle.text_body.specs.Reading.{close_at, ahead, use_at}
use Rattle.text_body.proofs.Pieces.{bind_some, close_is, use_is_read, use_found, ahead_is, ahead_none, not_ahead, next_none, next_one, next_ends, next_goes, part_shrinks, Repeating, ends, more, repeated_found, repeated_read}
use Rattle.text_tree.specs.Reading.{both, closing, bracket_at, optional_at, name_at, kind_at, table_type_at, memory_type_at, global_type_at, closed_name_at, next_export_at, exports_at, before_strings, all_strings, strings_at, desc_of_kind, Described, described_at, desc_at}
use Rattle.text_tree.proofs.Readers.{both_read, both_found, closing_read, closing_found, made_read, made_found, behind_found, bracket_found, optional_read, optional_found, name_read, name_found, kind_found, table_type_read, table_type_found, memory_type_read, memory_type_found, global_type_read, global_type_found}

-- ---- exports

closed_name_read : {s : List ℕ} (ws : List Word) → IsUtf8 s → closed_name_at (Str s ∷ RightBracket ∷ ws) ≡ Some (s, ws)
closed_name_read {s} ws u = closing_read name_at close_at {ws = Str s ∷ RightBracket ∷ ws} (name_read (RightBracket ∷ ws) u) refl

record ClosedName (ws us : List Word) (s : List ℕ) : Type 0 where
  utf8 : IsUtf8 s
  is : ws ≡ Str s ∷ RightBracket ∷ us

closed_name_found : (ws us : List Word) (s : List ℕ) → closed_name_at ws ≡ Some (s, us) → ClosedName ws us s
closed_name_found ws us s e =
    let c = closing_found name_at close_at ws us s e in
    let n = name_found ws c.before s c.one in
    record { utf8 = n.utf8; is = n.is ∙ ap (λ (xs : List Word). Str s ∷ xs) (close_is c.before us c.close) }

closed_name_less : (ws us : List Word) (s : List ℕ) → closed_name_at ws ≡ Some (s, us) → length us < length ws
closed_name_less ws us s e =
    let n = closed_name_found ws us s e in
    let long : length ws ≡ length us + 2 = ap length n.is ∙ omega arith in
    omega arith

exports_repeat : {ws us : List Word} {xs : List (List ℕ)} → Exports ws us xs → Repeating next_export_at ws us xs
exports_repeat (G.no_export {ws} h) = ends (next_none part.Export closed_name_at ws (not_ahead part.Export ws h))
exports_repeat (G.an_export {ws} {item = item} u r) = more (next_one part.Export closed_name_at (Str item ∷ RightBracket ∷ ws) ws item (closed_name_read ws u)) (exports_repeat r)

repeat_exports : {ws us : List Word} {xs : List (List ℕ)} → Repeating next_export_at ws us xs → Exports ws us xs
repeat_exports (ends {ws} {us} e) =
    let n = next_ends closed_name_at ws us (ahead part.Export ws) e in
    subst (λ (xs : List Word). Exports ws xs []) n.1 (G.no_export (ahead_none part.Export ws n.0))
repeat_exports (more {ws} {ms} {us} {x} {xs} e r) =
    let g = next_goes closed_name_at ws ms x (ahead part.Export ws) e in
    let n = closed_name_found g.0 ms x g.2 in
    subst (λ (ys : List Word). Exports ys us (x ∷ xs)) (sym (ahead_is part.Export ws g.0 g.1 ∙ ap (λ (ys : List Word). LeftBracket ∷ Key k.Export ∷ ys) n.is)) (G.an_export n.utf8 (repeat_exports r))

pub exports_read : {ws us : List Word} {xs : List (List ℕ)} → Exports ws us xs → exports_at ws ≡ Some (xs, us)
exports_read {ws} x = repeated_read next_export_at (part_shrinks part.Export closed_name_at closed_name_less) (exports_repeat x) (suc (length ws)) (omega arith)

pub exports_found : (ws us : List Word) (xs : List (List ℕ)) → exports_at ws ≡ Some (xs, us) → Exports ws us xs
exports_found ws us xs e = repeat_exports (repeated_found next_export_at (suc (length ws)) ws us xs e)

-- ---- strings

no_string : (ws : List Word) → ((s : List ℕ) (rest : List Word) → ws ≡ Str s ∷ rest → ⊥) → all_strings ws ≡ ([], ws)
no_string (Str s ∷ ws) h = absurd (h s ws refl)
no_string ws h = refl

all_strings_read : {ws us : List Word} {bs : List ℕ} → Strings ws us bs → all_strings ws ≡ (bs, us)
all_strings_read (G.no_string {ws} h) = no_string ws h
all_strings_read (G.a_string {s = s} r) = ap (before_strings s) (all_strings_read r)

all_strings_are : (ws : List Word) → Strings ws (all_strings ws).1 (all_strings ws).0
all_strings_are (Str s ∷ ws) = G.a_string (all_strings_are ws)
all_strings_are ws = G.no_string (λ s rest e. cc)

pub strings_read : {ws us : List Word} {bs : List ℕ} → Strings ws us bs → strings_at ws ≡ Some (bs, us)
strings_read s = ap (λ (p : List ℕ × List Word). Some p) (all_strings_read s)

inside : List ℕ × List Word → Option (List ℕ × List Word) → List ℕ × List Word
inside d None = d
inside d (Some p) = p

pub strings_found : (ws us : List Word) (bs : List ℕ) → strings_at ws ≡ Some (bs, us) → Strings ws us bs
unfolding inside
strings_found ws us bs e = subst (λ (p : List ℕ × List Word). Strings ws p.1 p.0) (ap (inside (bs, us)) e) (all_strings_are ws)

-- ---- descriptions

pub desc_read : {ws vs : List Word} {id : Option N.Placed} {d : N.Desc} → Descs ws vs id d → desc_at ws ≡ Some ((id, d), vs)
desc_read (G.func_desc i u) = both_read optional_at (desc_of_kind N.OfFunc) (optional_read i) (made_read (λ u. N.FuncDesc u) (closing use_at close_at) (closing_read use_at close_at (use_is_read u) refl))
desc_read (G.table_desc i l) = both_read optional_at (desc_of_kind N.OfTable) (optional_read i) (made_read (λ b. N.TableDesc b) table_type_at (table_type_read l))
desc_read (G.memory_desc i l) = both_read optional_at (desc_of_kind N.OfMemory) (optional_read i) (made_read (λ b. N.MemoryDesc b) memory_type_at (memory_type_read l))
desc_read (G.global_desc i t) = both_read optional_at (desc_of_kind N.OfGlobal) (optional_read i) (made_read (λ t. N.GlobalDesc t) (closing global_type_at close_at) (closing_read global_type_at close_at (global_type_read t) refl))

of_kind : {key : KeyWord} {kind : N.Kind} → IsKind key kind → (ws us vs : List Word) (id : Option N.Placed) (d : N.Desc) → OptionalId ws us id → desc_of_kind kind us ≡ Some (d, vs) → Descs (LeftBracket ∷ Key key ∷ ws) vs id d
of_kind G.of_func ws us vs id d i e =
    let m = made_found (λ u. N.FuncDesc u) (closing use_at close_at) us vs d e in
    let c = closing_found use_at close_at us vs m.from m.one in
    subst (λ (x : N.Desc). Descs (LeftBracket ∷ Key k.Func ∷ ws) vs id x) m.is (G.func_desc i (subst (λ (xs : List Word). TypeUses us xs m.from) (close_is c.before vs c.close) (use_found us c.before m.from c.one)))
of_kind G.of_table ws us vs id d i e =
    let m = made_found (λ b. N.TableDesc b) table_type_at us vs d e in
    subst (λ (x : N.Desc). Descs (LeftBracket ∷ Key k.Table ∷ ws) vs id x) m.is (G.table_desc i (table_type_found us vs m.from m.one))
of_kind G.of_memory ws us vs id d i e =
    let m = made_found (λ b. N.MemoryDesc b) memory_type_at us vs d e in
    subst (λ (x : N.Desc). Descs (LeftBracket ∷ Key k.Memory ∷ ws) vs id x) m.is (G.memory_desc i (memory_type_found us vs m.from m.one))
of_kind G.of_global ws us vs id d i e =
    let m = made_found (λ t. N.GlobalDesc t) (closing global_type_at close_at) us vs d e in
    let c = closing_found global_type_at close_at us vs m.from m.one in
    subst (λ (x : N.Desc). Descs (LeftBracket ∷ Key k.Global ∷ ws) vs id x) m.is (G.global_desc i (subst (λ (xs : List Word). GlobalTypes us xs m.from) (close_is c.before vs c.close) (global_type_found us c.before m.from c.one)))

pub desc_found : (ws vs : List Word) (p : Described) → desc_at ws ≡ Some (p, vs) → Descs ws vs p.0 p.1
desc_found ws vs p e =
    let b = behind_found bracket_at described_at ws vs p e in
    let q = bind_some (kind_at b.after) (λ kind. both optional_at (desc_of_kind kind.0) kind.1) (p, vs) b.one in
    let h = kind_found b.after q.0.1 q.0.0 q.1 in
    let o = both_found optional_at (desc_of_kind q.0.0) q.0.1 vs p q.2 in
    subst (λ (xs : List Word). Descs xs vs p.0 p.1) (sym (bracket_found ws b.after b.pass ∙ ap (λ (xs : List Word). LeftBracket ∷ xs) h.is)) (of_kind h.is_kind q.0.1 o.between vs p.0 p.1 (optional_found q.0.1 o.between p.0 o.one) o.other)
