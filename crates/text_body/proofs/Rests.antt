-- What the words and flat instructions that are left are, under what is open, and one turn.
use Rattle.std.proofs.Common.{◌≡◌, ℕ, true, false, cond, List, [], ◌∷◌, Option, Some, None, refl, sym, ap, ◌∙◌, subst, inl, inr}
use Rattle.std.specs.Prelude.{◌⊎◌, option_map}
use Rattle.std.proofs.lemmas.Bool.{cond-true}
use Rattle.wtypes.specs.declared.ValType.{ValType}
use Rattle.spec_text.specs.declared.KeyWord.{KeyWord}
use Rattle.spec_text.specs.declared.KeyWord.TheVariants as k
use Rattle.spec_text.specs.declared.Operator.{Operator}
use Rattle.spec_text.specs.Words.{Word, LeftBracket, RightBracket, Key, Op}
use Rattle.spec_text.specs.FieldsOfPlaces as N
use Rattle.spec_text.specs.Grammar as G
use Rattle.spec_text.specs.Grammar.{OptionalId, OptionalResult, Plain, IsBlock, Instrs, OneInstr, Foldeds, Branches, NotAhead}
use Rattle.text_body.specs.declared.parts.Part.TheVariants as part
use Rattle.text_body.specs.Reading.{Read, id_at, header_at, plain_at, ahead, close_at}
use Rattle.text_body.specs.Turns.{Form, Folded, Flatly, FlatIf, Then, Otherwise, Condition, Open, Operands, Inside, Move, Emits, Opens, Begins, Completes, Ends, Closes, Turns, top_of, opener_of_key, folded_move, flat_form, folded_block_at, flat_block_at, folded_at, then_at, left_at, else_in, closes_in, right_at, end_at, else_at, takes_all, key_at, op_at, move_at}
use Rattle.text_body.proofs.Pieces.{none_some, some_same, map_some, chosen, id_is_read, read_is_id, ahead_is, close_is, header_is_read, header_found, plain_is_read, read_is_plain}

abbrev pub Rule : Type 1
Rule = List Word → List N.Flat → Type 0

-- ---- what closes a form, where P goes on behind it

pub record Shuts (P : Rule) (es : List Word) (os : List N.Flat) : Type 0 where
  after : List Word
  others : List N.Flat
  words : es ≡ RightBracket ∷ after
  flats : os ≡ N.End None ∷ others
  goes : P after others

pub record ShutsTwice (P : Rule) (es : List Word) (os : List N.Flat) : Type 0 where
  after : List Word
  others : List N.Flat
  words : es ≡ RightBracket ∷ RightBracket ∷ after
  flats : os ≡ N.End None ∷ others
  goes : P after others

pub record EndsBlock (P : Rule) (es : List Word) (os : List N.Flat) : Type 0 where
  behind : List Word
  after : List Word
  closing : Option N.Placed
  others : List N.Flat
  words : es ≡ Key k.End ∷ behind
  name : OptionalId behind after closing
  flats : os ≡ N.End closing ∷ others
  goes : P after others

-- instructions, and what ends them
pub record Within (K : Rule) (ws : List Word) (fs : List N.Flat) : Type 0 where
  es : List Word
  os : List N.Flat
  body : Instrs ws es fs os
  closes : K es os

pub record Operating (K : Rule) (ws : List Word) (fs : List N.Flat) : Type 0 where
  es : List Word
  os : List N.Flat
  body : Foldeds ws es fs os
  closes : K es os

pub record ElseBlock (P : Rule) (es : List Word) (os : List N.Flat) : Type 0 where
  behind : List Word
  after : List Word
  closing : Option N.Placed
  others : List N.Flat
  words : es ≡ Key k.Else ∷ behind
  name : OptionalId behind after closing
  flats : os ≡ N.Else closing ∷ others
  goes : Within (EndsBlock P) after others

pub record ElseBranch (P : Rule) (es : List Word) (os : List N.Flat) : Type 0 where
  after : List Word
  others : List N.Flat
  words : es ≡ RightBracket ∷ LeftBracket ∷ Key k.Else ∷ after
  flats : os ≡ N.Else None ∷ others
  goes : Within (ShutsTwice P) after others

abbrev pub AfterFlatIf : Rule → Rule
AfterFlatIf P es os = EndsBlock P es os ⊎ ElseBlock P es os

abbrev pub AfterThen : Rule → Rule
AfterThen P es os = ShutsTwice P es os ⊎ ElseBranch P es os

pub record ThenBranch (label : Option N.Placed) (result : Option ValType) (P : Rule) (es : List Word) (os : List N.Flat) : Type 0 where
  after : List Word
  others : List N.Flat
  words : es ≡ LeftBracket ∷ Key k.Then ∷ after
  flats : os ≡ N.Opens N.If label result ∷ others
  goes : Within (AfterThen P) after others

pub record AfterOperands (f : N.Flat) (P : Rule) (es : List Word) (os : List N.Flat) : Type 0 where
  after : List Word
  others : List N.Flat
  words : es ≡ RightBracket ∷ after
  flats : os ≡ f ∷ others
  goes : P after others

abbrev pub Finish : List Word → Rule
Finish vs es os = (es ≡ RightBracket ∷ vs) × (os ≡ [])

abbrev pub Inner : Form → Rule → Rule
Inner Folded P = Within (Shuts P)
Inner Flatly P = Within (EndsBlock P)
Inner FlatIf P = Within (AfterFlatIf P)
Inner Then P = Within (AfterThen P)
Inner Otherwise P = Within (ShutsTwice P)
Inner (Condition label result) P = Operating (ThenBranch label result P)

-- From the words ws on, with this open, come the flat instructions fs, and vs after the end.
abbrev pub Rest : List Open → List Word → List N.Flat → List Word → Type 0
Rest [] ws fs vs = Within (Finish vs) ws fs
Rest (Operands f ∷ s) ws fs vs = Operating (AfterOperands f (λ us gs. Rest s us gs vs)) ws fs
Rest (Inside form ∷ s) ws fs vs = Inner form (λ us gs. Rest s us gs vs) ws fs

-- the first of the flat instructions is f, and the others go on
abbrev pub First : N.Flat → (List N.Flat → Type 0) → List N.Flat → Type 0
First f P fs = (gs : List N.Flat) × (fs ≡ f ∷ gs) × P gs

abbrev pub Goes : Move → List Word → List Open → List N.Flat → List Word → Type 0
Goes (Emits f) ws s fs vs = First f (λ gs. Rest s ws gs vs) fs
Goes (Opens f form) ws s fs vs = First f (λ gs. Rest (Inside form ∷ s) ws gs vs) fs
Goes (Begins o) ws s fs vs = Rest (o ∷ s) ws fs vs
Goes Completes ws (Operands f ∷ s) fs vs = First f (λ gs. Rest s ws gs vs) fs
Goes Completes ws s fs vs = ⊥
Goes (Closes f) ws [] fs vs = ⊥
Goes (Closes f) ws (o ∷ s) fs vs = First f (λ gs. Rest s ws gs vs) fs
Goes (Turns f form) ws [] fs vs = ⊥
Goes (Turns f form) ws (o ∷ s) fs vs = First f (λ gs. Rest (Inside form ∷ s) ws gs vs) fs
Goes Ends ws [] fs vs = (fs ≡ []) × (vs ≡ ws)
Goes Ends ws (o ∷ s) fs vs = ⊥

-- the next words do what was read of them
pub record Moved (s : List Open) (ws : List Word) (fs : List N.Flat) (vs : List Word) : Type 0 where
  pub move : Move
  pub after : List Word
  pub read : move_at (top_of s) ws ≡ Some (move, after)
  pub goes : Goes move after s fs vs

abbrev pub Header : Type 0
Header = Option N.Placed × Option ValType

abbrev pub Moves : Type 0
Moves = Read Move

-- ---- branches

branches_within : {P : Rule} {rs vs us : List Word} {hs gs : List N.Flat} → Branches rs vs hs gs → vs ≡ RightBracket ∷ us → P us gs → Within (AfterThen P) rs hs
branches_within {us = us} {gs = gs} (G.then_alone {ws} {vs} {fs} na body) e p =
    record { es = _; os = _; body = body; closes = inl (record { after = us; others = gs; words = ap (λ (xs : List Word). RightBracket ∷ xs) e; flats = refl; goes = p }) }
branches_within {us = us} {gs = gs} (G.then_and_else {ws} {us = xs} body other) e p =
    record {
      es = _;
      os = _;
      body = body;
      closes = inr (record { after = xs; others = _; words = refl; flats = refl; goes = record { es = _; os = _; body = other; closes = record { after = us; others = gs; words = ap (λ (xs : List Word). RightBracket ∷ xs) e; flats = refl; goes = p } } });
    }

-- the branches, and what goes on behind them
pub record Branched (P : Rule) (ws : List Word) (fs : List N.Flat) : Type 0 where
  after : List Word
  others : List N.Flat
  branches : Branches ws (RightBracket ∷ after) fs others
  goes : P after others

no_else_behind : (us : List Word) → NotAhead k.Else (RightBracket ∷ us)
no_else_behind us rest e = cc

at_both : (ws es ds : List Word) (fs os ps : List N.Flat) → es ≡ ds → os ≡ ps → Instrs ws es fs os → Instrs ws ds fs ps
at_both ws es ds fs os ps e f h = subst (λ (xs : List Word). Instrs ws xs fs ps) e (subst (λ (xs : List N.Flat). Instrs ws es fs xs) f h)

foldeds_at : (ws es ds : List Word) (fs os ps : List N.Flat) → es ≡ ds → os ≡ ps → Foldeds ws es fs os → Foldeds ws ds fs ps
foldeds_at ws es ds fs os ps e f h = subst (λ (xs : List Word). Foldeds ws xs fs ps) e (subst (λ (xs : List N.Flat). Foldeds ws es fs xs) f h)

within_branches : {P : Rule} {ws : List Word} {fs : List N.Flat} → Within (AfterThen P) ws fs → Branched P ws fs
within_branches {P} {ws} {fs} h = elim h.closes [
  | inl c ↦ record {
    after = c.after;
    others = c.others;
    goes = c.goes;
    branches = G.then_alone (no_else_behind c.after) (at_both ws h.es (RightBracket ∷ RightBracket ∷ c.after) fs h.os (N.End None ∷ c.others) c.words c.flats h.body);
  }
  | inr c ↦ record {
    after = c.goes.closes.after;
    others = c.goes.closes.others;
    goes = c.goes.closes.goes;
    branches = G.then_and_else (at_both ws h.es (RightBracket ∷ LeftBracket ∷ Key k.Else ∷ c.after) fs h.os (N.Else None ∷ c.others) c.words c.flats h.body)
        (at_both c.after c.goes.es (RightBracket ∷ RightBracket ∷ c.goes.closes.after) c.others c.goes.os (N.End None ∷ c.goes.closes.others) c.goes.closes.words c.goes.closes.flats c.goes.body);
  }
]

-- ---- a folded instruction in front

op_of : {ws us : List Word} {f : N.Flat} → Plain ws us f → (op : Operator) × (xs : List Word) × (ws ≡ Op op ∷ xs)
op_of (G.simply h) = (_, _, refl)
op_of (G.with_index h x) = (_, _, refl)
op_of (G.br_table h) = (_, _, refl)
op_of (G.call_indirect u n) = (_, _, refl)
op_of (G.load f a) = (_, _, refl)
op_of (G.store f a) = (_, _, refl)
op_of G.const = (_, _, refl)

abbrev begun : Read N.Flat → Moves
begun o = option_map (λ (r : N.Flat × List Word). (Begins (Operands r.0), r.1)) o

operator_goes : (s : List Open) (vs : List Word) {ws ms us : List Word} {f : N.Flat} {fs hs : List N.Flat} → Plain ws ms f → Foldeds ms (RightBracket ∷ us) fs (f ∷ hs) → Rest s us hs vs → Moved s (LeftBracket ∷ ws) fs vs
operator_goes s vs {ws} {ms} {us} {f} {fs} {hs} p q r =
    let front = op_of p in
    subst (λ (xs : List Word). Moved s (LeftBracket ∷ xs) fs vs) (sym front.2) (record {
      move = Begins (Operands f);
      after = ms;
      read = ap begun (plain_is_read (subst (λ (xs : List Word). Plain xs ms f) front.2 p));
      goes = record { es = _; os = _; body = q; closes = record { after = us; others = hs; words = refl; flats = refl; goes = r } };
    })

folded_read : (o : N.Opener) {ws us ts : List Word} {label : Option N.Placed} {result : Option ValType} → OptionalId ws us label → OptionalResult us ts result → folded_block_at (Some o) ws ≡ Some (folded_move o label result, ts)
folded_read o i q = ap (λ (x : Read Header). option_map (λ (h : Header × List Word). (folded_move o h.0.0 h.0.1, h.1)) x) (header_is_read i q)

flat_read : (o : N.Opener) {ws us ts : List Word} {label : Option N.Placed} {result : Option ValType} → OptionalId ws us label → OptionalResult us ts result
    → flat_block_at (Some o) ws ≡ Some (Opens (N.Opens o label result) (flat_form o), ts)
flat_read o i q = ap (λ (x : Read Header). option_map (λ (h : Header × List Word). (Opens (N.Opens o h.0.0 h.0.1) (flat_form o), h.1)) x) (header_is_read i q)

folded_block_goes : (s : List Open) (vs : List Word) {key : KeyWord} {opener : N.Opener} {ws us ts zs : List Word} {label : Option N.Placed} {result : Option ValType} {fs gs : List N.Flat}
    → IsBlock key opener → OptionalId ws us label → OptionalResult us ts result → Instrs ts (RightBracket ∷ zs) fs (N.End None ∷ gs) → Rest s zs gs vs → Moved s (LeftBracket ∷ Key key ∷ ws) (N.Opens opener label result ∷ fs) vs
folded_block_goes s vs {zs = zs} {fs = fs} {gs = gs} G.block i q body r =
    record { move = _; after = _; read = folded_read N.Block i q; goes = (fs, refl, record { es = _; os = _; body = body; closes = record { after = zs; others = gs; words = refl; flats = refl; goes = r } }) }
folded_block_goes s vs {zs = zs} {fs = fs} {gs = gs} G.loop i q body r =
    record { move = _; after = _; read = folded_read N.Loop i q; goes = (fs, refl, record { es = _; os = _; body = body; closes = record { after = zs; others = gs; words = refl; flats = refl; goes = r } }) }

folded_goes : (s : List Open) (vs : List Word) {ws us : List Word} {fs hs : List N.Flat} → G.Folded ws us fs hs → Rest s us hs vs → Moved s ws fs vs
folded_goes s vs (G.operator p q) r = operator_goes s vs p q r
folded_goes s vs (G.block_in b i q body) r = folded_block_goes s vs b i q body r
folded_goes s vs (G.if_in {rs = rs} {hs = hs} i q cs bs) r =
    record { move = _; after = _; read = folded_read N.If i q; goes = record { es = _; os = _; body = cs; closes = record { after = rs; others = hs; words = refl; flats = refl; goes = branches_within bs refl r } } }

-- ---- an instruction in front

abbrev emitted : Read N.Flat → Moves
emitted o = option_map (λ (r : N.Flat × List Word). (Emits r.0, r.1)) o

plain_goes : (s : List Open) (vs : List Word) → takes_all (top_of s) ≡ true → {ws ms : List Word} {f : N.Flat} {hs : List N.Flat} → Plain ws ms f → Rest s ms hs vs → Moved s ws (f ∷ hs) vs
plain_goes s vs t {ws} {ms} {f} {hs} p r =
    let front = op_of p in
    subst (λ (xs : List Word). Moved s xs (f ∷ hs) vs) (sym front.2) (record {
      move = Emits f;
      after = ms;
      read = cond-true (takes_all (top_of s)) (emitted (plain_at front.0 front.1)) None t ∙ ap emitted (plain_is_read (subst (λ (xs : List Word). Plain xs ms f) front.2 p));
      goes = (hs, refl, r);
    })

block_goes : (s : List Open) (vs : List Word) → takes_all (top_of s) ≡ true → {key : KeyWord} {opener : N.Opener} {ws us ts rs zs : List Word} {label closing : Option N.Placed} {result : Option ValType} {fs gs : List N.Flat}
    → IsBlock key opener → OptionalId ws us label → OptionalResult us ts result → Instrs ts (Key k.End ∷ rs) fs (N.End closing ∷ gs) → OptionalId rs zs closing → Rest s zs gs vs → Moved s (Key key ∷ ws) (N.Opens opener label result ∷ fs) vs
block_goes s vs t {ws = ws} {rs = rs} {zs = zs} {closing = closing} {fs = fs} {gs = gs} G.block i q body c r = record {
  move = _;
  after = _;
  read = cond-true (takes_all (top_of s)) (flat_block_at (Some N.Block) ws) None t ∙ flat_read N.Block i q;
  goes = (fs, refl, record { es = _; os = _; body = body; closes = record { behind = rs; after = zs; closing = closing; others = gs; words = refl; name = c; flats = refl; goes = r } });
}
block_goes s vs t {ws = ws} {rs = rs} {zs = zs} {closing = closing} {fs = fs} {gs = gs} G.loop i q body c r = record {
  move = _;
  after = _;
  read = cond-true (takes_all (top_of s)) (flat_block_at (Some N.Loop) ws) None t ∙ flat_read N.Loop i q;
  goes = (fs, refl, record { es = _; os = _; body = body; closes = record { behind = rs; after = zs; closing = closing; others = gs; words = refl; name = c; flats = refl; goes = r } });
}

instr_goes : (s : List Open) (vs : List Word) → takes_all (top_of s) ≡ true → {ws ms : List Word} {fs hs : List N.Flat} → OneInstr ws ms fs hs → Rest s ms hs vs → Moved s ws fs vs
instr_goes s vs t (G.plain p) r = plain_goes s vs t p r
instr_goes s vs t (G.folded f) r = folded_goes s vs f r
instr_goes s vs t (G.block b i q body c) r = block_goes s vs t b i q body c r
instr_goes s vs t (G.if_then {ws} {rs = rs} {vs = zs} {closing = closing} {fs = fs} {gs = gs} i q body c) r = record {
  move = _;
  after = _;
  read = cond-true (takes_all (top_of s)) (flat_block_at (Some N.If) ws) None t ∙ flat_read N.If i q;
  goes = (fs, refl, record { es = _; os = _; body = body; closes = inl (record { behind = rs; after = zs; closing = closing; others = gs; words = refl; name = c; flats = refl; goes = r }) });
}
instr_goes s vs t (G.if_else {ws} {rs = rs} {qs = qs} {ps = ps} {vs = zs} {other = other} {closing = closing} {fs = fs} {hs = hs} {gs = gs} i q body o other_body c) r = record {
  move = _;
  after = _;
  read = cond-true (takes_all (top_of s)) (flat_block_at (Some N.If) ws) None t ∙ flat_read N.If i q;
  goes = (
    fs,
    refl,
    record {
      es = _;
      os = _;
      body = body;
      closes = inr (record {
        behind = rs;
        after = qs;
        closing = other;
        others = hs;
        words = refl;
        name = o;
        flats = refl;
        goes = record { es = _; os = _; body = other_body; closes = record { behind = ps; after = zs; closing = closing; others = gs; words = refl; name = c; flats = refl; goes = r } };
      });
    },
  );
}

-- ---- the end of what is open

within_goes : (s : List Open) (vs : List Word) (K : Rule) → takes_all (top_of s) ≡ true → ((ws : List Word) (fs : List N.Flat) → Within K ws fs → Rest s ws fs vs) → ((ws : List Word) (fs : List N.Flat) → K ws fs → Moved s ws fs vs)
    → {ws es : List Word} {fs os : List N.Flat} → Instrs ws es fs os → K es os → Moved s ws fs vs
within_goes s vs K t rest closing (G.none {ws} {fs}) c = closing ws fs c
within_goes s vs K t rest closing {es = es} {os = os} (G.then {us = us} {hs = hs} one body) c = instr_goes s vs t one (rest us hs (record { es = es; os = os; body = body; closes = c }))

operating_goes : (s : List Open) (vs : List Word) (K : Rule) → ((ws : List Word) (fs : List N.Flat) → Operating K ws fs → Rest s ws fs vs) → ((ws : List Word) (fs : List N.Flat) → K ws fs → Moved s ws fs vs)
    → {ws es : List Word} {fs os : List N.Flat} → Foldeds ws es fs os → K es os → Moved s ws fs vs
operating_goes s vs K rest closing (G.no_folded {ws} {fs}) c = closing ws fs c
operating_goes s vs K rest closing {es = es} {os = os} (G.folded_then {us = us} {hs = hs} one body) c = folded_goes s vs one (rest us hs (record { es = es; os = os; body = body; closes = c }))

finish_moves : (vs ws : List Word) (fs : List N.Flat) → Finish vs ws fs → Moved [] ws fs vs
finish_moves vs ws fs c = subst (λ (xs : List Word). Moved [] xs fs vs) (sym c.0) (record { move = Ends; after = vs; read = refl; goes = (c.1, refl) })

module _ (s : List Open) (vs : List Word) where
  abbrev On : Rule
  On us gs = Rest s us gs vs

  operands_move : (f : N.Flat) (ws : List Word) (fs : List N.Flat) → AfterOperands f On ws fs → Moved (Operands f ∷ s) ws fs vs
  operands_move f ws fs c = subst (λ (xs : List Word). Moved (Operands f ∷ s) xs fs vs) (sym c.words) (record { move = Completes; after = c.after; read = refl; goes = (c.others, c.flats, c.goes) })

  shuts_move : (ws : List Word) (fs : List N.Flat) → Shuts On ws fs → Moved (Inside Folded ∷ s) ws fs vs
  shuts_move ws fs c = subst (λ (xs : List Word). Moved (Inside Folded ∷ s) xs fs vs) (sym c.words) (record { move = Closes (N.End None); after = c.after; read = refl; goes = (c.others, c.flats, c.goes) })

  otherwise_moves : (ws : List Word) (fs : List N.Flat) → ShutsTwice On ws fs → Moved (Inside Otherwise ∷ s) ws fs vs
  otherwise_moves ws fs c = subst (λ (xs : List Word). Moved (Inside Otherwise ∷ s) xs fs vs) (sym c.words) (record { move = Closes (N.End None); after = c.after; read = refl; goes = (c.others, c.flats, c.goes) })

  then_moves : (ws : List Word) (fs : List N.Flat) → AfterThen On ws fs → Moved (Inside Then ∷ s) ws fs vs
  then_moves ws fs (inl c) = subst (λ (xs : List Word). Moved (Inside Then ∷ s) xs fs vs) (sym c.words) (record { move = Closes (N.End None); after = c.after; read = refl; goes = (c.others, c.flats, c.goes) })
  then_moves ws fs (inr c) = subst (λ (xs : List Word). Moved (Inside Then ∷ s) xs fs vs) (sym c.words) (record { move = Turns (N.Else None) Otherwise; after = c.after; read = refl; goes = (c.others, c.flats, c.goes) })

  condition_moves : (label : Option N.Placed) (result : Option ValType) (ws : List Word) (fs : List N.Flat) → ThenBranch label result On ws fs → Moved (Inside (Condition label result) ∷ s) ws fs vs
  condition_moves label result ws fs c =
      subst (λ (xs : List Word). Moved (Inside (Condition label result) ∷ s) xs fs vs) (sym c.words) (record { move = Turns (N.Opens N.If label result) Then; after = c.after; read = refl; goes = (c.others, c.flats, c.goes) })

  closed_read : (behind after : List Word) (closing : Option N.Placed) → OptionalId behind after closing → ◌≡◌ {A = Moves} (Some (Closes (N.End (id_at behind).0), (id_at behind).1)) (Some (Closes (N.End closing), after))
  closed_read behind after closing i = ap (λ (p : Option N.Placed × List Word). Some (Closes (N.End p.0), p.1)) (id_is_read i)

  flatly_moves : (ws : List Word) (fs : List N.Flat) → EndsBlock On ws fs → Moved (Inside Flatly ∷ s) ws fs vs
  flatly_moves ws fs c =
      subst (λ (xs : List Word). Moved (Inside Flatly ∷ s) xs fs vs) (sym c.words) (record { move = Closes (N.End c.closing); after = c.after; read = closed_read c.behind c.after c.closing c.name; goes = (c.others, c.flats, c.goes) })

  flat_if_moves : (ws : List Word) (fs : List N.Flat) → AfterFlatIf On ws fs → Moved (Inside FlatIf ∷ s) ws fs vs
  flat_if_moves ws fs (inl c) =
      subst (λ (xs : List Word). Moved (Inside FlatIf ∷ s) xs fs vs) (sym c.words) (record { move = Closes (N.End c.closing); after = c.after; read = closed_read c.behind c.after c.closing c.name; goes = (c.others, c.flats, c.goes) })
  flat_if_moves ws fs (inr c) =
      subst (λ (xs : List Word). Moved (Inside FlatIf ∷ s) xs fs vs) (sym c.words) (record {
        move = Turns (N.Else c.closing) Flatly;
        after = c.after;
        read = ap (λ (p : Option N.Placed × List Word). Some (Turns (N.Else p.0) Flatly, p.1)) (id_is_read c.name);
        goes = (c.others, c.flats, c.goes);
      })

-- what is left goes on zs it is read
pub goes : (s : List Open) (ws : List Word) (fs : List N.Flat) (vs : List Word) → Rest s ws fs vs → Moved s ws fs vs
goes [] ws fs vs h = within_goes [] vs (Finish vs) refl (λ ws fs h. h) (finish_moves vs) h.body h.closes
goes (Operands f ∷ s) ws fs vs h = operating_goes (Operands f ∷ s) vs (AfterOperands f (On s vs)) (λ ws fs h. h) (operands_move s vs f) h.body h.closes
goes (Inside Folded ∷ s) ws fs vs h = within_goes (Inside Folded ∷ s) vs (Shuts (On s vs)) refl (λ ws fs h. h) (shuts_move s vs) h.body h.closes
goes (Inside Flatly ∷ s) ws fs vs h = within_goes (Inside Flatly ∷ s) vs (EndsBlock (On s vs)) refl (λ ws fs h. h) (flatly_moves s vs) h.body h.closes
goes (Inside FlatIf ∷ s) ws fs vs h = within_goes (Inside FlatIf ∷ s) vs (AfterFlatIf (On s vs)) refl (λ ws fs h. h) (flat_if_moves s vs) h.body h.closes
goes (Inside Then ∷ s) ws fs vs h = within_goes (Inside Then ∷ s) vs (AfterThen (On s vs)) refl (λ ws fs h. h) (then_moves s vs) h.body h.closes
goes (Inside Otherwise ∷ s) ws fs vs h = within_goes (Inside Otherwise ∷ s) vs (ShutsTwice (On s vs)) refl (λ ws fs h. h) (otherwise_moves s vs) h.body h.closes
goes (Inside (Condition l r) ∷ s) ws fs vs h = operating_goes (Inside (Condition l r) ∷ s) vs (ThenBranch l r (On s vs)) (λ ws fs h. h) (condition_moves s vs l r) h.body h.closes

-- ---- an instruction comes in front

instr_comes : (s : List Open) (vs : List Word) → takes_all (top_of s) ≡ true → {ws ms : List Word} {fs hs : List N.Flat} → OneInstr ws ms fs hs → Rest s ms hs vs → Rest s ws fs vs
instr_comes [] vs t i r = record { es = r.es; os = r.os; body = G.then i r.body; closes = r.closes }
instr_comes (Operands f ∷ s) vs t i r = absurd (wrong t)
  where
    wrong : false ≡ true → ⊥
    wrong e = cc
instr_comes (Inside Folded ∷ s) vs t i r = record { es = r.es; os = r.os; body = G.then i r.body; closes = r.closes }
instr_comes (Inside Flatly ∷ s) vs t i r = record { es = r.es; os = r.os; body = G.then i r.body; closes = r.closes }
instr_comes (Inside FlatIf ∷ s) vs t i r = record { es = r.es; os = r.os; body = G.then i r.body; closes = r.closes }
instr_comes (Inside Then ∷ s) vs t i r = record { es = r.es; os = r.os; body = G.then i r.body; closes = r.closes }
instr_comes (Inside Otherwise ∷ s) vs t i r = record { es = r.es; os = r.os; body = G.then i r.body; closes = r.closes }
instr_comes (Inside (Condition l q) ∷ s) vs t i r = absurd (wrong t)
  where
    wrong : false ≡ true → ⊥
    wrong e = cc

folded_comes : (s : List Open) (vs : List Word) {ws ms : List Word} {fs hs : List N.Flat} → G.Folded ws ms fs hs → Rest s ms hs vs → Rest s ws fs vs
folded_comes [] vs f r = record { es = r.es; os = r.os; body = G.then (G.folded f) r.body; closes = r.closes }
folded_comes (Operands g ∷ s) vs f r = record { es = r.es; os = r.os; body = G.folded_then f r.body; closes = r.closes }
folded_comes (Inside Folded ∷ s) vs f r = record { es = r.es; os = r.os; body = G.then (G.folded f) r.body; closes = r.closes }
folded_comes (Inside Flatly ∷ s) vs f r = record { es = r.es; os = r.os; body = G.then (G.folded f) r.body; closes = r.closes }
folded_comes (Inside FlatIf ∷ s) vs f r = record { es = r.es; os = r.os; body = G.then (G.folded f) r.body; closes = r.closes }
folded_comes (Inside Then ∷ s) vs f r = record { es = r.es; os = r.os; body = G.then (G.folded f) r.body; closes = r.closes }
folded_comes (Inside Otherwise ∷ s) vs f r = record { es = r.es; os = r.os; body = G.then (G.folded f) r.body; closes = r.closes }
folded_comes (Inside (Condition l q) ∷ s) vs f r = record { es = r.es; os = r.os; body = G.folded_then f r.body; closes = r.closes }

abbrev pub Goal : List Open → List N.Flat → List Word → Move × List Word → Type 0
Goal s fs vs p = Goes p.0 p.1 s fs vs

-- what was read, at what was answered
back_to : (s : List Open) (fs : List N.Flat) (vs : List Word) (m n : Move) (us ts : List Word) → ◌≡◌ {A = Move × List Word} (n, ts) (m, us) → Goes m us s fs vs → Goes n ts s fs vs
back_to s fs vs m n us ts e g = subst (Goal s fs vs) (sym e) g

module _ (s : List Open) (fs : List N.Flat) (vs : List Word) (m : Move) (us : List Word) (g : Goes m us s fs vs) where
  abbrev Answer : Move × List Word
  Answer = (m, us)

  none_comes : (ws : List Word) → None ≡ Some Answer → Rest s ws fs vs
  none_comes ws e = absurd (none_some Answer e)

  operator_comes : (op : Operator) (xs : List Word) → begun (plain_at op xs) ≡ Some Answer → Rest s (LeftBracket ∷ Op op ∷ xs) fs vs
  operator_comes op xs e =
      let r = map_some (λ (r : N.Flat × List Word). (Begins (Operands r.0), r.1)) (plain_at op xs) Answer e in
      let b = back_to s fs vs m (Begins (Operands r.0.0)) us r.0.1 r.2 g in
      folded_comes s vs (G.operator (read_is_plain op xs r.0.1 r.0.0 r.1) (foldeds_at r.0.1 b.es (RightBracket ∷ b.closes.after) fs b.os (r.0.0 ∷ b.closes.others) b.closes.words b.closes.flats b.body)) b.closes.goes

  folded_block_comes : (key : KeyWord) (o : N.Opener) (xs : List Word) → IsBlock key o → folded_block_at (Some o) xs ≡ Some Answer → ((l : Option N.Placed) (q : Option ValType) → folded_move o l q ≡ Opens (N.Opens o l q) Folded)
      → Rest s (LeftBracket ∷ Key key ∷ xs) fs vs
  folded_block_comes key o xs b_is e same =
      let r = map_some (λ (h : Header × List Word). (folded_move o h.0.0 h.0.1, h.1)) (header_at xs) Answer e in
      let b = back_to s fs vs m (Opens (N.Opens o r.0.0.0 r.0.0.1) Folded) us r.0.1 (ap (λ x. (x, r.0.1)) (sym (same r.0.0.0 r.0.0.1)) ∙ r.2) g in
      let h = header_found xs r.0.1 r.0.0 r.1 in
      let w = b.2 in
      subst (λ (gs : List N.Flat). Rest s (LeftBracket ∷ Key key ∷ xs) gs vs) (sym b.1)
      (folded_comes s vs (G.block_in b_is h.1 h.2 (at_both r.0.1 w.es (RightBracket ∷ w.closes.after) b.0 w.os (N.End None ∷ w.closes.others) w.closes.words w.closes.flats w.body)) w.closes.goes)

  folded_if_comes : (xs : List Word) → folded_block_at (Some N.If) xs ≡ Some Answer → Rest s (LeftBracket ∷ Key k.If ∷ xs) fs vs
  folded_if_comes xs e =
      let r = map_some (λ (h : Header × List Word). (folded_move N.If h.0.0 h.0.1, h.1)) (header_at xs) Answer e in
      let b = back_to s fs vs m (Begins (Inside (Condition r.0.0.0 r.0.0.1))) us r.0.1 r.2 g in
      let h = header_found xs r.0.1 r.0.0 r.1 in
      let w = within_branches b.closes.goes in
      folded_comes s vs (G.if_in h.1 h.2
      (foldeds_at r.0.1 b.es (LeftBracket ∷ Key k.Then ∷ b.closes.after) fs b.os (N.Opens N.If r.0.0.0 r.0.0.1 ∷ b.closes.others) b.closes.words b.closes.flats b.body) w.branches) w.goes

  folded_key_comes : (key : KeyWord) (xs : List Word) → folded_block_at (opener_of_key key) xs ≡ Some Answer → Rest s (LeftBracket ∷ Key key ∷ xs) fs vs
  folded_key_comes k.Block xs e = folded_block_comes k.Block N.Block xs G.block e (λ l q. refl)
  folded_key_comes k.Loop xs e = folded_block_comes k.Loop N.Loop xs G.loop e (λ l q. refl)
  folded_key_comes k.If xs e = folded_if_comes xs e
  folded_key_comes key xs e = none_comes _ e

  behind_left : (xs : List Word) → folded_at xs ≡ Some Answer → Rest s (LeftBracket ∷ xs) fs vs
  behind_left (Op op ∷ xs) e = operator_comes op xs e
  behind_left (Key key ∷ xs) e = folded_key_comes key xs e
  behind_left xs e = none_comes _ e

  flat_block_comes : (key : KeyWord) (o : N.Opener) (xs : List Word) → takes_all (top_of s) ≡ true → IsBlock key o → flat_form o ≡ Flatly → flat_block_at (Some o) xs ≡ Some Answer → Rest s (Key key ∷ xs) fs vs
  flat_block_comes key o xs t b_is same e =
      let r = map_some (λ (h : Header × List Word). (Opens (N.Opens o h.0.0 h.0.1) (flat_form o), h.1)) (header_at xs) Answer e in
      let b = back_to s fs vs m (Opens (N.Opens o r.0.0.0 r.0.0.1) Flatly) us r.0.1 (ap (λ x. (Opens (N.Opens o r.0.0.0 r.0.0.1) x, r.0.1)) (sym same) ∙ r.2) g in
      let h = header_found xs r.0.1 r.0.0 r.1 in
      let w = b.2 in
      subst (λ (gs : List N.Flat). Rest s (Key key ∷ xs) gs vs) (sym b.1)
      (instr_comes s vs t (G.block b_is h.1 h.2 (at_both r.0.1 w.es (Key k.End ∷ w.closes.behind) b.0 w.os (N.End w.closes.closing ∷ w.closes.others) w.closes.words w.closes.flats w.body) w.closes.name) w.closes.goes)

  flat_if_comes : (xs : List Word) → takes_all (top_of s) ≡ true → flat_block_at (Some N.If) xs ≡ Some Answer → Rest s (Key k.If ∷ xs) fs vs
  flat_if_comes xs t e =
      let r = map_some (λ (h : Header × List Word). (Opens (N.Opens N.If h.0.0 h.0.1) FlatIf, h.1)) (header_at xs) Answer e in
      let b = back_to s fs vs m (Opens (N.Opens N.If r.0.0.0 r.0.0.1) FlatIf) us r.0.1 r.2 g in
      let h = header_found xs r.0.1 r.0.0 r.1 in
      let w = b.2 in
      subst (λ (gs : List N.Flat). Rest s (Key k.If ∷ xs) gs vs) (sym b.1) (elim w.closes [
        | inl c ↦ instr_comes s vs t (G.if_then h.1 h.2 (at_both r.0.1 w.es (Key k.End ∷ c.behind) b.0 w.os (N.End c.closing ∷ c.others) c.words c.flats w.body) c.name) c.goes
        | inr c ↦
            let d = c.goes.closes in
            instr_comes s vs t (G.if_else h.1 h.2 (at_both r.0.1 w.es (Key k.Else ∷ c.behind) b.0 w.os (N.Else c.closing ∷ c.others) c.words c.flats w.body) c.name
            (at_both c.after c.goes.es (Key k.End ∷ d.behind) c.others c.goes.os (N.End d.closing ∷ d.others) d.words d.flats c.goes.body) d.name) d.goes
      ])

  other_key_comes : (key : KeyWord) (xs : List Word) → takes_all (top_of s) ≡ true → flat_block_at (opener_of_key key) xs ≡ Some Answer → Rest s (Key key ∷ xs) fs vs
  other_key_comes k.Block xs t e = flat_block_comes k.Block N.Block xs t G.block refl e
  other_key_comes k.Loop xs t e = flat_block_comes k.Loop N.Loop xs t G.loop refl e
  other_key_comes k.If xs t e = flat_if_comes xs t e
  other_key_comes key xs t e = none_comes _ e

  any_key_comes : (key : KeyWord) (xs : List Word) → cond (takes_all (top_of s)) (flat_block_at (opener_of_key key) xs) None ≡ Some Answer → Rest s (Key key ∷ xs) fs vs
  any_key_comes key xs e = elim (chosen (takes_all (top_of s)) (flat_block_at (opener_of_key key) xs) None (Some Answer) e) [
    | inl h ↦ other_key_comes key xs h.0 h.1
    | inr h ↦ none_comes _ h.1
  ]

  op_comes : (op : Operator) (xs : List Word) → op_at (top_of s) op xs ≡ Some Answer → Rest s (Op op ∷ xs) fs vs
  op_comes op xs e = elim (chosen (takes_all (top_of s)) (emitted (plain_at op xs)) None (Some Answer) e) [
    | inl h ↦
        let r = map_some (λ (r : N.Flat × List Word). (Emits r.0, r.1)) (plain_at op xs) Answer h.1 in
        let b = back_to s fs vs m (Emits r.0.0) us r.0.1 r.2 g in
        subst (λ (gs : List N.Flat). Rest s (Op op ∷ xs) gs vs) (sym b.1) (instr_comes s vs h.0 (G.plain (read_is_plain op xs r.0.1 r.0.0 r.1)) b.2)
    | inr h ↦ none_comes _ h.1
  ]

-- ---- what closes

then_comes : (s : List Open) (xs : List Word) (fs : List N.Flat) (vs : List Word) (m : Move) (us : List Word) → then_at (top_of s) xs ≡ Some (m, us) → Goes m us s fs vs → Rest s (LeftBracket ∷ Key k.Then ∷ xs) fs vs
then_comes [] xs fs vs m us e g = absurd (none_some (m, us) e)
then_comes (Operands f ∷ s) xs fs vs m us e g = absurd (none_some (m, us) e)
then_comes (Inside (Condition l q) ∷ s) xs fs vs m us e g =
    let b = back_to (Inside (Condition l q) ∷ s) fs vs m (Turns (N.Opens N.If l q) Then) us xs (some_same (Turns (N.Opens N.If l q) Then, xs) (m, us) e) g in
    record { es = _; os = fs; body = G.no_folded; closes = record { after = xs; others = b.0; words = refl; flats = b.1; goes = b.2 } }
then_comes (Inside form ∷ s) xs fs vs m us e g = absurd (none_some (m, us) e)

left_comes : (s : List Open) (xs : List Word) (fs : List N.Flat) (vs : List Word) (m : Move) (us : List Word) → left_at (top_of s) xs ≡ Some (m, us) → Goes m us s fs vs → Rest s (LeftBracket ∷ xs) fs vs
left_comes s (Key k.Then ∷ xs) fs vs m us e g = then_comes s xs fs vs m us e g
left_comes s xs fs vs m us e g = behind_left s fs vs m us g xs e

end_comes : (s : List Open) (xs : List Word) (fs : List N.Flat) (vs : List Word) (m : Move) (us : List Word) → end_at (top_of s) xs ≡ Some (m, us) → Goes m us s fs vs → Rest s (Key k.End ∷ xs) fs vs
end_comes [] xs fs vs m us e g = absurd (none_some (m, us) e)
end_comes (Operands f ∷ s) xs fs vs m us e g = absurd (none_some (m, us) e)
end_comes (Inside Flatly ∷ s) xs fs vs m us e g =
    let b = back_to (Inside Flatly ∷ s) fs vs m (Closes (N.End (id_at xs).0)) us (id_at xs).1 (some_same (Closes (N.End (id_at xs).0), (id_at xs).1) (m, us) e) g in
    record { es = _; os = fs; body = G.none; closes = record { behind = xs; after = (id_at xs).1; closing = (id_at xs).0; others = b.0; words = refl; name = read_is_id xs; flats = b.1; goes = b.2 } }
end_comes (Inside FlatIf ∷ s) xs fs vs m us e g =
    let b = back_to (Inside FlatIf ∷ s) fs vs m (Closes (N.End (id_at xs).0)) us (id_at xs).1 (some_same (Closes (N.End (id_at xs).0), (id_at xs).1) (m, us) e) g in
    record { es = _; os = fs; body = G.none; closes = inl (record { behind = xs; after = (id_at xs).1; closing = (id_at xs).0; others = b.0; words = refl; name = read_is_id xs; flats = b.1; goes = b.2 }) }
end_comes (Inside form ∷ s) xs fs vs m us e g = absurd (none_some (m, us) e)

else_comes : (s : List Open) (xs : List Word) (fs : List N.Flat) (vs : List Word) (m : Move) (us : List Word) → else_at (top_of s) xs ≡ Some (m, us) → Goes m us s fs vs → Rest s (Key k.Else ∷ xs) fs vs
else_comes [] xs fs vs m us e g = absurd (none_some (m, us) e)
else_comes (Operands f ∷ s) xs fs vs m us e g = absurd (none_some (m, us) e)
else_comes (Inside FlatIf ∷ s) xs fs vs m us e g =
    let b = back_to (Inside FlatIf ∷ s) fs vs m (Turns (N.Else (id_at xs).0) Flatly) us (id_at xs).1 (some_same (Turns (N.Else (id_at xs).0) Flatly, (id_at xs).1) (m, us) e) g in
    record { es = _; os = fs; body = G.none; closes = inr (record { behind = xs; after = (id_at xs).1; closing = (id_at xs).0; others = b.0; words = refl; name = read_is_id xs; flats = b.1; goes = b.2 }) }
else_comes (Inside form ∷ s) xs fs vs m us e g = absurd (none_some (m, us) e)

key_comes : (s : List Open) (key : KeyWord) (xs : List Word) (fs : List N.Flat) (vs : List Word) (m : Move) (us : List Word) → key_at (top_of s) key xs ≡ Some (m, us) → Goes m us s fs vs → Rest s (Key key ∷ xs) fs vs
key_comes s k.End xs fs vs m us e g = end_comes s xs fs vs m us e g
key_comes s k.Else xs fs vs m us e g = else_comes s xs fs vs m us e g
key_comes s key xs fs vs m us e g = any_key_comes s fs vs m us g key xs e

-- behind the ) of a then or an else
then_closes : (s : List Open) (xs : List Word) (fs : List N.Flat) (vs : List Word) (m : Move) (us : List Word) (c a : Option (List Word)) → close_at xs ≡ c → ahead part.Else xs ≡ a → closes_in c (else_in a) ≡ Some (m, us)
    → Goes m us (Inside Then ∷ s) fs vs → Rest (Inside Then ∷ s) (RightBracket ∷ xs) fs vs
then_closes s xs fs vs m us (Some ys) a e f h g =
    let b = back_to (Inside Then ∷ s) fs vs m (Closes (N.End None)) us ys (some_same (Closes (N.End None), ys) (m, us) h) g in
    record { es = _; os = fs; body = G.none; closes = inl (record { after = ys; others = b.0; words = ap (λ (zs : List Word). RightBracket ∷ zs) (close_is xs ys e); flats = b.1; goes = b.2 }) }
then_closes s xs fs vs m us None (Some ys) e f h g =
    let b = back_to (Inside Then ∷ s) fs vs m (Turns (N.Else None) Otherwise) us ys (some_same (Turns (N.Else None) Otherwise, ys) (m, us) h) g in
    record { es = _; os = fs; body = G.none; closes = inr (record { after = ys; others = b.0; words = ap (λ (zs : List Word). RightBracket ∷ zs) (ahead_is part.Else xs ys f); flats = b.1; goes = b.2 }) }
then_closes s xs fs vs m us None None e f h g = absurd (none_some (m, us) h)

otherwise_closes : (s : List Open) (xs : List Word) (fs : List N.Flat) (vs : List Word) (m : Move) (us : List Word) (c : Option (List Word)) → close_at xs ≡ c → closes_in c None ≡ Some (m, us)
    → Goes m us (Inside Otherwise ∷ s) fs vs → Rest (Inside Otherwise ∷ s) (RightBracket ∷ xs) fs vs
otherwise_closes s xs fs vs m us (Some ys) e h g =
    let b = back_to (Inside Otherwise ∷ s) fs vs m (Closes (N.End None)) us ys (some_same (Closes (N.End None), ys) (m, us) h) g in
    record { es = _; os = fs; body = G.none; closes = record { after = ys; others = b.0; words = ap (λ (zs : List Word). RightBracket ∷ zs) (close_is xs ys e); flats = b.1; goes = b.2 } }
otherwise_closes s xs fs vs m us None e h g = absurd (none_some (m, us) h)

right_comes : (s : List Open) (xs : List Word) (fs : List N.Flat) (vs : List Word) (m : Move) (us : List Word) → right_at (top_of s) xs ≡ Some (m, us) → Goes m us s fs vs → Rest s (RightBracket ∷ xs) fs vs
right_comes [] xs fs vs m us e g =
    let b = back_to [] fs vs m Ends us xs (some_same (Ends, xs) (m, us) e) g in
    record { es = _; os = fs; body = G.none; closes = (ap (λ (zs : List Word). RightBracket ∷ zs) (sym b.1), b.0) }
right_comes (Operands f ∷ s) xs fs vs m us e g =
    let b = back_to (Operands f ∷ s) fs vs m Completes us xs (some_same (Completes, xs) (m, us) e) g in
    record { es = _; os = fs; body = G.no_folded; closes = record { after = xs; others = b.0; words = refl; flats = b.1; goes = b.2 } }
right_comes (Inside Folded ∷ s) xs fs vs m us e g =
    let b = back_to (Inside Folded ∷ s) fs vs m (Closes (N.End None)) us xs (some_same (Closes (N.End None), xs) (m, us) e) g in
    record { es = _; os = fs; body = G.none; closes = record { after = xs; others = b.0; words = refl; flats = b.1; goes = b.2 } }
right_comes (Inside Then ∷ s) xs fs vs m us e g = then_closes s xs fs vs m us (close_at xs) (ahead part.Else xs) refl refl e g
right_comes (Inside Otherwise ∷ s) xs fs vs m us e g = otherwise_closes s xs fs vs m us (close_at xs) refl e g
right_comes (Inside form ∷ s) xs fs vs m us e g = absurd (none_some (m, us) e)

-- what was read of the next words completes what is left
pub comes : (s : List Open) (ws : List Word) (fs : List N.Flat) (vs : List Word) (m : Move) (us : List Word) → move_at (top_of s) ws ≡ Some (m, us) → Goes m us s fs vs → Rest s ws fs vs
comes s (LeftBracket ∷ xs) fs vs m us e g = left_comes s xs fs vs m us e g
comes s (RightBracket ∷ xs) fs vs m us e g = right_comes s xs fs vs m us e g
comes s (Op op ∷ xs) fs vs m us e g = op_comes s fs vs m us g op xs e
comes s (Key key ∷ xs) fs vs m us e g = key_comes s key xs fs vs m us e g
comes s ws fs vs m us e g = absurd (none_some (m, us) e)

-- a whole body
pub whole_rest : (words : List Word) (fs : List N.Flat) (vs : List Word) → Instrs words (RightBracket ∷ vs) fs [] → Rest [] words fs vs
whole_rest words fs vs h = record { es = RightBracket ∷ vs; os = []; body = h; closes = (refl, refl) }

pub rest_whole : (words : List Word) (fs : List N.Flat) (vs : List Word) → Rest [] words fs vs → Instrs words (RightBracket ∷ vs) fs []
rest_whole words fs vs h = at_both words h.es (RightBracket ∷ vs) fs h.os [] h.closes.0 h.closes.1 h.body
