-- Parts that are repeated: those read so far, and what is left.
use Rattle.std.proofs.Common.{◌≡◌, ℕ, zero, suc, ◌<◌, List, [], ◌∷◌, ◌++◌, length, Option, Some, None, refl, sym, ap, ◌∙◌, arith, append_assoc}
use Rattle.std.proofs.lemmas.List.{append-nil}
use Rattle.std.specs.Prelude.{option_map}
use Rattle.spec_text.specs.Words.{Word}
use Rattle.text_body.specs.declared.unread.ParseFault.{ParseFault}
use Rattle.text_body.specs.declared.unread.ParseFault.TheVariants.{Stuck, NoMemory}
use Rattle.text_body.specs.Outcome.{Unless}
use Rattle.spec_text.specs.FieldsOfPlaces as N
use Rattle.text_body.specs.Reading.{indices_at, last_of, with_front, table_at, Read, ◌>>=◌, repeated, more_of}

abbrev pub Next : Type 0 → Type 0
Next X = Option (Option X × List Word)

abbrev pub prefixed : {X : Type 0} → List X → Read (List X) → Read (List X)
prefixed xs None = None
prefixed xs (Some r) = Some (xs ++ r.0, r.1)

-- What is read of the rest, behind what was found, is the whole.
pub record Halfway {X : Type 0} (next : List Word → Next X) (whole : Read (List X)) (rest : List Word) (found : List X) : Type 0 where
  pub turns : ℕ
  pub enough : length rest < turns
  pub same : whole ≡ prefixed found (repeated next turns rest)

prefixed-more : {X : Type 0} (xs : List X) (x : X) (r : Read (List X)) → prefixed xs (more_of x r) ≡ prefixed (xs ++ x ∷ []) r
prefixed-more xs x None = refl
prefixed-more xs x (Some r) = ap (λ ys. Some (ys, r.1)) (sym (append_assoc xs (x ∷ []) r.0))

abbrev pub turn : {X : Type 0} → (List Word → Next X) → ℕ → Next X → Read (List X)
turn next n o = o >>= λ r. elim r.0 [ None ↦ Some ([], r.1) | Some x ↦ more_of x (repeated next n r.1) ]

-- one turn
pub one_turn : {X : Type 0} (next : List Word → Next X) (n : ℕ) (ws : List Word) (o : Next X) → next ws ≡ o → repeated next (suc n) ws ≡ (o >>= λ r. elim r.0 [ None ↦ Some ([], r.1) | Some x ↦ more_of x (repeated next n r.1) ])
unfolding repeated
one_turn next n ws o e = ap (turn next n) e

module _ {X : Type 0} (next : List Word → Next X) (whole : Read (List X)) (rest : List Word) (found : List X) where
  at_end : (n : ℕ) → length rest < n → whole ≡ prefixed found (repeated next n rest) → (after : List Word) → next rest ≡ Some (None, after) → whole ≡ Some (found, after)
  at_end zero l s after e = absurd (omega arith)
  at_end (suc n) l s after e = s ∙ ap (prefixed found) (one_turn next n rest (Some (None, after)) e) ∙ ap (λ (xs : List X). Some (xs, after)) (append-nil found)

  at_fault : (n : ℕ) → length rest < n → whole ≡ prefixed found (repeated next n rest) → next rest ≡ None → whole ≡ None
  at_fault zero l s e = absurd (omega arith)
  at_fault (suc n) l s e = s ∙ ap (prefixed found) (one_turn next n rest None e)

  at_more : (n : ℕ) → length rest < n → whole ≡ prefixed found (repeated next n rest) → (after : List Word) (x : X) → next rest ≡ Some (Some x, after) → length after < length rest → Halfway next whole after (found ++ x ∷ [])
  at_more zero l s after x e m = absurd (omega arith)
  at_more (suc n) l s after x e m = record { turns = n; enough = omega arith; same = s ∙ ap (prefixed found) (one_turn next n rest (Some (Some x, after)) e) ∙ prefixed-more found x (repeated next n after) }

  pub halfway_end : Halfway next whole rest found → (after : List Word) → next rest ≡ Some (None, after) → whole ≡ Some (found, after)
  halfway_end h after e = at_end h.turns h.enough h.same after e

  pub halfway_fault : Halfway next whole rest found → next rest ≡ None → whole ≡ None
  halfway_fault h e = at_fault h.turns h.enough h.same e

  pub halfway_more : Halfway next whole rest found → (after : List Word) (x : X) → next rest ≡ Some (Some x, after) → length after < length rest → Halfway next whole after (found ++ x ∷ [])
  halfway_more h after x e l = at_more h.turns h.enough h.same after x e l

-- a refusal is handed on
pub hand_on : {P Q : Type 0} (e : ParseFault) → (P → Q) → Unless P e → Unless Q e
hand_on NoMemory f h = h
hand_on (Stuck at) f h = f h

-- ---- the last of a list

pub last_is : {X : Type 0} (xs : List X) (x : X) → last_of (xs ++ x ∷ []) ≡ Some (xs, x)
last_is [] x = refl
last_is (y ∷ xs) x = ap (λ o. Some (with_front y o)) (last_is xs x)

abbrev labelled : List Word → Option (List N.Index × N.Index) → Read N.Flat
labelled after o = option_map (λ r. (N.BrTable r.0 r.1, after)) o

pub table_is : (ws after : List Word) (all is : List N.Index) (last : N.Index) → indices_at ws ≡ Some (all, after) → all ≡ is ++ last ∷ [] → table_at ws ≡ Some (N.BrTable is last, after)
table_is ws after all is last e f =
    ap (λ (o : Read (List N.Index)). o >>= λ found. labelled found.1 (last_of found.0)) (e ∙ ap (λ (xs : List N.Index). Some (xs, after)) f) ∙ ap (labelled after) (last_is is last)
