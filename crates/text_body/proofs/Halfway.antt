-- Halfway through a body: what is open, the words that are left and the instructions so far.
use Rattle.std.proofs.Common.{◌≡◌, ◌<◌, true, false, List, [], ◌∷◌, ◌++◌, length, Some, None, refl, sym, ap, ◌∙◌, subst, arith, append_assoc}
use Rattle.std.proofs.lemmas.List.{append-nil}
use Rattle.spec_text.specs.Words.{Word}
use Rattle.spec_text.specs.FieldsOfPlaces as N
use Rattle.text_body.specs.Bodies.{IsBody, NoBody}
use Rattle.text_body.specs.Turns.{Open, Operands, Inside, Move, Emits, Opens, Begins, Completes, Ends, Closes, Turns, top_of, move_at, State, step_of, is_end}
use Rattle.text_body.proofs.Pieces.{none_some, some_none, some_same}
use Rattle.text_body.proofs.Rests.{Rest, First, Goes, goes, comes, whole_rest, rest_whole}

-- The words up to rest, with this open, have these instructions: what the rest is completes them, and nothing else does.
pub record Parsing (words : List Word) (s : List Open) (rest : List Word) (out : List N.Flat) : Type 0 where
  pub found : (fs : List N.Flat) (vs : List Word) → Rest s rest fs vs → IsBody words vs (out ++ fs)
  pub only : (fs : List N.Flat) (vs : List Word) → IsBody words vs fs → (gs : List N.Flat) × (fs ≡ out ++ gs) × Rest s rest gs vs

pub parsing_start : (words : List Word) → Parsing words [] words []
parsing_start words = record { found = λ fs vs h. rest_whole words fs vs h; only = λ fs vs h. (fs, refl, whole_rest words fs vs h) }

-- one turn with an instruction
one_on : (words : List Word) (s t : List Open) (rest after : List Word) (out : List N.Flat) (f : N.Flat) → Parsing words s rest out
    → ((fs : List N.Flat) (vs : List Word) → Rest t after fs vs → Rest s rest (f ∷ fs) vs) → ((fs : List N.Flat) (vs : List Word) → Rest s rest fs vs → First f (λ gs. Rest t after gs vs) fs) → Parsing words t after (out ++ f ∷ [])
one_on words s t rest after out f p up down = record {
  found = λ fs vs h. subst (λ (gs : List N.Flat). IsBody words vs gs) (sym (append_assoc out (f ∷ []) fs)) (p.found (f ∷ fs) vs (up fs vs h));
  only = λ fs vs h. (
      let q = p.only fs vs h in
      let d = down q.0 vs q.2 in
      (d.0, q.1 ∙ ap (λ (gs : List N.Flat). out ++ gs) d.1 ∙ sym (append_assoc out (f ∷ []) d.0), d.2));
}

abbrev At : List Open → List N.Flat → List Word → Move × List Word → Type 0
At s fs vs p = Goes p.0 p.1 s fs vs

module _ (words : List Word) (rest : List Word) (out : List N.Flat) (after : List Word) where
  turned : (s : List Open) (m : Move) → move_at (top_of s) rest ≡ Some (m, after) → (fs : List N.Flat) (vs : List Word) → Rest s rest fs vs → Goes m after s fs vs
  turned s m e fs vs h = let g = goes s rest fs vs h in subst (At s fs vs) (some_same (g.move, g.after) (m, after) (sym g.read ∙ e)) g.goes

  -- one turn
  pub advance : (m : Move) (s : List Open) (r : State) → Parsing words s rest out → move_at (top_of s) rest ≡ Some (m, after) → step_of m s out ≡ Some r → Parsing words r.0 after r.1
  advance (Emits f) s r p e h =
      subst (λ (x : State). Parsing words x.0 after x.1) (some_same (s, out ++ f ∷ []) r h)
      (one_on words s s rest after out f p (λ fs vs k. comes s rest (f ∷ fs) vs (Emits f) after e (fs, refl, k)) (λ fs vs k. turned s (Emits f) e fs vs k))
  advance (Opens f form) s r p e h =
      subst (λ (x : State). Parsing words x.0 after x.1) (some_same (Inside form ∷ s, out ++ f ∷ []) r h)
      (one_on words s (Inside form ∷ s) rest after out f p (λ fs vs k. comes s rest (f ∷ fs) vs (Opens f form) after e (fs, refl, k)) (λ fs vs k. turned s (Opens f form) e fs vs k))
  advance (Begins o) s r p e h =
      subst (λ (x : State). Parsing words x.0 after x.1) (some_same (o ∷ s, out) r h) (record {
        found = λ fs vs k. p.found fs vs (comes s rest fs vs (Begins o) after e k);
        only = λ fs vs k. (let q = p.only fs vs k in (q.0, q.1, turned s (Begins o) e q.0 vs q.2));
      })
  advance Completes [] r p e h = absurd (none_some r h)
  advance Completes (Operands f ∷ s) r p e h =
      subst (λ (x : State). Parsing words x.0 after x.1) (some_same (s, out ++ f ∷ []) r h)
      (one_on words (Operands f ∷ s) s rest after out f p (λ fs vs k. comes (Operands f ∷ s) rest (f ∷ fs) vs Completes after e (fs, refl, k)) (λ fs vs k. turned (Operands f ∷ s) Completes e fs vs k))
  advance Completes (Inside form ∷ s) r p e h = absurd (none_some r h)
  advance (Closes f) [] r p e h = absurd (none_some r h)
  advance (Closes f) (o ∷ s) r p e h =
      subst (λ (x : State). Parsing words x.0 after x.1) (some_same (s, out ++ f ∷ []) r h)
      (one_on words (o ∷ s) s rest after out f p (λ fs vs k. comes (o ∷ s) rest (f ∷ fs) vs (Closes f) after e (fs, refl, k)) (λ fs vs k. turned (o ∷ s) (Closes f) e fs vs k))
  advance (Turns f form) [] r p e h = absurd (none_some r h)
  advance (Turns f form) (o ∷ s) r p e h =
      subst (λ (x : State). Parsing words x.0 after x.1) (some_same (Inside form ∷ s, out ++ f ∷ []) r h)
      (one_on words (o ∷ s) (Inside form ∷ s) rest after out f p (λ fs vs k. comes (o ∷ s) rest (f ∷ fs) vs (Turns f form) after e (fs, refl, k)) (λ fs vs k. turned (o ∷ s) (Turns f form) e fs vs k))
  advance Ends s r p e h = absurd (none_some r h)

  true_false : true ≡ false → ⊥
  true_false e = cc

  no_goes : (m : Move) (s : List Open) → is_end m ≡ false → step_of m s out ≡ None → (fs : List N.Flat) (vs : List Word) → Goes m after s fs vs → ⊥
  no_goes (Emits f) s n h fs vs g = some_none (s, out ++ f ∷ []) h
  no_goes (Opens f form) s n h fs vs g = some_none (Inside form ∷ s, out ++ f ∷ []) h
  no_goes (Begins o) s n h fs vs g = some_none (o ∷ s, out) h
  no_goes Completes [] n h fs vs g = g
  no_goes Completes (Operands f ∷ s) n h fs vs g = some_none (s, out ++ f ∷ []) h
  no_goes Completes (Inside form ∷ s) n h fs vs g = g
  no_goes (Closes f) [] n h fs vs g = g
  no_goes (Closes f) (o ∷ s) n h fs vs g = some_none (s, out ++ f ∷ []) h
  no_goes (Turns f form) [] n h fs vs g = g
  no_goes (Turns f form) (o ∷ s) n h fs vs g = some_none (Inside form ∷ s, out ++ f ∷ []) h
  no_goes Ends s n h fs vs g = true_false n

  -- what is open does not allow the turn
  pub stuck : (m : Move) (s : List Open) → Parsing words s rest out → move_at (top_of s) rest ≡ Some (m, after) → is_end m ≡ false → step_of m s out ≡ None → NoBody words
  stuck m s p e n h = λ vs fs k. (let q = p.only fs vs k in no_goes m s n h q.0 vs (turned s m e q.0 vs q.2))

  ends_early : (m : Move) (s : List Open) → is_end m ≡ true → 0 < length s → (fs : List N.Flat) (vs : List Word) → Goes m after s fs vs → ⊥
  ends_early Ends [] t l fs vs g = omega arith
  ends_early Ends (o ∷ s) t l fs vs g = g
  ends_early m s t l fs vs g = true_false (sym t)

  -- the body ends while something is open
  pub ended_early : (m : Move) (s : List Open) → Parsing words s rest out → move_at (top_of s) rest ≡ Some (m, after) → is_end m ≡ true → 0 < length s → NoBody words
  ended_early m s p e t l = λ vs fs k. (let q = p.only fs vs k in ends_early m s t l q.0 vs (turned s m e q.0 vs q.2))

  -- the body ends
  pub ended : (m : Move) (s : List Open) → Parsing words s rest out → move_at (top_of s) rest ≡ Some (m, after) → is_end m ≡ true → length s ≡ 0 → IsBody words after out
  ended Ends [] p e t l = subst (λ (gs : List N.Flat). IsBody words after gs) (append-nil out) (p.found [] after (comes [] rest [] after Ends after e (refl, refl)))
  ended Ends (o ∷ s) p e t l = absurd (omega arith)
  ended m s p e t l = absurd (true_false (sym t))

pub faulty : (words : List Word) (s : List Open) (rest : List Word) (out : List N.Flat) → Parsing words s rest out → move_at (top_of s) rest ≡ None → NoBody words
faulty words s rest out p e = λ vs fs k. (let q = p.only fs vs k in let g = goes s rest q.0 vs q.2 in some_none (g.move, g.after) (sym g.read ∙ e))
