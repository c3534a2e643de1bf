-- Lines of a text, read one after the other.
use Rattle.std.proofs.Common.{◌≡◌, ◌≢◌, ℕ, List, [], ◌∷◌, ◌++◌, ◌+◌, ◌<◌, ◌≤◌, take, drop, length, get_or, Bor, refl, ap, sym, ◌∙◌, subst, inl, inr, arith, true, false, ◌==◌}
use Rattle.std.proofs.lemmas.List.{take_more, take_all, take-append-drop, length-take-le}
use Rattle.std.proofs.lemmas.List.Splits.{length-slice_split}
use Rattle.std.proofs.lemmas.Grind.{common_steps}
use Rattle.std.specs.List.{AllZip}
use Rattle.spec_execution.specs.Run.{ContractCall}
use Rattle.wblock_calls.specs.Texts.{IsLineOf, lines_of, SpellsCalls, IsFirstBad}
use Rattle.wblock_calls.specs.Words.{texts}

pub each_push : (ls : List (List ℕ)) (cs : List ContractCall) (l : List ℕ) (c : ContractCall) → AllZip IsLineOf ls cs → IsLineOf l c → AllZip IsLineOf (ls ++ l ∷ []) (cs ++ c ∷ [])
each_push [] [] l c h is = (is, tt)
each_push [] (d ∷ cs) l c h is = absurd h
each_push (m ∷ ls) [] l c h is = absurd h
each_push (m ∷ ls) (d ∷ cs) l c h is = (h.0, each_push ls cs l c h.1 is)

pub texts-append : (xs ys : List (Bor (List ℕ))) → texts (xs ++ ys) ≡ texts xs ++ texts ys
texts-append [] ys = refl
texts-append (x ∷ xs) ys = ap (λ r. x.now ∷ r) (texts-append xs ys)

pub each_more : (ended : List (Bor (List ℕ))) (at : ℕ) (d : Bor (List ℕ)) (cs new : List ContractCall) (c : ContractCall) → at < length ended → AllZip IsLineOf (texts (take at ended)) cs → IsLineOf (get_or ended at d).now c → new ≡ cs ++ c ∷ [] → AllZip IsLineOf (texts (take (at + 1) ended)) new
each_more ended at d cs new c lt h is pushed =
    let e : texts (take (at + 1) ended) ≡ texts (take at ended) ++ (get_or ended at d).now ∷ [] = ap texts (take_more ended at d lt) ∙ texts-append (take at ended) _ in
    let grown = each_push (texts (take at ended)) cs (get_or ended at d).now c h is in
    let P : List (List ℕ) → Type 0 = λ ls. AllZip IsLineOf ls new in
    let Q : List ContractCall → Type 0 = λ k. AllZip IsLineOf (texts (take at ended) ++ (get_or ended at d).now ∷ []) k in
    subst P (sym e) (subst Q (sym pushed) grown)

-- the text where each line is ended and spells its call
pub all_spelled : (text : List ℕ) (lines ended : List (Bor (List ℕ))) (last : Bor (List ℕ)) (at : ℕ) (cs : List ContractCall) → texts lines ≡ lines_of text → lines ≡ ended ++ last ∷ [] → length ended ≤ at → last.now ≡ [] → AllZip IsLineOf (texts (take at ended)) cs → SpellsCalls text cs
all_spelled text lines ended last at cs cut is all empty h =
    let P : List (Bor (List ℕ)) → Type 0 = λ ls. AllZip IsLineOf (texts ls) cs in
    record {
      lines = texts ended;
      ended = sym cut ∙ (ap texts is ∙ (texts-append ended (last ∷ []) ∙ ap (λ l. texts ended ++ l ∷ []) empty));
      each = subst P (take_all at ended all) h;
    }

pub length-texts : (xs : List (Bor (List ℕ))) → length (texts xs) ≡ length xs
length-texts [] = refl
length-texts (x ∷ xs) = let e = length-texts xs in omega (arith, e)

-- the last line is not ended
pub open_line : (text : List ℕ) (lines ended : List (Bor (List ℕ))) (last : Bor (List ℕ)) (at : ℕ) (cs : List ContractCall) → texts lines ≡ lines_of text → lines ≡ ended ++ last ∷ [] → at ≤ length ended → length ended ≤ at → last.now ≢ [] → AllZip IsLineOf (texts (take at ended)) cs → IsFirstBad text (at + 1)
open_line text lines ended last at cs cut is low high some h =
    let P : List (Bor (List ℕ)) → Type 0 = λ ls. AllZip IsLineOf (texts ls) cs in
    let long = length-texts ended in
    record {
      before = texts ended;
      calls = cs;
      bad = last.now;
      rest = [];
      split = sym cut ∙ (ap texts is ∙ texts-append ended (last ∷ []));
      spelled = subst P (take_all at ended high) h;
      count = omega (arith, long, low, high);
      fault = inr (refl, some);
    }

pub is_empty_list : (xs : List ℕ) → true ≡ (length xs == 0) → xs ≡ []
is_empty_list [] e = refl
is_empty_list (x ∷ xs) e = absurd (grind (arith, common_steps))

pub is_some_list : (xs : List ℕ) → false ≡ (length xs == 0) → xs ≢ []
is_some_list [] e h = grind (arith, common_steps)
is_some_list (x ∷ xs) e h = cc

more_lines : (rest : List (Bor (List ℕ))) (last : Bor (List ℕ)) → texts (rest ++ last ∷ []) ≢ []
more_lines [] last h = cc
more_lines (x ∷ rest) last h = cc

-- the first line that spells no call
pub bad_line : (text : List ℕ) (lines ended : List (Bor (List ℕ))) (last d : Bor (List ℕ)) (at : ℕ) (cs : List ContractCall) → texts lines ≡ lines_of text → lines ≡ ended ++ last ∷ [] → at < length ended → AllZip IsLineOf (texts (take at ended)) cs → ((c : ContractCall) → ¬ IsLineOf (get_or ended at d).now c) → IsFirstBad text (at + 1)
bad_line text lines ended last d at cs cut is lt h none =
    let item = get_or ended at d in
    let rest = drop (at + 1) ended in
    let whole : ended ≡ (take at ended ++ item ∷ []) ++ rest = sym (take-append-drop (at + 1) ended) ∙ ap (λ t. t ++ rest) (take_more ended at d lt) in
    let joined : ended ++ last ∷ [] ≡ take at ended ++ (item ∷ (rest ++ last ∷ [])) = grind (arith, common_steps) in
    let le : at ≤ length ended = omega (arith, lt) in
    let long = length-texts (take at ended) in
    let cutlong = length-take-le at ended le in
    record {
      before = texts (take at ended);
      calls = cs;
      bad = item.now;
      rest = texts (rest ++ last ∷ []);
      split = sym cut ∙ (ap texts (is ∙ joined) ∙ texts-append (take at ended) (item ∷ (rest ++ last ∷ [])));
      spelled = h;
      count = omega (arith, long, cutlong);
      fault = inl (more_lines rest last, none);
    }

-- a text has at least the line after its last newline
pub no_lines : (text : List ℕ) (lines : List (Bor (List ℕ))) → texts lines ≡ lines_of text → length lines ≡ 0 → ⊥
no_lines text lines cut none =
    let same = length-texts lines in
    let count = length-slice_split (λ b. b == 10) text in
    let long = ap length cut in
    omega (arith, same, count, long, none)
