-- Words are split one after another.
use Rattle.std.proofs.Common.{◌≡◌, ℕ, ◌<◌, ◌+◌, ◌-◌, true, false, List, [], ◌∷◌, ◌++◌, map, take, drop, length, slice_index_or, arith, Option, Bool, cond, Bor, Some, None, refl, sym, ap, ap₂, ◌∙◌, append_assoc, append-nil}
use Rattle.std.proofs.lemmas.List.{map-append, drop-map, drop-drop, take_all, length-drop}
use Rattle.wblock_calls.specs.Words.{texts}
use Rattle.wblock_line.specs.Words.{Line, Choice, choices, is_option, has_value, halves, with_front, split}

-- ---- one step

word_first : (w : List ℕ) (ws : List (List ℕ)) → is_option w ≡ false → split (w ∷ ws) ≡ with_front (w ∷ []) [] (split ws)
unfolding split
word_first w [] e = rw e refl
word_first w (v ∷ ws) e = rw e refl

halves_first : (w : List ℕ) (ws : List (List ℕ)) → is_option w ≡ true → has_value w ≡ true → split (w ∷ ws) ≡ with_front [] (halves w ∷ []) (split ws)
unfolding split
halves_first w [] e f = rw (e, f) refl
halves_first w (v ∷ ws) e f = rw (e, f) refl

value_first : (w v : List ℕ) (ws : List (List ℕ)) → is_option w ≡ true → has_value w ≡ false → split (w ∷ v ∷ ws) ≡ with_front [] ((w, v) ∷ []) (split ws)
unfolding split
value_first w v ws e f = rw (e, f) refl

no_value : (w : List ℕ) → is_option w ≡ true → has_value w ≡ false → split (w ∷ []) ≡ None
unfolding split
no_value w e f = rw (e, f) refl

pub nothing_left : (words : List (List ℕ)) (options : List Choice) → with_front words options (split []) ≡ Some (record { words = words; options = options })
unfolding split
nothing_left words options = ap₂ (λ (a : List (List ℕ)) (b : List Choice). Some (record { words = a; options = b })) (append-nil words) (append-nil options)

twice : (words more : List (List ℕ)) (options others : List Choice) (line : Option Line) → with_front words options (with_front more others line) ≡ with_front (words ++ more) (options ++ others) line
twice words more options others None = refl
twice words more options others (Some l) = ap₂ (λ (a : List (List ℕ)) (b : List Choice). Some (record { words = a; options = b })) (sym (append_assoc words more l.words)) (sym (append_assoc options others l.options))

-- ---- a word that was taken

-- one more item at the end of mapped ones
pushed : {X Y : Type 0} (f : X → Y) (xs new : List X) (x : X) → new ≡ xs ++ x ∷ [] → map f new ≡ map f xs ++ f x ∷ []
pushed {Y = Y} f xs new x e = ap (map f) e ∙ map-append f xs (x ∷ [])

abbrev none : Bor (List ℕ)
none = record { ref_ptr = (0, 0); now = [] }

abbrev pub first_of : List (Bor (List ℕ)) → Bor (List ℕ)
first_of ws = slice_index_or ws 0 none

abbrev pub second_of : List (Bor (List ℕ)) → Bor (List ℕ)
second_of ws = slice_index_or ws 1 none

pub takes_word : (words new ws : List (Bor (List ℕ))) (options : List Choice) → 0 < length ws → is_option (first_of ws).now ≡ false → new ≡ words ++ first_of ws ∷ []
    → with_front (texts new) options (split (drop 1 (texts ws))) ≡ with_front (texts words) options (split (texts ws))
takes_word words new [] options lt e push = absurd (omega (arith, lt))
takes_word words new (w ∷ ws) options lt e push =
    ap₂ (λ (a : List (List ℕ)) (b : List Choice). with_front a b (split (texts ws))) (pushed (λ w. w.now) words new w push) (sym (append-nil options))
    ∙ (sym (twice (texts words) (w.now ∷ []) options [] (split (texts ws))) ∙ ap (with_front (texts words) options) (sym (word_first w.now (texts ws) e)))

pub takes_halves : (words : List (List ℕ)) (options new : List (Bor (List ℕ) × Bor (List ℕ))) (ws : List (Bor (List ℕ))) (h : Bor (List ℕ) × Bor (List ℕ)) → 0 < length ws → is_option (first_of ws).now ≡ true
    → Some (h.0.now, h.1.now) ≡ cond (has_value (first_of ws).now) (Some (halves (first_of ws).now)) None → new ≡ options ++ h ∷ []
    → with_front words (choices new) (split (drop 1 (texts ws))) ≡ with_front words (choices options) (split (texts ws))
takes_halves words options new [] h lt e there push = absurd (omega (arith, lt))
takes_halves words options new (w ∷ ws) h lt e there push =
    let two = two_of (has_value w.now) (halves w.now) (h.0.now, h.1.now) there in
    ap₂ (λ (a : List (List ℕ)) (b : List Choice). with_front a b (split (texts ws))) (sym (append-nil words)) (pushed (λ o. (o.0.now, o.1.now)) options new h push ∙ ap (λ (x : Choice). choices options ++ x ∷ []) two.1)
    ∙ (sym (twice words [] (choices options) (halves w.now ∷ []) (split (texts ws))) ∙ ap (with_front words (choices options)) (sym (halves_first w.now (texts ws) e two.0)))
  where
    two_of : (b : Bool) (x y : Choice) → Some y ≡ cond b (Some x) None → (b ≡ true) × (y ≡ x)
    two_of true x y e = (refl, cc)
    two_of false x y e = absurd cc

without : (b : Bool) (x : Choice) → None ≡ cond b (Some x) None → b ≡ false
without true x e = absurd cc
without false x e = refl

pub takes_value : (words : List (List ℕ)) (options new : List (Bor (List ℕ) × Bor (List ℕ))) (ws : List (Bor (List ℕ))) → 1 < length ws → is_option (first_of ws).now ≡ true
    → None ≡ cond (has_value (first_of ws).now) (Some (halves (first_of ws).now)) None → new ≡ options ++ (first_of ws, second_of ws) ∷ []
    → with_front words (choices new) (split (drop 2 (texts ws))) ≡ with_front words (choices options) (split (texts ws))
takes_value words options new [] lt e none push = absurd (omega (arith, lt))
takes_value words options new (w ∷ []) lt e none push = absurd (omega (arith, lt))
takes_value words options new (w ∷ v ∷ ws) lt e none push =
    ap₂ (λ (a : List (List ℕ)) (b : List Choice). with_front a b (split (texts ws))) (sym (append-nil words)) (pushed (λ o. (o.0.now, o.1.now)) options new (w, v) push)
    ∙ (sym (twice words [] (choices options) ((w.now, v.now) ∷ []) (split (texts ws))) ∙ ap (with_front words (choices options)) (sym (value_first w.now v.now (texts ws) e (without (has_value w.now) (halves w.now) none))))

pub lacks_value : (ws : List (Bor (List ℕ))) → length ws ≡ 1 → is_option (first_of ws).now ≡ true → None ≡ cond (has_value (first_of ws).now) (Some (halves (first_of ws).now)) None → split (texts ws) ≡ None
lacks_value [] one e none = absurd (omega (arith, one))
lacks_value (w ∷ []) one e none = no_value w.now e (without (has_value w.now) (halves w.now) none)
lacks_value (w ∷ v ∷ ws) one e none = absurd (omega (arith, one))

-- what is left after so many words and then so many more
pub left_after : (at n : ℕ) (ws : List (Bor (List ℕ))) → texts (drop (at + n) ws) ≡ drop n (texts (drop at ws))
left_after at n ws = sym (drop-map (λ w. w.now) n (drop at ws) ∙ ap texts (drop-drop n at ws))

pub from_there : (at : ℕ) (ws : List (Bor (List ℕ))) → take (length ws - at) (drop at ws) ≡ drop at ws
from_there at ws = take_all (length ws - at) (drop at ws) (let l = length-drop at ws in omega (arith, l))
