-- Words that are read one after the other.
use Rattle.std.proofs.Common.{◌≡◌, ℕ, zero, suc, ◌+◌, ◌<◌, List, [], ◌∷◌, ◌++◌, length, take, get_or, Bor, refl, sym, ap, ◌∙◌, subst, arith}
use Rattle.std.proofs.lemmas.List.{take_more}
use Rattle.wblock_usage.specs.declared.debugging.Command.{Command}
use Rattle.wblock_calls.specs.Words.{texts}
use Rattle.wblock_usage.specs.Words.{Spells, Spell}

push : (ws : List (List ℕ)) (cs : List Command) (w : List ℕ) (c : Command) → Spell ws cs → Spells w c → Spell (ws ++ w ∷ []) (cs ++ c ∷ [])
push [] [] w c h is = (is, tt)
push [] (d ∷ cs) w c h is = absurd h
push (v ∷ ws) [] w c h is = absurd h
push (v ∷ ws) (d ∷ cs) w c h is = (h.0, push ws cs w c h.1 is)

texts-append : (xs ys : List (Bor (List ℕ))) → texts (xs ++ ys) ≡ texts xs ++ texts ys
texts-append [] ys = refl
texts-append (x ∷ xs) ys = ap (λ r. x.now ∷ r) (texts-append xs ys)

pub one_more : (words : List (Bor (List ℕ))) (at : ℕ) (d : Bor (List ℕ)) (cs new : List Command) (c : Command) → at < length words → Spell (texts (take at words)) cs → Spells (get_or words at d).now c → new ≡ cs ++ c ∷ [] → Spell (texts (take (at + 1) words)) new
one_more words at d cs new c lt h is pushed =
    let e : texts (take (at + 1) words) ≡ texts (take at words) ++ (get_or words at d).now ∷ [] = ap texts (take_more words at d lt) ∙ texts-append (take at words) _ in
    let P : List (List ℕ) → Type 0 = λ ws. Spell ws new in
    let Q : List Command → Type 0 = λ k. Spell (texts (take at words) ++ (get_or words at d).now ∷ []) k in
    subst P (sym e) (subst Q (sym pushed) (push (texts (take at words)) cs (get_or words at d).now c h is))

-- a word that spells no command is none of the words of any commands
pub none_read : (words : List (Bor (List ℕ))) (at : ℕ) (d : Bor (List ℕ)) → at < length words → ((c : Command) → ¬ Spells (get_or words at d).now c) → (cs : List Command) → Spell (texts words) cs → ⊥
none_read [] at d lt none cs h = absurd (omega (arith, lt))
none_read (w ∷ words) at d lt none [] h = absurd h
none_read (w ∷ words) zero d lt none (c ∷ cs) h = none c h.0
none_read (w ∷ words) (suc n) d lt none (c ∷ cs) h = none_read words n d (omega (arith, lt)) none cs h.1
