-- A line that is put in parts, and cut short.
use Rattle.std.proofs.Common.{◌≡◌, ◌≢◌, ℕ, ◌+◌, List, [], ◌∷◌, ◌++◌, take, length, arith, sym, ap, subst, ◌∙◌, append_assoc, append-nil, inl, inr, refl}
use Rattle.std.proofs.lemmas.List.{length-append, take-append-le}
use Rattle.std.proofs.Math.Seq.{take-append-add}
use Rattle.wblock_line.specs.Answers.{IsSaid, sentence_line}
use Rattle.byte_sinks.specs.Putting.{IsCutShort, IsRaised}

-- a beginning of a front that is not all of it is one of the whole
cut_in_front : (old new front back : List ℕ) → IsCutShort old new front → IsCutShort old new (front ++ back)
cut_in_front old new front back c = record {
  count = c.count;
  within = (let l = length-append front back in let w = c.within in omega (arith, l, w));
  told = c.told ∙ ap (λ (x : List ℕ). old ++ x) (sym (take-append-le c.count front back (let w = c.within in omega (arith, w))));
}

-- behind a whole front, a beginning of what follows is one of the whole
cut_behind : (old mid new front back : List ℕ) → mid ≡ old ++ front → IsCutShort mid new back → IsCutShort old new (front ++ back)
cut_behind old mid new front back put c = record {
  count = length front + c.count;
  within = (let l = length-append front back in let w = c.within in omega (arith, l, w));
  told =
      c.told ∙ (ap (λ (x : List ℕ). x ++ take c.count back) put
      ∙ (append_assoc old front (take c.count back) ∙ ap (λ (x : List ℕ). old ++ x) (sym (take-append-add front back c.count))));
}

-- the name was cut short
pub cut_in_name : (old mid new word name w n : List ℕ) → w ≡ word → n ≡ name → mid ≡ old ++ w → IsCutShort mid new n → IsCutShort old new (word ++ name ++ 10 ∷ [])
cut_in_name old mid new word name w n e d put c =
    cut_in_front old new (word ++ name) (10 ∷ []) (cut_behind old mid new word name (put ∙ ap (λ (x : List ℕ). old ++ x) e) (subst (IsCutShort mid new) d c))

-- the end of the line was not put
pub cut_at_end : (old mid next new word name w n : List ℕ) → w ≡ word → n ≡ name → mid ≡ old ++ w → next ≡ mid ++ n → IsCutShort next new (10 ∷ []) → IsCutShort old new (word ++ name ++ 10 ∷ [])
cut_at_end old mid next new word name w n e d put more c =
    cut_behind old next new (word ++ name) (10 ∷ []) (more ∙ (ap (λ (x : List ℕ). x ++ n) (put ∙ ap (λ (x : List ℕ). old ++ x) e) ∙ (append_assoc old word n ∙ ap (λ (x : List ℕ). old ++ (word ++ x)) d))) c

-- ---- lines behind one another

-- the first line could not be said whole, and nothing more was said
pub cut_first : (old new front back : List ℕ) (failed fails : ℕ) → IsCutShort old new front → IsRaised failed fails → IsSaid (front ++ back) old new failed fails
cut_first old new front back failed fails c raised = inr (cut_in_front old new front back c, raised)

-- what is put in three parts is put as one
pub joined : (old word name end : List ℕ) → ((old ++ word) ++ name) ++ end ≡ old ++ ((word ++ name) ++ end)
joined old word name end = ap (λ (x : List ℕ). x ++ end) (append_assoc old word name) ∙ append_assoc old (word ++ name) end

-- what follows was said behind a whole line
pub said_behind : (old mid new front back : List ℕ) (failed now fails : ℕ) → mid ≡ old ++ front → now ≡ failed → IsSaid back mid new now fails → IsSaid (front ++ back) old new failed fails
said_behind old mid new front back failed now fails put calm (inl whole) = inl (whole.0 ∙ (ap (λ (x : List ℕ). x ++ back) put ∙ append_assoc old front back), whole.1 ∙ calm)
said_behind old mid new front back failed now fails put calm (inr cut) = inr (cut_behind old mid new front back put cut.0, subst (λ (n : ℕ). IsRaised n fails) calm cut.1)

-- an empty sentence says nothing
pub says_nothing : (why old : List ℕ) (failed : ℕ) → length why ≡ 0 → IsSaid (sentence_line why) old old failed failed
says_nothing [] old failed e = inl (sym (append-nil old), refl)
says_nothing (c ∷ cs) old failed e = absurd (omega (arith, e))

-- a sentence and a newline
pub says_line : (why old new : List ℕ) (failed fails : ℕ) → length why ≢ 0 → IsSaid (why ++ 10 ∷ []) old new failed fails → IsSaid (sentence_line why) old new failed fails
says_line [] old new failed fails ne said = absurd (ne refl)
says_line (c ∷ cs) old new failed fails ne said = said
