-- The pieces of a printed text, however they are grouped.
use Rattle.std.proofs.Common.{◌≡◌, ℕ, List, ◌++◌, Result, Ok, Err, IfOk, string_bytes, ◌∙◌, append_assoc}
use Rattle.std.specs.declared.string.String.{String}

pub printed : {A E : Type 0} (r : Result (String A) E) (bs cs : List ℕ) → IfOk r (λ s. string_bytes s ≡ bs) → bs ≡ cs → IfOk r (λ s. string_bytes s ≡ cs)
printed (Ok s) bs cs h e = h ∙ e
printed (Err x) bs cs h e = tt

pub six_parts : (a p b c q d e r f s : List ℕ) → a ≡ p → c ≡ q → e ≡ r → f ≡ s → a ++ (b ++ (c ++ (d ++ (e ++ f)))) ≡ p ++ b ++ q ++ d ++ r ++ s
six_parts a p b c q d e r f s ap cq er fs = simp (append_assoc, ap, cq, er, fs)
