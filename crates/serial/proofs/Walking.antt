-- Accesses, gone over one after another.
use Rattle.std.proofs.Common.{◌≡◌, ℕ, suc, ◌+◌, ◌<◌, List, [], ◌∷◌, ◌++◌, length, take, get_or, refl, sym, ◌∙◌, ap, subst, arith}
use Rattle.std.specs.Prelude.{All}
use Rattle.std.proofs.Math.Seq.{take-suc}
use Rattle.std.proofs.lemmas.List.Elements.{All-push}
use Rattle.spec_ledger.specs.Cells.{Cells}
use Rattle.spec_execution.specs.declared.footprints.Access.{Access}
use Rattle.spec_execution.specs.ReadWriteSets.{Agrees, left, all_left}

take_more : {A : Type 0} (xs : List A) (i : ℕ) (d : A) → i < length xs → take (i + 1) xs ≡ take i xs ++ get_or xs i d ∷ []
take_more xs i d below = (let next : i + 1 ≡ suc i = omega arith in ap (λ n. take n xs) next) ∙ take-suc xs i d below

all_left-push : (xs : List Access) (a : Access) (m : Cells) → all_left (xs ++ a ∷ []) m ≡ left a (all_left xs m)
all_left-push [] a m = refl
all_left-push (b ∷ xs) a m = all_left-push xs a (left b m)

pub left_more : (xs : List Access) (i : ℕ) (d : Access) (first now next : Cells) → i < length xs → now ≡ all_left (take i xs) first → next ≡ left (get_or xs i d) now → next ≡ all_left (take (i + 1) xs) first
left_more xs i d first now next below so_far one =
    one ∙ ap (left (get_or xs i d)) so_far ∙ sym (ap (λ l. all_left l first) (take_more xs i d below) ∙ all_left-push (take i xs) (get_or xs i d) first)

pub agree_more : (m : Cells) (xs : List Access) (i : ℕ) (d : Access) → i < length xs → All (Agrees m) (take i xs) → Agrees m (get_or xs i d) → All (Agrees m) (take (i + 1) xs)
agree_more m xs i d below so_far one = subst (All (Agrees m)) (sym (take_more xs i d below)) (All-push (Agrees m) (take i xs) (get_or xs i d) so_far one)
