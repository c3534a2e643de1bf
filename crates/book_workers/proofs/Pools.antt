-- What a list of seats did, when its last seat is taken in.
use Rattle.std.proofs.Common.{◌≡◌, ℕ, ◌<◌, Bool, true, false, ◌||◌, List, [], ◌∷◌, ◌++◌, length, get_or, sym, refl, ap, ◌∙◌, subst, arith, append_assoc, append-nil, length-append}
use Rattle.std.specs.List.{All, flat_map}
use Rattle.std.proofs.lemmas.List.{get_or_append_left}
use Rattle.std.proofs.lemmas.List.Folds.{list_any-append}
use Rattle.std.proofs.lemmas.Grind.{flat_map-append}
use Rattle.book_workers.specs.declared.account.Account.{Account}
use Rattle.book_workers.specs.declared.seat.Seat.{Seat}
use Rattle.book_workers.specs.Accounts.{merged}
use Rattle.book_workers.specs.Seats.{account, drawn_by, granted_to, refused_to, is_any_done}

pub record Pooled (all left : List Seat) (v : Account) : Type 0 where
  pub drawn : drawn_by all ≡ drawn_by left ++ v.drawn
  pub granted : granted_to all ≡ granted_to left ++ v.granted
  pub refused : refused_to all ≡ refused_to left ++ v.refused
  pub done : is_any_done all ≡ (is_any_done left || v.is_done)

took_in : (f : Seat → List ℕ) (all mine : List ℕ) (left : List Seat) (x : Seat) → all ≡ flat_map f (left ++ x ∷ []) ++ mine → all ≡ flat_map f left ++ (f x ++ mine)
took_in f all mine left x e = e ∙ (ap (λ xs. xs ++ mine) (flat_map-append f left (x ∷ []) ∙ ap (λ xs. flat_map f left ++ xs) (append-nil (f x))) ∙ append_assoc (flat_map f left) (f x) mine)

or_assoc : (a b c : Bool) → ((a || (b || false)) || c) ≡ (a || (b || c))
or_assoc true b c = refl
or_assoc false true c = refl
or_assoc false false c = refl

pub pooled : (all left : List Seat) (x : Seat) (v w : Account) (before : List Seat) → before ≡ left ++ x ∷ [] → w ≡ merged v (account x) → Pooled all before v → Pooled all left w
pooled all left x v w before e e' p = subst (λ (u : Account). Pooled all left u) (sym e') record {
  drawn = took_in (λ s. (account s).drawn) (drawn_by all) v.drawn left x q.drawn;
  granted = took_in (λ s. (account s).granted) (granted_to all) v.granted left x q.granted;
  refused = took_in (λ s. (account s).refused) (refused_to all) v.refused left x q.refused;
  done = q.done ∙ (ap (λ b. b || v.is_done) (list_any-append (λ s. (account s).is_done) left (x ∷ [])) ∙ or_assoc (is_any_done left) (account x).is_done v.is_done);
}
  where
    q : Pooled all (left ++ x ∷ []) v
    q = subst (λ (l : List Seat). Pooled all l v) e p

pub All-front : {X : Type 0} (P : X → Type 0) (before left : List X) (x : X) → before ≡ left ++ x ∷ [] → All P before → All P left
All-front P before left x e all i d inside = let more = length-append left (x ∷ []) in
    subst P (ap (λ l. get_or l i d) e ∙ get_or_append_left left (x ∷ []) d i inside) (all i d (subst (λ l. i < length l) (sym e) (omega arith)))

pub none_left : {X : Type 0} (xs : List X) → length xs ≡ 0 → xs ≡ []
none_left [] e = refl
none_left (x ∷ xs) e = absurd (omega arith)
