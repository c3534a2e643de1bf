-- The positions of an order, one position more.
use Rattle.std.proofs.Common.{◌≡◌, ℕ, ◌+◌, ◌<◌, ◌≤◌, List, [], ◌∷◌, ◌++◌, length, drop, get_or, refl, sym, ◌∙◌, ap, arith, append_assoc}
use Rattle.std.proofs.lemmas.List.{drop_more}
use Rattle.std.specs.FinMap.{empty}
use Rattle.spec_ledger.specs.declared.Receipt.{Receipt}
use Rattle.spec_ledger.specs.Modes.{Modes}
use Rattle.spec_execution.specs.Serial.{CallResult}
use Rattle.spec_block.specs.Worlds.{Position}
use Rattle.spec_block.specs.Blocks.{all_touched, positions_from, profile_at}
use Rattle.serial.specs.Positions.{results_of}

pub all_touched_is : (rs : List Receipt) (ms : List Modes) → length rs ≡ length ms → all_touched (results_of rs ms) ≡ ms
all_touched_is [] [] e = refl
all_touched_is (r ∷ rs) (m ∷ ms) e = ap (λ xs. m ∷ xs) (all_touched_is rs ms (omega (arith, e)))
all_touched_is [] (m ∷ ms) e = absurd (omega (arith, e))
all_touched_is (r ∷ rs) [] e = absurd (omega (arith, e))

-- the positions from a place on, of these receipts and locks
abbrev pub left_from : List Modes → List ℕ → List Receipt → List Modes → ℕ → List Position
left_from all order rs ms n = positions_from all n (drop n order) (results_of (drop n rs) (drop n ms))

pub one_left : (all : List Modes) (order : List ℕ) (rs : List Receipt) (ms : List Modes) (n c : ℕ) (r : Receipt) (m : Modes)
    → n < length order → n < length rs → n < length ms
    → left_from all order rs ms n ≡ record { call = get_or order n c; receipt = get_or rs n r; profile = profile_at all n (get_or ms n m) } ∷ left_from all order rs ms (n + 1)
one_left all order rs ms n c r m a b d =
    λ k. positions_from all n (drop_more order n c a k) (results_of (drop_more rs n r b k) (drop_more ms n m d k))

-- one position is made
pub one_made : (all : List Modes) (order : List ℕ) (rs : List Receipt) (ms : List Modes) (n c : ℕ) (r : Receipt) (done next : List Position) (p : Position) (target : List Position)
    → n < length order → n < length rs → n < length ms → p ≡ record { call = get_or order n c; receipt = get_or rs n r; profile = profile_at all n (get_or ms n empty) } → next ≡ done ++ p ∷ []
    → done ++ left_from all order rs ms n ≡ target → next ++ left_from all order rs ms (n + 1) ≡ target
one_made all order rs ms n c r done next p target a b d is next_is so_far =
    ap (λ (ps : List Position). ps ++ left_from all order rs ms (n + 1)) next_is
    ∙ (append_assoc done (p ∷ []) (left_from all order rs ms (n + 1))
    ∙ (ap (λ (q : Position). done ++ q ∷ left_from all order rs ms (n + 1)) is
    ∙ (sym (ap (λ (ps : List Position). done ++ ps) (one_left all order rs ms n c r empty a b d)) ∙ so_far)))

pub as_many : (all : List Modes) (n : ℕ) (order : List ℕ) (ran : List CallResult) → length (positions_from all n order ran) ≤ length order
as_many all n [] ran = omega arith
as_many all n (c ∷ order) [] = omega arith
as_many all n (c ∷ order) (r ∷ ran) = let more : length (positions_from all (n + 1) order ran) ≤ length order = as_many all (n + 1) order ran in omega (arith, more)
