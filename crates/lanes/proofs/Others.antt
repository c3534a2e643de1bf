-- The ways of a thief into the lanes of the others; and pairs of lanes and thieves, the last first.
use Rattle.std.proofs.Common.{◌≡◌, ℕ, ◌+◌, List, [], ◌∷◌, ◌++◌, length, drop, map, reverse, take, get_or, sym, ◌∙◌, ap, subst, arith}
use Rattle.std.specs.Prelude.{All}
use Rattle.std.proofs.lemmas.List.{append_assoc, drop-map, get_or_append_left, length-append, map-append, reverse-append, take-map}
use Rattle.lanes.specs.Lanes.{Hand, Path, deques_of, ends_of, others}

-- what holds of all items holds of all in front
pub all_front : {X : Type 0} (P : X → Type 0) (all front back : List X) → all ≡ front ++ back → All P all → All P front
all_front P all front back split of_all k d below =
    let longer : length all ≡ length front + length back = ap length split ∙ length-append front back in
    subst P (ap (λ l. get_or l k d) split ∙ get_or_append_left front back d k below) (of_all k d (omega (arith, below, longer)))

-- the ways into the lanes behind one's own, and then into those before it
pub around : (lanes : List Hand) (me : ℕ) (none first all thief : List Path) (behind before : List Hand) → behind ≡ drop (me + 1) lanes → before ≡ take me lanes → none ≡ [] → ends_of first ≡ ends_of none ++ deques_of behind → ends_of all ≡ ends_of first ++ deques_of before → thief ≡ all → ends_of thief ≡ others me (deques_of lanes)
around lanes me none first all thief behind before b e n f a t =
    let begun : ends_of first ≡ deques_of behind = f ∙ ap (λ x. ends_of x ++ deques_of behind) n in
    ap ends_of t ∙ a ∙ ap (λ x. x ++ deques_of before) begun ∙ ap (λ x. deques_of x ++ deques_of before) b ∙ ap (λ x. deques_of (drop (me + 1) lanes) ++ deques_of x) e
    ∙ ap (λ x. x ++ deques_of (take me lanes)) (sym (drop-map (λ lane. lane.deque) (me + 1) lanes)) ∙ ap (λ x. drop (me + 1) (deques_of lanes) ++ x) (sym (take-map (λ lane. lane.deque) me lanes))

-- one pair more, whose part comes from the end of a list
pub pair_more : {X Y : Type 0} (f : X → Y) (all left rest : List Y) (pairs more : List X) (pair : X) → left ++ reverse (map f pairs) ≡ all → left ≡ rest ++ f pair ∷ [] → more ≡ pairs ++ pair ∷ [] → rest ++ reverse (map f more) ≡ all
pair_more f all left rest pairs more pair were split pushed =
    ap (λ m. rest ++ reverse (map f m)) pushed ∙ ap (λ m. rest ++ reverse m) (map-append f pairs (pair ∷ [])) ∙ ap (λ m. rest ++ m) (reverse-append (map f pairs) (f pair ∷ []))
    ∙ sym (append_assoc rest (f pair ∷ []) (reverse (map f pairs))) ∙ ap (λ l. l ++ reverse (map f pairs)) (sym split) ∙ were
