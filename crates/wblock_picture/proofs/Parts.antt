-- The pieces of the longer texts, grouped as they are printed and as they are defined.
use Rattle.std.proofs.Common.{◌≡◌, ℕ, List, [], ◌∷◌, ◌++◌, codes, append_assoc}
use Rattle.wblock_picture.specs.Boxes.{box_front, box_inside}

pub hot_parts : (y l m h : List ℕ) → l ≡ m
    → codes "<text x=\"24\" y=\"" ++ (y ++ (codes "\">hot: " ++ (l ++ (codes ", in " ++ (h ++ (codes " positions</text>" ++ 10 ∷ []))))))
    ≡ codes "<text x=\"24\" y=\"" ++ y ++ codes "\">hot: " ++ m ++ codes ", in " ++ h ++ codes " positions</text>" ++ 10 ∷ []
hot_parts y l m h lm = simp (append_assoc, lm)

pub frame_parts : (a x d y l z b w : List ℕ) → a ++ (x ++ (d ++ (y ++ (l ++ (z ++ (b ++ w)))))) ≡ a ++ x ++ d ++ y ++ l ++ z ++ b ++ w
frame_parts a x d y l z b w = simp append_assoc

pub box_parts : (w v f g i j : List ℕ) → w ≡ v → f ≡ g → i ≡ j → w ++ (f ++ i) ≡ v ++ g ++ j
box_parts w v f g i j wv fg ij = simp (append_assoc, wv, fg, ij)

pub front_same : (l m : List ℕ) (x z y u : ℕ) → l ≡ m → x ≡ z → y ≡ u → box_front l x y ≡ box_front m z u
front_same l m x z y u lm xz yu = cc

pub inside_same : (l m t r : List ℕ) (width number : ℕ) → l ≡ m → t ≡ r → box_inside l t width number ≡ box_inside m r width number
inside_same l m t r width number lm tr = cc
