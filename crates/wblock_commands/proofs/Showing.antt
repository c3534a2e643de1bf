-- A line names one picture at most, and whether it is drawn apart is the same in each reading.
use Rattle.std.proofs.Common.{◌≡◌, ◌≢◌, ℕ, List, [], ◌∷◌, Option, Some, None, Bor, codes, refl, sym, subst, ◌∙◌}
use Rattle.wblock_line.specs.Words.{Line, Choice}
use Rattle.wblock_show.specs.declared.file.Form.{Form}
use Rattle.wblock_show.specs.declared.file.Form.TheVariants.{Text, Json, Picture}
use Rattle.wblock_show.specs.declared.file.Showing.{Showing}
use Rattle.wblock_commands.specs.Options.{AsksCalls, AsksForm}
use Rattle.wblock_commands.specs.Words.{IsDrawnApart, SpellsShow, PictureIsApart}

-- where one reading has no calls, none has
no_calls : (os : List Choice) (x y : Option (Bor (List ℕ))) → AsksCalls os x → AsksCalls os y → x ≡ None → y ≡ None
no_calls os None None a b e = refl
no_calls os (Some x) None a b e = refl
no_calls os None (Some y) a b e = let no : [] ≡ y.now ∷ [] = sym a ∙ b in absurd cc
no_calls os (Some x) (Some y) a b e = absurd cc

same_apart : (os : List Choice) (file : List ℕ) (f g : Form) (x y : Option (Bor (List ℕ))) → AsksForm os f → AsksForm os g → AsksCalls os x → AsksCalls os y → IsDrawnApart f x file → IsDrawnApart g y file
same_apart os file f Text x y a b c d h = tt
same_apart os file f Json x y a b c d h = tt
same_apart os file Text (Picture q) x y a b c d h = let no : [] ≡ q.now ∷ [] = sym a.1 ∙ b.1 in absurd cc
same_apart os file Json (Picture q) x y a b c d h = let no : [] ≡ q.now ∷ [] = sym a.1 ∙ b.1 in absurd cc
same_apart os file (Picture p) (Picture q) x y a b c d h =
    let e : p.now ∷ [] ≡ q.now ∷ [] = sym a.1 ∙ b.1 in
    let same : p.now ≡ q.now = cc in
    (no_calls os x y c d h.0, subst (λ n. file ≢ n) same h.1)

-- a picture that is drawn apart in one reading of a line is so in each
pub drawn_alike : (line : Line) (s t : Showing) → SpellsShow line s → SpellsShow line t → PictureIsApart s → PictureIsApart t
drawn_alike line s t a b h =
    let e : codes "show" ∷ s.file.now ∷ [] ≡ codes "show" ∷ t.file.now ∷ [] = sym a.words ∙ b.words in
    let file : s.file.now ≡ t.file.now = cc in
    same_apart line.options t.file.now s.form t.form s.calls t.calls a.form b.form a.calls b.calls (subst (λ n. IsDrawnApart s.form s.calls n) file h)
