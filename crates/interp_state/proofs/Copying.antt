-- One entry more is copied.
use Rattle.std.proofs.Common.{◌≡◌, ℕ, ◌+◌, ◌<◌, List, [], ◌∷◌, ◌++◌, sym, ap, ap₂, ◌∙◌, length, take, slice_index_or}
use Rattle.std.specs.Prelude.{map}
use Rattle.std.proofs.lemmas.List.{map-append, take_more}

pub copied_more : {X Y : Type 0} (f : X → Y) (copies new entries : List X) (copy entry : X) (i : ℕ) → i < length entries → new ≡ copies ++ copy ∷ [] → entry ≡ slice_index_or entries i entry → f copy ≡ f entry → map f copies ≡ map f (take i entries) → map f new ≡ map f (take (i + 1) entries)
copied_more f copies new entries copy entry i lt more is same before =
    ap (map f) more
    ∙ map-append f copies (copy ∷ [])
    ∙ ap₂ (λ ys y. ys ++ y ∷ []) before same
    ∙ sym (map-append f (take i entries) (entry ∷ []))
    ∙ ap (λ x. map f (take i entries ++ x ∷ [])) is
    ∙ ap (map f) (sym (take_more entries i entry lt))
