-- A line names one file at most for the world after a block.
use Rattle.std.proofs.Common.{◌≡◌, ◌≢◌, ℕ, List, [], ◌∷◌, Option, Some, None, IfSome, Bor, codes, sym, subst, ◌∙◌}
use Rattle.wblock_line.specs.Words.{Line, Choice}
use Rattle.wblock_blocks.specs.declared.validate.Validation.{Validation}
use Rattle.wblock_commands.specs.Options.{AsksNext}
use Rattle.wblock_commands.specs.Words.{SpellsValidate, NextIsApart}

-- what is true of the name of the file in one reading of the options is true in each
same_next : (os : List Choice) (Is : List ℕ → Type 0) (x y : Option (Bor (List ℕ))) → AsksNext os x → AsksNext os y → IfSome x (λ n. Is n.now) → IfSome y (λ n. Is n.now)
same_next os Is None None a b h = tt
same_next os Is (Some x) None a b h = tt
same_next os Is None (Some y) a b h = let e : [] ≡ y.now ∷ [] = sym a ∙ b in absurd cc
same_next os Is (Some x) (Some y) a b h =
    let e : x.now ∷ [] ≡ y.now ∷ [] = sym a ∙ b in
    let same : x.now ≡ y.now = cc in
    subst Is same h

-- a file that takes no other's place in one reading of a line takes none in each
pub apart_alike : (line : Line) (v w : Validation) → SpellsValidate line v → SpellsValidate line w → NextIsApart v → NextIsApart w
apart_alike line v w a b h =
    let e : codes "validate" ∷ v.world.now ∷ v.calls.now ∷ v.block.now ∷ [] ≡ codes "validate" ∷ w.world.now ∷ w.calls.now ∷ w.block.now ∷ [] = sym a.counts.words ∙ b.counts.words in
    let calls : v.calls.now ≡ w.calls.now = cc in
    let block : v.block.now ≡ w.block.now = cc in
    same_next line.options (λ n. (w.calls.now ≢ n) × (w.block.now ≢ n)) v.next w.next a.next b.next
    (subst (λ c. IfSome v.next (λ n. (c ≢ n.now) × (w.block.now ≢ n.now))) calls (subst (λ b. IfSome v.next (λ n. (v.calls.now ≢ n.now) × (b ≢ n.now))) block h))
