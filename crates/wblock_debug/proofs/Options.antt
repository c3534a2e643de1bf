-- A line asks for what its words ask for, in the block and with the fuel that its options name.
use Rattle.std.proofs.Common.{◌≡◌, ℕ, List, [], ◌∷◌, filter, length, slice_index_or, Bor, Option, Some, None, Result, Ok, Err, IfOk, IfSome, MatchOption, subst, sym, inr, ⊎_elim, arith}
use Rattle.wblock_line.specs.Words.{Line, Choice}
use Rattle.wblock_line.specs.Words.{choices}
use Rattle.wblock_usage.specs.Words.{choice}
use Rattle.wblock_call.specs.Styles.{AsksStyle, is_other}
use Rattle.wblock_call.specs.declared.style.Style.{Style}
use Rattle.wblock_debug.specs.Asks.{AreBlockWithFuel, AreBlockWithFuelInAnyOrder, AsksBlock, AsksDebug, AsksWords}
use Rattle.wblock_debug.specs.declared.asked.Debugging.{Debugging}

pub no_block : (line : Line) → ((block : Option (Bor (List ℕ))) (fuel : Option ℕ) → ¬ AsksBlock (filter is_other line.options) block fuel) → (d : Debugging) → ¬ AsksDebug line d
no_block line none d a = none d.block d.fuel a.block

pub by_words : {E : Type 0} (r : Result (Option Debugging) E) (words : List (List ℕ)) (line : Line) (block : Option (Bor (List ℕ))) (fuel : Option ℕ) (style : Style) → line.words ≡ words → AsksBlock (filter is_other line.options) block fuel
    → AsksStyle line.options style
    → IfOk r (λ found. MatchOption found ((d : Debugging) → ¬ AsksWords words d) (AsksWords words)) → IfOk r (λ found. IfSome found (λ d. d.block ≡ block)) → IfOk r (λ found. IfSome found (λ d. d.fuel ≡ fuel))
    → IfOk r (λ found. IfSome found (λ d. d.style ≡ style)) → IfOk r (λ found. MatchOption found ((d : Debugging) → ¬ AsksDebug line d) (AsksDebug line))
by_words (Ok None) words line block fuel style is asks told h b f s = λ d a. h d (subst (λ (ws : List (List ℕ)). AsksWords ws d) is a.words)
by_words (Ok (Some d)) words line block fuel style is asks told h b f s =
    record {
      words = subst (λ (ws : List (List ℕ)). AsksWords ws d) (sym is) h;
      style = subst (λ (asked : Style). AsksStyle line.options asked) (sym s) told;
      block = subst (λ (o : Option (Bor (List ℕ))). AsksBlock (filter is_other line.options) o d.fuel) (sym b) (subst (λ (n : Option ℕ). AsksBlock (filter is_other line.options) block n) (sym f) asks);
    }
by_words (Err e) words line block fuel style is asks told h b f s = h

-- two options of which neither order names a block and a fuel, or of which the second order does
pub in_either_order : {E : Type 0} (first second : Choice) (r : Result (Option (Bor (List ℕ) × ℕ)) E) → ((name : List ℕ) (n : ℕ) → ¬ AreBlockWithFuel first second name n)
    → IfOk r (λ found. MatchOption found ((name : List ℕ) (n : ℕ) → ¬ AreBlockWithFuel second first name n) (λ x. AreBlockWithFuel second first x.0.now x.1))
    → IfOk r (λ found. MatchOption found ((name : List ℕ) (n : ℕ) → ¬ AreBlockWithFuelInAnyOrder first second name n) (λ x. AreBlockWithFuelInAnyOrder first second x.0.now x.1))
in_either_order first second (Ok None) none h = λ name n a. ⊎_elim (λ x. none name n x) (λ x. h name n x) a
in_either_order first second (Ok (Some x)) none h = inr h
in_either_order first second (Err e) none h = h

-- two options that name no block and fuel are no options of `debug`
pub no_two : (os : List (Bor (List ℕ) × Bor (List ℕ))) (d e : Bor (List ℕ) × Bor (List ℕ)) → length os ≡ 2
    → ((name : List ℕ) (n : ℕ) → ¬ AreBlockWithFuelInAnyOrder (choice (slice_index_or os 0 d)) (choice (slice_index_or os 1 e)) name n)
    → (block : Option (Bor (List ℕ))) (fuel : Option ℕ) → ¬ AsksBlock (choices os) block fuel
no_two (o ∷ p ∷ []) d e two none (Some block) (Some fuel) a = none block.now fuel a
no_two (o ∷ p ∷ []) d e two none (Some block) None a = a
no_two (o ∷ p ∷ []) d e two none None (Some fuel) a = a
no_two (o ∷ p ∷ []) d e two none None None a = a
no_two [] d e two none block fuel a = absurd (omega (arith, two))
no_two (o ∷ []) d e two none block fuel a = absurd (omega (arith, two))
no_two (o ∷ p ∷ q ∷ os) d e two none block fuel a = absurd (omega (arith, two))
