-- Places that words name.
use Rattle.std.proofs.Common.{◌≡◌, ◌≢◌, ℕ, ◌<◌, ◌^◌, List, ◌∷◌, ◌++◌, sym, ap, ◌∙◌, arith, Option, Some, None, Result, Ok, Err, IfOk, MatchOption, decimal}
use Rattle.wblock_usage.specs.declared.spot.Spot.{Spot}
use Rattle.wblock_usage.specs.declared.spot.Spot.TheVariants.{Own, Of, Exported}
use Rattle.wblock_usage.specs.Words.{HasNoColon, IsNoSpot, IsSpotInRange, SpellsSpot, spot_text, two_numbers}
use Rattle.wblock_usage.proofs.Colons.{not_cut, one_cut, last_cut, decimal_free}

-- a text without a colon names no place
pub no_spot : (text : List ℕ) → HasNoColon text → IsNoSpot text
no_spot text free (Own f o) h = not_cut text (decimal f) (decimal o) free h.text_is
no_spot text free (Of c f o) h = not_cut text (two_numbers c f) (decimal o) free h.text_is
no_spot text free (Exported name o) h = not_cut text name.now (decimal o) free h.text_is

-- nor does one without a number behind its last colon
module _ (text front back : List ℕ) (free : HasNoColon back) (is : text ≡ front ++ 58 ∷ back) (none : (n : ℕ) → n < 2 ^ 32 → back ≢ decimal n) where
  no_number : (named : List ℕ) (o : ℕ) → o < 2 ^ 32 → text ≢ named ++ 58 ∷ decimal o
  no_number named o low e = none o low (last_cut front named back (decimal o) free (decimal_free o (omega (arith, low))) (sym is ∙ e)).rest

  pub no_ordinal : IsNoSpot text
  no_ordinal (Own f o) h = no_number (decimal f) o h.in_range.1 h.text_is
  no_ordinal (Of c f o) h = no_number (two_numbers c f) o h.in_range.2 h.text_is
  no_ordinal (Exported name o) h = no_number name.now o h.in_range.0 h.text_is

-- the place behind a name is the one that stands there
pub behind_name_spot : {E : Type 0} (r : Result (Option Spot) E) (word name text : List ℕ) → HasNoColon name → word ≡ name ++ 58 ∷ text
    → IfOk r (λ found. MatchOption found (IsNoSpot text) (SpellsSpot text))
    → IfOk r (λ found. MatchOption found ((s : Spot) → IsSpotInRange s → word ≢ name ++ 58 ∷ spot_text s) (λ s. IsSpotInRange s × (word ≡ name ++ 58 ∷ spot_text s)))
behind_name_spot (Ok None) word name text free is h = λ s range e. h s (record { text_is = (one_cut name name text (spot_text s) free free (sym is ∙ e)).rest; in_range = range })
behind_name_spot (Ok (Some s)) word name text free is h = (h.in_range, is ∙ ap (λ t. name ++ 58 ∷ t) h.text_is)
behind_name_spot (Err e) word name text free is h = h
