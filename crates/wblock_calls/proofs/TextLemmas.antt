-- Texts of numbers: reading what was written gives the number back.
use Rattle.std.proofs.Common.{◌≡◌, ◌≢◌, ℕ, ℤ, pos, negsuc, List, true, false, sym, ◌∙◌, arith, Result, Ok, Err, ◌<◌, ◌^◌, ap, FitsSigned}
use Rattle.std.proofs.lemmas.Slice.Eq.{bytes_eq-Decides}
use Rattle.std.proofs.lemmas.Fmt.{parse-decimal, parse-signed_decimal}
use Rattle.std.specs.Str.{bytes_eq}
use Rattle.std.specs.Fmt.{decimal, signed_decimal}
use Rattle.std.specs.Int.{Width, w32, w64}
use Rattle.std.specs.Int.Signed.{mag}
use Rattle.std.specs.Str.Parse.{ParsesUnsigned, ParsesSigned}

pub same_text : (xs ys : List ℕ) → true ≡ bytes_eq xs ys → xs ≡ ys
same_text xs ys e = (bytes_eq-Decides xs ys).0 (sym e)

pub other_text : (xs ys : List ℕ) → false ≡ bytes_eq xs ys → xs ≢ ys
other_text xs ys e h = let t = (bytes_eq-Decides xs ys).1 h in let bad : false ≡ true = e ∙ t in cc

-- a text that does not parse is no decimal text
pub no_decimal : {E : Type 0} (word : List ℕ) (r : Result ℕ E) (e : E) → ParsesUnsigned 64 10 word r → r ≡ Err e → (n : ℕ) → n < 2 ^ 64 → word ≢ decimal n
no_decimal word r e parsed is n below h = let ok = parse-decimal 64 n word r below below h parsed in let bad : Err e ≡ Ok n = sym is ∙ ok in cc

-- a text that parses to `m` and is not written like `m` is no decimal text
pub no_other_decimal : {E : Type 0} (word again : List ℕ) (r : Result ℕ E) (m : ℕ) → ParsesUnsigned 64 10 word r → r ≡ Ok m → again ≡ decimal m → false ≡ bytes_eq again word → (n : ℕ) → n < 2 ^ 64 → word ≢ decimal n
no_other_decimal word again r m parsed is written differs n below h =
    let ok = parse-decimal 64 n word r below below h parsed in
    let same = sym is ∙ ok in
    let number : m ≡ n = cc in
    other_text again word differs (written ∙ (ap decimal number ∙ sym h))

pub mag_w64 : (z : ℤ) → FitsSigned w64 z → mag z < 2 ^ 63
mag_w64 (pos n) h = omega (arith, h)
mag_w64 (negsuc n) h = omega (arith, h)

pub mag_w32 : (z : ℤ) → FitsSigned w32 z → mag z < 2 ^ 63
mag_w32 (pos n) h = omega (arith, h)
mag_w32 (negsuc n) h = omega (arith, h)

-- a text that does not parse is no signed decimal text
pub no_signed : {E : Type 0} (w : Width) (word : List ℕ) (r : Result ℤ E) (e : E) → ParsesSigned w 10 word r → r ≡ Err e → (z : ℤ) → FitsSigned w z → mag z < 2 ^ 63 → word ≢ signed_decimal z
no_signed w word r e parsed is z fits small h = let ok = parse-signed_decimal w z word r fits small h parsed in let bad : Err e ≡ Ok z = sym is ∙ ok in cc

-- a text that parses to `y` and is not written like `y` is no signed decimal text
pub no_other_signed : {E : Type 0} (w : Width) (word again : List ℕ) (r : Result ℤ E) (y : ℤ) → ParsesSigned w 10 word r → r ≡ Ok y → again ≡ signed_decimal y → false ≡ bytes_eq again word → (z : ℤ) → FitsSigned w z → mag z < 2 ^ 63 → word ≢ signed_decimal z
no_other_signed w word again r y parsed is written differs z fits small h =
    let ok = parse-signed_decimal w z word r fits small h parsed in
    let same = sym is ∙ ok in
    let number : y ≡ z = cc in
    other_text again word differs (written ∙ (ap signed_decimal number ∙ sym h))
