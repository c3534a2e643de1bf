-- Which lists of bytes are UTF-8.
use Rattle.std.proofs.Common.{◌≡◌, ℕ, Bool, true, false, cond, List, Option, Some, None, refl}
use Rattle.std.specs.Prelude.{IsUtf8}
use Rattle.std.specs.Str.{is_utf8}
use Rattle.std.proofs.lemmas.Bool.{cond-true}
use Rattle.std.proofs.lemmas.Str.{IsUtf8-from_is_utf8, is_utf8-from_IsUtf8}
use Rattle.text_tree.specs.Reading.{utf8_in}

pub utf8_some : (s : List ℕ) → IsUtf8 s → utf8_in s ≡ Some s
utf8_some s h = cond-true (is_utf8 s) (Some s) None (is_utf8-from_IsUtf8 s h)

by_test : (s : List ℕ) (b : Bool) → is_utf8 s ≡ b → (IsUtf8 s → ⊥) → ◌≡◌ {A = Option (List ℕ)} (cond b (Some s) None) None
by_test s true e h = absurd (h (IsUtf8-from_is_utf8 s e))
by_test s false e h = refl

pub utf8_none : (s : List ℕ) → (IsUtf8 s → ⊥) → utf8_in s ≡ None
utf8_none s h = by_test s (is_utf8 s) refl h
