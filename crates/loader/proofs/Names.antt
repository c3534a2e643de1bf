-- A name at the front of bytes.
use Rattle.std.proofs.Common.{◌≡◌, ℕ, true, false, Bool, List, Some, None, refl, sym, ap}
use Rattle.std.specs.Str.{IsUtf8, is_utf8}
use Rattle.std.proofs.lemmas.Str.{IsUtf8-from_is_utf8, is_utf8-from_IsUtf8}
use Rattle.laws_modules.specs.ReadingModules.{sized_at, name_at}

pub name_found : (bytes text same rest : List ℕ) → sized_at bytes ≡ Some (text, rest) → IsUtf8 text → same ≡ text → name_at bytes ≡ Some (same, rest)
unfolding name_at
name_found bytes text same rest sized is e =
    let t : is_utf8 text ≡ true = is_utf8-from_IsUtf8 text is in
    rw (sized, t) (ap (λ s. Some (s, rest)) (sym e))

lost : (bytes text rest : List ℕ) (b : Bool) → sized_at bytes ≡ Some (text, rest) → (IsUtf8 text → ⊥) → is_utf8 text ≡ b → name_at bytes ≡ None
unfolding name_at
lost bytes text rest true sized isnt t = absurd (isnt (IsUtf8-from_is_utf8 text t))
lost bytes text rest false sized isnt t = rw (sized, t) refl

pub no_name : (bytes text rest : List ℕ) → sized_at bytes ≡ Some (text, rest) → (IsUtf8 text → ⊥) → name_at bytes ≡ None
no_name bytes text rest sized isnt = lost bytes text rest (is_utf8 text) sized isnt refl
