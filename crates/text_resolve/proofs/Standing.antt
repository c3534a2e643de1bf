-- What indices stand for, as it is looked up and by the definitions.
use Rattle.std.proofs.Common.{◌≡◌, ℕ, List, [], ◌∷◌, Option, Some, None, refl, ap, ◌∙◌, subst}
use Rattle.std.specs.Prelude.{option_map, option_and_then}
use Rattle.std.proofs.lemmas.Option.{none-some, same_Some}
use Rattle.spec_text.specs.FieldsOfBytes as N
use Rattle.spec_text.specs.Spaces.{Names, Stands, by_number, by_name}
use Rattle.spec_text.specs.Instructions.{AllStand, none_stands, one_stands}
use Rattle.text_resolve.specs.Lookup.{stands_at, all_stand_at}
use Rattle.text_resolve.proofs.Lookups.{mapped, u32_found, u32_is_found, first_is_found, found_is_first}

pub chained : {X Y : Type 0} (f : X → Option Y) (o : Option X) (y : Y) → option_and_then f o ≡ Some y → (x : X) × (o ≡ Some x) × (f x ≡ Some y)
chained f None y e = absurd (none-some y e)
chained f (Some x) y e = (x, refl, e)

pub stands_is_read : {names : Names} {i : N.Index} {n : ℕ} → Stands names i n → stands_at names i ≡ Some n
stands_is_read (by_number {text} {n} u) = u32_found text n u
stands_is_read (by_name f) = first_is_found f

pub read_stands : (names : Names) (i : N.Index) (n : ℕ) → stands_at names i ≡ Some n → Stands names i n
read_stands names (N.Numbered text) n e = by_number (u32_is_found text n e)
read_stands names (N.Named id) n e = by_name (found_is_first id names n e)

pub all_are_read : {names : Names} {is : List N.Index} {ns : List ℕ} → AllStand names is ns → all_stand_at (stands_at names) is ≡ Some ns
all_are_read none_stands = refl
all_are_read {names} (one_stands {i} {n} {is} {ns} s ss) =
    ap (option_and_then (λ m. option_map (λ ms. m ∷ ms) (all_stand_at (stands_at names) is))) (stands_is_read s) ∙ ap (option_map (λ ms. n ∷ ms)) (all_are_read ss)

pub read_all_stand : (names : Names) (is : List N.Index) (ns : List ℕ) → all_stand_at (stands_at names) is ≡ Some ns → AllStand names is ns
read_all_stand names [] ns e = subst (AllStand names []) (same_Some [] ns e) none_stands
read_all_stand names (i ∷ is) ns e =
    let c = chained (λ m. option_map (λ ms. m ∷ ms) (all_stand_at (stands_at names) is)) (stands_at names i) ns e in
    let m = mapped (λ (ms : List ℕ). c.0 ∷ ms) (all_stand_at (stands_at names) is) ns c.2 in
    subst (AllStand names (i ∷ is)) m.2 (one_stands (read_stands names i c.0 c.1) (read_all_stand names is m.0 m.1))
