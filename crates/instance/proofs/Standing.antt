-- The values of globals that stand: lent ones, or their own.
use Rattle.std.proofs.Common.{◌≡◌, ℕ, zero, suc, ◌<◌, ◌==◌, Bool, true, false, [], ◌∷◌, Vec, length, vec_len, slice_set, refl, sym, ap, ◌∙◌, arith}
use Rattle.std.proofs.lemmas.List.{length-set}
use Rattle.wtypes.specs.declared.Value.{Value}
use Rattle.instance.specs.Globals.{Values, standing, HasRoom}

is_zero : (n : ℕ) (b : Bool) → b ≡ (n == 0) → b ≡ true → n ≡ 0
is_zero zero b e h = refl
is_zero (suc n) b e h = grind arith

not_zero : (n : ℕ) (b : Bool) → b ≡ (n == 0) → b ≡ false → 0 < n
not_zero zero b e h = grind arith
not_zero (suc n) b e h = omega arith

nothing : (vs : Values) → length vs ≡ 0 → vs ≡ []
nothing [] e = refl
nothing (v ∷ vs) e = absurd (omega (arith, e))

lent_stand : (own lent : Values) → length own ≡ 0 → lent ≡ standing own lent
lent_stand [] lent e = refl
lent_stand (v ∷ vs) lent e = absurd (omega (arith, e))

own_stand : (own lent : Values) → 0 < length own → own ≡ standing own lent
own_stand [] lent lt = absurd (omega (arith, lt))
own_stand (v ∷ vs) lent lt = refl

module _ {A : Type 0} (own : Vec Value A) (b : Bool) (test : b ≡ (vec_len own == 0)) where
  pub none_own : b ≡ true → own.items ≡ []
  none_own h = nothing own.items (omega (arith, own.ok.0, is_zero (vec_len own) b test h))

  pub stands_lent : (lent : Values) → b ≡ true → lent ≡ standing own.items lent
  stands_lent lent h = lent_stand own.items lent (omega (arith, own.ok.0, is_zero (vec_len own) b test h))

  pub stands_own : (lent : Values) → b ≡ false → own.items ≡ standing own.items lent
  stands_own lent h = own_stand own.items lent (omega (arith, own.ok.0, not_zero (vec_len own) b test h))

-- ---- after a write

lent_none : (own lent : Values) → length (standing own lent) ≡ 0 → length lent ≡ 0
lent_none [] lent e = e
lent_none (v ∷ vs) lent e = absurd (omega (arith, e))

-- where nothing is written, nothing stood
none_stood : (own lent : Values) (x : ℕ) (v : Value) → [] ≡ slice_set (standing own lent) x v → length lent ≡ 0
none_stood own lent x v e = lent_none own lent (sym (ap length e ∙ length-set (standing own lent) x v))

pub stands_set : (own new lent : Values) (x : ℕ) (v : Value) → new ≡ slice_set (standing own lent) x v → standing new lent ≡ slice_set (standing own lent) x v
stands_set own [] lent x v e = nothing lent (none_stood own lent x v e) ∙ e
stands_set own (w ∷ ws) lent x v e = e

pub room_set : {A : Type 0} (own : Values) (new : Vec Value A) (lent : Values) (x : ℕ) (v : Value) → new.items ≡ slice_set (standing own lent) x v → HasRoom new lent
room_set own new lent x v e = λ none. omega (arith, none_stood own lent x v (sym none ∙ e))
