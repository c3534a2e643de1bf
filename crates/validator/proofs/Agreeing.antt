-- Lists that agree element by element.
use Rattle.std.proofs.Common.{◌≡◌, inl, inr, ℕ, zero, suc, ◌+◌, ◌<◌, ◌≤◌, List, [], ◌∷◌, Some, length, get_or, slice_get, refl, sym, ap, subst, ◌∙◌, arith}
use Rattle.std.proofs.lemmas.Bool.Decides.{eqb_tells}
use Rattle.std.proofs.lemmas.List.{get_or-map, length-map}
use Rattle.std.proofs.lemmas.Option.{slice_get_within, same_Some}
use Rattle.spec_ledger.specs.declared.Entry.{Entry}
use Rattle.spec_ledger.specs.declared.Receipt.{Receipt}
use Rattle.spec_ledger.specs.declared.Lock.{Lock}
use Rattle.spec_ledger.specs.declared.Mode.{Mode}
use Rattle.spec_ledger.specs.Modes.{Modes}
use Rattle.lock_profile.specs.declared.Held.{Held}
use Rattle.lock_profile.specs.Groups.{pairs, pair_of}
use Rattle.spec_block.specs.Worlds.{Position, held_in}
use Rattle.spec_block.specs.Verdicts.{Agrees, IsLeast, IsOther}
use Rattle.spec_execution.specs.Serial.{CallResult}
use Rattle.serial.specs.Positions.{results_of}

abbrev pub held_of : Entry → Held
held_of e = record { lock = e.lock; mode = e.mode }

-- ---- locks with modes

pub same_held : (es : List Entry) (hs : List Held) (i : ℕ) → length es ≡ length hs → length es ≤ i → ((m : ℕ) (d : Entry) (h : Held) → m < i → m < length es → get_or hs m h ≡ held_of (get_or es m d)) → held_in es ≡ pairs hs
same_held [] [] i len end alike = refl
same_held [] (h ∷ hs) i len end alike = absurd (omega (arith, len))
same_held (e ∷ es) [] i len end alike = absurd (omega (arith, len))
same_held (e ∷ es) (h ∷ hs) zero len end alike = absurd (omega (arith, end))
same_held (e ∷ es) (h ∷ hs) (suc i) len end alike =
    let rest = same_held es hs i (omega (arith, len)) (omega (arith, end)) (λ m d x lt below. alike (suc m) d x (omega (arith, lt)) (omega (arith, below))) in
    let first : h ≡ held_of e = alike 0 e h (omega arith) (omega arith) in
    let pair : (e.lock, e.mode) ≡ pair_of h = ap pair_of (sym first) in
    λ k. pair k ∷ rest k

pub held_at : (es : List Entry) (hs : List Held) (i : ℕ) (d : Entry) (h : Held) → held_in es ≡ pairs hs → i < length es → get_or hs i h ≡ held_of (get_or es i d)
held_at es hs i d h same below =
    let many : length es ≡ length hs = sym (length-map es (λ (e : Entry). (e.lock, e.mode))) ∙ (ap (λ (l : List (Lock × Mode)). length l) same ∙ length-map hs pair_of) in
    let a : get_or (pairs hs) i (pair_of h) ≡ pair_of (get_or hs i h) = get_or-map pair_of hs i h (pair_of h) (omega (arith, below, many)) in
    let b : get_or (held_in es) i (pair_of h) ≡ ((get_or es i d).lock, (get_or es i d).mode) = get_or-map (λ (e : Entry). (e.lock, e.mode)) es i d (pair_of h) below in
    let p : pair_of (get_or hs i h) ≡ ((get_or es i d).lock, (get_or es i d).mode) = sym a ∙ (ap (λ (l : List (Lock × Mode)). get_or l i (pair_of h)) (sym same) ∙ b) in
    λ k. record { lock = (p k).0; mode = (p k).1 }

-- ---- positions

ran_at : (rs : List Receipt) (ms : List Modes) (i : ℕ) (r : Receipt) (m : Modes) → slice_get rs i ≡ Some r → slice_get ms i ≡ Some m → slice_get (results_of rs ms) i ≡ Some (record { receipt = r; touched = m })
ran_at [] ms i r m a b = absurd (cc a)
ran_at (x ∷ rs) [] i r m a b = absurd (cc b)
ran_at (x ∷ rs) (y ∷ ms) zero r m a b = let p = same_Some x r a in let q = same_Some y m b in λ k. Some (record { receipt = p k; touched = q k })
ran_at (x ∷ rs) (y ∷ ms) (suc i) r m a b = ran_at rs ms i r m a b

module _ (ps : List Position) (rs : List Receipt) (ms : List Modes) (i : ℕ) (p : Position) (r : Receipt) (m : Modes) (at : slice_get ps i ≡ Some p) (at_r : slice_get rs i ≡ Some r) (at_m : slice_get ms i ≡ Some m)
    (none : (n : ℕ) → n < i → ¬ (IsOther ps (results_of rs ms) n)) where
  pub least_other : ¬ (Agrees p (record { receipt = r; touched = m })) → IsLeast (IsOther ps (results_of rs ms)) i
  least_other other = record { holds = (p, record { receipt = r; touched = m }, at, ran_at rs ms i r m at_r at_m, other); none_before = none }

  not_here : Agrees p (record { receipt = r; touched = m }) → ¬ (IsOther ps (results_of rs ms) i)
  not_here agrees other =
      let same = same_Some other.0 p (sym other.2 ∙ at) in
      let same_ran = same_Some other.1 (record { receipt = r; touched = m }) (sym other.3 ∙ ran_at rs ms i r m at_r at_m) in
      other.4 (subst (λ (x : Position). Agrees x other.1) (sym same) (subst (λ (x : CallResult). Agrees p x) (sym same_ran) agrees))

  pub none_more : Agrees p (record { receipt = r; touched = m }) → (n : ℕ) → n < i + 1 → ¬ (IsOther ps (results_of rs ms) n)
  none_more agrees n lt =
      elim (eqb_tells n i) [
        | inl y ↦ subst (λ k. ¬ (IsOther ps (results_of rs ms) k)) (sym y.1) (not_here agrees)
        | inr z ↦ none n (let ne = z.1 in omega arith)
      ]

pub none_other : (ps : List Position) (ran : List CallResult) (i : ℕ) → length ps ≤ i → ((n : ℕ) → n < i → ¬ (IsOther ps ran n)) → (n : ℕ) → ¬ (IsOther ps ran n)
none_other ps ran i end none n other = none n (let within = slice_get_within ps n other.0 other.2 in omega (arith, within, end)) other
