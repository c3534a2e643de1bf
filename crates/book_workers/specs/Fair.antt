-- The rule of the two words, the next number and the fuel that is left, and what each step tells its seat.
use Rattle.std.specs.Prelude.{◌≡◌, ◌≢◌, ℕ, ◌+◌, ◌^◌, ◌<◌, ◌≤◌, Bool, true, false, List, [], ◌∷◌, length, slice_index}
use Rattle.std.specs.List.{All, sum}
use mathlib.Core.Option.{Option, none, some}
use lib.ListN.{get_elem?}
use Rattle.atomic_table.specs.Table.{State, Me, Step}
use Rattle.book_workers.specs.declared.account.Account.{Account}
use Rattle.book_workers.specs.declared.account.Limits.{Limits}
use Rattle.book_workers.specs.Accounts.{drew, told_done, saw, grant, refuse, times}

-- f of each view, added up
abbrev pub total : (Account → ℕ) → List Account → ℕ
total f [] = 0
total f (v ∷ vs) = f v + total f vs

-- the parts of a seat that was told that all numbers are drawn
abbrev pub late_of : Bool → ℕ → ℕ
late_of true parts = parts
late_of false parts = 0

abbrev pub late : Account → ℕ
late v = late_of v.is_done v.parts

-- what the words mean to one seat
pub record Sound (k : Limits) (next fuel : ℕ) (v : Account) : Type 0 where
  pub limits : 0 < v.parts → v.limits ≡ k
  pub idle : v.parts ≡ 0 → (v.drawn ≡ []) × (v.granted ≡ []) × (v.refused ≡ []) × (v.is_done ≡ false)
  pub all_drawn : v.is_done ≡ true → k.calls ≤ next
  pub least : 0 < v.parts → fuel ≤ v.seen
  pub too_much : All (λ asked. fuel < asked) v.refused

pub record Kept (k : Limits) (next fuel : ℕ) (views : List Account) : Type 0 where
  pub few : k.calls + k.seats < 2 ^ 63
  pub whole : total (λ v. v.parts) views ≡ k.seats
  pub reach : next ≤ k.calls + total late views
  pub once : (n : ℕ) → n < next → n < k.calls → total (λ v. times n v.drawn) views ≡ 1
  pub not_yet : (n : ℕ) → next ≤ n → total (λ v. times n v.drawn) views ≡ 0
  pub no_more : (n : ℕ) → k.calls ≤ n → total (λ v. times n v.drawn) views ≡ 0
  pub spent : fuel + total (λ v. sum v.granted) views ≡ k.block_fuel
  pub each : (id : ℕ) (v : Account) → get_elem? views id ≡ some v → Sound k next fuel v

abbrev pub OfWords : Limits → List ℕ → List Account → Type 0
OfWords k words views = (length words ≡ 2) × Kept k (slice_index words 0) (slice_index words 1) views

abbrev pub Fair : Limits → State ℕ Account → Type 0
Fair k s = OfWords k s.words s.views

abbrev Sits : Type 0
Sits = Me ℕ Account

-- a load of the next number
abbrev pub looked : Step ℕ → Sits → ℕ → Sits → Type 0
looked st m n m' = (m'.1 ≡ m.1) × (n < m.0.limits.calls → (m'.0 ≡ m.0) × (m.0.is_done ≡ false)) × (m.0.limits.calls ≤ n → m'.0 ≡ told_done m.0)

-- one more is added to the next number
abbrev pub took : Step ℕ → Sits → ℕ → Sits → Type 0
took st m n m' = (m'.1 ≡ m.1) × (n < m.0.limits.calls → (m'.0 ≡ drew m.0 n) × All (λ k. k < n) m.0.drawn) × (m.0.limits.calls ≤ n → m'.0 ≡ told_done m.0)

-- a load of the fuel
abbrev pub peeked : Step ℕ → Sits → ℕ → Sits → Type 0
peeked st m n m' = (m'.1 ≡ m.1) × (n ≤ m.0.seen) × (n + sum m.0.granted ≤ m.0.limits.block_fuel) × (m'.0 ≡ saw m.0 n)

abbrev said : Option ℕ → ℕ
said none = 0
said (some fuel) = fuel

-- the fuel becomes less by what the step announces, if it was as expected
abbrev pub asked : Step ℕ → Sits → ℕ → Sits → Type 0
asked st m n m' = (m'.1 ≡ m.1) × (n ≤ m.0.seen)
    × (n ≡ st.first → m'.0 ≡ grant m.0 (said st.said) st.second)
    × (n ≢ st.first → n < said st.said → m'.0 ≡ refuse m.0 (said st.said) n)
    × (n ≢ st.first → said st.said ≤ n → m'.0 ≡ saw m.0 n)
