-- What a session keeps.
use Rattle.std.specs.Prelude.{◌≡◌, ℕ, ◌+◌, ◌*◌, ◌<◌, ◌≤◌, ◌⊎◌, false, List, [], ◌∷◌, length, All}
use Rattle.debugger.specs.declared.place.Place.{Place}
use Rattle.debugger.specs.declared.cursor.Cursor.{Cursor}
use Rattle.debugger.specs.declared.kept.Kept.{Kept}
use Rattle.debugger.specs.SessionView.{SessionView, IsSessionView, session_view_of, break_place_at}
use Rattle.debugger.specs.Breaks.{is_set_at}
use Rattle.debugger.specs.Cursors.{IsAt, IsSameRun}
use Rattle.debugger.specs.Commands as commands

-- a state of the same run
pub record IsOfRun {A : Type 0} (here c : Cursor A) : Type 0 where
  pub at : IsAt c
  pub same : IsSameRun here c

-- d turns lie between n and the first of these states, and between each and the next
abbrev pub AreSpaced : {A : Type 0} → (d n : ℕ) → List (Cursor A) → Type 0
AreSpaced d n [] = Unit {0}
AreSpaced d n (c ∷ cs) = (c.machine.used ≡ n + d) × AreSpaced d c.machine.used cs

-- the turns before the last of these states, or n where there is none
abbrev pub last_turns : {A : Type 0} → ℕ → List (Cursor A) → ℕ
last_turns n [] = n
last_turns n (c ∷ cs) = last_turns c.machine.used cs

-- at most 64 states of the same run, after each multiple of the distance up to the last; the distance is 1,024, or at most a 32nd of the turns before the last
pub record AreKept {A : Type 0} (here : Cursor A) (k : Kept A) : Type 0 where
  pub all : All (IsOfRun here) k.cursors.items
  pub few : length k.cursors.items ≤ 64
  pub spaced : AreSpaced k.distance 0 k.cursors.items
  pub last_is : k.last ≡ last_turns 0 k.cursors.items
  pub least : 1024 ≤ k.distance
  pub near : (k.distance ≡ 1024) ⊎ (32 * k.distance ≤ k.last)

-- the turns before the next state that is kept
abbrev pub next_turns : {A : Type 0} → Kept A → ℕ
next_turns k = k.last + k.distance

-- after at most so many turns
pub record IsEarlier {A : Type 0} (here : Cursor A) (turns : ℕ) (c : Cursor A) : Type 0 where
  pub of_run : IsOfRun here c
  pub before : c.machine.used ≤ turns

-- where these states are spaced from the first on, and the turns lie before the next one: less than a distance before the turns
abbrev pub IsNearest : {A : Type 0} → (first : Cursor A) → List (Cursor A) → (turns : ℕ) → Cursor A → Type 0
IsNearest first others turns c = (d : ℕ) → AreSpaced d first.machine.used others → turns < last_turns first.machine.used others + d → turns < c.machine.used + d

-- the first state, the state now, and those that are kept; no state was reached that was to be kept and was not
pub record IsKept {A : Type 0} (origin here : Cursor A) (others : Kept A) : Type 0 where
  pub first : IsEarlier here 0 origin
  pub at : IsAt here
  pub kept : AreKept here others
  pub reached : here.machine.used < next_turns others

abbrev pub seen_at : {A : Type 0} → Cursor A → SessionView
seen_at c = session_view_of c.machine c.start.now.cells []

-- no state of the run after more than m turns and fewer than n has a break at its place
abbrev pub HasNoBreakBetween : {A : Type 0} → List Place → Cursor A → (m n : ℕ) → Type 0
HasNoBreakBetween breaks c m n = (u : SessionView) → IsSessionView u → commands.IsSameRun (seen_at c) u → m < u.turns → u.turns < n → is_set_at breaks (break_place_at u) ≡ false
