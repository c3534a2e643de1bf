-- The last group of a lock, as an order goes on.
use Rattle.std.specs.Prelude.{◌≡◌, ℕ, ◌+◌, ◌<◌, ◌^◌, Option, Some, None, if◌then◌else◌, Bool, true, List, [], ◌∷◌, map, set}
use Rattle.std.specs.List.{flat_map}
use Rattle.std.specs.FinMap.{entries, get}
use Rattle.std.specs.Ordering.{eq_by_cmp, is_lt}
use Rattle.spec_ledger.specs.declared.Lock.{Lock}
use Rattle.spec_ledger.specs.declared.Mode.{Mode}
use Rattle.spec_ledger.specs.Cells.{lock_cmp}
use Rattle.spec_ledger.specs.Modes.{Modes, goes_with}
use Rattle.spec_ledger.specs.Order.{holders}
use Rattle.spec_ledger.specs.declared.Entry.{Entry}
use Rattle.lock_profile.specs.declared.Held.{Held}
use Rattle.lock_profile.specs.declared.Group.{Group}
use Rattle.lock_profile.specs.declared.Holder.{Holder}

abbrev pub pair_of : Held → Lock × Mode
pair_of h = (h.lock, h.mode)

abbrev pub pairs : List Held → List (Lock × Mode)
pairs hs = map pair_of hs

-- whether the first lock is below the one that follows it, if there is one
abbrev pub is_below_next : List Held → Bool
is_below_next [] = true
is_below_next (one ∷ []) = true
is_below_next (one ∷ next ∷ more) = is_lt (lock_cmp one.lock next.lock)

-- the same of entries
abbrev pub is_next_above : List Entry → Bool
is_next_above [] = true
is_next_above (one ∷ []) = true
is_next_above (one ∷ next ∷ more) = is_lt (lock_cmp one.lock next.lock)

-- what a call holds of a lock
abbrev pub held_at : Lock → Modes → Option Mode
held_at q modes = get modes q

-- the turn of a holder after the last group
abbrev pub turn_next : Option Group → Mode → ℕ
turn_next None mode = 0
turn_next (Some g) mode = if goes_with g.mode mode then g.turn else g.turn + 1

-- the last group after one more call
abbrev pub group_of : Option Group → Option Mode → Option Group
group_of last None = last
group_of last (Some mode) = Some (record { mode = mode; turn = turn_next last mode })

-- the entries of a call after these groups
abbrev pub written : (Lock → Option Group) → Modes → List Entry
written last modes = map (λ e. record { lock = e.0; mode = e.1; turn = turn_next (last e.0) e.1 }) (entries modes)

-- the last group of these holders
abbrev pub last_group : Option Group → List Mode → Option Group
last_group last [] = last
last_group last (m ∷ ms) = last_group (group_of last (Some m)) ms

-- each lock's last group in an order
abbrev pub GroupsOf : List Modes → (Lock → Option Group) → Type 0
GroupsOf touched groups = (q : Lock) → groups q ≡ last_group None (holders (held_at q) touched)

-- what the calls of an order hold, one after the other
abbrev pub all_held : List Modes → List (Lock × Mode)
all_held touched = flat_map entries touched

-- the holders of some locks, numbered from n on
abbrev pub numbered : ℕ → List (Lock × Mode) → List Holder
numbered n [] = []
numbered n (e ∷ es) = record { lock = e.0; mode = e.1; number = n } ∷ numbered (n + 1) es

-- the groups after one more holder
abbrev pub groups_with : (Lock → Option Group) → Lock × Mode → Lock → Option Group
groups_with last e q = if eq_by_cmp lock_cmp e.0 q then Some (record { mode = e.1; turn = turn_next (last e.0) e.1 }) else last q

-- the turns of holders that come after these groups
abbrev pub turns_from : (Lock → Option Group) → List (Lock × Mode) → List ℕ
turns_from last [] = []
turns_from last (e ∷ es) = turn_next (last e.0) e.1 ∷ turns_from (groups_with last e) es

-- a lock's last group, where the holder before is this one and no later lock is below its own
abbrev pub group_there : Option Entry → Lock → Option Group
group_there None q = None
group_there (Some e) q = if eq_by_cmp lock_cmp e.lock q then Some (record { mode = e.mode; turn = e.turn }) else None

-- the entry of a holder that comes after this one
abbrev pub entry_next : Option Entry → Holder → Entry
entry_next before h = record { lock = h.lock; mode = h.mode; turn = turn_next (group_there before h.lock) h.mode }

-- the turns with those of these holders written at their numbers
abbrev pub turns_after : Option Entry → List Holder → List ℕ → List ℕ
turns_after before [] turns = turns
turns_after before (h ∷ hs) turns = turns_after (Some (entry_next before h)) hs (set turns h.number (turn_next (group_there before h.lock) h.mode))

-- the holders have numbers below n, and turns of 32 bits
abbrev pub AllFit : Option Entry → List Holder → ℕ → Type 0
AllFit before [] n = Unit {0}
AllFit before (h ∷ hs) n = (h.number < n) × ((turn_next (group_there before h.lock) h.mode < 2 ^ 32) × AllFit (Some (entry_next before h)) hs n)

-- these locks with these turns
abbrev pub with_turns : List (Lock × Mode) → List ℕ → List Entry
with_turns [] turns = []
with_turns (e ∷ es) [] = []
with_turns (e ∷ es) (turn ∷ turns) = record { lock = e.0; mode = e.1; turn = turn } ∷ with_turns es turns
