-- The configuration that the parts of a machine stand for.
use Rattle.std.specs.Prelude.{◌≡◌, ℕ, ◌+◌, ◌≤◌, List, [], ◌∷◌, length, take, drop}
use Rattle.wtypes.specs.declared.Value.{Value}
use Rattle.wtypes.specs.declared.TrapCode.{TrapCode}
use Rattle.spec_modules.specs.Syntax.{Instr, Instrs, nothing, seq}
use Rattle.spec_execution.specs.Configuration as c
use Rattle.spec_execution.specs.Configuration.{Contract, Seq, End, Val, Code, State, Config, Running, Trap}
use Rattle.spec_execution.specs.Run.{next, IsStuck, Reduces}
use Rattle.spec_execution.specs.Turns.{Frees}

-- an instruction of the code, with its ordinal
pub record Item : Type 0 where
  pub ordinal : ℕ
  pub instr : Instr

-- instructions of the code, then the rest
abbrev pub listed : List Item → Seq → Seq
listed [] rest = rest
listed (i ∷ is) rest = Code i.ordinal i.instr (listed is rest)

-- instructions, numbered in preorder
abbrev pub numbered : ℕ → Instrs → List Item
numbered n nothing = []
numbered n (seq i is) = record { ordinal = n; instr = i } ∷ numbered (n + c.instr_size i) is

-- what is open round the code: a block, a loop, or a call of a function with the locals of the caller
pub data Scope : Type 0 where
  Block : Scope
  Loop : Scope
  Frame : (func : ℕ) (saved : List Value) → Scope

-- from: of a loop, the code from the loop on; else the code behind it
pub record Open : Type 0 where
  pub scope : Scope
  pub ordinal : ℕ
  pub arity : ℕ
  pub height : ℕ
  pub from : List Item

-- values, the topmost last, then the rest
abbrev pub put : List Value → Seq → Seq
put [] rest = rest
put (v ∷ vs) rest = Val v (put vs rest)

-- what a branch to a label goes on with: the loop again, or nothing
abbrev pub continuation : Scope → List Item → Instrs
continuation Loop (i ∷ is) = seq i.instr nothing
continuation Loop [] = nothing
continuation Block is = nothing
continuation (Frame f saved) is = nothing

-- the code behind a label or a frame
abbrev pub behind : Scope → List Item → List Item
behind Loop (i ∷ is) = is
behind Loop [] = []
behind Block is = is
behind (Frame f saved) is = is

-- the locals outside
abbrev pub outer : Scope → List Value → List Value
outer Block locals = locals
outer Loop locals = locals
outer (Frame f saved) locals = saved

-- the label or the frame itself, round a sequence. A frame has the label of its body in it.
abbrev pub item : Scope → (ordinal arity : ℕ) → List Item → List Value → Seq → Seq
item Block at n is locals inside = c.Label n at (continuation Block is) inside (listed (behind Block is) End)
item Loop at n is locals inside = c.Label n at (continuation Loop is) inside (listed (behind Loop is) End)
item (Frame f saved) at n is locals inside = c.Frame f n locals (c.Label n 0 nothing inside End) (listed (behind (Frame f saved) is) End)

-- the height of the values below the innermost
abbrev pub height : List Open → ℕ
height [] = 0
height (e ∷ es) = e.height

-- a sequence in the innermost of the open ones, innermost first; below are the values below it
abbrev pub around : List Open → List Value → List Value → Seq → Seq
around [] below locals x = x
around (e ∷ es) below locals x =
    around es (take (height es) below) (outer e.scope locals) (put (drop (height es) below) (item e.scope e.ordinal e.arity e.from locals x))

-- the whole sequence: the values, and behind them a sequence in the innermost
abbrev pub whole : List Open → List Value → List Value → Seq → Seq
whole es stack locals x = around es (take (height es) stack) locals (put (drop (height es) stack) x)

-- each height is at most the next one
abbrev pub Stands : List Open → ℕ → Type 0
Stands [] n = Unit {0}
Stands (e ∷ es) n = (e.height ≤ n) × Stands es e.height

-- the number of frames round the innermost sequence, with n round all
abbrev pub deeper : Scope → ℕ → ℕ
deeper Block n = n
deeper Loop n = n
deeper (Frame f saved) n = n + 1

abbrev pub frames : List Open → ℕ → ℕ
frames [] n = n
frames (e ∷ es) n = deeper e.scope (frames es n)

-- the locals outside all of them
abbrev pub outermost : List Open → List Value → List Value
outermost [] locals = locals
outermost (e ∷ es) locals = outermost es (outer e.scope locals)

abbrev pub at : State → List Value → State
at s locals = record s { locals = locals }

-- what the parts are, the innermost open one first
pub record View : Type 0 where
  pub base : State
  pub entries : List Open
  pub stack : List Value
  pub locals : List Value
  pub code : List Item

abbrev pub state : View → State
state v = at v.base (outermost v.entries v.locals)

abbrev pub sequence : View → Seq
sequence v = whole v.entries v.stack v.locals (listed v.code End)

abbrev pub config : View → Config
config v = Running (state v) (sequence v)

-- the same with a call of a function to come
abbrev pub invoking : View → ℕ → Seq
invoking v f = whole v.entries v.stack v.locals (c.Invoke f (listed v.code End))

abbrev pub calling : View → ℕ → Config
calling v f = Running (state v) (invoking v f)

-- a loop has the ordinal of its instruction
abbrev pub Begins : Scope → ℕ → List Item → Type 0
Begins Loop n (i ∷ is) = n ≡ i.ordinal
Begins Loop n [] = Unit {0}
Begins Block n is = Unit {0}
Begins (Frame f saved) n is = Unit {0}

abbrev pub EachBegins : List Open → Type 0
EachBegins [] = Unit {0}
EachBegins (e ∷ es) = Begins e.scope e.ordinal e.from × EachBegins es

pub record IsOrdered (v : View) : Type 0 where
  pub stands : Stands v.entries (length v.stack)
  pub each : EachBegins v.entries

-- the reductions are defined at a configuration
pub record IsFine (k : Contract) (v : View) : Type 0 where
  pub not_stuck : IsStuck (next k (state v) (sequence v)) → ⊥

-- No configuration that one charged reduction leads to is stuck.
pub record IsFineAfter (k : Contract) (v : View) : Type 0 where
  pub not_stuck : (s : State) (seq : Seq) → Reduces k (config v) 1 (Running s seq) → IsStuck (next k s seq) → ⊥

-- neither is stuck
pub record IsSafeAt (k : Contract) (v : View) : Type 0 where
  pub fine : IsFine k v
  pub after : IsFineAfter k v

-- the same where a function is called
pub record IsFineCall (k : Contract) (v : View) (f : ℕ) : Type 0 where
  pub not_stuck : IsStuck (next k (state v) (invoking v f)) → ⊥

-- one charged reduction, and free ones
pub record Charged (k : Contract) (v w : View) : Type 0 where
  pub middle : Config
  pub reduces : Reduces k (config v) 1 middle
  pub frees : Frees k middle (config w)
  pub ordered : IsOrdered w

pub record ChargedCall (k : Contract) (v : View) (f : ℕ) (w : View) : Type 0 where
  pub reduces : Reduces k (config v) 1 (calling w f)
  pub ordered : IsOrdered w

pub record ChargedTrap (k : Contract) (v : View) (t : TrapCode) (w : View) : Type 0 where
  pub reduces : Reduces k (config v) 1 (Trap (state w) t)

-- no label and no frame is at its end
abbrev pub IsReady : View → Type 0
IsReady v = v.code ≡ [] → v.entries ≡ []

-- free reductions
pub record Settles (k : Contract) (v w : View) : Type 0 where
  pub frees : Frees k (config v) (config w)
  pub ordered : IsOrdered w
