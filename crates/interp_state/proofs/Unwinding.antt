-- The frames in the sequence that the parts of a machine stand for.
use Rattle.std.proofs.Common.{◌≡◌, ℕ, ◌+◌, ◌<◌, List, [], ◌∷◌, ◌++◌, length, take, drop, get_or, refl, sym, ap, ap₂, ◌∙◌, Option, Some, None}
use Rattle.std.proofs.lemmas.List.{take_more}
use Rattle.wtypes.specs.declared.Value.{Value}
use Rattle.spec_execution.specs.Configuration as c
use Rattle.spec_execution.specs.Configuration.{Seq, End, Val, Code, Free, Label, Invoke, arguments}
use Rattle.laws_reduction.specs.Meaning.{Item, Scope, Block, Loop, Frame, Open, put, outer, item, height, around, whole, listed, behind}
use Rattle.laws_reduction.specs.Tails.{joined}
use Rattle.interp_state.specs.declared.parts.Entry.{Entry}
use Rattle.interp_state.specs.declared.waiting.Waiting.{Waiting}
use Rattle.interp_state.specs.Frames.{first_of, next_in, frames_in}
use Rattle.interp_state.specs.Innermost.{first_ordinal}
use Rattle.interp_state.specs.Unwinding.{next_out, frame_at, frames_from}
use Rattle.interp_state.specs.Views.{opens_of, items_of, scope_of}
use Rattle.interp_state.specs.ViewLaws.{opens_push}
use Rattle.interp_state.specs.Waiting.{tail_of}

-- ---- code and values

pub next_listed : (is : List Item) → next_in (listed is End) ≡ first_ordinal is
next_listed [] = refl
next_listed (i ∷ is) = refl

pub frames_listed : (is : List Item) → frames_in (listed is End) ≡ []
frames_listed [] = refl
frames_listed (i ∷ is) = refl

next_put : (vs : List Value) (x : Seq) → next_in (put vs x) ≡ next_in x
next_put [] x = refl
next_put (v ∷ vs) x = next_put vs x

frames_put : (vs : List Value) (x : Seq) → frames_in (put vs x) ≡ frames_in x
frames_put [] x = refl
frames_put (v ∷ vs) x = frames_put vs x

first_alone : (n : Option ℕ) → first_of n None ≡ n
first_alone None = refl
first_alone (Some n) = refl

-- ---- what is open round a sequence

frames_around : (es : List Open) (below locals : List Value) (x : Seq) → frames_in (around es below locals x) ≡ frames_from es (next_in x) (frames_in x)
frames_around [] below locals x = refl
frames_around (e ∷ es) below locals x =
    let vs : List Value = drop (height es) below in
    let here : Seq = item e.scope e.ordinal e.arity e.from locals x in
    frames_around es (take (height es) below) (outer e.scope locals) (put vs here)
    ∙ ap₂ (λ n fs. frames_from es n fs) (next_put vs here) (frames_put vs here)
    ∙ inside e.scope e.ordinal e.arity e.from
  where
    inside : (k : Scope) (o n : ℕ) (is : List Item) → frames_from es (next_in (item k o n is locals x)) (frames_in (item k o n is locals x)) ≡ frames_from es (next_out k is (next_in x)) (frame_at k (next_in x) ++ frames_in x)
    inside Block o n is = ap (λ m. frames_from es (first_of (next_in x) m) (frames_in x)) (next_listed (behind Block is))
    inside Loop o n is = ap (λ m. frames_from es (first_of (next_in x) m) (frames_in x)) (next_listed (behind Loop is))
    inside (Frame f saved) o n is = ap₂ (λ m k. frames_from es m ((f, k) ∷ frames_in x)) (next_listed (behind (Frame f saved) is)) (first_alone (next_in x))

pub frames_whole : (es : List Open) (stack locals : List Value) (x : Seq) → frames_in (whole es stack locals x) ≡ frames_from es (next_in x) (frames_in x)
frames_whole es stack locals x =
    let vs : List Value = drop (height es) stack in
    frames_around es (take (height es) stack) locals (put vs x) ∙ ap₂ (λ n fs. frames_from es n fs) (next_put vs x) (frames_put vs x)

-- ---- what waits behind the sequence has no frame

pub frames_joined : (q tail : Seq) → frames_in tail ≡ [] → frames_in (joined q tail) ≡ frames_in q
frames_joined End tail none = none
frames_joined (Val v rest) tail none = frames_joined rest tail none
frames_joined (Code n i rest) tail none = refl
frames_joined (Free i rest) tail none = refl
frames_joined (Label n at k inside rest) tail none = refl
frames_joined (c.Frame f n locals inside rest) tail none = refl
frames_joined (Invoke f rest) tail none = refl

frames_arguments : (vs : List Value) (f : ℕ) → frames_in (arguments vs (Invoke f End)) ≡ []
frames_arguments [] f = refl
frames_arguments (v ∷ vs) f = frames_arguments vs f

pub frames_tail : {A : Type 0} (args : List Value) (w : Option (Waiting A)) → frames_in (tail_of args w) ≡ []
frames_tail args None = refl
frames_tail args (Some w) = frames_arguments args w.func

-- ---- one step out

pub outward : {A : Type 0} (es : List (Entry A)) (left : ℕ) (e : Entry A) (next : Option ℕ) (inner : List (ℕ × Option ℕ)) → left < length es → e ≡ get_or es left e
    → frames_from (opens_of (take (left + 1) es)) next inner ≡ frames_from (opens_of (take left es)) (next_out (scope_of e.kind) (items_of e.from.now) next) (frame_at (scope_of e.kind) next ++ inner)
outward es left e next inner lt is =
    ap (λ os. frames_from os next inner) (ap opens_of (take_more es left e lt ∙ ap (λ x. take left es ++ x ∷ []) (sym is)) ∙ opens_push (take left es) e)
