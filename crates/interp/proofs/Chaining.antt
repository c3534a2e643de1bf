-- The frames of all levels, as the machine keeps them.
use Rattle.std.proofs.Common.{◌≡◌, ℕ, ◌+◌, List, [], ◌∷◌, ◌++◌, length, map, refl, sym, ap, ap₂, ◌∙◌, subst, arith, Option, append-nil, append_assoc}
use Rattle.std.specs.Prelude.{reverse}
use Rattle.std.proofs.lemmas.List.{reverse-append, map-append}
use Rattle.wtypes.specs.declared.Value.{Value}
use Rattle.wtypes.specs.declared.TrapCode.{TrapCode}
use Rattle.spec_execution.specs.Configuration.{Invoke, End}
use Rattle.spec_execution.specs.Levels as spec
use Rattle.laws_reduction.specs.Meaning.{listed, sequence, invoking}
use Rattle.laws_reduction.specs.Tails.{with_tail}
use Rattle.interp_state.specs.Frames.{frames_of, in_level}
use Rattle.interp_state.specs.declared.frames.OpenFrame.{OpenFrame}
use Rattle.interp_state.specs.Unwinding.{frames_from, part_frames}
use Rattle.interp_state.specs.Waiting.{tail_of}
use Rattle.interp_state.proofs.Unwinding.{next_listed, frames_listed, frames_whole, frames_joined, frames_tail}
use Rattle.interp.specs.declared.turns.Status.{Status}
use Rattle.interp.specs.declared.turns.Status.TheVariants as status
use Rattle.interp.specs.declared.run.Level.{Level}
use Rattle.interp.specs.declared.run.Run.{Run}
use Rattle.interp.specs.Chains.{chain_from, chain, waiting_frames}
use Rattle.interp.specs.Machine.{config_at, progress}
use Rattle.interp.specs.Run.{args_of, level_of, seen, view_of}

-- ---- one level

-- one that waits
level_frames : {A : Type 0} (args : List Value) (l : Level A) → frames_of (level_of args l).config ≡ part_frames l.parts
level_frames args l =
    let v = view_of l in
    frames_joined (invoking v l.asked) (tail_of (args_of args l.argument) l.waiting) (frames_tail (args_of args l.argument) l.waiting)
    ∙ frames_whole v.entries v.stack v.locals (Invoke l.asked (listed v.code End))
    ∙ ap (λ n. frames_from v.entries n []) (next_listed v.code)

-- the innermost one
module _ {A : Type 0} (r : Run A) where
  pub running_frames : r.status ≡ status.Running → frames_of (progress (seen r)).config.inner.config ≡ part_frames r.parts
  running_frames e =
      let s = seen r in
      let args : List Value = args_of r.call.now.args r.argument in
      subst (λ (x : Status). frames_of (with_tail s.tail (config_at s.view s.asked x)) ≡ part_frames r.parts) (sym e)
      (frames_joined (sequence s.view) s.tail (frames_tail args r.waiting)
      ∙ frames_whole s.view.entries s.view.stack s.view.locals (listed s.view.code End)
      ∙ ap₂ (λ n fs. frames_from s.view.entries n fs) (next_listed s.view.code) (frames_listed s.view.code))

  pub fallen_frames : (t : TrapCode) → r.status ≡ status.Fallen t → [] ≡ frames_of (progress (seen r)).config.inner.config
  fallen_frames t e = let s = seen r in subst (λ (x : Status). [] ≡ frames_of (with_tail s.tail (config_at s.view s.asked x))) (sym e) refl

-- ---- all levels

outer_first : {X Y : Type 0} (f : X → Y) (xs : List X) → reverse (map f (reverse xs)) ≡ map f xs
outer_first f [] = refl
outer_first f (x ∷ xs) =
    ap (λ ys. reverse (map f ys)) (reverse-append (x ∷ []) xs)
    ∙ ap reverse (map-append f (reverse xs) (x ∷ []))
    ∙ reverse-append (map f (reverse xs)) (f x ∷ [])
    ∙ ap (λ ys. f x ∷ ys) (outer_first f xs)

chain_waiting : {A : Type 0} (args : List Value) (n : ℕ) (ls : List (Level A)) (inner : spec.Level) → chain_from n (map (level_of args) ls ++ inner ∷ []) ≡ waiting_frames n ls ++ in_level (n + length ls) inner.contract.number (frames_of inner.config)
chain_waiting args n [] inner =
    append-nil (in_level n inner.contract.number (frames_of inner.config))
    ∙ ap (λ (k : ℕ). in_level k inner.contract.number (frames_of inner.config)) (omega arith)
chain_waiting args n (l ∷ ls) inner =
    ap₂ (λ fs more. in_level n l.lent.number fs ++ more) (level_frames args l) (chain_waiting args (n + 1) ls inner)
    ∙ sym (append_assoc (in_level n l.lent.number (part_frames l.parts)) (waiting_frames (n + 1) ls) (in_level ((n + 1) + length ls) inner.contract.number (frames_of inner.config)))
    ∙ ap (λ (k : ℕ). (in_level n l.lent.number (part_frames l.parts) ++ waiting_frames (n + 1) ls) ++ in_level k inner.contract.number (frames_of inner.config)) (omega arith)

module _ {A : Type 0} (r : Run A) where
  pub chain_is : (inner : List (ℕ × Option ℕ)) → inner ≡ frames_of (progress (seen r)).config.inner.config → waiting_frames 0 r.outer.items ++ in_level (length r.outer.items) r.lent.number inner ≡ chain (progress (seen r)).config
  chain_is inner is =
      let args = r.call.now.args in
      let here = (progress (seen r)).config.inner in
      ap (λ fs. waiting_frames 0 r.outer.items ++ in_level (length r.outer.items) r.lent.number fs) is
      ∙ ap (λ (k : ℕ). waiting_frames 0 r.outer.items ++ in_level k r.lent.number (frames_of here.config)) (omega arith)
      ∙ sym (chain_waiting args 0 r.outer.items here)
      ∙ ap (λ (ls : List spec.Level). chain_from 0 (ls ++ here ∷ [])) (sym (outer_first (level_of args) r.outer.items))

-- one level more is told
pub waiting_more : {A : Type 0} (ls : List (Level A)) (n : ℕ) (l : Level A) (rest : List (Level A)) (before : List OpenFrame) → ls ≡ l ∷ rest → (before ++ in_level n l.lent.number (part_frames l.parts)) ++ waiting_frames (n + 1) rest ≡ before ++ waiting_frames n ls
waiting_more ls n l rest before is =
    append_assoc before (in_level n l.lent.number (part_frames l.parts)) (waiting_frames (n + 1) rest) ∙ ap (λ xs. before ++ waiting_frames n xs) (sym is)
