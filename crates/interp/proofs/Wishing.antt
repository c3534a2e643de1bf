-- What an import is called for, once its number is kept.
use Rattle.std.proofs.Common.{◌≡◌, ℕ, ◌<◌, ◌-◌, length, drop, ap, ◌∙◌}
use Rattle.std.specs.Prelude.{slice_index_or}
use Rattle.wtypes.specs.declared.HostCall.{HostCall}
use Rattle.wtypes.specs.declared.HostCall.TheVariants.{Get}
use Rattle.spec_execution.specs.Reduction.{HostEffect, effect_of}
use Rattle.laws_reduction.specs.Finding.{read_at}
use Rattle.laws_reduction.specs.Hosting.{arity_of}
use Rattle.interp.specs.declared.turns.Turn.{Turn}
use Rattle.interp.specs.declared.turns.Turn.TheVariants as turn
use Rattle.interp.specs.declared.run.Run.{Run}
use Rattle.interp.specs.Progress.{Progress, IsSameCall}
use Rattle.interp.specs.Machine.{Seen, progress, HasAskedFor}
use Rattle.interp.specs.Run.{seen, IsToCall, IsWished}
use Rattle.interp.proofs.Asking.{wish_room, wish_asks}

-- the number of the import makes no difference to what is called
pub to_call : {A : Type 0} (r : Run A) (f : ℕ) → IsToCall r f → IsToCall (record r { asked = f }) f
to_call r f k = record {
  calling = record { opens = k.calling.opens; safe = k.calling.safe; reached = k.calling.reached; ordered = k.calling.ordered; within = k.calling.within };
  counted = k.counted;
  suits = k.suits;
  waits = k.waits;
  place = k.place;
  around = k.around;
  entered = k.entered;
  room = k.room;
}

pub is_wished : {A : Type 0} (r : Run A) (f : ℕ) → IsToCall r f → f < length r.lent.hosts.now → (w : HostEffect) → let h : HostCall = slice_index_or r.lent.hosts.now f Get in
    (n : ℕ) → n ≡ length r.parts.stack.items → w ≡ effect_of r.lent.number h (drop (n - arity_of h) r.parts.stack.items) → IsWished (record r { asked = f }) w
is_wished r f k lt w n len e =
    let h : HostCall = slice_index_or r.lent.hosts.now f Get in
    let same : w ≡ effect_of r.lent.number h (drop (length r.parts.stack.items - arity_of h) r.parts.stack.items) = e ∙ ap (λ m. effect_of r.lent.number h (drop (m - arity_of h) r.parts.stack.items)) len in
    record {
      room = wish_room (seen r) f k.calling h (read_at r.lent.hosts.now f Get lt) lt w same;
      asks = wish_asks (seen r) f k.calling h (read_at r.lent.hosts.now f Get lt) lt w same;
    }

pub same_asked : (s : Seen) (f : ℕ) (q : Progress) → IsSameCall (progress (record s { asked = f })) q → IsSameCall (progress s) q
same_asked s f q h = record { setting = h.setting; call = h.call; contract = h.contract; func = h.func }

-- nor to what comes of the call
pub asked_same : (s : Seen) (f : ℕ) (a : Turn) (t : Seen) → HasAskedFor (record s { asked = f }) f a t → HasAskedFor s f a t
asked_same s f turn.NoMemory t h = h
asked_same s f (turn.Host op) t h = record {
  same = record { setting = h.same.setting; call = h.same.call; first = h.same.first; func = h.same.func; trace = h.same.trace; used = h.same.used; contract = h.same.contract; answer = h.same.answer; outer = h.same.outer };
  config = h.config;
  asking = h.asking;
}
asked_same s f turn.Stepped t h = record { call = same_asked s f (progress t) h.call; trace = h.trace; used = h.used; depth = h.depth; free = h.free; pauses = h.pauses; goes_on = h.goes_on }
asked_same s f turn.Enter t h = record { call = same_asked s f (progress t) h.call; trace = h.trace; used = h.used; depth = h.depth; free = h.free; pauses = h.pauses; goes_on = h.goes_on }
asked_same s f (turn.Leave keep) t h = absurd h
asked_same s f (turn.Done o) t h = absurd h
