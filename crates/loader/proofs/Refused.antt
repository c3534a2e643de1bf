-- A refusal handed on by another.
use Rattle.std.proofs.Common.{◌≡◌, Option, None, false, sym}
use Rattle.expr_reader.specs.declared.unread.DecodeFault.{DecodeFault}
use Rattle.expr_reader.specs.declared.unread.DecodeFault.TheVariants.{Malformed, Unsupported, TooLarge, NoMemory}
use Rattle.expr_reader.specs.Outcome.{Fails, is_memory}

-- what a refusal other than memory says
says : {Y : Type 0} (e : DecodeFault) (q : Option Y) → is_memory e ≡ false → Fails e q → q ≡ None
says NoMemory q f h = absurd cc
says (Malformed at) q f h = h
says (Unsupported at) q f h = h
says (TooLarge limit) q f h = h

-- refusals of one kind
pub handed_on : {X Y : Type 0} (e f : DecodeFault) (r : Option X) (q : Option Y) → is_memory f ≡ is_memory e → (r ≡ None → q ≡ None) → Fails e r → Fails f q
handed_on e NoMemory r q same h k = tt
handed_on e (Malformed at) r q same h k = h (says e r (sym same) k)
handed_on e (Unsupported at) r q same h k = h (says e r (sym same) k)
handed_on e (TooLarge limit) r q same h k = h (says e r (sym same) k)
