-- What is said on standard error of a refusal, and of what failed.
use Rattle.std.proofs.Common.{◌≡◌, ◌≢◌, ◌⊎◌, ℕ, List, [], ◌∷◌, ◌++◌, refl, inl, inr, sym, subst, ◌∙◌, string_bytes, Bool, IsTrue}
use Rattle.wblock_io.specs.Holding.{Holding, Failing, IsFailed}
use Rattle.wblock_line.specs.declared.answer.Answer.{Answer}
use Rattle.wblock_line.specs.declared.answer.Answer.TheVariants.{Done, Refused}
use Rattle.wblock_line.specs.declared.answer.Fault.{Fault}
use Rattle.wblock_line.specs.declared.answer.Fault.TheVariants.{File, NoMemory}
use Rattle.wblock_line.specs.declared.perform.Status.{Status}
use Rattle.wblock_line.specs.declared.perform.Status.TheVariants as status
use Rattle.wblock_line.specs.Answers.{status_of, status_of_fault, writes_of, why_line, Wrote, WroteSome, CountsFault, IsFailing, IsOfFile, IsSaid, SaysFile, SaysFault}
use Rattle.wblock_commands.specs.declared.command.Command.{Command}
use Rattle.wblock_commands.specs.Does.{Answers, SaysText, Reads, Fails, IsKept}

pub says_why : (a : Answer) (old new : List ℕ) (failed fails : ℕ) → status_of a ≡ status.Refused → IsSaid (why_line a) old new failed fails → SaysText old new failed fails
says_why (Done writes text) old new failed fails e said = absurd cc
says_why (Refused line why) old new failed fails e said = record { text = string_bytes why ++ 10 ∷ []; ends_line = (string_bytes why, refl); said = said }

-- a file that was to be read failed
pub stops : (c : Command) (fault : Fault) (files output tells : Bool) (old new : Holding) (failed fails : Failing) (before : List ℕ) (lost : ℕ) (said says : List ℕ) (m n : ℕ)
    → status_of_fault fault ≡ status.File → CountsFault fault failed fails → IsOfFile (λ name. IsTrue files → Reads c old name) fault → (IsTrue files → new ≡ old) → (IsTrue tells → SaysFault fault said says m n)
    → (name : List ℕ) × Fails c name files output old new failed fails before before lost lost × (IsTrue tells → SaysFile name said says m n)
stops c (File name cause) files output tells old new failed fails before lost said says m n e counted reads kept told = (
  name.now,
  inl (record { counted = counted; reads = reads; kept = λ f. record { files = kept f; text = refl }; calm = refl }),
  told,
)
stops c NoMemory files output tells old new failed fails before lost said says m n e counted reads kept told = absurd cc

-- what failed where an answer was carried out, failed over the files as they were before it was made
pub cuts : (c : Command) (name : List ℕ) (a : Answer) (files output : Bool) (old mid new : Holding) (failed now fails : Failing) (before after : List ℕ) (lost loses : ℕ)
    → (IsTrue files → Answers c old a) → (IsTrue files → mid ≡ old) → now ≡ failed → IsFailing name a files output mid new now fails before after lost loses
    → Fails c name files output old new failed fails before after lost loses
cuts c name a files output old mid new failed now fails before after lost loses answers kept calm (inl f) = inr (record {
  answer = a;
  answers = answers;
  failing = inl (record {
    counted = subst (λ (x : Failing). IsFailed name x fails) calm f.counted;
    wrote = λ t. subst (λ (h : Holding). WroteSome name (writes_of a) h new) (kept t) (f.wrote t);
    calm = f.calm;
    told = f.told;
  });
})
cuts c name a files output old mid new failed now fails before after lost loses answers kept calm (inr o) = inr (record {
  answer = a;
  answers = answers;
  failing = inr (record {
    output_is = o.output_is;
    counted = o.counted;
    wrote = λ t. subst (λ (h : Holding). Wrote (writes_of a) h new) (kept t) (o.wrote t);
    calm = o.calm ∙ calm;
    told = o.told;
  });
})

-- no answer that is carried out has the status of usage
pub never_usage : (s : Status) (a : Answer) → (s ≢ status.File → s ≢ status.Memory → s ≡ status_of a) → s ≡ status.Usage → ⊥
never_usage s a is e = no_usage a (sym (is (λ f. absurd cc) (λ m. absurd cc)) ∙ e)
  where
    no_usage : (a : Answer) → status_of a ≡ status.Usage → ⊥
    no_usage (Done writes text) e = absurd cc
    no_usage (Refused line why) e = absurd cc

-- where memory is refused to an answer that is carried out, nothing is written or printed
pub keeps : (s : Status) (a : Answer) (old mid new : Holding) (before after : List ℕ) → (s ≢ status.File → s ≢ status.Memory → s ≡ status_of a) → (s ≡ status.Memory → new ≡ mid) → mid ≡ old → (s ≡ status.Memory → after ≡ before)
    → (s ≡ status.Usage) ⊎ (s ≡ status.Memory) → IsKept old new before after
keeps s a old mid new before after is unwritten kept unprinted (inl usage) = absurd (never_usage s a is usage)
keeps s a old mid new before after is unwritten kept unprinted (inr memory) = record { files = unwritten memory ∙ kept; text = unprinted memory }
