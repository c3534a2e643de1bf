-- What stands at the front of bytes: it is there, and nothing else is.
use Rattle.std.proofs.Common.{◌≡◌, ℕ, ◌<◌, ◌≤◌, List, [], ◌∷◌, ◌++◌, length, take, drop, Option, Some, None, MatchOption, refl, sym, ap, ap₂, ◌∙◌, subst, arith, append_assoc, length-append}
use Rattle.std.specs.Str.{IsUtf8}
use Rattle.std.proofs.lemmas.List.{take-append-drop, length-take}
use Rattle.spec_modules.specs.Syntax.{Name}
use Rattle.spec_modules.specs.Language.{Language, byte, run}
use Rattle.spec_modules.specs.Leb.{u32}
use Rattle.spec_modules.specs.Grammar.{name, section}
use Rattle.spec_modules.specs.Reading.{unsigned_at}
use Rattle.spec_modules.specs.NumberLaws.{unsigned_again}
use Rattle.wblock_words.specs.Parts.{HasNumber, HasSized, HasName, HasSection}

-- ---- nothing is there

pub none_returned : {X : Type 0} (A : Type 0) (B : X → Type 0) (r : Option X) → r ≡ None → A → MatchOption r A B
none_returned A B None is a = a
none_returned A B (Some x) is a = absurd cc

pub at_some : {X : Type 0} (A : Type 0) (B : X → Type 0) (r : Option X) (x : X) → r ≡ Some x → MatchOption r A B → B x
at_some A B r x is h = subst (λ o. MatchOption o A B) is h

pub at_none : {X : Type 0} (A : Type 0) (B : X → Type 0) (r : Option X) → r ≡ None → MatchOption r A B → A
at_none A B r is h = subst (λ o. MatchOption o A B) is h

-- ---- a number

pub record IsOneNumber (n m : ℕ) (rest other : List ℕ) : Type 0 where
  pub number : n ≡ m
  pub rest_is : rest ≡ other

pub one_number : (bytes : List ℕ) (n m : ℕ) (rest other : List ℕ) → HasNumber bytes n rest → HasNumber bytes m other → IsOneNumber n m rest other
one_number bytes n m rest other h k =
    let first : unsigned_at 32 bytes ≡ Some (n, rest) = ap (unsigned_at 32) h.bytes_are ∙ unsigned_again 32 h.front n rest h.spelled in
    let second : unsigned_at 32 bytes ≡ Some (m, other) = ap (unsigned_at 32) k.bytes_are ∙ unsigned_again 32 k.front m other k.spelled in
    let both : Some (n, rest) ≡ Some (m, other) = sym first ∙ second in
    let same : (n, rest) ≡ (m, other) = cc in
    record { number = ap (λ (p : ℕ × List ℕ). p.0) same; rest_is = ap (λ (p : ℕ × List ℕ). p.1) same }

-- ---- so many bytes

pub record IsOneCut (a b rest other : List ℕ) : Type 0 where
  pub front : a ≡ b
  pub rest_is : rest ≡ other

pub cut : (a b rest other : List ℕ) → length a ≡ length b → a ++ rest ≡ b ++ other → IsOneCut a b rest other
cut [] [] rest other l e = record { front = refl; rest_is = e }
cut [] (y ∷ b) rest other l e = absurd (omega (arith, l))
cut (x ∷ a) [] rest other l e = absurd (omega (arith, l))
cut (x ∷ a) (y ∷ b) rest other l e =
    let head : x ≡ y = cc in
    let tail : a ++ rest ≡ b ++ other = cc in
    let more : IsOneCut a b rest other = cut a b rest other (omega (arith, l)) tail in
    record { front = ap₂ (λ z zs. z ∷ zs) head more.front; rest_is = more.rest_is }

-- the size that stands in front
number_of : (bytes content rest : List ℕ) → HasSized bytes content rest → HasNumber bytes (length content) (content ++ rest)
number_of bytes content rest h = record { front = h.front; spelled = h.spelled; bytes_are = h.bytes_are }

pub one_sized : (bytes a b rest other : List ℕ) → HasSized bytes a rest → HasSized bytes b other → IsOneCut a b rest other
one_sized bytes a b rest other h k =
    let one = one_number bytes (length a) (length b) (a ++ rest) (b ++ other) (number_of bytes a rest h) (number_of bytes b other k) in
    cut a b rest other one.number one.rest_is

pub sized_there : (bytes : List ℕ) (n : ℕ) (rest content behind : List ℕ) → HasNumber bytes n rest → n ≤ length rest → content ≡ take n rest → behind ≡ drop n rest → HasSized bytes content behind
sized_there bytes n rest content behind h le is after =
    let size : length content ≡ n = ap length is ∙ omega (arith, length-take n rest, le) in
    let whole : content ++ behind ≡ rest = ap₂ (λ a b. a ++ b) is after ∙ take-append-drop n rest in
    record { front = h.front; spelled = subst (λ (k : ℕ). u32 k h.front) (sym size) h.spelled; bytes_are = h.bytes_are ∙ ap (λ b. h.front ++ b) (sym whole) }

-- a size that is more than there is
pub too_short : (bytes : List ℕ) (n : ℕ) (rest : List ℕ) → HasNumber bytes n rest → length rest < n → (content behind : List ℕ) → HasSized bytes content behind → ⊥
too_short bytes n rest h less content behind k =
    let one = one_number bytes n (length content) rest (content ++ behind) h (number_of bytes content behind k) in
    omega (arith, less, one.number, ap length one.rest_is, length-append content behind)

-- without a number there is no size
pub no_size : (bytes : List ℕ) → ((n : ℕ) (rest : List ℕ) → HasNumber bytes n rest → ⊥) → (content behind : List ℕ) → HasSized bytes content behind → ⊥
no_size bytes none content behind h = none (length content) (content ++ behind) (number_of bytes content behind h)

-- ---- a name

pub one_name : (bytes : List ℕ) (a b : Name) (rest other : List ℕ) → HasName bytes a rest → HasName bytes b other → IsOneCut a b rest other
one_name bytes a b rest other h k = one_sized bytes a b rest other h.sized k.sized

pub name_there : (bytes content text rest : List ℕ) → HasSized bytes content rest → text ≡ content → IsUtf8 content → HasName bytes text rest
name_there bytes content text rest h is utf8 =
    record { is_text = subst IsUtf8 (sym is) utf8; sized = subst (λ t. HasSized bytes t rest) (sym is) h }

pub no_text : (bytes content rest : List ℕ) → HasSized bytes content rest → (IsUtf8 content → ⊥) → (n : Name) (behind : List ℕ) → HasName bytes n behind → ⊥
no_text bytes content rest h isnt n behind k = isnt (subst IsUtf8 (sym (one_sized bytes content n rest behind h k.sized).front) k.is_text)

-- ---- names in the words of the grammar

run_byte : (n bytes : List ℕ) → run byte n bytes → bytes ≡ n
run_byte [] bytes h = h
run_byte (b ∷ n) bytes h = h.2 ∙ ap₂ (λ x y. x ++ y) h.3 (run_byte n h.1 h.4)

byte_run : (n : List ℕ) → run byte n n
byte_run [] = refl
byte_run (b ∷ n) = (b ∷ [], n, refl, refl, byte_run n)

pub name_front : (n : Name) (a rest bytes : List ℕ) → name n a → bytes ≡ a ++ rest → HasName bytes n rest
name_front n a rest bytes h is =
    let v = h.1 in
    record {
      is_text = h.0;
      sized = record { front = v.0; spelled = v.3; bytes_are = is ∙ ap (λ x. x ++ rest) (v.2 ∙ ap (λ y. v.0 ++ y) (run_byte n v.1 v.4)) ∙ append_assoc v.0 n rest };
    }

-- a name that is spelled
pub record IsSpelled (bytes : List ℕ) (n : Name) (rest : List ℕ) : Type 0 where
  pub front : List ℕ
  pub is : name n front
  pub bytes_are : bytes ≡ front ++ rest

pub name_spelled : (n : Name) (bytes rest : List ℕ) → HasName bytes n rest → IsSpelled bytes n rest
name_spelled n bytes rest h =
    let f = h.sized.front in
    record { front = f ++ n; is = (h.is_text, (f, n, refl, h.sized.spelled, byte_run n)); bytes_are = h.sized.bytes_are ∙ sym (append_assoc f n rest) }

-- ---- a section

pub section_front : (id : ℕ) (P : Language) (a rest bytes : List ℕ) (s : section id P a) → bytes ≡ a ++ rest → HasSection bytes id s.4.1 rest
section_front id P a rest bytes s is =
    let z = s.4 in
    record {
      after = z.0 ++ (z.1 ++ rest);
      bytes_are = is ∙ ap (λ x. x ++ rest) (s.2 ∙ ap₂ (λ x y. x ++ y) s.3 z.2) ∙ ap (λ x. id ∷ x) (append_assoc z.0 z.1 rest);
      sized = record { front = z.0; spelled = z.3; bytes_are = refl };
    }

-- a section that is spelled
pub record IsSection (bytes : List ℕ) (id : ℕ) (P : Language) (rest : List ℕ) : Type 0 where
  pub front : List ℕ
  pub is : section id P front
  pub bytes_are : bytes ≡ front ++ rest

pub section_spelled : (id : ℕ) (P : Language) (bytes content rest : List ℕ) → HasSection bytes id content rest → P content → IsSection bytes id P rest
section_spelled id P bytes content rest h p =
    let f = h.sized.front in
    record {
      front = id ∷ (f ++ content);
      is = (id ∷ [], f ++ content, refl, refl, (f, content, refl, h.sized.spelled, p));
      bytes_are = h.bytes_are ∙ ap (λ x. id ∷ x) (h.sized.bytes_are ∙ sym (append_assoc f content rest));
    }

pub record IsOneSection (id : ℕ) (content rest : List ℕ) (number : ℕ) (other behind : List ℕ) : Type 0 where
  pub id_is : id ≡ number
  pub content_is : content ≡ other
  pub rest_is : rest ≡ behind

pub record AreOneFront (x y : ℕ) (xs ys : List ℕ) : Type 0 where
  pub head : x ≡ y
  pub tail : xs ≡ ys

pub one_front : (x y : ℕ) (xs ys : List ℕ) → x ∷ xs ≡ y ∷ ys → AreOneFront x y xs ys
one_front x y xs ys e = record { head = cc; tail = cc }

pub one_section : (bytes : List ℕ) (id : ℕ) (content rest : List ℕ) (number : ℕ) (other behind : List ℕ) → HasSection bytes id content rest → HasSection bytes number other behind → IsOneSection id content rest number other behind
one_section bytes id content rest number other behind h k =
    let front = one_front id number h.after k.after (sym h.bytes_are ∙ k.bytes_are) in
    let one = one_sized k.after content other rest behind (subst (λ x. HasSized x content rest) front.tail h.sized) k.sized in
    record { id_is = front.head; content_is = one.front; rest_is = one.rest_is }

pub section_shorter : (bytes : List ℕ) (id : ℕ) (content rest : List ℕ) → HasSection bytes id content rest → length rest < length bytes
section_shorter bytes id content rest h =
    let f = h.sized.front in
    omega (arith, ap length h.bytes_are, ap length h.sized.bytes_are, length-append f (content ++ rest), length-append content rest)

-- without a size there is no section
pub unsized : (bytes : List ℕ) (first : ℕ) (after : List ℕ) → bytes ≡ first ∷ after → ((content rest : List ℕ) → HasSized after content rest → ⊥) → (id : ℕ) (content rest : List ℕ) → HasSection bytes id content rest → ⊥
unsized bytes first after is none id content rest h =
    none content rest (subst (λ x. HasSized x content rest) (sym (one_front first id after h.after (sym is ∙ h.bytes_are)).tail) h.sized)
