-- The names that bytes spell, as far as they are read.
use Rattle.std.proofs.Common.{◌≡◌, ℕ, suc, ◌-◌, ◌<◌, Bool, true, false, true≢false, List, [], ◌∷◌, ◌++◌, length, nat_lt, slice_get, Option, Some, None, refl, sym, ap, ap₂, ◌∙◌, subst, arith, append_assoc, append-nil}
use Rattle.std.proofs.lemmas.Bool.{ltb-true, lt-ltb}
use Rattle.std.proofs.lemmas.List.{map-append}
use Rattle.spec_modules.specs.Syntax.{Name}
use Rattle.spec_modules.specs.Language.{run}
use Rattle.spec_modules.specs.Leb.{u32}
use Rattle.spec_modules.specs.Grammar.{vector}
use Rattle.wblock_words.specs.declared.function_names.FunctionName.{FunctionName}
use Rattle.wblock_words.specs.Names.{Named, Rises, name_assoc, name_map, named_of, names_in}
use Rattle.wblock_words.specs.Parts.{HasNumber, HasName, is_above}
use Rattle.wblock_words.proofs.Fronts.{name_front, name_spelled, one_name, one_number}

-- ---- the order of the numbers

above_by : Option FunctionName → ℕ → Bool
above_by None number = true
above_by (Some last) number = nat_lt last.number number

above_last : (fs : List FunctionName) (number : ℕ) → is_above (names_in fs) number ≡ above_by (slice_get fs (length fs - 1)) number
unfolding above_by
above_last [] number = refl
above_last (a ∷ []) number = refl
above_last (a ∷ b ∷ more) number =
    let behind : suc (length (b ∷ more) - 1) ≡ length (a ∷ b ∷ more) - 1 = omega arith in
    above_last (b ∷ more) number ∙ ap (λ (k : ℕ). above_by (slice_get (a ∷ b ∷ more) k) number) behind

pub is_above_last : (fs : List FunctionName) (number : ℕ) (last : FunctionName) → slice_get fs (length fs - 1) ≡ Some last → is_above (names_in fs) number ≡ nat_lt last.number number
unfolding above_by
is_above_last fs number last is = above_last fs number ∙ ap (λ o. above_by o number) is

rises_more : (names : List Named) (x : Named) → Rises names → is_above names x.0 ≡ true → Rises (names ++ x ∷ [])
rises_more [] x r h = tt
rises_more (a ∷ []) x r h = (ltb-true a.0 x.0 h, tt)
rises_more (a ∷ b ∷ more) x r h = (r.0, rises_more (b ∷ more) x r.1 h)

rises_above : (names : List Named) (x : Named) (more : List Named) → Rises (names ++ x ∷ more) → is_above names x.0 ≡ true
rises_above [] x more r = refl
rises_above (a ∷ []) x more r = lt-ltb a.0 x.0 r.0
rises_above (a ∷ b ∷ names) x more r = rises_above (b ∷ names) x more r.1

-- ---- a number and a name at the front

pub record Reads (rest : List ℕ) (a : Named) (behind : List ℕ) : Type 0 where
  pub after : List ℕ
  pub number : HasNumber rest a.0 after
  pub name : HasName after a.1 behind

record AreRead (rest : List ℕ) (a : Named) (more : List Named) : Type 0 where
  behind : List ℕ
  first : Reads rest a behind
  others : run name_assoc more behind

reads_of : (rest : List ℕ) (a : Named) (more : List Named) → run name_assoc (a ∷ more) rest → AreRead rest a more
reads_of rest a more h =
    let n = h.3 in
    let after : List ℕ = n.1 ++ h.1 in
    let is : rest ≡ n.0 ++ after = h.2 ∙ ap (λ x. x ++ h.1) n.2 ∙ append_assoc n.0 n.1 h.1 in
    record {
      behind = h.1;
      first = record { after = after; number = record { front = n.0; spelled = n.3; bytes_are = is }; name = name_front a.1 n.1 h.1 after n.4 refl };
      others = h.4;
    }

spelled_of : (rest : List ℕ) (a : Named) (behind : List ℕ) (more : List Named) → Reads rest a behind → run name_assoc more behind → run name_assoc (a ∷ more) rest
spelled_of rest a behind more r others =
    let n = name_spelled a.1 r.after behind r.name in
    let f = r.number.front in
    (f ++ n.front, behind, r.number.bytes_are ∙ ap (λ x. f ++ x) n.bytes_are ∙ sym (append_assoc f n.front behind), (f, n.front, refl, r.number.spelled, n.is), others)

record IsOneRead (a : Named) (behind : List ℕ) (b : Named) (rest : List ℕ) : Type 0 where
  named : a ≡ b
  rest_is : behind ≡ rest

one_read : (rest : List ℕ) (a : Named) (behind : List ℕ) (b : Named) (other : List ℕ) → Reads rest a behind → Reads rest b other → IsOneRead a behind b other
one_read rest a behind b other r s =
    let number = one_number rest a.0 b.0 r.after s.after r.number s.number in
    let name = one_name s.after a.1 b.1 behind other (subst (λ x. HasName x a.1 behind) number.rest_is r.name) s.name in
    record { named = ap₂ (λ (n : ℕ) (t : Name). (n, t)) number.number name.front; rest_is = name.rest_is }

-- ---- as far as they are read

pub record Remains (bytes : List ℕ) (names : List Named) (left : ℕ) (rest : List ℕ) (all : List Named) : Type 0 where
  pub more : List Named
  pub all_are : all ≡ names ++ more
  pub count : length more ≡ left
  pub spelled : run name_assoc more rest

pub record IsSoFar (bytes : List ℕ) (names : List Named) (left : ℕ) (rest : List ℕ) : Type 0 where
  pub rises : Rises names
  pub into : (all : List Named) → name_map all bytes → Remains bytes names left rest all
  pub out : (more : List Named) → length more ≡ left → run name_assoc more rest → vector name_assoc (names ++ more) bytes

pub none_counted : (bytes : List ℕ) → ((n : ℕ) (rest : List ℕ) → HasNumber bytes n rest → ⊥) → (all : List Named) → name_map all bytes → ⊥
none_counted bytes none all m = none (length all) m.1.1 (record { front = m.1.0; spelled = m.1.3; bytes_are = m.1.2 })

pub counted : (bytes : List ℕ) (count : ℕ) (rest : List ℕ) → HasNumber bytes count rest → IsSoFar bytes [] count rest
counted bytes count rest h =
    record {
      rises = tt;
      into = λ all m.
          let one = one_number bytes (length all) count m.1.1 rest (record { front = m.1.0; spelled = m.1.3; bytes_are = m.1.2 }) h in
          record { more = all; all_are = refl; count = one.number; spelled = subst (run name_assoc all) one.rest_is m.1.4 };
      out = λ more len r. (h.front, rest, h.bytes_are, subst (λ (k : ℕ). u32 k h.front) (sym len) h.spelled, r);
    }

-- one more is ahead
record IsAhead (names : List Named) (left : ℕ) (rest : List ℕ) (all : List Named) : Type 0 where
  next : Named
  behind : List ℕ
  reads : Reads rest next behind
  more : List Named
  all_are : all ≡ names ++ next ∷ more
  count : length more ≡ left - 1
  spelled : run name_assoc more behind

some_left : (bytes : List ℕ) (names : List Named) (left : ℕ) (rest : List ℕ) (all more : List Named) → 0 < left → all ≡ names ++ more → length more ≡ left → run name_assoc more rest → IsAhead names left rest all
some_left bytes names left rest all [] pos is len r = absurd (omega (arith, pos, len))
some_left bytes names left rest all (a ∷ more) pos is len r =
    let first = reads_of rest a more r in
    record { next = a; behind = first.behind; reads = first.first; more = more; all_are = is; count = omega (arith, len); spelled = first.others }

module _ (bytes : List ℕ) (names : List Named) (left : ℕ) (rest : List ℕ) (s : IsSoFar bytes names left rest) (pos : 0 < left) where
  ahead : (all : List Named) → name_map all bytes → IsAhead names left rest all
  ahead all m = let r = s.into all m in some_left bytes names left rest all r.more pos r.all_are r.count r.spelled

  pub no_number : ((n : ℕ) (after : List ℕ) → HasNumber rest n after → ⊥) → (all : List Named) → name_map all bytes → ⊥
  no_number none all m = let a = ahead all m in none a.next.0 a.reads.after a.reads.number

  pub no_name : (number : ℕ) (after : List ℕ) → HasNumber rest number after → ((n : Name) (behind : List ℕ) → HasName after n behind → ⊥) → (all : List Named) → name_map all bytes → ⊥
  no_name number after h none all m =
      let a = ahead all m in
      let one = one_number rest a.next.0 number a.reads.after after a.reads.number h in
      none a.next.1 a.behind (subst (λ x. HasName x a.next.1 a.behind) one.rest_is a.reads.name)

  module _ (number : ℕ) (name : Name) (behind : List ℕ) (r : Reads rest (number, name) behind) where
    pub not_above : is_above names number ≡ false → (all : List Named) → name_map all bytes → ⊥
    not_above isnt all m =
        let a = ahead all m in
        let one = one_read rest a.next a.behind (number, name) behind a.reads r in
        let rises : Rises (names ++ (number, name) ∷ a.more) = subst Rises (a.all_are ∙ ap (λ x. names ++ x ∷ a.more) one.named) m.0 in
        true≢false (sym (rises_above names (number, name) a.more rises) ∙ isnt)

    pub one_more : is_above names number ≡ true → IsSoFar bytes (names ++ (number, name) ∷ []) (left - 1) behind
    one_more is =
        record {
          rises = rises_more names (number, name) s.rises is;
          into = λ all m.
              let a = ahead all m in
              let one = one_read rest a.next a.behind (number, name) behind a.reads r in
              record {
                more = a.more;
                all_are = a.all_are ∙ ap (λ x. names ++ x ∷ a.more) one.named ∙ sym (append_assoc names ((number, name) ∷ []) a.more);
                count = a.count;
                spelled = subst (run name_assoc a.more) one.rest_is a.spelled;
              };
          out = λ more len spelled.
              subst (λ x. vector name_assoc x bytes) (sym (append_assoc names ((number, name) ∷ []) more)) (s.out ((number, name) ∷ more) (omega (arith, len, pos)) (spelled_of rest (number, name) behind more r spelled));
        }

-- ---- at the end

no_bytes : (rest : List ℕ) → length rest ≡ 0 → rest ≡ []
no_bytes [] len = refl
no_bytes (b ∷ rest) len = absurd (omega (arith, len))

pub all_read : (bytes : List ℕ) (names : List Named) (left : ℕ) (rest : List ℕ) → IsSoFar bytes names left rest → left ≡ 0 → length rest ≡ 0 → name_map names bytes
all_read bytes names left rest s none len = (s.rises, subst (λ x. vector name_assoc x bytes) (append-nil names) (s.out [] (sym none) (no_bytes rest len)))

-- ---- names as they are kept

pub same_so_far : (bytes : List ℕ) (names : List Named) (left : ℕ) (rest : List ℕ) (others : List Named) (n : ℕ) → IsSoFar bytes names left rest → others ≡ names → n ≡ left → IsSoFar bytes others n rest
same_so_far bytes names left rest others n s is same = subst (λ (k : ℕ). IsSoFar bytes others k rest) (sym same) (subst (λ ns. IsSoFar bytes ns left rest) (sym is) s)

pub names_more : (fs new : List FunctionName) (f : FunctionName) → new ≡ fs ++ f ∷ [] → names_in new ≡ names_in fs ++ named_of f ∷ []
names_more fs new f is = ap names_in is ∙ map-append named_of fs (f ∷ [])
