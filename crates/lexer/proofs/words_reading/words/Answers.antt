use Rattle.std.proofs.Common.{◌≡◌, ◌<◌, ◌+◌, ◌∷◌, [], List, ℕ, suc, length, drop, get_or, sym, ap, ◌∙◌, subst, arith, drop-cons}
use Rattle.std.proofs.lemmas.List.{map_push, drop_all}
use Rattle.spec_text.specs.Words.{AreWords}
use Rattle.spec_text.specs.Words as W
use Rattle.spec_text.specs.declared.TokenKind.TheVariants as kind
use Rattle.lexer.specs.declared.list.Token.{Token}
use Rattle.lexer.specs.Views as listed
use Rattle.lexer.specs.WordsViews.{view, views}
use Rattle.lexer.proofs.Halfway.{Half, half_within, half_word, half_fault, half_all}
use Rattle.lexer.proofs.words_reading.words.Goals as goal

abbrev nothing : Token
nothing = record { kind = kind.Open; from = 0; upto = 0 }

-- the token at the front
front : (bytes : List ℕ) (tokens : List Token) (i : ℕ) (found : List W.Word) → i < length tokens → Half bytes tokens (drop i tokens) found → Half bytes tokens (get_or tokens i nothing ∷ drop (i + 1) tokens) found
front bytes tokens i found l h = subst (λ (xs : List Token). Half bytes tokens xs found) (drop-cons tokens i nothing l ∙ ap (λ n. get_or tokens i nothing ∷ drop n tokens) (let e : suc i ≡ i + 1 = omega arith in e)) h

pub word-requires-clause-within : goal.word-requires-clause-within
word-requires-clause-within g c =
    let l = c.loop-token in
    (half_within (front c.as_bytes-bytes.result.now c.args.tokens.now l.token-index (views l.found.items) c.loop-token-test.true l.invariant)).1

pub returns-in_default-clause-refused : goal.returns-in_default-clause-refused
returns-in_default-clause-refused g c =
    let l = c.loop-token in
    let bytes = c.as_bytes-bytes.result.now in
    let fault = half_fault bytes c.args.tokens.now (drop (l.token-index + 1) c.args.tokens.now) (get_or c.args.tokens.now l.token-index nothing) (views l.found.items) c.integers_are_tested.ensures
    (front bytes c.args.tokens.now l.token-index (views l.found.items) c.loop-token-test.true l.invariant) (sym c.in_default.ensures) in
    subst (λ (xs : List ℕ). (ws : List W.Word) → AreWords (listed.views xs c.args.tokens.now) ws → ⊥) c.as_bytes-bytes.ensures.value fault

pub loop-token-preserved : goal.loop-token-preserved
loop-token-preserved g c =
    let l = c.loop-token in
    let bytes = c.as_bytes-bytes.result.now in
    subst (λ (xs : List W.Word). Half bytes c.args.tokens.now (drop (l.token-index + 1) c.args.tokens.now) xs) (sym (ap views c.in_ok-push.ensures.items ∙ map_push view l.found.items c.in-Some.next))
    (half_word bytes c.args.tokens.now (drop (l.token-index + 1) c.args.tokens.now) (get_or c.args.tokens.now l.token-index nothing) (views l.found.items) (view c.in-Some.next) c.integers_are_tested.ensures
    (front bytes c.args.tokens.now l.token-index (views l.found.items) c.loop-token-test.true l.invariant) (sym c.in-Some.ensures))

pub returns-clause-words : goal.returns-clause-words
returns-clause-words g c =
    let l = c.loop-token in
    let bytes = c.as_bytes-bytes.result.now in
    let all : drop l.token-index c.args.tokens.now ≡ [] = drop_all l.token-index c.args.tokens.now (omega arith) in
    subst (λ (xs : List ℕ). AreWords (listed.views xs c.args.tokens.now) (views l.found.items)) c.as_bytes-bytes.ensures.value
    (half_all bytes c.args.tokens.now (views l.found.items) (subst (λ (xs : List Token). Half bytes c.args.tokens.now xs (views l.found.items)) all l.invariant))
