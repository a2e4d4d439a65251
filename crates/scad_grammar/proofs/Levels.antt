-- Chains of operators at many levels, read by one function of the levels.
use Rattle.std.proofs.Common.{◌≡◌, ℕ, List, [], ◌∷◌, ◌++◌, Bool, true, false, cond, refl, sym, nat_eq, append-nil}
use Rattle.scad_lexer.specs.declared.token.Token.{Token}
use Rattle.scad_ast.specs.Terms.{Term}
use Rattle.scad_grammar.specs.Classes.{has_class_in, is_class_among}
use Rattle.scad_grammar.specs.Reading.{next_is, sequence_read, repeated_read}
use Rattle.scad_grammar.specs.Languages.{Language, Concatenation, Repetition, SingleToken}
use Rattle.scad_grammar.specs.Grammar.{Chain, chain_term, link_term}
use Rattle.scad_grammar.specs.Faults.{TokenReader, token_read}
use Rattle.scad_grammar.specs.Reads.{chain_read}
use Rattle.scad_grammar.proofs.lemmas.Readers.{IsReader, both_reads, many_reads, many_follows, both_opens, one_opens}
use Rattle.scad_grammar.proofs.Tests.{OneReads, then, apart, next_apart}

-- what may go on a chain
abbrev pub goes_on : List (List ℕ) → List ℕ → List ℕ
goes_on [] more = more
goes_on (ops ∷ levels) more = ops ++ goes_on levels more

-- no operator of a level goes on what stands below it, and each level has one
abbrev pub good : List (List ℕ) → List ℕ → Bool
good [] more = true
good (ops ∷ levels) more = cond (apart ops (goes_on levels more)) (good levels more) false

good_here : (b c : Bool) → cond b c false ≡ true → (b ≡ true) × (c ≡ true)
good_here true c e = (refl, e)
good_here false c e = absurd (cc)

not_listed : (xs ys : List ℕ) (k : ℕ) → is_class_among (xs ++ ys) k ≡ false → (is_class_among xs k ≡ false) × (is_class_among ys k ≡ false)
not_listed [] ys k e = (refl, e)
not_listed (x ∷ xs) ys k e = go (nat_eq k x) (is_class_among (xs ++ ys) k) (is_class_among xs k) e (not_listed xs ys k)
  where
    go : (b c d : Bool) → cond b true c ≡ false → (c ≡ false → (d ≡ false) × (is_class_among ys k ≡ false)) → (cond b true d ≡ false) × (is_class_among ys k ≡ false)
    go true c d e h = absurd (cc)
    go false c d e h = h e

less_left : (xs ys : List ℕ) (l : List Token) → next_is (has_class_in (xs ++ ys)) l ≡ false → next_is (has_class_in xs) l ≡ false
less_left xs ys [] e = refl
less_left xs ys (t ∷ l) e = (not_listed xs ys _ e).0

less_right : (xs ys : List ℕ) (l : List Token) → next_is (has_class_in (xs ++ ys)) l ≡ false → next_is (has_class_in ys) l ≡ false
less_right xs ys [] e = refl
less_right xs ys (t ∷ l) e = (not_listed xs ys _ e).1

some_chain : (levels : List (List ℕ)) (V : Language Term) → (w : List Token) × (y : Term) × V y w → (w : List Token) × (y : Term) × Chain levels V y w
some_chain [] V some = some
some_chain (ops ∷ levels) V some = let below = some_chain levels V some in (below.0, below.1, (below.1, [], below.0, [], below.2, refl, refl, sym (append-nil below.0)))

-- one token of each level is read
abbrev pub AllOne : List (List ℕ) → Type 0
AllOne [] = Unit {0}
AllOne (ops ∷ levels) = OneReads (has_class_in ops) × AllOne levels

pub chain_reads : (levels : List (List ℕ)) (more : List ℕ) (u : TokenReader Term) (U V : Language Term) → good levels more ≡ true → AllOne levels → IsReader u U V (λ x. has_class_in more) → (w : List Token) × (y : Term) × V y w
    → IsReader (chain_read levels u) (Chain levels U) (Chain levels V) (λ x. has_class_in (goes_on levels more))
chain_reads [] more u U V g o iu some = iu
chain_reads (ops ∷ levels) more u U V g o iu some =
    let here = good_here (apart ops (goes_on levels more)) (good levels more) g in
    let below = chain_reads levels more u U V here.1 o.1 iu some in
    let item = then (chain_read levels u) (Chain levels U) (Chain levels V) (has_class_in ops) (λ x. has_class_in (goes_on levels more)) (λ x. has_class_in (goes_on levels more)) link_term o.0 below (some_chain levels V some) (λ t y rest e. e) in
    both_reads chain_term (chain_read levels u) (repeated_read (has_class_in ops) (sequence_read link_term (token_read (has_class_in ops)) (chain_read levels u))) (Chain levels U) (Chain levels V) (Repetition (Concatenation link_term (SingleToken (has_class_in ops)) (Chain levels U))) (Repetition (Concatenation link_term (SingleToken (has_class_in ops)) (Chain levels V)))
    (λ x. has_class_in (goes_on levels more)) (λ x. has_class_in (ops ++ goes_on levels more)) (λ x. has_class_in (ops ++ goes_on levels more))
    below
    (many_reads (has_class_in ops) (sequence_read link_term (token_read (has_class_in ops)) (chain_read levels u)) (Concatenation link_term (SingleToken (has_class_in ops)) (Chain levels U)) (Concatenation link_term (SingleToken (has_class_in ops)) (Chain levels V)) (λ x. has_class_in (goes_on levels more)) (has_class_in (ops ++ goes_on levels more))
    item (both_opens link_term (SingleToken (has_class_in ops)) (Chain levels U) (has_class_in ops) (one_opens (has_class_in ops)))
    (λ x. next_apart ops (goes_on levels more) here.0) (λ x. less_right ops (goes_on levels more)) (less_left ops (goes_on levels more)))
    ([], [], refl)
    (λ x. many_follows (Concatenation link_term (SingleToken (has_class_in ops)) (Chain levels U)) (has_class_in ops) (has_class_in (goes_on levels more)) (has_class_in (ops ++ goes_on levels more)) (both_opens link_term (SingleToken (has_class_in ops)) (Chain levels U) (has_class_in ops) (one_opens (has_class_in ops)))
    (next_apart ops (goes_on levels more) here.0) (less_right ops (goes_on levels more)))
    (λ x y rest e. e)
