-- A text gives one thing, word by word.
use Rattle.std.proofs.Common.{◌≡◌, ℕ, zero, suc, ◌+◌, ◌-◌, ◌<◌, ◌≤◌, List, [], ◌∷◌, ◌++◌, length, take, drop, get_or, cond, Some, None, Result, Ok, Err, ◌⊎◌, inl, inr, refl, sym, ap, ◌∙◌, subst, arith, nat_eq, append_assoc, append-nil, IfOk, IfErr, length-take-le, length-drop}
use Rattle.std.proofs.lemmas.Bool.Decides.{nat_tests}
use Rattle.std.specs.Global.{Vec}
use Rattle.plain_text.specs.declared.place.Place.{Place}
use Rattle.text_place.specs.declared.fault.FaultKind.{FaultKind}
use Rattle.text_place.specs.declared.fault.FaultKind.TheVariants.{BadCharacter}
use Rattle.text_place.specs.declared.fault.Stop.{Stop}
use Rattle.text_place.specs.declared.fault.Stop.TheVariants.{Fault, NoMemory}
use Rattle.scad_lexer.specs.declared.token.Token.{Token}
use Rattle.scad_lexer.specs.declared.token.TokenKind.{TokenKind}
use Rattle.scad_lexer.specs.declared.token.TokenKind.TheVariants.{End}
use Rattle.scad_lexer.specs.declared.token.Symbol.{Symbol}
use Rattle.scad_lexer.specs.declared.word.Word.{Word}
use Rattle.scad_lexer.specs.declared.word.Word.TheVariants.{Symbol as SymbolWord}
use Rattle.scad_lexer.specs.declared.meaning.WordMeaning.{WordMeaning}
use Rattle.scad_lexer.specs.declared.meaning.WordMeaning.TheVariants.{NoToken, OneToken, BadWord}
use Rattle.scad_lexer.specs.Words.{word_of_bytes, IsLongest, HasNoWord}
use Rattle.scad_lexer.specs.Scanning.{word_from}
use Rattle.scad_lexer.specs.Tokens.{LexOutcome, GivesTokens, FaultAt, tokens_in_front, tokens_at, IsFaultless, IsEnd, IsStray, IsFaulty, SourceWord, ReadsWords, LexesFrom, Lexes, IsLexStopFrom, IsLexStop, Agrees, word_meaning, place_after, AppendsNext}
use Rattle.scad_lexer.proofs.Matched.{is_read}
use Rattle.scad_lexer.proofs.Longest.{no_empty_word, drop_more}
use Rattle.scad_lexer.proofs.Scanned.{rest_all}

-- the longest word is one
longest_once : (text : List ℕ) (n m : ℕ) (w v : Word) → IsLongest text n w → IsLongest text m v → (n ≡ m) × (w ≡ v)
longest_once text n m w v a b =
    let same : n ≡ m = omega (arith, b.most n w a.within a.found, a.most m v b.within b.found) in
    let both : Some w ≡ Some v = sym a.found ∙ ap (λ n. word_of_bytes (take n text)) same ∙ b.found in
    (same, cc)

no_bytes : (n : ℕ) → take {A = ℕ} n [] ≡ []
no_bytes zero = refl
no_bytes (suc n) = refl

empty_longest : (text : List ℕ) (n : ℕ) (w : Word) → text ≡ [] → IsLongest text n w → ⊥
empty_longest text n w e h =
    let none : word_of_bytes (take n text) ≡ None = ap (λ t. word_of_bytes (take n t)) e ∙ ap word_of_bytes (no_bytes n) ∙ is_read [] in
    let both : None ≡ Some w = sym none ∙ h.found in
    cc

last_once : (p : Place) (text : List ℕ) (o q : LexOutcome) → (IsEnd p text o ⊎ (IsStray p text o ⊎ IsFaulty p text o)) → (IsEnd p text q ⊎ (IsStray p text q ⊎ IsFaulty p text q)) → o ≡ q
last_once p text o q (inl a) (inl b) = a.1 ∙ sym b.1
last_once p text o q (inl a) (inr (inl b)) = absurd (b.0 a.0)
last_once p text o q (inl a) (inr (inr b)) = absurd (empty_longest text b.length b.word a.0 b.longest)
last_once p text o q (inr (inl a)) (inl b) = absurd (a.0 b.0)
last_once p text o q (inr (inl a)) (inr (inl b)) = a.2 ∙ sym b.2
last_once p text o q (inr (inl a)) (inr (inr b)) = absurd (a.1 b.length b.word b.longest.within b.longest.found)
last_once p text o q (inr (inr a)) (inl b) = absurd (empty_longest text a.length a.word b.0 a.longest)
last_once p text o q (inr (inr a)) (inr (inl b)) = absurd (b.1 a.length a.word a.longest.within a.longest.found)
last_once p text o q (inr (inr a)) (inr (inr b)) =
    let one = longest_once text a.length b.length a.word b.word a.longest b.longest in
    let means : BadWord a.kind a.before ≡ BadWord b.kind b.before = sym a.means ∙ ap (λ n. word_meaning a.word (take n text)) one.0 ∙ ap (λ w. word_meaning w (take b.length text)) one.1 ∙ b.means in
    let kind : a.kind ≡ b.kind = cc in
    let before : a.before ≡ b.before = cc in
    a.outcome ∙ ap (λ k. FaultAt k (place_after p (take a.before text))) kind ∙ ap (λ n. FaultAt b.kind (place_after p (take n text))) before ∙ sym b.outcome

fault_unsound : (m : WordMeaning) (k : FaultKind) (n : ℕ) → m ≡ BadWord k n → IsFaultless m → ⊥
fault_unsound (BadWord k n) j i e h = h
fault_unsound NoToken j i e h = absurd (cc)
fault_unsound (OneToken k) j i e h = absurd (cc)

-- a word with no fault is no last thing
not_last : (p : Place) (text : List ℕ) (o : LexOutcome) (n : ℕ) (w : Word) → (IsEnd p text o ⊎ (IsStray p text o ⊎ IsFaulty p text o)) → IsLongest text n w → IsFaultless (word_meaning w (take n text)) → ⊥
not_last p text o n w (inl a) h s = empty_longest text n w a.0 h
not_last p text o n w (inr (inl a)) h s = a.1 n w h.within h.found
not_last p text o n w (inr (inr a)) h s =
    let one = longest_once text a.length n a.word w a.longest h in
    fault_unsound (word_meaning w (take n text)) a.kind a.before (sym (ap (λ n. word_meaning a.word (take n text)) one.0 ∙ ap (λ w. word_meaning w (take n text)) one.1) ∙ a.means) s

pub reads_once : (xs ys : List SourceWord) (p : Place) (text : List ℕ) (o q : LexOutcome) → ReadsWords xs p text o → ReadsWords ys p text q → o ≡ q
reads_once [] [] p text o q a b = last_once p text o q a b
reads_once [] (y ∷ ys) p text o q a b = absurd (not_last p text o y.bytes y.word a b.0 b.1)
reads_once (x ∷ xs) [] p text o q a b = absurd (not_last p text q x.bytes x.word b a.0 a.1)
reads_once (x ∷ xs) (y ∷ ys) p text o q a b =
    let one = longest_once text x.bytes y.bytes x.word y.word a.0 b.0 in
    let next : ReadsWords ys (place_after p (take x.bytes text)) (drop x.bytes text) b.2.0 = subst (λ n. ReadsWords ys (place_after p (take n text)) (drop n text) b.2.0) (sym one.0) b.2.1 in
    let rest : a.2.0 ≡ b.2.0 = reads_once xs ys (place_after p (take x.bytes text)) (drop x.bytes text) a.2.0 b.2.0 a.2.1 next in
    a.2.2 ∙ ap (tokens_in_front (tokens_at p (word_meaning x.word (take x.bytes text)))) rest
    ∙ ap (λ n. tokens_in_front (tokens_at p (word_meaning x.word (take n text))) b.2.0) one.0 ∙ ap (λ w. tokens_in_front (tokens_at p (word_meaning w (take y.bytes text))) b.2.0) one.1 ∙ sym b.2.2

-- a whole text gives one thing
pub one_outcome : (text : List ℕ) (o q : LexOutcome) → Lexes text o → Lexes text q → o ≡ q
one_outcome text o q h g = reads_once h.0 g.0 (record { line = 1; column = 1 }) text o q h.1 g.1

-- the first thing that was found is the only one
pub agrees : (text : List ℕ) (r : Result (Vec Token) Stop) → IfOk r (λ ts. Lexes text (GivesTokens ts.items)) → IfErr r (λ stop. IsLexStop text stop) → (o : LexOutcome) → Lexes text o → Agrees r o
agrees text (Ok ts) f e o h = reads_once h.0 f.0 _ text o (GivesTokens ts.items) h.1 f.1
agrees text (Err (Fault x)) f e o h = reads_once h.0 e.0 _ text o (FaultAt x.kind x.place) h.1 e.1
agrees text (Err NoMemory) f e o h = tt

in_front_twice : (ts us : List Token) (o : LexOutcome) → tokens_in_front ts (tokens_in_front us o) ≡ tokens_in_front (ts ++ us) o
in_front_twice ts us (GivesTokens vs) = ap GivesTokens (sym (append_assoc ts us vs))
in_front_twice ts us (FaultAt k p) = refl

-- what holds of what was read so far
abbrev pub GoesOn : List ℕ → List Token → Place → List ℕ → Type 0
GoesOn text ts p rest = (o : LexOutcome) → LexesFrom p rest o → Lexes text (tokens_in_front ts o)

pub goes_first : (text : List ℕ) → GoesOn text [] (record { line = 1; column = 1 }) text
goes_first text (GivesTokens ts) h = h
goes_first text (FaultAt k p) h = h

-- one word more
pub goes_on : (text : List ℕ) (ts us : List Token) (p : Place) (rest : List ℕ) (n : ℕ) → GoesOn text ts p rest → AppendsNext ts us p rest n → GoesOn text us (place_after p (take n rest)) (take (length rest - n) (drop n rest))
goes_on text ts us p rest n told next o h =
    let made : List Token = tokens_at p (word_meaning next.word (take n rest)) in
    let here : ReadsWords h.0 (place_after p (take n rest)) (drop n rest) o = subst (λ l. ReadsWords h.0 (place_after p (take n rest)) l o) (rest_all rest n) h.1 in
    subst (λ l. Lexes text (tokens_in_front l o)) (sym next.appended)
    (subst (Lexes text) (in_front_twice ts made o)
    (told (tokens_in_front made o) (record { bytes = n; word = next.word } ∷ h.0, (next.longest, next.sound, (o, here, refl)))))

pub goes_end : (text : List ℕ) (ts : List Token) (p : Place) (rest : List ℕ) → GoesOn text ts p rest → length rest ≡ 0 → Lexes text (GivesTokens (ts ++ record { kind = End; place = p } ∷ []))
goes_end text ts p [] told e = told (GivesTokens (record { kind = End; place = p } ∷ [])) ([], inl (refl, refl))
goes_end text ts p (b ∷ rest) told e = absurd (omega arith)

pub goes_fault : (text : List ℕ) (ts : List Token) (p : Place) (rest : List ℕ) (stop : Stop) → GoesOn text ts p rest → IsLexStopFrom p rest stop → IsLexStop text stop
goes_fault text ts p rest (Fault x) told h = told (FaultAt x.kind x.place) h
goes_fault text ts p rest NoMemory told h = tt

-- one word
pub stray : (p : Place) (text : List ℕ) → 1 ≤ length text → HasNoWord text → LexesFrom p text (FaultAt BadCharacter p)
stray p [] some h = absurd (omega arith)
stray p (b ∷ t) some h = ([], inr (inl ((λ e. cc), h, refl)))

pub faulty : (p : Place) (text : List ℕ) (n : ℕ) (w : Word) (k : FaultKind) (m : ℕ) → IsLongest text n w → BadWord k m ≡ word_meaning w (take n text) → LexesFrom p text (FaultAt k (place_after p (take m text)))
faulty p text n w k m h e = ([], inr (inr (record { length = n; word = w; kind = k; before = m; longest = h; means = sym e; outcome = refl })))

pub word_some : (text : List ℕ) (n : ℕ) (w : Word) → IsLongest text n w → 1 ≤ n
word_some text zero w h = absurd (no_empty_word w (sym (is_read []) ∙ h.found))
word_some text (suc n) w h = omega arith

-- a word that makes no token, and one that makes one
pub adds_none : (text : List ℕ) (ts : List Token) (p : Place) (n : ℕ) (w : Word) → IsLongest text n w → NoToken ≡ word_meaning w (take n text) → AppendsNext ts ts p text n
adds_none text ts p n w h e = record { word = w; longest = h; sound = subst IsFaultless e tt; appended = sym (append-nil ts) ∙ ap (λ m. ts ++ tokens_at p m) e; some = word_some text n w h }

pub adds_one : (text : List ℕ) (ts us : List Token) (p : Place) (n : ℕ) (w : Word) (kind : TokenKind) → IsLongest text n w → OneToken kind ≡ word_meaning w (take n text) → us ≡ ts ++ record { kind = kind; place = p } ∷ [] → AppendsNext ts us p text n
adds_one text ts us p n w kind h e made = record { word = w; longest = h; sound = subst IsFaultless e tt; appended = made ∙ ap (λ m. ts ++ tokens_at p m) e; some = word_some text n w h }

pub taken_some : (text : List ℕ) (n : ℕ) (w : Word) → IsLongest text n w → 1 ≤ length (take n text)
taken_some text n w h = omega (arith, word_some text n w h, length-take-le n text h.within)

-- the place behind one byte more
abbrev pub behind : Place → ℕ → Place
behind p b = cond (nat_eq b 10) (record { line = suc p.line; column = 1 }) (record { line = p.line; column = suc p.column })

pub moved_more : (p : Place) (t : List ℕ) (n : ℕ) → n < length t → place_after p (drop n t) ≡ place_after (behind p (get_or t n 0)) (drop (n + 1) t)
moved_more p t n h = ap (place_after p) (drop_more t n h)

-- the place behind a symbol of one byte, which is no newline
pub moved_symbol : (p : Place) (t : List ℕ) (s : Symbol) → IsLongest t 1 (SymbolWord s) → place_after p (take 1 t) ≡ record { line = p.line; column = p.column + 1 }
unfolding word_from
moved_symbol p [] s h = absurd (omega (arith, h.within))
moved_symbol p (b ∷ t) s h = let found : word_from b [] ≡ Some (SymbolWord s) = sym (is_read (b ∷ [])) ∙ h.found in grind (arith, nat_tests)

-- how long the parts of a cut are
pub rest_length : (t : List ℕ) (n : ℕ) → n ≤ length t → length (take (length t - n) (drop n t)) + n ≡ length t
rest_length t n h = omega (arith, ap length (rest_all t n), length-drop n t)
