-- A text gives something: its tokens, or its first fault.
use Rattle.std.proofs.Common.{◌≡◌, ℕ, zero, suc, ◌<◌, ◌≤◌, List, [], ◌∷◌, length, take, drop, true, Option, Some, None, ◌⊎◌, inl, inr, refl, subst, arith, length-drop}
use Rattle.plain_text.specs.declared.place.Place.{Place}
use Rattle.text_place.specs.declared.fault.FaultKind.{FaultKind}
use Rattle.text_place.specs.declared.fault.FaultKind.TheVariants.{BadCharacter}
use Rattle.scad_lexer.specs.declared.token.Token.{Token}
use Rattle.scad_lexer.specs.declared.token.TokenKind.TheVariants.{End}
use Rattle.scad_lexer.specs.declared.word.Word.{Word}
use Rattle.scad_lexer.specs.declared.meaning.WordMeaning.{WordMeaning}
use Rattle.scad_lexer.specs.declared.meaning.WordMeaning.TheVariants.{NoToken, OneToken, BadWord}
use Rattle.scad_lexer.specs.Words.{word_of_bytes, IsLongest, HasNoWord}
use Rattle.scad_lexer.specs.Scanning.{longest_front}
use Rattle.scad_lexer.specs.Tokens.{LexOutcome, GivesTokens, FaultAt, tokens_in_front, tokens_at, IsFaultless, LexesFrom, Lexes, word_meaning, place_after, ends_once}
use Rattle.scad_lexer.proofs.EndsOnce.{reads_end}
use Rattle.scad_lexer.proofs.Lexing.{stray, faulty, word_some}
use Rattle.scad_lexer.proofs.Longest.{Best, best}

-- no word begins a text, or one that is the longest
first_word : (text : List ℕ) → HasNoWord text ⊎ ((n : ℕ) × (word : Word) × IsLongest text n word)
first_word text = go (longest_front word_of_bytes text) (best word_of_bytes text)
  where
    go : (r : Option (Word × ℕ)) → Best word_of_bytes text r → HasNoWord text ⊎ ((n : ℕ) × (word : Word) × IsLongest text n word)
    go None h = inl h
    go (Some p) h = inr (p.1, p.0, record { within = h.within; found = h.found; most = h.most })

-- a text gives something from a place on
abbrev GivesSome : Place → List ℕ → Type 0
GivesSome p text = (o : LexOutcome) × LexesFrom p text o

-- a word without a fault gives what it makes, and then what is behind it
sound_word : (p : Place) (text : List ℕ) (n : ℕ) (word : Word) → IsLongest text n word → IsFaultless (word_meaning word (take n text)) → GivesSome (place_after p (take n text)) (drop n text) → GivesSome p text
sound_word p text n word h sound rest = (tokens_in_front (tokens_at p (word_meaning word (take n text))) rest.0, (record { bytes = n; word = word } ∷ rest.1.0, (h, sound, (rest.0, rest.1.1, refl))))

-- a word gives its fault, or else what is behind it
any_word : (p : Place) (text : List ℕ) (n : ℕ) (word : Word) → IsLongest text n word → GivesSome (place_after p (take n text)) (drop n text) → (m : WordMeaning) → m ≡ word_meaning word (take n text) → GivesSome p text
any_word p text n word h rest (BadWord kind before) e = (FaultAt kind (place_after p (take before text)), faulty p text n word kind before h e)
any_word p text n word h rest NoToken e = sound_word p text n word h (subst IsFaultless e tt) rest
any_word p text n word h rest (OneToken kind) e = sound_word p text n word h (subst IsFaultless e tt) rest

-- a text that is not empty gives something where each shorter one does
begun : (p : Place) (text : List ℕ) → 1 ≤ length text → ((q : Place) (rest : List ℕ) → length rest < length text → GivesSome q rest) → GivesSome p text
begun p text some shorter = go (first_word text)
  where
    go : HasNoWord text ⊎ ((n : ℕ) × (word : Word) × IsLongest text n word) → GivesSome p text
    go (inl none) = (FaultAt BadCharacter p, stray p text some none)
    go (inr (n, word, h)) =
        let fewer : length (drop n text) < length text = omega (arith, h.within, word_some text n word h, length-drop n text) in
        any_word p text n word h (shorter (place_after p (take n text)) (drop n text) fewer) (word_meaning word (take n text)) refl

-- by induction on the length
gives_some : (n : ℕ) (p : Place) (text : List ℕ) → length text ≤ n → GivesSome p text
gives_some n p [] within = (GivesTokens (record { kind = End; place = p } ∷ []), ([], inl (refl, refl)))
gives_some zero p (b ∷ t) within = absurd (omega arith)
gives_some (suc n) p (b ∷ t) within = begun p (b ∷ t) (omega arith) (λ q rest fewer. gives_some n q rest (omega (arith, fewer, within)))

-- a whole text gives its tokens, which end with their only end, or its first fault
pub some_outcome : (text : List ℕ) → ((tokens : List Token) × Lexes text (GivesTokens tokens) × (ends_once tokens ≡ true)) ⊎ ((kind : FaultKind) × (at : Place) × Lexes text (FaultAt kind at))
some_outcome text = let given = gives_some (length text) (record { line = 1; column = 1 }) text (omega arith) in go given.0 given.1
  where
    go : (o : LexOutcome) → Lexes text o → ((tokens : List Token) × Lexes text (GivesTokens tokens) × (ends_once tokens ≡ true)) ⊎ ((kind : FaultKind) × (at : Place) × Lexes text (FaultAt kind at))
    go (GivesTokens tokens) h = inl (tokens, h, reads_end h.0 (record { line = 1; column = 1 }) text (GivesTokens tokens) h.1)
    go (FaultAt kind at) h = inr (kind, at, h)
